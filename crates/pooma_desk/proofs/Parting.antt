-- Any two that are live stay apart as one of them changes.
use Rattle.std.proofs.Common.{◌≡◌, ◌<◌, ℕ, Bool, List, min, ap, ◌⊎◌, inl, inr, arith}
use Rattle.pooma_desk.specs.Sight.{Began}
use Rattle.pooma_desk.specs.Sight.{Sight}
use Rattle.pooma_desk.specs.declared.sight.Noted.{Noted}
use Rattle.pooma_desk.specs.Rule.{IsSeatOf, Fits, AreApart}
use Rattle.pooma_desk.specs.Steps.{given_away, newcomer, joining, joined}
use Rattle.pooma_desk.proofs.Fitting.{newcomer_seat, joined_seat}

-- two are apart, whichever is named first
abbrev pub Both : {W V : Type 0} → ℕ → Sight W V → Sight W V → Type 0
Both count v u = AreApart count v u × AreApart count u v

module _ {W V : Type 0} (start : Began W V) where
  abbrev count : ℕ
  count = start.seats

  -- where the first has numbers left, the other has none
  last_left : (v u : Sight W V) → AreApart count v u → v.next < count → u.next ≡ count
  last_left v u apart left = elim apart.left [ inl is ↦ absurd (omega (arith, is, left)) | inr is ↦ is ]

  pub apart_given : (v u : Sight W V) → v.next < count → Both count v u → Both count (given_away v) u
  apart_given v u left (there, back) = (
    record { seats = there.seats; given = there.given; left = inr (last_left v u there left) },
    record { seats = back.seats; given = λ s is. let below : s < v.next = back.given s is in omega (arith, below); left = inl (last_left v u there left) },
  )

  pub apart_newcomer : (log : List (Noted W)) (v u : Sight W V) → Fits start log v → Fits start log u → v.next < count → Both count v u → Both count (newcomer v) u
  apart_newcomer log v u h k left (there, back) =
      let none : v.start.seats ≡ count = ap (λ (s : Began W V). s.seats) h.same in
      let over : (s : ℕ) → IsSeatOf (newcomer v) s → IsSeatOf u s → ⊥ = λ s is taken. let e = newcomer_seat v s is in let below : s < v.next = back.given s taken in omega (arith, e, below) in (
        record { seats = over; given = λ s is. let e = newcomer_seat v s is in let all = last_left v u there left in omega (arith, e, all, left); left = inl none },
        record { seats = λ s taken is. over s is taken; given = λ s is. let below : s < v.next = back.given s is in omega (arith, below, none, left); left = inr none },
      )

  pub apart_halves : (log : List (Noted W)) (v : Sight W V) → Fits start log v → v.next < count → Both count (given_away v) (newcomer v)
  apart_halves log v h left =
      let none : v.start.seats ≡ count = ap (λ (s : Began W V). s.seats) h.same in
      let over : (s : ℕ) → IsSeatOf v s → IsSeatOf (newcomer v) s → ⊥ = λ s mine is. let e = newcomer_seat v s is in let below : s < v.next = h.given s mine in omega (arith, e, below) in (
        record { seats = over; given = λ s is. let below : s < v.next = h.given s is in omega (arith, below, none, left); left = inr none },
        record { seats = λ s is mine. over s mine is; given = λ s is. let e = newcomer_seat v s is in omega (arith, e); left = inl none },
      )

  pub apart_joining : (v w u : Sight W V) → Both count v u → Both count w u → Both count (joining v w) u
  apart_joining v w u (v_u, u_v) (w_u, u_w) = (
    record { seats = λ s is taken. clash s is taken; given = λ s is. given s is; left = left },
    record { seats = λ s taken is. clash s is taken; given = λ s is. let a : s < v.next = u_v.given s is in let b : s < w.next = u_w.given s is in omega (arith, a, b); left = back left },
  )
    where
      clash : (s : ℕ) → IsSeatOf (joining v w) s → IsSeatOf u s → ⊥
      clash s (inl is) taken = v_u.seats s (inl is) taken
      clash s (inr is) taken = w_u.seats s (inl is) taken

      given : (s : ℕ) → IsSeatOf (joining v w) s → s < u.next
      given s (inl is) = v_u.given s (inl is)
      given s (inr is) = w_u.given s (inl is)

      left : (min v.next w.next ≡ count) ⊎ (u.next ≡ count)
      left = elim v_u.left [
        | inl a ↦ elim w_u.left [ inl b ↦ inl (omega (arith, a, b)) | inr c ↦ inr c ]
        | inr c ↦ inr c
      ]

      back : (min v.next w.next ≡ count) ⊎ (u.next ≡ count) → (u.next ≡ count) ⊎ (min v.next w.next ≡ count)
      back (inl a) = inr a
      back (inr b) = inl b

  pub apart_joined : (v u : Sight W V) → Both count v u → Both count (joined v) u
  apart_joined v u (there, back) = (
    record { seats = λ s is. there.seats s (joined_seat v s is); given = λ s is. there.given s (joined_seat v s is); left = there.left },
    record { seats = λ s taken is. back.seats s taken (joined_seat v s is); given = back.given; left = back.left },
  )

  -- what changes no seat and no number left
  pub apart_again : (v u : Sight W V) (shares : ℕ) (seen told : List (Noted W)) (holds : Bool) → Both count v u
      → Both count (record { start = v.start; seats = v.seats; next = v.next; shares = shares; seen = seen; others = v.others; told = told; holds = holds }) u
  apart_again v u shares seen told holds (there, back) = (
    record { seats = there.seats; given = there.given; left = there.left },
    record { seats = back.seats; given = back.given; left = back.left },
  )

  pub turned : (v u : Sight W V) → Both count v u → Both count u v
  turned v u (there, back) = (back, there)
