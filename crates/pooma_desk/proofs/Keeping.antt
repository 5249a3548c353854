-- What is said of all that live, as the sight at one place changes or one comes to them.
use Rattle.std.proofs.Common.{◌≡◌, ◌≢◌, ◌+◌, ◌<◌, ◌≤◌, ℕ, zero, suc, false, List, [], ◌∷◌, ◌++◌, length, set, refl, sym, ap, ◌∙◌, subst, ◌⊎◌, inl, inr, ⊎_elim, arith}
use Rattle.std.proofs.lemmas.Bool.{cases_eq}
use mathlib.Core.Option.{some, some-injective, some-ne-none}
use lib.ListN.{get_elem?}
use Rattle.atomic_table.proofs.Lists.{at_set, set_here, set_else, at_longer}
use Rattle.pooma_desk.specs.declared.sight.Noted.{Noted}
use Rattle.pooma_desk.specs.Sight.{Began}
use Rattle.pooma_desk.specs.Sight.{Sight}
use Rattle.pooma_desk.specs.Seen.{longer}
use Rattle.pooma_desk.specs.Rule.{IsLive, Fits, AreApart, IsWhole, shares_of}
use Rattle.pooma_desk.proofs.Parting.{Both}

pub at_within : {X : Type 0} (xs : List X) (i : ℕ) (x : X) → get_elem? xs i ≡ some x → i < length xs
at_within [] i x at = absurd (some-ne-none x (sym at))
at_within (y ∷ xs) zero x at = omega arith
at_within (y ∷ xs) (suc i) x at = let r = at_within xs i x at in omega (arith, r)

-- what stands at one place is one thing
pub one_there : {X : Type 0} (xs : List X) (i : ℕ) (x y : X) → get_elem? xs i ≡ some x → get_elem? xs i ≡ some y → x ≡ y
one_there xs i x y a b = some-injective x y (sym a ∙ b)

-- the last of a longer list, or one of the others
pub at_push : {X : Type 0} (xs : List X) (x y : X) (j : ℕ) → get_elem? (xs ++ x ∷ []) j ≡ some y → (get_elem? xs j ≡ some y) ⊎ ((j ≡ length xs) × (x ≡ y))
at_push [] x y zero at = inr (refl, some-injective x y at)
at_push [] x y (suc j) at = absurd (some-ne-none y (sym at))
at_push (z ∷ xs) x y zero at = inl at
at_push (z ∷ xs) x y (suc j) at = ⊎_elim (λ old. inl old) (λ (new : (j ≡ length xs) × (x ≡ y)). inr (ap suc new.0, new.1)) (at_push xs x y j at)

module _ {W V : Type 0} where
  abbrev pub At : List (Sight W V) → ℕ → Sight W V → Type 0
  At views k v = get_elem? views k ≡ some v

  -- shares
  pub shares_set : (views : List (Sight W V)) (id : ℕ) (v w : Sight W V) → At views id v → shares_of (set views id w) + v.shares ≡ shares_of views + w.shares
  shares_set [] id v w at = absurd (some-ne-none v (sym at))
  shares_set (x ∷ xs) zero v w at = let is : x.shares ≡ v.shares = ap (λ (z : Sight W V). z.shares) (some-injective x v at) in omega (arith, is)
  shares_set (x ∷ xs) (suc k) v w at = let r = shares_set xs k v w at in omega (arith, r)

  pub shares_push : (views : List (Sight W V)) (w : Sight W V) → shares_of (views ++ w ∷ []) ≡ shares_of views + w.shares
  shares_push [] w = omega arith
  shares_push (x ∷ xs) w = let r = shares_push xs w in omega (arith, r)

  pub shares_one : (views : List (Sight W V)) (k : ℕ) (v : Sight W V) → At views k v → v.shares ≤ shares_of views
  shares_one [] k v at = absurd (some-ne-none v (sym at))
  shares_one (x ∷ xs) zero v at = let is : x.shares ≡ v.shares = ap (λ (z : Sight W V). z.shares) (some-injective x v at) in omega (arith, is)
  shares_one (x ∷ xs) (suc k) v at = let r = shares_one xs k v at in omega (arith, r)

  pub shares_two : (views : List (Sight W V)) (k l : ℕ) (v u : Sight W V) → k ≢ l → At views k v → At views l u → v.shares + u.shares ≤ shares_of views
  shares_two [] k l v u ne at_k at_l = absurd (some-ne-none v (sym at_k))
  shares_two (x ∷ xs) zero zero v u ne at_k at_l = absurd (ne refl)
  shares_two (x ∷ xs) zero (suc l) v u ne at_k at_l = let is : x.shares ≡ v.shares = ap (λ (z : Sight W V). z.shares) (some-injective x v at_k) in let r = shares_one xs l u at_l in omega (arith, is, r)
  shares_two (x ∷ xs) (suc k) zero v u ne at_k at_l = let is : x.shares ≡ u.shares = ap (λ (z : Sight W V). z.shares) (some-injective x u at_l) in let r = shares_one xs k v at_k in omega (arith, is, r)
  shares_two (x ∷ xs) (suc k) (suc l) v u ne at_k at_l = let r = shares_two xs k l v u (λ e. ne (ap suc e)) at_k at_l in omega (arith, r)

  module _ (start : Began W V) where
    abbrev pub FitAll : List (Noted W) → List (Sight W V) → Type 0
    FitAll log views = (k : ℕ) (u : Sight W V) → At views k u → IsLive u → Fits start log u

    abbrev pub ApartAll : List (Sight W V) → Type 0
    ApartAll views = (k l : ℕ) (one other : Sight W V) → k ≢ l → At views k one → At views l other → IsLive one → IsLive other → AreApart start.seats one other

    abbrev pub Beside : List (Sight W V) → ℕ → Sight W V → Type 0
    Beside views id w = (j : ℕ) (u : Sight W V) → j ≢ id → At views j u → IsLive u → Both start.seats w u

    pub fit_set : (log : List (Noted W)) (views : List (Sight W V)) (id : ℕ) (w : Sight W V) → ((j : ℕ) (u : Sight W V) → j ≢ id → At views j u → IsLive u → Fits start log u) → Fits start log w → FitAll log (set views id w)
    fit_set log views id w others mine j u at live =
        elim (at_set views id j w u at) [
          | inl here ↦ subst (Fits start log) here.1 mine
          | inr there ↦ others j u there.0 there.1 live
        ]

    pub fit_push : (log : List (Noted W)) (views : List (Sight W V)) (w : Sight W V) → FitAll log views → Fits start log w → FitAll log (views ++ w ∷ [])
    fit_push log views w others mine j u at live =
        elim (at_push views w u j at) [
          | inl old ↦ others j u old live
          | inr new ↦ subst (Fits start log) new.1 mine
        ]

    pub apart_set : (views : List (Sight W V)) (id : ℕ) (w : Sight W V) → ApartAll views → Beside views id w → ApartAll (set views id w)
    apart_set views id w old beside k l one other ne at_k at_l live_k live_l =
        elim (at_set views id k w one at_k) [
          | inl here ↦
              elim (at_set views id l w other at_l) [
                | inl too ↦ absurd (ne (here.0 ∙ sym too.0))
                | inr there ↦ subst (λ z. AreApart start.seats z other) here.1 (beside l other there.0 there.1 live_l).0
              ]
          | inr there ↦
              elim (at_set views id l w other at_l) [
                | inl too ↦ subst (λ z. AreApart start.seats one z) too.1 (beside k one there.0 there.1 live_k).1
                | inr also ↦ old k l one other ne there.1 also.1 live_k live_l
              ]
        ]

    pub apart_push : (views : List (Sight W V)) (w : Sight W V) → ApartAll views → ((j : ℕ) (u : Sight W V) → At views j u → IsLive u → Both start.seats w u) → ApartAll (views ++ w ∷ [])
    apart_push views w old beside k l one other ne at_k at_l live_k live_l =
        elim (at_push views w one k at_k) [
          | inl there ↦
              elim (at_push views w other l at_l) [
                | inl also ↦ old k l one other ne there also live_k live_l
                | inr new ↦ subst (λ z. AreApart start.seats one z) new.1 (beside k one there live_k).1
              ]
          | inr new ↦
              elim (at_push views w other l at_l) [
                | inl there ↦ subst (λ z. AreApart start.seats z other) new.1 (beside l other there live_l).0
                | inr too ↦ absurd (ne (new.0 ∙ sym too.0))
              ]
        ]

  -- one has seen the whole history, as the sight at one place changes
  pub whole_set : (log : List (Noted W)) (views : List (Sight W V)) (id : ℕ) (v w : Sight W V) → At views id v → IsWhole log views
      → (IsLive v → longer v.seen v.told ≡ log → IsLive w × (longer w.seen w.told ≡ log)) → IsWhole log (set views id w)
  whole_set log views id v w at whole still =
      elim (cases_eq whole.place id) [
        | inl here ↦
            let is : whole.sight ≡ v = one_there views id whole.sight v (subst (λ k. At views k whole.sight) here whole.there) at in
            let r = still (subst (λ z. IsLive z) is whole.live) (subst (λ (z : Sight W V). longer z.seen z.told ≡ log) is whole.seen) in
            record { place = id; sight = w; there = set_here views id w (at_within views id v at); live = r.0; seen = r.1 }
        | inr ne ↦
            record { place = whole.place; sight = whole.sight; there = set_else views id whole.place w ne ∙ whole.there; live = whole.live; seen = whole.seen }
      ]

  -- the same where the new one has seen all
  pub whole_new : (log : List (Noted W)) (views : List (Sight W V)) (id : ℕ) (v w : Sight W V) → At views id v → IsLive w → longer w.seen w.told ≡ log → IsWhole log (set views id w)
  whole_new log views id v w at live all = record { place = id; sight = w; there = set_here views id w (at_within views id v at); live = live; seen = all }

  pub whole_push : (log : List (Noted W)) (views : List (Sight W V)) (w : Sight W V) → IsWhole log views → IsWhole log (views ++ w ∷ [])
  whole_push log views w whole = record { place = whole.place; sight = whole.sight; there = at_longer views (w ∷ []) whole.place whole.sight whole.there; live = whole.live; seen = whole.seen }

  -- who holds the turn, as the sight at another place changes
  abbrev pub NoneHolds : List (Sight W V) → Type 0
  NoneHolds views = (k : ℕ) (u : Sight W V) → At views k u → u.holds ≡ false

  abbrev pub NoOther : List (Sight W V) → ℕ → Type 0
  NoOther views place = (k : ℕ) (u : Sight W V) → k ≢ place → At views k u → u.holds ≡ false

  pub none_set : (views : List (Sight W V)) (id : ℕ) (w : Sight W V) → NoOther views id → w.holds ≡ false → NoneHolds (set views id w)
  none_set views id w none mine k u at =
      elim (at_set views id k w u at) [
        | inl here ↦ subst (λ (z : Sight W V). z.holds ≡ false) here.1 mine
        | inr there ↦ none k u there.0 there.1
      ]

  pub none_push : (views : List (Sight W V)) (w : Sight W V) → NoneHolds views → w.holds ≡ false → NoneHolds (views ++ w ∷ [])
  none_push views w none mine k u at =
      elim (at_push views w u k at) [
        | inl old ↦ none k u old
        | inr new ↦ subst (λ (z : Sight W V). z.holds ≡ false) new.1 mine
      ]

  pub other_set : (views : List (Sight W V)) (place id : ℕ) (w : Sight W V) → NoOther views place → w.holds ≡ false → NoOther (set views id w) place
  other_set views place id w none mine k u ne at =
      elim (at_set views id k w u at) [
        | inl here ↦ subst (λ (z : Sight W V). z.holds ≡ false) here.1 mine
        | inr there ↦ none k u ne there.1
      ]

  pub other_here : (views : List (Sight W V)) (id : ℕ) (w : Sight W V) → NoOther views id → NoOther (set views id w) id
  other_here views id w none k u ne at =
      elim (at_set views id k w u at) [
        | inl here ↦ absurd (ne here.0)
        | inr there ↦ none k u ne there.1
      ]

  pub other_push : (views : List (Sight W V)) (place : ℕ) (w : Sight W V) → NoOther views place → w.holds ≡ false → NoOther (views ++ w ∷ []) place
  other_push views place w none mine k u ne at =
      elim (at_push views w u k at) [
        | inl old ↦ none k u ne old
        | inr new ↦ subst (λ (z : Sight W V). z.holds ≡ false) new.1 mine
      ]
