-- A pass that is split, and two that are joined.
use Rattle.std.proofs.Common.{◌≡◌, ◌+◌, ◌-◌, ◌<◌, ◌≤◌, ℕ, zero, suc, Bool, true, false, List, [], ◌∷◌, ◌++◌, length, drop, min, ltb, ltb-true, ltb-false, refl, sym, ap, ◌∙◌, subst, arith}
use Rattle.std.specs.Prelude.{Option}
use Rattle.std.specs.List.{range_with_len}
use Rattle.std.proofs.lemmas.Bool.{cond_both, false_from_ne_true}
use mathlib.Core.Option.{none}
use Rattle.atomic_table.specs.Table.{Me, step, Allows}
use Rattle.atomic_table.specs.Seated.{TableId}
use Rattle.pooma_logic.proofs.Tested.{none_kept}
use Rattle.pooma_machine.specs.Values.{Account, Meaning}
use Rattle.pooma_machine.specs.Steps.{issued}
use Rattle.pooma_law.specs.Histories.{IsHistoryOf}
use Rattle.pooma_desk.specs.declared.sight.Noted.{Noted}
use Rattle.pooma_desk.specs.Sight.{Began, Sight}
use Rattle.pooma_desk.specs.Seen.{is_one_of, calls_under, plan_after, history_after, longer, HasSeen}
use Rattle.pooma_desk.specs.Rule.{IsLive, Fits, IsKept, first_of}
use Rattle.pooma_desk.specs.Steps.{given_away, newcomer, joining, joined, HasJoined, Joins}
use Rattle.pooma_desk.specs.Tokens.{Token, GoesOn, keeping, own_calls, token_of}
use Rattle.pooma_desk.specs.Turns.{IsResting, IsSeenLegal, IsOutside}
use Rattle.pooma_desk.proofs.Fronts.{one_of_one, calls_stay}
use Rattle.pooma_desk.proofs.Fitting.{fits_given_away, fits_newcomer}
use Rattle.pooma_desk.proofs.Moves.{tells_joined}
use Rattle.pooma_desk.proofs.Turning.{whole_row}

length_range : (a n : ℕ) → length (range_with_len a n) ≡ n
length_range a zero = refl
length_range a (suc n) = ap suc (length_range (a + 1) n)

range_next : (a b : ℕ) → a < b → range_with_len (a + 1) (b - (a + 1)) ≡ drop 1 (range_with_len a (b - a))
range_next a b below =
    let e : suc (b - (a + 1)) ≡ b - a = omega arith in
    subst (λ n. range_with_len (a + 1) (b - (a + 1)) ≡ drop 1 (range_with_len a n)) e refl

-- the longer of two ranges that end together begins at the lesser number
longer_range : (a b s : ℕ) → a ≤ s → b ≤ s → range_with_len (min a b) (s - min a b) ≡ longer (range_with_len a (s - a)) (range_with_len b (s - b))
longer_range a b s low high = by (ltb (length (range_with_len a (s - a))) (length (range_with_len b (s - b)))) refl
  where
    one : length (range_with_len a (s - a)) ≡ s - a
    one = length_range a (s - a)

    two : length (range_with_len b (s - b)) ≡ s - b
    two = length_range b (s - b)

    by : (t : Bool) → ltb (length (range_with_len a (s - a))) (length (range_with_len b (s - b))) ≡ t → range_with_len (min a b) (s - min a b) ≡ longer (range_with_len a (s - a)) (range_with_len b (s - b))
    by true t =
        let less = ltb-true (length (range_with_len a (s - a))) (length (range_with_len b (s - b))) t in
        let is : min a b ≡ b = omega (arith, less, one, two) in
        rw t (ap (λ n. range_with_len n (s - n)) is)
    by false t =
        let less = ltb-false (length (range_with_len a (s - a))) (length (range_with_len b (s - b))) t in
        let is : min a b ≡ a = omega (arith, less, one, two) in
        rw t (ap (λ n. range_with_len n (s - n)) is)

row_append : (xs ys : List ℕ) (s : ℕ) → xs ≡ s ∷ drop 1 xs → xs ++ ys ≡ s ∷ drop 1 (xs ++ ys)
row_append xs ys s is = let e : xs ++ ys ≡ s ∷ (drop 1 xs ++ ys) = ap (λ zs. zs ++ ys) is in e ∙ ap (λ zs. s ∷ zs) (sym (ap (drop 1) e))

abbrev Place : Type 0 → Type 0 → Type 0
Place W V = Me (Option (Account W V)) (Sight W V)

module _ {W V : Type 0} where
  -- a pass with numbers left has some below the number of seats
  pub some_left : (desk : TableId) (v : Sight W V) (pass : Token W V) → token_of desk v ≡ pass → 0 < length pass.left → v.next < v.start.seats
  some_left desk v pass is some =
      let l : length (range_with_len v.next (v.start.seats - v.next)) ≡ length pass.left = ap (λ (t : Token W V). length t.left) is in
      omega (arith, l, length_range v.next (v.start.seats - v.next), some)

  pub token_given : (desk : TableId) (v : Sight W V) → v.next < v.start.seats → token_of desk (given_away v) ≡ keeping (token_of desk v)
  token_given desk v left = λ i. record {
    from = record { desk = desk; machine = v.start.machine; seats = v.start.seats };
    seat = first_of v.seats;
    joined = drop 1 v.seats;
    shares = v.shares - 1;
    left = range_next v.next v.start.seats left i;
    seen = v.seen;
  }

  pub newcomer_idle : (desk : TableId) (v : Sight W V) → Fits v.start v.seen v → own_calls (token_of desk (newcomer v)) ≡ []
  newcomer_idle desk v h = none_kept (λ (n : Noted W). is_one_of (v.next ∷ []) n.event.seat) v.seen (λ n there. false_from_ne_true (is_one_of (v.next ∷ []) n.event.seat) (λ is. let e = one_of_one v.next n.event.seat is in let below = h.named n there in omega (arith, e, below)))

  pub outside_given : {O S : Type 0} (meaning : Meaning W V O S) (me new : Place W V) (seat next : ℕ) → IsOutside meaning me seat next → me.0.next < me.0.start.seats → new ≡ (given_away me.0, me.1) → IsOutside meaning new seat (next + 1)
  outside_given meaning me new seat next h left is =
      let more = h.placed.fits.more in
      let still : IsLive (given_away me.0) = omega (arith, more, left) in
      subst (λ m. IsOutside meaning m seat (next + 1)) (sym is) (record {
        placed = record { live = still; fits = fits_given_away me.0.start me.0.seen me.0 h.placed.fits left; alone = h.placed.alone; quiet = h.placed.quiet; own = h.placed.own; left = ap (λ n. n + 1) h.placed.left };
        legal = record { legal = h.legal.legal; issued = h.legal.issued };
        outside = h.outside;
        none = h.none;
      })

  pub outside_newcomer : {O S : Type 0} (meaning : Meaning W V O S) (me new : Place W V) (seat next : ℕ) → IsOutside meaning me seat next → me.0.next < me.0.start.seats → (number count : ℕ) → me.0.next ≡ number → me.0.start.seats ≡ count → new ≡ (newcomer me.0, []) → IsOutside meaning new number count
  outside_newcomer meaning me new seat next h left number count at all is =
      subst (λ m. IsOutside meaning m number count) (sym is) (record {
        placed = record { live = omega arith; fits = fits_newcomer me.0.start me.0.seen me.0 h.placed.fits left; alone = refl; quiet = refl; own = ap (λ n. n ∷ []) at; left = all };
        legal = record { legal = h.legal.legal; issued = h.legal.issued };
        outside = refl;
        none = refl;
      })

  -- the load that ends a join may be made
  pub tells_from : (start : Began W V) (slots id : ℕ) (v w : Sight W V) (me : Place W V) (out : List (ℕ × Option (Account W V))) → IsResting v → me ≡ (joining v w, out) → Allows (IsKept start) slots id me 0 (λ n. n) (Joins (step slots 0 0 0 none) me)
  tells_from start slots id v w me out rests is =
      let a = rests.live in
      subst (λ m. Allows (IsKept start) slots id m 0 (λ n. n) (Joins (step slots 0 0 0 none) m)) (sym is) (tells_joined start slots id (joining v w) out (omega (arith, a)) rests.outside)

  -- a list of two that both have seen legal histories
  legal_longer : {O S : Type 0} (meaning : Meaning W V O S) (v w u : Sight W V) → IsSeenLegal meaning v → IsSeenLegal meaning w → v.start.machine ≡ w.start.machine → u ≡ joined (joining v w) → IsSeenLegal meaning u
  legal_longer meaning v w u one other same is =
      let P : List (Noted W) → Type 0 = λ l. IsHistoryOf meaning (plan_after v.start.machine l) (history_after v.start.machine l) × (issued (history_after v.start.machine l) ≡ length (plan_after v.start.machine l)) in
      let theirs : P w.seen = subst (λ s. IsHistoryOf meaning (plan_after s w.seen) (history_after s w.seen) × (issued (history_after s w.seen) ≡ length (plan_after s w.seen))) (sym same) (other.legal, other.issued) in
      let both : P (longer v.seen w.seen) = cond_both (ltb (length v.seen) (length w.seen)) w.seen v.seen P (λ _. theirs) (λ _. (one.legal, one.issued)) in
      subst (λ (z : Sight W V). IsSeenLegal meaning z) (sym is) (record { legal = both.0; issued = both.1 })

  pub outside_joined : {O S : Type 0} (meaning : Meaning W V O S) (one other new : Place W V) (between : Place W V) (seat next number count least : ℕ) → IsOutside meaning one seat next → IsOutside meaning other number count → one.0.start.machine ≡ other.0.start.machine
      → between ≡ (joining one.0 other.0, one.1) → Joins (step 1 0 0 0 none) between 0 new → least ≡ min next count → IsOutside meaning new seat least
  outside_joined meaning one other new between seat next number count least h k same is tells at =
      let has : HasJoined (joining one.0 other.0) new.0 = subst (λ m. HasJoined m.0 new.0) is tells.0 in
      let e = has.is in
      let row : new.0.seats ≡ seat ∷ drop 1 new.0.seats = subst (λ (z : Sight W V). z.seats ≡ seat ∷ drop 1 z.seats) (sym e) (row_append one.0.seats other.0.seats seat h.placed.own) in
      let live_one = h.placed.live in
      let a = h.placed.left in
      let b = k.placed.left in
      let next_is : new.0.next ≡ min one.0.next other.0.next = ap (λ (z : Sight W V). z.next) e in
      record {
        placed = record { live = subst (λ (z : Sight W V). IsLive z) (sym e) (omega (arith, live_one)); fits = has.fits; alone = ap (λ (z : Sight W V). z.others) e; quiet = ap (λ (z : Sight W V). z.told) e; own = row; left = omega (arith, next_is, a, b, at) };
        legal = legal_longer meaning one.0 other.0 new.0 h.legal k.legal same e;
        outside = ap (λ (z : Sight W V). z.holds) e ∙ h.outside;
        none = tells.1 ∙ (ap (λ (m : Place W V). m.1) is ∙ h.none);
      }

  pub left_joined : (desk room : TableId) (v w u : Sight W V) (one other : Token W V) → u ≡ joined (joining v w) → token_of desk v ≡ one → token_of room w ≡ other → v.start.seats ≡ w.start.seats → v.next ≤ v.start.seats → w.next ≤ w.start.seats
      → range_with_len u.next (u.start.seats - u.next) ≡ longer one.left other.left
  left_joined desk room v w u one other is first second same low high =
      ap (λ (z : Sight W V). range_with_len z.next (z.start.seats - z.next)) is
      ∙ (longer_range v.next w.next v.start.seats low (omega (arith, high, same))
      ∙ (ap (λ s. longer (range_with_len v.next (v.start.seats - v.next)) (range_with_len w.next (s - w.next))) same
      ∙ (ap (λ (t : Token W V). longer t.left (range_with_len w.next (w.start.seats - w.next))) first ∙ ap (λ (t : Token W V). longer one.left t.left) second)))

  pub goes_on : (desk : TableId) (v : Sight W V) (seat : ℕ) (pass : Token W V) (log : List (Noted W)) → token_of desk v ≡ pass → v.seats ≡ seat ∷ drop 1 v.seats → HasSeen v.seats v.seen log → GoesOn pass log
  goes_on desk v seat pass log is own h =
      let row = whole_row v.seats seat own in
      subst (λ (t : Token W V). GoesOn t log) is (record {
        more = h.rest;
        on = h.begins;
        own = ap (λ xs. calls_under xs log) row ∙ (calls_stay v.seats v.seen log h ∙ sym (ap (λ xs. calls_under xs v.seen) row));
      })
