-- The released writers of an object are a front of its writers, and the last of them tells them from the others.
use Rattle.std.proofs.Common.{◌≡◌, ◌≢◌, ◌+◌, ◌<◌, ◌≤◌, ℕ, suc, Bool, true, false, List, [], ◌∷◌, length, Some, option_map, unwrap_or, get_or, filter, AllPairs, Contains, ltb, nat_eq, lt-ltb, le-ltb, refl, sym, ◌∙◌, ap, subst, arith, inl, inr, ◌⊎◌}
use Rattle.std.specs.List.{range_with_len, last_or}
use Rattle.std.proofs.lemmas.Bool.Decides.{eqb_tells, leb_tells}
use Rattle.std.proofs.lemmas.List.{get_or_past}
use Rattle.std.proofs.lemmas.List.FromFn.{length-range_with_len, get_or-range_with_len}
use Rattle.std.proofs.lemmas.List.Kept.{AllPairs-filter}
use Rattle.pooma_logic.proofs.Ascending.{ascending_first, ascending_rest}
use Rattle.pooma_logic.proofs.Elements.{contains_cases, contains_first, contains_rest}
use Rattle.pooma_logic.proofs.Tested.{contains_kept, kept_passes, none_kept}
use Rattle.pooma_queue.specs.declared.queue.Mode.TheVariants.{Write}
use Rattle.pooma_machine.specs.declared.step.Request.{Request}
use Rattle.pooma_machine.specs.declared.step.Event.{Event}
use Rattle.pooma_machine.specs.Steps.{requests_of, status_of, is_released}
use Rattle.pooma_law.specs.Writers.{asks_to_write, writers, released_writers, IsFront, up_to_last}
use Rattle.pooma_law.proofs.Lending.{asks_contains}
use Rattle.pooma_law.proofs.Statuses.{IsSteady, released_has_seat}
use Rattle.pooma_law.proofs.Agreement.{AreReleasedBelow, not_true}

abbrev IsAscending : List ℕ → Type 0
IsAscending xs = AllPairs (λ a b. a < b) xs

-- with each element the test passes those before it
abbrev PassesFront : (ℕ → Bool) → List ℕ → Type 0
PassesFront test xs = (a b : ℕ) → Contains xs a → Contains xs b → a < b → test b ≡ true → test a ≡ true

front_passes : (test : ℕ → Bool) (xs : List ℕ) → IsAscending xs → PassesFront test xs → IsFront (filter test xs) xs
front_passes test [] ascends front = refl
front_passes test (x ∷ xs) ascends front = by (front_passes test xs (ascending_rest x xs ascends) (λ a b at bt. front a b (contains_rest x xs a at) (contains_rest x xs b bt))) (test x) refl
  where
    by : IsFront (filter test xs) xs → (b : Bool) → test x ≡ b → IsFront (filter test (x ∷ xs)) (x ∷ xs)
    by again true t = rw t (ap (λ zs. x ∷ zs) again)
    by again false t =
        let none : filter test xs ≡ [] =
        none_kept test xs (λ y there. not_true (test y) (λ passes. absurd (cc (sym t ∙ front x y (contains_first x xs) (contains_rest x xs y there) (ascending_first x xs y ascends there) passes)))) in
        rw (t, none) refl

-- the last element of a list that ascends is the greatest
last_is : (x : ℕ) (xs : List ℕ) → IsAscending (x ∷ xs) → (z : ℕ) × (last_or (Some x) xs ≡ Some z) × Contains (x ∷ xs) z × ((y : ℕ) → Contains (x ∷ xs) y → y ≤ z)
last_is x [] ascends = (x, refl, contains_first x [], λ y there. elim (contains_cases x [] y there) [ inl e ↦ omega arith | inr more ↦ let none = more.1 in absurd (omega arith) ])
last_is x (y ∷ ys) ascends =
    let rest = last_is y ys (ascending_rest x (y ∷ ys) ascends) in
    let below : x < y = ascending_first x (y ∷ ys) y ascends (contains_first y ys) in
    let least : y ≤ rest.0 = rest.3 y (contains_first y ys) in (
      rest.0,
      rest.1,
      contains_rest x (y ∷ ys) rest.0 rest.2,
      λ w there. elim (contains_cases x (y ∷ ys) w there) [ inl e ↦ omega arith | inr more ↦ rest.3 w more ],
    )

-- what passes are the elements up to the last one that does
passes_below : (test : ℕ → Bool) (xs : List ℕ) → IsAscending xs → PassesFront test xs → (x : ℕ) → Contains xs x → test x ≡ ltb x (up_to_last (filter test xs))
passes_below test xs ascends front x there = by (filter test xs) refl
  where
    among : (ys : List ℕ) → filter test xs ≡ ys → test x ≡ true → Contains ys x
    among ys e passes = subst (λ zs. Contains zs x) e (contains_kept test xs x there passes)

    by : (ys : List ℕ) → filter test xs ≡ ys → test x ≡ ltb x (up_to_last ys)
    by [] e = not_true (test x) (λ passes. let none = (among [] e passes).1 in absurd (omega arith)) ∙ sym (le-ltb x 0 (omega arith))
    by (y ∷ ys) e =
        let last = last_is y ys (subst IsAscending e (AllPairs-filter (λ a b. a < b) test xs ascends)) in
        let of_last = kept_passes test xs last.0 (subst (λ zs. Contains zs last.0) (sym e) last.2) in
        let up : up_to_last (y ∷ ys) ≡ suc last.0 = ap (λ o. unwrap_or (option_map suc o) 0) last.1 in
        rw up (elim (leb_tells x last.0) [
          | inl t ↦ below of_last.0 of_last.1 (eqb_tells x last.0) t.1 ∙ sym (lt-ltb x (suc last.0) (omega (arith, t.1)))
          | inr f ↦
              not_true (test x) (λ passes. let most : x ≤ last.0 = last.3 x (among (y ∷ ys) e passes) in absurd (omega (arith, f.1)))
              ∙ sym (le-ltb x (suc last.0) (omega (arith, f.1)))
        ])
      where
        below : {z : ℕ} → Contains xs z → test z ≡ true → ((nat_eq x z ≡ true) × (x ≡ z)) ⊎ ((nat_eq x z ≡ false) × (x ≢ z)) → x ≤ z → test x ≡ true
        below at passes (inl same) le = ap test same.1 ∙ passes
        below {z} at passes (inr other) le = let ne : x ≢ z = other.1 in front x z there at (omega arith) passes

-- the numbers from 0 on ascend
range_ascends : (n : ℕ) → IsAscending (range_with_len 0 n)
range_ascends n i j d before within =
    let count : j < n = omega (arith, length-range_with_len 0 n) in
    let first : get_or (range_with_len 0 n) i d ≡ 0 + i = get_or-range_with_len 0 n i d (omega arith) in
    let second : get_or (range_with_len 0 n) j d ≡ 0 + j = get_or-range_with_len 0 n j d count in
    omega arith

range_has : (n i : ℕ) → i < n → Contains (range_with_len 0 n) i
range_has n i h = (i, omega (arith, length-range_with_len 0 n), get_or-range_with_len 0 n i i h ∙ (let e : 0 + i ≡ i = omega arith in e))

writers_ascend : (plan : List (List Request)) (o : ℕ) → IsAscending (writers plan o)
writers_ascend plan o = AllPairs-filter (λ a b. a < b) (λ j. asks_to_write (requests_of plan j) o) (range_with_len 0 (length plan)) (range_ascends (length plan))

-- an entry that asks to write the object is one of its writers
is_writer : (plan : List (List Request)) (o i : ℕ) → asks_to_write (requests_of plan i) o ≡ true → Contains (writers plan o) i
is_writer plan o i writes =
    elim (leb_tells (length plan) i) [
      | inl t ↦ absurd (cc (sym (ap (λ rs. asks_to_write rs o) (get_or_past plan i [] t.1)) ∙ writes))
      | inr f ↦ contains_kept (λ j. asks_to_write (requests_of plan j) o) (range_with_len 0 (length plan)) i (range_has (length plan) i f.1) writes
    ]

writers_in_turn : (plan : List (List Request)) (history : List Event) (o : ℕ) → IsSteady plan history → PassesFront (λ j. is_released (status_of history j)) (writers plan o)
writers_in_turn plan history o steady a b at bt before released =
    let test : ℕ → Bool = λ j. asks_to_write (requests_of plan j) o in
    let one = asks_contains (requests_of plan a) o (kept_passes test (range_with_len 0 (length plan)) a at).1 in
    let other = asks_contains (requests_of plan b) o (kept_passes test (range_with_len 0 (length plan)) b bt).1 in
    steady.passed b (released_has_seat (status_of history b) released) a before
    (o, record { one = Write; other = Write; asks_one = one; asks_other = other; conflicting = refl })

pub released_in_front : (plan : List (List Request)) (history : List Event) (o : ℕ) → IsSteady plan history → IsFront (released_writers plan history o) (writers plan o)
released_in_front plan history o steady = front_passes (λ j. is_released (status_of history j)) (writers plan o) (writers_ascend plan o) (writers_in_turn plan history o steady)

pub released_below_last : (plan : List (List Request)) (history : List Event) (o : ℕ) → IsSteady plan history → AreReleasedBelow plan history o (up_to_last (released_writers plan history o))
released_below_last plan history o steady i writes =
    passes_below (λ j. is_released (status_of history j)) (writers plan o) (writers_ascend plan o) (writers_in_turn plan history o steady) i (is_writer plan o i writes)
