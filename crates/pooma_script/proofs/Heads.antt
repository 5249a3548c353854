-- A list by its first entry and the others, as the code takes it apart.
use Rattle.std.proofs.Common.{◌≡◌, ℕ, zero, suc, ◌+◌, ◌-◌, ◌<◌, ◌≤◌, Bool, false, true≢false, ℤ, pos, ◌<ℤ◌, List, [], ◌∷◌, ◌++◌, length, take, drop, Option, Some, None, sym, ap, subst, ◌∙◌, ◌⊎◌, inl, inr, arith}
use Rattle.std.proofs.lemmas.Int.{ints}
use Rattle.std.proofs.lemmas.List.{get_or_default, take_rest}
use Rattle.std.proofs.lemmas.List.Elements.{All-cons, All-head, All-tail}
use Rattle.std.specs.List.{cons_option, filter_map}
use Rattle.std.specs.Prelude.{◌↔◌, All, IfSome, IsTrue, flat_map, map, slice_index_or}

-- what is left behind the first entry
abbrev pub others : {A : Type 0} → List A → List A
others l = take (length l - 1) (drop 1 l)

pub split : {A : Type 0} (l : List A) (d : A) → 1 ≤ length l → l ≡ slice_index_or l 0 d ∷ others l
split [] d some = absurd (omega arith)
split (x ∷ l) d some = ap (λ r. x ∷ r) (sym (take_rest (x ∷ l) 1))

module _ {X : Type 0} (P : X → Type 0) where
  first_of_option : (o : Option X) (xs : List X) → All P (cons_option o xs) → IfSome o P
  first_of_option None xs h = tt
  first_of_option (Some x) xs h = All-head P x xs h

  rest_of_option : (o : Option X) (xs : List X) → All P (cons_option o xs) → All P xs
  rest_of_option None xs h = h
  rest_of_option (Some x) xs h = All-tail P x xs h

  with_option : (o : Option X) (xs : List X) → IfSome o P → All P xs → All P (cons_option o xs)
  with_option None xs h k = k
  with_option (Some x) xs h k = All-cons P x xs h k

module _ {A X : Type 0} (P : X → Type 0) where
  -- a test of the first and one of the others are one of all
  pub all_by_first : (f : A → X) (l : List A) (d : A) (a b r : Bool) → 1 ≤ length l → (IsTrue a ↔ P (f (slice_index_or l 0 d)))
      → (IsTrue b ↔ All P (map f (others l))) → (IsTrue r ↔ (IsTrue a × IsTrue b)) → IsTrue r ↔ All P (map f l)
  all_by_first f l d a b r some g h both =
      let is : map f l ≡ f (slice_index_or l 0 d) ∷ map f (others l) = ap (map f) (split l d some) in (
        λ t. subst (All P) (sym is) (All-cons P (f (slice_index_or l 0 d)) (map f (others l)) (g.0 (both.0 t).0) (h.0 (both.0 t).1)),
        λ all. let one : All P (f (slice_index_or l 0 d) ∷ map f (others l)) = subst (All P) is all in
            both.1 (g.1 (All-head P (f (slice_index_or l 0 d)) (map f (others l)) one), h.1 (All-tail P (f (slice_index_or l 0 d)) (map f (others l)) one)),
      )

  -- the same of a list of what some entries give
  pub all_of_some : (f : A → Option X) (l : List A) (d : A) (a b r : Bool) → 1 ≤ length l → (IsTrue a ↔ IfSome (f (slice_index_or l 0 d)) P)
      → (IsTrue b ↔ All P (filter_map f (others l))) → (IsTrue r ↔ (IsTrue a × IsTrue b)) → IsTrue r ↔ All P (filter_map f l)
  all_of_some f l d a b r some g h both =
      let one = f (slice_index_or l 0 d) in
      let is : filter_map f l ≡ cons_option one (filter_map f (others l)) = ap (filter_map f) (split l d some) in (
        λ t. subst (All P) (sym is) (with_option P one (filter_map f (others l)) (g.0 (both.0 t).0) (h.0 (both.0 t).1)),
        λ all. let k : All P (cons_option one (filter_map f (others l))) = subst (All P) is all in
            both.1 (g.1 (first_of_option P one (filter_map f (others l)) k), h.1 (rest_of_option P one (filter_map f (others l)) k)),
      )

-- the same of entries that are not copied
pub all_by_head : {X : Type 0} (P : X → Type 0) (l : List X) (x : X) (a b r : Bool) → 1 ≤ length l → x ≡ slice_index_or l 0 x → (IsTrue a ↔ P x)
    → (IsTrue b ↔ All P (others l)) → (IsTrue r ↔ (IsTrue a × IsTrue b)) → IsTrue r ↔ All P l
all_by_head P l x a b r some is g h both =
    let whole : l ≡ x ∷ others l = split l x some ∙ ap (λ y. y ∷ others l) (sym is) in (
      λ t. subst (All P) (sym whole) (All-cons P x (others l) (g.0 (both.0 t).0) (h.0 (both.0 t).1)),
      λ all. let one : All P (x ∷ others l) = subst (All P) whole all in both.1 (g.1 (All-head P x (others l) one), h.1 (All-tail P x (others l) one)),
    )

-- what a list gives is what its first entry and the others give
pub flat_by_head : {X Y : Type 0} (f : X → List Y) (l : List X) (x : X) → 1 ≤ length l → x ≡ slice_index_or l 0 x
    → flat_map f l ≡ f x ++ flat_map f (others l)
flat_by_head f l x some is = ap (flat_map f) (split l x some) ∙ ap (λ y. f y ++ flat_map f (others l)) (sym is)

-- what holds of each holds of the others, and of the first
pub all_others : {A X : Type 0} (P : X → Type 0) (f : A → X) (l : List A) (d : A) → 1 ≤ length l → All P (map f l) → All P (map f (others l))
all_others P f l d some all = All-tail P (f (slice_index_or l 0 d)) (map f (others l)) (subst (λ xs. All P (map f xs)) (split l d some) all)

pub all_first : {A X : Type 0} (P : X → Type 0) (f : A → X) (l : List A) (d : A) → 1 ≤ length l → All P (map f l) → P (f (slice_index_or l 0 d))
all_first P f l d some all = All-head P (f (slice_index_or l 0 d)) (map f (others l)) (subst (λ xs. All P (map f xs)) (split l d some) all)

pub fewer_others : {A : Type 0} (l : List A) (d : A) → 1 ≤ length l → length (others l) + 1 ≡ length l
fewer_others l d some = let is : length l ≡ length (slice_index_or l 0 d ∷ others l) = ap length (split l d some) in omega (arith, is)

-- numbers that ascend so far, with one more above the last
pub ascends_more : (xs : List ℤ) (k : ℕ) → 1 ≤ k → k < length xs
    → ((i j : ℕ) (d : ℤ) → i < j → j < k → slice_index_or xs i d <ℤ slice_index_or xs j d)
    → slice_index_or xs (k - 1) (pos 0) <ℤ slice_index_or xs k (pos 0)
    → (i j : ℕ) (d : ℤ) → i < j → j < k + 1 → slice_index_or xs i d <ℤ slice_index_or xs j d
ascends_more xs k some within sofar up i j d below less = by (before j k)
  where
    before : (m n : ℕ) → (m < n) ⊎ (n ≤ m)
    before m zero = inr (omega arith)
    before zero (suc n) = inl (omega arith)
    before (suc m) (suc n) = elim (before m n) [ inl h ↦ inl (omega arith) | inr h ↦ inr (omega arith) ]

    up_at : slice_index_or xs (k - 1) d <ℤ slice_index_or xs k d
    up_at =
        let low : slice_index_or xs (k - 1) (pos 0) ≡ slice_index_or xs (k - 1) d = get_or_default xs (k - 1) (pos 0) d (omega arith) in
        let high : slice_index_or xs k (pos 0) ≡ slice_index_or xs k d = get_or_default xs k (pos 0) d within in
        subst (λ x. slice_index_or xs (k - 1) d <ℤ x) high (subst (λ x. x <ℤ slice_index_or xs k (pos 0)) low up)

    last : j ≡ k → (i < k - 1) ⊎ (k - 1 ≤ i) → slice_index_or xs i d <ℤ slice_index_or xs j d
    last is (inl h) = rw is (omega (arith, ints, sofar i (k - 1) d h (omega arith), up_at))
    last is (inr h) =
        let here : i ≡ k - 1 = omega arith in rw (is, here) up_at

    by : (j < k) ⊎ (k ≤ j) → slice_index_or xs i d <ℤ slice_index_or xs j d
    by (inl h) = sofar i j d below h
    by (inr h) = last (omega arith) (before i (k - 1))

pub not_true : IsTrue false → ⊥
not_true f = true≢false (sym f)
