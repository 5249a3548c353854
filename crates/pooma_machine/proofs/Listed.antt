-- What stands at a place of a list, the elements of a part of it, and tests of numbers.
use Rattle.std.proofs.Common.{◌≡◌, ◌≢◌, ◌↔◌, ◌+◌, ◌<◌, ℕ, zero, suc, Bool, true, false, find, List, [], ◌∷◌, ◌++◌, length, take, drop, set, get_or, Some, None, slice_get, Contains, refl, sym, ap, subst, arith, inl, inr, ◌⊎◌, ◌==◌}
use Rattle.std.proofs.lemmas.Bool.Decides.{eqb_tells}
use Rattle.std.proofs.Math.Seq.{take-append_seam}
use Rattle.pooma_logic.proofs.Elements.{contains_cases, contains_first, contains_none, contains_rest}

pub same_test : (j : ℕ) → (j == j) ≡ true
same_test j = elim (eqb_tells j j) [ inl t ↦ t.0 | inr f ↦ absurd (f.1 refl) ]

pub other_test : (i j : ℕ) → i ≢ j → (i == j) ≡ false
other_test i j ne = elim (eqb_tells i j) [ inl t ↦ absurd (ne t.1) | inr f ↦ f.0 ]

pub slice_get_before : {X : Type 0} (xs ys : List X) (k : ℕ) → k < length xs → slice_get (xs ++ ys) k ≡ slice_get xs k
slice_get_before [] ys k h = absurd (omega arith)
slice_get_before (x ∷ xs) ys zero h = refl
slice_get_before (x ∷ xs) ys (suc k) h = slice_get_before xs ys k (omega arith)

pub slice_get_last : {X : Type 0} (xs : List X) (x : X) → slice_get (xs ++ x ∷ []) (length xs) ≡ Some x
slice_get_last [] x = refl
slice_get_last (y ∷ xs) x = slice_get_last xs x

pub slice_get_behind : {X : Type 0} (xs : List X) (x : X) (k : ℕ) → length xs < k → slice_get (xs ++ x ∷ []) k ≡ None
slice_get_behind [] x zero h = absurd (omega arith)
slice_get_behind [] x (suc k) h = refl
slice_get_behind (y ∷ xs) x zero h = absurd (omega arith)
slice_get_behind (y ∷ xs) x (suc k) h = slice_get_behind xs x k (omega arith)

pub slice_get_written : {X : Type 0} (xs : List X) (k : ℕ) (x : X) → k < length xs → slice_get (set xs k x) k ≡ Some x
slice_get_written [] k x h = absurd (omega arith)
slice_get_written (y ∷ xs) zero x h = refl
slice_get_written (y ∷ xs) (suc k) x h = slice_get_written xs k x (omega arith)

pub slice_get_kept : {X : Type 0} (xs : List X) (k i : ℕ) (x : X) → i ≢ k → slice_get (set xs k x) i ≡ slice_get xs i
slice_get_kept [] k i x ne = refl
slice_get_kept (y ∷ xs) zero zero x ne = absurd (ne refl)
slice_get_kept (y ∷ xs) zero (suc i) x ne = refl
slice_get_kept (y ∷ xs) (suc k) zero x ne = refl
slice_get_kept (y ∷ xs) (suc k) (suc i) x ne = slice_get_kept xs k i x (λ e. ne (ap suc e))

-- a search in which nothing passes finds nothing
pub find_nothing : {X : Type 0} (p : X → Bool) (xs : List X) → ((i : ℕ) (d : X) → i < length xs → p (get_or xs i d) ≡ false) → find p xs ≡ None
find_nothing p [] none = refl
find_nothing p (x ∷ xs) none = rw (none 0 x (omega arith)) (find_nothing p xs (λ i d h. none (suc i) d (omega arith)))

-- an element of a part of a list is one of the list
pub taken_in : {X : Type 0} (n : ℕ) (xs : List X) (x : X) → Contains (take n xs) x → Contains xs x
taken_in n [] x h = absurd (none n h)
  where
    none : (n : ℕ) → Contains (take n []) x → ⊥
    none zero h = contains_none x h
    none (suc n) h = contains_none x h
taken_in zero (y ∷ ys) x h = absurd (contains_none x h)
taken_in (suc n) (y ∷ ys) x h = elim (contains_cases y (take n ys) x h) [ inl e ↦ subst (Contains (y ∷ ys)) (sym e) (contains_first y ys) | inr more ↦ contains_rest y ys x (taken_in n ys x more) ]

pub dropped_in : {X : Type 0} (n : ℕ) (xs : List X) (x : X) → Contains (drop n xs) x → Contains xs x
dropped_in zero xs x h = h
dropped_in (suc n) [] x h = absurd (contains_none x h)
dropped_in (suc n) (y ∷ ys) x h = contains_rest y ys x (dropped_in n ys x h)

-- a beginning that is longer by one has one element more
pub taken_more : {X : Type 0} (xs : List X) (i : ℕ) (d a : X) → i < length xs → Contains (take (i + 1) xs) a ↔ (Contains (take i xs) a ⊎ (a ≡ get_or xs i d))
taken_more [] i d a within = absurd (omega arith)
taken_more (x ∷ xs) zero d a within = (to, from)
  where
    to : Contains (x ∷ take 0 xs) a → Contains (take 0 (x ∷ xs)) a ⊎ (a ≡ x)
    to h = elim (contains_cases x (take 0 xs) a h) [ inl e ↦ inr e | inr more ↦ absurd (contains_none a more) ]

    from : Contains (take 0 (x ∷ xs)) a ⊎ (a ≡ x) → Contains (x ∷ take 0 xs) a
    from (inl none) = absurd (contains_none a none)
    from (inr e) = subst (Contains (x ∷ take 0 xs)) (sym e) (contains_first x (take 0 xs))
taken_more (x ∷ xs) (suc i) d a within =
    let l : suc i + 1 ≡ suc (i + 1) = omega arith in
    rw l (to (taken_more xs i d a (omega arith)), from (taken_more xs i d a (omega arith)))
  where
    to : Contains (take (i + 1) xs) a ↔ (Contains (take i xs) a ⊎ (a ≡ get_or xs i d)) → Contains (x ∷ take (i + 1) xs) a → Contains (x ∷ take i xs) a ⊎ (a ≡ get_or xs i d)
    to rest h =
        elim (contains_cases x (take (i + 1) xs) a h) [
          | inl e ↦ inl (subst (Contains (x ∷ take i xs)) (sym e) (contains_first x (take i xs)))
          | inr more ↦ elim (rest.0 more) [ inl before ↦ inl (contains_rest x (take i xs) a before) | inr e ↦ inr e ]
        ]

    from : Contains (take (i + 1) xs) a ↔ (Contains (take i xs) a ⊎ (a ≡ get_or xs i d)) → Contains (x ∷ take i xs) a ⊎ (a ≡ get_or xs i d) → Contains (x ∷ take (i + 1) xs) a
    from rest (inl h) =
        elim (contains_cases x (take i xs) a h) [
          | inl e ↦ subst (Contains (x ∷ take (i + 1) xs)) (sym e) (contains_first x (take (i + 1) xs))
          | inr more ↦ contains_rest x (take (i + 1) xs) a (rest.1 (inl more))
        ]
    from rest (inr e) = contains_rest x (take (i + 1) xs) a (rest.1 (inr e))

-- a part that was lent out whole, and written back
pub written_back : {X : Type 0} (old new : List X) (n : ℕ) → length new ≡ length old → n ≡ length old → take n (new ++ drop (length new) old) ≡ new
written_back old new n same len =
    let e : n ≡ length new = omega arith in
    rw e (take-append_seam new (drop (length new) old))
