-- Whether a fact holds can be told, for numbers and lists, and where facts are joined.
use Rattle.std.proofs.Common.{◌≡◌, inl, inr, ⊎_elim, ℕ, zero, suc, ◌<◌, ◌≤◌, Bool, true, false, true≢false, ℤ, ◌≤ℤ◌, ◌<ℤ◌, List, [], ◌∷◌, length, Option, None, Some, refl, sym, subst, arith}
use Rattle.std.specs.Prelude.{All, IfSome, IsTrue, Contains, slice_index_or}
use Rattle.std.specs.List.{AllPairs, AllZip}
use Rattle.std.proofs.lemmas.Bool.{cases_eq, cases_lt}
use Rattle.std.proofs.lemmas.Int.{by_lt_z, ints}
use Rattle.std.proofs.lemmas.List.Elements.{All-cons, All-head, All-tail}
use Rattle.std.proofs.lemmas.List.Kept.{AllPairs-cons}
use Rattle.pooma_logic.specs.Decided.{Or_not}
use Rattle.pooma_logic.proofs.Pairs.{pairs_first, pairs_rest}

pub as_or_not : {P Q : Type 0} → (P → Q) → (Q → P) → Or_not P → Or_not Q
as_or_not forth back (inl p) = inl (forth p)
as_or_not forth back (inr fails) = inr (λ q. fails (back q))

pub both_or_not : {P Q : Type 0} → Or_not P → Or_not Q → Or_not (P × Q)
both_or_not (inl p) (inl q) = inl (p, q)
both_or_not (inl p) (inr fails) = inr (λ h. fails h.1)
both_or_not (inr fails) q = inr (λ h. fails h.0)

pub three_or_not : {P Q R : Type 0} → Or_not P → Or_not Q → Or_not R → Or_not (P × Q × R)
three_or_not p q r = as_or_not (λ h. (h.0, h.1.0, h.1.1)) (λ h. (h.0, (h.1, h.2))) (both_or_not p (both_or_not q r))

pub fails_or_not : {P : Type 0} → Or_not P → Or_not (P → ⊥)
fails_or_not (inl p) = inr (λ fails. fails p)
fails_or_not (inr fails) = inl fails

pub at_most_or_not : (m n : ℕ) → Or_not (m ≤ n)
at_most_or_not m n = ⊎_elim (λ above. inr (λ h. omega arith)) (λ within. inl within) (cases_lt n m)

pub below_or_not : (m n : ℕ) → Or_not (m < n)
below_or_not m n = ⊎_elim (λ below. inl below) (λ within. inr (λ h. omega arith)) (cases_lt m n)

pub at_most_ℤ_or_not : (a b : ℤ) → Or_not (a ≤ℤ b)
at_most_ℤ_or_not a b = by_lt_z b a (λ above. inr (λ h. omega (arith, ints))) (λ within. inl within)

pub below_ℤ_or_not : (a b : ℤ) → Or_not (a <ℤ b)
below_ℤ_or_not a b = by_lt_z a b (λ below. inl below) (λ within. inr (λ h. omega (arith, ints)))

pub same_ℕ_or_not : (m n : ℕ) → Or_not (m ≡ n)
same_ℕ_or_not m n = ⊎_elim (λ same. inl same) (λ differ. inr differ) (cases_eq m n)

pub same_ℤ_or_not : (a b : ℤ) → Or_not (a ≡ b)
same_ℤ_or_not a b =
    by_lt_z a b (λ below. inr (λ is. omega (arith, ints)))
    (λ at_least. by_lt_z b a (λ above. inr (λ is. omega (arith, ints))) (λ at_most. inl (omega (arith, ints))))

pub true_or_not : (b : Bool) → Or_not (IsTrue b)
true_or_not true = inl refl
true_or_not false = inr (λ is. true≢false (sym is))

pub some_or_not : {X : Type 0} (P : X → Type 0) → ((x : X) → Or_not (P x)) → (o : Option X) → Or_not (IfSome o P)
some_or_not P tell None = inl tt
some_or_not P tell (Some x) = tell x

pub same_list_or_not : {X : Type 0} → ((a b : X) → Or_not (a ≡ b)) → (xs ys : List X) → Or_not (xs ≡ ys)
same_list_or_not same [] [] = inl refl
same_list_or_not same [] (y ∷ ys) = inr (λ is. cc)
same_list_or_not same (x ∷ xs) [] = inr (λ is. cc)
same_list_or_not same (x ∷ xs) (y ∷ ys) =
    ⊎_elim
    (λ first. ⊎_elim (λ rest. inl (cc (first, rest))) (λ fails. inr (λ is. fails (cc))) (same_list_or_not same xs ys))
    (λ fails. inr (λ is. fails (cc)))
    (same x y)

pub all_or_not : {X : Type 0} (P : X → Type 0) → ((x : X) → Or_not (P x)) → (xs : List X) → Or_not (All P xs)
all_or_not P tell [] = inl (λ k d within. absurd (omega arith))
all_or_not P tell (x ∷ xs) =
    as_or_not (λ h. All-cons P x xs h.0 h.1) (λ all. (All-head P x xs all, All-tail P x xs all)) (both_or_not (tell x) (all_or_not P tell xs))

pub zip_or_not : {A B : Type 0} (R : A → B → Type 0) → ((a : A) (b : B) → Or_not (R a b)) → (xs : List A) (ys : List B) → Or_not (AllZip R xs ys)
zip_or_not R tell [] [] = inl tt
zip_or_not R tell [] (y ∷ ys) = inr (λ h. h)
zip_or_not R tell (x ∷ xs) [] = inr (λ h. h)
zip_or_not R tell (x ∷ xs) (y ∷ ys) = both_or_not (tell x y) (zip_or_not R tell xs ys)

module _ {X : Type 0} (R : X → X → Type 0) where
  pub pairs_or_not : ((a b : X) → Or_not (R a b)) → (xs : List X) → Or_not (AllPairs R xs)
  pairs_or_not tell [] = inl (λ i j d before within. absurd (omega arith))
  pairs_or_not tell (x ∷ xs) =
      as_or_not (λ h. AllPairs-cons R x xs h.0 h.1) (λ pairs. (pairs_first R x xs pairs, pairs_rest R x xs pairs))
      (both_or_not (all_or_not (R x) (tell x) xs) (pairs_or_not tell xs))

module _ {X : Type 0} (P : X → Type 0) where
  later_one : (x y : X) (xs : List X) (k : ℕ) → (P x → ⊥) → k < length (x ∷ xs) → slice_index_or (x ∷ xs) k y ≡ y → P y → Contains xs y
  later_one x y xs zero fails within is p = absurd (fails (subst P (sym is) p))
  later_one x y xs (suc k) fails within is p = (k, omega arith, is)

  pub some_one_or_not : ((x : X) → Or_not (P x)) → (xs : List X) → Or_not ((x : X) × Contains xs x × P x)
  some_one_or_not tell [] = inr (λ found. let within : found.1.0 < 0 = found.1.1 in omega arith)
  some_one_or_not tell (x ∷ xs) =
      ⊎_elim
      (λ p. inl (x, (0, omega arith, refl), p))
      (λ fails.
      as_or_not
      (λ found. (found.0, (suc found.1.0, (let within : found.1.0 < length xs = found.1.1 in omega arith), found.1.2), found.2))
      (λ found. (found.0, later_one x found.0 xs found.1.0 fails found.1.1 found.1.2 found.2, found.2))
      (some_one_or_not tell xs))
      (tell x)

pub contains_or_not : {X : Type 0} → ((a b : X) → Or_not (a ≡ b)) → (xs : List X) (x : X) → Or_not (Contains xs x)
contains_or_not same xs x =
    as_or_not (λ found. subst (Contains xs) found.2 found.1) (λ there. (x, there, refl)) (some_one_or_not (λ y. y ≡ x) (λ y. same y x) xs)
