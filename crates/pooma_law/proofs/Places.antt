-- What stands at a place of a list.
use Rattle.std.proofs.Common.{◌≡◌, ◌≢◌, ◌<◌, ℕ, zero, suc, inl, inr, List, [], ◌∷◌, ◌++◌, length, take, set, Some, None, option_map, slice_get, refl, sym, ◌∙◌, ap, arith}
use Rattle.std.proofs.lemmas.Bool.Decides.{eqb_tells}
use Rattle.pooma_machine.specs.Values.{with_at}

-- a front that is longer by one place has what stands there
pub take_further : {X : Type 0} (xs : List X) (k : ℕ) (x : X) → slice_get xs k ≡ Some x → take (suc k) xs ≡ take k xs ++ x ∷ []
take_further [] k x at = absurd (cc at)
take_further (y ∷ xs) zero x at = cc
take_further (y ∷ xs) (suc k) x at = ap (λ zs. y ∷ zs) (take_further xs k x at)

pub take_past : {X : Type 0} (xs : List X) (k : ℕ) → slice_get xs k ≡ None → take (suc k) xs ≡ take k xs
take_past [] zero at = refl
take_past [] (suc k) at = refl
take_past (y ∷ xs) zero at = absurd (cc at)
take_past (y ∷ xs) (suc k) at = ap (λ zs. y ∷ zs) (take_past xs k at)

pub get_left : {X : Type 0} (xs ys : List X) (k : ℕ) → k < length xs → slice_get (xs ++ ys) k ≡ slice_get xs k
get_left [] ys k h = absurd (omega arith)
get_left (x ∷ xs) ys zero h = refl
get_left (x ∷ xs) ys (suc k) h = get_left xs ys k (omega arith)

pub get_middle : {X : Type 0} (xs : List X) (x : X) (ys : List X) → slice_get (xs ++ x ∷ ys) (length xs) ≡ Some x
get_middle [] x ys = refl
get_middle (z ∷ xs) x ys = get_middle xs x ys

pub there : {X : Type 0} (xs : List X) (k : ℕ) → k < length xs → (x : X) × (slice_get xs k ≡ Some x)
there [] k h = absurd (omega arith)
there (x ∷ xs) zero h = (x, refl)
there (x ∷ xs) (suc k) h = there xs k (omega arith)

-- lists with the same at each place are the same
pub same_by_place : {X : Type 0} (xs ys : List X) → ((k : ℕ) → slice_get xs k ≡ slice_get ys k) → xs ≡ ys
same_by_place [] [] at = refl
same_by_place [] (y ∷ ys) at = absurd (cc (at 0))
same_by_place (x ∷ xs) [] at = absurd (cc (at 0))
same_by_place (x ∷ xs) (y ∷ ys) at =
    let first : Some x ≡ Some y = at 0 in
    let same : x ≡ y = cc in
    ap (λ z. z ∷ xs) same ∙ ap (λ zs. y ∷ zs) (same_by_place xs ys (λ k. at (suc k)))

-- a write changes what stands at its own place alone, if there is anything
pub get-set_own : {X : Type 0} (xs : List X) (k : ℕ) (x : X) → slice_get (set xs k x) k ≡ option_map (λ old. x) (slice_get xs k)
get-set_own [] k x = refl
get-set_own (y ∷ xs) zero x = refl
get-set_own (y ∷ xs) (suc k) x = get-set_own xs k x

pub get-set_other : {X : Type 0} (xs : List X) (k i : ℕ) (x : X) → k ≢ i → slice_get (set xs k x) i ≡ slice_get xs i
get-set_other [] k i x ne = refl
get-set_other (y ∷ xs) zero zero x ne = absurd (ne refl)
get-set_other (y ∷ xs) zero (suc i) x ne = refl
get-set_other (y ∷ xs) (suc k) zero x ne = refl
get-set_other (y ∷ xs) (suc k) (suc i) x ne = get-set_other xs k i x (λ e. ne (ap suc e))

-- the value of a function at its changed place, and elsewhere
pub with_at_own : {X : Type 0} (f : ℕ → X) (j : ℕ) (x : X) → with_at f j x j ≡ x
with_at_own f j x = elim (eqb_tells j j) [ inl t ↦ rw t.0 refl | inr n ↦ absurd (n.1 refl) ]

pub with_at_other : {X : Type 0} (f : ℕ → X) (j i : ℕ) (x : X) → j ≢ i → with_at f j x i ≡ f i
with_at_other f j i x ne = elim (eqb_tells i j) [ inl t ↦ absurd (ne (sym t.1)) | inr n ↦ rw n.0 refl ]
