-- Fronts of lists.
use Rattle.std.proofs.Common.{◌≡◌, ℕ, zero, suc, List, [], ◌∷◌, ◌++◌, take, Some, slice_get, ap, ◌+◌, add-one}

-- the front with one place more
take_further : {X : Type 0} (xs : List X) (k : ℕ) (x : X) → slice_get xs k ≡ Some x → take (suc k) xs ≡ take k xs ++ x ∷ []
take_further [] k x at = absurd (cc at)
take_further (y ∷ xs) zero x at = cc
take_further (y ∷ xs) (suc k) x at = ap (λ zs. y ∷ zs) (take_further xs k x at)

pub take_next : {X : Type 0} (xs : List X) (k : ℕ) (x : X) → slice_get xs k ≡ Some x → take (k + 1) xs ≡ take k xs ++ x ∷ []
take_next xs k x at = rw (add-one k) (take_further xs k x at)
