-- Ascending lists of numbers: each is below those behind it.
use Rattle.std.proofs.Common.{◌≡◌, ⊎_elim, ◌<◌, ◌≤◌, ℕ, List, ◌∷◌, length, get_or, Contains, ap, arith}
use Rattle.std.specs.Prelude.{AllPairs}
use Rattle.std.proofs.lemmas.Bool.{cases_eq}
use Rattle.pooma_logic.proofs.Pairs.{pairs_rest, pairs_with_first}

-- what such a list begins with is below the rest, which ascends
pub ascending_first : (x : ℕ) (xs : List ℕ) (b : ℕ) → AllPairs (λ m n. m < n) (x ∷ xs) → Contains xs b → x < b
ascending_first x xs b up there = pairs_with_first (λ m n. m < n) x xs up b there

pub ascending_rest : (x : ℕ) (xs : List ℕ) → AllPairs (λ m n. m < n) (x ∷ xs) → AllPairs (λ m n. m < n) xs
ascending_rest x xs up = pairs_rest (λ m n. m < n) x xs up

-- it never falls from one place to a later one
pub ascending_rises : (xs : List ℕ) → AllPairs (λ m n. m < n) xs → (i j : ℕ) → i ≤ j → j < length xs → get_or xs i 0 ≤ get_or xs j 0
ascending_rises xs up i j le within =
    ⊎_elim (λ same. let e : get_or xs i 0 ≡ get_or xs j 0 = ap (λ k. get_or xs k 0) same in omega arith)
    (λ differ. let lt : get_or xs i 0 < get_or xs j 0 = up i j 0 (omega (arith, differ)) within in omega arith)
    (cases_eq i j)
