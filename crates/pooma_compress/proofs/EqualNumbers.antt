-- Lists whose numbers are all the same.
use Rattle.std.proofs.Common.{sym, ◌∙◌}
use Rattle.std.proofs.lemmas.List.{same_lists, get_or-replicate, length-replicate}
use Rattle.std.specs.Prelude.{◌≡◌, ℤ, List, length, replicate, All}

pub all_are_copies : (xs : List ℤ) (v : ℤ) → All (λ x. x ≡ v) xs → xs ≡ replicate (length xs) v
all_are_copies xs v all =
    same_lists xs (replicate (length xs) v) (sym (length-replicate (length xs) v))
    (λ k d below. all k d below ∙ sym (get_or-replicate (length xs) k v d below))
