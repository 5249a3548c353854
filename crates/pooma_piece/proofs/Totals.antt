-- What is kept of a list of numbers is one thing.
use Rattle.std.proofs.Common.{ap, ◌∙◌}
use Rattle.std.specs.Prelude.{◌≡◌, ℕ, ℤ, List}
use Rattle.pooma_num.specs.Sum.{Sum}
use Rattle.pooma_expr.specs.declared.reduction.Reduction.{Reduction}
use Rattle.pooma_expr.specs.Reductions.{Kept, StandsFor, join_all, join_of}
use Rattle.pooma_piece.specs.Effects.{kept_of}

same_parts : (a b : Reduction) (t u : Sum) (m n : ℕ) (i j : ℤ) → a ≡ b → t ≡ u → m ≡ n → i ≡ j → ◌≡◌ {A = Kept} (record { reduction = a; total = t; set = m; joined = i }) (record { reduction = b; total = u; set = n; joined = j })
same_parts a b t u m n i j p q r s = cc

pub kept_is : (kept : Kept) (xs : List ℤ) (reduction : Reduction) → kept.reduction ≡ reduction → StandsFor xs kept → kept ≡ kept_of reduction xs
kept_is kept xs reduction e s =
    same_parts kept.reduction reduction kept.total _ kept.set _ kept.joined _ e s.total s.set (s.joined ∙ ap (λ (r : Reduction). join_all (join_of r) xs) e)
