use Rattle.std.proofs.Common.{◌≡◌, ◌++◌, ◌∷◌, flat_map, map, take}
use Rattle.pooma_domain.specs.Axes.{interval_of}
use Rattle.pooma_domain.specs.Cells.{cells_of, coordinates}
use Rattle.pooma_model.specs.Texts.{row_text}
use Rattle.pooma_print.proofs.view.view_text.Given as goal

abbrev pub invariant-loop-k : goal.invariant-loop-k
invariant-loop-k g l = l.out.items ≡ l.initial.out.items
    ++ flat_map (λ rest. row_text (map (λ x. g.R.Reads.number l.reads 0 (x ∷ rest)) (coordinates (interval_of l.axis)))) (take l.k (cells_of l.rows))
