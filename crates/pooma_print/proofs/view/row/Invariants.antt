use Rattle.std.proofs.Common.{◌≡◌, ◌∷◌, map, take}
use Rattle.std.specs.Fmt.{signed_decimal}
use Rattle.std.specs.List.{join_with_byte}
use Rattle.pooma_domain.specs.Axes.{interval_of}
use Rattle.pooma_domain.specs.Cells.{coordinates}
use Rattle.pooma_print.proofs.view.row.Given as goal

abbrev pub invariant-loop-k : goal.invariant-loop-k
invariant-loop-k g l = l.text.items
    ≡ join_with_byte 32 (map signed_decimal (take l.k (map (λ x. g.R.Reads.number l.reads 0 (x ∷ l.rest)) (coordinates (interval_of l.axis)))))
