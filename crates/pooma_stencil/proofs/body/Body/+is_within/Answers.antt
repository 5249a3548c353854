use Rattle.std.proofs.Common.{sym, ◌∙◌}
use Rattle.pooma_domain.specs.Cells.{IsIn}
use Rattle.pooma_domain.specs.Operations.{reaches}
use Rattle.pooma_stencil.proofs.Expanded.{bin_passed, bin_failed, where_passed, where_failed_first, where_failed_second}
use Rattle.pooma_stencil.proofs.body.Body.+is_within.Goals.{then-is_within-2, else-is_within-2}
use Rattle.pooma_stencil.proofs.body.Body.+is_within.Goals as goal

pub returns-then-is_within : goal.returns-then-is_within
returns-then-is_within t c =
    bin_passed (IsIn (reaches c.args.lower.now c.args.upper.now)) _ _ _ _ _ _ _ _ c.in-Bin.is c.get.ensures c.get-then-is_within.ensures c.is_within.ensures c.if-is_within.true c.is_within-then-is_within.ensures

pub returns-else-is_within : goal.returns-else-is_within
returns-else-is_within t c =
    bin_failed (IsIn (reaches c.args.lower.now c.args.upper.now)) _ _ _ _ _ _ c.in-Bin.is c.get.ensures c.is_within.ensures c.if-is_within.false

pub returns-then-is_within-3 : goal.returns-then-is_within-3
returns-then-is_within-3 t c = elim c.if-is_within-2.branch [
  | then-is_within-2 w ↦ where_passed (IsIn (reaches c.args.lower.now c.args.upper.now)) _ _ _ _ _ _ _ _ _ _ c.in-Where.is c.get-in-Where.ensures w.get-then-is_within-2.ensures c.get-then-is_within-3.ensures c.is_within-in-Where.ensures w.if-is_within-2.true w.is_within-then-is_within-2.ensures (sym w.value-is ∙ c.if-is_within-3.true) c.is_within-then-is_within-3.ensures
  | else-is_within-2 w ↦ cc (w.if-is_within-2.false, w.value-is, c.if-is_within-3.true)
]

pub returns-else-is_within-3 : goal.returns-else-is_within-3
returns-else-is_within-3 t c = elim c.if-is_within-2.branch [
  | then-is_within-2 w ↦ where_failed_second (IsIn (reaches c.args.lower.now c.args.upper.now)) _ _ _ _ _ _ _ c.in-Where.is w.get-then-is_within-2.ensures w.is_within-then-is_within-2.ensures w.value-is c.if-is_within-3.false
  | else-is_within-2 w ↦ where_failed_first (IsIn (reaches c.args.lower.now c.args.upper.now)) _ _ _ _ _ _ _ c.in-Where.is c.get-in-Where.ensures c.is_within-in-Where.ensures w.value-is c.if-is_within-3.false
]
