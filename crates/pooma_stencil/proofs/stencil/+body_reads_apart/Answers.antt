use Rattle.std.proofs.Common.{sym, ◌∙◌, arith}
use Rattle.pooma_domain.specs.Cells.{IsIn}
use Rattle.pooma_domain.specs.Operations.{reaches}
use Rattle.pooma_stencil.specs.Expansions.{IsReadApart}
use Rattle.pooma_stencil.proofs.Expanded.{at_offset, of_same, at_told, one_told, bin_passed, bin_failed, where_passed, where_failed_first, where_failed_second, operand_of_one, first_of_bin, second_of_bin, test_of_where, first_of_where, second_of_where}
use Rattle.pooma_stencil.proofs.stencil.+body_reads_apart.Goals.{then-body_reads_apart-2, else-body_reads_apart-2}
use Rattle.pooma_stencil.proofs.stencil.+body_reads_apart.Goals as goal

pub is_apart-requires-clause-within : goal.is_apart-requires-clause-within
is_apart-requires-clause-within t c =
    at_offset (IsIn (reaches c.args.stencil.now.lower c.args.stencil.now.upper)) _ (of_same (IsIn (reaches c.args.stencil.now.lower c.args.stencil.now.upper)) _ _ c.in-At.is c.requires.within)

pub body_reads_apart-requires : goal.body_reads_apart-requires
body_reads_apart-requires t c =
    let is = first_of_bin _ _ _ _ _ c.in-Bin.is c.get.ensures in
    (omega (arith, c.decreases, is.depth), (c.requires.fits, (c.requires.positions, (is.reach c.args.stencil.now.lower c.args.stencil.now.upper c.requires.within, c.requires.target))))

pub body_reads_apart-requires-then-body_reads_apart : goal.body_reads_apart-requires-then-body_reads_apart
body_reads_apart-requires-then-body_reads_apart t c =
    let is = second_of_bin _ _ _ _ _ c.in-Bin.is c.get-then-body_reads_apart.ensures in
    (omega (arith, c.decreases, is.depth), (c.requires.fits, (c.requires.positions, (is.reach c.args.stencil.now.lower c.args.stencil.now.upper c.requires.within, c.requires.target))))

pub body_reads_apart-requires-in-Where : goal.body_reads_apart-requires-in-Where
body_reads_apart-requires-in-Where t c =
    let is = test_of_where _ _ _ _ _ c.in-Where.is c.get-in-Where.ensures in
    (omega (arith, c.decreases, is.depth), (c.requires.fits, (c.requires.positions, (is.reach c.args.stencil.now.lower c.args.stencil.now.upper c.requires.within, c.requires.target))))

pub body_reads_apart-requires-then-body_reads_apart-2 : goal.body_reads_apart-requires-then-body_reads_apart-2
body_reads_apart-requires-then-body_reads_apart-2 t c =
    let is = first_of_where _ _ _ _ _ c.in-Where.is c.get-then-body_reads_apart-2.ensures in
    (omega (arith, c.decreases, is.depth), (c.requires.fits, (c.requires.positions, (is.reach c.args.stencil.now.lower c.args.stencil.now.upper c.requires.within, c.requires.target))))

pub body_reads_apart-requires-then-body_reads_apart-3 : goal.body_reads_apart-requires-then-body_reads_apart-3
body_reads_apart-requires-then-body_reads_apart-3 t c =
    let is = second_of_where _ _ _ _ _ c.in-Where.is c.get-then-body_reads_apart-3.ensures in
    (omega (arith, c.decreases, is.depth), (c.requires.fits, (c.requires.positions, (is.reach c.args.stencil.now.lower c.args.stencil.now.upper c.requires.within, c.requires.target))))

pub body_reads_apart-requires-in-Neg : goal.body_reads_apart-requires-in-Neg
body_reads_apart-requires-in-Neg t c =
    let is = operand_of_one _ _ _ c.in-Neg.is c.get-in-Neg.ensures in
    (omega (arith, c.decreases, is.depth), (c.requires.fits, (c.requires.positions, (is.reach c.args.stencil.now.lower c.args.stencil.now.upper c.requires.within, c.requires.target))))

pub returns-in-At : goal.returns-in-At
returns-in-At t c = at_told (IsReadApart c.args.stencil.now c.args.view.now c.args.target.now) _ _ _ c.in-At.is c.is_apart.ensures

pub returns-then-body_reads_apart : goal.returns-then-body_reads_apart
returns-then-body_reads_apart t c =
    bin_passed (IsReadApart c.args.stencil.now c.args.view.now c.args.target.now) _ _ _ _ _ _ _ _ c.in-Bin.is c.get.ensures c.get-then-body_reads_apart.ensures c.body_reads_apart.ensures c.if-body_reads_apart.true c.body_reads_apart-then-body_reads_apart.ensures

pub returns-else-body_reads_apart : goal.returns-else-body_reads_apart
returns-else-body_reads_apart t c =
    bin_failed (IsReadApart c.args.stencil.now c.args.view.now c.args.target.now) _ _ _ _ _ _ c.in-Bin.is c.get.ensures c.body_reads_apart.ensures c.if-body_reads_apart.false

pub returns-then-body_reads_apart-3 : goal.returns-then-body_reads_apart-3
returns-then-body_reads_apart-3 t c = elim c.if-body_reads_apart-2.branch [
  | then-body_reads_apart-2 w ↦ where_passed (IsReadApart c.args.stencil.now c.args.view.now c.args.target.now) _ _ _ _ _ _ _ _ _ _ c.in-Where.is c.get-in-Where.ensures w.get-then-body_reads_apart-2.ensures c.get-then-body_reads_apart-3.ensures c.body_reads_apart-in-Where.ensures w.if-body_reads_apart-2.true w.body_reads_apart-then-body_reads_apart-2.ensures (sym w.value-is ∙ c.if-body_reads_apart-3.true) c.body_reads_apart-then-body_reads_apart-3.ensures
  | else-body_reads_apart-2 w ↦ cc (w.if-body_reads_apart-2.false, w.value-is, c.if-body_reads_apart-3.true)
]

pub returns-else-body_reads_apart-3 : goal.returns-else-body_reads_apart-3
returns-else-body_reads_apart-3 t c = elim c.if-body_reads_apart-2.branch [
  | then-body_reads_apart-2 w ↦ where_failed_second (IsReadApart c.args.stencil.now c.args.view.now c.args.target.now) _ _ _ _ _ _ _ c.in-Where.is w.get-then-body_reads_apart-2.ensures w.body_reads_apart-then-body_reads_apart-2.ensures w.value-is c.if-body_reads_apart-3.false
  | else-body_reads_apart-2 w ↦ where_failed_first (IsReadApart c.args.stencil.now c.args.view.now c.args.target.now) _ _ _ _ _ _ _ c.in-Where.is c.get-in-Where.ensures c.body_reads_apart-in-Where.ensures w.value-is c.if-body_reads_apart-3.false
]

pub returns-in-Neg : goal.returns-in-Neg
returns-in-Neg t c = one_told (IsReadApart c.args.stencil.now c.args.view.now c.args.target.now) _ _ _ _ c.in-Neg.is c.get-in-Neg.ensures c.body_reads_apart-in-Neg.ensures
