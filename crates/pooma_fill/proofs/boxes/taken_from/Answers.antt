use Rattle.std.proofs.Common.{◌∙◌, arith, refl}
use Rattle.pooma_field.specs.ShapeOf.{shape_of}
use Rattle.pooma_fill.proofs.Taken.{kept_all, kept_first, kept_more, kept_none}
use Rattle.pooma_fill.proofs.boxes.taken_from.Goals as goal

pub loop-axis-init : goal.loop-axis-init
loop-axis-init c = record { cells = kept_first (shape_of c.args.shape.now) c.args.slab.now c.args.part.now c.args.from.now; dims = refl; there = omega arith }

pub returns-in_err-kept-clause-none : goal.returns-in_err-kept-clause-none
returns-in_err-kept-clause-none c e =
    kept_none (shape_of c.args.shape.now) c.args.slab.now c.args.part.now c.args.from.now c.loop-axis.kept c.loop-axis.axis c.in_ok-numbers.numbers.first c.in_ok-numbers.numbers.last (omega (arith, c.loop-axis-test.true, c.dims-axis-end.ensures.value, c.requires.same_dims)) c.loop-axis.invariant.cells c.in_ok-numbers.ensures.found (c.in_err-kept.ensures.none refl)

pub loop-axis-preserved : goal.loop-axis-preserved
loop-axis-preserved c = record {
  cells = kept_more (shape_of c.args.shape.now) c.args.slab.now c.args.part.now c.args.from.now c.loop-axis.kept c.in_ok-kept.kept c.loop-axis.axis c.in_ok-numbers.numbers.first c.in_ok-numbers.numbers.last c.loop-axis.invariant.cells c.in_ok-numbers.ensures.found c.in_ok-kept.ensures.found;
  dims = c.in_ok-kept.ensures.dims ∙ c.loop-axis.invariant.dims;
  there = omega (arith, c.loop-axis-test.true, c.dims-axis-end.ensures.value);
}

pub returns-clause-found : goal.returns-clause-found
returns-clause-found c =
    kept_all (shape_of c.args.shape.now) c.args.slab.now c.args.part.now c.args.from.now c.loop-axis.kept c.loop-axis.axis c.requires.moving c.requires.same_dims (omega (arith, c.loop-axis-test.false, c.dims-axis-end.ensures.value, c.requires.same_dims)) (omega (arith, c.loop-axis.invariant.there, c.dims-axis-end.ensures.value, c.requires.same_dims)) c.loop-axis.invariant.cells
