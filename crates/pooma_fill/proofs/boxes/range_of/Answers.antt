use Rattle.std.proofs.Common.{◌≡◌, sym, subst, arith, ℕ, to_z, of_z, w32}
use Rattle.std.proofs.lemmas.Int.{ints}
use Rattle.std.proofs.lemmas.Option.{IfSome_then}
use Rattle.pooma_domain.specs.Axes.{interval_of}
use Rattle.pooma_field.specs.Shapes.{IsInSlabs}
use Rattle.pooma_field.specs.ShapeOf.{shape_of}
use Rattle.pooma_fill.proofs.Taken.{axis_there, join_ends, join_none, none_beside, numbers_beside, ordered_box, same_beside, same_elsewhere}
use Rattle.pooma_fill.proofs.boxes.range_of.Goals as goal

pub axis-own-requires : goal.axis-own-requires
axis-own-requires c =
    axis_there (shape_of c.args.shape.now) c.args.part.now c.args.axis c.args.slab.now.axis (omega (arith, c.if-axis-slab.true)) (ordered_box c.args.part.now c.dims-dims.ensures.valid)
    (λ cell h. c.slabs_in_order.ensures.goes_by (shape_of c.args.shape.now) c.args.slab.now cell c.args.shape.now.valid c.requires.slab (c.requires.inside cell h))

pub ends_beside-ends-requires-clause-near : goal.ends_beside-ends-requires-clause-near
ends_beside-ends-requires-clause-near c x on =
    let here : c.args.axis ≡ c.args.slab.now.axis = omega (arith, c.if-axis-slab.true) in
    numbers_beside (shape_of c.args.shape.now) c.args.axis c.args.part.now (interval_of c.axis-piece.result) (interval_of c.axis-own.result) x c.args.shape.now.valid (ordered_box c.args.part.now c.dims-dims.ensures.valid) c.axis-piece.ensures c.axis-own.ensures
    (λ cell h. subst (λ (k : ℕ). IsInSlabs (shape_of c.args.shape.now) k cell) (sym here) (c.slabs_in_order.ensures.goes_by (shape_of c.args.shape.now) c.args.slab.now cell c.args.shape.now.valid c.requires.slab (c.requires.inside cell h))) on

pub returns-then-axis-slab-clause-found : goal.returns-then-axis-slab-clause-found
returns-then-axis-slab-clause-found c =
    IfSome_then c.common.result c.common.ensures.found
    (λ numbers found cell inside.
    same_beside (shape_of c.args.shape.now) c.args.slab.now c.args.part.now c.args.from.now c.args.axis (interval_of c.axis.result) (interval_of c.axis-own.result) (interval_of c.axis-piece.result) numbers.first numbers.last c.requires.moving (omega (arith, c.if-axis-slab.true)) c.axis.ensures c.axis-own.ensures c.axis-piece.ensures
    (λ x. join_ends c.args.slab.now.updater (interval_of c.axis-own.result) numbers.first numbers.last c.ends_beside-ends.result.0 c.ends_beside-ends.result.1 c.axis-piece.result.first c.axis-piece.result.last c.axis.result.first c.axis.result.last _ _ x
    (let same : to_z w32 (of_z w32 c.ends_beside-ends.result.0) ≡ c.ends_beside-ends.result.0 = omega (arith, ints) in same)
    (let same : to_z w32 (of_z w32 c.ends_beside-ends.result.1) ≡ c.ends_beside-ends.result.1 = omega (arith, ints) in same)
    (found x) (c.ends_beside-ends.ensures x)) cell inside)

pub returns-then-axis-slab-clause-none : goal.returns-then-axis-slab-clause-none
returns-then-axis-slab-clause-none c none cell inside =
    none_beside (shape_of c.args.shape.now) c.args.slab.now c.args.part.now c.args.from.now c.args.axis (interval_of c.axis.result) (interval_of c.axis-own.result) (interval_of c.axis-piece.result) c.requires.moving (omega (arith, c.if-axis-slab.true)) c.axis.ensures c.axis-own.ensures c.axis-piece.ensures
    (λ x. join_none c.args.slab.now.updater (interval_of c.axis-own.result) c.ends_beside-ends.result.0 c.ends_beside-ends.result.1 c.axis-piece.result.first c.axis-piece.result.last c.axis.result.first c.axis.result.last _ _ x
    (let same : to_z w32 (of_z w32 c.ends_beside-ends.result.0) ≡ c.ends_beside-ends.result.0 = omega (arith, ints) in same)
    (let same : to_z w32 (of_z w32 c.ends_beside-ends.result.1) ≡ c.ends_beside-ends.result.1 = omega (arith, ints) in same)
    (c.common.ensures.none none x) (c.ends_beside-ends.ensures x)) cell inside

pub returns-else-axis-slab-clause-found : goal.returns-else-axis-slab-clause-found
returns-else-axis-slab-clause-found c cell inside =
    same_elsewhere (shape_of c.args.shape.now) c.args.slab.now c.args.from.now c.args.axis (interval_of c.axis-else-axis-slab.result) c.requires.moving (λ e. c.if-axis-slab.false e) c.axis-else-axis-slab.ensures cell
