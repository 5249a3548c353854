use Rattle.std.proofs.Common.{◌≡◌, ◌<◌, ◌∙◌, sym, ap, subst, arith, ◌+◌, List, ◌++◌, length, take, Some, get_or}
use Rattle.std.specs.Prelude.{flat_map, slice_get}
use Rattle.std.proofs.lemmas.List.{take_all}
use Rattle.std.proofs.lemmas.Option.{slice_get-get_or}
use Rattle.pooma_field.specs.declared.shapes.Slab.{Slab}
use Rattle.pooma_field.specs.ShapeOf.{shape_of}
use Rattle.pooma_field.specs.Slabs.{slabs_of}
use Rattle.pooma_fill.specs.Filling.{fills_of_slab}
use Rattle.pooma_fill.proofs.Listed.{all_more, take_more}
use Rattle.pooma_fill.proofs.fills.add_fills.Goals as goal

pub loop-k-preserved : goal.loop-k-preserved
loop-k-preserved c =
    let slabs = slabs_of (shape_of c.args.shape.now) in
    let same : c.in_ok-order.order.items ≡ slabs = c.in_ok-order.ensures in
    let within : c.loop-k.k < length slabs = omega (arith, c.loop-k-test.true, c.len-k-end.ensures, ap length same) in
    let is : c.index.result.now ≡ get_or slabs c.loop-k.k c.index.result.now = subst (λ (xs : List Slab). c.index.result.now ≡ get_or xs c.loop-k.k c.index.result.now) same c.index.ensures in
    let at : slice_get slabs c.loop-k.k ≡ Some c.index.result.now = slice_get-get_or slabs c.loop-k.k c.index.result.now within ∙ ap Some (sym is) in
    all_more (fills_of_slab c.args.store.now.layouts c.args.number c.args.shape.now c.args.array) (take c.loop-k.k slabs) (take (c.loop-k.k + 1) slabs) c.index.result.now c.args.list.now.items c.loop-k.list.items c.add_of_slab.new.list.items
    (take_more slabs c.loop-k.k (c.loop-k.k + 1) c.index.result.now (omega arith) at) c.loop-k.invariant c.in_ok-add_of_slab.ensures

pub add_of_slab-requires-clause-slab : goal.add_of_slab-requires-clause-slab
add_of_slab-requires-clause-slab c =
    let slabs = slabs_of (shape_of c.args.shape.now) in
    let same : c.in_ok-order.order.items ≡ slabs = c.in_ok-order.ensures in
    let within : c.loop-k.k < length slabs = omega (arith, c.loop-k-test.true, c.len-k-end.ensures, ap length same) in
    let is : c.index.result.now ≡ get_or slabs c.loop-k.k c.index.result.now = subst (λ (xs : List Slab). c.index.result.now ≡ get_or xs c.loop-k.k c.index.result.now) same c.index.ensures in
    (c.loop-k.k, within, sym is)

pub returns : goal.returns
returns c =
    let slabs = slabs_of (shape_of c.args.shape.now) in
    let same : c.in_ok-order.order.items ≡ slabs = c.in_ok-order.ensures in
    c.loop-k.invariant
    ∙ ap (λ (xs : List Slab). c.args.list.now.items ++ flat_map (fills_of_slab c.args.store.now.layouts c.args.number c.args.shape.now c.args.array) xs)
    (take_all c.loop-k.k slabs (omega (arith, c.loop-k-test.false, c.len-k-end.ensures, ap length same)))
