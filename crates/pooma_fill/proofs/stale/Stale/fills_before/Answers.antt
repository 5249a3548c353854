use Rattle.std.proofs.Common.{◌≡◌, ◌∙◌, sym, ap, subst, arith, ◌+◌, ◌++◌, List, Some}
use Rattle.std.specs.Prelude.{slice_get}
use Rattle.pooma_piece.specs.Pieces.{Pieced}
use Rattle.pooma_fill.specs.Marks.{Staled, fills_if}
use Rattle.pooma_fill.proofs.Marking.{array_at, fills_more, mark_at_place, shape_at_place, shape_there}
use Rattle.pooma_fill.proofs.stale.Stale.fills_before.Goals as goal

pub add_needed-requires-clause-shape : goal.add_needed-requires-clause-shape
add_needed-requires-clause-shape c =
    let items = c.self.inside.arrays.items in
    let at = array_at items c.loop-k.k c.index.result.now (omega (arith, c.loop-k-test.true, c.len-k-end.ensures)) c.index.ensures in
    shape_there c.args.store.now.shapes c.args.self.now.shapes c.loop-k.k c.index.result.now.shape c.requires.arrays.shapes
    (subst (λ (s : Staled). slice_get s.shapes c.loop-k.k ≡ Some c.index.result.now.shape) c.self.view_is (shape_at_place items c.loop-k.k c.index.result.now at))

pub loop-k-preserved : goal.loop-k-preserved
loop-k-preserved c =
    let items = c.self.inside.arrays.items in
    let at = array_at items c.loop-k.k c.index.result.now (omega (arith, c.loop-k-test.true, c.len-k-end.ensures)) c.index.ensures in
    c.in_ok-add_needed.ensures
    ∙ ap (λ (fills : List Pieced). fills ++ fills_if c.args.store.now.layouts c.args.number c.args.action.now c.loop-k.k c.index.result.now.shape c.index.result.now.mark) c.loop-k.invariant
    ∙ sym (fills_more c.args.store.now.layouts c.args.number c.args.action.now 0 c.loop-k.k c.loop-k.k (c.loop-k.k + 1) c.args.self.now.shapes c.args.self.now.marks c.index.result.now.shape c.index.result.now.mark (omega arith) (omega arith)
    (subst (λ (s : Staled). slice_get s.shapes c.loop-k.k ≡ Some c.index.result.now.shape) c.self.view_is (shape_at_place items c.loop-k.k c.index.result.now at)) (subst (λ (s : Staled). slice_get s.marks c.loop-k.k ≡ Some c.index.result.now.mark) c.self.view_is (mark_at_place items c.loop-k.k c.index.result.now at)))
