use Rattle.std.proofs.Common.{◌≡◌, ◌<◌, ◌∙◌, sym, ap, arith, ◌+◌, length, List, Some, get_or}
use Rattle.std.proofs.lemmas.List.{length-map}
use Rattle.std.proofs.lemmas.Option.{get_or_from_slice_get, slice_get-get_or}
use Rattle.std.specs.Prelude.{slice_get, slice_index_or}
use Rattle.pooma_field.specs.declared.shapes.Shape.{Shape}
use Rattle.pooma_fill.specs.declared.stale.Array.{Array}
use Rattle.pooma_fill.specs.Kept.{marks_of, shapes_of}
use Rattle.pooma_fill.specs.Marks.{mark_after}
use Rattle.pooma_fill.proofs.Marking.{mark_at_place, mark_before, marks_all, marks_more, set_layouts, set_mark, set_shapes, shape_at_place}
use Rattle.pooma_fill.proofs.stale.mark_all.Goals as goal

pub loop-k-preserved : goal.loop-k-preserved
loop-k-preserved c =
    let arrays = c.loop-k.arrays in
    let k = c.loop-k.k in
    let does = c.args.action.now in
    let shapes = shapes_of c.args.arrays.now in
    let marks = marks_of c.args.arrays.now in
    let within : k < length arrays = omega (arith, c.loop-k-test.true, c.loop-k.auto.arrays) in
    let array : Array = slice_index_or arrays k c.index-arrays-k-in-loop-k.result in
    let at : slice_get arrays k ≡ Some array = slice_get-get_or arrays k c.index-arrays-k-in-loop-k.result within in
    let read : get_or arrays k c.index-arrays-k.result ≡ array = get_or_from_slice_get arrays k array c.index-arrays-k.result at in
    let at_s : slice_get shapes k ≡ Some array.shape = ap (λ (ss : List Shape). slice_get ss k) (sym c.loop-k.invariant.shapes) ∙ shape_at_place arrays k array at in
    let at_m = sym (mark_before does 0 k shapes marks (marks_of arrays) array.shape c.loop-k.invariant.marks at_s) ∙ mark_at_place arrays k array at in
    record {
      shapes = set_shapes arrays k array c.mark_after-mark.result at ∙ c.loop-k.invariant.shapes;
      layouts = set_layouts arrays k array c.mark_after-mark.result at ∙ c.loop-k.invariant.layouts;
      marks = set_mark arrays k array c.mark_after-mark.result at
          ∙ marks_more does 0 k k (k + 1) shapes marks (marks_of arrays) array.shape array.mark c.mark_after-mark.result (omega arith) (omega arith) c.loop-k.invariant.marks at_s at_m
          (c.mark_after-mark.ensures ∙ ap (λ (a : Array). mark_after does k a.shape a.mark) read);
    }

pub returns-clause-marks : goal.returns-clause-marks
returns-clause-marks c =
    let old = c.args.arrays.now in
    let of_s = length-map old (λ (a : Array). a.shape) in
    let of_m = length-map old (λ (a : Array). a.mark) in
    marks_all c.args.action.now (shapes_of old) (marks_of old) (marks_of c.loop-k.arrays) c.loop-k.k (of_s ∙ sym of_m) (omega (arith, of_m, c.loop-k-test.false)) c.loop-k.invariant.marks
