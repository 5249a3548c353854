use Rattle.std.proofs.Common.{◌∙◌, ap, arith, refl, ◌+◌, length, [], ◌∷◌}
use Rattle.std.proofs.lemmas.List.{length-append}
use Rattle.pooma_field.specs.ShapeOf.{shape_of}
use Rattle.pooma_fill.specs.declared.stale.Array.{Array}
use Rattle.pooma_fill.specs.Marks.{first_mark}
use Rattle.pooma_fill.proofs.Making.{words_pushed}
use Rattle.pooma_fill.proofs.Marking.{pushed, pushed_alike, same_declared}
use Rattle.pooma_fill.proofs.stale.Stale.new.Goals as goal

pub loop-array-preserved : goal.loop-array-preserved
loop-array-preserved c =
    let declared = c.args.program.now.declared in
    let k = c.loop-array.array in
    let old = c.loop-array.arrays.items in
    let made = c.in_ok-made.made in
    let all = c.push.new.self.items in
    let items = c.in_ok-push.ensures.items in
    record {
      shapes = pushed (λ (a : Array). shape_of a.shape) old all made declared.shapes k (k + 1) (shape_of made.shape) (omega arith) items c.loop-array.invariant.shapes c.in_ok-made.ensures.shape refl;
      layouts = pushed (λ (a : Array). a.layout) old all made declared.layouts k (k + 1) made.layout (omega arith) items c.loop-array.invariant.layouts c.in_ok-made.ensures.layout refl;
      marks = pushed_alike (λ (a : Array). a.mark) (λ (a : Array). a.shape) first_mark old all made items c.loop-array.invariant.marks c.in_ok-made.ensures.mark;
      words = words_pushed old all made items c.loop-array.invariant.words c.in_ok-made.ensures.words;
      count = ap length items ∙ length-append old (made ∷ []) ∙ ap (λ n. n + 1) c.loop-array.invariant.count;
    }

pub returns-clause-declared : goal.returns-clause-declared
returns-clause-declared c =
    same_declared c.args.program.now.declared c.loop-array.arrays.items c.loop-array.array c.scalars.result c.arrays-array-end.ensures.valid (omega (arith, c.loop-array-test.false, c.arrays-array-end.ensures.count)) c.scalars.ensures c.loop-array.invariant.shapes c.loop-array.invariant.layouts
