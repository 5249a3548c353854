use Rattle.std.proofs.Common.{arith}
use Rattle.pooma_run.proofs.Declared.{all_cut, next_cut}
use Rattle.pooma_run.proofs.sound.program_is_sound.Goals as goal

pub arrays-preserved : goal.arrays-preserved
arrays-preserved c =
    next_cut c.args.program.now.declared.shapes c.args.program.now.declared.layouts c.arrays.array _ _ c.shape-shape.ensures c.layout.ensures
    c.shape-shape.result.now.valid c.patches-patches.ensures.valid c.arrays.invariant

pub returns : goal.returns
returns c = record {
  arrays =
      all_cut c.args.program.now.declared.shapes c.args.program.now.declared.layouts c.arrays.array c.arrays-array-end.ensures.valid.arrays
      (omega (arith, c.arrays-array-end.ensures.count, c.arrays-array-end.ensures.few)) (omega arith) c.arrays.invariant;
  fit = c.walk-walk.ensures.fit;
}
