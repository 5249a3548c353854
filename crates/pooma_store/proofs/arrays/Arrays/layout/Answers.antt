use Rattle.pooma_store.proofs.KeptArrays.{array_there, layout_kept}
use Rattle.pooma_store.proofs.arrays.Arrays.layout.Goals as goal

pub returns-clause-valid : goal.returns-clause-valid
returns-clause-valid c =
    layout_kept c.self.inside.list.items c.args.array c.index.result.now
    (array_there c.self.inside.list.items c.args.self.now c.args.array c.self.view_is c.requires) c.index.ensures c.self.invariant.0
