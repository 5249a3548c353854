use Rattle.pooma_script.proofs.Bricks.{near_axes}
use Rattle.pooma_script.proofs.made.said.Goals as goal

pub grid_of-requires-clause-near : goal.grid_of-requires-clause-near
grid_of-requires-clause-near c = near_axes c.args.domain.now c.requires.near c.requires.ordered

pub cuts_of-requires-clause-near : goal.cuts_of-requires-clause-near
cuts_of-requires-clause-near c = near_axes c.args.domain.now c.requires.near c.requires.ordered
