use Rattle.pooma_check.specs.Kept.{known_of}
use Rattle.pooma_check.proofs.Makings.{assigned_made, target_viewed}
use Rattle.pooma_check.proofs.action.assign.Goals as goal

pub view_at-view-requires-clause-can : goal.view_at-view-requires-clause-can
view_at-view-requires-clause-can c = target_viewed (known_of c.args.known.now) c.args.text.now c.args.target.now c.args.op c.args.value.now c.requires.sound

pub tree-requires-clause-can : goal.tree-requires-clause-can
tree-requires-clause-can c = assigned_made (known_of c.args.known.now) c.args.text.now c.args.target.now c.args.op c.args.value.now c.requires.sound
