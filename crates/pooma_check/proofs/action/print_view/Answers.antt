use Rattle.pooma_check.specs.Kept.{known_of}
use Rattle.pooma_check.proofs.Makings.{printed_viewed}
use Rattle.pooma_check.proofs.action.print_view.Goals as goal

pub view_at-requires-clause-can : goal.view_at-requires-clause-can
view_at-requires-clause-can c = printed_viewed (known_of c.args.known.now) c.args.text.now c.args.seen.now c.requires.sound
