use Rattle.std.proofs.Common.{Some, sym, ap, ◌∙◌}
use Rattle.pooma_check.specs.Kept.{known_of}
use Rattle.pooma_check.proofs.TreeForms.{read_viewed}
use Rattle.pooma_check.proofs.tree.read.Goals as goal

pub view_at-requires-clause-can : goal.view_at-requires-clause-can
view_at-requires-clause-can c =
    read_viewed (known_of c.args.known.now) c.args.text.now c.args.seen.now _ (sym c.named.ensures ∙ (c.in-Some-Array.is ∙ ap Some c.in-Some-Array.field-0-is)) c.requires.reads
