use Rattle.std.proofs.Common.{List, sym, subst}
use Rattle.pooma_domain.specs.Cells.{Interval}
use Rattle.pooma_model.specs.Fit.{AreFew}
use Rattle.pooma_check.specs.Kept.{known_of}
use Rattle.pooma_check.proofs.Makings.{reduced_few, reduced_made}
use Rattle.pooma_check.proofs.action.reduce.Goals as goal

pub tree-requires-clause-can : goal.tree-requires-clause-can
tree-requires-clause-can c = reduced_made (known_of c.args.known.now) c.args.text.now c.args.name c.args.word c.args.value.now c.requires.sound

pub returns-clause-positions : goal.returns-clause-positions
returns-clause-positions c =
    subst (λ (b : List Interval). AreFew b) (sym c.requires.positions)
    (reduced_few (known_of c.args.known.now) c.args.text.now c.args.name c.args.word c.args.value.now c.requires.sound)
