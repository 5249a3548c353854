use Rattle.pooma_check.specs.Kept.{known_of}
use Rattle.pooma_check.proofs.Acting.{action_fits}
use Rattle.pooma_check.proofs.after.take.Goals as goal

pub act-requires-clause-fit : goal.act-requires-clause-fit
act-requires-clause-fit c =
    action_fits c.args.number (known_of c.args.known.now) c.args.text.now c.args.form.now (known_of c.declare.new.known) c.args.does c.in-Some.action
    c.in_ok-declare.ensures.known c.requires.does c.in-Some.is c.requires.kept.known c.requires.sound c.requires.limits c.forms_of_expansions.ensures.scalars c.forms_of_expansions.ensures.axes
