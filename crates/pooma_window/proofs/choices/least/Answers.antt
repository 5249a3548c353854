use Rattle.pooma_window.proofs.Uniting.{lesser_first}
use Rattle.pooma_window.proofs.choices.least.Goals as goal

pub returns-in-Some-Some-clause-there : goal.returns-in-Some-Some-clause-there
returns-in-Some-Some-clause-there c =
    let both = c.in-Some-Some in
    (lesser_first c.args.one.now c.args.other.now both.a.now both.b.now c.min.result c.requires.one c.requires.other both.ensures.value both.ensures'.value c.min.ensures).0

pub returns-in-Some-Some-clause-least : goal.returns-in-Some-Some-clause-least
returns-in-Some-Some-clause-least c =
    let both = c.in-Some-Some in
    (lesser_first c.args.one.now c.args.other.now both.a.now both.b.now c.min.result c.requires.one c.requires.other both.ensures.value both.ensures'.value c.min.ensures).1
