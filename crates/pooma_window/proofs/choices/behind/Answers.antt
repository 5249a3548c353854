use Rattle.std.proofs.Common.{subst}
use Rattle.std.specs.Prelude.{Contains}
use Rattle.pooma_window.proofs.Uniting.{not_first_not_there}
use Rattle.pooma_window.proofs.choices.behind.Goals as goal

pub returns-in_default-2-clause-others : goal.returns-in_default-2-clause-others
returns-in_default-2-clause-others c =
    let not = not_first_not_there c.args.entries.now c.args.entry 0 c.requires.ascending c.requires.least c.if-first-entry.false in
    λ j. (λ h. (h, λ same. not (subst (Contains c.args.entries.now) same h)), λ h. h.0)

pub returns-in_default-2-clause-off : goal.returns-in_default-2-clause-off
returns-in_default-2-clause-off c = λ h. absurd (not_first_not_there c.args.entries.now c.args.entry 0 c.requires.ascending c.requires.least c.if-first-entry.false h)
