use Rattle.std.proofs.Common.{◌≡◌, ◌∙◌, List, ap, subst, sym}
use Rattle.std.specs.Prelude.{◌↔◌, All, IsTrue}
use Rattle.pooma_script.specs.Statements.{task_of}
use Rattle.pooma_script.specs.Tests.{HasPositions}
use Rattle.pooma_script.specs.Views.{Reading}
use Rattle.pooma_check.specs.Kept.{known_of}
use Rattle.pooma_check.proofs.OtherForms.{numbers_of_others}
use Rattle.pooma_check.proofs.statement.has_numbers.Goals as goal

pub returns-in_default : goal.returns-in_default
returns-in_default c =
    let known = known_of c.args.known.now in
    let text = c.args.text.now in
    let form = c.args.form.now in
    let Tells : Type 0 → Type 0 = λ P. IsTrue c.all_have_positions.result ↔ P in
    let Have : List Reading → Type 0 = λ l. IsTrue c.all_have_positions.result ↔ All HasPositions l in
    let same : c.readings.result.now ≡ (task_of known text form).readings = c.readings.ensures ∙ ap (λ t. t.readings) c.requires.task in
    subst Tells (sym (numbers_of_others known text form c.in_default.not-Layout c.in_default.not-Brick c.in_default.not-Repeat))
    (subst Have same c.all_have_positions.ensures)
