use Rattle.std.proofs.Common.{◌≡◌, ◌∙◌, List, None, ◌∷◌, ap, refl, subst, sym}
use Rattle.std.specs.Prelude.{◌↔◌, All, IsTrue}
use Rattle.pooma_parse.specs.declared.form.RawLine.{RawLine}
use Rattle.pooma_script.specs.Known.{declared_in}
use Rattle.pooma_script.specs.Statements.{action_of, task_of}
use Rattle.pooma_script.specs.Tests.{ReadsApartOf}
use Rattle.pooma_script.specs.Trees.{readings_in}
use Rattle.pooma_script.specs.Views.{Reading, reading_of, view_of}
use Rattle.pooma_check.specs.Kept.{known_of}
use Rattle.pooma_check.specs.Readings.{IsSoundReading}
use Rattle.pooma_check.proofs.OtherForms.{apart_of_others}
use Rattle.pooma_check.proofs.Overlaps.{assignment_apart}
use Rattle.pooma_check.proofs.Sounding.{readings_sound}
use Rattle.pooma_check.proofs.statement.reads_apart.Goals as goal

pub others_are_apart-requires-clause-sound : goal.others_are_apart-requires-clause-sound
others_are_apart-requires-clause-sound c =
    let known = known_of c.args.known.now in
    let Sound : List Reading → Type 0 = λ l. All (IsSoundReading (declared_in known)) l in
    subst Sound (sym (c.readings.ensures ∙ ap (λ t. t.readings) c.requires.task))
    (readings_sound known c.args.text.now c.args.form.now c.requires.dimensions c.requires.numbers c.requires.inside)

pub returns-in_default : goal.returns-in_default
returns-in_default c =
    ((λ t. apart_of_others (known_of c.args.known.now) c.args.text.now c.args.form.now c.in_default.not-Assign), λ h. refl)

pub returns-in-Assign : goal.returns-in-Assign
returns-in-Assign c =
    let known = known_of c.args.known.now in
    let text = c.args.text.now in
    let Tells : RawLine → Type 0 = λ f. IsTrue c.others_are_apart.result ↔ ReadsApartOf (action_of known text f) in
    let same : c.readings.result.now ≡ reading_of known text None c.in-Assign.target ∷ readings_in known text c.in-Assign.value =
    c.readings.ensures ∙ ap (λ t. t.readings) (c.requires.task ∙ ap (task_of known text) c.in-Assign.is) in
    subst Tells (sym c.in-Assign.is) (assignment_apart c.cells_apart.ensures.apart known text c.in-Assign.op (view_of known text c.in-Assign.target)
    c.in-Assign.value c.others_are_apart.result (c.others_are_apart.ensures (reading_of known text None c.in-Assign.target) (readings_in known text c.in-Assign.value) same))
