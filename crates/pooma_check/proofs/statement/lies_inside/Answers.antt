use Rattle.std.proofs.Common.{◌≡◌, ◌∙◌, List, None, Some, ap, subst, sym}
use Rattle.std.specs.Prelude.{◌↔◌, All, IsTrue, slice_get}
use Rattle.pooma_parse.specs.declared.form.RawLine.{RawLine}
use Rattle.pooma_parse.specs.declared.form.RawLine.TheVariants.{Assign}
use Rattle.pooma_script.specs.Known.{declared_in}
use Rattle.pooma_script.specs.Statements.{task_of}
use Rattle.pooma_script.specs.Tests.{HasOwnAxes, HasPositions, LiesInside}
use Rattle.pooma_script.specs.Views.{Reading, reading_of}
use Rattle.pooma_check.specs.Kept.{known_of}
use Rattle.pooma_check.proofs.OtherForms.{inside_of_others}
use Rattle.pooma_check.proofs.Sounding.{AreInside, readings_inside, readings_own, readings_taking}
use Rattle.pooma_check.proofs.statement.lies_inside.Goals as goal

pub all_are_readable-requires-clause-taking : goal.all_are_readable-requires-clause-taking
all_are_readable-requires-clause-taking c =
    let Taking : List Reading → Type 0 = λ l. All HasPositions l in
    subst Taking (sym (c.readings.ensures ∙ ap (λ t. t.readings) c.requires.task))
    (readings_taking (known_of c.args.known.now) c.args.text.now c.args.form.now c.requires.numbers)

pub first_is_writable-requires-clause-taking : goal.first_is_writable-requires-clause-taking
first_is_writable-requires-clause-taking c =
    let Taking : List Reading → Type 0 = λ l. All HasPositions l in
    subst Taking (sym (c.readings-in-Assign.ensures ∙ ap (λ t. t.readings) c.requires.task))
    (readings_taking (known_of c.args.known.now) c.args.text.now c.args.form.now c.requires.numbers)

pub all_are_readable-requires-in_default : goal.all_are_readable-requires-in_default
all_are_readable-requires-in_default c =
    let known = known_of c.args.known.now in
    let Own : List Reading → Type 0 = λ l. All (HasOwnAxes (declared_in known)) l in
    let Taking : List Reading → Type 0 = λ l. All HasPositions l in
    let same = sym (c.readings-in_default.ensures ∙ ap (λ t. t.readings) c.requires.task) in record {
      own = subst Own same (readings_own known c.args.text.now c.args.form.now c.requires.dimensions);
      taking = subst Taking same (readings_taking known c.args.text.now c.args.form.now c.requires.numbers);
    }

pub returns-in_default : goal.returns-in_default
returns-in_default c =
    let known = known_of c.args.known.now in
    let text = c.args.text.now in
    let form = c.args.form.now in
    let Inside : List Reading → Type 0 = λ l. AreInside (declared_in known) l in
    let same = c.readings-in_default.ensures ∙ ap (λ t. t.readings) c.requires.task in (
      λ t. inside_of_others known text form c.in_default.not-Layout c.in_default.not-Stencil c.in_default.not-Assign
          (subst Inside same (c.all_are_readable-in_default.ensures.0 t)),
      λ h. c.all_are_readable-in_default.ensures.1 (subst Inside (sym same) (readings_inside known text form h)),
    )

pub returns-in-Assign : goal.returns-in-Assign
returns-in-Assign c =
    let known = known_of c.args.known.now in
    let text = c.args.text.now in
    let line = Assign c.in-Assign.target c.in-Assign.op c.in-Assign.value in
    let first = reading_of known text None c.in-Assign.target in
    let Tells : RawLine → Type 0 = λ f. IsTrue c.both.result ↔ LiesInside known text f in
    let Inside : List Reading → Type 0 = λ l. AreInside (declared_in known) l in
    let of_line = c.requires.task ∙ ap (task_of known text) c.in-Assign.is in
    let same : c.readings.result.now ≡ (task_of known text line).readings = c.readings.ensures ∙ ap (λ t. t.readings) of_line in
    let at_first : slice_get c.readings-in-Assign.result.now 0 ≡ Some first =
    ap (λ l. slice_get l 0) (c.readings-in-Assign.ensures ∙ ap (λ t. t.readings) of_line) in
    let writable = c.first_is_writable.ensures first at_first in
    subst Tells (sym c.in-Assign.is) (
      (λ t. let both = c.both.ensures.0 t in (subst Inside same (c.all_are_readable.ensures.0 both.0), writable.0 both.1)),
      λ h. c.both.ensures.1 (c.all_are_readable.ensures.1 (subst Inside (sym same) h.0), writable.1 h.1),
    )
