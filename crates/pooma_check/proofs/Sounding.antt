-- What the tests of a line tell of each of its readings.
use Rattle.std.proofs.Common.{◌≡◌, ℕ, List, sym, subst}
use Rattle.std.proofs.lemmas.List.Elements.{All-nil}
use Rattle.std.specs.Prelude.{All}
use Rattle.pooma_parse.specs.declared.form.RawLine.{RawLine}
use Rattle.pooma_parse.specs.declared.form.RawLine.TheVariants as line
use Rattle.pooma_model.specs.Declarations.{Declared}
use Rattle.pooma_model.specs.Fit.{IsReadable}
use Rattle.pooma_script.specs.Known.{Known, declared_in}
use Rattle.pooma_script.specs.Statements.{Task, task_of}
use Rattle.pooma_script.specs.Tests.{HasDimensions, HasNumbers, HasOwnAxes, HasPositions, LiesInside}
use Rattle.pooma_script.specs.Views.{Reading}
use Rattle.pooma_check.specs.Readings.{CanView, IsSoundReading}

abbrev pub AreInside : Declared → List Reading → Type 0
AreInside declared readings = All (λ reading. IsReadable declared reading.view) readings

pub readings_own : (known : Known) (text : List ℕ) (form : RawLine) → HasDimensions known text form
    → All (HasOwnAxes (declared_in known)) (task_of known text form).readings
readings_own known text (line.Layout layout domain cutting internal external) h = All-nil (HasOwnAxes (declared_in known))
readings_own known text (line.Brick brick domain) h = All-nil (HasOwnAxes (declared_in known))
readings_own known text (line.Array array on) h = All-nil (HasOwnAxes (declared_in known))
readings_own known text (line.Field field on faces) h = All-nil (HasOwnAxes (declared_in known))
readings_own known text (line.Stencil stencil lower upper body) h = All-nil (HasOwnAxes (declared_in known))
readings_own known text other h = h.own

pub readings_taking : (known : Known) (text : List ℕ) (form : RawLine) → HasNumbers known text form
    → All HasPositions (task_of known text form).readings
readings_taking known text (line.Layout layout domain cutting internal external) h = All-nil HasPositions
readings_taking known text (line.Brick brick domain) h = All-nil HasPositions
readings_taking known text (line.Repeat turns) h = All-nil HasPositions
readings_taking known text other h = h

pub readings_inside : (known : Known) (text : List ℕ) (form : RawLine) → LiesInside known text form
    → AreInside (declared_in known) (task_of known text form).readings
readings_inside known text (line.Layout layout domain cutting internal external) h = All-nil (λ (r : Reading). IsReadable (declared_in known) r.view)
readings_inside known text (line.Stencil stencil lower upper body) h = All-nil (λ (r : Reading). IsReadable (declared_in known) r.view)
readings_inside known text other h = h.0

-- a line that passes the tests of dimension, empty and outside has sound readings
pub readings_sound : (known : Known) (text : List ℕ) (form : RawLine) → HasDimensions known text form → HasNumbers known text form
    → LiesInside known text form → All (IsSoundReading (declared_in known)) (task_of known text form).readings
readings_sound known text form dimensions numbers inside =
    let own = readings_own known text form dimensions in
    let taking = readings_taking known text form numbers in
    let within = readings_inside known text form inside in
    λ k d below. record { own = own k d below; numbers = taking k d below; inside = within k d below }

-- the same of a task that is the line's
pub task_sound : (known : Known) (text : List ℕ) (form : RawLine) (task : Task) → task ≡ task_of known text form → HasDimensions known text form
    → HasNumbers known text form → LiesInside known text form → All (IsSoundReading (declared_in known)) task.readings
task_sound known text form task is dimensions numbers inside =
    subst (λ (t : Task). All (IsSoundReading (declared_in known)) t.readings) (sym is) (readings_sound known text form dimensions numbers inside)

-- what a sound reading tells of its view alone
pub can_view : (declared : Declared) (reading : Reading) → IsSoundReading declared reading → CanView declared reading
can_view declared reading h = record { slots = h.own.0; taking = h.numbers.0; inside = h.inside }
