-- What is known of the views that a sound statement reads.
use Rattle.std.specs.Prelude.{◌≡◌, ◌≤◌, ℕ, ℤ, pos, List, All, IsTrue}
use Rattle.pooma_domain.specs.Cells.{Interval, IsIn}
use Rattle.pooma_view.specs.Slots.{cell_named, positions_of}
use Rattle.pooma_view.specs.Views.{Viewed}
use Rattle.pooma_parse.specs.declared.form.RawExpr.{RawExpr}
use Rattle.pooma_model.specs.declared.statement.Action.{Action}
use Rattle.pooma_model.specs.declared.statement.Action.TheVariants as action
use Rattle.pooma_model.specs.Declarations.{Declared}
use Rattle.pooma_model.specs.Fit.{AreFew, IsReadable}
use Rattle.pooma_script.specs.Known.{Known, declared_in}
use Rattle.pooma_script.specs.Trees.{axes_in, names_fit, readings_in}
use Rattle.pooma_script.specs.Views.{Reading, positions_read}
use Rattle.pooma_check.specs.Readings.{IsSoundReading, views_of_reading}

-- the view may be read, at these positions
pub record IsSeenAt (declared : Declared) (positions : List Interval) (view : Viewed) : Type 0 where
  pub readable : IsReadable declared view
  pub places : positions_of view.slots ≡ positions

-- all views of the reading may be read at its positions, which are few and are counted from 0
pub record CanSee (declared : Declared) (reading : Reading) : Type 0 where
  pub views : All (IsSeenAt declared (positions_read reading)) (views_of_reading reading)
  pub few : AreFew (positions_read reading)
  pub from_zero : All (λ axis. axis.first ≡ pos 0) (positions_read reading)

-- what the action is done at is few enough to be gone through
abbrev pub HasFewPositions : Action → Type 0
HasFewPositions (action.Assign target value mask) = AreFew (positions_of target.slots)
HasFewPositions (action.Reduce scalar reduction positions value) = AreFew positions
HasFewPositions (action.PrintView view) = AreFew (positions_of view.slots)
HasFewPositions other = Unit {0}

-- the view names cells of this box alone
abbrev pub LiesOnly : List Interval → Viewed → Type 0
LiesOnly box view = (p : List ℤ) → IsIn (positions_of view.slots) p → IsIn box (cell_named view.slots p)

-- The expression can be made: its names fit, what it reads is sound, and each `index` names one of three axes.
pub record CanMake (known : Known) (text : List ℕ) (e : RawExpr) : Type 0 where
  pub names : IsTrue (names_fit known.names text e)
  pub reads : All (IsSoundReading (declared_in known)) (readings_in known text e)
  pub axes : axes_in e ≤ 3
