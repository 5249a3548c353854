-- Lines that have no cause but maybe a limit.
use Rattle.std.specs.Prelude.{ℕ, List, [], ◌∷◌, length, All, IsTrue}
use Rattle.pooma_parse.specs.declared.form.RawLine.{RawLine}
use Rattle.pooma_script.specs.declared.cause.Cause.{Cause}
use Rattle.pooma_script.specs.declared.cause.Cause.TheVariants as cause
use Rattle.pooma_script.specs.declared.cause.LimitName.TheVariants as limit
use Rattle.pooma_script.specs.Known.{Known, declared_in}
use Rattle.pooma_script.specs.Statements.{action_of, task_of}
use Rattle.pooma_script.specs.Tests.{HasDimensions, HasEqualLengths, HasNumbers, IsPlaced, IsWithin, LiesInside, ReadsApartOf, has_names}
use Rattle.pooma_check.specs.Seen.{CanSee}

-- the causes before the limits, in their order
abbrev pub early_causes : List Cause
early_causes = cause.Syntax ∷ cause.Name ∷ cause.Dimension ∷ cause.Empty ∷ cause.Outside ∷ cause.Unequal ∷ cause.Overlap ∷ []

-- The line passes the test of each cause before the limits. That what it reads can be seen at its positions follows from them.
pub record IsSound (known : Known) (text : List ℕ) (form : RawLine) : Type 0 where
  pub placed : IsPlaced (length known.drafted.open_repeats) form
  pub names : IsTrue (has_names known.names text form)
  pub dimensions : HasDimensions known text form
  pub numbers : HasNumbers known text form
  pub inside : LiesInside known text form
  pub lengths : HasEqualLengths (task_of known text form)
  pub apart : ReadsApartOf (action_of known text form)
  pub seen : All (CanSee (declared_in known)) (task_of known text form).readings

-- the line is within each limit
pub record IsLimited (number : ℕ) (known : Known) (text : List ℕ) (form : RawLine) : Type 0 where
  pub lines : IsWithin limit.Lines number known text form
  pub name : IsWithin limit.Name number known text form
  pub arrays : IsWithin limit.Arrays number known text form
  pub coordinate : IsWithin limit.Coordinate number known text form
  pub patches : IsWithin limit.Patches number known text form
  pub guards : IsWithin limit.Guards number known text form
  pub extents : IsWithin limit.Extents number known text form
  pub array_cells : IsWithin limit.ArrayCells number known text form
  pub allocated_cells : IsWithin limit.AllocatedCells number known text form
  pub views : IsWithin limit.Views number known text form
  pub depth : IsWithin limit.Depth number known text form
  pub repeats : IsWithin limit.Repeats number known text form
  pub parts : IsWithin limit.Parts number known text form
  pub statements : IsWithin limit.Statements number known text form
  pub printed : IsWithin limit.PrintedValues number known text form
