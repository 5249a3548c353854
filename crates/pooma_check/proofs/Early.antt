-- The first cause of a line before the limits.
use Rattle.std.proofs.Common.{◌≡◌, inl, inr, ℕ, List, length, Some, Bool, false, refl, subst}
use Rattle.std.specs.Prelude.{◌↔◌, IsTrue}
use Rattle.pooma_parse.specs.declared.form.RawLine.{RawLine}
use Rattle.pooma_script.specs.declared.cause.Cause.TheVariants as cause
use Rattle.pooma_script.specs.Causes.{IsFirstFailed}
use Rattle.pooma_script.specs.Known.{Known}
use Rattle.pooma_script.specs.Statements.{action_of, task_of}
use Rattle.pooma_script.specs.Tests.{HasDimensions, HasEqualLengths, HasNumbers, IsPlaced, LiesInside, Passes, ReadsApartOf, has_names}
use Rattle.pooma_script.proofs.Heads.{not_true}
use Rattle.pooma_check.specs.Sound.{early_causes}

-- what a test answers false to does not hold
pub is_not : {P : Type 0} (b : Bool) → b ≡ false → IsTrue b ↔ P → P → ⊥
is_not b false_is both p = not_true (subst IsTrue false_is (both.1 p))

-- what a line reads that passes all other tests overlaps what it writes
pub overlapping : (known : Known) (text : List ℕ) (form : RawLine) → IsPlaced (length known.drafted.open_repeats) form → IsTrue (has_names known.names text form)
    → HasDimensions known text form → HasNumbers known text form → LiesInside known text form → HasEqualLengths (task_of known text form)
    → (ReadsApartOf (action_of known text form) → ⊥) → (number : ℕ) → IsFirstFailed (Passes number known text form) early_causes (Some cause.Overlap)
overlapping known text form placed named dimensions numbers inside equal never number =
    inl (placed, inl (named, inl (dimensions, inl (numbers, inl (inside, inl (equal, inr (never, refl)))))))
