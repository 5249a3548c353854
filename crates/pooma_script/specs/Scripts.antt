-- Which program a script is, or at which line it is refused and why.
use Rattle.std.specs.Prelude.{◌≡◌, ◌⊎◌, ℕ, ◌+◌, ◌<◌, ◌≤◌, List, [], ◌∷◌, length, None, Some}
use Rattle.pooma_text.specs.Lines.{lines_of}
use Rattle.pooma_text.specs.Tokens.{IsBlankLine}
use Rattle.pooma_parse.specs.declared.form.RawLine.{RawLine}
use Rattle.pooma_parse.specs.Lines.{Spells}
use Rattle.pooma_model.specs.Order.{Frame, Programmed}
use Rattle.pooma_script.specs.declared.cause.Cause.{Cause}
use Rattle.pooma_script.specs.declared.cause.Cause.TheVariants as cause
use Rattle.pooma_script.specs.declared.cause.LimitName.TheVariants as limit
use Rattle.pooma_script.specs.After.{after}
use Rattle.pooma_script.specs.Causes.{IsFirstFailed, line_causes}
use Rattle.pooma_script.specs.Known.{Known, declared_in, nothing_known}
use Rattle.pooma_script.specs.Limits.{most}
use Rattle.pooma_script.specs.Tests.{Passes}

-- a program, or the line that is refused and why
pub data Script : Type 0 where
  Runs : Programmed → Script
  Refused : ℕ → Cause → Script

-- what becomes of a line: the cause for which it is refused, or what is known after it
pub data Outcome : Type 0 where
  Stops : Cause → Outcome
  Goes : Known → Outcome

-- a blank line changes nothing; there may be too many lines
abbrev pub blank_outcome : ℕ → Known → Outcome → Type 0
blank_outcome number known (Stops why) = (most limit.Lines < number) × (why ≡ cause.Limit limit.Lines)
blank_outcome number known (Goes next) = (number ≤ most limit.Lines) × (next ≡ known)

-- a line of a form has the first cause whose test it does not pass, or does what it says
abbrev pub form_outcome : ℕ → Known → List ℕ → RawLine → Outcome → Type 0
form_outcome number known text form (Stops why) = IsFirstFailed (Passes number known text form) line_causes (Some why)
form_outcome number known text form (Goes next) =
    IsFirstFailed (Passes number known text form) line_causes None × (next ≡ after number known text form)

-- What becomes of the line of this number, after what is known: it is blank, or it spells a form, or neither.
pub data Becomes (number : ℕ) (known : Known) (text : List ℕ) (outcome : Outcome) : Type 0 where
  blank : IsBlankLine text → blank_outcome number known outcome → Becomes number known text outcome
  spelt : (form : RawLine) → Spells text form → form_outcome number known text form outcome → Becomes number known text outcome
  formless : (IsBlankLine text → ⊥) → ((form : RawLine) → Spells text form → ⊥) → outcome ≡ Stops cause.Syntax
      → Becomes number known text outcome

abbrev pub script_with : ℕ → Known → List Frame → Script
script_with number known [] = Runs (record { declared = declared_in known; order = known.drafted.statements })
script_with number known (frame ∷ frames) = Refused number cause.OpenRepeat

-- after the last line no repeat is open, and the program is what was drafted
abbrev pub script_at_end : ℕ → Known → Script
script_at_end number known = script_with number known known.drafted.open_repeats

-- the lines from this number on, after what is known, make up the script: it is refused at the first line that stops
abbrev pub Read : ℕ → Known → List (List ℕ) → Script → Type 0
Read number known [] script = script ≡ script_at_end number known
Read number known (text ∷ lines) script =
    ((why : Cause) × Becomes number known text (Stops why) × (script ≡ Refused number why))
    ⊎ ((next : Known) × Becomes number known text (Goes next) × Read (number + 1) next lines script)

-- The bytes are this script. Where there are too many of them they are not looked at.
abbrev pub IsScript : List ℕ → Script → Type 0
IsScript bytes script =
    ((most limit.ScriptBytes < length bytes) × (script ≡ Refused 0 (cause.Limit limit.ScriptBytes)))
    ⊎ ((length bytes ≤ most limit.ScriptBytes) × Read 1 nothing_known (lines_of bytes) script)
