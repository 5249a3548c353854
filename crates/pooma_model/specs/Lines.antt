-- A program's lines as they are kept, and the draft that they make.
use Rattle.std.specs.Prelude.{◌≡◌, ◌-◌, ◌≤◌, ℕ, zero, suc, nat_lt, Bool, true, false, Option, None, Some, List, [], ◌∷◌, ◌++◌, fold, length, take, All, slice_get, if◌then◌else◌}
use Rattle.pooma_model.specs.declared.lines.Line.{Line}
use Rattle.pooma_model.specs.declared.lines.Line.TheVariants.{Do, Repeat, End}
use Rattle.pooma_model.specs.Declarations.{Declared, IsDeclaring}
use Rattle.pooma_model.specs.Fit.{IsFit}
use Rattle.pooma_model.specs.Order.{Drafted, empty_draft, with_end, with_repeat, with_statements}

-- the draft with one line more
abbrev pub with_line : Drafted → Line → Drafted
with_line draft (Do statement) = with_statements (statement ∷ []) draft
with_line draft (Repeat turns) = with_repeat turns draft
with_line draft End = with_end draft

-- the draft that these lines make, where nothing is declared
abbrev pub drafted : List Line → Drafted
drafted lines = fold with_line empty_draft lines

-- the draft of these declarations and lines
abbrev pub draft_of : Declared → List Line → Drafted
draft_of declared lines = record (drafted lines) { declared = declared }

-- How many repeats stand around what follows these lines, where so many stand around the first of them. None where an end
-- has no repeat, where a repeat has no turn, or where five stand in one another.
abbrev pub depth_after : ℕ → List Line → Option ℕ
depth_after n [] = Some n
depth_after n (Do s ∷ lines) = depth_after n lines
depth_after n (Repeat zero ∷ lines) = None
depth_after n (Repeat (suc turns) ∷ lines) = if nat_lt n 4 then depth_after (suc n) lines else None
depth_after zero (End ∷ lines) = None
depth_after (suc n) (End ∷ lines) = depth_after n lines

abbrev pub is_repeat : Option Line → Bool
is_repeat None = false
is_repeat (Some (Do s)) = false
is_repeat (Some (Repeat turns)) = true
is_repeat (Some End) = false

-- whether the last line is the head of a repeat
abbrev pub ends_in_repeat : List Line → Bool
ends_in_repeat lines = is_repeat (slice_get lines (length lines - 1))

-- The lines with the innermost repeat ended. One that was begun last is around nothing: it is taken away.
abbrev pub with_repeat_ended : List Line → List Line
with_repeat_ended lines = if ends_in_repeat lines then take (length lines - 1) lines else lines ++ End ∷ []

abbrev pub IsFitLine : Declared → Line → Type 0
IsFitLine declared (Do s) = IsFit declared s.action
IsFitLine declared (Repeat turns) = Unit {0}
IsFitLine declared End = Unit {0}

-- lines of a draft in which so many repeats are open, where there is room for so many further lines, among them their ends
pub record IsDraft (declared : Declared) (lines : List Line) (open_repeats room : ℕ) : Type 0 where
  pub declaring : IsDeclaring declared
  pub nested : depth_after 0 lines ≡ Some open_repeats
  pub fit : All (IsFitLine declared) lines
  pub ends : open_repeats ≤ room

-- lines of a program
pub record IsProgram (declared : Declared) (lines : List Line) : Type 0 where
  pub declaring : IsDeclaring declared
  pub nested : depth_after 0 lines ≡ Some 0
  pub fit : All (IsFitLine declared) lines
  pub few : length (drafted lines).statements ≤ 1048576
