-- What a walk over the lines of a program has still to pass.
use Rattle.std.specs.Prelude.{◌≡◌, ◌≤◌, ◌-◌, ℕ, zero, suc, Option, None, Some, List, [], ◌∷◌, ◌++◌, drop, length, map}
use Rattle.std.specs.List.{filter_map}
use Rattle.pooma_model.specs.declared.lines.Line.{Line}
use Rattle.pooma_model.specs.declared.lines.Line.TheVariants.{Do, Repeat, End}
use Rattle.pooma_model.specs.declared.statement.Statement.{Statement}
use Rattle.pooma_model.specs.declared.turns.Turn.{Turn}
use Rattle.pooma_model.specs.Lines.{depth_after}

-- the lines, so many times
abbrev pub lines_times : ℕ → List Line → List Line
lines_times zero lines = []
lines_times (suc n) lines = lines ++ lines_times n lines

-- The lines that are passed from some line on, where these are passed behind the ends of the repeats around it, the innermost
-- first. Behind an end that has no repeat nothing is passed.
abbrev pub passed : List Line → List (List Line) → List Line
passed [] later = []
passed (Do s ∷ lines) later = Do s ∷ passed lines later
passed (Repeat n ∷ lines) later = Repeat n ∷ passed lines (lines_times (n - 1) (passed lines []) ∷ later)
passed (End ∷ lines) [] = End ∷ []
passed (End ∷ lines) (turns ∷ later) = End ∷ (turns ++ passed lines later)

-- what is passed behind the end of a repeat
abbrev pub passed_again : List Line → Turn → List Line
passed_again lines turn = lines_times turn.left (passed (drop turn.start lines) [])

abbrev pub passed_from : List Line → ℕ → List Turn → List Line
passed_from lines place turns = passed (drop place lines) (map (passed_again lines) turns)

abbrev pub statement_of : Line → Option Statement
statement_of (Do s) = Some s
statement_of (Repeat n) = None
statement_of End = None

abbrev pub statements_in : List Line → List Statement
statements_in lines = filter_map statement_of lines

-- the statements that a walk at this place, in these repeats, has left
abbrev pub statements_from : List Line → ℕ → List Turn → List Statement
statements_from lines place turns = statements_in (passed_from lines place turns)

-- each repeat has a turn and its end, each end its repeat, and at most four repeats stand in one another
abbrev pub IsNested : List Line → Type 0
IsNested lines = depth_after 0 lines ≡ Some 0

-- the lines behind the end of the repeat that stands so many repeats around the first of these lines
abbrev pub outside : ℕ → List Line → List Line
outside n [] = []
outside n (Do s ∷ lines) = outside n lines
outside n (Repeat k ∷ lines) = outside (suc n) lines
outside zero (End ∷ lines) = lines
outside (suc n) (End ∷ lines) = outside n lines

-- A walk stands in these repeats, the innermost first: each starts in front of the end that the walk comes to.
abbrev pub StandsIn : List Line → List Line → List Turn → Type 0
StandsIn lines rest [] = Unit {0}
StandsIn lines rest (turn ∷ turns) =
    (turn.start ≤ length lines)
    × (depth_after (suc (length turns)) (drop turn.start lines) ≡ Some 0)
    × (outside 0 (drop turn.start lines) ≡ outside 0 rest)
    × StandsIn lines (outside 0 rest) turns

-- a place of nested lines, and the repeats around it
pub record IsWalk (lines : List Line) (place : ℕ) (turns : List Turn) : Type 0 where
  pub within : place ≤ length lines
  pub depth : depth_after (length turns) (drop place lines) ≡ Some 0
  pub around : StandsIn lines (drop place lines) turns
