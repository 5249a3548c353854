-- What the words of the command line ask for.
use Rattle.std.specs.Prelude.{◌≡◌, ◌<◌, ◌≤◌, ℕ, List, [], ◌∷◌, codes}
use Rattle.std.specs.Str.Parse.{IsNumeral, digits_value, without_leading_plus}
use Rattle.pooma_bench.specs.declared.window.TheConstants.{MOST_ENTRIES}
use Rattle.pooma_bench.specs.declared.command.Command.{Command}
use Rattle.pooma_bench.specs.declared.command.Command.TheVariants.{Machine, Eval, Desk, Ready, Queues, Rows, Cells, Lending, Pieces, Splitting, All}

-- the text is the number of a window's entries
pub record IsWindowSize (text : List ℕ) (entries : ℕ) : Type 0 where
  pub numeral : IsNumeral 10 (without_leading_plus text)
  pub value : digits_value 10 (without_leading_plus text) ≡ entries
  pub least : 0 < entries
  pub most : entries ≤ MOST_ENTRIES

-- the words are this name, and behind it the number of a window's entries
pub record AsksForWindow (words : List (List ℕ)) (name : List ℕ) (entries : ℕ) : Type 0 where
  pub text : List ℕ
  pub spelled : words ≡ name ∷ text ∷ []
  pub size : IsWindowSize text entries

-- the words ask for this measurement
abbrev pub IsAskedBy : List (List ℕ) → Command → Type 0
IsAskedBy words (Machine entries) = AsksForWindow words (codes "machine") entries
IsAskedBy words Eval = words ≡ codes "eval" ∷ []
IsAskedBy words Desk = words ≡ codes "desk" ∷ []
IsAskedBy words Ready = words ≡ codes "ready" ∷ []
IsAskedBy words Queues = words ≡ codes "queues" ∷ []
IsAskedBy words Rows = words ≡ codes "rows" ∷ []
IsAskedBy words Cells = words ≡ codes "cells" ∷ []
IsAskedBy words Lending = words ≡ codes "lending" ∷ []
IsAskedBy words Pieces = words ≡ codes "pieces" ∷ []
IsAskedBy words Splitting = words ≡ codes "splitting" ∷ []
IsAskedBy words (All entries) = AsksForWindow words (codes "all") entries
