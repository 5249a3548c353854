-- What several of the records of laws here and above say of the cells of boxes, and of the numbers that pieces make. No contract
-- of a call cites it.
use Rattle.std.specs.Prelude.{◌≡◌, ◌↔◌, ℕ, ℤ, Some, List, slice_get, All, AllPairs, Contains}
use Rattle.pooma_domain.specs.Cells.{Interval, cells_of, IsBefore, IsIn}
use Rattle.pooma_field.specs.Numbered.{Numbered}
use Rattle.pooma_law.specs.Ser.{ser}
use Rattle.pooma_piece.specs.Meaning.{pieces}
use Rattle.pooma_piece.specs.Pieces.{Pieced}
use Rattle.pooma_piece.specs.Words.{AllWords, MakesWords}

-- a box has its cells once each, in their order
abbrev pub HasMembers : Type 0
HasMembers = (box : List Interval) (c : List ℤ) → Contains (cells_of box) c ↔ IsIn box c

pub record OfCells : Type 0 where
  pub members : HasMembers
  pub once : (box : List Interval) (c : List ℤ) (j k : ℕ) → slice_get (cells_of box) j ≡ Some c → slice_get (cells_of box) k ≡ Some c → j ≡ k
  pub ascending : (box : List Interval) → AllPairs IsBefore (cells_of box)

-- pieces that make numbers of 64 bits leave such numbers
abbrev pub StayWords : Type 0
StayWords = (plan : List Pieced) (objects : List Numbered) → All MakesWords plan → AllWords objects → AllWords (ser pieces plan objects).objects
