-- Rows as contracts see them: the number at a place, and what a kernel leaves.
use Rattle.std.specs.Prelude.{◌≡◌, ℕ, ◌<◌, ◌≤◌, ℤ, pos, List, length, slice_index_or, Result, Ok, Err}
use Rattle.pooma_num.specs.declared.fault.FaultKind.{FaultKind}
use Rattle.pooma_lanes.specs.declared.row.Row.{Row}
use Rattle.pooma_lanes.specs.declared.row.Row.TheVariants.{Numbers, One}
use Rattle.pooma_lanes.specs.declared.row.Place.{Place}

-- the number at a place of a list of numbers
abbrev pub at_place : List ℤ → ℕ → ℤ
at_place numbers k = slice_index_or numbers k (pos 0)

-- the number of an operand at a place
abbrev pub number_at : Row → ℕ → ℤ
number_at (Numbers numbers) k = at_place numbers.now k
number_at (One number) k = number

-- an operand has a number at each of the first `count` places
abbrev pub HasPlaces : Row → ℕ → Type 0
HasPlaces (Numbers numbers) count = count ≤ length numbers.now
HasPlaces (One number) count = Unit {0}

-- an operand for a row of so many places
abbrev pub IsOfLength : Row → ℕ → Type 0
IsOfLength (Numbers numbers) count = length numbers.now ≡ count
IsOfLength (One number) count = Unit {0}

-- Of the places from `start` on: below `end` each has what the operation answers there, and all others are as before.
pub record IsDoneBetween (IsAnswer : ℕ → Result ℤ FaultKind → Type 0) (start : ℕ) (old new : List ℤ) (end : ℕ) : Type 0 where
  pub results : (k : ℕ) → start ≤ k → k < end → IsAnswer k (Ok (at_place new k))
  pub before : (k : ℕ) → k < start → at_place new k ≡ at_place old k
  pub others : (k : ℕ) → end ≤ k → at_place new k ≡ at_place old k

-- below `end` each place of the row has what the operation answers there, and from there on the row is as before
pub record IsDoneUpTo (IsAnswer : ℕ → Result ℤ FaultKind → Type 0) (old new : List ℤ) (end : ℕ) : Type 0 where
  pub results : (k : ℕ) → k < end → IsAnswer k (Ok (at_place new k))
  pub others : (k : ℕ) → end ≤ k → at_place new k ≡ at_place old k

-- the same of the places from `start` on
abbrev pub IsDoneFrom : (ℕ → Result ℤ FaultKind → Type 0) → ℕ → Result (Unit {0}) Place → List ℤ → List ℤ → Type 0
IsDoneFrom IsAnswer start (Ok _) old new = IsDoneBetween IsAnswer start old new (length old)
IsDoneFrom IsAnswer start (Err place) old new =
    (start ≤ place.0) × (place.0 < length old) × IsDoneBetween IsAnswer start old new place.0 × ((fault : FaultKind) × IsAnswer place.0 (Err fault))

-- The whole row is done, or it is done up to a place at which the operation answers a fault. That is then the least such
-- place, since each place below has a result.
abbrev pub IsDone : (ℕ → Result ℤ FaultKind → Type 0) → Result (Unit {0}) Place → List ℤ → List ℤ → Type 0
IsDone IsAnswer (Ok _) old new = IsDoneUpTo IsAnswer old new (length old)
IsDone IsAnswer (Err place) old new =
    (place.0 < length old) × IsDoneUpTo IsAnswer old new place.0 × ((fault : FaultKind) × IsAnswer place.0 (Err fault))

-- each place of the row has this number
abbrev pub IsEach : (ℕ → ℤ) → List ℤ → Type 0
IsEach number row = (k : ℕ) → k < length row → at_place row k ≡ number k
