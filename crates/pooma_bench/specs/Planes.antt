-- What is read at a position of a measured evaluation.
use Rattle.std.specs.Prelude.{ℕ, ◌+◌, ◌<◌, ℤ, pos, ◌≤ℤ◌, unsigned_abs, List, length, slice_index, slice_index_or}

-- the position's number
abbrev pub place_of : List ℤ → ℕ
place_of p = unsigned_abs (slice_index_or p 0 (pos 0))

-- the number so far behind the read's start
abbrev pub number_of : List ℤ → List ℕ → ℕ → List ℤ → ℤ
number_of numbers starts read p = slice_index_or numbers (slice_index starts read + place_of p) (pos 0)

-- the read has a start, the position a number from 0 on, and the vector reaches so far
abbrev pub CanRead : List ℤ → List ℕ → ℕ → List ℤ → Type 0
CanRead numbers starts read p =
    (read < length starts) × (0 < length p) × (pos 0 ≤ℤ slice_index_or p 0 (pos 0)) × (slice_index starts read + place_of p < length numbers)
