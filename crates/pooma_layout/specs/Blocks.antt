-- Parts of nearly one length.
use Rattle.std.specs.Prelude.{◌≡◌, ℕ, ◌+◌, ◌-◌, ◌*◌, ◌/◌, ◌%◌, ◌<◌, min, ℤ, pos, ◌+ℤ◌, ◌≤ℤ◌, List, [], ◌∷◌, ◌++◌, length, map, replicate, slice_index_or}
use Rattle.pooma_domain.specs.Cells.{Interval, axis_length, count_of}
use Rattle.pooma_layout.specs.Axes.{CutAxis, cut_at}

-- the lengths of the parts, without the external guards
abbrev pub part_lengths : CutAxis → List ℕ
part_lengths axis = map axis_length (cut_at axis.physical.first axis.borders axis.physical.last)

-- so many parts of so many cells: where the parts do not divide the cells, the first ones have one cell more
abbrev pub block_lengths : ℕ → ℕ → List ℕ
block_lengths cells parts = replicate (cells % parts) (cells / parts + 1) ++ replicate (parts - cells % parts) (cells / parts)

-- so many cells stand before a block
abbrev pub block_start : ℕ → ℕ → ℕ → ℕ
block_start cells parts k = k * (cells / parts) + min k (cells % parts)

-- the borders are the numbers at which the second and later blocks start
abbrev pub AreBlockStarts : ℤ → ℕ → ℕ → List ℤ → Type 0
AreBlockStarts first cells parts borders =
    (k : ℕ) (d : ℤ) → k < length borders → slice_index_or borders k d ≡ first +ℤ pos (block_start cells parts (k + 1))

-- an axis can be cut into so many parts: at least one, and each gets a cell
abbrev pub IsPartCount : Interval → ℤ → Type 0
IsPartCount axis parts = (pos 1 ≤ℤ parts) × (parts ≤ℤ pos (axis_length axis))

-- the lengths of so many blocks of an axis
abbrev pub blocks_of : Interval → ℤ → List ℕ
blocks_of axis parts = block_lengths (axis_length axis) (count_of parts)

abbrev pub product : List ℕ → ℕ
product [] = 1
product (x ∷ xs) = x * product xs
