-- Whole numbers at one distance from each other.
use Rattle.std.specs.Prelude.{ℕ, zero, suc, ℤ, ◌+ℤ◌, List, [], ◌∷◌}
use Rattle.pooma_domain.specs.declared.strides.Strided.{Strided}

-- so many numbers from a first one on, each a stride from the one before
abbrev pub striding : ℤ → ℤ → ℕ → List ℤ
striding first stride zero = []
striding first stride (suc n) = first ∷ striding (first +ℤ stride) stride n

-- the numbers that a strided axis stands for, in order
abbrev pub elements : Strided → List ℤ
elements s = striding s.first s.stride s.count
