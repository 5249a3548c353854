-- What contracts see of a total.
use Rattle.std.specs.Prelude.{ℕ, ◌+◌, ℤ, ◌+ℤ◌}

-- a whole number, and of how many values it is the sum
pub record Sum : Type 0 where
  pub number : ℤ
  pub count : ℕ

-- a sum and one value more
abbrev pub pushed : Sum → ℤ → Sum
pushed s v = record { number = s.number +ℤ v; count = s.count + 1 }

-- two sums together
abbrev pub merged : Sum → Sum → Sum
merged s t = record { number = s.number +ℤ t.number; count = s.count + t.count }
