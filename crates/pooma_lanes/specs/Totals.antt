-- The sum of a row.
use Rattle.std.specs.Prelude.{ℤ, pos, ◌+ℤ◌, List}
use Rattle.std.specs.List.{fold}

-- the sum of all numbers
abbrev pub sum_of : List ℤ → ℤ
sum_of numbers = fold (λ x y. x +ℤ y) (pos 0) numbers
