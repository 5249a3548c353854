-- What comparisons give.
use Rattle.std.specs.Prelude.{ℤ, pos, Bool, not, if◌then◌else◌, int_lt, int_le}
use Rattle.std.specs.Ordering.{int_eq}
use Rattle.pooma_lanes.specs.declared.orders.Compare.{Compare}
use Rattle.pooma_lanes.specs.declared.orders.Compare.TheVariants as compare

-- 1 where a test holds, and else 0
abbrev pub as_number : Bool → ℤ
as_number test = if test then pos 1 else pos 0

-- whether a comparison of two numbers holds
abbrev pub holds : Compare → ℤ → ℤ → Bool
holds compare.Less a b = int_lt a b
holds compare.LessEq a b = int_le a b
holds compare.Greater a b = int_lt b a
holds compare.GreaterEq a b = int_le b a
holds compare.Equal a b = int_eq a b
holds compare.Unequal a b = not (int_eq a b)
