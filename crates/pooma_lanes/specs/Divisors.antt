-- How a quotient is found without a division.
use Rattle.std.specs.Prelude.{ℕ, ◌*◌, ◌/◌, ◌^◌}
use Rattle.pooma_lanes.specs.declared.divisor.Way.{Way}
use Rattle.pooma_lanes.specs.declared.divisor.Way.TheVariants.{Shift, Product}

-- the quotient of a natural number
abbrev pub quotient_by : Way → ℕ → ℕ
quotient_by (Shift shift) a = a / 2 ^ shift
quotient_by (Product factor shift) a = a * factor / 2 ^ 64 / 2 ^ shift

-- by how many bits it is shifted
abbrev pub shift_of : Way → ℕ
shift_of (Shift shift) = shift
shift_of (Product factor shift) = shift
