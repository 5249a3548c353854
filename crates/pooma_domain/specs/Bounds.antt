-- When a number that goes by a stride has not passed a last one.
use Rattle.std.specs.Prelude.{ℤ, pos, neg_ℤ, ◌≤ℤ◌, ◌<ℤ◌}

-- on the way that the stride goes, the number is not behind the last one
abbrev pub IsNotPast : ℤ → ℤ → ℤ → Type 0
IsNotPast stride last x = (pos 0 <ℤ stride → x ≤ℤ last) × (stride <ℤ pos 0 → last ≤ℤ x)

-- the number lies within plus and minus 999,999,999
abbrev pub IsBounded : ℤ → Type 0
IsBounded x = (neg_ℤ (pos 999999999) ≤ℤ x) × (x ≤ℤ pos 999999999)
