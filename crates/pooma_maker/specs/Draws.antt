-- The sequence of draws from a seed.
use Rattle.std.specs.Prelude.{ℕ, zero, suc, ◌+◌, ◌*◌, ◌/◌, ◌%◌}

-- the number that follows another
abbrev pub next : ℕ → ℕ
next x = (x * 1103515245 + 12345) % 2147483648

-- the number that follows the seed by so many steps
abbrev pub number_after : ℕ → ℕ → ℕ
number_after seed zero = seed
number_after seed (suc steps) = next (number_after seed steps)

-- the draw of a place, counted from 0: the upper bits of the number that comes by its step
abbrev pub draw : ℕ → ℕ → ℕ
draw seed place = number_after seed (place + 1) / 65536
