-- Numbers at equal steps.
use Rattle.std.specs.Prelude.{◌≡◌, ℕ, ◌*◌, ◌<◌, ℤ, pos, ◌+ℤ◌, ◌*ℤ◌}

-- the number is one of so many that ascend by a step
abbrev pub IsStepping : ℤ → ℕ → ℕ → ℤ → Type 0
IsStepping start step count z = (k : ℕ) × (k < count) × (z ≡ start +ℤ pos (step * k))

-- the number is one of so many at a stride
abbrev pub IsStriding : ℤ → ℤ → ℕ → ℤ → Type 0
IsStriding first stride count z = (k : ℕ) × (k < count) × (z ≡ first +ℤ stride *ℤ pos k)
