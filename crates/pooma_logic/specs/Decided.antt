-- Facts of which it can be told whether they hold.
use Rattle.std.specs.Prelude.{◌⊎◌}

-- a fact holds, or it does not
abbrev pub Or_not : Type 0 → Type 0
Or_not P = P ⊎ (P → ⊥)
