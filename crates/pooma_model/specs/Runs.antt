-- Runs as they go on, statement by statement.
use Rattle.std.specs.Prelude.{◌≡◌, ℕ, ◌<◌, false, true, List, [], ◌∷◌, ◌++◌, length}
use Rattle.pooma_field.specs.Numbered.{IsFull}
use Rattle.pooma_field.specs.Shapes.{own_area}
use Rattle.pooma_field.specs.Worlds.{World, array_of}
use Rattle.pooma_model.specs.declared.statement.Statement.{Statement}
use Rattle.pooma_model.specs.Assigning.{Effect, Becomes, Faults}
use Rattle.pooma_model.specs.Declarations.{Declared, shape_at}
use Rattle.pooma_model.specs.Serial.{Run, effect_of}
use Rattle.pooma_model.specs.Texts.{fault_text}

-- the world after an effect: a fault leaves it
abbrev pub world_of : Effect → World → World
world_of (Becomes new) old = new
world_of (Faults fault) old = old

-- the world after these statements
abbrev pub world_after : Declared → List Statement → World → World
world_after declared [] world = world
world_after declared (s ∷ rest) world = world_after declared rest (world_of (effect_of declared s.action world) world)

-- a run without a fault, and then another one
abbrev pub followed_by : Run → Run → Run
followed_by front rest = record { bytes = front.bytes ++ rest.bytes; faulted = rest.faulted }

-- what a statement on this line adds to a run: what it prints, or the text of its fault
abbrev pub with_effect : Run → ℕ → List ℕ → Effect → Run
with_effect run line bytes (Becomes world) = record { bytes = run.bytes ++ bytes; faulted = false }
with_effect run line bytes (Faults fault) = record { bytes = run.bytes ++ fault_text line fault; faulted = true }

-- a world has the declared arrays, each with a number for each cell of its own, and the declared scalars
pub record IsWorldOf (declared : Declared) (world : World) : Type 0 where
  pub arrays : length world.arrays ≡ length declared.shapes
  pub scalars : length world.scalars ≡ declared.scalars
  pub areas : (array : ℕ) → array < length declared.shapes → (array_of world array).area ≡ own_area (shape_at declared array)
  pub full : (array : ℕ) → array < length declared.shapes → IsFull (array_of world array)
