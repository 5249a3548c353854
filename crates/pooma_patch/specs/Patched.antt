-- What contracts see of a patch.
use Rattle.std.specs.Prelude.{Bool}
use Rattle.pooma_field.specs.Numbered.{Numbered}

-- the box with a number for each of its cells, and whether these are kept as one
pub record Patched : Type 0 where
  pub content : Numbered
  pub one : Bool
