-- What the fills of a statement make of fields, and what marks say of them.
use Rattle.std.specs.Prelude.{◌≡◌, ℕ, ℤ, false, Some, List, length, slice_get}
use Rattle.pooma_domain.specs.Cells.{IsIn}
use Rattle.pooma_field.specs.Numbered.{Numbered}
use Rattle.pooma_field.specs.Shapes.{Shaped, own_area}
use Rattle.pooma_field.specs.Worlds.{World, HasCell}
use Rattle.pooma_law.specs.Ser.{Results, ser}
use Rattle.pooma_model.specs.declared.statement.Action.{Action}
use Rattle.pooma_store.specs.Numbering.{AreObjects}
use Rattle.pooma_store.specs.Standing.{IsFresh, StandsFor, shape_at}
use Rattle.pooma_store.specs.Stored.{AreArrays, Stored}
use Rattle.pooma_piece.specs.declared.outcome.Outcome.{Outcome}
use Rattle.pooma_piece.specs.Meaning.{pieces}
use Rattle.pooma_fill.specs.declared.stale.Mark.{Mark}
use Rattle.pooma_fill.specs.Marks.{HasArrays, Staled, fills_before}

-- the world has numbers for no other cells of arrays of these shapes than those that have a number of their own
abbrev pub HasOwnAlone : List Shaped → World → Type 0
HasOwnAlone shapes world = (array : ℕ) (c : List ℤ) → HasCell world array c → IsIn (own_area (shape_at shapes array)) c

-- of the store's arrays each whose external cells are not marked is fresh, where its objects have these contents
abbrev pub AreMarked : Stored → List Mark → List Numbered → World → Type 0
AreMarked store marks objects world =
    (array : ℕ) (mark : Mark) → slice_get marks array ≡ Some mark → mark.external ≡ false
    → IsFresh store.shapes store.layouts objects world array

-- the contents of the objects of the store's arrays stand for the world, and each field that is not fresh is marked
pub record CanFill (store : Stored) (stale : Staled) (objects : List Numbered) (world : World) : Type 0 where
  pub arrays : AreArrays store.shapes store.layouts
  pub has : HasArrays store stale
  pub as_many : length stale.marks ≡ length stale.shapes
  pub objects_are : AreObjects store.layouts objects
  pub stands : StandsFor store.layouts objects world
  pub own : HasOwnAlone store.shapes world
  pub marks : AreMarked store stale.marks objects world

-- what is left and what was answered once the fills that an action needs were done, one after another
abbrev pub filled : Stored → Staled → ℕ → Action → List Numbered → Results Numbered Outcome
filled store stale number does objects = ser pieces (fills_before store.layouts stale number does) objects
