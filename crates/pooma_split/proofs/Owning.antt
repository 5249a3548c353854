-- In a part each view's cells are owned by one patch.
use Rattle.std.proofs.Common.{ap, subst, arith}
use Rattle.std.proofs.lemmas.Int.{ints}
use Rattle.std.specs.Prelude.{◌≡◌, ℤ, List, [], ◌∷◌, map, Contains}
use Rattle.pooma_domain.specs.Cells.{Interval, IsIn}
use Rattle.pooma_view.specs.Slots.{cell_named}
use Rattle.pooma_view.specs.Views.{Viewed}
use Rattle.pooma_layout.specs.Patches.{owner_of, Owns}
use Rattle.pooma_layout.proofs.Owning.{owner_owns, same_owner}
use Rattle.pooma_layout.proofs.Stepping.{owner_below}
use Rattle.pooma_model.specs.Declarations.{Declared, layout_at}
use Rattle.pooma_model.specs.Parts.{parts_of}
use Rattle.pooma_model.proofs.CutParts.{parts_together}
use Rattle.pooma_store.specs.Numbering.{HasPatch, object_of}
use Rattle.pooma_store.specs.Standing.{owner_object}
use Rattle.pooma_split.specs.Splits.{IsPlaced, object_for}

-- a box that has a cell has its first one
first_from : (box : List Interval) (p : List ℤ) → IsIn box p → IsIn box (map (λ axis. axis.first) box)
first_from [] p h = tt
first_from (axis ∷ box) [] h = absurd h
first_from (axis ∷ box) (x ∷ p) h = (omega (arith, ints), omega (arith, ints, h.0, h.1), first_from box p h.2)

module _ (declared : Declared) (views : List Viewed) (positions : List Interval) (view : Viewed) (placed : IsPlaced declared positions view) (listed : Contains views view)
    (box : List Interval) (part : Contains (parts_of declared views positions) box) where
  same_patch : (p : List ℤ) → IsIn box p → owner_of (layout_at declared view.array) (cell_named view.slots p) ≡ owner_of (layout_at declared view.array) (cell_named view.slots (map (λ axis. axis.first) box))
  same_patch p h =
      same_owner (layout_at declared view.array) (cell_named view.slots p) (cell_named view.slots (map (λ axis. axis.first) box))
      (parts_together declared views positions view box p (map (λ axis. axis.first) box) listed part placed.slots placed.places h (first_from box p h))

  -- the object whose patch owns a cell of the part is that of the part
  pub same_object : (p : List ℤ) → IsIn box p → owner_object declared.layouts view.array (cell_named view.slots p) ≡ object_for declared box view
  same_object p h = ap (object_of declared.layouts view.array) (same_patch p h)

  pub owns_cell : (p : List ℤ) → IsIn box p → IsIn positions p → Owns (layout_at declared view.array) (owner_of (layout_at declared view.array) (cell_named view.slots (map (λ axis. axis.first) box))) (cell_named view.slots p)
  owns_cell p h inside =
      subst (λ k. Owns (layout_at declared view.array) k (cell_named view.slots p)) (same_patch p h)
      (owner_owns (layout_at declared view.array) (cell_named view.slots p) (placed.cells p inside))

  -- the patch of the part
  pub has_patch : IsIn positions (map (λ axis. axis.first) box) → HasPatch declared.layouts view.array (owner_of (layout_at declared view.array) (cell_named view.slots (map (λ axis. axis.first) box)))
  has_patch inside = record {
    known = placed.there;
    cut = placed.layout;
    within = owner_below (layout_at declared view.array) (cell_named view.slots (map (λ axis. axis.first) box)) (placed.cells (map (λ axis. axis.first) box) inside);
  }
