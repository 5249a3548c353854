-- What contracts see of a store, and what holds of one.
use Rattle.std.specs.Prelude.{◌≡◌, ◌↔◌, ◌⊎◌, ℕ, ◌<◌, ◌≤◌, Bool, true, false, Some, List, [], length, map, slice_get, slice_index_or, IsTrue}
use Rattle.std.specs.Arc.{arc_value}
use Rattle.std.specs.declared.alloc.Global.{Global}
use Rattle.std.specs.declared.sync.Arc.{Arc}
use Rattle.pooma_compress.specs.Kept.{AreEqual}
use Rattle.pooma_domain.specs.Cells.{cells_of}
use Rattle.pooma_field.specs.Numbered.{Numbered}
use Rattle.pooma_field.specs.Shapes.{Shaped, IsShape}
use Rattle.pooma_layout.specs.Axes.{CutAxis}
use Rattle.pooma_layout.specs.Patches.{physical_of, total_of, IsLayout}
use Rattle.pooma_patch.specs.Patched.{Patched}
use Rattle.pooma_store.specs.Numbering.{layout_at, AreObjects}
use Rattle.pooma_store.specs.Standing.{shape_at}

-- the arrays' shapes and layouts by the arrays' numbers, the contents of the objects by theirs, and whether the objects are lent;
-- then there are no contents
pub record Stored : Type 0 where
  pub shapes : List Shaped
  pub layouts : List (List CutAxis)
  pub objects : List Numbered
  pub lent : Bool

-- the contents of shared patches
abbrev pub contents_of : List (Arc Patched Global) → List Numbered
contents_of patches = map (λ (arc : Arc Patched Global). (arc_value arc).content) patches

-- which shared patches are kept as one number
abbrev pub ones_of : List (Arc Patched Global) → List Bool
ones_of patches = map (λ (arc : Arc Patched Global). (arc_value arc).one) patches

-- How a patch that comes so is kept: as it came, or as one number exactly where its numbers are all equal. The first is for a patch
-- that has another owner, which no clause sees.
abbrev pub IsKept : Patched → Bool → Type 0
IsKept came one = (one ≡ came.one) ⊎ (IsTrue one ↔ AreEqual came.content.numbers)

-- how each of these patches is kept
abbrev pub AreKept : List (Arc Patched Global) → List Bool → Type 0
AreKept patches ones =
    (length ones ≡ length patches)
    × ((k : ℕ) (arc : Arc Patched Global) → slice_get patches k ≡ Some arc → IsKept (arc_value arc) (slice_index_or ones k false))

-- a shape and a layout have the same domains, of at most 4,194,304 cells in all
pub record Fits (shape : Shaped) (layout : List CutAxis) : Type 0 where
  pub physical : shape.physical ≡ physical_of layout
  pub total : shape.total ≡ total_of layout
  pub few : length (cells_of shape.total) ≤ 4194304

-- each of at most 512 arrays has a shape and a layout that fit
pub record AreArrays (shapes : List Shaped) (layouts : List (List CutAxis)) : Type 0 where
  pub both : length shapes ≡ length layouts
  pub few : length layouts ≤ 512
  pub fitting : (array : ℕ) → array < length layouts → Fits (shape_at shapes array) (layout_at layouts array)
  pub shaped : (array : ℕ) → array < length layouts → IsShape (shape_at shapes array)
  pub cut : (array : ℕ) → array < length layouts → IsLayout (layout_at layouts array)

-- what holds of a store
pub record IsStore (store : Stored) : Type 0 where
  pub arrays : AreArrays store.shapes store.layouts
  pub here : store.lent ≡ false → AreObjects store.layouts store.objects
  pub away : store.lent ≡ true → store.objects ≡ []
