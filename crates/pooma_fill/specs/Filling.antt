-- The fills of a field: which cells each sets, in which patches, and in which order they come.
use Rattle.std.specs.Prelude.{◌==◌, ℕ, ℤ, pos, Bool, true, false, ◌&&◌, Option, None, Some, option_map, List, [], ◌∷◌, map, filter, filter_map, flat_map, slice_get, slice_index_or}
use Rattle.pooma_domain.specs.Cells.{Interval, cells_of}
use Rattle.pooma_field.specs.declared.shapes.Shape.{Shape}
use Rattle.pooma_field.specs.declared.shapes.Slab.{Slab}
use Rattle.pooma_field.specs.declared.updaters.Updater.{Updater}
use Rattle.pooma_field.specs.declared.updaters.Updater.TheVariants.{Constant, Periodic, Reflect, Antireflect, Extrapolate}
use Rattle.pooma_field.specs.Shapes.{Shaped}
use Rattle.pooma_field.specs.ShapeOf.{shape_of}
use Rattle.pooma_field.specs.Slabs.{cell_sources, slabs_of, sources_along}
use Rattle.pooma_layout.specs.Axes.{CutAxis}
use Rattle.pooma_layout.specs.Patches.{owner_of}
use Rattle.pooma_expr.specs.declared.tree.Expr.TheVariants.{Literal}
use Rattle.pooma_piece.specs.declared.task.Task.TheVariants.{Fill}
use Rattle.pooma_piece.specs.Pieces.{Pieced}
use Rattle.pooma_store.specs.Numbering.{layout_at, object_of, patch_count}
use Rattle.pooma_fill.specs.Boxes.{box_of, numbers_below}

-- the number of the axis whose value an updater takes for a number beside it, where it is no constant: for `extrapolate` the face
abbrev pub number_from : Updater → Interval → ℤ → ℤ
number_from updater axis x = slice_index_or (sources_along updater axis x) 0 (pos 0)

-- the first cell from which a slab's cell takes its value, where the slab's updater is no constant
abbrev pub source_from : Shaped → Slab → List ℤ → List ℤ
source_from shape slab c = slice_index_or (cell_sources shape slab c) 0 []

-- the patch that owns the first of a cell's sources; none where the slab's updater is a constant
abbrev pub source_owner : List CutAxis → Shaped → Slab → List ℤ → Option ℕ
source_owner layout shape slab c = option_map (owner_of layout) (slice_get (cell_sources shape slab c) 0)

abbrev pub is_patch : Option ℕ → Option ℕ → Bool
is_patch None None = true
is_patch None (Some q) = false
is_patch (Some p) None = false
is_patch (Some p) (Some q) = p == q

-- the slab's cells that this patch owns, and whose values are taken from this one, or from none
abbrev pub cells_filled : List CutAxis → Shaped → Slab → ℕ → Option ℕ → List (List ℤ)
cells_filled layout shape slab target source =
    filter (λ c. (owner_of layout c == target) && is_patch (source_owner layout shape slab c) source) (cells_of slab.target)

-- the patches from which values are taken, in order; from none where the updater is a constant
abbrev pub patches_of : Updater → ℕ → List (Option ℕ)
patches_of (Constant k) count = None ∷ []
patches_of Periodic count = map Some (numbers_below count)
patches_of Reflect count = map Some (numbers_below count)
patches_of Antireflect count = map Some (numbers_below count)
patches_of Extrapolate count = map Some (numbers_below count)

-- the fill of a box of cells of an array's slab, for a statement: it writes the patch that owns them, and reads for each source
-- of its first cell the patch that owns that source, which is the same for all of them
abbrev pub fill_of_box : List (List CutAxis) → ℕ → Shape → ℕ → Slab → ℕ → List Interval → Pieced
fill_of_box layouts number shape array slab target box =
    record {
      statement = number;
      positions = box;
      task = Fill shape slab array;
      code = Literal (pos 0);
      write = Some (object_of layouts array target);
      reads = map (λ s. object_of layouts array (owner_of (layout_at layouts array) s)) (cell_sources (shape_of shape) slab (map (λ axis. axis.first) box));
    }

-- the fills of a slab that set cells of this patch, by the patch from which the values are taken
abbrev pub fills_of_patch : List (List CutAxis) → ℕ → Shape → ℕ → Slab → ℕ → List Pieced
fills_of_patch layouts number shape array slab target =
    filter_map
    (λ source. option_map (fill_of_box layouts number shape array slab target)
    (box_of (cells_filled (layout_at layouts array) (shape_of shape) slab target source)))
    (patches_of slab.updater (patch_count (layout_at layouts array)))

-- the fills of a slab, by the patch whose cells they set
abbrev pub fills_of_slab : List (List CutAxis) → ℕ → Shape → ℕ → Slab → List Pieced
fills_of_slab layouts number shape array slab =
    flat_map (fills_of_patch layouts number shape array slab) (numbers_below (patch_count (layout_at layouts array)))

-- the fills of a field: slab by slab, in their order
abbrev pub fills_of_field : List (List CutAxis) → ℕ → Shape → ℕ → List Pieced
fills_of_field layouts number shape array = flat_map (fills_of_slab layouts number shape array) (slabs_of (shape_of shape))
