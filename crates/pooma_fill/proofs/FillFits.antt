-- Each fill fits the areas of its patches.
use Rattle.std.proofs.Common.{refl, sym, ap, ◌∙◌, subst, inr, arith}
use Rattle.std.proofs.lemmas.List.Elements.{All-contains, All-map, Contains-get_or}
use Rattle.std.proofs.lemmas.Option.{get_or_from_slice_get, slice_get-map, slice_get_within, same_Some}
use Rattle.std.proofs.lemmas.Simd.{map-map}
use Rattle.std.specs.Option.{option_and_then}
use Rattle.std.specs.Prelude.{◌≡◌, ℕ, ◌<◌, ℤ, pos, Option, Some, None, option_map, List, length, map, slice_get, slice_index_or, All, Contains}
use Rattle.pooma_domain.specs.Cells.{Interval, IsIn}
use Rattle.pooma_domain.specs.Operations.{common_axes, IsMeeting}
use Rattle.pooma_view.specs.Views.{Viewed}
use Rattle.pooma_field.specs.declared.shapes.Shape.{Shape}
use Rattle.pooma_field.specs.declared.shapes.Slab.{Slab}
use Rattle.pooma_field.specs.Shapes.{IsShape}
use Rattle.pooma_field.specs.ShapeOf.{shape_of}
use Rattle.pooma_field.specs.Slabs.{cell_sources, slabs_of}
use Rattle.pooma_field.proofs.SlabValues.{sources_total}
use Rattle.pooma_layout.specs.Axes.{CutAxis}
use Rattle.pooma_layout.specs.Patches.{IsLayout, allocated_boxes, allocated_of, owned_boxes, owner_of, total_of}
use Rattle.pooma_layout.proofs.Allocating.{allocated_cells}
use Rattle.pooma_layout.proofs.Stepping.{owner_below}
use Rattle.pooma_expr.specs.declared.tree.Expr.TheVariants.{Literal}
use Rattle.pooma_expr.specs.Trees.{views_of}
use Rattle.pooma_machine.specs.Values.{Lent, lent_by}
use Rattle.pooma_store.specs.Numbering.{areas_of, layout_at, object_count, object_of}
use Rattle.pooma_store.proofs.ObjectNumbers.{area_at, length-areas, object_there}
use Rattle.pooma_piece.specs.Lent.{FillsIn, HasCell, HaveSources, IsFitting, lent_for}
use Rattle.pooma_piece.specs.Pieces.{Pieced, requests_of}
use Rattle.pooma_piece.proofs.Below.{requests_below}
use Rattle.pooma_piece.proofs.Naming.{lent_is, written_is}
use Rattle.pooma_fill.specs.Filling.{fill_of_box}
use Rattle.pooma_fill.proofs.Codes.{literal_views}
use Rattle.pooma_fill.proofs.Listed.{HasLaws, in_owned}
use Rattle.pooma_fill.proofs.FilledCells.{IsTaken, of_slab, owned_box, owners_same, owns_it, total_cell}
use Rattle.pooma_fill.proofs.SlabFills.{IsFillOf}

-- a slab of a field over its array's layout
pub record IsOver (layouts : List (List CutAxis)) (array : ℕ) (shape : Shape) (slab : Slab) : Type 0 where
  pub known : array < length layouts
  pub layout : IsLayout (layout_at layouts array)
  pub valid : IsShape (shape_of shape)
  pub same : (shape_of shape).total ≡ total_of (layout_at layouts array)
  pub there : Contains (slabs_of (shape_of shape)) slab

module _ (laws : HasLaws) (meeting : (a b : List Interval) → length a ≡ length b → IsMeeting a b (common_axes a b)) (layouts : List (List CutAxis)) (array : ℕ) (shape : Shape) (slab : Slab) (over : IsOver layouts array shape slab) (number : ℕ) where
  -- one of the slab's fills
  abbrev pub IsFill : Pieced → Type 0
  IsFill piece = IsFillOf laws meeting layouts array shape over.layout.axes over.valid over.same slab over.there number piece

  -- the object of the patch that owns a cell
  abbrev pub object_with : List ℤ → ℕ
  object_with s = object_of layouts array (owner_of (layout_at layouts array) s)

  -- each source of a cell is a total cell
  pub source_is_total : (c s : List ℤ) → IsIn slab.target c → Contains (cell_sources (shape_of shape) slab c) s → IsIn (total_of (layout_at layouts array)) s
  source_is_total c s inside h =
      subst (λ (box : List Interval). IsIn box s) over.same
      (All-contains (IsIn (shape_of shape).total) (cell_sources (shape_of shape) slab c) s
      (sources_total (shape_of shape) slab c over.valid (of_slab (layout_at layouts array) over.layout.axes (shape_of shape) over.valid over.same slab over.there c inside)) h)

  -- the area of the patch that owns a cell has the cell
  area_with : (s : List ℤ) → IsIn (total_of (layout_at layouts array)) s → (area : List Interval) × (slice_get (areas_of layouts) (object_with s) ≡ Some area) × IsIn area s
  area_with s total =
      let layout = layout_at layouts array in
      let box = owned_box layout over.layout.axes (shape_of shape) over.valid over.same slab over.there s total in
      let allocated : slice_get (allocated_boxes layout) (owner_of layout s) ≡ Some (allocated_of layout box.0) =
      slice_get-map (allocated_of layout) (owned_boxes layout) (owner_of layout s) ∙ ap (option_map (allocated_of layout)) box.1 in (
        allocated_of layout box.0,
        area_at layouts array (owner_of layout s) (allocated_of layout box.0) over.known allocated,
        (allocated_cells layout (owner_of layout s) box.0 s over.layout.axes box.1).0 box.2,
      )

  pub object_known : (s : List ℤ) → IsIn (total_of (layout_at layouts array)) s → object_with s < object_count layouts
  object_known s total = object_there layouts array (owner_of (layout_at layouts array) s) over.known (owner_below (layout_at layouts array) s total)

  module _ (piece : Pieced) (fill : IsFill piece) where
    abbrev work : Pieced
    work = fill_of_box layouts number shape array slab fill.target fill.box

    abbrev corner : List ℤ
    corner = map (λ axis. axis.first) fill.box

    pub taken : (c : List ℤ) → IsIn fill.box c → IsTaken (layout_at layouts array) over.layout.axes (shape_of shape) over.valid over.same slab over.there fill.target fill.source c
    taken c h = (fill.cells c).0 h

    -- for each of its cells it reads the patches that own the cell's sources
    pub reads_are : (c : List ℤ) → IsIn fill.box c → work.reads ≡ map object_with (cell_sources (shape_of shape) slab c)
    reads_are c h =
        sym (map-map (object_of layouts array) (owner_of (layout_at layouts array)) (cell_sources (shape_of shape) slab corner))
        ∙ ap (map (object_of layouts array))
        (owners_same (layout_at layouts array) over.layout.axes (shape_of shape) over.valid over.same slab over.there fill.target fill.source corner c (taken corner fill.first) (taken c h))
        ∙ map-map (object_of layouts array) (owner_of (layout_at layouts array)) (cell_sources (shape_of shape) slab c)

    read_known : All (λ o. o < object_count layouts) work.reads
    read_known =
        All-map (λ o. o < object_count layouts) object_with (cell_sources (shape_of shape) slab corner)
        (λ k d below. object_known (slice_index_or (cell_sources (shape_of shape) slab corner) k d) (source_is_total corner (slice_index_or (cell_sources (shape_of shape) slab corner) k d) (taken corner fill.first).inside (Contains-get_or (cell_sources (shape_of shape) slab corner) k d below)))

    target_known : (o : ℕ) → Some (object_of layouts array fill.target) ≡ Some o → o < object_count layouts
    target_known o is = subst (λ (k : ℕ). k < object_count layouts) (same_Some (object_of layouts array fill.target) o is) (object_there layouts array fill.target over.known fill.within)

    pub asks_known : All (λ r. r.object < object_count layouts) (requests_of work)
    asks_known = requests_below (object_count layouts) (Some (object_of layouts array fill.target)) work.reads target_known read_known

    abbrev lent : Lent (List Interval)
    lent = lent_by (areas_of layouts) (requests_of work)

    all_there : All (λ r. r.object < length (areas_of layouts)) (requests_of work)
    all_there = subst (λ (n : ℕ). All (λ r. r.object < n) (requests_of work)) (sym (length-areas layouts)) asks_known

    -- the area that is written
    target_area : (area : List Interval) × (slice_get (areas_of layouts) (object_of layouts array fill.target) ≡ Some area) × ((c : List ℤ) → IsIn fill.box c → IsIn area c)
    target_area =
        let layout = layout_at layouts array in
        let of_corner = taken corner fill.first in
        let box = owned_box layout over.layout.axes (shape_of shape) over.valid over.same slab over.there corner (total_cell layout over.layout.axes (shape_of shape) over.valid over.same slab over.there corner of_corner.inside) in
        let at : slice_get (owned_boxes layout) fill.target ≡ Some box.0 = ap (slice_get (owned_boxes layout)) (sym of_corner.owner) ∙ box.1 in
        let allocated : slice_get (allocated_boxes layout) fill.target ≡ Some (allocated_of layout box.0) =
        slice_get-map (allocated_of layout) (owned_boxes layout) fill.target ∙ ap (option_map (allocated_of layout)) at in (
          allocated_of layout box.0,
          area_at layouts array fill.target (allocated_of layout box.0) over.known allocated,
          λ c h. (allocated_cells layout fill.target box.0 c over.layout.axes at).0
              (in_owned layout fill.target box.0 c at (owns_it layout over.layout.axes (shape_of shape) over.valid over.same slab over.there fill.target fill.source c (taken c h))),
        )

    fills_in : (w : Option (List Interval)) → w ≡ lent.written → w ≡ slice_get (areas_of layouts) (object_of layouts array fill.target) → FillsIn (shape_of shape) slab work w lent.reads
    fills_in None e f = let clash : None ≡ Some target_area.0 = f ∙ target_area.1 in cc
    fills_in (Some area) e f = λ c h. (
      subst (λ (b : List Interval). IsIn b c) (same_Some target_area.0 area (sym target_area.1 ∙ sym f)) (target_area.2 c h),
      sources c h,
    )
      where
        sources : (c : List ℤ) → IsIn fill.box c → HaveSources work (Some area) lent.reads (cell_sources (shape_of shape) slab c)
        sources c h k object s at_read at_source =
            let is : Some (object_with s) ≡ Some object =
            sym (ap (option_map object_with) at_source) ∙ sym (slice_get-map object_with (cell_sources (shape_of shape) slab c) k) ∙ ap (λ (os : List ℕ). slice_get os k) (sym (reads_are c h)) ∙ at_read in
            let listed : Contains (cell_sources (shape_of shape) slab c) s = (k, slice_get_within (cell_sources (shape_of shape) slab c) k s at_source, get_or_from_slice_get (cell_sources (shape_of shape) slab c) k s s at_source) in
            let found = area_with s (source_is_total c s (taken c h).inside listed) in
            let named : Contains work.reads object = (k, slice_get_within work.reads k object at_read, get_or_from_slice_get work.reads k object object at_read) in
            let here : lent_for work (Some area) lent.reads object ≡ Some found.0 =
            ap (λ (w : Option (List Interval)). lent_for work w lent.reads object) e
            ∙ lent_is work (areas_of layouts) object all_there (inr named)
            ∙ ap (slice_get (areas_of layouts)) (sym (same_Some (object_with s) object is)) ∙ found.1 in
            subst (λ (o : Option (List Interval)). HasCell o s) (sym here) found.2

    pub is_fitting : IsFitting work lent.written lent.reads
    is_fitting = record {
      read_there = λ view h. absurd (none h);
      set_there = fills_in lent.written refl (ap (option_and_then (slice_get (areas_of layouts))) (written_is (Some (object_of layouts array fill.target)) work.reads));
    }
      where
        none : {view : Viewed} → Contains (views_of (Literal (pos 0))) view → ⊥
        none h = let empty = ap length (literal_views (pos 0)) in omega (arith, h.1, empty)
