use Rattle.std.proofs.Common.{◌≡◌, ◌<◌, ◌∙◌, sym, ap, subst, arith, refl, ℕ, ℤ, List, [], ◌∷◌, ◌++◌, length, map, Option, Some, append-nil}
use Rattle.std.proofs.lemmas.Bool.{false≢true}
use Rattle.std.specs.List.{cons_option}
use Rattle.std.specs.Prelude.{filter_map, option_map, slice_get}
use Rattle.pooma_domain.specs.Cells.{Interval}
use Rattle.pooma_field.specs.ShapeOf.{shape_of}
use Rattle.pooma_field.specs.Updaters.{IsConstant}
use Rattle.pooma_layout.specs.Axes.{CutAxis}
use Rattle.pooma_layout.specs.Patches.{owned_boxes, total_of}
use Rattle.pooma_piece.specs.Pieces.{Pieced}
use Rattle.pooma_store.specs.Numbering.{layout_at, patch_count}
use Rattle.pooma_fill.specs.Boxes.{box_of, numbers_below}
use Rattle.pooma_fill.specs.Filling.{cells_filled, fill_of_box, patches_of}
use Rattle.pooma_fill.proofs.Listed.{HasLaws, IsLaid, dims_in, filled_constant, filled_nowhere, in_owned, laid_in_store, none_of, owned_total, patches_constant, part_owned, patches_more, patches_moving}
use Rattle.pooma_fill.proofs.Taken.{ordered_box}
use Rattle.pooma_fill.proofs.fills.add_of_patch.Goals as goal
use Rattle.pooma_fill.proofs.fills.add_of_patch.Goals.{After-layout-layout, After-objects-count, After-owned-owned, After-owners_of_cells}

-- what the laws on boxes and on owners say
laws : (c : After-owners_of_cells) → HasLaws
laws c =
    record {
      cells = record { members = c.order_of_cells.ensures.members; once = c.order_of_cells.ensures.once; ascending = c.order_of_cells.ensures.ascending };
      owners = record { total = c.owners_of_cells.ensures.total; owned = c.owners_of_cells.ensures.owned; only = c.owners_of_cells.ensures.no_other };
    }

-- the cells of the slab, and those from which they are taken, are cells of the layout
laid : (c : After-objects-count) → IsLaid (layout_at c.args.store.now.layouts c.args.array) (shape_of c.args.shape.now) c.args.slab.now
laid c =
    laid_in_store c.args.store.now.shapes c.args.store.now.layouts c.args.array (shape_of c.args.shape.now) c.args.slab.now c.objects-count.ensures.valid.arrays c.requires.array c.requires.shape
    (λ cell h. (c.slabs_in_order.ensures.external (shape_of c.args.shape.now) c.args.slab.now cell c.args.shape.now.valid c.requires.slab h).0)
    (λ cell h. c.slabs_in_order.ensures.total_sources (shape_of c.args.shape.now) c.args.slab.now cell c.args.shape.now.valid c.requires.slab h)

-- the box of the cells that the target owns
owned : (c : After-owned-owned) → slice_get (owned_boxes (layout_at c.args.store.now.layouts c.args.array)) c.args.target ≡ Some c.owned-owned.result
owned c = subst (λ (l : List CutAxis). slice_get (owned_boxes l) c.args.target ≡ Some c.owned-owned.result) c.layout-layout.ensures c.owned-owned.ensures

-- the fill of the cells whose values are taken from a patch, or from none, where there are any
abbrev fill_from : After-layout-layout → Option ℕ → Option Pieced
fill_from c source =
    option_map (fill_of_box c.args.store.now.layouts c.args.number c.args.shape.now c.args.array c.args.slab.now c.args.target)
    (box_of (cells_filled (layout_at c.args.store.now.layouts c.args.array) (shape_of c.args.shape.now) c.args.slab.now c.args.target source))

pub owned-owned-requires : goal.owned-owned-requires
owned-owned-requires c = subst (λ (l : List CutAxis). c.args.target < length (owned_boxes l)) (sym c.layout-layout.ensures) c.requires.patch

pub meet-requires : goal.meet-requires
meet-requires c =
    let at = goal.at.meet-requires c in
    let layout = layout_at c.args.store.now.layouts c.args.array in
    let slab = c.args.slab.now in
    let over = laid at.After-objects-count in
    dims_in slab.target (total_of layout) (ordered_box slab.target c.dims-target_dims.ensures.valid) over.total
    ∙ sym (dims_in c.owned-owned.result (total_of layout) (ordered_box c.owned-owned.result c.dims-owned_dims.ensures.valid)
    (owned_total layout c.args.target c.owned-owned.result (λ q cell h. c.owners_of_cells.ensures.total layout q cell over.cut h) (owned at.After-owned-owned)))

pub returns-in_default : goal.returns-in_default
returns-in_default c =
    let at = goal.at.returns-in_default c in
    let layout = layout_at c.args.store.now.layouts c.args.array in
    let slab = c.args.slab.now in
    let none = none_of (fill_from at.After-layout-layout) (patches_of slab.updater (patch_count layout))
    (λ source. ap (option_map (fill_of_box c.args.store.now.layouts c.args.number c.args.shape.now c.args.array slab c.args.target))
    (filled_nowhere (laws at.After-owners_of_cells) layout (shape_of c.args.shape.now) slab c.args.target source (laid at.After-objects-count)
    (λ cell h own. false≢true (c.in_default.ensures.found.1 (cell, h, in_owned layout c.args.target c.owned-owned.result cell (owned at.After-owned-owned) own))))) in
    sym (append-nil c.args.list.now.items) ∙ ap (λ (fills : List Pieced). c.args.list.now.items ++ fills) (sym none)

pub fill_over-requires-clause-inside : goal.fill_over-requires-clause-inside
fill_over-requires-clause-inside c cell h = ((c.in-Some.ensures.cells cell).0 h).0

pub returns-then-is_constant : goal.returns-then-is_constant
returns-then-is_constant c =
    let at = goal.at.returns-then-is_constant c in
    let layout = layout_at c.args.store.now.layouts c.args.array in
    let slab = c.args.slab.now in
    let meets = λ (cell : List ℤ). part_owned layout c.args.target c.owned-owned.result slab.target c.in-Some.part cell (owned at.After-owned-owned) (c.in-Some.ensures.cells cell) in
    let constant = c.is_constant.ensures.0 c.if-is_constant.true in
    let some = filled_constant (laws at.After-owners_of_cells) layout (shape_of c.args.shape.now) slab c.args.target c.in-Some.part (laid at.After-objects-count) constant (ordered_box c.in-Some.part c.dims-part_dims.ensures.valid) meets in
    c.in_ok-push.ensures.items
    ∙ ap (λ (fill : Pieced). c.args.list.now.items ++ fill ∷ []) c.in_ok-fill.ensures
    ∙ ap (λ (o : Option (List Interval)). c.args.list.now.items ++ cons_option (option_map (fill_of_box c.args.store.now.layouts c.args.number c.args.shape.now c.args.array slab c.args.target) o) []) (sym some)
    ∙ ap (λ (patches : List (Option ℕ)). c.args.list.now.items ++ filter_map (fill_from at.After-layout-layout) patches) (sym (patches_constant slab.updater (patch_count layout) constant))

pub add_from-requires-clause-source : goal.add_from-requires-clause-source
add_from-requires-clause-source c =
    let same = ap patch_count c.layout-layout.ensures in omega (arith, c.loop-source-test.true, c.patches-source-end.ensures.value, same)

pub add_from-requires-clause-moving : goal.add_from-requires-clause-moving
add_from-requires-clause-moving c constant = false≢true (sym c.if-is_constant.false ∙ c.is_constant.ensures.1 constant)

pub add_from-requires-clause-part : goal.add_from-requires-clause-part
add_from-requires-clause-part c cell =
    let at = goal.at.add_from-requires-clause-part c in
    part_owned (layout_at c.args.store.now.layouts c.args.array) c.args.target c.owned-owned.result c.args.slab.now.target c.in-Some.part cell (owned at.After-owned-owned) (c.in-Some.ensures.cells cell)

pub loop-source-preserved : goal.loop-source-preserved
loop-source-preserved c =
    let f = fill_from (goal.at.loop-source-preserved c).After-layout-layout in
    patches_more f c.loop-source.source c.args.list.now.items c.loop-source.list.items c.add_from.new.list.items (f (Some c.loop-source.source)) c.loop-source.invariant refl c.in_ok-add_from.ensures

pub returns : goal.returns
returns c =
    let f = fill_from (goal.at.returns c).After-layout-layout in
    let layout = layout_at c.args.store.now.layouts c.args.array in
    let slab = c.args.slab.now in
    let moving = λ (constant : IsConstant slab.updater). false≢true (sym c.if-is_constant.false ∙ c.is_constant.ensures.1 constant) in
    let same = ap patch_count c.layout-layout.ensures in
    let all : c.loop-source.source ≡ patch_count layout = omega (arith, c.loop-source-test.false, c.loop-source.auto.source-end, c.patches-source-end.ensures.value, same) in
    c.loop-source.invariant
    ∙ ap (λ (n : ℕ). c.args.list.now.items ++ filter_map f (map Some (numbers_below n))) all
    ∙ ap (λ (patches : List (Option ℕ)). c.args.list.now.items ++ filter_map f patches) (sym (patches_moving slab.updater (patch_count layout) moving))
