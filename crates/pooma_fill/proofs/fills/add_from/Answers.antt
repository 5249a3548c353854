use Rattle.std.proofs.Common.{◌≡◌, ◌<◌, ◌∙◌, sym, ap, subst, refl, List, [], ◌∷◌, ◌++◌, length, Option, Some, append-nil}
use Rattle.std.specs.List.{cons_option}
use Rattle.std.specs.Prelude.{option_map, slice_get}
use Rattle.pooma_domain.specs.Cells.{Interval}
use Rattle.pooma_field.specs.ShapeOf.{shape_of}
use Rattle.pooma_layout.specs.Axes.{CutAxis}
use Rattle.pooma_layout.specs.Patches.{owned_boxes, total_of}
use Rattle.pooma_piece.specs.Pieces.{Pieced}
use Rattle.pooma_store.specs.Numbering.{layout_at}
use Rattle.pooma_fill.specs.Filling.{fill_of_box}
use Rattle.pooma_fill.proofs.Listed.{HasLaws, IsLaid, dims_in, filled_from, filled_none, laid_in_store, owned_total}
use Rattle.pooma_fill.proofs.Taken.{ordered_box}
use Rattle.pooma_fill.proofs.fills.add_from.Goals as goal
use Rattle.pooma_fill.proofs.fills.add_from.Goals.{After-objects-count, After-owned-from, After-owners_of_cells}

-- what the laws on boxes and on owners say
laws : (c : After-owners_of_cells) → HasLaws
laws c =
    record {
      cells = record { members = c.order_of_cells.ensures.members; once = c.order_of_cells.ensures.once; ascending = c.order_of_cells.ensures.ascending };
      owners = record { total = c.owners_of_cells.ensures.total; owned = c.owners_of_cells.ensures.owned; only = c.owners_of_cells.ensures.no_other };
    }

-- the cells of the slab, and those from which they are taken, are cells of the layout
laid : (c : After-objects-count) → IsLaid (layout_at c.args.store.now.layouts c.args.array) (shape_of c.args.shape.now) c.args.slab.now
laid c =
    laid_in_store c.args.store.now.shapes c.args.store.now.layouts c.args.array (shape_of c.args.shape.now) c.args.slab.now c.objects-count.ensures.valid.arrays c.requires.array c.requires.shape
    (λ cell h. (c.slabs_in_order.ensures.external (shape_of c.args.shape.now) c.args.slab.now cell c.args.shape.now.valid c.requires.slab h).0)
    (λ cell h. c.slabs_in_order.ensures.total_sources (shape_of c.args.shape.now) c.args.slab.now cell c.args.shape.now.valid c.requires.slab h)

-- the box of the cells that the source owns
owned : (c : After-owned-from) → slice_get (owned_boxes (layout_at c.args.store.now.layouts c.args.array)) c.args.source ≡ Some c.owned-from.result
owned c = subst (λ (l : List CutAxis). slice_get (owned_boxes l) c.args.source ≡ Some c.owned-from.result) c.layout.ensures c.owned-from.ensures

pub owned-from-requires : goal.owned-from-requires
owned-from-requires c = subst (λ (l : List CutAxis). c.args.source < length (owned_boxes l)) (sym c.layout.ensures) c.requires.source

pub taken_from-requires-clause-inside : goal.taken_from-requires-clause-inside
taken_from-requires-clause-inside c cell h = ((c.requires.part cell).0 h).0

pub taken_from-requires-clause-same_dims : goal.taken_from-requires-clause-same_dims
taken_from-requires-clause-same_dims c =
    let at = goal.at.taken_from-requires-clause-same_dims c in
    let layout = layout_at c.args.store.now.layouts c.args.array in
    let over = laid at.After-objects-count in
    dims_in c.owned-from.result (total_of layout) (ordered_box c.owned-from.result c.dims-from_dims.ensures.valid)
    (owned_total layout c.args.source c.owned-from.result (λ q cell h. c.owners_of_cells.ensures.total layout q cell over.cut h) (owned at.After-owned-from))
    ∙ sym (dims_in c.args.part.now (total_of layout) (ordered_box c.args.part.now c.dims-part_dims.ensures.valid) (λ cell h. over.total cell ((c.requires.part cell).0 h).0))

pub fill_over-requires-clause-inside : goal.fill_over-requires-clause-inside
fill_over-requires-clause-inside c cell h = ((c.requires.part cell).0 ((c.in-Some.ensures.found cell).0 h).0).0

pub returns-in_default : goal.returns-in_default
returns-in_default c =
    let at = goal.at.returns-in_default c in
    let none = filled_none (laws at.After-owners_of_cells) _ _ _ c.args.target c.args.source c.owned-from.result c.args.part.now (laid at.After-objects-count) c.requires.moving (owned at.After-owned-from) c.requires.part (c.in_default.ensures.none refl) in
    sym (append-nil c.args.list.now.items)
    ∙ ap (λ (o : Option (List Interval)). c.args.list.now.items ++ cons_option (option_map (fill_of_box c.args.store.now.layouts c.args.number c.args.shape.now c.args.array c.args.slab.now c.args.target) o) []) (sym none)

pub returns : goal.returns
returns c =
    let at = goal.at.returns c in
    let some = filled_from (laws at.After-owners_of_cells) _ _ _ c.args.target c.args.source c.owned-from.result c.args.part.now (laid at.After-objects-count) c.requires.moving (owned at.After-owned-from) c.requires.part c.in-Some.cells (ordered_box c.in-Some.cells c.dims-dims.ensures.valid) c.in-Some.ensures.found in
    c.in_ok-push.ensures.items
    ∙ ap (λ (fill : Pieced). c.args.list.now.items ++ fill ∷ []) c.in_ok-fill.ensures
    ∙ ap (λ (o : Option (List Interval)). c.args.list.now.items ++ cons_option (option_map (fill_of_box c.args.store.now.layouts c.args.number c.args.shape.now c.args.array c.args.slab.now c.args.target) o) []) (sym some)
