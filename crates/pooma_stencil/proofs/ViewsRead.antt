-- The views that the expression of a stencil on a view reads, offset by offset.
use Rattle.std.proofs.Common.{◌↔◌, ℤ, refl, sym, subst, List, [], ◌∷◌}
use Rattle.std.specs.Prelude.{map, All}
use Rattle.std.proofs.lemmas.List.Elements.{All-nil, All-cons, All-head, All-tail, All-map, All-weaker}
use Rattle.pooma_domain.specs.Cells.{Interval, IsBox, IsIn}
use Rattle.pooma_domain.specs.Operations.{moved, shifted, reaches}
use Rattle.pooma_view.specs.Restricted.{restricted}
use Rattle.pooma_view.specs.Slots.{positions_of, cell_named}
use Rattle.pooma_view.specs.Views.{Viewed}
use Rattle.pooma_view.proofs.Parts.{first_within}
use Rattle.pooma_expr.specs.Trees as trees
use Rattle.pooma_stencil.specs.Bodies.{offsets_of}
use Rattle.pooma_stencil.specs.Stencils.{Stenciled, IsStencil}
use Rattle.pooma_stencil.specs.Expansions.{HasResult, IsReadFor, expansion, positions_on, view_read}
use Rattle.pooma_stencil.proofs.Axes.{first_read_is_in, last_read_is_in, read_is_ordered}
use Rattle.pooma_stencil.proofs.Expanded.{views-expanded}
use Rattle.pooma_stencil.proofs.Offsets.{fits_on, read_for}
use Rattle.pooma_stencil.proofs.Restricted.{firsts_fit, slots_are_restricted}

module _ {X Y : Type 0} (P : Y → Type 0) (f : X → Y) where
  of_each : (xs : List X) → All P (map f xs) → All (λ x. P (f x)) xs
  of_each [] h = All-nil (λ x. P (f x))
  of_each (x ∷ xs) h = All-cons (λ x. P (f x)) x xs (All-head P (f x) (map f xs) h) (of_each xs (All-tail P (f x) (map f xs) h))

-- what holds of all views that are read holds for all offsets
pub views_by_offsets : (P : Viewed → Type 0) (s : Stenciled) (v : Viewed) → All P (trees.views_of (expansion s v)) ↔ All (λ o. P (view_read s v o)) (offsets_of s.body)
views_by_offsets P s v = (
  λ h. of_each P (view_read s v) (offsets_of s.body) (subst (All P) (views-expanded (view_read s v) s.body) h),
  λ h. subst (All P) (sym (views-expanded (view_read s v) s.body)) (All-map P (view_read s v) (offsets_of s.body) h),
)

-- on a view that names cells of a box, each offset is read as it has to be
pub all_are_read : (s : Stenciled) (v : Viewed) (area : List Interval) → IsStencil s → HasResult s v → IsBox area
    → ((p : List ℤ) → IsIn (positions_of v.slots) p → IsIn area (cell_named v.slots p)) → All (IsReadFor s v) (offsets_of s.body)
all_are_read s v area is has box inside =
    All-weaker (IsIn (reaches s.lower s.upper)) (IsReadFor s v) (λ o within.
    let fits = fits_on s v o is has within in
    let places = shifted (positions_on s v) (moved s.lower o) in
    let fit = firsts_fit v.slots area box.whole (first_within v.slots area _ refl inside) in
    let made = slots_are_restricted v.slots places fit (read_is_ordered _ _ _ _ fits) (first_read_is_in _ _ _ _ fits) (last_read_is_in _ _ _ _ fits) in
    read_for s v (restricted v places) o places is has within refl refl made.positions made.cells) (offsets_of s.body) is.within
