-- What the view that is read for an offset names.
use Rattle.std.proofs.Common.{◌≡◌, ℤ, refl, sym, ap, ap₂, subst, ◌∙◌, List}
use Rattle.std.specs.Prelude.{map}
use Rattle.pooma_domain.specs.Cells.{Interval, IsIn}
use Rattle.pooma_domain.specs.Operations.{moved, shifted, reaches}
use Rattle.pooma_view.specs.Slots.{positions_of, cell_named, from_zero}
use Rattle.pooma_view.specs.Restricted.{restricted}
use Rattle.pooma_view.specs.Views.{Viewed}
use Rattle.pooma_stencil.specs.Stencils.{Stenciled, IsStencil}
use Rattle.pooma_stencil.specs.Expansions.{positions_on, HasResult, cell_read, view_read, IsReadFor}
use Rattle.pooma_stencil.proofs.Axes.{Fits, firsts, read_is_in, positions_from_zero, from_zero-read, moved-read, length-restricted_slots}

pub fits_on : (s : Stenciled) (v : Viewed) (o : List ℤ) → IsStencil s → HasResult s v → IsIn (reaches s.lower s.upper) o → Fits (positions_of v.slots) s.lower s.upper o
fits_on s v o is has within = record {
  dims = has.dims;
  paired = is.paired ∙ has.dims;
  low = is.low;
  high = is.high;
  room = has.room;
  within = within;
}

pub box_read : (s : Stenciled) (v : Viewed) (o : List ℤ) (axes : List Interval) (begin : List ℤ) → axes ≡ positions_on s v → begin ≡ moved s.lower o → shifted axes begin ≡ shifted (positions_on s v) (moved s.lower o)
box_read s v o axes begin e f = ap₂ (λ (a : List Interval) (b : List ℤ). shifted a b) e f

-- what the restricted view promises, where it is the one that is read for an offset
pub read_for : (s : Stenciled) (v r : Viewed) (o : List ℤ) (box : List Interval) → IsStencil s → HasResult s v → IsIn (reaches s.lower s.upper) o → box ≡ shifted (positions_on s v) (moved s.lower o) → r ≡ restricted v box → positions_of r.slots ≡ from_zero box → ((p : List ℤ) → IsIn (from_zero box) p → cell_named r.slots p ≡ cell_named v.slots (moved p (map (λ (a : Interval). a.first) box))) → IsReadFor s v o
read_for s v r o box is has within e f positions cells =
    let fits = fits_on s v o is has within in
    let zero = positions_from_zero v.slots in
    let same : r ≡ view_read s v o = f ∙ ap (restricted v) e in
    let long : from_zero box ≡ positions_on s v = ap from_zero e ∙ from_zero-read (positions_of v.slots) s.lower s.upper o zero fits in
    let named : (p : List ℤ) → IsIn (positions_on s v) p → cell_named (view_read s v o).slots p ≡ cell_read s v p o = λ p q.
    ap (λ (w : Viewed). cell_named w.slots p) (sym same)
    ∙ cells p (subst (λ (axes : List Interval). IsIn axes p) (sym long) q)
    ∙ ap (λ (axes : List Interval). cell_named v.slots (moved p (firsts axes))) e
    ∙ ap (cell_named v.slots) (moved-read (positions_of v.slots) s.lower s.upper o p zero fits q) in
    record {
      part = record {
        array = refl;
        slots = length-restricted_slots v.slots (shifted (positions_on s v) (moved s.lower o));
        positions = ap (λ (w : Viewed). positions_of w.slots) (sym same) ∙ positions ∙ long;
        cells = λ p q. (moved p (moved s.lower o), read_is_in (positions_of v.slots) s.lower s.upper o p fits q, named p q);
      };
      cells = named;
    }
