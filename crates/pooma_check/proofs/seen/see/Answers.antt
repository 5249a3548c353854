use Rattle.std.proofs.Common.{◌≡◌, ℤ, List, Option, None, Some, sym, ap, subst, ◌∙◌}
use Rattle.std.specs.Prelude.{All}
use Rattle.pooma_domain.specs.Cells.{Interval, IsIn}
use Rattle.pooma_expr.specs.Trees.{views_of}
use Rattle.pooma_field.specs.Shapes.{Shaped}
use Rattle.pooma_model.specs.Declarations.{shape_at}
use Rattle.pooma_model.specs.Fit.{AreFew}
use Rattle.pooma_stencil.specs.Expansions.{IsPartOf, expansion, positions_on}
use Rattle.pooma_stencil.specs.Stencils.{Stenciled}
use Rattle.pooma_view.specs.Slots.{cell_named, positions_of}
use Rattle.pooma_view.specs.Views.{Viewed}
use Rattle.pooma_script.specs.Known.{declared_in}
use Rattle.pooma_check.specs.Kept.{known_of}
use Rattle.pooma_check.specs.Seen.{CanSee}
use Rattle.pooma_check.proofs.Sights.{see_parts, see_whole}
use Rattle.pooma_check.proofs.seen.see.Goals as goal

pub returns-in_default : goal.returns-in_default
returns-in_default c =
    let r = c.args.reading.now in
    let declared = declared_in (known_of c.args.known.now) in
    let none : None ≡ r.stencil = rw c.in_default.is at c.stencil.ensures in
    let few : AreFew (positions_of r.view.slots) = subst (λ (v : Viewed). AreFew (positions_of v.slots)) c.view_read-view.ensures.view c.view_read-view.ensures.few in
    subst (λ (o : Option Stenciled). CanSee declared (record { stencil = o; view = r.view; positions = r.positions })) none
    (see_whole declared r.view r.positions c.requires.inside c.view_read-view.ensures.places few)

pub see_applied-requires-clause-inside : goal.see_applied-requires-clause-inside
see_applied-requires-clause-inside c =
    let r = c.args.reading.now in
    let declared = declared_in (known_of c.args.known.now) in
    let total : c.shape_there-shape.result.now.total ≡ (shape_at declared r.view.array).total =
    ap (λ (s : Shaped). s.total) c.shape_there-shape.ensures.shape ∙ ap (λ n. (shape_at declared n).total) c.array.ensures in
    rw c.view_read-view.ensures.view
    (subst (λ (box : List Interval). (p : List ℤ) → IsIn (positions_of r.view.slots) p → IsIn box (cell_named r.view.slots p)) (sym total) c.requires.inside.cells)

pub returns : goal.returns
returns c =
    let r = c.args.reading.now in
    let declared = declared_in (known_of c.args.known.now) in
    let s = c.in-Some.stencil.now in
    let some : Some s ≡ r.stencil = rw c.in-Some.is at c.stencil.ensures in
    let parts : All (IsPartOf r.view (positions_on s r.view)) (views_of (expansion s r.view)) =
    subst (λ (v : Viewed). All (IsPartOf v (positions_on s v)) (views_of (expansion s v))) c.view_read-view.ensures.view c.see_applied.ensures.parts in
    let few : AreFew (positions_on s r.view) = subst (λ (v : Viewed). AreFew (positions_on s v)) c.view_read-view.ensures.view c.see_applied.ensures.few in
    subst (λ (o : Option Stenciled). CanSee declared (record { stencil = o; view = r.view; positions = r.positions })) some
    (see_parts declared s r.view r.positions c.requires.inside c.view_read-view.ensures.places parts few)
