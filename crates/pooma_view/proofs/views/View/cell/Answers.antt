use Rattle.std.proofs.Common.{sym, ◌∙◌, ap, rules, ◌≡◌, to_z, of_z, w32}
use Rattle.pooma_view.specs.Slots.{cell_named}
use Rattle.pooma_view.specs.Views.{Viewed}
use Rattle.pooma_view.proofs.SlotLists.{cell-three, taken_apart}
use Rattle.pooma_view.proofs.views.View.cell.Goals as goal

pub coordinate-y-requires : goal.coordinate-y-requires
coordinate-y-requires c =
    rw c.left_over-after_x.ensures
    (taken_apart _ _ _ _ _ c.args.p.now c.self.invariant (ap (λ (v : Viewed). v.slots) c.self.view_is) c.requires).by_y

pub left_over-after_y-requires : goal.left_over-after_y-requires
left_over-after_y-requires c =
    rw c.left_over-after_x.ensures
    (taken_apart _ _ _ _ _ c.args.p.now c.self.invariant (ap (λ (v : Viewed). v.slots) c.self.view_is) c.requires).by_y

pub coordinate-z-requires : goal.coordinate-z-requires
coordinate-z-requires c =
    rw (c.left_over-after_y.ensures, c.left_over-after_x.ensures)
    (taken_apart _ _ _ _ _ c.args.p.now c.self.invariant (ap (λ (v : Viewed). v.slots) c.self.view_is) c.requires).by_z

pub returns : goal.returns
returns c =
    let x_is : to_z w32 (of_z w32 c.coordinate-x.result) ≡ c.coordinate-x.result = search rules in
    let y_is : to_z w32 (of_z w32 c.coordinate-y.result) ≡ c.coordinate-y.result = search rules in
    let z_is : to_z w32 (of_z w32 c.coordinate-z.result) ≡ c.coordinate-z.result = search rules in
    c.front.ensures
    ∙ rw (x_is, y_is, z_is, c.coordinate-x.ensures, c.coordinate-y.ensures, c.coordinate-z.ensures, c.left_over-after_y.ensures, c.left_over-after_x.ensures)
    (sym (cell-three _ _ _ _ c.args.p.now c.self.invariant) ∙ ap (λ (v : Viewed). cell_named v.slots c.args.p.now) c.self.view_is)
