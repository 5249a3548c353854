use Rattle.std.proofs.Common.{◌≤◌, length, pos, rules, subst, arith}
use Rattle.std.proofs.lemmas.List.{length-map}
use Rattle.pooma_domain.specs.Cells.{IsBox, interval}
use Rattle.pooma_layout.specs.Axes.{IsNear}
use Rattle.pooma_script.specs.Layouts.{axes_of}
use Rattle.pooma_script.proofs.Boxes.{near_box}
use Rattle.pooma_script.proofs.Heads.{all_first, all_others, fewer_others, split}
use Rattle.pooma_script.proofs.made.+box_of.Goals as goal

pub box_of-requires : goal.box_of-requires
box_of-requires t c = (
  search rules,
  (
    omega (arith, fewer_others c.args.domain.now (pos 0, pos 0) c.in-len1-up.len_at_least, c.requires.few),
    all_others IsNear (λ bounds. interval bounds.0 bounds.1) c.args.domain.now (pos 0, pos 0) c.in-len1-up.len_at_least c.requires.near,
  ),
)

pub axis_of-requires : goal.axis_of-requires
axis_of-requires t c = all_first IsNear (λ bounds. interval bounds.0 bounds.1) c.args.domain.now (pos 0, pos 0) c.in-len1-up.len_at_least c.requires.near

pub after-requires : goal.after-requires
after-requires t c =
    let few : length (axes_of c.args.domain.now) ≤ 3 = rw length-map c.requires.few in
    rw (c.axis_of.ensures, c.box_of.ensures)
    (subst (λ l. IsBox (axes_of l)) (split c.args.domain.now (pos 0, pos 0) c.in-len1-up.len_at_least)
    (near_box c.order_of_cells.ensures.counted (axes_of c.args.domain.now) few c.requires.near))
