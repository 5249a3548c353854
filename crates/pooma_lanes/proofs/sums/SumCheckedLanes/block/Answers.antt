use Rattle.std.proofs.Common.{ℕ, ◌+◌, ◌%◌, ◌^◌, ◌∙◌, ap, subst, FitsSigned, w64, to_z, of_z}
use Rattle.pooma_lanes.specs.Rows.{at_place}
use Rattle.pooma_lanes.proofs.Bits.{zip2-block, lane_of, lane-fits, back_is, back-block, to_z-fits}
use Rattle.pooma_lanes.proofs.Signs.{carried, sum_is}
use Rattle.pooma_lanes.proofs.sums.SumCheckedLanes.block.Goals as goal

abbrev wrapped : ℕ → ℕ → ℕ
wrapped m n = (m + n) % 2 ^ 64

pub signs_hold-requires-clause-total : goal.signs_hold-requires-clause-total
signs_hold-requires-clause-total c = zip2-block wrapped _ _ c.requires.left c.requires.right

pub signs_hold-requires-clause-left : goal.signs_hold-requires-clause-left
signs_hold-requires-clause-left c = back-block _ c.requires.left

pub signs_hold-requires-clause-right : goal.signs_hold-requires-clause-right
signs_hold-requires-clause-right c = back-block _ c.requires.right

pub returns-clause-block : goal.returns-clause-block
returns-clause-block c = zip2-block wrapped c.args.a c.args.b c.requires.left c.requires.right

pub returns-clause-exact : goal.returns-clause-exact
returns-clause-exact c holds k lt =
    let x = at_place c.args.a k in
    let y = at_place c.args.b k in
    let s = to_z w64 (wrapped (of_z w64 x) (of_z w64 y)) in
    let lane = lane_of wrapped c.args.a c.args.b c.requires.left c.requires.right k lt in
    let left = ap (λ l. at_place l k) (back_is c.args.a c.requires.left.fit) in
    let right = ap (λ l. at_place l k) (back_is c.args.b c.requires.right.fit) in
    let signs = carried _ s _ x _ y lane left right (c.signs_hold.ensures holds k lt) in
    let is = sum_is x y (lane-fits c.args.a c.requires.left k lt) (lane-fits c.args.b c.requires.right k lt) signs in
    (subst (FitsSigned w64) is (to_z-fits (wrapped (of_z w64 x) (of_z w64 y))), lane ∙ is)
