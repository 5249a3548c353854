use Rattle.std.proofs.Common.{◌≡◌, pos, [], ◌∷◌, length, take, sym, ap, subst, ◌∙◌, arith}
use Rattle.std.proofs.lemmas.List.{length-map}
use Rattle.std.proofs.lemmas.Result.{IfOk-weaker}
use Rattle.std.specs.List.{AllZip}
use Rattle.std.specs.Prelude.{map, replicate}
use Rattle.pooma_domain.specs.Cells.{count_of, interval}
use Rattle.pooma_layout.specs.Blocks.{IsPartCount, product}
use Rattle.pooma_script.specs.Layouts.{axes_of, block_borders, cut_axes}
use Rattle.pooma_script.proofs.Bricks.{brick_made, near_axes, one_part, one_patch, ones}
use Rattle.pooma_script.proofs.Guards.{none_are_covering}
use Rattle.pooma_script.proofs.made.brick.Goals as goal

pub grid_of-requires-clause-near : goal.grid_of-requires-clause-near
grid_of-requires-clause-near c = near_axes c.args.domain.now c.requires.near c.requires.ordered

pub grid_of-requires-clause-blocks : goal.grid_of-requires-clause-blocks
grid_of-requires-clause-blocks c =
    let long : length (axes_of c.args.domain.now) ≡ length c.args.domain.now = length-map c.args.domain.now (λ bounds. interval bounds.0 bounds.1) in
    subst (AllZip IsPartCount (axes_of c.args.domain.now)) (ap (λ n. replicate n (pos 1)) long ∙ sym (ones (length c.args.domain.now) c.requires.axes.1))
    (one_part (axes_of c.args.domain.now) c.requires.ordered)

pub grid_of-requires-clause-patches : goal.grid_of-requires-clause-patches
grid_of-requires-clause-patches c =
    let one : product (map count_of (take (length c.args.domain.now) (pos 1 ∷ pos 1 ∷ pos 1 ∷ []))) ≡ 1 =
    ap (λ l. product (map count_of l)) (ones (length c.args.domain.now) c.requires.axes.1) ∙ one_patch (length c.args.domain.now) in omega (arith, one)

pub grid_of-requires-clause-covering : goal.grid_of-requires-clause-covering
grid_of-requires-clause-covering c = none_are_covering (axes_of c.args.domain.now)

pub returns : goal.returns
returns c =
    let axes = axes_of c.args.domain.now in
    let long : length axes ≡ length c.args.domain.now = length-map c.args.domain.now (λ bounds. interval bounds.0 bounds.1) in
    let blocks : take (length c.args.domain.now) (pos 1 ∷ pos 1 ∷ pos 1 ∷ []) ≡ replicate (length axes) (pos 1) =
    ones (length c.args.domain.now) c.requires.axes.1 ∙ ap (λ n. replicate n (pos 1)) (sym long) in
    IfOk-weaker c.grid_of.result _ _ (λ made is. is
    ∙ (ap (λ b. cut_axes axes (block_borders axes b) (replicate (length axes) (pos 0)) (replicate (length axes) (pos 0))) blocks ∙ brick_made axes)) c.grid_of.ensures
