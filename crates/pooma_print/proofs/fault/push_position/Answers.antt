use Rattle.std.proofs.Common.{◌≡◌, ◌∙◌, ap, ◌++◌, ℤ, rules, to_z, of_z, w32, w64}
use Rattle.pooma_print.specs.Texts.{joined_number}
use Rattle.pooma_print.proofs.Joined.{next_appended}
use Rattle.pooma_print.proofs.fault.push_position.Goals as goal

pub loop-n-preserved : goal.loop-n-preserved
loop-n-preserved c =
    let bare_from : to_z w64 (of_z w64 c.from.result) ≡ c.from.result = search rules in
    let bare_at : to_z w32 (of_z w32 c.at.result) ≡ c.at.result = search rules in
    let bare : to_z w64 (of_z w64 c.from.result) ≡ c.at.result = bare_from ∙ c.from.ensures ∙ bare_at in
    next_appended 44 c.args.out.now.items c.loop-n.out.items c.push_number.new.out.items c.args.p.now c.loop-n.n c.at.result c.at.ensures c.loop-n.invariant
    (c.in_ok-push_number.ensures ∙ ap (λ (x : ℤ). c.loop-n.out.items ++ joined_number 44 c.loop-n.n x) bare)
