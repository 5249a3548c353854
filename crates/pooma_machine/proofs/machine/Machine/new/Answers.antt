use Rattle.std.proofs.Common.{◌∙◌, sym, arith}
use Rattle.std.proofs.lemmas.List.{length-map}
use Rattle.std.specs.Arc.{arc_value}
use Rattle.pooma_machine.specs.Slots.{contents}
use Rattle.pooma_machine.proofs.Ends.{matches_empty}
use Rattle.pooma_machine.proofs.machine.Machine.new.Goals as goal

pub invariant_of-result : goal.invariant_of-result
invariant_of-result g c =
    let t = c.in-Ok.ensures in
    let there = c.in_ok-new.ensures.there in
    let content = g.W.Work.content in
    rw (c.of-opening.ensures, t.plan, t.history, t.spare, c.new-3.ensures.items, there) (
      matches_empty g.W.Work.meaning (contents content c.args.objects.items),
      t.objects ∙ (c.len.ensures ∙ (c.args.objects.ok.0 ∙ sym (length-map (contents content c.args.objects.items) (λ x. _) ∙ length-map c.args.objects.items (λ arc. content (arc_value arc))))),
      omega arith,
    )
