use Rattle.std.proofs.Common.{◌∙◌, arith, sym, inl, inr}
use Rattle.std.proofs.lemmas.Bool.Decides.{leb_tells}
use Rattle.pooma_machine.proofs.table.Table.ready_from.Goals as goal

pub returns-clause-least : goal.returns-clause-least
returns-clause-least g c j low ready =
    let done = c.loop-j-test.false in
    let count = c.issued-entries.ensures.count in
    elim (leb_tells c.loop-j.j j) [
      | inl past ↦ absurd (cc (sym (c.issued-entries.ensures.ended j (omega (arith, past.1))) ∙ ready.0))
      | inr before ↦ c.loop-j.invariant j low before.1 ready
    ]
