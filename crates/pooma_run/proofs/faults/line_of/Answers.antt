use Rattle.std.proofs.Common.{◌≡◌, ◌∙◌, refl, sym, subst, ℕ, drop, arith}
use Rattle.pooma_run.proofs.Passing.{none_there, passed_on, passed_there}
use Rattle.pooma_run.proofs.faults.line_of.Goals as goal

pub passing-preserved : goal.passing-preserved
passing-preserved c =
    passed_on (λ s. s.now) c.args.program.now.order c.passing._passed c.passing.walk c.next-statement.new.self c.next-statement.result (omega arith)
    c.passing.invariant c.next-statement.ensures.some c.next-statement.ensures.none

pub unreachable-requires : goal.unreachable-requires
unreachable-requires c =
    none_there c.args.program.now.order c.passing._passed (omega arith) (sym c.passing.invariant ∙ c.in-None.ensures.none.0 refl)

pub returns : goal.returns
returns c =
    let at : c.passing._passed ≡ c.args.number = omega arith in
    let there = passed_there c.args.program.now.order c.args.number c.in-Some.statement.now c.next.new.self
    (subst (λ (k : ℕ). drop k c.args.program.now.order ≡ c.passing.walk) at (sym c.passing.invariant) ∙ c.in-Some.ensures.some) in
    rw there refl
