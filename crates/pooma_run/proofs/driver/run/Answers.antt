use Rattle.std.proofs.Common.{◌≡◌, ◌∙◌, refl, sym, ap, Bool, true, false, ◌∷◌, [], List, length, drop, arith}
use Rattle.std.specs.Prelude.{is_some, not}
use Rattle.pooma_model.specs.declared.statement.Statement.{Statement}
use Rattle.pooma_model.specs.Fit.{IsFit}
use Rattle.pooma_run.specs.Plan.{steps_of}
use Rattle.pooma_run.specs.Steps.{windows_of}
use Rattle.pooma_run.specs.Told.{entries_of}
use Rattle.pooma_run.specs.Underway.{Kept}
use Rattle.pooma_run.proofs.Beginning.{holds_of_next, last_serial, last_told, left_behind}
use Rattle.pooma_run.proofs.Performed.{below_all, fewer_pending}
use Rattle.pooma_run.proofs.Performing.{tells_last, told_first_short}
use Rattle.pooma_run.proofs.Telling.{tells_at_first, tells_as, told_first}
use Rattle.pooma_run.proofs.Results.{on_err}
use Rattle.pooma_run.proofs.driver.run.Given.{Over}
use Rattle.pooma_run.proofs.driver.run.Goals as goal
use Rattle.pooma_run.proofs.driver.run.Goals.{In-Some, In_default}

pub returns-in_err-running-clause-front : goal.returns-in_err-running-clause-front
returns-in_err-running-clause-front g c =
    on_err c.from_residual.result
    (told_first g.C.Completer.tells c.args.program.now (g.C.Completer.told c.args.completer.now) c.args.completer.now g.C.Completer.stops _ _ c.args.completer.now
    (tells_at_first g.C.Completer.tells c.args.program.now (g.C.Completer.told c.args.completer.now) c.args.completer.now c.arrays_have_shapes.ensures.0 (g.C.Completer.told c.args.completer.now) c.arrays_have_shapes.ensures.1 refl))

pub statements-init : goal.statements-init
statements-init g c = record {
  underway = c.in_ok-running.ensures.underway;
  rest = c.walk-walk.ensures.order;
  within = omega arith;
  stays = g.met.C.Completer.stays_itself c.args.completer.now;
  ready = c.requires.ready;
  tells =
      tells_as g.C.Completer.tells c.args.program.now (g.C.Completer.told c.args.completer.now) c.args.completer.now
      (windows_of [] (steps_of c.in_ok-running.running.stale 0 c.args.program.now.order)) _ (g.C.Completer.told c.args.completer.now) c.args.completer.now
      (ap (λ works. windows_of (entries_of works) (steps_of c.in_ok-running.running.stale 0 c.args.program.now.order)) (sym c.in_ok-running.ensures.none))
      (tells_at_first g.C.Completer.tells c.args.program.now (g.C.Completer.told c.args.completer.now) c.args.completer.now c.in_ok-running.running.stale (g.C.Completer.told c.args.completer.now)
      c.in_ok-running.ensures.opening refl);
}

-- the next statement
next : (g : Over) (c : In-Some g) → drop c.statements.number c.args.program.now.order ≡ c.in-Some.statement.now ∷ c.next.new.self
next g c = sym c.statements.invariant.rest ∙ c.in-Some.ensures.some

pub perform-requires-clause-next : goal.perform-requires-clause-next
perform-requires-clause-next g c =
    let is = next g (goal.at.perform-requires-clause-next g c).In-Some in
    is ∙ ap (λ (rest : List Statement). c.in-Some.statement.now ∷ rest) (left_behind c.args.program.now.order c.statements.number c.in-Some.statement.now c.next.new.self is)

pub perform-requires-clause-fit : goal.perform-requires-clause-fit
perform-requires-clause-fit g c =
    holds_of_next (λ (s : Statement). IsFit c.args.program.now.declared s.action) c.args.program.now.order c.statements.number c.in-Some.statement.now c.next.new.self c.walk-walk.ensures.fit
    (next g (goal.at.perform-requires-clause-fit g c).In-Some)

pub statements-preserved : goal.statements-preserved
statements-preserved g c =
    let is = next g (goal.at.statements-preserved g c).In-Some in
    record {
      underway = rw c.if-branch.false at c.in_ok-perform.ensures.underway;
      rest = left_behind c.args.program.now.order c.statements.number c.in-Some.statement.now c.next.new.self is;
      within = below_all c.args.program.now.order c.statements.number c.in-Some.statement.now c.next.new.self is;
      stays = g.met.C.Completer.stays_on c.args.completer.now c.statements.completer c.perform.new.completer c.statements.invariant.stays c.in_ok-perform.ensures.stays;
      ready = g.met.C.Completer.stays_ready c.statements.completer c.perform.new.completer c.in_ok-perform.ensures.stays c.statements.invariant.ready;
      tells = (rw c.if-branch.false at c.in_ok-perform.ensures.told) (g.C.Completer.told c.args.completer.now) c.args.completer.now c.statements.invariant.tells;
    }

pub end_window-requires-clause-pending : goal.end_window-requires-clause-pending
end_window-requires-clause-pending g c =
    fewer_pending c.args.program.now.declared c.statements.number (length c.args.program.now.order) c.statements.running.pending c.statements.invariant.within c.statements.invariant.underway.pending

-- no statement is left
last : (g : Over) (c : In_default g) → drop c.statements.number c.args.program.now.order ≡ []
last g c = sym c.statements.invariant.rest ∙ c.in_default.ensures.none.0 refl

pub returns-in_err-end_window-clause-front : goal.returns-in_err-end_window-clause-front
returns-in_err-end_window-clause-front g c =
    on_err c.from_residual-in_err-end_window.result
    (told_first_short g.C.Completer.tells c.args.program.now (g.C.Completer.told c.args.completer.now) c.args.completer.now g.C.Completer.stops c.statements.running.pending [] _ _ c.statements.completer _
    (tells_last g.C.Completer.tells c.args.program.now (g.C.Completer.told c.args.completer.now) c.args.completer.now c.statements.running c.statements.number _ c.statements.completer
    (last g (goal.at.returns-in_err-end_window-clause-front g c).In_default) c.statements.invariant.tells)
    c.in_err-end_window.ensures.err)

turned : (none some : Bool) → some ≡ not none → none ≡ not some
turned true some is = sym (ap not is)
turned false some is = sym (ap not is)

pub returns-clause-serial : goal.returns-clause-serial
returns-clause-serial g c =
    c.new-2.ensures ∙ (ap (λ (k : Kept). record { bytes = k.bytes; faulted = c.is_none-faulted.result }) c.running-2.view_is
    ∙ last_serial c.args.program.now c.statements.running c.end_window.new.self c.statements.number c.in_ok-end_window.field-0 c.statements.invariant.underway
    (last g (goal.at.returns-clause-serial g c).In_default) c.in_ok-end_window.ensures.none c.in_ok-end_window.ensures.completed c.in_ok-end_window.ensures.fault c.is_none-faulted.result
    (turned c.is_none-faulted.result (is_some c.in_ok-end_window.field-0) c.is_none-faulted.ensures))

pub returns-clause-told : goal.returns-clause-told
returns-clause-told g c =
    last_told c.args.program.now c.statements.running c.end_window.new.self c.statements.number c.in_ok-end_window.field-0 c.statements.invariant.underway
    (last g (goal.at.returns-clause-told g c).In_default) c.in_ok-end_window.ensures.none c.in_ok-end_window.ensures.completed c.in_ok-end_window.ensures.fault
    g.C.Completer.tells (g.C.Completer.told c.args.completer.now) c.args.completer.now _ _ c.statements.completer _ c.statements.invariant.tells c.in_ok-end_window.ensures.told
