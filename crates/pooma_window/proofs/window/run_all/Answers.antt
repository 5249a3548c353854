use Rattle.std.proofs.Common.{◌≡◌, ◌*◌, ◌++◌, ◌∷◌, [], length, refl, ◌∙◌, sym, ap}
use Rattle.std.proofs.lemmas.List.{length-map}
use Rattle.pooma_machine.specs.Values.{asks_of}
use Rattle.pooma_window.proofs.Turns.{on_err, followed_then, one_each}
use Rattle.pooma_window.proofs.window.run_all.Goals as goal

pub loop-first-preserved : goal.loop-first-preserved
loop-first-preserved g c =
    let before = c.loop-first.invariant.run in
    let turn = c.in_ok-run_next.ensures.run before.0 before.1 in
    record {
      plan = c.in_ok-run_next.ensures.plan ∙ c.loop-first.invariant.plan;
      opening = c.in_ok-run_next.ensures.opening ∙ c.loop-first.invariant.opening;
      list = c.in_ok-run_next.ensures.list;
      run = (
        before.0 ++ turn.0 ∷ [],
        turn.1,
        followed_then (g.P.Picker.asked c.args.picker.now) (g.P.Picker.asked c.loop-first.picker) (g.P.Picker.asked c.run_next.new.picker) before.0 (turn.0 ∷ []) before.2 turn.2,
      );
    }

pub returns-in_err-run_next-clause-err : goal.returns-in_err-run_next-clause-err
returns-in_err-run_next-clause-err g c =
    let before = c.loop-first.invariant.run in
    let turn = c.in_err-run_next.ensures.err before.0 before.1 in
    let asked = rw c.loop-first.invariant.plan at turn.1 in
    let followed = followed_then (g.P.Picker.asked c.args.picker.now) (g.P.Picker.asked c.loop-first.picker) (g.P.Picker.asked c.run_next.new.picker) before.0 turn.0 before.2 turn.2 in
    on_err c.from_residual-in_err-run_next.result (before.0 ++ turn.0, asked, followed)

pub returns-clause-picked : goal.returns-clause-picked
returns-clause-picked g c =
    let run = c.loop-first.invariant.run in
    let legal = c.history-legal.ensures.legal in
    let complete = c.in_default.ensures in
    let same : length (asks_of g.W.Work.meaning c.loop-first.machine.plan) ≡ length c.loop-first.machine.plan = length-map c.loop-first.machine.plan g.W.Work.meaning.requests in
    let all = c.legal_histories_tell.ensures.all_events c.loop-first.machine.plan c.loop-first.machine.history legal complete in
    let three = all ∙ ap (λ n. 3 * n) (sym same) in (
      run.0,
      record {
        whole = record { entries = refl; legal = legal; complete = complete };
        seats = run.1.seats;
        asked = record { asked = run.1.asked; count = one_each (asks_of g.W.Work.meaning c.loop-first.machine.plan) c.loop-first.machine.history run.0 run.1 three };
        order = run.1.order;
      },
      run.2,
    )
