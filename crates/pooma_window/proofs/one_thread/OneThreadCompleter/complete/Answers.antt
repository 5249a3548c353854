use Rattle.std.proofs.Common.{map, inl, inr}
use Rattle.std.specs.Arc.{arc_value}
use Rattle.pooma_machine.specs.Journal.{window_of}
use Rattle.std.proofs.lemmas.Result.{on_err_weaker}
use Rattle.pooma_window.proofs.one_thread.OneThreadCompleter.complete.Goals as goal

pub returns-clause-err : goal.returns-clause-err
returns-clause-err g c =
    let picked = rw c.in_ok-machine.ensures.plan at c.in_ok-machine.ensures.picked in
    let err = rw c.in_ok-machine.ensures.plan at c.close_window.ensures.err in
    on_err_weaker c.close_window.result (λ either. elim either [
      | inl untold ↦ inl (untold, (picked.0, picked.1.asked.asked, picked.2))
      | inr told ↦ inr (window_of g.W.Work.meaning (map arc_value c.args.works.items) c.in_ok-machine.machine.history, picked, told)
    ]) err
