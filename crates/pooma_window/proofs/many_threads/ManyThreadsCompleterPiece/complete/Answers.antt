use Rattle.std.proofs.Common.{map, inl, inr, refl, ◌∙◌}
use Rattle.std.specs.Arc.{arc_value}
use Rattle.pooma_machine.specs.Journal.{window_of}
use Rattle.pooma_piece.specs.Meaning.{pieces}
use Rattle.std.proofs.lemmas.Result.{on_err_weaker}
use Rattle.pooma_window.proofs.many_threads.ManyThreadsCompleterPiece.complete.Goals as goal

pub close_window-requires : goal.close_window-requires
close_window-requires g c = (c.requires.ready.gives c.request_all.new.machine c.in_ok-machine.machine c.in_ok-request_all.ensures.run.seats c.in_ok-machine.ensures).shared.whole.complete

pub returns-clause-err : goal.returns-clause-err
returns-clause-err g c =
    let done = c.requires.ready.gives c.request_all.new.machine c.in_ok-machine.machine c.in_ok-request_all.ensures.run.seats c.in_ok-machine.ensures in
    let plan = done.plan ∙ c.in_ok-request_all.ensures.plan in
    let shared = rw plan at done.shared in
    let err = rw plan at c.close_window.ensures.err in
    on_err_weaker c.close_window.result (λ either. elim either [
      | inl untold ↦ inl (untold, tt)
      | inr told ↦ inr (window_of pieces (map arc_value c.args.works.items) c.in_ok-machine.machine.history, (shared, refl), told)
    ]) err
