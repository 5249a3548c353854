use Rattle.std.proofs.Common.{◌<◌, ◌≡◌, ◌∙◌, ap, sym, subst, All}
use Rattle.pooma_machine.specs.Values.{Account}
use Rattle.pooma_machine.specs.Journal.{window_of}
use Rattle.pooma_desk.specs.Tokens.{Started}
use Rattle.pooma_window.proofs.Seated.{shared_by, more_workers}
use Rattle.pooma_window.proofs.sharing.share_out.Goals as goal

pub returns-clause-shared : goal.returns-clause-shared
returns-clause-shared g c =
    let workers = c.enough-workers.result in
    let done = c.close-machine.result in
    let from = c.in_ok-pass.ensures.from ∙ c.in-Ok.ensures.from in
    let seats = ap (λ (s : Started _ _). s.seats) from ∙ c.in-Ok.ensures.seats in
    more_workers g.W.Work.meaning workers c.args.workers done.plan (window_of g.W.Work.meaning done.plan done.history) c.enough-workers.ensures.no_more
    (shared_by g.W.Work.meaning workers c.in-Ok.desk c.in_ok-pass.pass done from c.close-machine.ensures.plan c.close-machine.ensures.history c.history-legal.ensures.legal c.in_ok-pass.ensures.complete
    c.enough-workers.ensures.some
    (subst (λ (m : Account _ _). All (λ e. e.seat ≡ 0) m.history) (sym c.in-Ok.ensures.machine) c.requires.seats)
    (λ n there. subst (λ s. n.event.seat < s) seats (c.seat-seat.ensures.named n there)))
