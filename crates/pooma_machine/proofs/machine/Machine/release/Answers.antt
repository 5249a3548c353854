use Rattle.std.proofs.Common.{◌<◌, ◌∙◌, ap, length, sym}
use Rattle.pooma_machine.proofs.Lending.{written_all}
use Rattle.pooma_machine.proofs.Worth.{matches_release, asked_there, length_put}
use Rattle.pooma_machine.proofs.machine.Machine.release.Goals as goal

pub give_back-requires : goal.give_back-requires
give_back-requires g c =
    let at = rw (← c.self.view_is) at c.requires.work in
    let asks = c.requests.ensures.requests ∙ ap g.W.Work.meaning.requests (c.deref.ensures ∙ c.kept-work.ensures.work) in
    rw asks (written_all (λ o. o < length c.self.inside.objects) (g.W.Work.meaning.requests c.args.done.work) (asked_there g.W.Work.meaning c.self.inside.table.plan _ c.self.inside.table.history c.self.inside.objects c.self.inside.outcomes.items c.args.done.work c.args.done.entry c.self.invariant.0 at))

pub invariant_of-self : goal.invariant_of-self
invariant_of-self g c =
    let at = rw (← c.self.view_is) at c.requires.work in
    let out = rw (← c.self.view_is) at c.requires.out in
    let lent = rw (← c.self.view_is) at c.requires.lent in
    let asks = c.requests.ensures.requests ∙ ap g.W.Work.meaning.requests (c.deref.ensures ∙ c.kept-work.ensures.work) in
    let e = c.release-became.ensures in
    rw (e.plan, e.history, e.objects, e.spare, c.entry-j.ensures, c.give_back.ensures, asks) (
      matches_release g.W.Work.meaning c.self.inside.table.plan _ c.self.inside.table.history c.self.inside.objects c.self.inside.outcomes.items c.args.done.work c.args.done.entry c.args.seat _ c.kept-work.result.2 c.self.invariant.0 at out
          (rw lent at c.kept-work.ensures.value) (rw lent at c.kept-work.ensures.shape) (rw lent at c.kept-work.ensures.outcome),
      c.self.invariant.1 ∙ sym (length_put c.self.inside.objects _ _),
      c.self.invariant.2,
    )

pub returns-clause-freed : goal.returns-clause-freed
returns-clause-freed g c = rw (← c.self.view_is) (rw c.entry-j.ensures at c.release-became.ensures.freed)
