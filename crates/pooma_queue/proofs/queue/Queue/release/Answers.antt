use Rattle.std.proofs.Common.{◌∙◌, ap, sym, refl}
use Rattle.pooma_queue.specs.declared.queue.Mode.TheVariants.{Read, Write}
use Rattle.pooma_queue.specs.Requests.{first_holding, holds_back}
use Rattle.pooma_queue.proofs.Places.{set_released}
use Rattle.pooma_queue.proofs.Holding.{set_no_nearer}
use Rattle.pooma_queue.proofs.Counts.{goes, one_more}
use Rattle.pooma_queue.proofs.queue.Queue.release.Goals as goal

pub first_holding_from-self-inside-requires : goal.first_holding_from-self-inside-requires
first_holding_from-self-inside-requires c =
    let low = set_no_nearer (holds_back Write) c.self.inside.requests.items c.args.k _ refl (rw (← c.self.view_is) at c.requires.there) in
    rw (c.deref.ensures.value, c.self.invariant.1) low

pub first_holding_from-self-inside-requires-2 : goal.first_holding_from-self-inside-requires-2
first_holding_from-self-inside-requires-2 c =
    let low = set_no_nearer (holds_back Read) c.self.inside.requests.items c.args.k _ refl (rw (← c.self.view_is) at c.requires.there) in
    rw (c.deref-2.ensures.value, c.self.invariant.2) low

pub returns-clause-requests : goal.returns-clause-requests
returns-clause-requests c =
    rw (← c.self.view_is) (set_released c.self.inside.requests.items c.args.k c.index_mut.result.now (rw (← c.self.view_is) at c.requires.there) c.index_mut.ensures.value)

pub invariant_of-self : goal.invariant_of-self
invariant_of-self c =
    let requests = c.self.inside.requests.items in
    let asked = c.index_mut.result.now in
    let within = rw (← c.self.view_is) at c.requires.there in
    let after = goes requests c.args.k asked c.self.inside.writes.items c.self.inside.written c.self.inside.released within c.index_mut.ensures.value c.self.invariant.0 c.self.invariant.3 c.self.invariant.4 in (
      after.order,
      c.first_holding_from-self-inside.ensures ∙ ap (first_holding Write) c.deref.ensures.value,
      c.first_holding_from-self-inside-2.ensures ∙ ap (first_holding Read) c.deref-2.ensures.value,
      after.tally,
      sym (one_more requests c.args.k asked c.self.inside.released within c.index_mut.ensures.value (rw (← c.self.view_is) at c.requires.out)) ∙ after.count,
    )
