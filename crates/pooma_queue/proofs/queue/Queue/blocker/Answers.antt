use Rattle.std.proofs.Common.{ap, sym, option_map}
use Rattle.pooma_queue.specs.Requests.{blocker_of}
use Rattle.pooma_queue.proofs.Holding.{blocker_there, no_blocker}
use Rattle.pooma_queue.proofs.Places.{none_found}
use Rattle.pooma_queue.proofs.queue.Queue.blocker.Goals as goal

pub returns-then-place-k-clause-first : goal.returns-then-place-k-clause-first
returns-then-place-k-clause-first c =
    let is = rw (← c.self.view_is) at c.first_holding-place.ensures in
    let there = blocker_there c.self.inside.requests.items c.args.k c.first_holding-place.result c.index.result.now c.index-then-place-k.result.now (rw (← c.self.view_is) at c.requires) c.index.ensures is c.if-place-k.true c.index-then-place-k.ensures in
    rw (← c.self.view_is) (sym (ap (option_map (λ asked. asked.entry)) there))

pub returns-then-place-k-clause-none : goal.returns-then-place-k-clause-none
returns-then-place-k-clause-none c = none_found _ (blocker_of c.args.self.now.requests c.args.k) (returns-then-place-k-clause-first c)

pub returns-else-place-k-clause-first : goal.returns-else-place-k-clause-first
returns-else-place-k-clause-first c =
    let is = rw (← c.self.view_is) at c.first_holding-place.ensures in
    let none = no_blocker c.self.inside.requests.items c.args.k c.first_holding-place.result c.index.result.now (rw (← c.self.view_is) at c.requires) c.index.ensures is c.if-place-k.false in
    rw (← c.self.view_is) (sym (ap (option_map (λ asked. asked.entry)) none))

pub returns-else-place-k-clause-none : goal.returns-else-place-k-clause-none
returns-else-place-k-clause-none c = none_found _ (blocker_of c.args.self.now.requests c.args.k) (returns-else-place-k-clause-first c)
