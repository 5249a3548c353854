use Rattle.std.proofs.Common.{◌+◌, ◌-◌, ◌∙◌, ap, min, take, drop, length, List, subst, sym, Contains}
use Rattle.pooma_queue.specs.declared.queue.Mode.TheVariants.{Read}
use Rattle.pooma_queue.specs.declared.queue.Asked.{Asked}
use Rattle.pooma_queue.specs.Requests.{holds_back, OnlyLastWrites}
use Rattle.pooma_queue.proofs.Holding.{first_within, write_not_later}
use Rattle.pooma_queue.proofs.Fronts.{front_is, may_go_on_in_front, only_last_writes}
use Rattle.pooma_queue.proofs.queue.Queue.front.Goals as goal

pub up_to-requires-clause-order : goal.up_to-requires-clause-order
up_to-requires-clause-order c = rw (c.self.invariant.1, c.self.invariant.2) (write_not_later c.self.inside.requests.items)

pub up_to-requires-clause-within : goal.up_to-requires-clause-within
up_to-requires-clause-within c = rw (c.deref.ensures.value, c.self.invariant.2) (first_within (holds_back Read) c.self.inside.requests.items)

pub returns-clause-requests : goal.returns-clause-requests
returns-clause-requests c =
    let requests = c.self.inside.requests.items in
    let first = c.self.inside.first in
    let write = c.self.inside.write in
    let is = front_is requests first (min (length requests) (write + 1)) c.self.invariant.1 (ap (λ n. min (length requests) (n + 1)) c.self.invariant.2) in
    rw (← c.self.view_is) (c.up_to.ensures ∙ (ap (λ (xs : List Asked). take (min (length xs) (write + 1) - first) (drop first xs)) c.deref.ensures.value ∙ is))

pub returns-clause-may_go_on : goal.returns-clause-may_go_on
returns-clause-may_go_on c k asked may =
    subst (λ (xs : List Asked). Contains xs asked) (sym (returns-clause-requests c)) (may_go_on_in_front c.args.self.now.requests k asked may)

pub returns-clause-last : goal.returns-clause-last
returns-clause-last c = subst OnlyLastWrites (sym (returns-clause-requests c)) (only_last_writes c.args.self.now.requests)
