use Rattle.std.proofs.Common.{arith}
use Rattle.pooma_queue.proofs.Counts.{none_before_released, open_from}
use Rattle.pooma_queue.proofs.queue.Queue.open_before_write.Goals as goal

pub overflow_sub-result : goal.overflow_sub-result
overflow_sub-result c =
    let within = rw (← c.self.view_is) at c.requires.there in
    let turn = rw (← c.self.view_is) at c.requires.in_turn in
    let all = open_from c.self.inside.requests.items c.args.k c.self.inside.released turn (omega (arith, c.if-k-self.false, c.self.invariant.2)) within c.self.invariant.4 in
    omega (arith, all)

pub returns-then-k-self : goal.returns-then-k-self
returns-then-k-self c =
    let within = rw (← c.self.view_is) at c.requires.there in
    let turn = rw (← c.self.view_is) at c.requires.in_turn in
    rw (← c.self.view_is) (none_before_released c.self.inside.requests.items c.args.k turn (omega (arith, c.if-k-self.true, c.self.invariant.2)) within (rw (← c.self.view_is) at c.requires.write))

pub returns-else-k-self : goal.returns-else-k-self
returns-else-k-self c =
    let within = rw (← c.self.view_is) at c.requires.there in
    let turn = rw (← c.self.view_is) at c.requires.in_turn in
    let all = open_from c.self.inside.requests.items c.args.k c.self.inside.released turn (omega (arith, c.if-k-self.false, c.self.invariant.2)) within c.self.invariant.4 in
    rw (← c.self.view_is) (omega (arith, all))
