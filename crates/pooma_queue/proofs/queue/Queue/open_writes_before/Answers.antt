use Rattle.std.proofs.Common.{◌∙◌, arith, get_or, ap}
use Rattle.pooma_queue.proofs.Counts.{no_write_before, writes_from}
use Rattle.pooma_queue.proofs.queue.Queue.open_writes_before.Goals as goal

pub overflow_sub-result : goal.overflow_sub-result
overflow_sub-result c =
    let within = rw (← c.self.view_is) at c.requires.there in
    let turn = rw (← c.self.view_is) at c.requires.in_turn in
    let all = writes_from c.self.inside.requests.items c.self.inside.writes.items c.self.inside.written c.args.k c.index-else-k-self.result.now c.index.result.now turn c.self.invariant.3
    (omega (arith, c.if-k-self.false, c.self.invariant.2)) within (c.index-else-k-self.ensures ∙ ap (λ n. get_or c.self.inside.writes.items n c.index-else-k-self.result.now) c.self.invariant.2) c.index.ensures in
    omega (arith, all)

pub returns-then-k-self : goal.returns-then-k-self
returns-then-k-self c =
    let within = rw (← c.self.view_is) at c.requires.there in
    rw (← c.self.view_is) (no_write_before c.self.inside.requests.items c.args.k (omega (arith, c.if-k-self.true, c.self.invariant.2)) (omega (arith, within)))

pub returns-else-k-self : goal.returns-else-k-self
returns-else-k-self c =
    let within = rw (← c.self.view_is) at c.requires.there in
    let turn = rw (← c.self.view_is) at c.requires.in_turn in
    let all = writes_from c.self.inside.requests.items c.self.inside.writes.items c.self.inside.written c.args.k c.index-else-k-self.result.now c.index.result.now turn c.self.invariant.3
    (omega (arith, c.if-k-self.false, c.self.invariant.2)) within (c.index-else-k-self.ensures ∙ ap (λ n. get_or c.self.inside.writes.items n c.index-else-k-self.result.now) c.self.invariant.2) c.index.ensures in
    rw (← c.self.view_is) (omega (arith, all))
