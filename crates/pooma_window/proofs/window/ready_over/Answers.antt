use Rattle.pooma_machine.specs.Steps.{IsReadyFor}
use Rattle.pooma_machine.specs.Values.{asks_of}
use Rattle.pooma_window.proofs.Choosing.{all_below, next_below}
use Rattle.pooma_window.proofs.window.ready_over.Goals as goal

pub loop-entry-preserved : goal.loop-entry-preserved
loop-entry-preserved g c =
    let least = c.in-Some.ensures.least in
    next_below (IsReadyFor (asks_of g.W.Work.meaning c.args.machine.now.plan) c.args.machine.now.history c.args.object) c.loop-entry.from c.in-Some.entry c.loop-entry.ready.items c.push.new.self.items c.loop-entry.invariant
    least.not_below least.ready least.before c.in_ok-push.ensures.items

pub returns : goal.returns
returns g c = all_below (IsReadyFor (asks_of g.W.Work.meaning c.args.machine.now.plan) c.args.machine.now.history c.args.object) c.loop-entry.from c.loop-entry.ready.items c.loop-entry.invariant c.in_default.ensures.least
