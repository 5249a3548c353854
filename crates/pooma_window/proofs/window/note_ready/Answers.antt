use Rattle.pooma_machine.specs.Values.{asks_of}
use Rattle.pooma_window.proofs.Choosing.{more_ready, more_below, all_found}
use Rattle.pooma_window.proofs.window.note_ready.Goals as goal

pub loop-entry-preserved : goal.loop-entry-preserved
loop-entry-preserved g c =
    let least = c.in-Some.ensures.least in
    let plan = asks_of g.W.Work.meaning c.args.machine.now.plan in
    record {
      stays = more_ready plan c.args.machine.now.history c.loop-entry.choices c.put.new.self c.in-Some.entry c.loop-entry.invariant.stays least.ready c.in_ok-put.ensures.ok;
      below = more_below plan c.args.machine.now.history c.loop-entry.choices c.put.new.self c.loop-entry.from c.in-Some.entry c.loop-entry.invariant.below least c.in_ok-put.ensures.ok;
    }

pub returns : goal.returns
returns g c =
    all_found (asks_of g.W.Work.meaning c.args.machine.now.plan) c.args.machine.now.history c.loop-entry.choices c.loop-entry.from c.as_slice-ascending.ensures.ascending
    c.loop-entry.invariant.stays c.loop-entry.invariant.below c.in_default.ensures.least
