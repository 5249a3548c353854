use Rattle.std.proofs.Common.{◌≡◌, ◌++◌, [], map}
use Rattle.std.specs.Arc.{arc_value}
use Rattle.std.specs.Vec.Iter.{into_iter_items}
use Rattle.pooma_machine.specs.Values.{asks_of}
use Rattle.pooma_window.specs.Running.{HasRun}
use Rattle.pooma_window.proofs.window.request_all.Given as goal

abbrev pub invariant-loop-work : goal.invariant-loop-work
invariant-loop-work g l =
    record {
      plan : l.machine.plan ≡ map arc_value l.yielded;
      opening : l.machine.opening ≡ l.fn.machine.opening;
      run : HasRun (asks_of g.W.Work.meaning l.machine.plan) l.machine.history [];
      rest : l.fn.works.items ≡ l.yielded ++ into_iter_items l.work-iterator;
    }
