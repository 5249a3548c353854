use Rattle.std.proofs.Common.{◌≡◌, ◌*◌, ◌-◌, List, length}
use Rattle.pooma_machine.specs.Steps.{IsReady}
use Rattle.pooma_machine.specs.Values.{asks_of}
use Rattle.pooma_machine.specs.Became.{IsListOf}
use Rattle.pooma_window.specs.Questions.{Question, followed_by}
use Rattle.pooma_window.specs.Running.{HasRun}
use Rattle.pooma_window.proofs.window.run_all.Given as goal

abbrev pub invariant-loop-first : goal.invariant-loop-first
invariant-loop-first g l =
    record {
      plan : l.machine.plan ≡ l.fn.machine.plan;
      opening : l.machine.opening ≡ l.fn.machine.opening;
      list : IsListOf (IsReady (asks_of g.W.Work.meaning l.machine.plan) l.machine.history) l.choices;
      run : (questions : List Question)
          × HasRun (asks_of g.W.Work.meaning l.machine.plan) l.machine.history questions
          × (g.P.Picker.asked l.picker ≡ followed_by (g.P.Picker.asked l.fn.picker) questions);
    }

abbrev pub decreases-loop-first : goal.decreases-loop-first
decreases-loop-first g l = 3 * length l.machine.plan - length l.machine.history
