use Rattle.std.proofs.Common.{take}
use Rattle.pooma_machine.specs.Values.{asks_of}
use Rattle.pooma_window.proofs.Choosing.{HasOver}
use Rattle.pooma_window.proofs.window.note_freed.Given as goal

abbrev pub invariant-loop-request : goal.invariant-loop-request
invariant-loop-request g l = HasOver (asks_of g.W.Work.meaning l.machine.plan) l.machine.history l.fn.choices (take l.request-index l.request-items) l.choices
