use Rattle.std.proofs.Common.{◌≡◌, map, take}
use Rattle.std.specs.Prelude.{All}
use Rattle.pooma_machine.specs.Steps.{IsRequestList}
use Rattle.pooma_machine.specs.Journal.{entry_of}
use Rattle.pooma_machine.proofs.journal.entries_of.Given as goal

abbrev pub invariant-loop-j : goal.invariant-loop-j
invariant-loop-j g l = (l.entries.items ≡ map (entry_of g.W.Work.meaning) (take l.j l.machine.plan)) × All (λ entry. IsRequestList entry.requests) l.entries.items
