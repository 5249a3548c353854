use Rattle.std.proofs.Common.{◌≡◌, ◌≤◌, ◌*◌, ◌-◌, ◌^◌, take}
use Rattle.pooma_machine.specs.Lines.{counted}
use Rattle.pooma_machine.proofs.lines.Lines.count.Given as goal

abbrev pub invariant-loop-request : goal.invariant-loop-request
invariant-loop-request l = (l.total ≡ counted l.self l.entry (take l.request-index l.requests)) × (l.total ≤ l.request-index * (2 ^ 32 - 1))
