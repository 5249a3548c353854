use Rattle.std.proofs.Common.{◌≡◌, replicate}
use Rattle.pooma_machine.specs.Slots.{contents}
use Rattle.pooma_bench.proofs.window.opened.Given as goal

abbrev pub invariant-loop : goal.invariant-loop
invariant-loop l = contents (λ value. value) l.values.items ≡ replicate l.counter 0
