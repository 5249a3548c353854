use Rattle.pooma_bench.proofs.Requests.{HasRequested}
use Rattle.pooma_bench.proofs.window.request_all.Given as goal

abbrev pub invariant-loop-entry : goal.invariant-loop-entry
invariant-loop-entry l = HasRequested l.machine l.entry
