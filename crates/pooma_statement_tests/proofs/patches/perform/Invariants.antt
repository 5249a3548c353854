use Rattle.std.proofs.Common.{◌≡◌, map}
use Rattle.pooma_store.specs.Stored.{contents_of}
use Rattle.pooma_statement_tests.proofs.patches.perform.Given as goal

abbrev pub invariant-loop-piece : goal.invariant-loop-piece
invariant-loop-piece l = map (λ object. object.area) (contents_of l.patches) ≡ map (λ object. object.area) (contents_of l.initial.patches)
