use Rattle.pooma_run.proofs.Merging.{AreMerged}
use Rattle.pooma_run.proofs.gather.gathered.Given as goal

abbrev pub invariant-parts : goal.invariant-parts
invariant-parts l = AreMerged l.fn.reduction l.outcomes l.outcome-index l.all
