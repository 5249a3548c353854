use Rattle.std.proofs.Common.{◌∙◌}
use Rattle.std.proofs.lemmas.List.{length-replicate}
use Rattle.pooma_expr.proofs.Correct.{code_can, code_comes}
use Rattle.pooma_expr.proofs.eval.eval_in.Goals as goal

pub run-requires : goal.run-requires
run-requires g c = rw (c.operations.ensures, length-replicate) (code_can _ _ _ _ c.requires.places c.requires.axes c.requires.reads)

pub returns : goal.returns
returns g c = λ has agree. c.run.ensures ∙ rw c.operations.ensures (code_comes (g.R.Reads.number c.args.reads.now) has _ _ agree)
