use Rattle.pooma_field.proofs.beside.+target.Given as goal

abbrev pub decreases-target : goal.decreases-target
decreases-target l = l.axis
