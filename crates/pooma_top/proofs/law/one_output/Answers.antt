use Rattle.pooma_top.proofs.OneOutput.{output_unique, some_output}
use Rattle.pooma_top.proofs.law.one_output.Goals as goal

pub returns : goal.returns
returns c = record { some = some_output c.some_script.ensures; only = output_unique c.one_script.ensures }
