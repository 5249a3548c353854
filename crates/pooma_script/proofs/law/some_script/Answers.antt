use Rattle.pooma_script.proofs.SomeScript.{some_script_of}
use Rattle.pooma_script.proofs.law.some_script.Goals as goal

pub returns : goal.returns
returns c = some_script_of c.some_reading.ensures
