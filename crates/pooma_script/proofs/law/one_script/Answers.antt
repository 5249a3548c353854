use Rattle.pooma_script.proofs.Unique.{one_script_of}
use Rattle.pooma_script.proofs.law.one_script.Goals as goal

pub returns : goal.returns
returns c = one_script_of c.one_form.ensures.one c.one_form.ensures.blank
