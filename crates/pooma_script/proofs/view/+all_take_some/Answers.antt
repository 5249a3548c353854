use Rattle.pooma_domain.specs.Cells.{IsOrdered}
use Rattle.pooma_script.specs.Views.{places_of}
use Rattle.pooma_script.proofs.Heads.{all_of_some}
use Rattle.pooma_script.proofs.view.+all_take_some.Goals as goal

pub returns-in-len1-up : goal.returns-in-len1-up
returns-in-len1-up t c = all_of_some IsOrdered places_of c.args.subs.now _ c.takes_some.result c.all_take_some.result c.both.result
    c.in-len1-up.len_at_least c.takes_some.ensures c.all_take_some.ensures c.both.ensures
