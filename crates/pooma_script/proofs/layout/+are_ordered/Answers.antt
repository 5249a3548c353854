use Rattle.std.proofs.Common.{pos}
use Rattle.pooma_domain.specs.Cells.{IsOrdered, interval}
use Rattle.pooma_script.proofs.Heads.{all_by_first}
use Rattle.pooma_script.proofs.layout.+are_ordered.Goals as goal

pub returns-in-len1-up : goal.returns-in-len1-up
returns-in-len1-up t c = all_by_first IsOrdered (λ bounds. interval bounds.0 bounds.1) c.args.domain.now (pos 0, pos 0) c.is_ordered.result c.are_ordered.result c.both.result
    c.in-len1-up.len_at_least c.is_ordered.ensures c.are_ordered.ensures c.both.ensures
