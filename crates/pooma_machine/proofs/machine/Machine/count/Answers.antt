use Rattle.pooma_machine.proofs.Counting.{count_none}
use Rattle.pooma_machine.proofs.machine.Machine.count.Goals as goal

pub returns-clause-pairs : goal.returns-clause-pairs
returns-clause-pairs g c = rw (← c.self.view_is) c.count.ensures

pub returns-clause-none : goal.returns-clause-none
returns-clause-none g c = rw (← c.self.view_is) (count_none _ c.self.inside.table.history c.args.j c.count.result c.count.ensures)
