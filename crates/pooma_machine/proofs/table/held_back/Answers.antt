use Rattle.std.proofs.Common.{◌-◌, ◌∙◌, ap, sym, length}
use Rattle.std.proofs.lemmas.List.{take_rest}
use Rattle.pooma_queue.specs.Requests.{holds_back}
use Rattle.pooma_machine.proofs.Waking.{last_writes}
use Rattle.pooma_machine.proofs.table.held_back.Goals as goal

pub returns-in-Read-clause-all : goal.returns-in-Read-clause-all
returns-in-Read-clause-all c asked there holds =
    rw (c.saturating_sub.ensures, take_rest c.args.front.now (length c.args.front.now - 1)) (last_writes c.args.front.now asked c.requires there (ap (λ mode. holds_back mode asked) (sym c.in-Read.is) ∙ holds))
