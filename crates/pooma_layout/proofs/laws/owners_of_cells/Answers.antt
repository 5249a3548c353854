use Rattle.pooma_layout.proofs.Owning.{owned_is_total, owner_owns, only_owner, same_owner}
use Rattle.pooma_layout.proofs.laws.owners_of_cells.Goals as goal

pub returns-clause-total : goal.returns-clause-total
returns-clause-total c = owned_is_total

pub returns-clause-owned : goal.returns-clause-owned
returns-clause-owned c = owner_owns

pub returns-clause-no_other : goal.returns-clause-no_other
returns-clause-no_other c = only_owner

pub returns-clause-by_parts : goal.returns-clause-by_parts
returns-clause-by_parts c = same_owner
