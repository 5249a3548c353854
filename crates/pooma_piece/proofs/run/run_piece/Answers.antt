use Rattle.std.proofs.Common.{rules}
use Rattle.pooma_piece.proofs.run.run_piece.Goals as goal

pub returns-in-Some-clause-content : goal.returns-in-Some-clause-content
returns-in-Some-clause-content c = rw c.in-Some.is (search rules)

pub returns-in-Some-clause-area : goal.returns-in-Some-clause-area
returns-in-Some-clause-area c = rw c.in-Some.is (search rules)

pub returns-in-Some-clause-writable : goal.returns-in-Some-clause-writable
returns-in-Some-clause-writable c = rw c.in-Some.is (search rules)
