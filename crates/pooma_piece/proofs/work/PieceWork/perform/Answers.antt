use Rattle.std.proofs.Common.{rules}
use Rattle.pooma_piece.proofs.work.PieceWork.perform.Goals as goal

pub returns-in-Some-clause-value : goal.returns-in-Some-clause-value
returns-in-Some-clause-value c = rw c.in-Some.is (search rules)

pub returns-in-Some-clause-shape : goal.returns-in-Some-clause-shape
returns-in-Some-clause-shape c = rw c.in-Some.is (search rules)
