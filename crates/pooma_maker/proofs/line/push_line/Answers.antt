use Rattle.std.proofs.Common.{◌++◌, codes, decimal}
use Rattle.pooma_maker.proofs.Drawn.{closed_line}
use Rattle.pooma_maker.proofs.line.push_line.Goals as goal

pub returns-in-3 : goal.returns-in-3
returns-in-3 c =
    rw c.in-3.is (closed_line c.push_around-in-3.result c.args.out.now.items c.push_around-in-3.new.out.items (codes "B = where(A < U, A, U + " ++ decimal c.args.constant) 41 c.push_around-in-3.ensures)
