use Rattle.std.proofs.Common.{arith, ap, length}
use Rattle.pooma_part.specs.CutLines.{CutLine}
use Rattle.pooma_part.proofs.Dividing.{parts_counted}
use Rattle.pooma_part.proofs.line.Line.parts.Goals as goal

pub returns-clause-value : goal.returns-clause-value
returns-clause-value c =
    omega (arith, c.len.ensures, c.self.inside.borders.ok.0, parts_counted c.args.self.now, ap (λ (l : CutLine). length l.borders) c.self.view_is)
