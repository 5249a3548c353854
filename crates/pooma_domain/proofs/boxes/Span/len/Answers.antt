use Rattle.std.proofs.Common.{arith}
use Rattle.std.proofs.lemmas.Int.{ints}
use Rattle.pooma_domain.specs.Cells.{interval}
use Rattle.pooma_domain.proofs.PaddedBox.{length_of_axis}
use Rattle.pooma_domain.proofs.boxes.Span.len.Goals as goal

pub returns-clause-value : goal.returns-clause-value
returns-clause-value c = omega (arith, ints, length_of_axis (interval c.args.self.first c.args.self.last) c.requires)
