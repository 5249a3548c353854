use Rattle.std.proofs.Common.{ap, ◌∙◌, length, ◌+◌}
use Rattle.pooma_layout.proofs.Finding.{length-parts}
use Rattle.pooma_layout.proofs.axes.AxisParts.parts.Goals as goal

pub returns-clause-value : goal.returns-clause-value
returns-clause-value c = ap (λ borders. length borders + 1) c.borders.ensures.value ∙ length-parts c.args.self.now
