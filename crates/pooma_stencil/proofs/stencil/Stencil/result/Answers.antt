use Rattle.std.proofs.Common.{◌↔◌, subst, All, IsSome}
use Rattle.pooma_domain.specs.Cells.{IsOrdered}
use Rattle.pooma_stencil.specs.Stencils.{Stenciled, result_positions}
use Rattle.pooma_stencil.proofs.stencil.Stencil.result.Goals as goal

pub returns-clause-found : goal.returns-clause-found
returns-clause-found c =
    subst (λ (s : Stenciled). IsSome c.shrink.result ↔ All IsOrdered (result_positions s c.args.positions.now)) c.self.view_is c.shrink.ensures.found
