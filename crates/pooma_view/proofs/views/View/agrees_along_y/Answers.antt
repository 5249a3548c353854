use Rattle.std.proofs.Common.{rules, ◌∷◌, [], take, length, FitsSigned, w32}
use Rattle.std.proofs.lemmas.Int.{to_z-of_z}
use Rattle.pooma_view.specs.Overlap.{AgreesAt}
use Rattle.pooma_view.proofs.Overlaps.{at_either}
use Rattle.pooma_view.proofs.views.View.agrees_along_y.Goals as goal

pub returns-then-agrees_along_z-clause-same : goal.returns-then-agrees_along_z-clause-same
returns-then-agrees_along_z-clause-same c t b w eb e =
    let x_fits : FitsSigned w32 c.args.x = search rules in
    let low_fits : FitsSigned w32 c.args.y.0 = search rules in
    let high_fits : FitsSigned w32 c.args.y.1 = search rules in
    at_either c.args.y.0 c.args.y.1 (λ v. AgreesAt c.args.self.now.slots c.args.target.now.slots (take (length c.args.self.now.slots) (c.args.x ∷ v ∷ w ∷ [])))
    (simp to_z-of_z at (c.agrees_along_z.ensures.same c.if-agrees_along_z.true w e))
    (simp to_z-of_z at (c.agrees_along_z-then-agrees_along_z.ensures.same t w e))
    b eb
