use Rattle.std.proofs.Common.{rules, ◌∷◌, [], take, length, FitsSigned, w32}
use Rattle.std.proofs.lemmas.Int.{to_z-of_z}
use Rattle.pooma_view.specs.Overlap.{AgreesAt}
use Rattle.pooma_view.proofs.Overlaps.{at_either}
use Rattle.pooma_view.proofs.views.View.agrees_along_z.Goals as goal

pub returns-then-agrees_at-clause-same : goal.returns-then-agrees_at-clause-same
returns-then-agrees_at-clause-same c t w e =
    let x_fits : FitsSigned w32 c.args.x = search rules in
    let y_fits : FitsSigned w32 c.args.y = search rules in
    let low_fits : FitsSigned w32 c.args.z.0 = search rules in
    let high_fits : FitsSigned w32 c.args.z.1 = search rules in
    at_either c.args.z.0 c.args.z.1 (λ v. AgreesAt c.args.self.now.slots c.args.target.now.slots (take (length c.args.self.now.slots) (c.args.x ∷ c.args.y ∷ v ∷ [])))
    (simp to_z-of_z at (c.agrees_at.ensures.same c.if-agrees_at.true))
    (simp to_z-of_z at (c.agrees_at-then-agrees_at.ensures.same t))
    w e
