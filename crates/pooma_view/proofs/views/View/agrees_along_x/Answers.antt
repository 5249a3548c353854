use Rattle.std.proofs.Common.{rules, ◌∷◌, [], take, length, FitsSigned, w32}
use Rattle.std.proofs.lemmas.Int.{to_z-of_z}
use Rattle.pooma_view.specs.Overlap.{AgreesAt}
use Rattle.pooma_view.proofs.Overlaps.{at_either}
use Rattle.pooma_view.proofs.views.View.agrees_along_x.Goals as goal

pub returns-then-agrees_along_y-clause-same : goal.returns-then-agrees_along_y-clause-same
returns-then-agrees_along_y-clause-same c t a b w ea eb e =
    let low_fits : FitsSigned w32 c.args.x.0 = search rules in
    let high_fits : FitsSigned w32 c.args.x.1 = search rules in
    at_either c.args.x.0 c.args.x.1 (λ v. AgreesAt c.args.self.now.slots c.args.target.now.slots (take (length c.args.self.now.slots) (v ∷ b ∷ w ∷ [])))
    (simp to_z-of_z at (c.agrees_along_y.ensures.same c.if-agrees_along_y.true b w eb e))
    (simp to_z-of_z at (c.agrees_along_y-then-agrees_along_y.ensures.same t b w eb e))
    a ea
