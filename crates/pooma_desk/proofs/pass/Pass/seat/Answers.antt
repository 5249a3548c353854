use Rattle.std.proofs.Common.{◌<◌, Contains, subst, arith}
use Rattle.pooma_desk.specs.declared.sight.Noted.{Noted}
use Rattle.pooma_desk.specs.Tokens.{Token, IsLegalFor}
use Rattle.pooma_desk.proofs.pass.Pass.seat.Goals as goal

pub returns-clause-legal : goal.returns-clause-legal
returns-clause-legal g c = subst (IsLegalFor g.W.Work.meaning) c.self.view_is c.self.invariant.legal.legal

pub returns-clause-named : goal.returns-clause-named
returns-clause-named g c =
    let fits = c.self.invariant.placed.fits in
    subst (λ (t : Token _ _). (n : Noted _) → Contains t.seen n → n.event.seat < t.from.seats) c.self.view_is (λ n there. let a = fits.named n there in let b = fits.next in omega (arith, a, b))
