use Rattle.std.proofs.Common.{Option, subst}
use Rattle.std.specs.Prelude.{◌↔◌, IsTrue, not}
use Rattle.pooma_view.specs.Overlap.{IsOverlap}
use Rattle.pooma_view.specs.Views.{Viewed}
use Rattle.pooma_expr.specs.Trees.{views_of}
use Rattle.pooma_stencil.specs.Expansions.{expansion}
use Rattle.pooma_stencil.specs.Stencils.{Stenciled}
use Rattle.pooma_check.specs.Readings.{views_by}
use Rattle.pooma_check.proofs.Overlaps.{AreApart, apart_single}
use Rattle.pooma_check.proofs.apart.is_apart.Goals as goal

pub returns-in-None : goal.returns-in-None
returns-in-None c =
    let target = c.args.target.now in
    let Tells : Option Stenciled → Type 0 = λ s. IsTrue (not c.overlaps.result) ↔ AreApart target (views_by s c.args.reading.now.view) in
    let Overlaps : Viewed → Type 0 = λ v. IsTrue c.overlaps.result ↔ IsOverlap v target in
    subst Tells c.in-None.ensures
    (apart_single target c.args.reading.now.view c.overlaps.result (subst Overlaps c.view_read-view.ensures.view c.overlaps.ensures))

pub returns-in-Some : goal.returns-in-Some
returns-in-Some c =
    let target = c.args.target.now in
    let Tells : Option Stenciled → Type 0 = λ s. IsTrue c.reads_apart.result ↔ AreApart target (views_by s c.args.reading.now.view) in
    let Of : Viewed → Type 0 = λ v. IsTrue c.reads_apart.result ↔ AreApart target (views_of (expansion c.in-Some.stencil.now v)) in
    subst Tells c.in-Some.ensures (subst Of c.view_read-view.ensures.view c.reads_apart.ensures)
