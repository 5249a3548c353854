use Rattle.std.proofs.Common.{◌↔◌, subst}
use Rattle.std.specs.Prelude.{All, IsTrue}
use Rattle.pooma_view.specs.Overlap.{IsOverlap}
use Rattle.pooma_stencil.specs.Bodies.{offsets_of}
use Rattle.pooma_stencil.specs.Stencils.{Stenciled}
use Rattle.pooma_stencil.specs.Expansions.{IsReadApart}
use Rattle.pooma_stencil.proofs.ViewsRead.{views_by_offsets}
use Rattle.pooma_stencil.proofs.stencil.Stencil.reads_apart.Goals as goal

pub returns : goal.returns
returns c =
    let by_views = views_by_offsets (λ read. IsOverlap read c.args.target.now → ⊥) c.args.self.now c.args.view.now in
    let by_offsets = subst (λ (s : Stenciled). IsTrue c.body_reads_apart.result ↔ All (IsReadApart c.args.self.now c.args.view.now c.args.target.now) (offsets_of s.body)) c.self.view_is c.body_reads_apart.ensures in
    (λ t. by_views.1 (by_offsets.0 t), λ all. by_offsets.1 (by_views.0 all))
