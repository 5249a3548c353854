use Rattle.pooma_stencil.specs.Expansions.{view_read}
use Rattle.pooma_stencil.proofs.Expanded.{views-expanded, depth-expanded, scalars_needed-expanded, axes_needed-expanded}
use Rattle.pooma_stencil.proofs.law.forms_of_expansions.Goals as goal

pub returns : goal.returns
returns c = record {
  views = λ s v. views-expanded (view_read s v) s.body;
  depth = λ s v. depth-expanded (view_read s v) s.body;
  scalars = λ s v. scalars_needed-expanded (view_read s v) s.body;
  axes = λ s v. axes_needed-expanded (view_read s v) s.body;
}
