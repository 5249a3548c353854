use Rattle.std.proofs.Common.{◌≡◌, ap, subst, ◌∙◌}
use Rattle.std.specs.Prelude.{All}
use Rattle.pooma_stencil.specs.Bodies.{offsets_of}
use Rattle.pooma_stencil.specs.Stencils.{Stenciled}
use Rattle.pooma_stencil.specs.Expansions.{IsReadFor, expanded, expansion, view_read}
use Rattle.pooma_stencil.proofs.Expanded.{value-expansion, views-expansion, parts_of_expansion, depth-expansion, scalars_needed-expansion, axes_needed-expansion}
use Rattle.pooma_stencil.proofs.stencil.Stencil.expand.Goals.{In_ok-expr}
use Rattle.pooma_stencil.proofs.stencil.Stencil.expand.Goals as goal

-- the tree is the expansion, and each of its offsets is read as it has to be
is_expansion : (c : In_ok-expr) → c.in_ok-expr.expr ≡ expansion c.args.self.now c.args.view.now
is_expansion c = c.in_ok-expr.ensures.tree ∙ ap (λ (s : Stenciled). expanded (view_read c.args.self.now c.args.view.now) s.body) c.self.view_is

all_read : (c : In_ok-expr) → All (IsReadFor c.args.self.now c.args.view.now) (offsets_of c.args.self.now.body)
all_read c = subst (λ (s : Stenciled). All (IsReadFor c.args.self.now c.args.view.now) (offsets_of s.body)) c.self.view_is c.in_ok-expr.ensures.reads

pub returns-clause-value : goal.returns-clause-value
returns-clause-value c = value-expansion c.args.self.now c.args.view.now _ (is_expansion c) (all_read c)

pub returns-clause-views : goal.returns-clause-views
returns-clause-views c = views-expansion c.args.self.now c.args.view.now _ (is_expansion c) (all_read c)

pub returns-clause-parts : goal.returns-clause-parts
returns-clause-parts c = parts_of_expansion c.args.self.now c.args.view.now _ (is_expansion c) (all_read c)

pub returns-clause-depth : goal.returns-clause-depth
returns-clause-depth c = depth-expansion c.args.self.now c.args.view.now _ (is_expansion c) (all_read c)

pub returns-clause-scalars : goal.returns-clause-scalars
returns-clause-scalars c = scalars_needed-expansion c.args.self.now c.args.view.now _ (is_expansion c) (all_read c)

pub returns-clause-axes : goal.returns-clause-axes
returns-clause-axes c = axes_needed-expansion c.args.self.now c.args.view.now _ (is_expansion c) (all_read c)
