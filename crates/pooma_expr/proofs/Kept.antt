-- What a new code keeps.
use Rattle.std.proofs.Common.{◌≡◌, ℕ, ◌≤◌, ℤ, List, [], ◌++◌, length, sym, ap, ◌∙◌, arith}
use Rattle.pooma_view.specs.Views.{Viewed}
use Rattle.pooma_expr.specs.declared.operation.Operation.{Operation}
use Rattle.pooma_expr.specs.declared.tree.Expr.{Expr}
use Rattle.pooma_expr.specs.Code.{emitted, places_of}
use Rattle.pooma_expr.specs.Compiled.{IsCodeOf}
use Rattle.pooma_expr.specs.Trees.{bound, depth_of, views_of}
use Rattle.pooma_expr.proofs.Bound.{views_bound, depth_bound}

pub kept : (e t s : Expr) (scalars : List ℤ) (before code : List Operation) (old reads : List Viewed) (places : ℕ)
    → t ≡ bound scalars e → s ≡ t → before ≡ [] → old ≡ [] → code ≡ before ++ (emitted t (length old)).operations → reads ≡ old ++ views_of t
    → places ≡ places_of t → places ≤ depth_of t → depth_of e ≤ 256 → length (views_of e) ≤ 64 → IsCodeOf s code reads places
kept e t s scalars before code old reads places is same none empty made seen high low deep few = record {
  operations_are = made ∙ ap (λ (xs : List Operation). xs ++ (emitted t (length old)).operations) none ∙ ap (λ (vs : List Viewed). (emitted t (length vs)).operations) empty ∙ ap (λ (x : Expr). (emitted x 0).operations) (sym same);
  reads_are = views ∙ ap views_of (sym same);
  places_are = high ∙ ap places_of (sym same);
  few_places = omega (arith, ap depth_of is, depth_bound scalars e);
  few_reads = omega (arith, ap length views, ap (λ (x : Expr). length (views_of x)) is, ap length (views_bound scalars e));
}
  where
    views : reads ≡ views_of t
    views = seen ∙ ap (λ (vs : List Viewed). vs ++ views_of t) empty
