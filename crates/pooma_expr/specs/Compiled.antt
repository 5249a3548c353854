-- What a code keeps.
use Rattle.std.specs.Prelude.{◌≡◌, ℕ, ◌≤◌, List, length}
use Rattle.pooma_view.specs.Views.{Viewed}
use Rattle.pooma_expr.specs.declared.operation.Operation.{Operation}
use Rattle.pooma_expr.specs.declared.tree.Expr.{Expr}
use Rattle.pooma_expr.specs.Code.{emitted, places_of}
use Rattle.pooma_expr.specs.Trees.{views_of}

-- the operations, reads and places of this expression, within the limits on codes
pub record IsCodeOf (e : Expr) (operations : List Operation) (reads : List Viewed) (places : ℕ) : Type 0 where
  pub operations_are : operations ≡ (emitted e 0).operations
  pub reads_are : reads ≡ views_of e
  pub places_are : places ≡ places_of e
  pub few_places : places ≤ 256
  pub few_reads : length reads ≤ 64
