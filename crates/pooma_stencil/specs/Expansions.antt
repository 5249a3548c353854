-- What a stencil makes of a view: its value at a position, and the expression that has this value.
use Rattle.std.specs.Prelude.{◌≡◌, ℤ, List, length, All}
use Rattle.pooma_domain.specs.Cells.{Interval, IsBox, IsIn, IsOrdered}
use Rattle.pooma_domain.specs.Operations.{moved, shifted}
use Rattle.pooma_view.specs.Overlap.{IsOverlap}
use Rattle.pooma_view.specs.Restricted.{restricted}
use Rattle.pooma_view.specs.Slots.{positions_of, cell_named}
use Rattle.pooma_view.specs.Views.{Viewed}
use Rattle.pooma_expr.specs.Values.{Checked}
use Rattle.pooma_expr.specs.declared.tree.Expr.{Expr}
use Rattle.pooma_expr.specs.declared.tree.Expr.TheOpen.{Expr-F}
use Rattle.pooma_expr.specs.declared.tree.Expr.TheViews.{roll-Expr}
use Rattle.pooma_stencil.specs.declared.body.Body.{Body}
use Rattle.pooma_stencil.specs.declared.body.Body.TheOpen.{Body-F}
use Rattle.pooma_stencil.specs.declared.body.Body.TheFolds.{fold-Body}
use Rattle.pooma_stencil.specs.Bodies.{body_value}
use Rattle.pooma_stencil.specs.Stencils.{Stenciled, result_positions}

-- the positions of a stencil's result on a view
abbrev pub positions_on : Stenciled → Viewed → List Interval
positions_on s v = result_positions s (positions_of v.slots)

-- the stencil has a result on the view: as many axes, and a position
pub record HasResult (s : Stenciled) (v : Viewed) : Type 0 where
  pub positions : IsBox (positions_of v.slots)
  pub dims : length s.lower ≡ length (positions_of v.slots)
  pub room : All IsOrdered (positions_on s v)

-- the cell that is read at a position of the result for an offset: the one that the view names so much further
abbrev pub cell_read : Stenciled → Viewed → List ℤ → List ℤ → List ℤ
cell_read s v p o = cell_named v.slots (moved p (moved s.lower o))

-- the value of a stencil on a view at a position of the result, where the view's array has these numbers at its cells
abbrev pub value_on : (List ℤ → ℤ) → Stenciled → Viewed → List ℤ → Checked
value_on number s v p = body_value (λ o. number (cell_read s v p o)) s.body

-- the view that is read for an offset: at as many positions as the result has, the first of them the lower extents and the offset
abbrev pub view_read : Stenciled → Viewed → List ℤ → Viewed
view_read s v o = restricted v (shifted (positions_on s v) (moved s.lower o))

-- the same form of an expression, with a read for each offset
abbrev pub expanded_by : {A : Type 0} → (List ℤ → Viewed) → Body-F A → Expr-F A
expanded_by view (Body-F.Literal x) = Expr-F.Literal x
expanded_by view (Body-F.At o) = Expr-F.Read (view o)
expanded_by view (Body-F.Neg a) = Expr-F.Neg a
expanded_by view (Body-F.Abs a) = Expr-F.Abs a
expanded_by view (Body-F.Bin o a b) = Expr-F.Bin o a b
expanded_by view (Body-F.Where c a b) = Expr-F.Where c a b

-- a body as an expression, where each offset is read from this view
abbrev pub expanded : (List ℤ → Viewed) → Body → Expr
expanded view = fold-Body Expr (λ b. roll-Expr (expanded_by view b))

-- the expression of a stencil on a view
abbrev pub expansion : Stenciled → Viewed → Expr
expansion s v = expanded (view_read s v) s.body

-- a view of the same array with these positions, at each of which it names a cell that the whole view names
pub record IsPartOf (whole : Viewed) (axes : List Interval) (v : Viewed) : Type 0 where
  pub array : v.array ≡ whole.array
  pub slots : length v.slots ≡ length whole.slots
  pub positions : positions_of v.slots ≡ axes
  pub cells : (p : List ℤ) → IsIn axes p → (q : List ℤ) × IsIn (positions_of whole.slots) q × (cell_named v.slots p ≡ cell_named whole.slots q)

-- the view that is read for an offset is a part of the whole one, and names the cells that are read for it
pub record IsReadFor (s : Stenciled) (v : Viewed) (o : List ℤ) : Type 0 where
  pub part : IsPartOf v (positions_on s v) (view_read s v o)
  pub cells : (p : List ℤ) → IsIn (positions_on s v) p → cell_named (view_read s v o).slots p ≡ cell_read s v p o

-- the view that is read for an offset does not overlap another one
abbrev pub IsReadApart : Stenciled → Viewed → Viewed → List ℤ → Type 0
IsReadApart s v target o = IsOverlap (view_read s v o) target → ⊥
