-- The code of a literal has no views.
use Rattle.std.proofs.Common.{refl, sym, ap, ◌∙◌, arith}
use Rattle.std.specs.Result.{IfOk}
use Rattle.std.specs.Prelude.{◌≡◌, ℕ, ℤ, pos, Result, Ok, Err, Some, Option, List, [], ◌∷◌, length, map, slice_get, slice_set, All}
use Rattle.pooma_domain.specs.Cells.{Interval}
use Rattle.pooma_view.specs.Views.{Viewed}
use Rattle.pooma_field.specs.declared.shapes.Slab.{Slab}
use Rattle.pooma_field.specs.declared.updaters.Updater.{Updater}
use Rattle.pooma_field.specs.declared.updaters.Updater.TheVariants.{Constant, Periodic, Reflect, Antireflect, Extrapolate}
use Rattle.pooma_field.specs.Shapes.{Shaped}
use Rattle.pooma_field.specs.Slabs.{cell_sources, coordinate_at, sources_along}
use Rattle.pooma_expr.specs.declared.tree.Expr.{Expr}
use Rattle.pooma_expr.specs.declared.tree.Expr.TheOpen.{Expr-F}
use Rattle.pooma_expr.specs.declared.tree.Expr.TheViews.{roll-Expr}
use Rattle.pooma_expr.specs.declared.tree.Expr.TheFolds.{fold-roll-Expr}
use Rattle.pooma_expr.specs.declared.tree.Expr.TheVariants.{Literal, rolls-Literal}
use Rattle.pooma_expr.specs.Trees.{axes_at, axes_needed, bound, bound_by, depth_by, depth_of, greatest_by, scalars_at, scalars_needed, views_by, views_of}
use Rattle.pooma_field.specs.declared.shapes.Shape.{Shape}
use Rattle.pooma_layout.specs.Axes.{CutAxis}
use Rattle.pooma_piece.specs.declared.task.Task.TheVariants.{Fill}
use Rattle.pooma_piece.specs.Pieces.{HasPositions}
use Rattle.pooma_store.specs.Numbering.{object_of}
use Rattle.pooma_fill.specs.Filling.{fill_of_box}

pub literal_views : (x : ℤ) → views_of (Literal x) ≡ []
literal_views x = ap views_of (sym (rolls-Literal x)) ∙ fold-roll-Expr (List Viewed) views_by (Expr-F.Literal x)

pub literal_axes : (x : ℤ) → axes_needed (Literal x) ≡ 0
literal_axes x = ap axes_needed (sym (rolls-Literal x)) ∙ fold-roll-Expr ℕ (greatest_by axes_at) (Expr-F.Literal x)

pub literal_scalars : (x : ℤ) → scalars_needed (Literal x) ≡ 0
literal_scalars x = ap scalars_needed (sym (rolls-Literal x)) ∙ fold-roll-Expr ℕ (greatest_by scalars_at) (Expr-F.Literal x)

pub literal_depth : (x : ℤ) → depth_of (Literal x) ≡ 1
literal_depth x = ap depth_of (sym (rolls-Literal x)) ∙ fold-roll-Expr ℕ depth_by (Expr-F.Literal x)

pub literal_bound : (x : ℤ) → bound [] (Literal x) ≡ Literal x
literal_bound x =
    ap (bound []) (sym (rolls-Literal x)) ∙ fold-roll-Expr Expr (λ e. roll-Expr (bound_by [] e)) (Expr-F.Literal x) ∙ rolls-Literal x

pub none_within : (positions : List Interval) (views : List Viewed) → views ≡ [] → All (HasPositions positions) views
none_within positions [] e = λ k d there. absurd (omega (arith, there))
none_within positions (view ∷ views) e = cc

pub none_at : (views : List Viewed) (j : ℕ) (view : Viewed) → views ≡ [] → slice_get views j ≡ Some view → ⊥
none_at [] j view e at = cc
none_at (v ∷ views) j view e at = cc

as_many : (u : Updater) (axis other : Interval) (x y : ℤ) (f g : ℤ → List ℤ) → length (map f (sources_along u axis x)) ≡ length (map g (sources_along u other y))
as_many (Constant k) axis other x y f g = refl
as_many Periodic axis other x y f g = refl
as_many Reflect axis other x y f g = refl
as_many Antireflect axis other x y f g = refl
as_many Extrapolate axis other x y f g = refl

-- each cell of a slab has as many sources
pub sources_alike : (shape : Shaped) (slab : Slab) (c d : List ℤ) → length (cell_sources shape slab c) ≡ length (cell_sources shape slab d)
sources_alike shape slab c d = as_many slab.updater _ _ (coordinate_at c slab.axis) (coordinate_at d slab.axis) (λ x. slice_set c slab.axis x) (λ x. slice_set d slab.axis x)

pub if_ok : {T E : Type 0} (r : Result T E) (P Q : T → Type 0) → IfOk r P → ((x : T) → P x → Q x) → IfOk r Q
if_ok (Ok x) P Q h f = f x h
if_ok (Err e) P Q h f = h

pub same_fill : (layouts : List (List CutAxis)) (number : ℕ) (shape : Shape) (array : ℕ) (slab : Slab) (target : ℕ) (box : List Interval) (code : Expr) (write : Option ℕ) (reads : List ℕ) → code ≡ Literal (pos 0) → write ≡ Some (object_of layouts array target) → reads ≡ (fill_of_box layouts number shape array slab target box).reads → record { statement = number; positions = box; task = Fill shape slab array; code = code; write = write; reads = reads } ≡ fill_of_box layouts number shape array slab target box
same_fill layouts number shape array slab target box code write reads e f g = rw (e, f, g) refl
