-- What is asked of an expression is asked of its operands.
use Rattle.std.proofs.Common.{◌≡◌, ℕ, ◌+◌, ◌≤◌, ℤ, Bool, true, false, true≢false, List, [], ◌++◌, None, Some, refl, sym, ap, subst, ◌∙◌, arith}
use Rattle.std.proofs.lemmas.List.Elements.{All-head}
use Rattle.std.specs.Prelude.{All, IsTrue, ◌&&◌}
use Rattle.pooma_text.specs.declared.span.Span.{Span}
use Rattle.pooma_domain.specs.Cells.{count_of}
use Rattle.pooma_expr.specs.declared.tree.Expr.{Expr}
use Rattle.pooma_stencil.specs.Expansions.{expansion}
use Rattle.pooma_parse.specs.declared.form.RawExpr.{RawExpr}
use Rattle.pooma_parse.specs.declared.form.RawExpr.TheVariants as raw
use Rattle.pooma_parse.specs.declared.form.RawOp.{RawOp}
use Rattle.pooma_parse.specs.declared.form.RawView.{RawView}
use Rattle.pooma_script.specs.declared.names.Named.TheVariants as named
use Rattle.pooma_script.specs.Known.{Known, declared_in, is_array, is_stencil, named_at, stencil_named}
use Rattle.pooma_script.specs.Trees.{axes_by, axes_in, is_readable, names_by, names_fit, readings_by, readings_in, tree_by, tree_of, unless_scalar}
use Rattle.pooma_script.specs.Views.{Reading, reading_of, view_of}
use Rattle.pooma_script.proofs.Expressions.{fold-Abs, fold-Apply, fold-Bin, fold-Index, fold-Neg, fold-View, fold-Where}
use Rattle.pooma_script.proofs.Offsets.{back_of_all, front_of_all}
use Rattle.pooma_check.specs.Readings.{CanView, IsSoundReading}
use Rattle.pooma_check.specs.Seen.{CanMake}
use Rattle.pooma_check.proofs.Sounding.{can_view}

pub first_of_and : (a b : Bool) → IsTrue (a && b) → IsTrue a
first_of_and true b h = refl
first_of_and false b h = h

pub second_of_and : (a b : Bool) → IsTrue (a && b) → IsTrue b
second_of_and true b h = h
second_of_and false b h = absurd (true≢false (sym h))

module _ (known : Known) (line : List ℕ) where
  abbrev fit : RawExpr → Bool
  fit = names_fit known.names line

  abbrev made : RawExpr → List Reading
  made = readings_in known line

  abbrev sound : Reading → Type 0
  sound = IsSoundReading (declared_in known)

  pub make_neg : (e a : RawExpr) → e ≡ raw.Neg a → CanMake known line e → CanMake known line a
  make_neg e a is can = record {
    names = subst IsTrue (ap fit is ∙ fold-Neg Bool (names_by known.names line) a) can.names;
    reads = subst (All sound) (ap made is ∙ fold-Neg (List Reading) (readings_by known line) a) can.reads;
    axes = let e = ap axes_in is ∙ fold-Neg ℕ axes_by a in let h = can.axes in omega (arith, e, h);
  }

  pub make_abs : (e a : RawExpr) → e ≡ raw.Abs a → CanMake known line e → CanMake known line a
  make_abs e a is can = record {
    names = subst IsTrue (ap fit is ∙ fold-Abs Bool (names_by known.names line) a) can.names;
    reads = subst (All sound) (ap made is ∙ fold-Abs (List Reading) (readings_by known line) a) can.reads;
    axes = let e = ap axes_in is ∙ fold-Abs ℕ axes_by a in let h = can.axes in omega (arith, e, h);
  }

  pub make_bin : (e : RawExpr) (op : RawOp) (a b : RawExpr) → e ≡ raw.Bin op a b → CanMake known line e → CanMake known line a × CanMake known line b
  make_bin e op a b is can =
      let names : IsTrue (fit a && fit b) = subst IsTrue (ap fit is ∙ fold-Bin Bool (names_by known.names line) op a b) can.names in
      let reads : All sound (made a ++ made b) = subst (All sound) (ap made is ∙ fold-Bin (List Reading) (readings_by known line) op a b) can.reads in
      let axes = ap axes_in is ∙ fold-Bin ℕ axes_by op a b in
      let h = can.axes in (
        record { names = first_of_and (fit a) (fit b) names; reads = front_of_all sound (made a) (made b) reads; axes = omega (arith, axes, h) },
        record { names = second_of_and (fit a) (fit b) names; reads = back_of_all sound (made a) (made b) reads; axes = omega (arith, axes, h) },
      )

  pub make_where : (e c a b : RawExpr) → e ≡ raw.Where c a b → CanMake known line e → CanMake known line c × CanMake known line a × CanMake known line b
  make_where e c a b is can =
      let names : IsTrue (fit c && (fit a && fit b)) = subst IsTrue (ap fit is ∙ fold-Where Bool (names_by known.names line) c a b) can.names in
      let branches : IsTrue (fit a && fit b) = second_of_and (fit c) (fit a && fit b) names in
      let reads : All sound (made c ++ (made a ++ made b)) = subst (All sound) (ap made is ∙ fold-Where (List Reading) (readings_by known line) c a b) can.reads in
      let later : All sound (made a ++ made b) = back_of_all sound (made c) (made a ++ made b) reads in
      let axes = ap axes_in is ∙ fold-Where ℕ axes_by c a b in
      let h = can.axes in (
        record { names = first_of_and (fit c) (fit a && fit b) names; reads = front_of_all sound (made c) (made a ++ made b) reads; axes = omega (arith, axes, h) },
        record { names = first_of_and (fit a) (fit b) branches; reads = front_of_all sound (made a) (made b) later; axes = omega (arith, axes, h) },
        record { names = second_of_and (fit a) (fit b) branches; reads = back_of_all sound (made a) (made b) later; axes = omega (arith, axes, h) },
      )

  -- an index names one of at most three axes
  pub make_index : (e : RawExpr) (axis : ℤ) → e ≡ raw.Index axis → CanMake known line e → count_of axis + 1 ≤ 3
  make_index e axis is can = let axes = ap axes_in is ∙ fold-Index ℕ axes_by axis in let h = can.axes in omega (arith, axes, h)

  pub make_view_names : (e : RawExpr) (seen : RawView) → e ≡ raw.View seen → CanMake known line e → IsTrue (is_readable seen.subs (named_at known line seen.name))
  make_view_names e seen is can = subst IsTrue (ap fit is ∙ fold-View Bool (names_by known.names line) seen) can.names

  pub make_view_reads : (e : RawExpr) (seen : RawView) → e ≡ raw.View seen → CanMake known line e
      → All sound (unless_scalar (named_at known line seen.name) (reading_of known line None seen))
  make_view_reads e seen is can = subst (All sound) (ap made is ∙ fold-View (List Reading) (readings_by known line) seen) can.reads

  pub make_apply_names : (e : RawExpr) (stencil : Span) (seen : RawView) → e ≡ raw.Apply stencil seen → CanMake known line e
      → IsTrue (is_stencil (named_at known line stencil)) × IsTrue (is_array (named_at known line seen.name))
  make_apply_names e stencil seen is can =
      let both : IsTrue (is_stencil (named_at known line stencil) && is_array (named_at known line seen.name)) =
      subst IsTrue (ap fit is ∙ fold-Apply Bool (names_by known.names line) stencil seen) can.names in
      (first_of_and _ _ both, second_of_and _ _ both)

  pub make_apply_reads : (e : RawExpr) (stencil : Span) (seen : RawView) → e ≡ raw.Apply stencil seen → CanMake known line e
      → sound (reading_of known line (Some (stencil_named known (named_at known line stencil))) seen)
  make_apply_reads e stencil seen is can = All-head sound _ [] (subst (All sound) (ap made is ∙ fold-Apply (List Reading) (readings_by known line) stencil seen) can.reads)

-- the tree of a stencil on a view
pub tree_apply : (known : Known) (line : List ℕ) (e : RawExpr) (stencil : Span) (seen : RawView) → e ≡ raw.Apply stencil seen
    → tree_of known line e ≡ expansion (stencil_named known (named_at known line stencil)) (view_of known line seen)
tree_apply known line e stencil seen is = ap (tree_of known line) is ∙ fold-Apply Expr (tree_by known line) stencil seen

-- a name that is read as an array's
pub read_viewed : (known : Known) (line : List ℕ) (seen : RawView) (n : ℕ) → named_at known line seen.name ≡ Some (named.Array n)
    → All (IsSoundReading (declared_in known)) (unless_scalar (named_at known line seen.name) (reading_of known line None seen)) → CanView (declared_in known) (reading_of known line None seen)
read_viewed known line seen n is reads =
    can_view (declared_in known) (reading_of known line None seen) (All-head (IsSoundReading (declared_in known)) (reading_of known line None seen) []
    (subst (λ what. All (IsSoundReading (declared_in known)) (unless_scalar what (reading_of known line None seen))) is reads))
