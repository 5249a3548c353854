-- What the value of an expression depends on, and what an assignment leaves of it.
use Rattle.std.proofs.Common.{refl, sym, ap, ◌∙◌, subst, inl, inr, ⊎_elim, arith, get_or}
use Rattle.std.proofs.lemmas.Int.{ints, by_lt_z}
use Rattle.std.proofs.lemmas.List.Elements.{Contains-get_or}
use Rattle.std.specs.Option.{option_map_or}
use Rattle.std.specs.Prelude.{◌≡◌, ◌≢◌, ◌⊎◌, zero, suc, ℤ, ◌≤ℤ◌, Option, Some, None, Ok, List, [], ◌∷◌, ◌++◌, All, Contains}
use Rattle.pooma_domain.specs.Cells.{Interval, IsIn}
use Rattle.pooma_view.specs.Slots.{cell_named, positions_of}
use Rattle.pooma_view.specs.Views.{Viewed}
use Rattle.pooma_field.specs.declared.faces.Ends.{Ends}
use Rattle.pooma_field.specs.Look.{look}
use Rattle.pooma_field.specs.Shapes.{Shaped, own_area}
use Rattle.pooma_field.specs.Worlds.{World, number_of}
use Rattle.pooma_expr.specs.declared.tree.Op.{Op}
use Rattle.pooma_expr.specs.declared.tree.Expr.{Expr}
use Rattle.pooma_expr.specs.declared.tree.Expr.TheViews.{roll-Expr}
use Rattle.pooma_expr.specs.declared.tree.Expr.TheOpen.{Expr-F}
use Rattle.pooma_expr.specs.declared.tree.Expr.TheFolds.{fold-roll-Expr, ind-Expr, map-Expr}
use Rattle.pooma_expr.specs.Trees.{views_by, views_of}
use Rattle.pooma_expr.specs.Values.{Checked, Contents, value_by, value}
use Rattle.pooma_model.specs.Declarations.{Declared, seen_in, shape_at, value_in}
use Rattle.pooma_model.specs.Fit.{IsAssignFit}
use Rattle.pooma_model.specs.Midway.{IsMidway, IsUnnamed, SeesMidway}

-- ---- what is seen at the reads decides the value

pub all_left : {X : Type 0} (P : X → Type 0) (xs ys : List X) → All P (xs ++ ys) → All P xs
all_left P [] ys all k d h = absurd (omega arith)
all_left P (x ∷ xs) ys all zero d h = all zero d (omega arith)
all_left P (x ∷ xs) ys all (suc k) d h = all_left P xs ys (λ j e below. all (suc j) e (omega arith)) k d (omega arith)

pub all_right : {X : Type 0} (P : X → Type 0) (xs ys : List X) → All P (xs ++ ys) → All P ys
all_right P [] ys all = all
all_right P (x ∷ xs) ys all = all_right P xs ys (λ j e below. all (suc j) e (omega arith))

module _ (scalars : List ℤ) (has other : Contents) (p : List ℤ) where
  abbrev SeesSame : Viewed → Type 0
  SeesSame view = has view (cell_named view.slots p) ≡ other view (cell_named view.slots p)

  abbrev HasSame : Expr → Type 0
  HasSame e = All SeesSame (views_of e) → value scalars has e p ≡ value scalars other e p

  -- where the views of a form and its two values are known
  form_same : (x : Expr-F Expr) (views : List Viewed) (a b : Checked) → views_of (roll-Expr x) ≡ views
      → value scalars has (roll-Expr x) p ≡ a → value scalars other (roll-Expr x) p ≡ b → (All SeesSame views → a ≡ b) → HasSame (roll-Expr x)
  form_same x views a b is_views is_a is_b same all = is_a ∙ same (subst (All SeesSame) is_views all) ∙ sym is_b

  whose_views : (x : Expr-F Expr) → views_of (roll-Expr x) ≡ views_by (map-Expr Expr (List Viewed) views_of x)
  whose_views x = fold-roll-Expr (List Viewed) views_by x

  whose_value : (sees : Contents) (x : Expr-F Expr) → value scalars sees (roll-Expr x) p ≡ value_by scalars sees p (map-Expr Expr Checked (λ e. value scalars sees e p) x)
  whose_value sees x = fold-roll-Expr Checked (value_by scalars sees p) x

  neg_same : (a : Expr) → HasSame a → HasSame (roll-Expr (Expr-F.Neg a))
  neg_same a same = form_same (Expr-F.Neg a) _ _ _ (whose_views (Expr-F.Neg a)) (whose_value has (Expr-F.Neg a)) (whose_value other (Expr-F.Neg a))
      (λ all. ap (λ (c : Checked). value_by scalars has p (Expr-F.Neg c)) (same all))

  abs_same : (a : Expr) → HasSame a → HasSame (roll-Expr (Expr-F.Abs a))
  abs_same a same = form_same (Expr-F.Abs a) _ _ _ (whose_views (Expr-F.Abs a)) (whose_value has (Expr-F.Abs a)) (whose_value other (Expr-F.Abs a))
      (λ all. ap (λ (c : Checked). value_by scalars has p (Expr-F.Abs c)) (same all))

  bin_same : (o : Op) (a b : Expr) → HasSame a → HasSame b → HasSame (roll-Expr (Expr-F.Bin o a b))
  bin_same o a b same_a same_b = form_same (Expr-F.Bin o a b) _ _ _ (whose_views (Expr-F.Bin o a b)) (whose_value has (Expr-F.Bin o a b)) (whose_value other (Expr-F.Bin o a b))
      (λ all. ap (λ (c : Checked). value_by scalars has p (Expr-F.Bin o c (value scalars has b p))) (same_a (all_left SeesSame (views_of a) (views_of b) all))
      ∙ ap (λ (d : Checked). value_by scalars has p (Expr-F.Bin o (value scalars other a p) d)) (same_b (all_right SeesSame (views_of a) (views_of b) all)))

  choice_same : (c a b : Expr) → HasSame c → HasSame a → HasSame b → HasSame (roll-Expr (Expr-F.Where c a b))
  choice_same c a b same_c same_a same_b = form_same (Expr-F.Where c a b) _ _ _ (whose_views (Expr-F.Where c a b)) (whose_value has (Expr-F.Where c a b)) (whose_value other (Expr-F.Where c a b))
      (λ all.
      let rest = all_right SeesSame (views_of c) (views_of a ++ views_of b) all in
      ap (λ (d : Checked). value_by scalars has p (Expr-F.Where d (value scalars has a p) (value scalars has b p))) (same_c (all_left SeesSame (views_of c) (views_of a ++ views_of b) all))
      ∙ ap (λ (d : Checked). value_by scalars has p (Expr-F.Where (value scalars other c p) d (value scalars has b p))) (same_a (all_left SeesSame (views_of a) (views_of b) rest))
      ∙ ap (λ (d : Checked). value_by scalars has p (Expr-F.Where (value scalars other c p) (value scalars other a p) d)) (same_b (all_right SeesSame (views_of a) (views_of b) rest)))

  read_same : (v : Viewed) → HasSame (roll-Expr (Expr-F.Read v))
  read_same v = form_same (Expr-F.Read v) _ _ _ (whose_views (Expr-F.Read v)) (whose_value has (Expr-F.Read v)) (whose_value other (Expr-F.Read v))
      (λ all. ap (λ (n : ℤ). Ok n) (all zero v (omega arith)))

  pub value_by_reads : (e : Expr) → HasSame e
  value_by_reads = ind-Expr HasSame (λ x y is. (elim y as (λ z. map-Expr _ Expr (λ e. e.0) z ≡ x → HasSame (roll-Expr x)) [
    | Expr-F.Literal n ↦ λ e. subst (λ l. HasSame (roll-Expr l)) e (λ all. whose_value has (Expr-F.Literal n) ∙ sym (whose_value other (Expr-F.Literal n)))
    | Expr-F.Scalar n ↦ λ e. subst (λ l. HasSame (roll-Expr l)) e (λ all. whose_value has (Expr-F.Scalar n) ∙ sym (whose_value other (Expr-F.Scalar n)))
    | Expr-F.Index n ↦ λ e. subst (λ l. HasSame (roll-Expr l)) e (λ all. whose_value has (Expr-F.Index n) ∙ sym (whose_value other (Expr-F.Index n)))
    | Expr-F.Read v ↦ λ e. subst (λ l. HasSame (roll-Expr l)) e (read_same v)
    | Expr-F.Neg a ↦ λ e. subst (λ l. HasSame (roll-Expr l)) e (neg_same a.0 a.1)
    | Expr-F.Abs a ↦ λ e. subst (λ l. HasSame (roll-Expr l)) e (abs_same a.0 a.1)
    | Expr-F.Bin o a b ↦ λ e. subst (λ l. HasSame (roll-Expr l)) e (bin_same o a.0 b.0 a.1 b.1)
    | Expr-F.Where c a b ↦ λ e. subst (λ l. HasSame (roll-Expr l)) e (choice_same c.0 a.0 b.0 c.1 a.1 b.1)
  ]) is)

-- ---- an assignment that does not overlap itself leaves what is read at other positions

pub unwritten : (declared : Declared) (target : Viewed) (whole : Expr) (done : List (List ℤ)) (p : List ℤ) → IsAssignFit declared target whole
    → All (IsIn (positions_of target.slots)) done → IsIn (positions_of target.slots) p → ¬ (Contains done p)
    → All (λ view. IsUnnamed target done view.array (cell_named view.slots p)) (views_of whole)
unwritten declared target whole done p fit all_in inside fresh k d h same_array j e below cells =
    let view = get_or (views_of whole) k d in
    let q = get_or done j e in
    let differ : p ≢ q = λ same. fresh (subst (Contains done) (sym same) (Contains-get_or done j e below)) in
    let here : IsIn (positions_of view.slots) p = subst (λ box. IsIn box p) (sym (fit.value.equal k d h)) inside in
    fit.apart k d h (same_array, (p, q, here, all_in j e below, differ, sym cells))

-- what the law on looking up tells of cells with a number of their own
pub record OfLooking : Type 0 where
  pub plain : (shape : Shaped) (numbers : List ℤ → ℤ) (c : List ℤ) → shape.faces ≡ None → look shape numbers c ≡ numbers c
  pub physical : (shape : Shaped) (numbers : List ℤ → ℤ) (c : List ℤ) → IsIn shape.physical c → look shape numbers c ≡ numbers c

pub own_number : OfLooking → (shape : Shaped) (numbers : List ℤ → ℤ) (c : List ℤ) → IsIn (own_area shape) c → look shape numbers c ≡ numbers c
own_number known shape numbers c inside = by shape.faces refl inside
  where
    by : (faces : Option (List Ends)) → shape.faces ≡ faces → IsIn (option_map_or (λ f. shape.physical) faces shape.total) c → look shape numbers c ≡ numbers c
    by None is inside = known.plain shape numbers c is
    by (Some faces) is inside = known.physical shape numbers c inside

in_or_not : (box : List Interval) (c : List ℤ) → IsIn box c ⊎ ¬ (IsIn box c)
in_or_not [] [] = inl tt
in_or_not [] (x ∷ xs) = inr (λ h. h)
in_or_not (axis ∷ axes) [] = inr (λ h. h)
in_or_not (axis ∷ axes) (x ∷ xs) =
    by_lt_z x axis.first
    (λ below. inr (λ h. let low : axis.first ≤ℤ x = h.0 in absurd (omega (arith, ints))))
    (λ low. by_lt_z axis.last x
    (λ above. inr (λ h. let high : x ≤ℤ axis.last = h.1 in absurd (omega (arith, ints))))
    (λ high. ⊎_elim (λ rest. inl (low, high, rest)) (λ out. inr (λ h. out h.2)) (in_or_not axes xs)))

pub value_midway : OfLooking → (declared : Declared) (target : Viewed) (whole : Expr) (done : List (List ℤ)) (old new : World) (has : Contents) (p : List ℤ) → IsAssignFit declared target whole
    → All (IsIn (positions_of target.slots)) done → IsIn (positions_of target.slots) p → ¬ (Contains done p)
    → IsMidway target done old new → All (SeesMidway declared old new has p) (views_of whole) → value old.scalars has whole p ≡ value_in declared old whole p
value_midway known declared target whole done old new has p fit all_in inside fresh midway sees =
    value_by_reads old.scalars has (seen_in declared old) p whole
    (λ k d h.
    let view = get_or (views_of whole) k d in
    let c = cell_named view.slots p in
    ⊎_elim
    (λ own. (sees k d h).own own
    ∙ midway view.array c (unwritten declared target whole done p fit all_in inside fresh k d h)
    ∙ sym (own_number known (shape_at declared view.array) (number_of old view.array) c own))
    (λ external. (sees k d h).external external)
    (in_or_not (own_area (shape_at declared view.array)) c))
