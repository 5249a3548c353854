-- What the expression of a body has of the body.
use Rattle.std.proofs.Common.{◌≡◌, ◌↔◌, ◌⊎◌, inl, inr, ℕ, ◌+◌, ◌<◌, max, ℤ, pos, Bool, true, false, Ok, refl, sym, ap, ap₂, subst, ◌∙◌, List, [], ◌∷◌, ◌++◌, arith}
use Rattle.std.specs.Prelude.{neg_ℤ, unsigned_abs, if◌then◌else◌, map, All, IsTrue}
use Rattle.std.specs.Ordering.{int_eq}
use Rattle.std.proofs.lemmas.List.{map-append}
use Rattle.std.proofs.lemmas.List.Elements.{All-nil, All-cons, All-head, All-tail, All-append, All-map, All-weaker}
use Rattle.pooma_domain.specs.Cells.{IsIn}
use Rattle.pooma_domain.specs.Operations.{reaches}
use Rattle.pooma_view.specs.Slots.{cell_named}
use Rattle.pooma_view.specs.Views.{Viewed}
use Rattle.pooma_expr.specs.declared.tree.Op.{Op}
use Rattle.pooma_expr.specs.declared.tree.Expr.{Expr}
use Rattle.pooma_expr.specs.declared.tree.Expr.TheOpen.{Expr-F}
use Rattle.pooma_expr.specs.Values.{Checked, Contents, exact, and_then, result_of, value_by, value}
use Rattle.pooma_expr.specs.Trees as trees
use Rattle.pooma_stencil.specs.declared.body.Body.{Body}
use Rattle.pooma_stencil.specs.declared.body.Body.TheVariants.{Literal, At, Neg, Abs, Bin, Where}
use Rattle.pooma_stencil.specs.Bodies.{offsets_by, offsets_of, depth_by, body_depth, body_value_by, body_value}
use Rattle.pooma_stencil.specs.Stencils.{Stenciled}
use Rattle.pooma_stencil.specs.Expansions.{positions_on, cell_read, value_on, view_read, expanded, expansion, IsPartOf, IsReadFor}
use Rattle.pooma_stencil.proofs.Trees.{EachForm, by_form, fold-Literal, fold-At, fold-Neg, fold-Abs, fold-Bin, fold-Where, through, through-Literal, through-At, through-Neg, through-Abs, through-Bin, through-Where}

-- what holds of all offsets holds of those of each operand
module _ (P : List ℤ → Type 0) where
  All-front : (xs ys : List (List ℤ)) → All P (xs ++ ys) → All P xs
  All-front [] ys h = All-nil P
  All-front (x ∷ xs) ys h = All-cons P x xs (All-head P x (xs ++ ys) h) (All-front xs ys (All-tail P x (xs ++ ys) h))

  All-back : (xs ys : List (List ℤ)) → All P (xs ++ ys) → All P ys
  All-back [] ys h = h
  All-back (x ∷ xs) ys h = All-back xs ys (All-tail P x (xs ++ ys) h)

  pub at_offset : (o : List ℤ) → All P (offsets_of (At o)) → P o
  at_offset o h = All-head P o [] (subst (All P) (fold-At (List (List ℤ)) offsets_by o) h)

  pub in_neg : (a : Body) → All P (offsets_of (Neg a)) → All P (offsets_of a)
  in_neg a h = subst (All P) (fold-Neg (List (List ℤ)) offsets_by a) h

  pub in_abs : (a : Body) → All P (offsets_of (Abs a)) → All P (offsets_of a)
  in_abs a h = subst (All P) (fold-Abs (List (List ℤ)) offsets_by a) h

  pub in_bin : (o : Op) (a b : Body) → All P (offsets_of (Bin o a b)) → All P (offsets_of a) × All P (offsets_of b)
  in_bin o a b h =
      let both = subst (All P) (fold-Bin (List (List ℤ)) offsets_by o a b) h in
      (All-front (offsets_of a) (offsets_of b) both, All-back (offsets_of a) (offsets_of b) both)

  pub in_where : (c a b : Body) → All P (offsets_of (Where c a b)) → All P (offsets_of c) × All P (offsets_of a) × All P (offsets_of b)
  in_where c a b h =
      let all = subst (All P) (fold-Where (List (List ℤ)) offsets_by c a b) h in
      let two = All-back (offsets_of c) (offsets_of a ++ offsets_of b) all in
      (All-front (offsets_of c) (offsets_of a ++ offsets_of b) all, All-front (offsets_of a) (offsets_of b) two, All-back (offsets_of a) (offsets_of b) two)

  pub of_literal : (x : ℤ) → All P (offsets_of (Literal x))
  of_literal x = subst (All P) (sym (fold-Literal (List (List ℤ)) offsets_by x)) (All-nil P)

  pub of_at : (o : List ℤ) → P o → All P (offsets_of (At o))
  of_at o h = subst (All P) (sym (fold-At (List (List ℤ)) offsets_by o)) (All-cons P o [] h (All-nil P))

  pub of_neg : (a : Body) → All P (offsets_of a) → All P (offsets_of (Neg a))
  of_neg a h = subst (All P) (sym (fold-Neg (List (List ℤ)) offsets_by a)) h

  pub of_abs : (a : Body) → All P (offsets_of a) → All P (offsets_of (Abs a))
  of_abs a h = subst (All P) (sym (fold-Abs (List (List ℤ)) offsets_by a)) h

  pub of_bin : (o : Op) (a b : Body) → All P (offsets_of a) → All P (offsets_of b) → All P (offsets_of (Bin o a b))
  of_bin o a b h k = subst (All P) (sym (fold-Bin (List (List ℤ)) offsets_by o a b)) (All-append P (offsets_of a) (offsets_of b) h k)

  pub of_where : (c a b : Body) → All P (offsets_of c) → All P (offsets_of a) → All P (offsets_of b) → All P (offsets_of (Where c a b))
  of_where c a b h k l =
      subst (All P) (sym (fold-Where (List (List ℤ)) offsets_by c a b))
      (All-append P (offsets_of c) (offsets_of a ++ offsets_of b) h (All-append P (offsets_of a) (offsets_of b) k l))

  pub of_same : (a b : Body) → a ≡ b → All P (offsets_of a) → All P (offsets_of b)
  of_same a b e h = subst (λ (x : Body). All P (offsets_of x)) e h

  -- the test tells whether it holds of all offsets of the body
  abbrev pub Tells : Bool → Body → Type 0
  Tells r b = IsTrue r ↔ All P (offsets_of b)

  pub one_told : (x a a' : Body) (r : Bool) → (x ≡ Neg a) ⊎ (x ≡ Abs a) → a' ≡ a → Tells r a' → Tells r x
  one_told x a a' r (inl e) is h = (
    λ t. of_same (Neg a) x (sym e) (of_neg a (of_same a' a is (h.0 t))),
    λ all. h.1 (of_same a a' (sym is) (in_neg a (of_same x (Neg a) e all))),
  )
  one_told x a a' r (inr e) is h = (
    λ t. of_same (Abs a) x (sym e) (of_abs a (of_same a' a is (h.0 t))),
    λ all. h.1 (of_same a a' (sym is) (in_abs a (of_same x (Abs a) e all))),
  )

  pub at_told : (x : Body) (o : List ℤ) (r : Bool) → x ≡ At o → (IsTrue r ↔ P o) → Tells r x
  at_told x o r e h = (
    λ t. of_same (At o) x (sym e) (of_at o (h.0 t)),
    λ all. h.1 (at_offset o (of_same x (At o) e all)),
  )

  pub bin_passed : (o : Op) (x a b a' b' : Body) (r q : Bool) → x ≡ Bin o a b → a' ≡ a → b' ≡ b → Tells r a' → r ≡ true → Tells q b' → Tells q x
  bin_passed o x a b a' b' r q e ea eb ha t hb = (
    λ s. of_same (Bin o a b) x (sym e) (of_bin o a b (of_same a' a ea (ha.0 t)) (of_same b' b eb (hb.0 s))),
    λ h. hb.1 (of_same b b' (sym eb) (in_bin o a b (of_same x (Bin o a b) e h)).1),
  )

  pub bin_failed : (o : Op) (x a b a' : Body) (r : Bool) → x ≡ Bin o a b → a' ≡ a → Tells r a' → r ≡ false → Tells r x
  bin_failed o x a b a' r e ea ha f = (
    λ s. cc,
    λ h. ha.1 (of_same a a' (sym ea) (in_bin o a b (of_same x (Bin o a b) e h)).0),
  )

  pub where_passed : (x c a b c' a' b' : Body) (r s q : Bool) → x ≡ Where c a b → c' ≡ c → a' ≡ a → b' ≡ b → Tells r c' → r ≡ true → Tells s a' → s ≡ true → Tells q b' → Tells q x
  where_passed x c a b c' a' b' r s q e ec ea eb hc t ha u hb = (
    λ v. of_same (Where c a b) x (sym e) (of_where c a b (of_same c' c ec (hc.0 t)) (of_same a' a ea (ha.0 u)) (of_same b' b eb (hb.0 v))),
    λ h. hb.1 (of_same b b' (sym eb) (in_where c a b (of_same x (Where c a b) e h)).2),
  )

  pub where_failed_first : (x c a b c' : Body) (r v : Bool) → x ≡ Where c a b → c' ≡ c → Tells r c' → v ≡ r → v ≡ false → Tells v x
  where_failed_first x c a b c' r v e ec hc is f = (
    λ s. cc,
    λ h. is ∙ hc.1 (of_same c c' (sym ec) (in_where c a b (of_same x (Where c a b) e h)).0),
  )

  pub where_failed_second : (x c a b a' : Body) (s v : Bool) → x ≡ Where c a b → a' ≡ a → Tells s a' → v ≡ s → v ≡ false → Tells v x
  where_failed_second x c a b a' s v e ea ha is f = (
    λ t. cc,
    λ h. is ∙ ha.1 (of_same a a' (sym ea) (in_where c a b (of_same x (Where c a b) e h)).1),
  )

-- how deep a form is
depth-Neg : (x a : Body) → x ≡ Neg a → body_depth x ≡ body_depth a + 1
depth-Neg x a e = ap body_depth e ∙ fold-Neg ℕ depth_by a

depth-Abs : (x a : Body) → x ≡ Abs a → body_depth x ≡ body_depth a + 1
depth-Abs x a e = ap body_depth e ∙ fold-Abs ℕ depth_by a

depth-Bin : (x : Body) (o : Op) (a b : Body) → x ≡ Bin o a b → body_depth x ≡ max (body_depth a) (body_depth b) + 1
depth-Bin x o a b e = ap body_depth e ∙ fold-Bin ℕ depth_by o a b

depth-Where : (x c a b : Body) → x ≡ Where c a b → body_depth x ≡ max (body_depth c) (max (body_depth a) (body_depth b)) + 1
depth-Where x c a b e = ap body_depth e ∙ fold-Where ℕ depth_by c a b

-- one of the bodies that a body is made of: it is less deep, and has no further offsets
pub record IsOperand (a x : Body) : Type 0 where
  pub depth : body_depth a < body_depth x
  pub reach : (lower upper : List ℤ) → All (IsIn (reaches lower upper)) (offsets_of x) → All (IsIn (reaches lower upper)) (offsets_of a)

operand : (a' a x : Body) → a' ≡ a → body_depth a < body_depth x → ((P : List ℤ → Type 0) → All P (offsets_of x) → All P (offsets_of a)) → IsOperand a' x
operand a' a x e d h = record {
  depth = omega (arith, d, ap body_depth e);
  reach = λ lower upper all. of_same (IsIn (reaches lower upper)) a a' (sym e) (h (IsIn (reaches lower upper)) all);
}

pub operand_of_neg : (x a a' : Body) → x ≡ Neg a → a' ≡ a → IsOperand a' x
operand_of_neg x a a' e is =
    operand a' a x is (omega (arith, depth-Neg x a e)) (λ P h. in_neg P a (of_same P x (Neg a) e h))

pub operand_of_abs : (x a a' : Body) → x ≡ Abs a → a' ≡ a → IsOperand a' x
operand_of_abs x a a' e is =
    operand a' a x is (omega (arith, depth-Abs x a e)) (λ P h. in_abs P a (of_same P x (Abs a) e h))

pub operand_of_one : (x a a' : Body) → (x ≡ Neg a) ⊎ (x ≡ Abs a) → a' ≡ a → IsOperand a' x
operand_of_one x a a' (inl e) is = operand_of_neg x a a' e is
operand_of_one x a a' (inr e) is = operand_of_abs x a a' e is

pub first_of_bin : (x : Body) (o : Op) (a b a' : Body) → x ≡ Bin o a b → a' ≡ a → IsOperand a' x
first_of_bin x o a b a' e is =
    operand a' a x is (omega (arith, depth-Bin x o a b e)) (λ P h. (in_bin P o a b (of_same P x (Bin o a b) e h)).0)

pub second_of_bin : (x : Body) (o : Op) (a b b' : Body) → x ≡ Bin o a b → b' ≡ b → IsOperand b' x
second_of_bin x o a b b' e is =
    operand b' b x is (omega (arith, depth-Bin x o a b e)) (λ P h. (in_bin P o a b (of_same P x (Bin o a b) e h)).1)

pub test_of_where : (x c a b c' : Body) → x ≡ Where c a b → c' ≡ c → IsOperand c' x
test_of_where x c a b c' e is =
    operand c' c x is (omega (arith, depth-Where x c a b e)) (λ P h. (in_where P c a b (of_same P x (Where c a b) e h)).0)

pub first_of_where : (x c a b a' : Body) → x ≡ Where c a b → a' ≡ a → IsOperand a' x
first_of_where x c a b a' e is =
    operand a' a x is (omega (arith, depth-Where x c a b e)) (λ P h. (in_where P c a b (of_same P x (Where c a b) e h)).1)

pub second_of_where : (x c a b b' : Body) → x ≡ Where c a b → b' ≡ b → IsOperand b' x
second_of_where x c a b b' e is =
    operand b' b x is (omega (arith, depth-Where x c a b e)) (λ P h. (in_where P c a b (of_same P x (Where c a b) e h)).2)

module _ (view : List ℤ → Viewed) (scalars : List ℤ) (has : Contents) (p : List ℤ) (at : List ℤ → ℤ) where
  -- the view that stands for an offset has there what the body finds at it
  abbrev pub HasAt : List ℤ → Type 0
  HasAt o = has (view o) (cell_named (view o).slots p) ≡ at o

  abbrev SameValue : Body → Type 0
  SameValue b = All HasAt (offsets_of b) → value scalars has (expanded view b) p ≡ body_value at b

  values_by : EachForm SameValue
  values_by = record {
    literal = λ x h. through-Literal Checked (value_by scalars has p) view x ∙ sym (fold-Literal Checked (body_value_by at) x);
    at = λ o h. through-At Checked (value_by scalars has p) view o ∙ ap (λ (x : ℤ). Ok x) (at_offset HasAt o h) ∙ sym (fold-At Checked (body_value_by at) o);
    neg = λ a same h. through-Neg Checked (value_by scalars has p) view a ∙ ap (λ c. and_then c (λ x. exact (neg_ℤ x))) (same (in_neg HasAt a h)) ∙ sym (fold-Neg Checked (body_value_by at) a);
    abs = λ a same h. through-Abs Checked (value_by scalars has p) view a ∙ ap (λ c. and_then c (λ x. exact (pos (unsigned_abs x)))) (same (in_abs HasAt a h)) ∙ sym (fold-Abs Checked (body_value_by at) a);
    bin = λ o a b same_a same_b h.
        through-Bin Checked (value_by scalars has p) view o a b
        ∙ ap₂ (λ c d. and_then c (λ x. and_then d (λ y. result_of o x y))) (same_a (in_bin HasAt o a b h).0) (same_b (in_bin HasAt o a b h).1)
        ∙ sym (fold-Bin Checked (body_value_by at) o a b);
    choice = λ c a b same_c same_a same_b h.
        through-Where Checked (value_by scalars has p) view c a b
        ∙ ap (λ d. and_then d (λ x. if int_eq x (pos 0) then value scalars has (expanded view b) p else value scalars has (expanded view a) p)) (same_c (in_where HasAt c a b h).0)
        ∙ ap₂ (λ d e. and_then (body_value at c) (λ x. if int_eq x (pos 0) then e else d)) (same_a (in_where HasAt c a b h).1) (same_b (in_where HasAt c a b h).2)
        ∙ sym (fold-Where Checked (body_value_by at) c a b);
  }

  pub value-expanded : (b : Body) → All HasAt (offsets_of b) → value scalars has (expanded view b) p ≡ body_value at b
  value-expanded = by_form SameValue values_by

module _ (view : List ℤ → Viewed) where
  abbrev SameViews : Body → Type 0
  SameViews b = trees.views_of (expanded view b) ≡ map view (offsets_of b)

  views_by : EachForm SameViews
  views_by = record {
    literal = λ x. through-Literal (List Viewed) trees.views_by view x ∙ ap (map view) (sym (fold-Literal (List (List ℤ)) offsets_by x));
    at = λ o. through-At (List Viewed) trees.views_by view o ∙ ap (map view) (sym (fold-At (List (List ℤ)) offsets_by o));
    neg = λ a e. through-Neg (List Viewed) trees.views_by view a ∙ e ∙ ap (map view) (sym (fold-Neg (List (List ℤ)) offsets_by a));
    abs = λ a e. through-Abs (List Viewed) trees.views_by view a ∙ e ∙ ap (map view) (sym (fold-Abs (List (List ℤ)) offsets_by a));
    bin = λ o a b e f.
        through-Bin (List Viewed) trees.views_by view o a b
        ∙ ap₂ (λ (xs ys : List Viewed). xs ++ ys) e f
        ∙ sym (map-append view (offsets_of a) (offsets_of b))
        ∙ ap (map view) (sym (fold-Bin (List (List ℤ)) offsets_by o a b));
    choice = λ c a b e f g.
        through-Where (List Viewed) trees.views_by view c a b
        ∙ ap₂ (λ (xs ys : List Viewed). xs ++ ys) e (ap₂ (λ (xs ys : List Viewed). xs ++ ys) f g ∙ sym (map-append view (offsets_of a) (offsets_of b)))
        ∙ sym (map-append view (offsets_of c) (offsets_of a ++ offsets_of b))
        ∙ ap (map view) (sym (fold-Where (List (List ℤ)) offsets_by c a b));
  }

  pub views-expanded : (b : Body) → trees.views_of (expanded view b) ≡ map view (offsets_of b)
  views-expanded = by_form SameViews views_by

  abbrev SameDepth : Body → Type 0
  SameDepth b = trees.depth_of (expanded view b) ≡ body_depth b

  depths_by : EachForm SameDepth
  depths_by = record {
    literal = λ x. through-Literal ℕ trees.depth_by view x ∙ sym (fold-Literal ℕ depth_by x);
    at = λ o. through-At ℕ trees.depth_by view o ∙ sym (fold-At ℕ depth_by o);
    neg = λ a e. through-Neg ℕ trees.depth_by view a ∙ ap (λ (n : ℕ). n + 1) e ∙ sym (fold-Neg ℕ depth_by a);
    abs = λ a e. through-Abs ℕ trees.depth_by view a ∙ ap (λ (n : ℕ). n + 1) e ∙ sym (fold-Abs ℕ depth_by a);
    bin = λ o a b e f. through-Bin ℕ trees.depth_by view o a b ∙ ap₂ (λ (m n : ℕ). max m n + 1) e f ∙ sym (fold-Bin ℕ depth_by o a b);
    choice = λ c a b e f g.
        through-Where ℕ trees.depth_by view c a b
        ∙ ap₂ (λ (m n : ℕ). max m n + 1) e (ap₂ (λ (m n : ℕ). max m n) f g)
        ∙ sym (fold-Where ℕ depth_by c a b);
  }

  pub depth-expanded : (b : Body) → trees.depth_of (expanded view b) ≡ body_depth b
  depth-expanded = by_form SameDepth depths_by

  -- no leaf of the expression needs a scalar or an axis
  module _ (leaf : Expr-F ℕ → ℕ) (of_literal : (x : ℤ) → leaf (Expr-F.Literal x) ≡ 0) (of_read : (v : Viewed) → leaf (Expr-F.Read v) ≡ 0) where
    abbrev NeedsNone : Body → Type 0
    NeedsNone b = through ℕ (trees.greatest_by leaf) view b ≡ 0

    none_by : EachForm NeedsNone
    none_by = record {
      literal = λ x. through-Literal ℕ (trees.greatest_by leaf) view x ∙ of_literal x;
      at = λ o. through-At ℕ (trees.greatest_by leaf) view o ∙ of_read (view o);
      neg = λ a e. through-Neg ℕ (trees.greatest_by leaf) view a ∙ e;
      abs = λ a e. through-Abs ℕ (trees.greatest_by leaf) view a ∙ e;
      bin = λ o a b e f. through-Bin ℕ (trees.greatest_by leaf) view o a b ∙ ap₂ (λ (m n : ℕ). max m n) e f;
      choice = λ c a b e f g. through-Where ℕ (trees.greatest_by leaf) view c a b ∙ ap₂ (λ (m n : ℕ). max m n) e (ap₂ (λ (m n : ℕ). max m n) f g);
    }

    pub needs_none : (b : Body) → through ℕ (trees.greatest_by leaf) view b ≡ 0
    needs_none = by_form NeedsNone none_by

  pub scalars_needed-expanded : (b : Body) → trees.scalars_needed (expanded view b) ≡ 0
  scalars_needed-expanded = needs_none trees.scalars_at (λ x. refl) (λ v. refl)

  pub axes_needed-expanded : (b : Body) → trees.axes_needed (expanded view b) ≡ 0
  axes_needed-expanded = needs_none trees.axes_at (λ x. refl) (λ v. refl)

-- the same of a stencil's expression on a view
module _ (s : Stenciled) (v : Viewed) (e : Expr) (tree : e ≡ expansion s v) (reads : All (IsReadFor s v) (offsets_of s.body)) where
  pub value-expansion : (scalars : List ℤ) (numbers : ℕ → List ℤ → ℤ) (p : List ℤ) → IsIn (positions_on s v) p → value scalars (λ w. numbers w.array) e p ≡ value_on (numbers v.array) s v p
  value-expansion scalars numbers p q =
      let at : List ℤ → ℤ = λ o. numbers v.array (cell_read s v p o) in
      let has : Contents = λ w. numbers w.array in
      ap (λ (x : Expr). value scalars has x p) tree
      ∙ value-expanded (view_read s v) scalars has p at s.body
      (All-weaker (IsReadFor s v) (HasAt (view_read s v) scalars has p at) (λ o h. ap (numbers v.array) (h.cells p q)) (offsets_of s.body) reads)

  pub views-expansion : trees.views_of e ≡ map (view_read s v) (offsets_of s.body)
  views-expansion = ap trees.views_of tree ∙ views-expanded (view_read s v) s.body

  pub parts_of_expansion : All (IsPartOf v (positions_on s v)) (trees.views_of e)
  parts_of_expansion =
      subst (All (IsPartOf v (positions_on s v))) (sym views-expansion)
      (All-map (IsPartOf v (positions_on s v)) (view_read s v) (offsets_of s.body)
      (All-weaker (IsReadFor s v) (λ o. IsPartOf v (positions_on s v) (view_read s v o)) (λ o h. h.part) (offsets_of s.body) reads))

  pub depth-expansion : trees.depth_of e ≡ body_depth s.body
  depth-expansion = ap trees.depth_of tree ∙ depth-expanded (view_read s v) s.body

  pub scalars_needed-expansion : trees.scalars_needed e ≡ 0
  scalars_needed-expansion = ap trees.scalars_needed tree ∙ scalars_needed-expanded (view_read s v) s.body

  pub axes_needed-expansion : trees.axes_needed e ≡ 0
  axes_needed-expansion = ap trees.axes_needed tree ∙ axes_needed-expanded (view_read s v) s.body
