-- Which views name cells outside a box.
use Rattle.std.proofs.Common.{refl, sym, ap, ◌∙◌, subst, arith, get_or}
use Rattle.std.proofs.lemmas.Bool.{false≢true}
use Rattle.std.proofs.lemmas.Bool.Decides.{Decides-eqb}
use Rattle.std.proofs.lemmas.Int.{ints}
use Rattle.std.proofs.lemmas.List.Elements.{Contains-get_or}
use Rattle.std.proofs.lemmas.List.Folds.{list_any-append, list_any_at, list_any_none}
use Rattle.std.specs.List.{list_any}
use Rattle.std.specs.Prelude.{◌≡◌, ◌↔◌, ◌&&◌, ◌||◌, ◌==◌, not, ℕ, ℤ, ◌≤ℤ◌, int_le, Bool, true, false, List, [], ◌∷◌, ◌++◌}
use Rattle.pooma_domain.specs.Cells.{Interval, cells_of, IsIn}
use Rattle.pooma_view.specs.Views.{Viewed}
use Rattle.pooma_expr.specs.declared.tree.Op.{Op}
use Rattle.pooma_expr.specs.declared.tree.Expr.{Expr}
use Rattle.pooma_expr.specs.declared.tree.Expr.TheOpen.{Expr-F}
use Rattle.pooma_expr.specs.declared.tree.Expr.TheFolds.{fold-roll-Expr}
use Rattle.pooma_expr.specs.declared.tree.Expr.TheVariants.{Literal, Scalar, Index, Read, Neg, Abs, Bin, Where, rolls-Literal, rolls-Scalar, rolls-Index, rolls-Read, rolls-Neg, rolls-Abs, rolls-Bin, rolls-Where}
use Rattle.pooma_expr.specs.Trees.{views_by, views_of}
use Rattle.pooma_piece.specs.Gathered.{HasMembers}
use Rattle.pooma_piece.specs.Lent.{is_in}

not_above : (a b : ℤ) → int_le a b ≡ true → a ≤ℤ b
not_above a b e = grind (arith, ints)

is_not_above : (a b : ℤ) → a ≤ℤ b → int_le a b ≡ true
is_not_above a b h = grind (arith, ints)

and_parts : (a b : Bool) → (a && b) ≡ true → (a ≡ true) × (b ≡ true)
and_parts true b e = (refl, e)
and_parts false b e = absurd (false≢true e)

both_true : (a b : Bool) → a ≡ true → b ≡ true → (a && b) ≡ true
both_true true b e f = f
both_true false b e f = absurd (false≢true e)

in_from : (area : List Interval) (c : List ℤ) → is_in area c ≡ true → IsIn area c
in_from [] [] e = tt
in_from [] (x ∷ xs) e = absurd (false≢true e)
in_from (axis ∷ axes) [] e = absurd (false≢true e)
in_from (axis ∷ axes) (x ∷ xs) e =
    let parts = and_parts (int_le axis.first x) (int_le x axis.last && is_in axes xs) e in
    let later = and_parts (int_le x axis.last) (is_in axes xs) parts.1 in
    (not_above axis.first x parts.0, not_above x axis.last later.0, in_from axes xs later.1)

in_then : (area : List Interval) (c : List ℤ) → IsIn area c → is_in area c ≡ true
in_then [] [] h = refl
in_then [] (x ∷ xs) h = absurd h
in_then (axis ∷ axes) [] h = absurd h
in_then (axis ∷ axes) (x ∷ xs) h =
    both_true (int_le axis.first x) (int_le x axis.last && is_in axes xs) (is_not_above axis.first x h.0)
    (both_true (int_le x axis.last) (is_in axes xs) (is_not_above x axis.last h.1) (in_then axes xs h.2))

-- whether some position's cell lies outside, by whether all lie inside
pub outside_is : HasMembers → (box positions : List Interval) (cell : List ℤ → List ℤ) (w : Bool) → (w ≡ true) ↔ ((p : List ℤ) → IsIn positions p → IsIn box (cell p)) → not w ≡ list_any (λ p. not (is_in box (cell p))) (cells_of positions)
outside_is members box positions cell true h =
    sym (list_any_none (λ p. not (is_in box (cell p))) (cells_of positions)
    (λ k d there. ap not (in_then box (cell (get_or (cells_of positions) k d)) (h.0 refl (get_or (cells_of positions) k d) ((members positions (get_or (cells_of positions) k d)).0 (Contains-get_or (cells_of positions) k d there))))))
outside_is members box positions cell false h = by (list_any test (cells_of positions)) refl
  where
    test : List ℤ → Bool
    test p = not (is_in box (cell p))

    passes : (b : Bool) → not b ≡ false → b ≡ true
    passes true e = refl
    passes false e = absurd (false≢true (sym e))

    fails : (b : Bool) → (b ≡ true → ⊥) → b ≡ false
    fails true h = absurd (h refl)
    fails false h = refl

    by : (b : Bool) → list_any test (cells_of positions) ≡ b → true ≡ list_any test (cells_of positions)
    by true e = sym e
    by false e = absurd (false≢true (h.1 (λ p inside.
        let there = (members positions p).1 inside in
        let here : test (get_or (cells_of positions) there.0 p) ≡ false = fails (test (get_or (cells_of positions) there.0 p)) (λ yes'. false≢true (sym e ∙ list_any_at test (cells_of positions) there.0 p there.1 yes')) in
        in_from box (cell p) (subst (λ (q : List ℤ). is_in box (cell q) ≡ true) there.2 (passes (is_in box (cell (get_or (cells_of positions) there.0 p))) here)))))

pub other_array : (a b : ℕ) (rest : Bool) → (a ≡ b → ⊥) → (a == b) ≡ ((a == b) && rest)
other_array a b rest other = by (a == b) refl
  where
    by : (t : Bool) → (a == b) ≡ t → t ≡ (t && rest)
    by true e = absurd (other ((Decides-eqb a b).0 e))
    by false e = refl

pub this_array : (a b : ℕ) (rest : Bool) → a ≡ b → rest ≡ ((a == b) && rest)
this_array a b rest same = rw ((Decides-eqb a b).1 same) refl

module _ (test : Viewed → Bool) where
  abbrev some : Expr → Bool
  some e = list_any test (views_of e)

  pub some_literal : (x : ℤ) → some (Literal x) ≡ false
  some_literal x = ap (list_any test) (ap views_of (sym (rolls-Literal x)) ∙ fold-roll-Expr (List Viewed) views_by (Expr-F.Literal x))

  pub some_scalar : (n : ℕ) → some (Scalar n) ≡ false
  some_scalar n = ap (list_any test) (ap views_of (sym (rolls-Scalar n)) ∙ fold-roll-Expr (List Viewed) views_by (Expr-F.Scalar n))

  pub some_index : (n : ℕ) → some (Index n) ≡ false
  some_index n = ap (list_any test) (ap views_of (sym (rolls-Index n)) ∙ fold-roll-Expr (List Viewed) views_by (Expr-F.Index n))

  or_none : (b : Bool) → (b || false) ≡ b
  or_none true = refl
  or_none false = refl

  pub some_read : (view : Viewed) → some (Read view) ≡ test view
  some_read view = ap (list_any test) (ap views_of (sym (rolls-Read view)) ∙ fold-roll-Expr (List Viewed) views_by (Expr-F.Read view)) ∙ or_none (test view)

  pub some_neg : (a : Expr) → some (Neg a) ≡ some a
  some_neg a = ap (list_any test) (ap views_of (sym (rolls-Neg a)) ∙ fold-roll-Expr (List Viewed) views_by (Expr-F.Neg a))

  pub some_abs : (a : Expr) → some (Abs a) ≡ some a
  some_abs a = ap (list_any test) (ap views_of (sym (rolls-Abs a)) ∙ fold-roll-Expr (List Viewed) views_by (Expr-F.Abs a))

  pub some_bin : (o : Op) (a b : Expr) → some (Bin o a b) ≡ (some a || some b)
  some_bin o a b = ap (list_any test) (ap views_of (sym (rolls-Bin o a b)) ∙ fold-roll-Expr (List Viewed) views_by (Expr-F.Bin o a b)) ∙ list_any-append test (views_of a) (views_of b)

  pub some_where : (c a b : Expr) → some (Where c a b) ≡ (some c || (some a || some b))
  some_where c a b =
      ap (list_any test) (ap views_of (sym (rolls-Where c a b)) ∙ fold-roll-Expr (List Viewed) views_by (Expr-F.Where c a b))
      ∙ list_any-append test (views_of c) (views_of a ++ views_of b) ∙ ap (λ (r : Bool). some c || r) (list_any-append test (views_of a) (views_of b))
