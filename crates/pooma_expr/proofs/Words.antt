-- The values of expressions are numbers of 64 bits, where what they are made of are such numbers.
use Rattle.std.proofs.Common.{refl, sym, ◌∙◌, subst, arith, cond}
use Rattle.std.proofs.Math.Facts.{sfits_to_z}
use Rattle.std.proofs.lemmas.Bool.{ltb-true}
use Rattle.std.proofs.lemmas.Bool.Decides.{Decides-ltb}
use Rattle.std.proofs.lemmas.Int.{ints}
use Rattle.std.proofs.lemmas.Nat.{and_le_l, or_lt}
use Rattle.std.proofs.lemmas.List.Elements.{All-head, All-tail}
use Rattle.std.specs.Int.{w64, cast_unsigned}
use Rattle.std.specs.Ordering.{int_eq}
use Rattle.std.specs.Prelude.{◌≡◌, ℕ, zero, suc, ◌^◌, ◌<◌, ℤ, pos, negsuc, neg_ℤ, ◌+ℤ◌, ◌-ℤ◌, ◌*ℤ◌, ◌≤ℤ◌, FitsSigned, bit_and, int_lt, int_le, int_div, int_rem, unsigned_abs, not, Bool, true, false, ◌&&◌, if◌then◌else◌, Ok, Err, List, [], ◌∷◌, slice_index_or, All}
use Rattle.pooma_num.specs.declared.fault.FaultKind.TheVariants.{Overflow, ZeroDivisor}
use Rattle.pooma_domain.specs.Cells.{Interval, IsAxis, IsIn}
use Rattle.pooma_view.specs.Views.{Viewed}
use Rattle.pooma_expr.specs.declared.tree.Op.{Op}
use Rattle.pooma_expr.specs.declared.tree.Op.TheVariants as op
use Rattle.pooma_expr.specs.declared.tree.Expr.{Expr}
use Rattle.pooma_expr.specs.declared.tree.Expr.TheOpen.{Expr-F}
use Rattle.pooma_expr.specs.declared.tree.Expr.TheFolds.{fold-Expr}
use Rattle.pooma_expr.specs.Trees.{bound, bound_by}
use Rattle.pooma_expr.specs.Values.{Checked, Contents, and_then, divided_by, exact, fits, result_of, truth, value, value_by}
use Rattle.pooma_expr.specs.Words.{IsWord, literals_by, literals_fit}
use Rattle.pooma_expr.proofs.Bound.{fold_bound}
use Rattle.pooma_expr.proofs.Trees.{EachForm, by_form, fold-Literal, fold-Scalar, fold-Index, fold-Read, fold-Neg, fold-Abs, fold-Bin, fold-Where}

-- a number is one; a fault is none, and all is well
abbrev pub AnswersWord : Checked → Type 0
AnswersWord (Ok n) = FitsSigned w64 n
AnswersWord (Err kind) = Unit {0}

-- ---- what operators make of such numbers

fits_word : (z : ℤ) → fits z ≡ true → FitsSigned w64 z
fits_word (pos n) e = record { sfits = ltb-true n (2 ^ 63) e }
fits_word (negsuc n) e = record { sfits = ltb-true n (2 ^ 63) e }

exact_word : (z : ℤ) → AnswersWord (exact z)
exact_word z = by (fits z) refl
  where
    by : (b : Bool) → fits z ≡ b → AnswersWord (if b then Ok z else Err Overflow)
    by true e = fits_word z e
    by false e = tt

divided_word : (y : ℤ) (c : Checked) → AnswersWord c → AnswersWord (divided_by y c)
divided_word y c h = by (int_eq y (pos 0))
  where
    by : (b : Bool) → AnswersWord (if b then Err ZeroDivisor else c)
    by true = tt
    by false = h

truth_word : (b : Bool) → AnswersWord (truth b)
truth_word true = record { sfits = omega arith }
truth_word false = record { sfits = omega arith }

chosen_word : (b : Bool) (x y : ℤ) → FitsSigned w64 x → FitsSigned w64 y → FitsSigned w64 (cond b x y)
chosen_word true x y g h = g
chosen_word false x y g h = h

below : (x : ℤ) → FitsSigned w64 x → cast_unsigned w64 x < 2 ^ 64
below (pos n) f = let h : n < 2 ^ 63 = f.sfits in omega arith
below (negsuc n) f = let h : n < 2 ^ 63 = f.sfits in omega arith

and_keeps : (a b : ℕ) → a < 2 ^ 64 → b < 2 ^ 64 → bit_and a b < 2 ^ 64
and_keeps a b h k = omega (arith, and_le_l a b)

result_word : (o : Op) (x y : ℤ) → FitsSigned w64 x → FitsSigned w64 y → AnswersWord (result_of o x y)
result_word op.Add x y g h = exact_word (x +ℤ y)
result_word op.Sub x y g h = exact_word (x -ℤ y)
result_word op.Mul x y g h = exact_word (x *ℤ y)
result_word op.Div x y g h = divided_word y (exact (int_div x y)) (exact_word (int_div x y))
result_word op.Rem x y g h = divided_word y (exact (int_rem x y)) (exact_word (int_rem x y))
result_word op.Min x y g h = chosen_word (int_lt y x) y x h g
result_word op.Max x y g h = chosen_word (int_lt y x) x y g h
result_word op.Less x y g h = truth_word (int_lt x y)
result_word op.LessEq x y g h = truth_word (int_le x y)
result_word op.Greater x y g h = truth_word (int_lt y x)
result_word op.GreaterEq x y g h = truth_word (int_le y x)
result_word op.Equal x y g h = truth_word (int_eq x y)
result_word op.Unequal x y g h = truth_word (not (int_eq x y))
result_word op.BitAnd x y g h = sfits_to_z (record { fits = and_keeps _ _ (below x g) (below y h) })
result_word op.BitOr x y g h = sfits_to_z (record { fits = or_lt 64 _ _ (below x g) (below y h) })

then_word : (c : Checked) (f : ℤ → Checked) → AnswersWord c → ((x : ℤ) → FitsSigned w64 x → AnswersWord (f x)) → AnswersWord (and_then c f)
then_word (Ok x) f h each = each x h
then_word (Err kind) f h each = tt

either_word : (t : Bool) (a b : Checked) → AnswersWord a → AnswersWord b → AnswersWord (if t then b else a)
either_word true a b g h = h
either_word false a b g h = g

left : (a b : Bool) → (a && b) ≡ true → a ≡ true
left true b e = refl
left false b e = e

right : (a b : Bool) → (a && b) ≡ true → b ≡ true
right true b e = e
right false b e = absurd (let clash : false ≡ true = e in cc)

-- ---- what an expression makes of such numbers

module _ (scalars : List ℤ) (has : Contents) (p : List ℤ) (scalars_fit : (n : ℕ) → FitsSigned w64 (slice_index_or scalars n (pos 0)))
    (place_fits : (n : ℕ) → FitsSigned w64 (slice_index_or p n (pos 0))) (has_fits : (v : Viewed) (c : List ℤ) → FitsSigned w64 (has v c)) where
  abbrev step : Expr-F Checked → Checked
  step = value_by scalars has p

  abbrev Good : Expr → Type 0
  Good e = literals_fit e ≡ true → AnswersWord (value scalars has e p)

  each : EachForm Good
  each = record {
    literal = λ x h. subst AnswersWord (sym (fold-Literal Checked step x)) (fits_word x (sym (fold-Literal Bool literals_by x) ∙ h));
    scalar = λ n h. subst AnswersWord (sym (fold-Scalar Checked step n)) (scalars_fit n);
    index = λ n h. subst AnswersWord (sym (fold-Index Checked step n)) (place_fits n);
    read = λ v h. subst AnswersWord (sym (fold-Read Checked step v)) (has_fits v _);
    neg = λ a ha h. subst AnswersWord (sym (fold-Neg Checked step a))
        (then_word (value scalars has a p) (λ x. exact (neg_ℤ x)) (ha (sym (fold-Neg Bool literals_by a) ∙ h)) (λ x g. exact_word (neg_ℤ x)));
    abs = λ a ha h. subst AnswersWord (sym (fold-Abs Checked step a))
        (then_word (value scalars has a p) (λ x. exact (pos (unsigned_abs x))) (ha (sym (fold-Abs Bool literals_by a) ∙ h)) (λ x g. exact_word (pos (unsigned_abs x))));
    bin = λ o a b ha hb h.
        let both : (literals_fit a && literals_fit b) ≡ true = sym (fold-Bin Bool literals_by o a b) ∙ h in
        subst AnswersWord (sym (fold-Bin Checked step o a b))
        (then_word (value scalars has a p) (λ x. and_then (value scalars has b p) (λ y. result_of o x y)) (ha (left (literals_fit a) (literals_fit b) both))
        (λ x g. then_word (value scalars has b p) (λ y. result_of o x y) (hb (right (literals_fit a) (literals_fit b) both)) (λ y i. result_word o x y g i)));
    choice = λ c a b hc ha hb h.
        let all : (literals_fit c && (literals_fit a && literals_fit b)) ≡ true = sym (fold-Where Bool literals_by c a b) ∙ h in
        let both : (literals_fit a && literals_fit b) ≡ true = right (literals_fit c) (literals_fit a && literals_fit b) all in
        subst AnswersWord (sym (fold-Where Checked step c a b))
        (then_word (value scalars has c p) (λ x. if int_eq x (pos 0) then value scalars has b p else value scalars has a p) (hc (left (literals_fit c) (literals_fit a && literals_fit b) all))
        (λ x g. either_word (int_eq x (pos 0)) (value scalars has a p) (value scalars has b p) (ha (left (literals_fit a) (literals_fit b) both)) (hb (right (literals_fit a) (literals_fit b) both))));
  }

  pub value_word : (e : Expr) → literals_fit e ≡ true → AnswersWord (value scalars has e p)
  value_word = by_form Good each

-- ---- lists of such numbers

zero_word : FitsSigned w64 (pos 0)
zero_word = record { sfits = omega arith }

pub index_word : (xs : List ℤ) → All IsWord xs → (n : ℕ) → FitsSigned w64 (slice_index_or xs n (pos 0))
index_word [] all n = zero_word
index_word (x ∷ xs) all zero = All-head IsWord x xs all
index_word (x ∷ xs) all (suc n) = index_word xs (All-tail IsWord x xs all) n

-- a number within an axis
near_word : (axis : Interval) (x : ℤ) → IsAxis axis → axis.first ≤ℤ x → x ≤ℤ axis.last → FitsSigned w64 x
near_word axis (pos n) near low high = record { sfits = omega (arith, ints, near.low, near.high, low, high) }
near_word axis (negsuc n) near low high = record { sfits = omega (arith, ints, near.low, near.high, low, high) }

pub place_word : (box : List Interval) (p : List ℤ) → All IsAxis box → IsIn box p → (n : ℕ) → FitsSigned w64 (slice_index_or p n (pos 0))
place_word [] [] near h n = zero_word
place_word [] (x ∷ p) near h n = absurd h
place_word (axis ∷ box) [] near h n = absurd h
place_word (axis ∷ box) (x ∷ p) near h zero = near_word axis x (All-head IsAxis axis box near) h.0 h.1
place_word (axis ∷ box) (x ∷ p) near h (suc n) = place_word box p (All-tail IsAxis axis box near) h.2 n

-- ---- literals in place of scalars

fits_true : (z : ℤ) → FitsSigned w64 z → fits z ≡ true
fits_true (pos n) f = (Decides-ltb n (2 ^ 63)).1 f.sfits
fits_true (negsuc n) f = (Decides-ltb n (2 ^ 63)).1 f.sfits

module _ (scalars : List ℤ) (words : All IsWord scalars) where
  abbrev literals_with : Expr-F Bool → Bool
  literals_with e = literals_by (bound_by scalars e)

  abbrev StillFit : Expr → Type 0
  StillFit e = literals_fit e ≡ true → fold-Expr Bool literals_with e ≡ true

  both : (a b : Bool) → a ≡ true → b ≡ true → (a && b) ≡ true
  both true b h k = k
  both false b h k = h

  each_bound : EachForm StillFit
  each_bound = record {
    literal = λ x h. fold-Literal Bool literals_with x ∙ (sym (fold-Literal Bool literals_by x) ∙ h);
    scalar = λ n h. fold-Scalar Bool literals_with n ∙ fits_true (slice_index_or scalars n (pos 0)) (index_word scalars words n);
    index = λ n h. fold-Index Bool literals_with n;
    read = λ v h. fold-Read Bool literals_with v;
    neg = λ a ha h. fold-Neg Bool literals_with a ∙ ha (sym (fold-Neg Bool literals_by a) ∙ h);
    abs = λ a ha h. fold-Abs Bool literals_with a ∙ ha (sym (fold-Abs Bool literals_by a) ∙ h);
    bin = λ o a b ha hb h.
        let all : (literals_fit a && literals_fit b) ≡ true = sym (fold-Bin Bool literals_by o a b) ∙ h in
        fold-Bin Bool literals_with o a b
        ∙ both (fold-Expr Bool literals_with a) (fold-Expr Bool literals_with b) (ha (left (literals_fit a) (literals_fit b) all)) (hb (right (literals_fit a) (literals_fit b) all));
    choice = λ c a b hc ha hb h.
        let all : (literals_fit c && (literals_fit a && literals_fit b)) ≡ true = sym (fold-Where Bool literals_by c a b) ∙ h in
        let rest : (literals_fit a && literals_fit b) ≡ true = right (literals_fit c) (literals_fit a && literals_fit b) all in
        fold-Where Bool literals_with c a b
        ∙ both (fold-Expr Bool literals_with c) (fold-Expr Bool literals_with a && fold-Expr Bool literals_with b) (hc (left (literals_fit c) (literals_fit a && literals_fit b) all))
        (both (fold-Expr Bool literals_with a) (fold-Expr Bool literals_with b) (ha (left (literals_fit a) (literals_fit b) rest)) (hb (right (literals_fit a) (literals_fit b) rest)));
  }

  -- the numbers of scalars are such literals
  pub literals_bound : (e : Expr) → literals_fit e ≡ true → literals_fit (bound scalars e) ≡ true
  literals_bound e h = fold_bound Bool literals_by literals_with scalars (λ f. refl) e ∙ by_form StillFit each_bound e h
