-- What a reduction makes of the numbers at positions, in whichever order they are gone through.
use Rattle.std.proofs.Common.{refl, sym, ap, ◌∙◌, subst, inl, inr, ⊎_elim, arith, cond, ◌&&◌, ◌||◌}
use Rattle.std.proofs.Math.Facts.{sfits_to_z}
use Rattle.std.proofs.lemmas.Int.{ints, clamps, of_z-to_z}
use Rattle.std.proofs.lemmas.List.Elements.{filter_map-append}
use Rattle.std.proofs.lemmas.List.Sums.{sum_by-cons}
use Rattle.std.proofs.lemmas.Nat.{and_assoc, and_comm, and_le_l, or_comm, or_lt}
use Rattle.std.proofs.lemmas.Nat.Bits.{bit_at_or, same_from_bits}
use Rattle.std.specs.Int.{w64, int_min, int_max, int_bit_and, int_bit_or, cast_signed, cast_unsigned}
use Rattle.std.specs.List.{cons_option, list_all, list_any}
use Rattle.std.specs.Prelude.{◌≡◌, ◌↔◌, ℕ, ◌+◌, ◌^◌, ◌<◌, ℤ, pos, negsuc, ◌+ℤ◌, int_lt, FitsSigned, bit_and, bit_or, Bool, true, false, Option, Some, None, Ok, List, [], ◌∷◌, ◌++◌, count_by, flat_map, fold, unwrap_or}
use Rattle.pooma_logic.proofs.Members.{Member}
use Rattle.pooma_domain.specs.Cells.{Interval, cells_of}
use Rattle.pooma_expr.specs.declared.reduction.Reduction.{Reduction}
use Rattle.pooma_expr.specs.declared.reduction.Reduction.TheVariants as of
use Rattle.pooma_expr.specs.Reductions.{AllFit, is_set, join_all, result_over, sum_of}
use Rattle.pooma_expr.specs.Values.{Checked, exact, truth}
use Rattle.pooma_model.specs.Partitions.{numbers_at}
use Rattle.pooma_model.specs.Reducing.{number_in}
use Rattle.pooma_model.proofs.Lists.{Distinct, in_any_order}

-- ---- the numbers of parts are those of all their positions

pub numbers_joined : (value : List ℤ → Checked) (boxes : List (List Interval)) → flat_map (λ box. numbers_at value (cells_of box)) boxes ≡ numbers_at value (flat_map cells_of boxes)
numbers_joined value [] = refl
numbers_joined value (box ∷ boxes) =
    ap (λ (ns : List ℤ). numbers_at value (cells_of box) ++ ns) (numbers_joined value boxes)
    ∙ sym (filter_map-append (λ p. number_in (value p)) (cells_of box) (flat_map cells_of boxes))

pub same_numbers : (value other : List ℤ → Checked) (ps : List (List ℤ)) → ((p : List ℤ) → Member ps p → value p ≡ other p) → numbers_at value ps ≡ numbers_at other ps
same_numbers value other [] same = refl
same_numbers value other (p ∷ ps) same =
    ap (λ (v : Checked). cons_option (number_in v) (numbers_at value ps)) (same p (inl refl))
    ∙ ap (cons_option (number_in (other p))) (same_numbers value other ps (λ q m. same q (inr m)))

-- ---- numbers one after another, in any order

abbrev FitsWhere : Option ℤ → Type 0
FitsWhere None = Unit {0}
FitsWhere (Some n) = FitsSigned w64 n

fit_first : (o : Option ℤ) (ns : List ℤ) → AllFit (cons_option o ns) → FitsWhere o × AllFit ns
fit_first None ns fit = (tt, fit)
fit_first (Some n) ns fit = fit

each_fits : (value : List ℤ → Checked) (ps : List (List ℤ)) → AllFit (numbers_at value ps) → (p : List ℤ) → Member ps p → FitsWhere (number_in (value p))
each_fits value [] fit p m = absurd m
each_fits value (q ∷ ps) fit p m =
    let both = fit_first (number_in (value q)) (numbers_at value ps) fit in
    ⊎_elim (λ e. subst (λ x. FitsWhere (number_in (value x))) e both.0) (λ later. each_fits value ps both.1 p later) m

module _ {R : Type 0} (make : List ℤ → R) (step : ℤ → R → R) (Fine : R → Type 0)
    (first : (n : ℤ) (ns : List ℤ) → make (n ∷ ns) ≡ step n (make ns))
    (none : Fine (make []))
    (keeps : (n : ℤ) (r : R) → FitsSigned w64 n → Fine r → Fine (step n r))
    (turn : (m n : ℤ) (r : R) → FitsSigned w64 m → FitsSigned w64 n → Fine r → step m (step n r) ≡ step n (step m r)) where
  abbrev taken : Option ℤ → R → R
  taken None r = r
  taken (Some n) r = step n r

  taken_first : (o : Option ℤ) (ns : List ℤ) → make (cons_option o ns) ≡ taken o (make ns)
  taken_first None ns = refl
  taken_first (Some n) ns = first n ns

  taken_keeps : (o : Option ℤ) (r : R) → FitsWhere o → Fine r → Fine (taken o r)
  taken_keeps None r fit fine = fine
  taken_keeps (Some n) r fit fine = keeps n r fit fine

  taken_turn : (o q : Option ℤ) (r : R) → FitsWhere o → FitsWhere q → Fine r → taken o (taken q r) ≡ taken q (taken o r)
  taken_turn None q r fit_o fit_q fine = refl
  taken_turn (Some m) None r fit_o fit_q fine = refl
  taken_turn (Some m) (Some n) r fit_o fit_q fine = turn m n r fit_o fit_q fine

  pub made_in_any_order : (value : List ℤ → Checked) (ps qs : List (List ℤ)) → Distinct ps → Distinct qs → ((p : List ℤ) → Member ps p ↔ Member qs p)
      → AllFit (numbers_at value ps) → make (numbers_at value ps) ≡ make (numbers_at value qs)
  made_in_any_order value ps qs once_p once_q same fit =
      in_any_order (λ l. make (numbers_at value l)) (λ p r. taken (number_in (value p)) r) (λ p. FitsWhere (number_in (value p))) Fine
      (λ p l. taken_first (number_in (value p)) (numbers_at value l))
      none
      (λ p r good fine. taken_keeps (number_in (value p)) r good fine)
      (λ p q r good_p good_q fine. taken_turn (number_in (value p)) (number_in (value q)) r good_p good_q fine)
      ps qs once_p once_q same (each_fits value ps fit)

-- ---- sums, tests and counts

sum_from : (a : ℤ) (xs : List ℤ) → fold (λ x y. x +ℤ y) a xs ≡ a +ℤ sum_of xs
sum_from a [] = omega (arith, ints)
sum_from a (x ∷ xs) = omega (arith, ints, sum_from (a +ℤ x) xs, sum_from (pos 0 +ℤ x) xs)

sum_first : (n : ℤ) (ns : List ℤ) → sum_of (n ∷ ns) ≡ n +ℤ sum_of ns
sum_first n ns = omega (arith, ints, sum_from (pos 0 +ℤ n) ns)

and_turn : (a b c : Bool) → (a && (b && c)) ≡ (b && (a && c))
and_turn true b c = refl
and_turn false true c = refl
and_turn false false c = refl

or_turn : (a b c : Bool) → (a || (b || c)) ≡ (b || (a || c))
or_turn false b c = refl
or_turn true true c = refl
or_turn true false c = refl

-- ---- joins

below : (x : ℤ) → FitsSigned w64 x → cast_unsigned w64 x < 2 ^ 64
below (pos n) f = let h : n < 2 ^ 63 = f.sfits in omega arith
below (negsuc n) f = let h : n < 2 ^ 63 = f.sfits in omega arith

-- numbers of 64 bits may be joined in any order, and give such a number
record IsJoin (f : ℤ → ℤ → ℤ) : Type 0 where
  assoc : (x y z : ℤ) → FitsSigned w64 x → FitsSigned w64 y → FitsSigned w64 z → f (f x y) z ≡ f x (f y z)
  turned : (x y : ℤ) → f x y ≡ f y x
  keeps : (x y : ℤ) → FitsSigned w64 x → FitsSigned w64 y → FitsSigned w64 (f x y)

chosen_fits : (b : Bool) (x y : ℤ) → FitsSigned w64 x → FitsSigned w64 y → FitsSigned w64 (cond b x y)
chosen_fits true x y g h = g
chosen_fits false x y g h = h

of_min : IsJoin int_min
of_min = record {
  assoc = λ x y z g h i. omega (arith, ints, clamps);
  turned = λ x y. omega (arith, ints, clamps);
  keeps = λ x y g h. chosen_fits (int_lt y x) y x h g;
}

of_max : IsJoin int_max
of_max = record {
  assoc = λ x y z g h i. omega (arith, ints, clamps);
  turned = λ x y. omega (arith, ints, clamps);
  keeps = λ x y g h. chosen_fits (int_lt y x) x y g h;
}

-- the same on the bits
of_bits : (f : ℕ → ℕ → ℕ) → ((a b c : ℕ) → f (f a b) c ≡ f a (f b c)) → ((a b : ℕ) → f a b ≡ f b a) → ((a b : ℕ) → a < 2 ^ 64 → b < 2 ^ 64 → f a b < 2 ^ 64) → IsJoin (λ x y. cast_signed w64 (f (cast_unsigned w64 x) (cast_unsigned w64 y)))
of_bits f assoc turned keeps = record {
  assoc = λ x y z g h i.
      ap (λ n. cast_signed w64 (f n (cast_unsigned w64 z))) (bits x y g h)
      ∙ ap (cast_signed w64) (assoc (cast_unsigned w64 x) (cast_unsigned w64 y) (cast_unsigned w64 z))
      ∙ ap (λ n. cast_signed w64 (f (cast_unsigned w64 x) n)) (sym (bits y z h i));
  turned = λ x y. ap (cast_signed w64) (turned (cast_unsigned w64 x) (cast_unsigned w64 y));
  keeps = λ x y g h. sfits_to_z (record { fits = keeps _ _ (below x g) (below y h) });
}
  where
    bits : (x y : ℤ) → FitsSigned w64 x → FitsSigned w64 y → cast_unsigned w64 (cast_signed w64 (f (cast_unsigned w64 x) (cast_unsigned w64 y))) ≡ f (cast_unsigned w64 x) (cast_unsigned w64 y)
    bits x y g h = of_z-to_z w64 (f (cast_unsigned w64 x) (cast_unsigned w64 y)) (keeps _ _ (below x g) (below y h))

or_assoc : (a b c : ℕ) → bit_or (bit_or a b) c ≡ bit_or a (bit_or b c)
or_assoc a b c = same_from_bits _ _ (λ i. omega (arith, bit_at_or (bit_or a b) c i, bit_at_or a b i, bit_at_or a (bit_or b c) i, bit_at_or b c i))

of_and : IsJoin (int_bit_and w64)
of_and = of_bits bit_and (λ a b c. and_assoc c a b) and_comm (λ a b h k. omega (arith, and_le_l a b))

of_or : IsJoin (int_bit_or w64)
of_or = of_bits bit_or or_assoc or_comm (or_lt 64)

module _ (f : ℤ → ℤ → ℤ) (join : IsJoin f) where
  -- a number joined to what is joined of later ones, where there are any
  abbrev joined_to : ℤ → Option ℤ → Option ℤ
  joined_to x None = Some x
  joined_to x (Some y) = Some (f x y)

  abbrev joined : List ℤ → Option ℤ
  joined [] = None
  joined (x ∷ xs) = joined_to x (joined xs)

  joined_keeps : (n : ℤ) (r : Option ℤ) → FitsSigned w64 n → FitsWhere r → FitsWhere (joined_to n r)
  joined_keeps n None g fine = g
  joined_keeps n (Some m) g fine = join.keeps n m g fine

  joined_turn : (m n : ℤ) (r : Option ℤ) → FitsSigned w64 m → FitsSigned w64 n → FitsWhere r → joined_to m (joined_to n r) ≡ joined_to n (joined_to m r)
  joined_turn m n None g h fine = ap Some (join.turned m n)
  joined_turn m n (Some k) g h fine =
      ap Some (sym (join.assoc m n k g h fine) ∙ ap (λ x. f x k) (join.turned m n) ∙ join.assoc n m k h g fine)

  joined_fits : (xs : List ℤ) → AllFit xs → FitsWhere (joined xs)
  joined_fits [] fit = tt
  joined_fits (x ∷ xs) fit = joined_keeps x (joined xs) fit.0 (joined_fits xs fit.1)

  -- to join two numbers first is to join both later
  regroup : (x y : ℤ) (r : Option ℤ) → FitsSigned w64 x → FitsSigned w64 y → FitsWhere r → joined_to (f x y) r ≡ joined_to x (joined_to y r)
  regroup x y None g h fine = refl
  regroup x y (Some z) g h fine = ap Some (join.assoc x y z g h fine)

  fold_joined : (x : ℤ) (xs : List ℤ) → FitsSigned w64 x → AllFit xs → Some (fold f x xs) ≡ joined_to x (joined xs)
  fold_joined x [] g fit = refl
  fold_joined x (y ∷ ys) g fit =
      fold_joined (f x y) ys (join.keeps x y g fit.0) fit.1 ∙ regroup x y (joined ys) g fit.0 (joined_fits ys fit.1)

  join_all_is : (xs : List ℤ) → AllFit xs → join_all f xs ≡ unwrap_or (joined xs) (pos 0)
  join_all_is [] fit = refl
  join_all_is (x ∷ xs) fit = ap (λ o. unwrap_or o (pos 0)) (fold_joined x xs fit.0 fit.1)

  join_in_any_order : (value : List ℤ → Checked) (ps qs : List (List ℤ)) → Distinct ps → Distinct qs → ((p : List ℤ) → Member ps p ↔ Member qs p)
      → AllFit (numbers_at value ps) → AllFit (numbers_at value qs) → join_all f (numbers_at value ps) ≡ join_all f (numbers_at value qs)
  join_in_any_order value ps qs once_p once_q same fit fit_q =
      join_all_is (numbers_at value ps) fit
      ∙ ap (λ o. unwrap_or o (pos 0)) (made_in_any_order joined joined_to FitsWhere (λ n ns. refl) tt joined_keeps joined_turn value ps qs once_p once_q same fit)
      ∙ sym (join_all_is (numbers_at value qs) fit_q)

-- the numbers at all positions fit where those at each do
fit_all : (value : List ℤ → Checked) (ps : List (List ℤ)) → ((p : List ℤ) → Member ps p → FitsWhere (number_in (value p))) → AllFit (numbers_at value ps)
fit_all value [] each = tt
fit_all value (p ∷ ps) each = one (number_in (value p)) (each p (inl refl)) (fit_all value ps (λ q m. each q (inr m)))
  where
    one : (o : Option ℤ) → FitsWhere o → AllFit (numbers_at value ps) → AllFit (cons_option o (numbers_at value ps))
    one None good rest = rest
    one (Some n) good rest = (good, rest)

-- the result is the same, in whichever order the positions are gone through
pub result_in_any_order : (r : Reduction) (value : List ℤ → Checked) (ps qs : List (List ℤ)) → Distinct ps → Distinct qs → ((p : List ℤ) → Member ps p ↔ Member qs p)
    → AllFit (numbers_at value ps) → result_over r (numbers_at value ps) ≡ result_over r (numbers_at value qs)
result_in_any_order r value ps qs once_p once_q same fit = by r
  where
    fit_q : AllFit (numbers_at value qs)
    fit_q = fit_all value qs (λ q m. each_fits value ps fit q ((same q).1 m))

    by : (r : Reduction) → result_over r (numbers_at value ps) ≡ result_over r (numbers_at value qs)
    by of.Sum = ap exact (made_in_any_order sum_of (λ n r. n +ℤ r) (λ r. Unit {0}) sum_first tt (λ n r g fine. tt) (λ m n r g h fine. omega (arith, ints)) value ps qs once_p once_q same fit)
    by of.Min = ap Ok (join_in_any_order int_min of_min value ps qs once_p once_q same fit fit_q)
    by of.Max = ap Ok (join_in_any_order int_max of_max value ps qs once_p once_q same fit fit_q)
    by of.All = ap truth (made_in_any_order (list_all is_set) (λ n r. is_set n && r) (λ r. Unit {0}) (λ n ns. refl) tt (λ n r g fine. tt) (λ m n r g h fine. and_turn (is_set m) (is_set n) r) value ps qs once_p once_q same fit)
    by of.Any = ap truth (made_in_any_order (list_any is_set) (λ n r. is_set n || r) (λ r. Unit {0}) (λ n ns. refl) tt (λ n r g fine. tt) (λ m n r g h fine. or_turn (is_set m) (is_set n) r) value ps qs once_p once_q same fit)
    by of.Count = ap (λ n. Ok (pos n)) (made_in_any_order (count_by is_set) (λ n r. cond (is_set n) 1 0 + r) (λ r. Unit {0}) (λ n ns. sum_by-cons (λ x. cond (is_set x) 1 0) n ns) tt (λ n r g fine. tt) (λ m n r g h fine. omega arith) value ps qs once_p once_q same fit)
    by of.BitAnd = ap Ok (join_in_any_order (int_bit_and w64) of_and value ps qs once_p once_q same fit fit_q)
    by of.BitOr = ap Ok (join_in_any_order (int_bit_or w64) of_or value ps qs once_p once_q same fit fit_q)
