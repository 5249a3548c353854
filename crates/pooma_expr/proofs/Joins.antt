-- What is joined of two lists one after the other.
use Rattle.std.proofs.Common.{◌≡◌, ℕ, suc, ◌+◌, ◌^◌, ◌<◌, ◌≤◌, ℤ, pos, negsuc, ◌+ℤ◌, Bool, true, false, cond, ◌&&◌, ◌||◌, refl, sym, ap, ◌∙◌, arith, List, [], ◌∷◌, ◌++◌, length, length-append, Ok}
use Rattle.std.specs.Prelude.{FitsSigned, bit_and, bit_or, fold, count_by, int_lt, nat_eq, nat_lt}
use Rattle.std.specs.List.{list_all, list_any}
use Rattle.std.specs.Int.{w64, int_min, int_max, cast_signed, cast_unsigned, from_bool}
use Rattle.std.proofs.Math.Facts.{sfits_to_z}
use Rattle.std.proofs.lemmas.Int.{ints, clamps, of_z-to_z}
use Rattle.std.proofs.lemmas.Nat.{and_assoc, and_le_l, or_lt}
use Rattle.std.proofs.lemmas.Nat.Bits.{bit_at_or, same_from_bits}
use Rattle.std.proofs.lemmas.List.Sums.{fold-append, count_by-le-length, sum_by-cons, sum_by-append}
use Rattle.std.proofs.lemmas.Bool.Decides.{nat_tests}
use Rattle.pooma_expr.specs.declared.reduction.Reduction.{Reduction}
use Rattle.pooma_expr.specs.declared.reduction.Reduction.TheVariants as of
use Rattle.pooma_num.specs.Sum.{Sum, merged}
use Rattle.pooma_expr.specs.Values.{truth}
use Rattle.pooma_expr.specs.Reductions.{result_over, is_set, sum_of, join_all, join_of, AllFit, Kept, StandsFor}

below : (x : ℤ) → FitsSigned w64 x → cast_unsigned w64 x < 2 ^ 64
below (pos n) f = let h : n < 2 ^ 63 = f.sfits in omega arith
below (negsuc n) f = let h : n < 2 ^ 63 = f.sfits in omega arith

-- ---- joins are associative on numbers of 64 bits, and give such numbers

min_assoc : (x y z : ℤ) → int_min (int_min x y) z ≡ int_min x (int_min y z)
min_assoc x y z = omega (arith, ints, clamps)

max_assoc : (x y z : ℤ) → int_max (int_max x y) z ≡ int_max x (int_max y z)
max_assoc x y z = omega (arith, ints, clamps)

or_assoc : (a b c : ℕ) → bit_or (bit_or a b) c ≡ bit_or a (bit_or b c)
or_assoc a b c = same_from_bits _ _ (λ i. omega (arith, bit_at_or (bit_or a b) c i, bit_at_or a b i, bit_at_or a (bit_or b c) i, bit_at_or b c i))

-- on bits, an operator that is associative and keeps within 64 bits
module _ (f : ℕ → ℕ → ℕ) (assoc : (a b c : ℕ) → f (f a b) c ≡ f a (f b c)) (keeps : (a b : ℕ) → a < 2 ^ 64 → b < 2 ^ 64 → f a b < 2 ^ 64) where
  abbrev signed : ℤ → ℤ → ℤ
  signed x y = cast_signed w64 (f (cast_unsigned w64 x) (cast_unsigned w64 y))

  bits_of : (x y : ℤ) → FitsSigned w64 x → FitsSigned w64 y → cast_unsigned w64 (signed x y) ≡ f (cast_unsigned w64 x) (cast_unsigned w64 y)
  bits_of x y g h = of_z-to_z w64 (f (cast_unsigned w64 x) (cast_unsigned w64 y)) (keeps _ _ (below x g) (below y h))

  signed_fits : (x y : ℤ) → FitsSigned w64 x → FitsSigned w64 y → FitsSigned w64 (signed x y)
  signed_fits x y g h = sfits_to_z (record { fits = keeps _ _ (below x g) (below y h) })

  signed_assoc : (x y z : ℤ) → FitsSigned w64 x → FitsSigned w64 y → FitsSigned w64 z → signed (signed x y) z ≡ signed x (signed y z)
  signed_assoc x y z g h i =
      ap (λ n. cast_signed w64 (f n (cast_unsigned w64 z))) (bits_of x y g h)
      ∙ ap (cast_signed w64) (assoc (cast_unsigned w64 x) (cast_unsigned w64 y) (cast_unsigned w64 z))
      ∙ ap (λ n. cast_signed w64 (f (cast_unsigned w64 x) n)) (sym (bits_of y z h i))

abbrev IsAssociative : (ℤ → ℤ → ℤ) → Type 0
IsAssociative f = (x y z : ℤ) → FitsSigned w64 x → FitsSigned w64 y → FitsSigned w64 z → f (f x y) z ≡ f x (f y z)

abbrev Keeps : (ℤ → ℤ → ℤ) → Type 0
Keeps f = (x y : ℤ) → FitsSigned w64 x → FitsSigned w64 y → FitsSigned w64 (f x y)

and_keeps : (a b : ℕ) → a < 2 ^ 64 → b < 2 ^ 64 → bit_and a b < 2 ^ 64
and_keeps a b h k = omega (arith, and_le_l a b)

chosen_fits : (b : Bool) (x y : ℤ) → FitsSigned w64 x → FitsSigned w64 y → FitsSigned w64 (cond b x y)
chosen_fits true x y g h = g
chosen_fits false x y g h = h

join_assoc : (r : Reduction) → IsAssociative (join_of r)
join_assoc of.Min x y z g h i = min_assoc x y z
join_assoc of.Max x y z g h i = max_assoc x y z
join_assoc of.BitAnd x y z g h i = signed_assoc bit_and (λ a b c. and_assoc c a b) and_keeps x y z g h i
join_assoc of.BitOr x y z g h i = signed_assoc bit_or or_assoc (or_lt 64) x y z g h i
join_assoc of.Sum x y z g h i = refl
join_assoc of.All x y z g h i = refl
join_assoc of.Any x y z g h i = refl
join_assoc of.Count x y z g h i = refl

join_keeps : (r : Reduction) → Keeps (join_of r)
join_keeps of.Min x y g h = chosen_fits (int_lt y x) y x h g
join_keeps of.Max x y g h = chosen_fits (int_lt y x) x y g h
join_keeps of.BitAnd x y g h = signed_fits bit_and (λ a b c. and_assoc c a b) and_keeps x y g h
join_keeps of.BitOr x y g h = signed_fits bit_or or_assoc (or_lt 64) x y g h
join_keeps of.Sum x y g h = g
join_keeps of.All x y g h = g
join_keeps of.Any x y g h = g
join_keeps of.Count x y g h = g

-- ---- of two lists

fold_keeps : (f : ℤ → ℤ → ℤ) → Keeps f → (x : ℤ) (xs : List ℤ) → FitsSigned w64 x → AllFit xs → FitsSigned w64 (fold f x xs)
fold_keeps f keeps x [] g h = g
fold_keeps f keeps x (y ∷ xs) g h = fold_keeps f keeps (f x y) xs (keeps x y g h.0) h.1

-- a fold from a number on is what is made of it and the fold of the rest
fold_from : (f : ℤ → ℤ → ℤ) → IsAssociative f → Keeps f → (x y : ℤ) (ys : List ℤ) → FitsSigned w64 x → FitsSigned w64 y → AllFit ys → fold f x (y ∷ ys) ≡ f x (fold f y ys)
fold_from f assoc keeps x y [] g h fit = refl
fold_from f assoc keeps x y (z ∷ ys) g h fit =
    ap (λ (w : ℤ). fold f w ys) (assoc x y z g h fit.0)
    ∙ fold_from f assoc keeps x (f y z) ys g (keeps y z h fit.0) fit.1

join_all-append : (f : ℤ → ℤ → ℤ) → IsAssociative f → Keeps f → (xs ys : List ℤ) → AllFit xs → AllFit ys → 1 ≤ length xs → 1 ≤ length ys → join_all f (xs ++ ys) ≡ f (join_all f xs) (join_all f ys)
join_all-append f assoc keeps [] ys fx fy hx hy = absurd (omega arith)
join_all-append f assoc keeps (x ∷ xs) [] fx fy hx hy = absurd (omega arith)
join_all-append f assoc keeps (x ∷ xs) (y ∷ ys) fx fy hx hy =
    fold-append f x xs (y ∷ ys) ∙ fold_from f assoc keeps (fold f x xs) y ys (fold_keeps f keeps x xs fx.0 fx.1) fy.0 fy.1

pub both_joined : (r : Reduction) (xs ys : List ℤ) (x y : ℤ) → AllFit xs → AllFit ys → 1 ≤ length xs → 1 ≤ length ys → x ≡ join_all (join_of r) xs → y ≡ join_all (join_of r) ys → join_of r x y ≡ join_all (join_of r) (xs ++ ys)
both_joined r xs ys x y fx fy hx hy ex ey =
    ap (λ (z : ℤ). join_of r z y) ex ∙ ap (join_of r (join_all (join_of r) xs)) ey
    ∙ sym (join_all-append (join_of r) (join_assoc r) (join_keeps r) xs ys fx fy hx hy)

pub AllFit-append : (xs ys : List ℤ) → AllFit xs → AllFit ys → AllFit (xs ++ ys)
AllFit-append [] ys fx fy = fy
AllFit-append (x ∷ xs) ys fx fy = (fx.0, AllFit-append xs ys fx.1 fy)

sum_from : (a : ℤ) (xs : List ℤ) → fold (λ x y. x +ℤ y) a xs ≡ a +ℤ sum_of xs
sum_from a [] = omega (arith, ints)
sum_from a (x ∷ xs) = omega (arith, ints, sum_from (a +ℤ x) xs, sum_from (pos 0 +ℤ x) xs)

pub sum_of-append : (xs ys : List ℤ) → sum_of (xs ++ ys) ≡ sum_of xs +ℤ sum_of ys
sum_of-append xs ys = fold-append (λ x y. x +ℤ y) (pos 0) xs ys ∙ sum_from (sum_of xs) ys

-- ---- how many are set, and whether all or some are

all_step : (b rest : Bool) (c n : ℕ) → c ≤ n → rest ≡ nat_eq c n → (b && rest) ≡ nat_eq (cond b 1 0 + c) (suc n)
all_step true rest c n h e = let same : nat_eq c n ≡ nat_eq (1 + c) (suc n) = grind (arith, nat_tests) in e ∙ same
all_step false rest c n h e = let other : nat_eq (0 + c) (suc n) ≡ false = grind (arith, nat_tests) in sym other

pub all_counted : (p : ℤ → Bool) (xs : List ℤ) → list_all p xs ≡ nat_eq (count_by p xs) (length xs)
all_counted p [] = refl
all_counted p (x ∷ xs) =
    all_step (p x) (list_all p xs) (count_by p xs) (length xs) (count_by-le-length p xs) (all_counted p xs)
    ∙ ap (λ (n : ℕ). nat_eq n (suc (length xs))) (sym (sum_by-cons (λ z. cond (p z) 1 0) x xs))

some_step : (b rest : Bool) (c : ℕ) → rest ≡ nat_lt 0 c → (b || rest) ≡ nat_lt 0 (cond b 1 0 + c)
some_step true rest c e = let some : nat_lt 0 (1 + c) ≡ true = grind (arith, nat_tests) in sym some
some_step false rest c e = let same : nat_lt 0 c ≡ nat_lt 0 (0 + c) = grind (arith, nat_tests) in e ∙ same

pub some_counted : (p : ℤ → Bool) (xs : List ℤ) → list_any p xs ≡ nat_lt 0 (count_by p xs)
some_counted p [] = refl
some_counted p (x ∷ xs) =
    some_step (p x) (list_any p xs) (count_by p xs) (some_counted p xs)
    ∙ ap (nat_lt 0) (sym (sum_by-cons (λ z. cond (p z) 1 0) x xs))

pub count_by-append : (p : ℤ → Bool) (xs ys : List ℤ) → count_by p (xs ++ ys) ≡ count_by p xs + count_by p ys
count_by-append p xs ys = sum_by-append (λ z. cond (p z) 1 0) xs ys

sums : (a b : ℤ) (m n : ℕ) (xs ys : List ℤ) (s t : Sum) → s ≡ record { number = a; count = m } → t ≡ record { number = b; count = n } → a +ℤ b ≡ sum_of (xs ++ ys) → m + n ≡ length (xs ++ ys) → merged s t ≡ record { number = sum_of (xs ++ ys); count = length (xs ++ ys) }
sums a b m n xs ys s t es et number count =
    ap (λ z. merged z t) es ∙ ap (merged (record { number = a; count = m })) et
    ∙ ap (λ z. record { number = z; count = m + n }) number ∙ ap (λ k. record { number = sum_of (xs ++ ys); count = k }) count

-- what is kept of two lists is kept of both together
pub merges : (xs ys : List ℤ) (a b n : Kept) → StandsFor xs a → StandsFor ys b → n.reduction ≡ a.reduction → n.total ≡ merged a.total b.total → n.set ≡ a.set + b.set → n.joined ≡ join_all (join_of a.reduction) (xs ++ ys) → StandsFor (xs ++ ys) n
merges xs ys a b n h k er et es ej = record {
  fit = AllFit-append xs ys h.fit k.fit;
  total = et ∙ sums _ _ _ _ xs ys _ _ h.total k.total (sym (sum_of-append xs ys)) (sym (length-append xs ys));
  set = es ∙ ap (λ m. m + b.set) h.set ∙ ap (λ m. count_by is_set xs + m) k.set ∙ sym (count_by-append is_set xs ys);
  joined = ej ∙ ap (λ r. join_all (join_of r) (xs ++ ys)) (sym er);
}

as_truth : (b : Bool) (x : ℤ) → x ≡ pos (from_bool b) → Ok x ≡ truth b
as_truth true x e = ap Ok e
as_truth false x e = ap Ok e

pub all_result : (r : Reduction) (xs : List ℤ) (set count : ℕ) (x : ℤ) → r ≡ of.All → set ≡ count_by is_set xs → count ≡ length xs → x ≡ pos (from_bool (nat_eq set count)) → Ok x ≡ result_over r xs
all_result r xs set count x is es ec e =
    as_truth (nat_eq set count) x e
    ∙ ap truth (ap (λ (n : ℕ). nat_eq n count) es ∙ ap (nat_eq (count_by is_set xs)) ec ∙ sym (all_counted is_set xs))
    ∙ ap (λ q. result_over q xs) (sym is)

pub some_result : (r : Reduction) (xs : List ℤ) (set : ℕ) (x : ℤ) → r ≡ of.Any → set ≡ count_by is_set xs → x ≡ pos (from_bool (nat_lt 0 set)) → Ok x ≡ result_over r xs
some_result r xs set x is es e =
    as_truth (nat_lt 0 set) x e
    ∙ ap truth (ap (nat_lt 0) es ∙ sym (some_counted is_set xs))
    ∙ ap (λ q. result_over q xs) (sym is)
