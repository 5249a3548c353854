-- The rows of a view, one row more.
use Rattle.std.proofs.Common.{◌≡◌, ℕ, zero, suc, ◌+◌, ◌<◌, ℤ, pos, ◌+ℤ◌, Some, Result, Ok, Err, OnErr, List, [], ◌∷◌, ◌++◌, length, flat_map, take, drop, refl, sym, ap, ◌∙◌, arith}
use Rattle.std.specs.List.{slice_get}
use Rattle.std.proofs.lemmas.Int.{ints}
use Rattle.std.proofs.lemmas.Option.{same_Some}
use Rattle.std.proofs.lemmas.List.{flat_map_more, take-append-drop}
use Rattle.std.proofs.lemmas.Grind.{flat_map-append}
use Rattle.pooma_domain.specs.Cells.{counting}
use Rattle.pooma_print.specs.Texts.{GrowsByFront}
use Rattle.pooma_print.proofs.Lists.{taken_more}

-- the numbers in a row stand where they are counted to
pub counted_at : (first : ℤ) (n k : ℕ) → k < n → slice_get (counting first n) k ≡ Some (first +ℤ pos k)
counted_at first zero k below = absurd (omega (arith, below))
counted_at first (suc n) zero below = ap Some (let same : first ≡ first +ℤ pos 0 = omega (arith, ints) in same)
counted_at first (suc n) (suc k) below =
    counted_at (first +ℤ pos 1) n k (omega (arith, below)) ∙ ap Some (let same : (first +ℤ pos 1) +ℤ pos k ≡ first +ℤ pos (suc k) = omega (arith, ints) in same)

pub length-counting : (first : ℤ) (n : ℕ) → length (counting first n) ≡ n
length-counting first zero = refl
length-counting first (suc n) = ap suc (length-counting (first +ℤ pos 1) n)

-- one text more behind those of a list
pub texts_more : {A : Type 0} (f : A → List ℕ) (out : List ℕ) (xs : List A) (k : ℕ) (x : A) → slice_get xs k ≡ Some x → (out ++ flat_map f (take k xs)) ++ f x ≡ out ++ flat_map f (take (k + 1) xs)
texts_more f out xs k x at = flat_map_more f out (take k xs) x ∙ ap (λ ys. out ++ flat_map f ys) (sym (taken_more xs k x at))

-- the texts of the first elements are a front of all texts
pub front_of_texts : {A : Type 0} (f : A → List ℕ) (old new text : List ℕ) (xs : List A) (k : ℕ) → text ≡ flat_map f xs → new ≡ old ++ flat_map f (take k xs) → GrowsByFront old new text
front_of_texts f old new text xs k is grown = record {
  front = flat_map f (take k xs);
  back = flat_map f (drop k xs);
  whole = is ∙ ap (flat_map f) (sym (take-append-drop k xs)) ∙ flat_map-append f (take k xs) (drop k xs);
  grown = grown;
}

-- a fact that holds at any rate holds on an error
pub on_any_error : {T E P : Type 0} (r : Result T E) → P → OnErr r P
on_any_error (Ok x) p = tt
on_any_error (Err e) p = p

-- a box taken apart by its first axis
pub first_and_rest : {A : Type 0} (box rows : List A) (axis : A) → slice_get box 0 ≡ Some axis → rows ≡ drop 1 box → box ≡ axis ∷ rows
first_and_rest [] rows axis at is = absurd (let no : ⊥ = cc in no)
first_and_rest (a ∷ rest) rows axis at is = ap (λ b. b ∷ rest) (same_Some a axis at) ∙ ap (λ xs. axis ∷ xs) (sym is)
