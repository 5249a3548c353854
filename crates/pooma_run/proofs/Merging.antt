-- The partials of lists of numbers, merged one after another.
use Rattle.std.proofs.Common.{◌≡◌, ◌∙◌, refl, sym, ap, subst, ℕ, zero, suc, ◌+◌, ◌≤◌, ◌<◌, ◌^◌, ℤ, Some, List, [], ◌∷◌, ◌++◌, length, map, take, drop, append-nil, length-append, get_or, arith}
use Rattle.std.specs.Prelude.{slice_get}
use Rattle.std.proofs.Math.Seq.{take-length}
use Rattle.std.proofs.lemmas.Grind.{flat_map-append}
use Rattle.std.proofs.lemmas.List.{length-map, take-append-drop}
use Rattle.std.proofs.lemmas.Option.{same_Some, slice_get_read}
use Rattle.pooma_expr.specs.declared.reduction.Reduction.{Reduction}
use Rattle.pooma_expr.specs.Reductions.{AllFit, Kept, StandsFor}
use Rattle.pooma_piece.specs.declared.outcome.Outcome.{Outcome}
use Rattle.pooma_piece.specs.declared.outcome.Outcome.TheVariants.{Done, Value, Fault}
use Rattle.pooma_piece.specs.Effects.{kept_of}
use Rattle.pooma_run.proofs.Lists.{take_next}
use Rattle.pooma_run.specs.Outcomes.{AreValues, joined, value_of}

-- how far the outcomes are merged
pub record AreMerged (reduction : Reduction) (outcomes : List Outcome) (k : ℕ) (all : Kept) : Type 0 where
  pub reduction_is : all.reduction ≡ reduction
  pub count : (lists : List (List ℤ)) → outcomes ≡ map (value_of reduction) lists → all.total.count ≡ length (joined (take k lists))
  pub stands : (lists : List (List ℤ)) → outcomes ≡ map (value_of reduction) lists → AllFit (joined lists) → StandsFor (joined (take k lists)) all

abbrev kept_in : Outcome → Kept → Kept
kept_in (Value kept) other = kept
kept_in Done other = other
kept_in (Fault position kind) other = other

-- an outcome of a list, and the list's numbers
pub at_place : (r : Reduction) (lists : List (List ℤ)) (k : ℕ) (o : Outcome) → slice_get (map (value_of r) lists) k ≡ Some o
    → (xs : List ℤ) × (slice_get lists k ≡ Some xs) × (o ≡ value_of r xs)
at_place r [] k o e = cc
at_place r (xs ∷ lists) zero o e = (xs, refl, sym (same_Some (value_of r xs) o e))
at_place r (xs ∷ lists) (suc k) o e = at_place r lists k o e

-- what stands at a place of the outcomes
pub stands_there : (outcomes : List Outcome) (k : ℕ) (one o : Outcome) → k < length outcomes → one ≡ get_or outcomes k one → one ≡ o → slice_get outcomes k ≡ Some o
stands_there outcomes k one o within at is = slice_get_read outcomes (length outcomes) k one refl within at ∙ ap Some is

all_left : (xs ys : List ℤ) → AllFit (xs ++ ys) → AllFit xs
all_left [] ys h = tt
all_left (x ∷ xs) ys h = (h.0, all_left xs ys h.1)

all_right : (xs ys : List ℤ) → AllFit (xs ++ ys) → AllFit ys
all_right [] ys h = h
all_right (x ∷ xs) ys h = all_right xs ys h.1

joined_next : (lists : List (List ℤ)) (k : ℕ) (xs : List ℤ) → slice_get lists k ≡ Some xs → joined (take (k + 1) lists) ≡ joined (take k lists) ++ xs
joined_next lists k xs at =
    ap joined (take_next lists k xs at) ∙ flat_map-append (λ (numbers : List ℤ). numbers) (take k lists) (xs ∷ [])
    ∙ ap (λ (ys : List ℤ). joined (take k lists) ++ ys) (append-nil xs)

joined_parts : (lists : List (List ℤ)) (k : ℕ) → joined lists ≡ joined (take k lists) ++ joined (drop k lists)
joined_parts lists k = ap joined (sym (take-append-drop k lists)) ∙ flat_map-append (λ (numbers : List ℤ). numbers) (take k lists) (drop k lists)

-- an outcome that has its place is what is kept of the list there
part_is : (r : Reduction) (outcomes : List Outcome) (k : ℕ) (part : Kept) → slice_get outcomes k ≡ Some (Value part) → (lists : List (List ℤ)) → outcomes ≡ map (value_of r) lists
    → (xs : List ℤ) × (slice_get lists k ≡ Some xs) × (part ≡ kept_of r xs)
part_is r outcomes k part at lists are =
    let found = at_place r lists k (Value part) (ap (λ os. slice_get os k) (sym are) ∙ at) in
    (found.0, found.1, ap (λ o. kept_in o part) found.2)

stands_kept : (r : Reduction) (xs : List ℤ) → AllFit xs → StandsFor xs (kept_of r xs)
stands_kept r xs fit = record { fit = fit; total = refl; set = refl; joined = refl }

pub merged_first : (r : Reduction) (outcomes : List Outcome) (all : Kept) → all.reduction ≡ r → StandsFor [] all → AreMerged r outcomes 0 all
merged_first r outcomes all is none = record { reduction_is = is; count = λ lists are. ap (λ total. total.count) none.total; stands = λ lists are fit. none }

pub reduction_same : (r : Reduction) (outcomes : List Outcome) (k : ℕ) (all part : Kept) → AreValues r outcomes → slice_get outcomes k ≡ Some (Value part) → AreMerged r outcomes k all
    → all.reduction ≡ part.reduction
reduction_same r outcomes k all part values at merged =
    let found = part_is r outcomes k part at values.lists values.are in
    merged.reduction_is ∙ sym (ap (λ kept. kept.reduction) found.2)

pub count_fits : (r : Reduction) (outcomes : List Outcome) (k : ℕ) (all part : Kept) → AreValues r outcomes → slice_get outcomes k ≡ Some (Value part) → AreMerged r outcomes k all
    → all.total.count + part.total.count ≤ 2 ^ 23
count_fits r outcomes k all part values at merged =
    let found = part_is r outcomes k part at values.lists values.are in
    let here : all.total.count ≡ length (joined (take k values.lists)) = merged.count values.lists values.are in
    let more : part.total.count ≡ length found.0 = ap (λ kept. kept.total.count) found.2 in
    let next : length (joined (take (k + 1) values.lists)) ≡ length (joined (take k values.lists)) + length found.0 =
    ap length (joined_next values.lists k found.0 found.1) ∙ length-append (joined (take k values.lists)) found.0 in
    let whole : length (joined values.lists) ≡ length (joined (take (k + 1) values.lists)) + length (joined (drop (k + 1) values.lists)) =
    ap length (joined_parts values.lists (k + 1)) ∙ length-append (joined (take (k + 1) values.lists)) (joined (drop (k + 1) values.lists)) in
    let few = values.few in
    omega arith

pub merged_next : (r : Reduction) (outcomes : List Outcome) (k : ℕ) (all part new : Kept) → slice_get outcomes k ≡ Some (Value part) → AreMerged r outcomes k all
    → new.reduction ≡ all.reduction → new.total.count ≡ all.total.count + part.total.count
    → ((xs ys : List ℤ) → StandsFor xs all → StandsFor ys part → StandsFor (xs ++ ys) new) → AreMerged r outcomes (k + 1) new
merged_next r outcomes k all part new at merged is count stands = record {
  reduction_is = is ∙ merged.reduction_is;
  count = λ lists are.
      let found = part_is r outcomes k part at lists are in
      let here : all.total.count ≡ length (joined (take k lists)) = merged.count lists are in
      let more : part.total.count ≡ length found.0 = ap (λ kept. kept.total.count) found.2 in
      let next : length (joined (take (k + 1) lists)) ≡ length (joined (take k lists)) + length found.0 =
      ap length (joined_next lists k found.0 found.1) ∙ length-append (joined (take k lists)) found.0 in
      omega arith;
  stands = λ lists are fit.
      let found = part_is r outcomes k part at lists are in
      let fits : AllFit found.0 =
      all_right (joined (take k lists)) found.0 (subst AllFit (joined_next lists k found.0 found.1)
      (all_left (joined (take (k + 1) lists)) (joined (drop (k + 1) lists)) (subst AllFit (joined_parts lists (k + 1)) fit))) in
      let part_stands : StandsFor found.0 part = subst (StandsFor found.0) (sym found.2) (stands_kept r found.0 fits) in
      subst (λ xs. StandsFor xs new) (sym (joined_next lists k found.0 found.1)) (stands (joined (take k lists)) found.0 (merged.stands lists are fit) part_stands);
}

-- all of them
pub merged_all : (r : Reduction) (outcomes : List Outcome) (n : ℕ) (all : Kept) → n ≡ length outcomes → AreMerged r outcomes n all → (lists : List (List ℤ)) → outcomes ≡ map (value_of r) lists
    → joined (take n lists) ≡ joined lists
merged_all r outcomes n all is merged lists are =
    let same : n ≡ length lists = is ∙ ap length are ∙ length-map lists (value_of r) in
    ap (λ m. joined (take m lists)) same ∙ ap joined (take-length lists)

pub some_counted : (r : Reduction) (outcomes : List Outcome) (n : ℕ) (all : Kept) → AreValues r outcomes → n ≡ length outcomes → AreMerged r outcomes n all → 1 ≤ all.total.count
some_counted r outcomes n all values is merged =
    let here : all.total.count ≡ length (joined values.lists) = merged.count values.lists values.are ∙ ap length (merged_all r outcomes n all is merged values.lists values.are) in
    let some = values.some in
    omega arith

-- there is no other outcome among them
pub none_other : (r : Reduction) (outcomes : List Outcome) (k : ℕ) (o : Outcome) → AreValues r outcomes → slice_get outcomes k ≡ Some o → ((kept : Kept) → o ≡ Value kept → ⊥) → ⊥
none_other r outcomes k o values at other =
    let found = at_place r values.lists k o (ap (λ os. slice_get os k) (sym values.are) ∙ at) in
    other (kept_of r found.0) found.2
