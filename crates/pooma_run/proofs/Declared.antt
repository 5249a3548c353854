-- The arrays of a program, declared one after another.
use Rattle.std.proofs.Common.{◌≡◌, ◌∙◌, sym, ap, subst, inl, inr, ℕ, zero, suc, ◌+◌, ◌<◌, ◌≤◌, Some, List, [], ◌∷◌, ◌++◌, length, take, append-nil, arith}
use Rattle.std.specs.Prelude.{slice_get}
use Rattle.std.specs.List.{AllZip}
use Rattle.std.proofs.lemmas.Bool.{cases_lt}
use Rattle.std.proofs.lemmas.Grind.{flat_map-append}
use Rattle.std.proofs.lemmas.Slice.Zip.{AllZip-long}
use Rattle.std.proofs.lemmas.List.{take_all}
use Rattle.std.proofs.lemmas.Option.{get_or_from_slice_get, slice_get-get_or}
use Rattle.pooma_field.specs.Numbered.{Numbered}
use Rattle.pooma_field.specs.Shapes.{IsShape, Shaped}
use Rattle.pooma_layout.specs.Axes.{CutAxis}
use Rattle.pooma_layout.specs.Patches.{IsLayout}
use Rattle.pooma_model.specs.Declarations.{IsArray}
use Rattle.pooma_store.specs.Numbering.{layout_at, new_objects, new_patches}
use Rattle.pooma_store.specs.Standing.{shape_at}
use Rattle.pooma_store.specs.Stored.{AreArrays, Fits}
use Rattle.pooma_run.proofs.Lists.{take_next}

zip_at : {A B : Type 0} (R : A → B → Type 0) (xs : List A) (ys : List B) (k : ℕ) (x : A) (y : B) → AllZip R xs ys → slice_get xs k ≡ Some x → slice_get ys k ≡ Some y → R x y
zip_at R [] ys k x y each at there = absurd (cc at)
zip_at R (z ∷ xs) [] k x y each at there = absurd (cc there)
zip_at R (z ∷ xs) (w ∷ ys) zero x y each at there =
    let first : z ≡ x = cc at in let second : w ≡ y = cc there in rw (← first, ← second) each.0
zip_at R (z ∷ xs) (w ∷ ys) (suc k) x y each at there = zip_at R xs ys k x y each.1 at there

-- what a program may declare, a store may have
pub fits_at : (shapes : List Shaped) (layouts : List (List CutAxis)) (k : ℕ) (shape : Shaped) (layout : List CutAxis) → AllZip IsArray shapes layouts
    → slice_get shapes k ≡ Some shape → slice_get layouts k ≡ Some layout → Fits shape layout
fits_at shapes layouts k shape layout each at there =
    let is : IsArray shape layout = zip_at IsArray shapes layouts k shape layout each at there in
    record { physical = sym is.physical; total = sym is.total; few = is.few_cells }

pub behind_next : {A : Type 0} (xs old new : List A) (k : ℕ) (x : A) → old ≡ take k xs → slice_get xs k ≡ Some x → new ≡ old ++ x ∷ [] → new ≡ take (k + 1) xs
behind_next xs old new k x is at more = more ∙ ap (λ ys. ys ++ x ∷ []) is ∙ sym (take_next xs k x at)

pub objects_next : (layouts : List (List CutAxis)) (old new : List Numbered) (k : ℕ) (layout : List CutAxis) → old ≡ new_objects (take k layouts) → slice_get layouts k ≡ Some layout
    → new ≡ old ++ new_patches layout → new ≡ new_objects (take (k + 1) layouts)
objects_next layouts old new k layout is at more =
    more ∙ ap (λ objects. objects ++ new_patches layout) is
    ∙ ap (λ patches. new_objects (take k layouts) ++ patches) (sym (append-nil (new_patches layout)))
    ∙ sym (ap new_objects (take_next layouts k layout at) ∙ flat_map-append new_patches (take k layouts) (layout ∷ []))

-- all of them
pub all_layouts : (shapes : List Shaped) (layouts : List (List CutAxis)) (k : ℕ) → AllZip IsArray shapes layouts → length shapes ≤ k → take k layouts ≡ layouts
all_layouts shapes layouts k each all = take_all k layouts (omega (arith, AllZip-long IsArray shapes layouts each))

-- the array at this place has a shape, and is cut into patches
pub record IsCutAt (shapes : List Shaped) (layouts : List (List CutAxis)) (k : ℕ) : Type 0 where
  pub shaped : IsShape (shape_at shapes k)
  pub cut : IsLayout (layout_at layouts k)

pub next_cut : (shapes : List Shaped) (layouts : List (List CutAxis)) (n : ℕ) (shape : Shaped) (layout : List CutAxis)
    → slice_get shapes n ≡ Some shape → slice_get layouts n ≡ Some layout → IsShape shape → IsLayout layout
    → ((k : ℕ) → k < n → IsCutAt shapes layouts k) → (k : ℕ) → k < n + 1 → IsCutAt shapes layouts k
next_cut shapes layouts n shape layout at there shaped cut before k below =
    elim (cases_lt k n) [
      | inl less ↦ before k less
      | inr after ↦ let last : k ≡ n = omega arith in record {
        shaped = subst (λ j. IsShape (shape_at shapes j)) (sym last) (subst IsShape (sym (get_or_from_slice_get shapes n shape _ at)) shaped);
        cut = subst (λ j. IsLayout (layout_at layouts j)) (sym last) (subst IsLayout (sym (get_or_from_slice_get layouts n layout _ there)) cut);
      }
    ]

pub all_cut : (shapes : List Shaped) (layouts : List (List CutAxis)) (n : ℕ) → AllZip IsArray shapes layouts → length shapes ≤ 256 → length shapes ≤ n
    → ((k : ℕ) → k < n → IsCutAt shapes layouts k) → AreArrays shapes layouts
all_cut shapes layouts n each few all cut =
    let both : length layouts ≡ length shapes = AllZip-long IsArray shapes layouts each in
    record {
      both = sym both;
      few = omega arith;
      fitting = λ k below. fits_at shapes layouts k (shape_at shapes k) (layout_at layouts k) each (slice_get-get_or shapes k _ (omega arith)) (slice_get-get_or layouts k _ below);
      shaped = λ k below. (cut k (omega arith)).shaped;
      cut = λ k below. (cut k (omega arith)).cut;
    }
