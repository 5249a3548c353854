-- An array that is declared behind others: it reads 0 and is guarded, whatever they have by then.
use Rattle.std.proofs.Common.{refl, sym, ap, ◌∙◌, subst, arith, length-append}
use Rattle.std.proofs.lemmas.List.{length-map, take-append-le, take_all, get_or-append_right}
use Rattle.std.proofs.Math.Seq.{get_or-append_seam}
use Rattle.std.specs.Prelude.{◌≡◌, ℕ, ◌+◌, ◌-◌, ◌<◌, ◌≤◌, ℤ, pos, Some, List, [], ◌∷◌, ◌++◌, length, slice_get, take, All}
use Rattle.pooma_domain.specs.Cells.{Interval, IsIn}
use Rattle.pooma_field.specs.Numbered.{Numbered, number_at}
use Rattle.pooma_layout.specs.Axes.{CutAxis, IsCutAxis}
use Rattle.pooma_layout.specs.Patches.{allocated_boxes, owner_of, total_of}
use Rattle.pooma_store.specs.Gathered.{HasLaws}
use Rattle.pooma_store.specs.Numbering.{layout_at, object_count, object_of, object_at, AreObjects, new_patches}
use Rattle.pooma_store.specs.Standing.{OwnerHas, owner_object, IsGuarded}
use Rattle.pooma_store.proofs.KeptPatches.{objects_more}
use Rattle.pooma_store.proofs.NewArrays.{zeros_of_boxes}
use Rattle.pooma_store.proofs.ObjectNumbers.{length-areas}
use Rattle.pooma_store.proofs.OwnerNumbers.{some_from, object_area, owner_has_cell}

-- there are as many contents as objects
count_objects : (layouts : List (List CutAxis)) (objects : List Numbered) → AreObjects layouts objects → length objects ≡ object_count layouts
count_objects layouts objects are =
    sym (length-map objects (λ (object : Numbered). object.area)) ∙ ap length are.areas ∙ length-areas layouts

-- the objects of the last array come behind those of the others
behind : (layouts : List (List CutAxis)) (objects : List Numbered) (layout : List CutAxis) (p : ℕ) → AreObjects layouts objects → object_of (layouts ++ layout ∷ []) (length layouts) p ≡ length objects + p
behind layouts objects layout p are =
    let front : take (length layouts) (layouts ++ layout ∷ []) ≡ layouts =
    take-append-le (length layouts) layouts (layout ∷ []) (omega arith) ∙ take_all (length layouts) layouts (omega arith) in
    omega (arith, ap object_count front, count_objects layouts objects are)

-- what is behind the others' objects has the number 0 at each cell
zero_behind : (objects : List Numbered) (layout : List CutAxis) (k : ℕ) (c : List ℤ) → length objects ≤ k → k < length (objects ++ new_patches layout) → number_at (object_at (objects ++ new_patches layout) k) c ≡ pos 0
zero_behind objects layout k c after within =
    ap (λ (object : Numbered). number_at object c)
    (get_or-append_right objects (new_patches layout) (length objects) k (record { area = []; numbers = [] }) refl after)
    ∙ zeros_of_boxes (allocated_boxes layout) (k - length objects) (record { area = []; numbers = [] })
    (omega (arith, length-append objects (new_patches layout), within, after)) c

last_layout : (layouts : List (List CutAxis)) (layout : List CutAxis) → layout_at (layouts ++ layout ∷ []) (length layouts) ≡ layout
last_layout layouts layout = get_or-append_seam layouts layout [] []

-- a number of the last array is 0
number_behind : (layouts : List (List CutAxis)) (objects : List Numbered) (layout : List CutAxis) (c : List ℤ) (n : ℤ) → AreObjects layouts objects → OwnerHas (layouts ++ layout ∷ []) (objects ++ new_patches layout) (length layouts) c n → n ≡ pos 0
number_behind layouts objects layout c n are has =
    sym has.number.number
    ∙ zero_behind objects layout (owner_object (layouts ++ layout ∷ []) (length layouts) c) c
    (omega (arith, behind layouts objects layout (owner_of (layout_at (layouts ++ layout ∷ []) (length layouts)) c) are)) has.number.known

pub zero_later : HasLaws → (layouts : List (List CutAxis)) (objects : List Numbered) (layout : List CutAxis) (c : List ℤ) → AreObjects layouts objects → All IsCutAxis layout → IsIn (total_of layout) c → OwnerHas (layouts ++ layout ∷ []) (objects ++ new_patches layout) (length layouts) c (pos 0)
zero_later laws layouts objects layout c are cut inside =
    let last : layout ≡ layout_at (layouts ++ layout ∷ []) (length layouts) = sym (last_layout layouts layout) in
    let has : OwnerHas (layouts ++ layout ∷ []) (objects ++ new_patches layout) (length layouts) c (number_at (object_at (objects ++ new_patches layout) (owner_object (layouts ++ layout ∷ []) (length layouts) c)) c) =
    owner_has_cell laws (layouts ++ layout ∷ []) (objects ++ new_patches layout) (length layouts) c (objects_more layouts objects layout are)
    (subst (All IsCutAxis) last cut)
    (record { known = omega (arith, length-append layouts (layout ∷ [])); inside = subst (λ (l : List CutAxis). IsIn (total_of l) c) last inside }) in
    subst (OwnerHas (layouts ++ layout ∷ []) (objects ++ new_patches layout) (length layouts) c) (number_behind layouts objects layout c _ are has) has

pub guarded_later : (layouts : List (List CutAxis)) (objects : List Numbered) (layout : List CutAxis) → AreObjects layouts objects → IsGuarded (layouts ++ layout ∷ []) (objects ++ new_patches layout) (length layouts)
guarded_later layouts objects layout are p c n allocates has =
    let all : List (List CutAxis) = layouts ++ layout ∷ [] in
    let box : (b : List Interval) × (slice_get (allocated_boxes (layout_at all (length layouts))) p ≡ Some b) × IsIn b c =
    some_from (λ b. IsIn b c) (slice_get (allocated_boxes (layout_at all (length layouts))) p) allocates in
    let there : (object_of all (length layouts) p < length (objects ++ new_patches layout)) × ((object_at (objects ++ new_patches layout) (object_of all (length layouts) p)).area ≡ box.0) =
    object_area all (objects ++ new_patches layout) (length layouts) p box.0 (objects_more layouts objects layout are) has.cell.known box.1 in
    record {
      known = there.0;
      inside = subst (λ (b : List Interval). IsIn b c) (sym there.1) box.2;
      number = zero_behind objects layout (object_of all (length layouts) p) c (omega (arith, behind layouts objects layout p are)) there.0
          ∙ sym (number_behind layouts objects layout c n are has);
    }
