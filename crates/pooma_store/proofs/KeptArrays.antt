-- The arrays of a store, as they are kept.
use Rattle.std.proofs.Common.{sym, ap, ◌∙◌, ⊎_elim, subst, arith, length-append}
use Rattle.std.proofs.lemmas.Bool.{cases_lt}
use Rattle.std.proofs.lemmas.List.{length-map, map-append, get_or-map, get_or_default, get_or_append_left, get_or_at, take-append-le}
use Rattle.std.proofs.Math.Seq.{take-length}
use Rattle.std.proofs.lemmas.List.Sums.{sum_by-le, sum_by_more_le, sum_by_push}
use Rattle.std.specs.Prelude.{◌≡◌, ℕ, ◌+◌, ◌*◌, ◌<◌, ◌≤◌, None, List, [], ◌∷◌, ◌++◌, length, slice_index_or, take, All}
use Rattle.pooma_field.specs.Shapes.{Shaped, IsShape}
use Rattle.pooma_field.specs.ShapeOf.{shape_of}
use Rattle.pooma_layout.specs.Axes.{CutAxis}
use Rattle.pooma_layout.specs.Patches.{IsLayout}
use Rattle.pooma_store.specs.declared.arrays.Array.{Array}
use Rattle.pooma_store.specs.Arrayed.{Arrayed, shapes_of, layouts_of, firsts_of, AreFirsts}
use Rattle.pooma_store.specs.Numbering.{layout_at, patch_count, object_count, object_of}
use Rattle.pooma_store.specs.Standing.{shape_at}
use Rattle.pooma_store.specs.Stored.{AreArrays, Fits}

pub few_objects : (shapes : List Shaped) (layouts : List (List CutAxis)) → AreArrays shapes layouts → object_count layouts ≤ 131072
few_objects shapes layouts arrays =
    let most : object_count layouts ≤ length layouts * 256 = sum_by-le patch_count 256 layouts few in
    omega (arith, most, arrays.few)
  where
    few : All (λ layout. patch_count layout ≤ 256) layouts
    few k d below =
        subst (λ (layout : List CutAxis). patch_count layout ≤ 256) (get_or_default layouts k [] d below) (arrays.cut k below).few_patches

pub layout_kept : (arrays : List Array) (k : ℕ) (array : Array) → k < length arrays → array ≡ slice_index_or arrays k array → AreArrays (shapes_of arrays) (layouts_of arrays) → IsLayout array.layout
layout_kept arrays k array below is are =
    subst IsLayout
    (get_or-map (λ (a : Array). a.layout) arrays k array [] below ∙ ap (λ (a : Array). a.layout) (sym is))
    (are.cut k (omega (arith, below, length-map arrays (λ (a : Array). a.layout))))

pub array_there : (arrays : List Array) (all : Arrayed) (k : ℕ) → record { shapes = shapes_of arrays; layouts = layouts_of arrays } ≡ all → k < length all.layouts → k < length arrays
array_there arrays all k is known =
    let below : k < length (layouts_of arrays) = subst (λ (a : Arrayed). k < length a.layouts) (sym is) known in
    omega (arith, below, length-map arrays (λ (a : Array). a.layout))

pub first_kept : (arrays : List Array) (k : ℕ) (array : Array) → k < length arrays → array ≡ slice_index_or arrays k array → AreFirsts (layouts_of arrays) (firsts_of arrays) → array.first ≡ object_count (take k (layouts_of arrays))
first_kept arrays k array below is firsts =
    ap (λ (a : Array). a.first) is
    ∙ sym (get_or-map (λ (a : Array). a.first) arrays k array 0 below)
    ∙ firsts k (omega (arith, below, length-map arrays (λ (a : Array). a.layout)))

-- one array more
pub arrays_more : (shapes : List Shaped) (layouts : List (List CutAxis)) (shape : Shaped) (layout : List CutAxis) → AreArrays shapes layouts → length layouts < 512 → Fits shape layout → IsShape shape → IsLayout layout → AreArrays (shapes ++ shape ∷ []) (layouts ++ layout ∷ [])
arrays_more shapes layouts shape layout arrays few fits shaped cut = record {
  both = omega (arith, arrays.both, length-append shapes (shape ∷ []), length-append layouts (layout ∷ []));
  few = omega (arith, few, length-append layouts (layout ∷ []));
  fitting = λ k below. ⊎_elim
      (λ before. subst (λ (l : List CutAxis). Fits (shape_at (shapes ++ shape ∷ []) k) l) (sym (layout_before k before))
      (subst (λ (s : Shaped). Fits s (layout_at layouts k)) (sym (shape_before k before)) (arrays.fitting k before)))
      (λ after. subst (λ (l : List CutAxis). Fits (shape_at (shapes ++ shape ∷ []) k) l) (sym (layout_last k after below))
      (subst (λ (s : Shaped). Fits s layout) (sym (shape_last k after below)) fits))
      (cases_lt k (length layouts));
  shaped = λ k below. ⊎_elim
      (λ before. subst IsShape (sym (shape_before k before)) (arrays.shaped k before))
      (λ after. subst IsShape (sym (shape_last k after below)) shaped)
      (cases_lt k (length layouts));
  cut = λ k below. ⊎_elim
      (λ before. subst IsLayout (sym (layout_before k before)) (arrays.cut k before))
      (λ after. subst IsLayout (sym (layout_last k after below)) cut)
      (cases_lt k (length layouts));
}
  where
    layout_before : (k : ℕ) → k < length layouts → layout_at (layouts ++ layout ∷ []) k ≡ layout_at layouts k
    layout_before k before = get_or_append_left layouts (layout ∷ []) [] k before

    shape_before : (k : ℕ) → k < length layouts → shape_at (shapes ++ shape ∷ []) k ≡ shape_at shapes k
    shape_before k before =
        get_or_append_left shapes (shape ∷ []) (record { physical = []; total = []; faces = None }) k (omega (arith, before, arrays.both))

    last_place : (k : ℕ) → length layouts ≤ k → k < length (layouts ++ layout ∷ []) → length layouts ≡ k
    last_place k after below = omega (arith, after, below, length-append layouts (layout ∷ []))

    layout_last : (k : ℕ) → length layouts ≤ k → k < length (layouts ++ layout ∷ []) → layout_at (layouts ++ layout ∷ []) k ≡ layout
    layout_last k after below = get_or_at layouts layout [] [] k (last_place k after below)

    shape_last : (k : ℕ) → length layouts ≤ k → k < length (layouts ++ layout ∷ []) → shape_at (shapes ++ shape ∷ []) k ≡ shape
    shape_last k after below =
        get_or_at shapes shape [] (record { physical = []; total = []; faces = None }) k (omega (arith, arrays.both, last_place k after below))

pub count_pushed : (layouts : List (List CutAxis)) (layout : List CutAxis) → object_count (layouts ++ layout ∷ []) ≡ object_count layouts + patch_count layout
count_pushed layouts layout = sum_by_push patch_count layouts layout

pub firsts_more : (layouts : List (List CutAxis)) (firsts : List ℕ) (layout : List CutAxis) (first : ℕ) → length firsts ≡ length layouts → first ≡ object_count layouts → AreFirsts layouts firsts → AreFirsts (layouts ++ layout ∷ []) (firsts ++ first ∷ [])
firsts_more layouts firsts layout first same is are k below =
    ⊎_elim
    (λ before. get_or_append_left firsts (first ∷ []) 0 k (omega (arith, before, same)) ∙ are k before
    ∙ ap object_count (sym (take-append-le k layouts (layout ∷ []) (omega (arith, before)))))
    (λ after.
    let place : length layouts ≡ k = omega (arith, after, below, length-append layouts (layout ∷ [])) in
    get_or_at firsts first [] 0 k (omega (arith, same, place))
    ∙ is
    ∙ ap object_count (sym (take-append-le k layouts (layout ∷ []) (omega (arith, place)) ∙ ap (λ (n : ℕ). take n layouts) (sym place) ∙ take-length layouts)))
    (cases_lt k (length layouts))

-- the first object of the array that is kept at this place
pub first_object : (arrays : List Array) (k : ℕ) (array : Array) → k < length arrays → array ≡ slice_index_or arrays k array → AreArrays (shapes_of arrays) (layouts_of arrays) → AreFirsts (layouts_of arrays) (firsts_of arrays) → (array.first ≡ object_of (layouts_of arrays) k 0) × (array.first + patch_count (layout_at (layouts_of arrays) k) ≤ object_count (layouts_of arrays)) × (object_count (layouts_of arrays) ≤ 131072)
first_object arrays k array below is are firsts =
    let value : array.first ≡ object_count (take k (layouts_of arrays)) = first_kept arrays k array below is firsts in
    let room : object_count (take k (layouts_of arrays)) + patch_count (layout_at (layouts_of arrays) k) ≤ object_count (layouts_of arrays) =
    sum_by_more_le patch_count (layouts_of arrays) k [] (omega (arith, below, length-map arrays (λ (a : Array). a.layout))) in
    (omega (arith, value), omega (arith, value, room), few_objects (shapes_of arrays) (layouts_of arrays) are)

-- what is kept of the arrays with a new one
pub array_pushed : (arrays items : List Array) (new : Array) (objects : ℕ) → items ≡ arrays ++ new ∷ [] → AreArrays (shapes_of arrays) (layouts_of arrays) → AreFirsts (layouts_of arrays) (firsts_of arrays) → objects ≡ object_count (layouts_of arrays) → new.first ≡ objects → length (layouts_of arrays) < 512 → Fits (shape_of new.shape) new.layout → IsShape (shape_of new.shape) → IsLayout new.layout → AreArrays (shapes_of items) (layouts_of items) × AreFirsts (layouts_of items) (firsts_of items) × (objects + patch_count new.layout ≡ object_count (layouts_of items))
array_pushed arrays items new objects is are firsts count first few fits shaped cut =
    let shapes : shapes_of items ≡ shapes_of arrays ++ shape_of new.shape ∷ [] =
    ap shapes_of is ∙ map-append (λ (a : Array). shape_of a.shape) arrays (new ∷ []) in
    let layouts : layouts_of items ≡ layouts_of arrays ++ new.layout ∷ [] =
    ap layouts_of is ∙ map-append (λ (a : Array). a.layout) arrays (new ∷ []) in
    let numbers : firsts_of items ≡ firsts_of arrays ++ new.first ∷ [] =
    ap firsts_of is ∙ map-append (λ (a : Array). a.first) arrays (new ∷ []) in
    let lengths : length (firsts_of arrays) ≡ length (layouts_of arrays) =
    length-map arrays (λ (a : Array). a.first) ∙ sym (length-map arrays (λ (a : Array). a.layout)) in (
      subst (λ (ls : List (List CutAxis)). AreArrays (shapes_of items) ls) (sym layouts)
          (subst (λ (ss : List Shaped). AreArrays ss (layouts_of arrays ++ new.layout ∷ [])) (sym shapes)
          (arrays_more (shapes_of arrays) (layouts_of arrays) (shape_of new.shape) new.layout are few fits shaped cut)),
      subst (λ (ls : List (List CutAxis)). AreFirsts ls (firsts_of items)) (sym layouts)
          (subst (AreFirsts (layouts_of arrays ++ new.layout ∷ [])) (sym numbers)
          (firsts_more (layouts_of arrays) (firsts_of arrays) new.layout new.first lengths (first ∙ count) firsts)),
      ap (λ (n : ℕ). n + patch_count new.layout) count ∙ sym (count_pushed (layouts_of arrays) new.layout) ∙ ap object_count (sym layouts),
    )
