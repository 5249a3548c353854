-- The patches of a store, and what contracts see of them.
use Rattle.std.proofs.Common.{sym, ap, ◌∙◌, subst, arith, append-nil}
use Rattle.std.proofs.lemmas.Grind.{flat_map-append}
use Rattle.std.proofs.lemmas.List.{length-map, map-append, get_or-map, take_more}
use Rattle.std.proofs.lemmas.List.Elements.{All-append}
use Rattle.std.proofs.lemmas.Option.{slice_get_within, get_or_from_slice_get}
use Rattle.std.proofs.Math.Seq.{map-set_same}
use Rattle.std.specs.Arc.{arc_value}
use Rattle.std.specs.Prelude.{◌≡◌, ℕ, zero, suc, ◌+◌, ◌<◌, ℤ, false, Some, List, [], ◌∷◌, ◌++◌, length, map, slice_get, slice_index_or, slice_set, take, All}
use Rattle.std.specs.declared.alloc.Global.{Global}
use Rattle.std.specs.declared.sync.Arc.{Arc}
use Rattle.pooma_domain.specs.Cells.{Interval, IsIn}
use Rattle.pooma_field.specs.Numbered.{Numbered, number_at, IsFull}
use Rattle.pooma_layout.specs.Axes.{CutAxis}
use Rattle.pooma_layout.specs.Patches.{allocated_boxes, owner_of, IsLayout}
use Rattle.pooma_patch.specs.Patched.{Patched}
use Rattle.pooma_store.specs.Numbering.{layout_at, object_of, object_at, areas_of, zeros_over, new_patches, AreObjects}
use Rattle.pooma_store.specs.Standing.{HasTotal, owner_object, HasNumber, OwnerHas}
use Rattle.pooma_store.specs.Stored.{Stored, contents_of}
use Rattle.pooma_store.proofs.NewArrays.{boxes_stay, full_zeros}

-- the patch of an object
pub patch_there : (layouts : List (List CutAxis)) (patches : List (Arc Patched Global)) (array p k : ℕ) (c : List ℤ) (n : ℤ) → OwnerHas layouts (contents_of patches) array c n → p ≡ owner_of (layout_at layouts array) c → k ≡ object_of layouts array p → k < length patches
patch_there layouts patches array p k c n has owner object =
    omega (arith, has.number.known, ap (object_of layouts array) owner, object, length-map patches (λ (arc : Arc Patched Global). (arc_value arc).content))

pub content_at : (patches : List (Arc Patched Global)) (k : ℕ) (arc : Arc Patched Global) → k < length patches → arc ≡ slice_index_or patches k arc → object_at (contents_of patches) k ≡ (arc_value arc).content
content_at patches k arc below is =
    get_or-map (λ (a : Arc Patched Global). (arc_value a).content) patches k arc (record { area = []; numbers = [] }) below
    ∙ ap (λ (a : Arc Patched Global). (arc_value a).content) (sym is)

-- what the owner's patch has, as that patch says it
pub owner_says : (layouts : List (List CutAxis)) (patches : List (Arc Patched Global)) (array p k : ℕ) (c : List ℤ) (n : ℤ) (arc : Arc Patched Global) → OwnerHas layouts (contents_of patches) array c n → p ≡ owner_of (layout_at layouts array) c → k ≡ object_of layouts array p → arc ≡ slice_index_or patches k arc → IsIn (arc_value arc).content.area c × (number_at (arc_value arc).content c ≡ n)
owner_says layouts patches array p k c n arc has owner object is =
    let place : owner_object layouts array c ≡ k = sym (object ∙ ap (object_of layouts array) owner) in
    let number : HasNumber (contents_of patches) k c n = subst (λ (j : ℕ). HasNumber (contents_of patches) j c n) place has.number in
    let same : object_at (contents_of patches) k ≡ (arc_value arc).content =
    content_at patches k arc (patch_there layouts patches array p k c n has owner object) is in
    (subst (λ (a : Numbered). IsIn a.area c) same number.inside, ap (λ (a : Numbered). number_at a c) (sym same) ∙ number.number)

-- one more new patch
pub made_more : (made : List (Arc Patched Global)) (arc : Arc Patched Global) (layout : List CutAxis) (p : ℕ) (box : List Interval) → contents_of made ≡ take p (new_patches layout) → slice_get (allocated_boxes layout) p ≡ Some box → (arc_value arc).content ≡ zeros_over box → contents_of (made ++ arc ∷ []) ≡ take (p + 1) (new_patches layout)
made_more made arc layout p box so_far at is =
    let below : p < length (allocated_boxes layout) = slice_get_within (allocated_boxes layout) p box at in
    let next : slice_index_or (new_patches layout) p (zeros_over box) ≡ zeros_over box =
    get_or-map zeros_over (allocated_boxes layout) p box (zeros_over box) below
    ∙ ap zeros_over (get_or_from_slice_get (allocated_boxes layout) p box box at) in
    map-append (λ (a : Arc Patched Global). (arc_value a).content) made (arc ∷ [])
    ∙ ap (λ (front : List Numbered). front ++ (arc_value arc).content ∷ []) so_far
    ∙ ap (λ (a : Numbered). take p (new_patches layout) ++ a ∷ []) (is ∙ sym next)
    ∙ sym (take_more (new_patches layout) p (zeros_over box) (omega (arith, below, length-map (allocated_boxes layout) zeros_over)))

-- the objects with those of a new array
pub objects_more : (layouts : List (List CutAxis)) (objects : List Numbered) (layout : List CutAxis) → AreObjects layouts objects → AreObjects (layouts ++ layout ∷ []) (objects ++ new_patches layout)
objects_more layouts objects layout are = record {
  areas = map-append (λ (object : Numbered). object.area) objects (new_patches layout)
      ∙ ap (λ (front : List (List Interval)). front ++ map (λ (object : Numbered). object.area) (new_patches layout)) are.areas
      ∙ ap (λ (rest : List (List Interval)). areas_of layouts ++ rest) (boxes_stay (allocated_boxes layout) ∙ sym (append-nil (allocated_boxes layout)))
      ∙ sym (flat_map-append allocated_boxes layouts (layout ∷ []));
  full = All-append IsFull objects (new_patches layout) are.full (full_zeros (allocated_boxes layout));
}

-- the same of patches, of which the last are those of the new array
pub patches_more : (layouts : List (List CutAxis)) (patches more items : List (Arc Patched Global)) (layout : List CutAxis) → items ≡ patches ++ more → contents_of more ≡ new_patches layout → AreObjects layouts (contents_of patches) → AreObjects (layouts ++ layout ∷ []) (contents_of items)
patches_more layouts patches more items layout is new are =
    subst (AreObjects (layouts ++ layout ∷ []))
    (sym (ap contents_of is ∙ map-append (λ (a : Arc Patched Global). (arc_value a).content) patches more
    ∙ ap (λ (rest : List Numbered). contents_of patches ++ rest) new))
    (objects_more layouts (contents_of patches) layout are)

-- a patch of the same content in place of another
pub contents_stay : (patches : List (Arc Patched Global)) (k : ℕ) (old new : Arc Patched Global) → (arc_value new).content ≡ (arc_value (slice_index_or patches k old)).content → contents_of (slice_set patches k new) ≡ contents_of patches
contents_stay patches k old new same =
    map-set_same (λ (a : Arc Patched Global). (arc_value a).content) patches k new old same

-- one more patch that has a number for each cell
pub full_more : (patches : List (Arc Patched Global)) (k : ℕ) (old new : Arc Patched Global) → k < length patches → (arc_value new).content ≡ (arc_value (slice_index_or patches k old)).content → IsFull (arc_value new).content → All IsFull (take k (contents_of patches)) → All IsFull (take (k + 1) (contents_of (slice_set patches k new)))
full_more patches k old new below same full so_far =
    let at : slice_index_or (contents_of patches) k (arc_value new).content ≡ (arc_value new).content =
    get_or-map (λ (a : Arc Patched Global). (arc_value a).content) patches k old (arc_value new).content below ∙ sym same in
    let front : take (k + 1) (contents_of (slice_set patches k new)) ≡ take k (contents_of patches) ++ (arc_value new).content ∷ [] =
    ap (take (k + 1)) (contents_stay patches k old new same)
    ∙ take_more (contents_of patches) k (arc_value new).content (omega (arith, below, length-map patches (λ (a : Arc Patched Global). (arc_value a).content)))
    ∙ ap (λ (a : Numbered). take k (contents_of patches) ++ a ∷ []) at in
    subst (All IsFull) (sym front) (All-append IsFull (take k (contents_of patches)) ((arc_value new).content ∷ []) so_far one)
  where
    one : All IsFull ((arc_value new).content ∷ [])
    one zero d h = full
    one (suc j) d h = absurd (omega (arith, h))

-- a cell of a store whose patches are here has a number in the patch that owns it
pub number_found : ((layouts : List (List CutAxis)) (objects : List Numbered) (array : ℕ) (c : List ℤ) → AreObjects layouts objects → IsLayout (layout_at layouts array) → HasTotal layouts array c → (n : ℤ) × OwnerHas layouts objects array c n) → (kept store : Stored) (array : ℕ) (c : List ℤ) (layout : List CutAxis) → kept ≡ store → (kept.lent ≡ false → AreObjects kept.layouts kept.objects) → store.lent ≡ false → layout ≡ layout_at kept.layouts array → IsLayout layout → HasTotal store.layouts array c → (n : ℤ) × OwnerHas kept.layouts kept.objects array c n
number_found some kept store array c layout same are home is cut total =
    some kept.layouts kept.objects array c (are (ap (λ (s : Stored). s.lent) same ∙ home)) (subst IsLayout is cut)
    (subst (λ (s : Stored). HasTotal s.layouts array c) (sym same) total)
