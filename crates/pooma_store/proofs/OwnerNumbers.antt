-- The number that a cell has in the patch that owns it, and what it is after one object was changed.
use Rattle.std.proofs.Common.{refl, sym, ap, ◌∙◌, ⊎_elim, inl, inr, subst, arith, length-set}
use Rattle.std.proofs.lemmas.Bool.{cases_lt, false≢true}
use Rattle.std.proofs.lemmas.List.{length-map, map-set, set_past, set-get_or, get_or-map, get_or-set_same, get_or-set_other}
use Rattle.std.proofs.lemmas.List.Elements.{All-set}
use Rattle.std.proofs.lemmas.Option.{slice_get-map, slice_get_within, get_or_from_slice_get}
use Rattle.std.specs.Cmp.Rules.{signed_items}
use Rattle.std.specs.Prelude.{◌≡◌, ◌≢◌, ◌⊎◌, ℕ, ◌<◌, ℤ, Bool, true, false, Option, Some, None, option_map, List, [], ◌∷◌, length, map, slice_get, slice_set, All, IsSomeAnd}
use Rattle.pooma_domain.specs.Cells.{Interval, IsIn}
use Rattle.pooma_field.specs.Numbered.{Numbered, Change, is_same_cell, number_at, with_number, with_changes, IsFull}
use Rattle.pooma_layout.specs.Axes.{CutAxis, IsCutAxis}
use Rattle.pooma_layout.specs.Patches.{owned_boxes, allocated_of, allocated_boxes, total_of, owner_of}
use Rattle.pooma_store.specs.Gathered.{HasLaws}
use Rattle.pooma_store.specs.Numbering.{layout_at, patch_count, object_count, object_of, areas_of, object_at, AreObjects}
use Rattle.pooma_store.specs.Standing.{HasTotal, owner_object, HasNumber, OwnerHas, Allocates}
use Rattle.pooma_store.proofs.ObjectNumbers.{length-allocated, length-areas, objects_apart, area_at}

pub some_from : {A : Type 0} (P : A → Type 0) (o : Option A) → IsSomeAnd o P → (x : A) × (o ≡ Some x) × P x
some_from P None h = absurd h
some_from P (Some x) h = (x, refl, h)

pub same_cell : (c d : List ℤ) → (c ≡ d) ⊎ (c ≢ d)
same_cell c d = by_test (is_same_cell c d) refl
  where
    by_test : (b : Bool) → is_same_cell c d ≡ b → (c ≡ d) ⊎ (c ≢ d)
    by_test true e = inl ((signed_items c d).0 e)
    by_test false e = inr (λ same. false≢true (sym e ∙ (signed_items c d).1 same))

pub objects_counted : (layouts : List (List CutAxis)) (objects : List Numbered) → AreObjects layouts objects → length objects ≡ object_count layouts
objects_counted layouts objects are =
    sym (length-map objects (λ object. object.area)) ∙ ap (λ (boxes : List (List Interval)). length boxes) are.areas ∙ length-areas layouts

-- an object has the box that its patch allocates
pub object_area : (layouts : List (List CutAxis)) (objects : List Numbered) (array p : ℕ) (box : List Interval) → AreObjects layouts objects → array < length layouts → slice_get (allocated_boxes (layout_at layouts array)) p ≡ Some box → (object_of layouts array p < length objects) × ((object_at objects (object_of layouts array p)).area ≡ box)
object_area layouts objects array p box are known at =
    let stands : slice_get (areas_of layouts) (object_of layouts array p) ≡ Some box = area_at layouts array p box known at in
    let within : object_of layouts array p < length objects =
    omega (arith, slice_get_within (areas_of layouts) (object_of layouts array p) box stands, length-areas layouts, objects_counted layouts objects are) in
    let same : slice_get (map (λ (object : Numbered). object.area) objects) (object_of layouts array p) ≡ Some box =
    ap (λ (boxes : List (List Interval)). slice_get boxes (object_of layouts array p)) are.areas ∙ stands in (
      within,
      sym (get_or-map (λ (object : Numbered). object.area) objects (object_of layouts array p) (record { area = []; numbers = [] }) box within)
          ∙ get_or_from_slice_get (map (λ (object : Numbered). object.area) objects) (object_of layouts array p) box box same,
    )

-- a cell's owner is a patch of the array, and has the cell
pub owner_there : HasLaws → (layout : List CutAxis) (c : List ℤ) → IsIn (total_of layout) c → owner_of layout c < patch_count layout
owner_there laws layout c inside =
    let box : (b : List Interval) × (slice_get (owned_boxes layout) (owner_of layout c) ≡ Some b) × IsIn b c =
    some_from (λ b. IsIn b c) (slice_get (owned_boxes layout) (owner_of layout c)) (laws.owners.owned layout c inside) in
    slice_get_within (owned_boxes layout) (owner_of layout c) box.0 box.1

pub owner_has_cell : HasLaws → (layouts : List (List CutAxis)) (objects : List Numbered) (array : ℕ) (c : List ℤ) → AreObjects layouts objects → All IsCutAxis (layout_at layouts array) → HasTotal layouts array c → OwnerHas layouts objects array c (number_at (object_at objects (owner_object layouts array c)) c)
owner_has_cell laws layouts objects array c are cut total =
    let layout : List CutAxis = layout_at layouts array in
    let box : (b : List Interval) × (slice_get (owned_boxes layout) (owner_of layout c) ≡ Some b) × IsIn b c =
    some_from (λ b. IsIn b c) (slice_get (owned_boxes layout) (owner_of layout c)) (laws.owners.owned layout c total.inside) in
    let allocated : slice_get (allocated_boxes layout) (owner_of layout c) ≡ Some (allocated_of layout box.0) =
    slice_get-map (allocated_of layout) (owned_boxes layout) (owner_of layout c) ∙ ap (option_map (allocated_of layout)) box.1 in
    let there : (owner_object layouts array c < length objects) × ((object_at objects (owner_object layouts array c)).area ≡ allocated_of layout box.0) =
    object_area layouts objects array (owner_of layout c) (allocated_of layout box.0) are total.known allocated in
    record {
      cell = total;
      number = record {
        known = there.0;
        inside = subst (λ (b : List Interval). IsIn b c) (sym there.1) (laws.own layout (owner_of layout c) box.0 c cut box.1 box.2);
        number = refl;
      };
    }

pub one_number : (layouts : List (List CutAxis)) (objects : List Numbered) (array : ℕ) (c : List ℤ) (n m : ℤ) → OwnerHas layouts objects array c n → OwnerHas layouts objects array c m → n ≡ m
one_number layouts objects array c n m a b = sym a.number.number ∙ b.number.number

-- another content over the same box in place of an object's
pub still_objects : (layouts : List (List CutAxis)) (objects : List Numbered) (k : ℕ) (new : Numbered) → AreObjects layouts objects → new.area ≡ (object_at objects k).area → IsFull new → AreObjects layouts (slice_set objects k new)
still_objects layouts objects k new are area full = record {
  areas = map-set (λ (object : Numbered). object.area) objects k new ∙ same_boxes ∙ are.areas;
  full = All-set IsFull objects k new full are.full;
}
  where
    same_boxes : slice_set (map (λ (object : Numbered). object.area) objects) k new.area ≡ map (λ (object : Numbered). object.area) objects
    same_boxes =
        ⊎_elim
        (λ below. ap (slice_set (map (λ (object : Numbered). object.area) objects) k)
        (area ∙ sym (get_or-map (λ (object : Numbered). object.area) objects k (record { area = []; numbers = [] }) [] below))
        ∙ set-get_or (map (λ (object : Numbered). object.area) objects) k [])
        (λ past. set_past (map (λ (object : Numbered). object.area) objects) k new.area (omega (arith, past, length-map objects (λ (object : Numbered). object.area))))
        (cases_lt k (length objects))

pub full_at : (objects : List Numbered) (k : ℕ) → All IsFull objects → k < length objects → IsFull (object_at objects k)
full_at objects k full below = full k (record { area = []; numbers = [] }) below

pub other_object_stays : (objects : List Numbered) (j k : ℕ) (new : Numbered) (c : List ℤ) (n : ℤ) → j ≢ k → HasNumber objects j c n → HasNumber (slice_set objects k new) j c n
other_object_stays objects j k new c n apart has =
    let same : object_at (slice_set objects k new) j ≡ object_at objects j = get_or-set_other objects k j new (record { area = []; numbers = [] }) apart in
    record {
      known = omega (arith, has.known, length-set objects k new);
      inside = subst (λ (a : Numbered). IsIn a.area c) (sym same) has.inside;
      number = ap (λ (a : Numbered). number_at a c) same ∙ has.number;
    }

pub other_object_was : (objects : List Numbered) (j k : ℕ) (new : Numbered) (c : List ℤ) (n : ℤ) → j ≢ k → HasNumber (slice_set objects k new) j c n → HasNumber objects j c n
other_object_was objects j k new c n apart has =
    let same : object_at (slice_set objects k new) j ≡ object_at objects j = get_or-set_other objects k j new (record { area = []; numbers = [] }) apart in
    record {
      known = omega (arith, has.known, length-set objects k new);
      inside = subst (λ (a : Numbered). IsIn a.area c) same has.inside;
      number = ap (λ (a : Numbered). number_at a c) (sym same) ∙ has.number;
    }

pub changed_object_has : (objects : List Numbered) (k : ℕ) (new : Numbered) (c : List ℤ) (n : ℤ) → k < length objects → IsIn new.area c → number_at new c ≡ n → HasNumber (slice_set objects k new) k c n
changed_object_has objects k new c n known inside number =
    let same : object_at (slice_set objects k new) k ≡ new = get_or-set_same objects k new (record { area = []; numbers = [] }) known in
    record {
      known = omega (arith, known, length-set objects k new);
      inside = subst (λ (a : Numbered). IsIn a.area c) (sym same) inside;
      number = ap (λ (a : Numbered). number_at a c) same ∙ number;
    }

-- a patch that allocates a cell is a patch of the array
pub patch_allocates : (layout : List CutAxis) (p : ℕ) (c : List ℤ) → Allocates layout p c → p < patch_count layout
patch_allocates layout p c allocates =
    let box : (b : List Interval) × (slice_get (allocated_boxes layout) p ≡ Some b) × IsIn b c =
    some_from (λ b. IsIn b c) (slice_get (allocated_boxes layout) p) allocates in
    omega (arith, slice_get_within (allocated_boxes layout) p box.0 box.1, length-allocated layout)

-- the owner of a cell is another patch than this one
pub other_owner : HasLaws → (layouts : List (List CutAxis)) (array other p : ℕ) (c : List ℤ) → array < length layouts → p < patch_count (layout_at layouts array) → HasTotal layouts other c → ((array ≡ other) → p ≢ owner_of (layout_at layouts other) c) → owner_object layouts other c ≢ object_of layouts array p
other_owner laws layouts array other p c known below total apart same =
    let both : (array ≡ other) × (p ≡ owner_of (layout_at layouts other) c) =
    objects_apart layouts array other p (owner_of (layout_at layouts other) c) known total.known below (owner_there laws (layout_at layouts other) c total.inside) (sym same) in
    apart both.0 both.1

-- where two boxes of numbers have the same number at a cell, they have after the same changes
pub same_after : HasLaws → (a b : Numbered) (changes : List Change) (c : List ℤ) → IsFull a → IsFull b → IsIn a.area c → IsIn b.area c → number_at a c ≡ number_at b c → number_at (with_changes a changes) c ≡ number_at (with_changes b changes) c
same_after laws a b [] c full_a full_b in_a in_b same = same
same_after laws a b (change ∷ changes) c full_a full_b in_a in_b same =
    same_after laws (with_number a change.cell change.number) (with_number b change.cell change.number) changes c
    (laws.full a (change ∷ []) full_a) (laws.full b (change ∷ []) full_b) in_a in_b
    (⊎_elim
    (λ here. subst (λ (d : List ℤ). number_at (with_number a d change.number) c ≡ number_at (with_number b d change.number) c) here
    (laws.set a c change.number full_a in_a ∙ sym (laws.set b c change.number full_b in_b)))
    (λ elsewhere. laws.kept a change.cell c change.number full_a elsewhere ∙ same ∙ sym (laws.kept b change.cell c change.number full_b elsewhere))
    (same_cell c change.cell))
