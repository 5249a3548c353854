-- What objects stand for after one of them was changed.
use Rattle.std.proofs.Common.{sym, ap, ◌∙◌, ⊎_elim, subst, arith, length-set}
use Rattle.std.proofs.lemmas.Bool.{cases_eq}
use Rattle.std.specs.Prelude.{◌≡◌, ◌≢◌, ℕ, ◌<◌, ℤ, Some, List, length, slice_get, slice_set, All}
use Rattle.pooma_domain.specs.Cells.{Interval, IsIn}
use Rattle.pooma_field.specs.Look.{look}
use Rattle.pooma_field.specs.Numbered.{Numbered, Change, number_at, with_changes, IsFull}
use Rattle.pooma_field.specs.Shapes.{Shaped}
use Rattle.pooma_field.specs.Worlds.{World, array_of, number_of, changed, look_in, HasCell}
use Rattle.pooma_layout.specs.Axes.{CutAxis, IsCutAxis}
use Rattle.pooma_layout.specs.Patches.{owner_of, Owns}
use Rattle.pooma_store.specs.Gathered.{HasLaws}
use Rattle.pooma_store.specs.Numbering.{layout_at, patch_count, object_of, object_at, changed_at, AreObjects, EachCell, HasPatch}
use Rattle.pooma_store.specs.Standing.{HasTotal, owner_object, HasNumber, OwnerHas, StandsFor, shape_at, IsFresh, IsGuarded}
use Rattle.pooma_store.proofs.ObjectNumbers.{object_there, objects_apart}
use Rattle.pooma_store.proofs.OwnerNumbers.{objects_counted, owner_has_cell, full_at, other_object_stays, other_object_was, changed_object_has, other_owner, patch_allocates, same_after}

-- a patch of an array whose object is to be changed
pub record IsPatch (layouts : List (List CutAxis)) (objects : List Numbered) (array p : ℕ) : Type 0 where
  pub are : AreObjects layouts objects
  pub known : array < length layouts
  pub cut : All IsCutAxis (layout_at layouts array)
  pub below : p < patch_count (layout_at layouts array)

pub patch_from : {layouts : List (List CutAxis)} {objects : List Numbered} {array p : ℕ} → AreObjects layouts objects → HasPatch layouts array p → IsPatch layouts objects array p
patch_from are patch = record { are = are; known = patch.known; cut = patch.cut.axes; below = patch.within }

patch_there : (layouts : List (List CutAxis)) (objects : List Numbered) (array p : ℕ) → IsPatch layouts objects array p → object_of layouts array p < length objects
patch_there layouts objects array p patch =
    omega (arith, object_there layouts array p patch.known patch.below, objects_counted layouts objects patch.are)

-- another object's number at a cell that it owns stays
pub elsewhere_stays : HasLaws → (layouts : List (List CutAxis)) (objects : List Numbered) (array p other : ℕ) (new : Numbered) (c : List ℤ) (n : ℤ) → array < length layouts → p < patch_count (layout_at layouts array) → (array ≡ other → p ≢ owner_of (layout_at layouts other) c) → OwnerHas layouts objects other c n → OwnerHas layouts (slice_set objects (object_of layouts array p) new) other c n
elsewhere_stays laws layouts objects array p other new c n known below apart has = record {
  cell = has.cell;
  number = other_object_stays objects (owner_object layouts other c) (object_of layouts array p) new c n
      (other_owner laws layouts array other p c known below has.cell apart) has.number;
}

-- a cell that the patch owns has its new number
pub owned_changes : HasLaws → (layouts : List (List CutAxis)) (objects : List Numbered) (array p : ℕ) (new : Numbered) (c : List ℤ) (old n : ℤ) → IsPatch layouts objects array p → new.area ≡ (object_at objects (object_of layouts array p)).area → p ≡ owner_of (layout_at layouts array) c → OwnerHas layouts objects array c old → number_at new c ≡ n → OwnerHas layouts (slice_set objects (object_of layouts array p) new) array c n
owned_changes laws layouts objects array p new c old n patch area owns has number =
    let there : IsIn (object_at objects (object_of layouts array p)).area c =
    subst (λ (q : ℕ). IsIn (object_at objects (object_of layouts array q)).area c) (sym owns) has.number.inside in
    record {
      cell = has.cell;
      number = subst (λ (q : ℕ). HasNumber (slice_set objects (object_of layouts array p) new) (object_of layouts array q) c n) owns
          (changed_object_has objects (object_of layouts array p) new c n (patch_there layouts objects array p patch)
          (subst (λ (box : List Interval). IsIn box c) (sym area) there) number);
    }

-- the numbers of a world where one object and the world were changed alike
pub record GoAlong (world next : World) (layout : List CutAxis) (array p : ℕ) (new : Numbered) : Type 0 where
  pub cells : (a : ℕ) (c : List ℤ) → HasCell next a c → HasCell world a c
  pub others : (a : ℕ) (c : List ℤ) → a ≢ array → number_of next a c ≡ number_of world a c
  pub own : (c : List ℤ) → HasCell world array c → p ≡ owner_of layout c → number_at new c ≡ number_of next array c
  pub foreign : (c : List ℤ) → HasCell world array c → p ≢ owner_of layout c → number_of next array c ≡ number_of world array c

pub stands_along : HasLaws → (layouts : List (List CutAxis)) (objects : List Numbered) (world next : World) (array p : ℕ) (new : Numbered) → IsPatch layouts objects array p → new.area ≡ (object_at objects (object_of layouts array p)).area → StandsFor layouts objects world → GoAlong world next (layout_at layouts array) array p new → StandsFor layouts (slice_set objects (object_of layouts array p) new) next
stands_along laws layouts objects world next array p new patch area stands along a c has =
    ⊎_elim
    (λ this. subst (λ (b : ℕ). OwnerHas layouts (slice_set objects (object_of layouts array p) new) b c (number_of next b c)) (sym this)
    (in_array (subst (λ (b : ℕ). HasCell world b c) this (along.cells a c has))))
    (λ other. subst (OwnerHas layouts (slice_set objects (object_of layouts array p) new) a c) (sym (along.others a c other))
    (elsewhere_stays laws layouts objects array p a new c (number_of world a c) patch.known patch.below (λ same _. other (sym same)) (stands a c (along.cells a c has))))
    (cases_eq a array)
  where
    in_array : HasCell world array c → OwnerHas layouts (slice_set objects (object_of layouts array p) new) array c (number_of next array c)
    in_array there =
        ⊎_elim
        (λ owns. owned_changes laws layouts objects array p new c (number_of world array c) (number_of next array c) patch area owns (stands array c there) (along.own c there owns))
        (λ foreign. subst (OwnerHas layouts (slice_set objects (object_of layouts array p) new) array c) (sym (along.foreign c there foreign))
        (elsewhere_stays laws layouts objects array p array new c (number_of world array c) patch.known patch.below (λ _. foreign) (stands array c there)))
        (cases_eq p (owner_of (layout_at layouts array) c))

-- cells that a changed world has are those that it had
changed_cells : HasLaws → (world : World) (array : ℕ) (changes : List Change) (a : ℕ) (c : List ℤ) → HasCell (changed world array changes) a c → HasCell world a c
changed_cells laws world array changes a c has =
    let known : a < length world.arrays = omega (arith, has.0, length-set world.arrays array (with_changes (array_of world array) changes)) in (
      known,
      ⊎_elim
          (λ this. in_array this known)
          (λ other. subst (λ (b : Numbered). IsIn b.area c) (laws.others world array a changes other) has.1)
          (cases_eq a array),
    )
  where
    in_array : a ≡ array → a < length world.arrays → IsIn (array_of world a).area c
    in_array this known =
        let area : (array_of (changed world array changes) a).area ≡ (array_of world a).area =
        ap (λ (b : ℕ). (array_of (changed world array changes) b).area) this
        ∙ ap (λ (b : Numbered). b.area) (laws.this world array changes (subst (λ (b : ℕ). b < length world.arrays) this known))
        ∙ laws.area (array_of world array) changes
        ∙ ap (λ (b : ℕ). (array_of world b).area) (sym this) in
        subst (λ (box : List Interval). IsIn box c) area has.1

-- cells that the patch owns were changed, in its object and in the world
pub stands_changed : HasLaws → (layouts : List (List CutAxis)) (objects : List Numbered) (world : World) (array p : ℕ) (changes : List Change) → IsPatch layouts objects array p → IsFull (array_of world array) → EachCell changes (λ cell. Owns (layout_at layouts array) p cell) → StandsFor layouts objects world → StandsFor layouts (changed_at objects (object_of layouts array p) changes) (changed world array changes)
stands_changed laws layouts objects world array p changes patch full owned stands =
    stands_along laws layouts objects world (changed world array changes) array p (with_changes object changes) patch (laws.area object changes) stands
    (record {
      cells = changed_cells laws world array changes;
      others = λ a c other. ap (λ (b : Numbered). number_at b c) (laws.others world array a changes other);
      own = λ c has owns. own c has owns (stands array c has);
      foreign = λ c has foreign. ap (λ (b : Numbered). number_at b c) (laws.this world array changes has.0)
          ∙ laws.all_kept (array_of world array) changes c full (λ k change at same. foreign
          (laws.owners.only (layout_at layouts array) p c patch.cut (subst (Owns (layout_at layouts array) p) (sym same) (owned k change at))));
    })
  where
    object : Numbered
    object = object_at objects (object_of layouts array p)

    own : (c : List ℤ) → HasCell world array c → p ≡ owner_of (layout_at layouts array) c → OwnerHas layouts objects array c (number_of world array c) → number_at (with_changes object changes) c ≡ number_of (changed world array changes) array c
    own c has owns before =
        let number : HasNumber objects (object_of layouts array p) c (number_of world array c) =
        subst (λ (q : ℕ). HasNumber objects (object_of layouts array q) c (number_of world array c)) (sym owns) before.number in
        same_after laws object (array_of world array) changes c (full_at objects (object_of layouts array p) patch.are.full number.known) full number.inside has.1 number.number
        ∙ ap (λ (b : Numbered). number_at b c) (sym (laws.this world array changes has.0))

-- a number that no change speaks of stays
pub kept_number : HasLaws → (layouts : List (List CutAxis)) (objects : List Numbered) (array p : ℕ) (changes : List Change) (other : ℕ) (c : List ℤ) (n : ℤ) → IsPatch layouts objects array p → (other ≡ array → EachCell changes (λ cell. Owns (layout_at layouts array) p cell → c ≢ cell)) → OwnerHas layouts objects other c n → OwnerHas layouts (changed_at objects (object_of layouts array p) changes) other c n
kept_number laws layouts objects array p changes other c n patch unchanged has =
    ⊎_elim
    (λ this. subst (λ (a : ℕ). OwnerHas layouts (changed_at objects (object_of layouts array p) changes) a c n) (sym this)
    (in_array (unchanged this) (subst (λ (a : ℕ). OwnerHas layouts objects a c n) this has)))
    (λ elsewhere. elsewhere_stays laws layouts objects array p other (with_changes object changes) c n patch.known patch.below (λ same _. elsewhere (sym same)) has)
    (cases_eq other array)
  where
    object : Numbered
    object = object_at objects (object_of layouts array p)

    owned : EachCell changes (λ cell. Owns (layout_at layouts array) p cell → c ≢ cell) → OwnerHas layouts objects array c n → p ≡ owner_of (layout_at layouts array) c → number_at (with_changes object changes) c ≡ n
    owned apart here owns =
        let number : HasNumber objects (object_of layouts array p) c n =
        subst (λ (q : ℕ). HasNumber objects (object_of layouts array q) c n) (sym owns) here.number in
        let own : Owns (layout_at layouts array) p c =
        subst (λ (q : ℕ). Owns (layout_at layouts array) q c) (sym owns) (laws.owners.owned (layout_at layouts array) c here.cell.inside) in
        laws.all_kept object changes c (full_at objects (object_of layouts array p) patch.are.full number.known)
        (λ k change at same. apart k change at (subst (Owns (layout_at layouts array) p) same own) same)
        ∙ number.number

    in_array : EachCell changes (λ cell. Owns (layout_at layouts array) p cell → c ≢ cell) → OwnerHas layouts objects array c n → OwnerHas layouts (changed_at objects (object_of layouts array p) changes) array c n
    in_array apart here =
        ⊎_elim
        (λ owns. owned_changes laws layouts objects array p (with_changes object changes) c n n patch (laws.area object changes) owns here (owned apart here owns))
        (λ foreign. elsewhere_stays laws layouts objects array p array (with_changes object changes) c n patch.known patch.below (λ _. foreign) here)
        (cases_eq p (owner_of (layout_at layouts array) c))

-- the last change of a cell stays, where the patch owns the cell
pub set_number : HasLaws → (layouts : List (List CutAxis)) (objects : List Numbered) (array p : ℕ) (changes : List Change) (k : ℕ) (change : Change) → IsPatch layouts objects array p → HasTotal layouts array change.cell → p ≡ owner_of (layout_at layouts array) change.cell → slice_get changes k ≡ Some change → ((j : ℕ) (later : Change) → k < j → slice_get changes j ≡ Some later → later.cell ≢ change.cell) → OwnerHas layouts (changed_at objects (object_of layouts array p) changes) array change.cell change.number
set_number laws layouts objects array p changes k change patch total owns at last =
    let object : Numbered = object_at objects (object_of layouts array p) in
    let before : OwnerHas layouts objects array change.cell (number_at (object_at objects (owner_object layouts array change.cell)) change.cell) =
    owner_has_cell laws layouts objects array change.cell patch.are patch.cut total in
    let inside : IsIn object.area change.cell =
    subst (λ (q : ℕ). IsIn (object_at objects (object_of layouts array q)).area change.cell) (sym owns) before.number.inside in
    owned_changes laws layouts objects array p (with_changes object changes) change.cell
    (number_at (object_at objects (owner_object layouts array change.cell)) change.cell) change.number patch (laws.area object changes) owns before
    (laws.all_set object changes k change (full_at objects (object_of layouts array p) patch.are.full (patch_there layouts objects array p patch)) inside at last)

-- cells were changed in an object of which the world has no number or the patch is not the owner
pub stands_unseen : HasLaws → (layouts : List (List CutAxis)) (objects : List Numbered) (world : World) (array p : ℕ) (changes : List Change) → IsPatch layouts objects array p → EachCell changes (λ cell. Owns (layout_at layouts array) p cell → ¬ (HasCell world array cell)) → StandsFor layouts objects world → StandsFor layouts (changed_at objects (object_of layouts array p) changes) world
stands_unseen laws layouts objects world array p changes patch unseen stands a c has =
    kept_number laws layouts objects array p changes a c (number_of world a c) patch
    (λ this k change at owns same. unseen k change at owns
    (subst (λ (d : List ℤ). HasCell world array d) same (subst (λ (b : ℕ). HasCell world b c) this has)))
    (stands a c has)

-- a field stays fresh where none of its external cells is changed in the patch that owns it
pub fresh_kept : HasLaws → (shapes : List Shaped) (layouts : List (List CutAxis)) (objects : List Numbered) (world : World) (array p : ℕ) (changes : List Change) (other : ℕ) → IsPatch layouts objects array p → (other ≡ array → EachCell changes (λ cell. Owns (layout_at layouts array) p cell → IsIn (shape_at shapes other).physical cell)) → IsFresh shapes layouts objects world other → IsFresh shapes layouts (changed_at objects (object_of layouts array p) changes) world other
fresh_kept laws shapes layouts objects world array p changes other patch physical fresh c field total external =
    kept_number laws layouts objects array p changes other c (look_in world (shape_at shapes other) other c) patch
    (λ this k change at owns same. external (subst (IsIn (shape_at shapes other).physical) (sym same) (physical this k change at owns)))
    (fresh c field total external)

-- a field stays fresh where another array of the world is changed
pub fresh_elsewhere : HasLaws → (shapes : List Shaped) (layouts : List (List CutAxis)) (objects : List Numbered) (world : World) (array : ℕ) (changes : List Change) (other : ℕ) → other ≢ array → IsFresh shapes layouts objects world other → IsFresh shapes layouts objects (changed world array changes) other
fresh_elsewhere laws shapes layouts objects world array changes other apart fresh c field total external =
    subst (OwnerHas layouts objects other c)
    (ap (λ (a : Numbered). look (shape_at shapes other) (λ (d : List ℤ). number_at a d) c) (sym (laws.others world array other changes apart)))
    (fresh c
    (record { faced = field.faced; known = λ d inside. changed_cells laws world array changes other d (field.known d inside) })
    total external)

-- an array stays guarded where another one is changed
pub guarded_elsewhere : HasLaws → (layouts : List (List CutAxis)) (objects : List Numbered) (array p : ℕ) (new : Numbered) (other : ℕ) → IsPatch layouts objects array p → other ≢ array → IsGuarded layouts objects other → IsGuarded layouts (slice_set objects (object_of layouts array p) new) other
guarded_elsewhere laws layouts objects array p new other patch apart guarded q c n allocates has =
    let before : OwnerHas layouts objects other c n =
    record {
      cell = has.cell;
      number = other_object_was objects (owner_object layouts other c) (object_of layouts array p) new c n
          (other_owner laws layouts array other p c patch.known patch.below has.cell (λ same _. apart (sym same))) has.number;
    } in
    other_object_stays objects (object_of layouts other q) (object_of layouts array p) new c n
    (λ same. apart (objects_apart layouts other array q p has.cell.known patch.known (patch_allocates (layout_at layouts other) q c allocates) patch.below same).0)
    (guarded q c n allocates before)
