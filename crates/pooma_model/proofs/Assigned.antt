-- Worlds after an assignment: whole, with a mask, and in parts.
use Rattle.std.proofs.Common.{refl, sym, ap, ◌∙◌, subst, inl, inr, ⊎_elim, arith, get_or}
use Rattle.std.proofs.lemmas.Bool.{cases_eq, cases_lt}
use Rattle.std.proofs.lemmas.List.{get_or_past, set_past, set-get_or, set-set}
use Rattle.std.proofs.lemmas.List.Elements.{All-contains, filter_map-append}
use Rattle.std.specs.List.{cons_option}
use Rattle.std.specs.Ordering.{int_eq}
use Rattle.std.specs.Prelude.{◌≡◌, ◌≢◌, ℕ, ◌<◌, ◌≤◌, ℤ, pos, Bool, true, false, if◌then◌else◌, Option, Some, None, Ok, Err, List, [], ◌∷◌, ◌++◌, length, fold, flat_map, slice_set, Contains, All}
use Rattle.pooma_logic.proofs.Members.{Member, contains_of, member_of}
use Rattle.pooma_domain.specs.Cells.{Interval, cells_of, IsIn}
use Rattle.pooma_view.specs.declared.slots.Slot.{Slot}
use Rattle.pooma_view.specs.Slots.{cell_named, positions_of}
use Rattle.pooma_view.specs.Views.{Viewed}
use Rattle.pooma_field.specs.Numbered.{Numbered, Change, number_at, with_number, with_changes, IsFull}
use Rattle.pooma_field.specs.Worlds.{World, HasCell, array_of, number_of, changed}
use Rattle.pooma_expr.specs.declared.tree.Expr.{Expr}
use Rattle.pooma_expr.specs.declared.tree.Expr.TheOpen.{Expr-F}
use Rattle.pooma_expr.specs.declared.tree.Expr.TheViews.{roll-Expr}
use Rattle.pooma_expr.specs.declared.tree.Expr.TheFolds.{fold-roll-Expr}
use Rattle.pooma_expr.specs.Values.{Checked, and_then, value_by}
use Rattle.pooma_model.specs.Assigning.{Becomes, Fault, Given, Nothing, assigned, assignment_changes, assignment_fault, change_of, fault_of, fault_or, first_of, found_or, given_at, given_by, where_mask, whole_value}
use Rattle.pooma_model.specs.Declarations.{Declared, seen_in, shape_at, value_in}
use Rattle.pooma_model.specs.Fit.{IsAssignFit}
use Rattle.pooma_model.specs.Midway.{IsMidway, IsUnnamed}
use Rattle.pooma_model.specs.Partitions.{IsPartition, StandOnce, changes_at, number_after}
use Rattle.pooma_model.proofs.Changing.{OfNumbers, NamesApart, named_given, unnamed_kept, same_after}
use Rattle.pooma_model.proofs.Lists.{distinct_by_places}
use Rattle.pooma_model.proofs.Partitioning.{OfCells, cells_once, is_in, is_cell, parts_once, same_cells}
use Rattle.pooma_model.proofs.Reading.{OfLooking, own_number, all_left, all_right}

-- what the law on worlds tells
pub record OfWorlds : Type 0 where
  pub this : (world : World) (array : ℕ) (changes : List Change) → array < length world.arrays → array_of (changed world array changes) array ≡ with_changes (array_of world array) changes
  pub others : (world : World) (array other : ℕ) (changes : List Change) → other ≢ array → array_of (changed world array changes) other ≡ array_of world other

-- and that on views
abbrev pub CellsApart : Type 0
CellsApart = (slots : List Slot) (p q : List ℤ) → IsIn (positions_of slots) p → IsIn (positions_of slots) q → cell_named slots p ≡ cell_named slots q → p ≡ q

-- an array that has a number for each of its cells is there
pub is_there : (world : World) (array : ℕ) → IsFull (array_of world array) → array < length world.arrays
is_there world array full =
    ⊎_elim (λ below. below)
    (λ past.
    let none : Numbered = record { area = []; numbers = [] } in
    let is_none : array_of world array ≡ none = get_or_past world.arrays array none past in
    let wrong : IsFull none = subst IsFull is_none full in
    absurd (let differ : 0 ≡ 1 = wrong in omega arith))
    (cases_lt array (length world.arrays))

pub names_apart : OfCells → CellsApart → (slots : List Slot) → NamesApart slots (cells_of (positions_of slots))
names_apart known apart slots p q m l same = apart slots p q (is_in known (positions_of slots) p m) (is_in known (positions_of slots) q l) same

-- ---- the world that an assignment becomes

pub is_new : (fault : Option Fault) (world new : World) → fault_or fault world ≡ Becomes new → world ≡ new
is_new (Some fault) world new e = cc
is_new None world new e = cc

module _ (numbers : OfNumbers) (worlds : OfWorlds) (given : List ℤ → Given) (target : Viewed) (ps : List (List ℤ)) (world : World) where
  abbrev after : World
  after = changed world target.array (changes_at given target.slots ps)

  pub target_after : IsFull (array_of world target.array) → array_of after target.array ≡ with_changes (array_of world target.array) (changes_at given target.slots ps)
  target_after full = worlds.this world target.array (changes_at given target.slots ps) (is_there world target.array full)

  pub unnamed_after : (array : ℕ) (c : List ℤ) → IsFull (array_of world target.array) → IsUnnamed target ps array c → number_of after array c ≡ number_of world array c
  unnamed_after array c full unnamed =
      ⊎_elim
      (λ e. subst (λ n. number_of after n c ≡ number_of world n c) (sym e)
      (ap (λ (a : Numbered). number_at a c) (target_after full)
      ∙ unnamed_kept numbers given target.slots (array_of world target.array) ps c full
      (λ p m. let there = contains_of ps p m in subst (λ q. cell_named target.slots q ≢ c) there.2 (unnamed e there.0 p there.1))))
      (λ other. ap (λ (a : Numbered). number_at a c) (worlds.others world target.array array (changes_at given target.slots ps) other))
      (cases_eq array target.array)

  pub area_after : (array : ℕ) → (array_of after array).area ≡ (array_of world array).area
  area_after array =
      ⊎_elim
      (λ e. subst (λ n. (array_of after n).area ≡ (array_of world n).area) (sym e)
      (⊎_elim
      (λ below. ap (λ (a : Numbered). a.area) (worlds.this world target.array (changes_at given target.slots ps) below) ∙ numbers.area (array_of world target.array) (changes_at given target.slots ps))
      (λ past. ap (λ (a : Numbered). a.area) (not_there past))
      (cases_lt target.array (length world.arrays))))
      (λ other. ap (λ (a : Numbered). a.area) (worlds.others world target.array array (changes_at given target.slots ps) other))
      (cases_eq array target.array)
    where
      not_there : length world.arrays ≤ target.array → array_of after target.array ≡ array_of world target.array
      not_there past =
          ap (λ (held : List Numbered). get_or held target.array (record { area = []; numbers = [] })) (set_past world.arrays target.array (with_changes (array_of world target.array) (changes_at given target.slots ps)) past)

  pub full_after : (array : ℕ) → IsFull (array_of world array) → IsFull (array_of after array)
  full_after array full =
      ⊎_elim
      (λ e. subst (λ n. IsFull (array_of after n)) (sym e)
      (let here : IsFull (array_of world target.array) = subst (λ n. IsFull (array_of world n)) e full in
      subst IsFull (sym (target_after here)) (numbers.full (array_of world target.array) (changes_at given target.slots ps) here)))
      (λ other. subst IsFull (sym (worlds.others world target.array array (changes_at given target.slots ps) other)) full)
      (cases_eq array target.array)

-- where these are positions of the target, each of them once
pub named_at : OfNumbers → OfWorlds → CellsApart → (target : Viewed) (given : List ℤ → Given) (ps : List (List ℤ)) (world : World) (p : List ℤ)
    → IsFull (array_of world target.array) → All (IsIn (positions_of target.slots)) ps → StandOnce ps → Contains ps p → HasCell world target.array (cell_named target.slots p)
    → number_of (changed world target.array (changes_at given target.slots ps)) target.array (cell_named target.slots p)
    ≡ number_after (given p) (number_of world target.array (cell_named target.slots p))
named_at numbers worlds apart target given ps world p full inside once there has =
    ap (λ (a : Numbered). number_at a (cell_named target.slots p)) (target_after numbers worlds given target ps world full)
    ∙ named_given numbers given target.slots (array_of world target.array) ps p full (distinct_by_places ps once)
    (λ q r m l same. apart target.slots q r (within q m) (within r l) same) (member_of ps p there) has.1
  where
    within : (q : List ℤ) → Member ps q → IsIn (positions_of target.slots) q
    within q m = All-contains (IsIn (positions_of target.slots)) ps q inside (contains_of ps q m)

pub named_after : OfCells → OfNumbers → OfWorlds → CellsApart → (given : List ℤ → Given) (target : Viewed) (world : World) (p : List ℤ)
    → IsFull (array_of world target.array) → IsIn (positions_of target.slots) p → HasCell world target.array (cell_named target.slots p)
    → number_of (changed world target.array (changes_at given target.slots (cells_of (positions_of target.slots)))) target.array (cell_named target.slots p)
    ≡ number_after (given p) (number_of world target.array (cell_named target.slots p))
named_after cells numbers worlds apart given target world p full inside has =
    ap (λ (a : Numbered). number_at a (cell_named target.slots p)) (target_after numbers worlds given target (cells_of (positions_of target.slots)) world full)
    ∙ named_given numbers given target.slots (array_of world target.array) (cells_of (positions_of target.slots)) p full (cells_once cells (positions_of target.slots))
    (names_apart cells apart target.slots) (is_cell cells (positions_of target.slots) p inside) has.1

-- ---- a mask

first_same : {A B : Type 0} (f g : A → Option B) (xs : List A) → ((x : A) → Member xs x → f x ≡ g x) → first_of f xs ≡ first_of g xs
first_same f g [] same = refl
first_same f g (x ∷ xs) same =
    ap (λ o. found_or o (first_of f xs)) (same x (inl refl)) ∙ ap (found_or (g x)) (first_same f g xs (λ y m. same y (inr m)))

-- the value where it is taken, and else the target's own number
abbrev chosen : Checked → Checked → ℤ → Checked
chosen mask value own = and_then mask (λ x. if int_eq x (pos 0) then Ok own else value)

choice_fault : (p : List ℤ) (mask value : Checked) (own : ℤ) → fault_of p (where_mask mask (given_by value)) ≡ fault_of p (given_by (chosen mask value own))
choice_fault p (Err kind) value own = refl
choice_fault p (Ok x) value own = by (int_eq x (pos 0))
  where
    by : (b : Bool) → fault_of p (if b then Nothing else given_by value) ≡ fault_of p (given_by (if b then Ok own else value))
    by true = refl
    by false = refl

choice_number : (mask value : Checked) (own : ℤ) → number_after (where_mask mask (given_by value)) own ≡ number_after (given_by (chosen mask value own)) own
choice_number (Err kind) value own = refl
choice_number (Ok x) value own = by (int_eq x (pos 0))
  where
    by : (b : Bool) → number_after (if b then Nothing else given_by value) own ≡ number_after (given_by (if b then Ok own else value)) own
    by true = refl
    by false = refl

module _ (declared : Declared) (target : Viewed) (value mask : Expr) (world : World) where
  own_value : OfLooking → IsAssignFit declared target (whole_value target value (Some mask)) → (p : List ℤ) → IsIn (positions_of target.slots) p
      → seen_in declared world target (cell_named target.slots p) ≡ number_of world target.array (cell_named target.slots p)
  own_value looking fit p inside =
      own_number looking (shape_at declared target.array) (number_of world target.array) (cell_named target.slots p) (fit.writable.cells p inside)

  whole_is : OfLooking → IsAssignFit declared target (whole_value target value (Some mask)) → (p : List ℤ) → IsIn (positions_of target.slots) p
      → value_in declared world (whole_value target value (Some mask)) p
      ≡ chosen (value_in declared world mask p) (value_in declared world value p) (number_of world target.array (cell_named target.slots p))
  whole_is looking fit p inside =
      let by = value_by world.scalars (seen_in declared world) p in
      fold-roll-Expr Checked by (Expr-F.Where mask value (roll-Expr (Expr-F.Read target)))
      ∙ ap (λ (own : Checked). by (Expr-F.Where (value_in declared world mask p) (value_in declared world value p) own)) (fold-roll-Expr Checked by (Expr-F.Read target))
      ∙ ap (λ (n : ℤ). chosen (value_in declared world mask p) (value_in declared world value p) n) (own_value looking fit p inside)

  pub mask_chooses : OfCells → OfNumbers → OfLooking → CellsApart → IsAssignFit declared target (whole_value target value (Some mask)) → IsFull (array_of world target.array)
      → assigned declared target value (Some mask) world ≡ assigned declared target (whole_value target value (Some mask)) None world
  mask_chooses cells numbers looking apart fit full =
      let box = positions_of target.slots in
      let masked : List ℤ → Given = given_at declared world value (Some mask) in
      let whole : List ℤ → Given = given_at declared world (whole_value target value (Some mask)) None in
      let a = array_of world target.array in
      let same_fault : assignment_fault declared world target value (Some mask) ≡ assignment_fault declared world target (whole_value target value (Some mask)) None =
      first_same (λ p. fault_of p (masked p)) (λ p. fault_of p (whole p)) (cells_of box)
      (λ p m. choice_fault p (value_in declared world mask p) (value_in declared world value p) (number_of world target.array (cell_named target.slots p))
      ∙ ap (λ (v : Checked). fault_of p (given_by v)) (sym (whole_is looking fit p (is_in cells box p m)))) in
      let same_numbers : with_changes a (changes_at masked target.slots (cells_of box)) ≡ with_changes a (changes_at whole target.slots (cells_of box)) =
      same_after numbers masked whole target.slots a (cells_of box) (cells_of box) full (cells_once cells box) (cells_once cells box) (names_apart cells apart target.slots)
      (λ p. (λ m. m, λ m. m))
      (λ p m. choice_number (value_in declared world mask p) (value_in declared world value p) (number_of world target.array (cell_named target.slots p))
      ∙ ap (λ (v : Checked). number_after (given_by v) (number_of world target.array (cell_named target.slots p))) (sym (whole_is looking fit p (is_in cells box p m)))) in
      ap (λ (f : Option Fault). fault_or f (changed world target.array (assignment_changes declared world target value (Some mask)))) same_fault
      ∙ ap (λ (b : Numbered). fault_or (assignment_fault declared world target (whole_value target value (Some mask)) None) (record world { arrays = slice_set world.arrays target.array b })) same_numbers

-- ---- parts

pub changed_by_none : (world : World) (array : ℕ) → changed world array [] ≡ world
changed_by_none world array =
    let same : slice_set world.arrays array (array_of world array) ≡ world.arrays = set-get_or world.arrays array (record { area = []; numbers = [] }) in
    λ i. record { arrays = same i; scalars = world.scalars }

with_more : (a : Numbered) (xs ys : List Change) → with_changes a (xs ++ ys) ≡ with_changes (with_changes a xs) ys
with_more a [] ys = refl
with_more a (x ∷ xs) ys = with_more (with_number a x.cell x.number) xs ys

changed_twice : OfWorlds → (world : World) (array : ℕ) (xs ys : List Change) → array < length world.arrays → changed (changed world array xs) array ys ≡ changed world array (xs ++ ys)
changed_twice worlds world array xs ys below =
    let arrays : slice_set (slice_set world.arrays array (with_changes (array_of world array) xs)) array (with_changes (array_of (changed world array xs) array) ys) ≡ slice_set world.arrays array (with_changes (array_of world array) (xs ++ ys)) =
    set-set world.arrays array _ _
    ∙ ap (λ (a : Numbered). slice_set world.arrays array (with_changes a ys)) (worlds.this world array xs below)
    ∙ ap (λ (a : Numbered). slice_set world.arrays array a) (sym (with_more (array_of world array) xs ys)) in
    λ i. record { arrays = arrays i; scalars = world.scalars }

pub same_changes : (given other : List ℤ → Given) (slots : List Slot) (ps : List (List ℤ)) → ((p : List ℤ) → Member ps p → given p ≡ other p) → changes_at given slots ps ≡ changes_at other slots ps
same_changes given other slots [] same = refl
same_changes given other slots (p ∷ ps) same =
    ap (λ (g : Given). cons_option (change_of (cell_named slots p) g) (changes_at given slots ps)) (same p (inl refl))
    ∙ ap (cons_option (change_of (cell_named slots p) (other p))) (same_changes given other slots ps (λ q m. same q (inr m)))

module _ (numbers : OfNumbers) (worlds : OfWorlds) (given : List ℤ → Given) (target : Viewed) where
  -- boxes one after another change what all their positions change
  one_by_one : (boxes : List (List Interval)) (world : World) → IsFull (array_of world target.array)
      → fold (λ now box. changed now target.array (changes_at given target.slots (cells_of box))) world boxes
      ≡ changed world target.array (changes_at given target.slots (flat_map cells_of boxes))
  one_by_one [] world full = sym (changed_by_none world target.array)
  one_by_one (box ∷ boxes) world full =
      one_by_one boxes (changed world target.array (changes_at given target.slots (cells_of box))) (full_after numbers worlds given target (cells_of box) world target.array full)
      ∙ changed_twice worlds world target.array (changes_at given target.slots (cells_of box)) (changes_at given target.slots (flat_map cells_of boxes)) (is_there world target.array full)
      ∙ ap (changed world target.array) (sym (filter_map-append (λ p. change_of (cell_named target.slots p) (given p)) (cells_of box) (flat_map cells_of boxes)))

  pub parts_change_all : OfCells → CellsApart → (boxes : List (List Interval)) (world : World) → IsFull (array_of world target.array) → IsPartition (positions_of target.slots) boxes
      → fold (λ now box. changed now target.array (changes_at given target.slots (cells_of box))) world boxes
      ≡ changed world target.array (changes_at given target.slots (cells_of (positions_of target.slots)))
  parts_change_all cells apart boxes world full parts =
      let whole = positions_of target.slots in
      let same = same_cells cells whole boxes parts in
      one_by_one boxes world full
      ∙ ap (λ (a : Numbered). record world { arrays = slice_set world.arrays target.array a })
      (same_after numbers given given target.slots (array_of world target.array) (flat_map cells_of boxes) (cells_of whole) full
      (parts_once cells whole boxes parts) (cells_once cells whole)
      (λ p q m l e. names_apart cells apart target.slots p q ((same p).0 m) ((same q).0 l) e)
      same (λ p m. refl))

-- ---- on the way

pub goes_on : OfNumbers → OfWorlds → (target : Viewed) (done more : List (List ℤ)) (old new : World) (given : List ℤ → Given) → IsFull (array_of new target.array) → IsMidway target done old new
    → IsMidway target (done ++ more) old (changed new target.array (changes_at given target.slots more))
goes_on numbers worlds target done more old new given full midway array c unnamed =
    unnamed_after numbers worlds given target more new array c full
    (λ e. all_right (λ q. cell_named target.slots q ≢ c) done more (unnamed e))
    ∙ midway array c (λ e. all_left (λ q. cell_named target.slots q ≢ c) done more (unnamed e))
