-- Where a cell stands in the order of its box, and the number at each cell after changes.
use Rattle.std.proofs.Common.{refl, sym, ap, ◌∙◌, subst, ⊎_elim, arith, length-set}
use Rattle.std.proofs.lemmas.Bool.{cases_lt, cases_eq, false≢true}
use Rattle.std.proofs.lemmas.List.{get_or-set_same, get_or-set_other, set_past, same_lists}
use Rattle.std.proofs.lemmas.List.Sums.{passes_at_first, fails_before_first, prefix_len-le-length}
use Rattle.std.proofs.lemmas.Option.{slice_get-get_or, slice_get_within, get_or_from_slice_get}
use Rattle.std.specs.Cmp.Rules.{signed_items}
use Rattle.std.specs.Prelude.{◌≡◌, ◌≢◌, ◌↔◌, ℕ, zero, suc, ◌<◌, ◌≤◌, ℤ, pos, true, not, Some, List, [], ◌∷◌, length, slice_get, slice_index_or, Contains}
use Rattle.pooma_domain.specs.Cells.{Interval, cells_of, IsIn}
use Rattle.pooma_field.specs.Numbered.{Numbered, Change, is_same_cell, place_in, number_at, with_number, with_changes, IsFull}

-- what the order of a box's cells tells
pub record HasOrder : Type 0 where
  pub members : (box : List Interval) (c : List ℤ) → Contains (cells_of box) c ↔ IsIn box c
  pub once : (box : List Interval) (c : List ℤ) (j k : ℕ) → slice_get (cells_of box) j ≡ Some c → slice_get (cells_of box) k ≡ Some c → j ≡ k

-- where the search stops before the end, the cell is there
pub found_there : (box : List Interval) (c : List ℤ) → place_in box c < length (cells_of box) → slice_get (cells_of box) (place_in box c) ≡ Some c
unfolding place_in
found_there box c h =
    slice_get-get_or (cells_of box) (place_in box c) c h
    ∙ ap Some ((signed_items _ c).0 (passes_at_first (λ d. is_same_cell d c) (cells_of box) c h))

pub place_bound : (box : List Interval) (c : List ℤ) → place_in box c ≤ length (cells_of box)
unfolding place_in
place_bound box c = prefix_len-le-length (λ d. not (is_same_cell d c)) (cells_of box)

-- the search passes no cell that is the one
pub found_by_then : (box : List Interval) (c : List ℤ) (k : ℕ) → slice_get (cells_of box) k ≡ Some c → place_in box c ≤ k
unfolding place_in
found_by_then box c k at =
    ⊎_elim (λ below. absurd (false≢true (sym (fails_before_first (λ d. is_same_cell d c) (cells_of box) k c below) ∙ same)))
    (λ above. above)
    (cases_lt k (place_in box c))
  where
    same : is_same_cell (slice_index_or (cells_of box) k c) c ≡ true
    same = (signed_items _ c).1 (get_or_from_slice_get (cells_of box) k c c at)

pub stands : HasOrder → (box : List Interval) (c : List ℤ) → IsIn box c → slice_get (cells_of box) (place_in box c) ≡ Some c
stands order box c h =
    let there : Contains (cells_of box) c = (order.members box c).1 h in
    let at : slice_get (cells_of box) there.0 ≡ Some c =
    slice_get-get_or (cells_of box) there.0 c there.1 ∙ ap Some there.2 in
    let by_then : place_in box c ≤ there.0 = found_by_then box c there.0 at in
    found_there box c (omega (arith, there.1, by_then))

pub only_there : HasOrder → (box : List Interval) (c : List ℤ) (k : ℕ) → slice_get (cells_of box) k ≡ Some c → place_in box c ≡ k
only_there order box c k at =
    let by_then : place_in box c ≤ k = found_by_then box c k at in
    order.once box c (place_in box c) k (found_there box c (omega (arith, by_then, slice_get_within (cells_of box) k c at))) at

pub set_there : HasOrder → (a : Numbered) (c : List ℤ) (n : ℤ) → IsFull a → IsIn a.area c → number_at (with_number a c n) c ≡ n
set_there order a c n full h =
    let below : place_in a.area c < length (cells_of a.area) = slice_get_within (cells_of a.area) (place_in a.area c) c (stands order a.area c h) in
    get_or-set_same a.numbers (place_in a.area c) n (pos 0) (omega (arith, below, full))

-- two cells that stand at one place of the order are one cell
pub one_place : (box : List Interval) (c d : List ℤ) → place_in box c ≡ place_in box d → place_in box c < length (cells_of box) → d ≡ c
one_place box c d same below =
    let at_c : slice_get (cells_of box) (place_in box c) ≡ Some c = found_there box c below in
    let at_d : slice_get (cells_of box) (place_in box d) ≡ Some d = found_there box d (omega (arith, same, below)) in
    let at : slice_get (cells_of box) (place_in box c) ≡ slice_get (cells_of box) (place_in box d) = ap (slice_get (cells_of box)) same in
    cc

pub kept_elsewhere : (a : Numbered) (c d : List ℤ) (n : ℤ) → IsFull a → d ≢ c → number_at (with_number a c n) d ≡ number_at a d
kept_elsewhere a c d n full other =
    ⊎_elim
    (λ same. ⊎_elim (λ below. absurd (other (one_place a.area c d (sym same) below)))
    (λ past. ap (λ (ns : List ℤ). slice_index_or ns (place_in a.area d) (pos 0)) (set_past a.numbers (place_in a.area c) n (omega (arith, full, past))))
    (cases_lt (place_in a.area c) (length (cells_of a.area))))
    (λ apart. get_or-set_other a.numbers (place_in a.area c) (place_in a.area d) n (pos 0) apart)
    (cases_eq (place_in a.area d) (place_in a.area c))

pub still_full : (a : Numbered) (c : List ℤ) (n : ℤ) → IsFull a → IsFull (with_number a c n)
still_full a c n full = length-set a.numbers (place_in a.area c) n ∙ full

pub area_stays : (a : Numbered) (changes : List Change) → (with_changes a changes).area ≡ a.area
area_stays a [] = refl
area_stays a (change ∷ changes) = area_stays (with_number a change.cell change.number) changes

pub full_stays : (a : Numbered) (changes : List Change) → IsFull a → IsFull (with_changes a changes)
full_stays a [] full = full
full_stays a (change ∷ changes) full =
    full_stays (with_number a change.cell change.number) changes (still_full a change.cell change.number full)

pub all_kept : (a : Numbered) (changes : List Change) (d : List ℤ) → IsFull a → ((k : ℕ) (change : Change) → slice_get changes k ≡ Some change → d ≢ change.cell) → number_at (with_changes a changes) d ≡ number_at a d
all_kept a [] d full others = refl
all_kept a (change ∷ changes) d full others =
    all_kept (with_number a change.cell change.number) changes d (still_full a change.cell change.number full) (λ k later at. others (suc k) later at)
    ∙ kept_elsewhere a change.cell d change.number full (others zero change refl)

-- the last change of a cell stays
pub all_set : HasOrder → (a : Numbered) (changes : List Change) (k : ℕ) (change : Change) → IsFull a → IsIn a.area change.cell → slice_get changes k ≡ Some change → ((j : ℕ) (later : Change) → k < j → slice_get changes j ≡ Some later → later.cell ≢ change.cell) → number_at (with_changes a changes) change.cell ≡ change.number
all_set order a [] k change full inside at last = cc
all_set order a (first ∷ changes) zero change full inside at last =
    let same : first ≡ change = cc in
    let later_others : (j : ℕ) (later : Change) → slice_get changes j ≡ Some later → change.cell ≢ later.cell =
    λ j later there e. last (suc j) later (omega arith) there (sym e) in
    subst (λ (f : Change). number_at (with_changes (with_number a f.cell f.number) changes) change.cell ≡ change.number) (sym same)
    (all_kept (with_number a change.cell change.number) changes change.cell (still_full a change.cell change.number full) later_others
    ∙ set_there order a change.cell change.number full inside)
all_set order a (first ∷ changes) (suc k) change full inside at last =
    all_set order (with_number a first.cell first.number) changes k change (still_full a first.cell first.number full) inside at
    (λ j later h there. last (suc j) later (omega arith) there)

-- a number that is there does not depend on the default
any_default : (ns : List ℤ) (k : ℕ) (d : ℤ) → k < length ns → slice_index_or ns k d ≡ slice_index_or ns k (pos 0)
any_default ns k d h = sym (get_or_from_slice_get ns k (slice_index_or ns k d) (pos 0) (slice_get-get_or ns k d h))

pub same_numbers : HasOrder → (a b : Numbered) → a.area ≡ b.area → IsFull a → IsFull b → ((c : List ℤ) → IsIn a.area c → number_at a c ≡ number_at b c) → a ≡ b
same_numbers order a b area full_a full_b each =
    let lengths : length a.numbers ≡ length b.numbers = full_a ∙ ap (λ (box : List Interval). length (cells_of box)) area ∙ sym full_b in
    let numbers : a.numbers ≡ b.numbers = same_lists a.numbers b.numbers lengths (same_at order a b area full_a full_b each) in
    λ i. record { area = area i; numbers = numbers i }
  where
    same_at : HasOrder → (a b : Numbered) → a.area ≡ b.area → IsFull a → IsFull b → ((c : List ℤ) → IsIn a.area c → number_at a c ≡ number_at b c) → (k : ℕ) (d : ℤ) → k < length a.numbers → slice_index_or a.numbers k d ≡ slice_index_or b.numbers k d
    same_at order a b area full_a full_b each k d h =
        let below : k < length (cells_of a.area) = omega (arith, h, full_a) in
        let cell : List ℤ = slice_index_or (cells_of a.area) k [] in
        let at : slice_get (cells_of a.area) k ≡ Some cell = slice_get-get_or (cells_of a.area) k [] below in
        let inside : IsIn a.area cell = (order.members a.area cell).0 (k, below, get_or_from_slice_get (cells_of a.area) k cell cell at) in
        let place_a : place_in a.area cell ≡ k = only_there order a.area cell k at in
        let place_b : place_in b.area cell ≡ k = ap (λ (box : List Interval). place_in box cell) (sym area) ∙ place_a in
        any_default a.numbers k d h
        ∙ ap (λ (j : ℕ). slice_index_or a.numbers j (pos 0)) (sym place_a)
        ∙ each cell inside
        ∙ ap (λ (j : ℕ). slice_index_or b.numbers j (pos 0)) place_b
        ∙ sym (any_default b.numbers k d (omega (arith, h, full_a, full_b, ap (λ (box : List Interval). length (cells_of box)) area)))
