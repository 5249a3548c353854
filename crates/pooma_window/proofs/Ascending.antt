-- Ascending lists of which the first places are not looked at: an element taken off, and one put in.
use Rattle.std.proofs.Common.{◌≡◌, ◌≢◌, ◌⊎◌, ◌↔◌, ◌+◌, ◌<◌, ◌≤◌, ℕ, zero, suc, List, [], ◌∷◌, length, drop, set, get_or, Contains, refl, sym, ◌∙◌, ap, subst, arith, inl, inr, ◌-◌, length-drop, Result, Err}
use Rattle.std.proofs.lemmas.List.{get_or_default, get_or-drop}
use Rattle.std.proofs.lemmas.List.Edits.{length-remove}
use Rattle.std.proofs.lemmas.List.Elements.{Contains-get_or}
use Rattle.std.proofs.lemmas.List.Kept.{AllPairs-cons}
use Rattle.std.proofs.lemmas.List.Quantifiers.{all_pairs_remove}
use Rattle.std.proofs.lemmas.List.Sorted.{Contains-permutation, IsPermutation-insert, IsPermutation-sym, searched}
use Rattle.std.specs.List.{insert, remove}
use Rattle.std.specs.List.Sorted.{IsBinarySearchResult}
use Rattle.std.specs.Ordering.{nat_cmp}
use Rattle.pooma_logic.proofs.Ascending.{ascending_first, ascending_rest, ascending_rises}
use Rattle.pooma_logic.proofs.Elements.{contains_cases, contains_first, contains_rest}
use Rattle.pooma_machine.specs.Became.{IsAscending}

drop_none : (xs : List ℕ) → drop 0 xs ≡ xs
drop_none [] = refl
drop_none (x ∷ xs) = refl

pub drop_insert : (from p q : ℕ) (xs : List ℕ) (e : ℕ) → q ≡ from + p → from ≤ length xs → drop from (insert xs q e) ≡ insert (drop from xs) p e
drop_insert zero p q xs e at h = let same : q ≡ p = omega arith in rw (same, drop_none xs, drop_none (insert xs p e)) refl
drop_insert (suc from) p zero xs e at h = absurd (omega arith)
drop_insert (suc from) p (suc q) [] e at h = absurd (omega arith)
drop_insert (suc from) p (suc q) (x ∷ xs) e at h = drop_insert from p q xs e (omega arith) (omega arith)

pub drop_remove : (from p q : ℕ) (xs : List ℕ) → q ≡ from + p → from ≤ length xs → drop from (remove xs q) ≡ remove (drop from xs) p
drop_remove zero p q xs at h = let same : q ≡ p = omega arith in rw (same, drop_none xs, drop_none (remove xs p)) refl
drop_remove (suc from) p zero xs at h = absurd (omega arith)
drop_remove (suc from) p (suc q) [] at h = absurd (omega arith)
drop_remove (suc from) p (suc q) (x ∷ xs) at h = drop_remove from p q xs (omega arith) (omega arith)

-- the first one is not looked at any more
pub drop_first : (from next : ℕ) (xs : List ℕ) → next ≡ from + 1 → drop next xs ≡ remove (drop from xs) 0
drop_first zero zero xs at = absurd (omega arith)
drop_first zero (suc zero) [] at = refl
drop_first zero (suc zero) (x ∷ xs) at = refl
drop_first zero (suc (suc next)) xs at = absurd (omega arith)
drop_first (suc from) zero xs at = absurd (omega arith)
drop_first (suc from) (suc next) [] at = refl
drop_first (suc from) (suc next) (x ∷ xs) at = drop_first from next xs (omega arith)

-- one is written to the place in front of those that are looked at
pub drop_write : (low from : ℕ) (xs : List ℕ) (e : ℕ) → from ≡ low + 1 → from ≤ length xs → drop low (set xs low e) ≡ insert (drop from xs) 0 e
drop_write low from [] e at h = absurd (omega arith)
drop_write zero zero (x ∷ xs) e at h = absurd (omega arith)
drop_write zero (suc zero) (x ∷ []) e at h = refl
drop_write zero (suc zero) (x ∷ y ∷ xs) e at h = refl
drop_write zero (suc (suc from)) (x ∷ xs) e at h = absurd (omega arith)
drop_write (suc low) zero (x ∷ xs) e at h = absurd (omega arith)
drop_write (suc low) (suc from) (x ∷ xs) e at h = drop_write low from xs e (omega arith) (omega arith)

-- without the element at a place, an ascending list has the others
pub removed_has : (xs : List ℕ) (p : ℕ) → IsAscending xs → p < length xs → (j : ℕ) → Contains (remove xs p) j → Contains xs j × (j ≢ get_or xs p 0)
removed_has [] p up within j h = absurd (omega arith)
removed_has (x ∷ xs) zero up within j h = (contains_rest x xs j h, λ same. let above : x < j = ascending_first x xs j up h in omega arith)
removed_has (x ∷ xs) (suc p) up within j h =
    elim (contains_cases x (remove xs p) j h) [
      | inl same ↦ (
        subst (Contains (x ∷ xs)) (sym same) (contains_first x xs),
        λ later. let above : x < get_or xs p 0 = ascending_first x xs (get_or xs p 0) up (Contains-get_or xs p 0 (omega arith)) in omega arith,
      )
      | inr more ↦ let rest = removed_has xs p (ascending_rest x xs up) (omega arith) j more in (contains_rest x xs j rest.0, rest.1)
    ]

pub has_removed : (xs : List ℕ) (p : ℕ) → p < length xs → (j : ℕ) → Contains xs j → j ≢ get_or xs p 0 → Contains (remove xs p) j
has_removed [] p within j h ne = absurd (omega arith)
has_removed (x ∷ xs) zero within j h ne = elim (contains_cases x xs j h) [ inl same ↦ absurd (ne same) | inr more ↦ more ]
has_removed (x ∷ xs) (suc p) within j h ne =
    elim (contains_cases x xs j h) [
      | inl same ↦ subst (Contains (x ∷ remove xs p)) (sym same) (contains_first x (remove xs p))
      | inr more ↦ contains_rest x (remove xs p) j (has_removed xs p (omega arith) j more ne)
    ]

-- so one has the same as the other where the lists are these
pub taken_off : (xs ys : List ℕ) (p e : ℕ) → ys ≡ remove xs p → e ≡ get_or xs p 0 → IsAscending xs → p < length xs → (j : ℕ) → Contains ys j ↔ (Contains xs j × (j ≢ e))
taken_off xs ys p e is first up within j = (
  λ h. let had = removed_has xs p up within j (rw is at h) in (had.0, λ same. had.1 (same ∙ first)),
  λ h. rw is (has_removed xs p within j h.0 (λ same. h.1 (same ∙ sym first))),
)

-- with an element put in, a list has it and the others
inserted_has : (xs : List ℕ) (p e j : ℕ) → Contains (insert xs p e) j ↔ (Contains xs j ⊎ (j ≡ e))
inserted_has xs p e j = (
  λ h. elim (contains_cases e xs j (Contains-permutation (insert xs p e) (e ∷ xs) j (IsPermutation-sym (e ∷ xs) (insert xs p e) (IsPermutation-insert xs p e)) h)) [
    | inl same ↦ inr same
    | inr there ↦ inl there
  ],
  λ either. Contains-permutation (e ∷ xs) (insert xs p e) j (IsPermutation-insert xs p e) (elim either [
    | inl there ↦ contains_rest e xs j there
    | inr same ↦ subst (Contains (e ∷ xs)) (sym same) (contains_first e xs)
  ]),
)

pub put_in : (xs ys : List ℕ) (p e : ℕ) → ys ≡ insert xs p e → (j : ℕ) → Contains ys j ↔ (Contains xs j ⊎ (j ≡ e))
put_in xs ys p e is j = subst (λ l. Contains l j ↔ (Contains xs j ⊎ (j ≡ e))) (sym is) (inserted_has xs p e j)

-- and where it is put behind the lesser ones and before the greater ones, the list ascends
inserted_ascends : (xs : List ℕ) (p e : ℕ) → IsAscending xs → p ≤ length xs → ((k : ℕ) → k < p → get_or xs k 0 < e) → ((k : ℕ) → p ≤ k → k < length xs → e < get_or xs k 0)
    → IsAscending (insert xs p e)
inserted_ascends [] zero e up within low high = AllPairs-cons (λ m n. m < n) e [] (λ k d h. absurd (omega arith)) up
inserted_ascends [] (suc p) e up within low high = absurd (omega arith)
inserted_ascends (x ∷ xs) zero e up within low high =
    AllPairs-cons (λ m n. m < n) e (x ∷ xs)
    (λ k d h. let same : get_or (x ∷ xs) k d ≡ get_or (x ∷ xs) k 0 = get_or_default (x ∷ xs) k d 0 h in let above : e < get_or (x ∷ xs) k 0 = high k (omega arith) h in omega arith) up
inserted_ascends (x ∷ xs) (suc p) e up within low high =
    AllPairs-cons (λ m n. m < n) x (insert xs p e)
    (λ k d h. above (get_or (insert xs p e) k d) ((inserted_has xs p e (get_or (insert xs p e) k d)).0 (Contains-get_or (insert xs p e) k d h)))
    (inserted_ascends xs p e (ascending_rest x xs up) (omega arith) (λ k lt. low (suc k) (omega arith)) (λ k le h. high (suc k) (omega arith) (omega arith)))
  where
    above : (j : ℕ) → Contains xs j ⊎ (j ≡ e) → x < j
    above j (inl there) = ascending_first x xs j up there
    above j (inr same) = let first : x < e = low 0 (omega arith) in omega (arith, same)

-- which is the place that a search for it gives, where it is not there
pub searched_place : (xs : List ℕ) (p e : ℕ) (found : Result ℕ ℕ) → IsAscending xs → IsBinarySearchResult (λ k. nat_cmp k e) xs found → found ≡ Err p → IsAscending (insert xs p e)
searched_place xs p e found up search is =
    let at = searched xs e (Err p) (subst (IsBinarySearchResult (λ k. nat_cmp k e) xs) is search) (ascending_rises xs up) in
    inserted_ascends xs p e up at.0 at.1 at.2

-- a place among those that are looked at is a place of the list
pub place_within : (from p : ℕ) (items seen : List ℕ) → drop from items ≡ seen → p < length seen → from + p < length items
place_within from p items seen is h = let long : length seen ≡ length items - from = ap length (sym is) ∙ length-drop from items in omega arith

-- the number at a place of the list, seen from the first place that is looked at
pub seen_at : (from p q : ℕ) (items seen : List ℕ) (e : ℕ) → q ≡ from + p → drop from items ≡ seen → q < length items → e ≡ get_or items q e → e ≡ get_or seen p 0
seen_at from p q items seen e at is h there =
    there ∙ (get_or_default items q e 0 h ∙ (ap (λ k. get_or items k 0) at ∙ (sym (get_or-drop from items p 0) ∙ ap (λ list. get_or list p 0) is)))

pub first_off : (from next : ℕ) (items : List ℕ) → next ≡ from + 1 → from + 0 < length items → IsAscending (drop from items) → (next ≤ length items) × IsAscending (drop next items)
first_off from next items at h up =
    let long : length (drop from items) ≡ length items - from = length-drop from items in
    let first : 0 < length (drop from items) = omega arith in
    (omega arith, rw (drop_first from next items at) (all_pairs_remove (λ a b. a < b) (drop from items) 0 first up))

pub one_off : (from p q : ℕ) (items left : List ℕ) → q ≡ from + p → q < length items → left ≡ remove items q → IsAscending (drop from items)
    → (from ≤ length left) × IsAscending (drop from left)
one_off from p q items left at h is up =
    let count : length left + 1 ≡ length items = rw is (length-remove items q h) in
    let long : length (drop from items) ≡ length items - from = length-drop from items in
    let there : p < length (drop from items) = omega arith in
    let within : from ≤ length items = omega arith in
    (omega arith, rw (is, drop_remove from p q items at within) (all_pairs_remove (λ a b. a < b) (drop from items) p there up))

pub front_put : (low from : ℕ) (items seen : List ℕ) (e : ℕ) → from ≡ low + 1 → from ≤ length items → drop from items ≡ seen → drop low (set items low e) ≡ insert seen 0 e
front_put low from items seen e at h is = drop_write low from items e at h ∙ ap (λ list. insert list 0 e) is

pub middle_put : (from p q : ℕ) (items seen : List ℕ) (e : ℕ) → q ≡ from + p → from ≤ length items → drop from items ≡ seen → drop from (insert items q e) ≡ insert seen p e
middle_put from p q items seen e at h is = drop_insert from p q items e at h ∙ ap (λ list. insert list p e) is
