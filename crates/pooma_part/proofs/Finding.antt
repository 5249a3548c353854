-- The borders of an axis of positions are the places at which some view comes to another part.
use Rattle.std.proofs.Common.{refl, sym, ap, ◌∙◌, subst, inl, inr, ⊎_elim, arith, get_or, take}
use Rattle.std.proofs.lemmas.Int.{ints}
use Rattle.std.proofs.lemmas.List.Folds.{Any-from_list_any, list_any-from_Any}
use Rattle.std.specs.List.{cons_option, filter_map, list_any}
use Rattle.std.specs.List.Retain.{DiffersFromLast, IsFiltered}
use Rattle.std.specs.List.Sorted.{IsPermutation, IsSorted}
use Rattle.std.specs.Ordering.{int_cmp, int_eq}
use Rattle.std.specs.Prelude.{◌≡◌, ◌⊎◌, ◌↔◌, ℕ, zero, suc, ◌+◌, ◌-◌, ◌<◌, ◌≤◌, ℤ, pos, ◌+ℤ◌, ◌-ℤ◌, ◌≤ℤ◌, true, Option, Some, None, List, [], ◌∷◌, length, slice_get, Any, Contains}
use Rattle.pooma_logic.proofs.Members.{Member, any_of, of_any}
use Rattle.pooma_domain.specs.Cells.{Interval, axis_length, counting}
use Rattle.pooma_layout.specs.Axes.{IsAscending, AreBorders}
use Rattle.pooma_layout.proofs.Counting.{length_of_interval}
use Rattle.pooma_model.specs.Parts.{borders_on, changes_part, parts_along}
use Rattle.pooma_part.specs.Crossing.{ChangesAt, IsInner}
use Rattle.pooma_part.specs.Cuts.{LaidView, parts_on}
use Rattle.pooma_part.proofs.Adding.{any_next, any_whole}
use Rattle.pooma_part.proofs.Sets.{same_members, sorted_once, ascending_of, counted_member, kept_member, chosen_rise}

-- ---- what was found of some views

-- the view comes to another part at the place
abbrev pub Comes : ℕ → Interval → ℤ → LaidView → Type 0
Comes n axis j v = ChangesAt (slice_get (parts_along v.layout v.view.slots) n) axis j

pub come_more : (views : List LaidView) (n : ℕ) (axis : Interval) (i : ℕ) (v : LaidView) (mid new : List ℤ) → i < length views → v ≡ get_or views i v
    → ((j : ℤ) → Contains mid j ↔ Any (Comes n axis j) (take i views))
    → ((j : ℤ) → Contains new j ↔ (Contains mid j ⊎ Comes n axis j v))
    → (j : ℤ) → Contains new j ↔ Any (Comes n axis j) (take (i + 1) views)
come_more views n axis i v mid new h is so_far step j =
    let next = any_next (Comes n axis j) views i v h in (
      λ m. next.1 (⊎_elim (λ old. inl ((so_far j).0 old)) (λ here. inr (subst (Comes n axis j) is here)) ((step j).0 m)),
      λ any. (step j).1 (⊎_elim (λ old. inl ((so_far j).1 old)) (λ here. inr (subst (Comes n axis j) (sym is) here)) (next.0 any)),
    )

pub come_all : (views : List LaidView) (n : ℕ) (axis : Interval) (i : ℕ) (places : List ℤ) → length views ≤ i
    → ((j : ℤ) → Contains places j ↔ Any (Comes n axis j) (take i views))
    → (j : ℤ) → Contains places j ↔ Any (Comes n axis j) views
come_all views n axis i places h so_far j =
    let whole = any_whole (Comes n axis j) views i h in (λ m. whole.0 ((so_far j).0 m), λ any. (so_far j).1 (whole.1 any))

-- ---- the borders

kept_some : {A B : Type 0} (h : A → Option B) (xs : List A) (x : A) (y : B) → Member xs x → h x ≡ Some y → Member (filter_map h xs) y
kept_some h [] x y m is = absurd m
kept_some h (z ∷ xs) x y m is =
    ⊎_elim (λ e. subst (λ o. Member (cons_option o (filter_map h xs)) y) (sym is ∙ ap h (sym e)) (inl refl))
    (λ later. by (h z) (kept_some h xs x y later is))
    m
  where
    by : (o : Option _) → Member (filter_map h xs) y → Member (cons_option o (filter_map h xs)) y
    by None l = l
    by (Some w) l = inr l

from_kept : {A B : Type 0} (h : A → Option B) (xs : List A) (y : B) → Member (filter_map h xs) y → (x : A) × Member xs x × (h x ≡ Some y)
from_kept h [] y m = absurd m
from_kept h (z ∷ xs) y m = by (h z) refl m (from_kept h xs y)
  where
    by : (o : Option _) → h z ≡ o → Member (cons_option o (filter_map h xs)) y → (Member (filter_map h xs) y → (x : _) × Member xs x × (h x ≡ Some y)) → (x : _) × Member (z ∷ xs) x × (h x ≡ Some y)
    by None e m later = let found = later m in (found.0, inr found.1, found.2)
    by (Some w) e m later =
        ⊎_elim (λ same. (z, inl refl, e ∙ ap Some same)) (λ l. let found = later l in (found.0, inr found.1, found.2)) m

parts_of_change : (o : Option (ℤ → ℕ)) (axis : Interval) (k : ℤ) → ChangesAt o axis k → IsInner axis k × ((part : ℤ → ℕ) × (o ≡ Some part) × (changes_part k part ≡ true))
parts_of_change None axis k h = absurd h
parts_of_change (Some part) axis k h = (h.0, (part, refl, h.1))

-- some view comes to another part at an inner place
some_comes : (views : List LaidView) (n : ℕ) (axis : Interval) (k : ℤ) → Any (Comes n axis k) views ↔ (IsInner axis k × (list_any (changes_part k) (parts_on views n) ≡ true))
some_comes views n axis k =
    let at_n : LaidView → Option (ℤ → ℕ) = λ v. slice_get (parts_along v.layout v.view.slots) n in (
      λ any.
          let found = any_of (Comes n axis k) views any in
          let change = parts_of_change (at_n found.0) axis k found.2 in (
            change.0,
            list_any-from_Any (changes_part k) (parts_on views n)
                (of_any (λ f. changes_part k f ≡ true) (parts_on views n) change.1.0 (kept_some at_n views found.0 change.1.0 found.1 change.1.1) change.1.2),
          ),
      λ h.
          let some = any_of (λ f. changes_part k f ≡ true) (parts_on views n) (Any-from_list_any (changes_part k) (parts_on views n) h.1) in
          let from = from_kept at_n views some.0 some.1 in
          of_any (Comes n axis k) views from.0 from.1 (subst (λ o. ChangesAt o axis k) (sym from.2) (h.0, some.2)),
    )

pub inner_counted : (axis : Interval) (k : ℤ) → axis.first ≤ℤ axis.last → Member (counting (axis.first +ℤ pos 1) (axis_length axis - 1)) k ↔ IsInner axis k
inner_counted axis k ordered =
    let long : pos (axis_length axis) ≡ (axis.last -ℤ axis.first) +ℤ pos 1 = length_of_interval axis ordered in
    let range = counted_member (axis.first +ℤ pos 1) (axis_length axis - 1) k in
    let end : (axis.first +ℤ pos 1) +ℤ pos (axis_length axis - 1) ≡ axis.last +ℤ pos 1 = omega (arith, ints, long, ordered) in (
      λ m. let within = range.0 m in (omega (arith, ints, within.0), omega (arith, ints, within.1, end)),
      λ h. range.1 (omega (arith, ints, h.0), omega (arith, ints, h.1, end)),
    )

pub borders_found : (views : List LaidView) (n : ℕ) (axis : Interval) (xs ys zs : List ℤ) → axis.first ≤ℤ axis.last → ((j : ℤ) → Contains xs j ↔ Any (Comes n axis j) views)
    → IsPermutation xs ys → IsSorted int_cmp ys → IsFiltered (DiffersFromLast int_eq) [] ys zs
    → zs ≡ borders_on (parts_on views n) axis
borders_found views n axis xs ys zs ordered are moved sorted once =
    let set = sorted_once xs ys zs moved sorted once in
    same_members zs (borders_on (parts_on views n) axis) set.0
    (chosen_rise (λ k. list_any (changes_part k) (parts_on views n)) (axis.first +ℤ pos 1) (axis_length axis - 1))
    (λ k.
    let chosen = kept_member (λ j. list_any (changes_part j) (parts_on views n)) (counting (axis.first +ℤ pos 1) (axis_length axis - 1)) k in
    let inner = inner_counted axis k ordered in
    let comes = some_comes views n axis k in (
      λ m. let both = comes.0 ((are k).0 ((set.1 k).1 m)) in chosen.1 (inner.1 both.0, both.1),
      λ m. let both = chosen.0 m in (set.1 k).0 ((are k).1 (comes.1 (inner.0 both.0, both.1))),
    ))

pub borders_ascend : (xs ys zs : List ℤ) → IsPermutation xs ys → IsSorted int_cmp ys → IsFiltered (DiffersFromLast int_eq) [] ys zs → IsAscending zs
borders_ascend xs ys zs moved sorted once = ascending_of zs (sorted_once xs ys zs moved sorted once).0

pub borders_inside : (views : List LaidView) (n : ℕ) (axis : Interval) (xs ys zs : List ℤ) → ((j : ℤ) → Contains xs j ↔ Any (Comes n axis j) views)
    → IsPermutation xs ys → IsSorted int_cmp ys → IsFiltered (DiffersFromLast int_eq) [] ys zs → AreBorders axis zs
borders_inside views n axis xs ys zs are moved sorted once =
    let set = sorted_once xs ys zs moved sorted once in
    λ k d h. ((some_comes views n axis (get_or zs k d)).0 ((are (get_or zs k d)).0 ((set.1 (get_or zs k d)).1 (at zs k d h)))).0
  where
    at : (zs : List ℤ) (k : ℕ) (d : ℤ) → k < length zs → Member zs (get_or zs k d)
    at [] k d h = absurd (omega arith)
    at (z ∷ zs) zero d h = inl refl
    at (z ∷ zs) (suc k) d h = inr (at zs k d (omega arith))
