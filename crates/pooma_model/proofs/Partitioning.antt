-- The cells of boxes that are the parts of one: each of its cells, once.
use Rattle.std.proofs.Common.{refl, sym, ap, ◌∙◌, subst, inl, inr, ⊎_elim, arith, get_or}
use Rattle.std.proofs.lemmas.Bool.{cases_eq, cases_lt}
use Rattle.std.proofs.lemmas.List.Elements.{All-contains}
use Rattle.std.proofs.lemmas.List.Edits.{length-swap, swapped_from_swap}
use Rattle.std.proofs.lemmas.List.Sorted.{Contains-permutation, IsPermutation-keeps, IsPermutation-sym}
use Rattle.std.proofs.lemmas.Option.{get_or_from_slice_get, slice_get_within}
use Rattle.std.specs.List.{swap}
use Rattle.std.specs.List.Sorted.{IsPermutation}
use Rattle.std.specs.Prelude.{◌≡◌, ◌≢◌, ◌⊎◌, ◌↔◌, ℕ, ◌<◌, ℤ, Some, List, [], ◌∷◌, length, slice_get, Contains, flat_map, All, Any, AllPairs}
use Rattle.pooma_logic.proofs.Members.{Member, any_of, contains_of, joined_member, member_at, member_joined, member_of, of_any}
use Rattle.pooma_logic.proofs.Pairs.{pairs_rest, pairs_with_first}
use Rattle.pooma_domain.specs.Cells.{Interval, cells_of, IsBefore, IsIn}
use Rattle.pooma_domain.specs.Operations.{HaveCommonCell}
use Rattle.pooma_model.specs.Partitions.{IsOfOthers, IsPartition}
use Rattle.pooma_model.proofs.Lists.{Distinct, distinct_by_places, distinct_joined}

-- what the law on the order of cells tells
pub record OfCells : Type 0 where
  pub members : (box : List Interval) (c : List ℤ) → Contains (cells_of box) c ↔ IsIn box c
  pub once : (box : List Interval) (c : List ℤ) (j k : ℕ) → slice_get (cells_of box) j ≡ Some c → slice_get (cells_of box) k ≡ Some c → j ≡ k
  pub ascending : (box : List Interval) → AllPairs IsBefore (cells_of box)

pub is_in : OfCells → (box : List Interval) (p : List ℤ) → Member (cells_of box) p → IsIn box p
is_in known box p m = (known.members box p).0 (contains_of (cells_of box) p m)

pub is_cell : OfCells → (box : List Interval) (p : List ℤ) → IsIn box p → Member (cells_of box) p
is_cell known box p h = member_of (cells_of box) p ((known.members box p).1 h)

pub cells_once : OfCells → (box : List Interval) → Distinct (cells_of box)
cells_once known box = distinct_by_places (cells_of box) (λ j k p at_j at_k. known.once box p j k at_j at_k)

pub all_once : OfCells → (boxes : List (List Interval)) → AllPairs (λ one other. HaveCommonCell one other → ⊥) boxes → Distinct (flat_map cells_of boxes)
all_once known [] apart = tt
all_once known (box ∷ boxes) apart =
    distinct_joined (cells_of box) (flat_map cells_of boxes) (cells_once known box)
    (all_once known boxes (pairs_rest (λ one other. HaveCommonCell one other → ⊥) box boxes apart))
    (λ p here later.
    let found = joined_member cells_of boxes p later in
    pairs_with_first (λ one other. HaveCommonCell one other → ⊥) box boxes apart found.0 (contains_of boxes found.0 found.1) (p, is_in known box p here, is_in known found.0 p found.2))

module _ (known : OfCells) (whole : List Interval) (boxes : List (List Interval)) (parts : IsPartition whole boxes) where
  pub parts_once : Distinct (flat_map cells_of boxes)
  parts_once = all_once known boxes parts.apart

  -- the part in which a position lies
  pub part_with : (p : List ℤ) → IsIn whole p → (box : List Interval) × Member boxes box × IsIn box p
  part_with p h = any_of (λ box. IsIn box p) boxes ((parts.cells p).0 h)

  pub within : (box : List Interval) (p : List ℤ) → Member boxes box → IsIn box p → IsIn whole p
  within box p m h = (parts.cells p).1 (of_any (λ b. IsIn b p) boxes box m h)

  pub same_cells : (p : List ℤ) → Member (flat_map cells_of boxes) p ↔ Member (cells_of whole) p
  same_cells p = (
    λ m. let found = joined_member cells_of boxes p m in is_cell known whole p (within found.0 p found.1 (is_in known found.0 p found.2)),
    λ m. let found = part_with p (is_in known whole p m) in member_joined cells_of boxes found.0 p found.1 (is_cell known found.0 p found.2),
  )

-- ---- parts in another order

abbrev Meets : List Interval → List Interval → Type 0
Meets one other = HaveCommonCell one other → ⊥

-- no two at different places have a common cell
abbrev NoneMeet : List (List Interval) → Type 0
NoneMeet boxes = (i j : ℕ) (d : List Interval) → i ≢ j → i < length boxes → j < length boxes → Meets (get_or boxes i d) (get_or boxes j d)

turned : (one other : List Interval) → Meets one other → Meets other one
turned one other apart common = apart (common.0, common.2, common.1)

none_meet : (boxes : List (List Interval)) → AllPairs Meets boxes → NoneMeet boxes
none_meet boxes apart i j d differ below_i below_j =
    ⊎_elim (λ less. apart i j d less below_j)
    (λ more. turned (get_or boxes j d) (get_or boxes i d) (apart j i d (omega arith) below_i))
    (cases_lt i j)

-- the place a was the place b before i and j were exchanged
abbrev Came : ℕ → ℕ → ℕ → ℕ → Type 0
Came i j a b = ((a ≡ i) × (b ≡ j)) ⊎ (((a ≡ j) × (b ≡ i)) ⊎ ((a ≢ i) × (a ≢ j) × (b ≡ a)))

came_apart : (i j a b c d : ℕ) → Came i j a c → Came i j b d → a ≢ b → c ≢ d
came_apart i j a b c d from_a from_b differ same =
    ⊎_elim
    (λ h. ⊎_elim (λ k. differ (omega arith)) (λ rest. ⊎_elim (λ k. differ (omega arith)) (λ k. k.1 (omega arith)) rest) from_b)
    (λ more. ⊎_elim
    (λ h. ⊎_elim (λ k. differ (omega arith)) (λ rest. ⊎_elim (λ k. differ (omega arith)) (λ k. k.0 (omega arith)) rest) from_b)
    (λ h. ⊎_elim (λ k. h.1 (omega arith)) (λ rest. ⊎_elim (λ k. h.0 (omega arith)) (λ k. differ (omega arith)) rest) from_b)
    more)
    from_a

came_from : (boxes : List (List Interval)) (i j a : ℕ) (d : List Interval) → i < length boxes → j < length boxes → a < length boxes
    → (b : ℕ) × (b < length boxes) × (get_or (swap boxes i j) a d ≡ get_or boxes b d) × Came i j a b
came_from boxes i j a d below_i below_j below =
    let moved = swapped_from_swap boxes (swap boxes i j) i j d below_i below_j refl in
    ⊎_elim (λ e. (j, below_j, ap (λ k. get_or (swap boxes i j) k d) e ∙ moved.0, inl (e, refl)))
    (λ no_i. ⊎_elim (λ e. (i, below_i, ap (λ k. get_or (swap boxes i j) k d) e ∙ moved.1, inr (inl (e, refl))))
    (λ no_j. (a, below, moved.2 a no_i no_j, inr (inr (no_i, no_j, refl))))
    (cases_eq a j))
    (cases_eq a i)

swap_keeps : (boxes : List (List Interval)) (i j : ℕ) → i < length boxes → j < length boxes → NoneMeet boxes → NoneMeet (swap boxes i j)
swap_keeps boxes i j below_i below_j none a b d differ below_a below_b common =
    let one = came_from boxes i j a d below_i below_j (omega (arith, length-swap boxes i j)) in
    let other = came_from boxes i j b d below_i below_j (omega (arith, length-swap boxes i j)) in
    none one.0 other.0 d (came_apart i j a b one.0 other.0 one.3 other.3 differ) one.1 other.1
    (subst (λ x. HaveCommonCell x (get_or boxes other.0 d)) one.2 (subst (λ x. HaveCommonCell (get_or (swap boxes i j) a d) x) other.2 common))

pub any_in_order : {X : Type 0} (P : X → Type 0) → (xs ys : List X) → IsPermutation xs ys → Any P xs → Any P ys
any_in_order P xs ys moved any =
    let there = any_of P xs any in
    of_any P ys there.0 (member_of ys there.0 (Contains-permutation xs ys there.0 moved (contains_of xs there.0 there.1))) there.2

pub parts_moved : (whole : List Interval) (boxes others : List (List Interval)) → IsPermutation boxes others → IsPartition whole boxes → IsPartition whole others
parts_moved whole boxes others moved parts = record {
  cells = λ p. (
    λ h. any_in_order (λ box. IsIn box p) boxes others moved ((parts.cells p).0 h),
    λ any. (parts.cells p).1 (any_in_order (λ box. IsIn box p) others boxes (IsPermutation-sym boxes others moved) any),
  );
  apart = λ i j d less below.
      IsPermutation-keeps boxes NoneMeet (none_meet boxes parts.apart) swap_keeps others moved i j d (let differ : i ≢ j = omega arith in differ) (omega arith) below;
}

-- ---- positions of other parts

module _ (whole : List Interval) (boxes : List (List Interval)) (parts : IsPartition whole boxes) (k : ℕ) (done : List (List ℤ)) (others : All (IsOfOthers boxes k) done) where
  pub others_within : All (IsIn whole) done
  others_within i d below =
      let there = others i d below in
      (parts.cells (get_or done i d)).1 (of_any (λ box. IsIn box (get_or done i d)) boxes there.1 (member_at boxes there.0 there.1 there.3) there.4)

  pub others_apart : (box : List Interval) (p : List ℤ) → slice_get boxes k ≡ Some box → IsIn box p → ¬ (Contains done p)
  others_apart box p at inside has =
      let there = All-contains (IsOfOthers boxes k) done p others has in
      none_meet boxes parts.apart there.0 k box there.2 (slice_get_within boxes there.0 there.1 there.3) (slice_get_within boxes k box at) (
        p,
        subst (λ b. IsIn b p) (sym (get_or_from_slice_get boxes there.0 there.1 box there.3)) there.4,
        subst (λ b. IsIn b p) (sym (get_or_from_slice_get boxes k box box at)) inside,
      )
