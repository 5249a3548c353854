-- Which cells of a slab take their values from a box, axis by axis.
use Rattle.std.proofs.Common.{refl, sym, ap, ◌∙◌, subst, inl, inr, ⊎_elim, arith, length-set}
use Rattle.std.proofs.lemmas.Bool.{cases_lt}
use Rattle.std.proofs.lemmas.Int.{ints}
use Rattle.std.proofs.lemmas.List.Elements.{All-weaker}
use Rattle.std.proofs.lemmas.Option.{slice_get_within, slice_get-get_or, get_or_from_slice_get}
use Rattle.std.specs.Prelude.{◌≡◌, ◌≢◌, ◌↔◌, ◌⊎◌, ℕ, zero, suc, ◌+◌, ◌<◌, ◌≤◌, ℤ, pos, ◌+ℤ◌, ◌-ℤ◌, ◌≤ℤ◌, ◌<ℤ◌, Bool, true, false, Some, List, [], ◌∷◌, length, map, slice_get, slice_index_or, slice_set, All}
use Rattle.pooma_domain.specs.Cells.{Interval, IsAxis, IsBox, IsIn, IsOrdered}
use Rattle.pooma_field.specs.declared.shapes.Slab.{Slab}
use Rattle.pooma_field.specs.declared.updaters.Updater.{Updater}
use Rattle.pooma_field.specs.declared.updaters.Updater.TheVariants.{Constant, Periodic, Reflect, Antireflect, Extrapolate}
use Rattle.pooma_field.specs.Shapes.{Shaped, IsAround, IsInSlabs, IsShape, beyond, slab_axes}
use Rattle.pooma_field.specs.Slabs.{axis_at, coordinate_at, sources_along}
use Rattle.pooma_field.specs.Updaters.{IsConstant}
use Rattle.pooma_field.proofs.SlabBoxes.{firsts_in}
use Rattle.pooma_fill.specs.Boxes.{IsBesideAxis, IsWithin}
use Rattle.pooma_fill.specs.Filling.{number_from, source_from}
use Rattle.pooma_fill.proofs.Beside.{long, some_beside}

-- ---- a cell of slabs lies beside its axis

own_coordinate : (high : Bool) (n : ℕ) (physical total : List Interval) (c : List ℤ) → n < length physical → length total ≡ length physical → IsIn (slab_axes high n physical total) c → IsWithin (beyond high (axis_at physical n) (axis_at total n)).first (beyond high (axis_at physical n) (axis_at total n)).last (coordinate_at c n)
own_coordinate high n [] total c there same h = absurd (omega (arith, there))
own_coordinate high n (p ∷ physical) [] c there same h = absurd (omega (arith, same))
own_coordinate high zero (p ∷ physical) (t ∷ total) [] there same h = absurd h
own_coordinate high (suc n) (p ∷ physical) (t ∷ total) [] there same h = absurd h
own_coordinate high zero (p ∷ physical) (t ∷ total) (x ∷ xs) there same h = record { low = h.0; high = h.1 }
own_coordinate high (suc n) (p ∷ physical) (t ∷ total) (x ∷ xs) there same h =
    own_coordinate high n physical total xs (omega (arith, there)) (omega (arith, same)) h.2

beside_below : (p t : Interval) (x : ℤ) → IsAround p t → IsWithin (beyond false p t).first (beyond false p t).last x → IsBesideAxis false p x
beside_below p t x around on = let low : t.first ≤ℤ x = on.low in let high : x ≤ℤ (p.first -ℤ pos 1) = on.high in (omega (arith, ints, high), omega (arith, ints, low, around.few_low))

beside_above : (p t : Interval) (x : ℤ) → IsAround p t → IsWithin (beyond true p t).first (beyond true p t).last x → IsBesideAxis true p x
beside_above p t x around on = let low : (p.last +ℤ pos 1) ≤ℤ x = on.low in let high : x ≤ℤ t.last = on.high in (omega (arith, ints, low), omega (arith, ints, high, around.few_high))

at_of : (box : List Interval) (n : ℕ) → n < length box → slice_get box n ≡ Some (axis_at box n)
at_of box n there = slice_get-get_or box n _ there

pub cell_beside : (shape : Shaped) (n : ℕ) (c : List ℤ) → IsShape shape → IsInSlabs shape n c → IsBesideAxis false (axis_at shape.physical n) (coordinate_at c n) ⊎ IsBesideAxis true (axis_at shape.physical n) (coordinate_at c n)
cell_beside shape n c valid by =
    let around : IsAround (axis_at shape.physical n) (axis_at shape.total n) = valid.around n _ _ (at_of shape.physical n by.0) (at_of shape.total n (omega (arith, by.0, valid.same_dims))) in
    ⊎_elim
    (λ low. inl (beside_below (axis_at shape.physical n) (axis_at shape.total n) (coordinate_at c n) around (own_coordinate false n shape.physical shape.total c by.0 valid.same_dims low)))
    (λ high. inr (beside_above (axis_at shape.physical n) (axis_at shape.total n) (coordinate_at c n) around (own_coordinate true n shape.physical shape.total c by.0 valid.same_dims high)))
    by.1

-- ---- one coordinate of a box's cell, set to another number of its axis

pub set_inside : (box : List Interval) (c : List ℤ) (n : ℕ) (axis : Interval) (x : ℤ) → slice_get box n ≡ Some axis → IsIn box c → IsWithin axis.first axis.last x → IsIn box (slice_set c n x)
set_inside [] c n axis x at h on = cc
set_inside (a ∷ box) [] n axis x at h on = absurd h
set_inside (a ∷ box) (y ∷ c) zero axis x at h on =
    let same : a ≡ axis = cc in
    let here : IsWithin a.first a.last x = rw same on in
    (here.low, here.high, h.2)
set_inside (a ∷ box) (y ∷ c) (suc n) axis x at h on = (h.0, h.1, set_inside box c n axis x at h.2 on)

pub coordinate_set : (c : List ℤ) (n : ℕ) (x : ℤ) → n < length c → coordinate_at (slice_set c n x) n ≡ x
coordinate_set [] n x h = absurd (omega (arith, h))
coordinate_set (y ∷ c) zero x h = refl
coordinate_set (y ∷ c) (suc n) x h = coordinate_set c n x (omega (arith, h))

pub length_cell : (box : List Interval) (c : List ℤ) → IsIn box c → length c ≡ length box
length_cell [] [] h = refl
length_cell [] (x ∷ xs) h = absurd h
length_cell (axis ∷ axes) [] h = absurd h
length_cell (axis ∷ axes) (x ∷ xs) h = ap suc (length_cell axes xs h.2)

-- each number of a part's axis is beside the field's axis
pub numbers_beside : (shape : Shaped) (n : ℕ) (part : List Interval) (axis own : Interval) (x : ℤ) → IsShape shape → All IsOrdered part → slice_get part n ≡ Some axis → slice_get shape.physical n ≡ Some own → ((c : List ℤ) → IsIn part c → IsInSlabs shape n c) → IsWithin axis.first axis.last x → IsBesideAxis false own x ⊎ IsBesideAxis true own x
numbers_beside shape n part axis own x valid ordered at at_own by on =
    let corner : List ℤ = map (λ a. a.first) part in
    let inside : IsIn part corner = firsts_in part ordered in
    let c : List ℤ = slice_set corner n x in
    let there : n < length corner = omega (arith, slice_get_within part n axis at, length_cell part corner inside) in
    let is_own : axis_at shape.physical n ≡ own = get_or_from_slice_get shape.physical n own _ at_own in
    subst (λ (z : ℤ). IsBesideAxis false own z ⊎ IsBesideAxis true own z) (coordinate_set corner n x there)
    (subst (λ (a : Interval). IsBesideAxis false a (coordinate_at c n) ⊎ IsBesideAxis true a (coordinate_at c n)) is_own
    (cell_beside shape n c valid (by c (set_inside part corner n axis x at inside on))))

-- all numbers of a part lie on one side
pub all_above : (own part : Interval) (x : ℤ) → ((y : ℤ) → IsWithin part.first part.last y → IsBesideAxis false own y ⊎ IsBesideAxis true own y) → own.last <ℤ part.first → IsWithin part.first part.last x → IsBesideAxis true own x
all_above own part x near above on =
    ⊎_elim (λ below. absurd (let some = some_beside false own x below in omega (arith, ints, long own some, some, below.0, above, on.low))) (λ h. h) (near x on)

pub all_below : (own part : Interval) (x : ℤ) → part.first ≤ℤ part.last → ((y : ℤ) → IsWithin part.first part.last y → IsBesideAxis false own y ⊎ IsBesideAxis true own y) → part.first ≤ℤ own.last → IsWithin part.first part.last x → IsBesideAxis false own x
all_below own part x ordered near not_above on =
    ⊎_elim (λ below. below)
    (λ above. absurd (⊎_elim
    (λ h. let some = some_beside false own part.first h in
    ⊎_elim (λ f. omega (arith, ints, f.0)) (λ f. omega (arith, ints, f.0, long own some, some)) (near own.first (record { low = omega (arith, ints, h.0); high = omega (arith, ints, above.0, on.high, long own some, some) })))
    (λ h. omega (arith, ints, h.0, not_above))
    (near part.first (record { low = omega (arith, ints); high = ordered }))))
    (near x on)

-- ---- the first source of a cell

first_of : (u : Updater) (axis : Interval) (x : ℤ) (f : ℤ → List ℤ) → (IsConstant u → ⊥) → slice_index_or (map f (sources_along u axis x)) 0 [] ≡ f (number_from u axis x)
first_of (Constant k) axis x f moving = absurd (moving tt)
first_of Periodic axis x f moving = refl
first_of Reflect axis x f moving = refl
first_of Antireflect axis x f moving = refl
first_of Extrapolate axis x f moving = refl

-- it has another coordinate on the slab's axis alone
pub source_is : (shape : Shaped) (slab : Slab) (c : List ℤ) → (IsConstant slab.updater → ⊥) → source_from shape slab c ≡ slice_set c slab.axis (number_from slab.updater (axis_at shape.physical slab.axis) (coordinate_at c slab.axis))
source_is shape slab c moving = first_of slab.updater (axis_at shape.physical slab.axis) (coordinate_at c slab.axis) (λ y. slice_set c slab.axis y) moving

coordinate_other : (c : List ℤ) (n k : ℕ) (x : ℤ) → k ≢ n → coordinate_at (slice_set c n x) k ≡ coordinate_at c k
coordinate_other [] n k x other = refl
coordinate_other (y ∷ c) zero zero x other = absurd (other refl)
coordinate_other (y ∷ c) zero (suc k) x other = refl
coordinate_other (y ∷ c) (suc n) zero x other = refl
coordinate_other (y ∷ c) (suc n) (suc k) x other = coordinate_other c n k x (λ e. other (ap suc e))

-- ---- a box's cells by their coordinates

pub in_box : (box : List Interval) (c : List ℤ) → length c ≡ length box → ((k : ℕ) → k < length box → IsWithin (axis_at box k).first (axis_at box k).last (coordinate_at c k)) → IsIn box c
in_box [] [] same h = tt
in_box [] (x ∷ c) same h = absurd (omega (arith, same))
in_box (axis ∷ box) [] same h = absurd (omega (arith, same))
in_box (axis ∷ box) (x ∷ c) same h =
    let here : IsWithin axis.first axis.last x = h zero (omega arith) in
    (here.low, here.high, in_box box c (omega (arith, same)) (λ k below. h (suc k) (omega (arith, below))))

pub of_box : (box : List Interval) (c : List ℤ) (k : ℕ) → IsIn box c → k < length box → IsWithin (axis_at box k).first (axis_at box k).last (coordinate_at c k)
of_box [] c k h below = absurd (omega (arith, below))
of_box (axis ∷ box) [] k h below = absurd h
of_box (axis ∷ box) (x ∷ c) zero h below = record { low = h.0; high = h.1 }
of_box (axis ∷ box) (x ∷ c) (suc k) h below = of_box box c k h.2 (omega (arith, below))

-- ---- the cells kept so far

-- the cell's first source is on the axes of the box that have a lower number than this
abbrev pub IsTakenUpTo : Shaped → Slab → List Interval → ℕ → List ℤ → Type 0
IsTakenUpTo shape slab from n c =
    (k : ℕ) → k < n → IsWithin (axis_at from k).first (axis_at from k).last (coordinate_at (source_from shape slab c) k)

-- these cells of the part are kept
abbrev pub AreKept : Shaped → Slab → List Interval → List Interval → ℕ → List Interval → Type 0
AreKept shape slab part from n kept = (c : List ℤ) → IsIn kept c ↔ (IsIn part c × IsTakenUpTo shape slab from n c)

pub kept_first : (shape : Shaped) (slab : Slab) (part from : List Interval) → AreKept shape slab part from 0 part
kept_first shape slab part from = λ c. (λ h. (h, λ k below. absurd (omega (arith, below))), λ h. h.0)

-- a test of one coordinate more, which is the test of the source's
pub kept_more : (shape : Shaped) (slab : Slab) (part from kept more : List Interval) (n : ℕ) (first last : ℤ) → AreKept shape slab part from n kept → ((c : List ℤ) → IsIn part c → IsWithin first last (coordinate_at c n) ↔ IsWithin (axis_at from n).first (axis_at from n).last (coordinate_at (source_from shape slab c) n)) → ((c : List ℤ) → IsIn more c ↔ (IsIn kept c × IsWithin first last (coordinate_at c n))) → AreKept shape slab part from (n + 1) more
kept_more shape slab part from kept more n first last so same found = λ c. (
  λ h.
      let both = (found c).0 h in
      let before = (so c).0 both.0 in
      (before.0, λ k below. ⊎_elim (λ earlier. before.1 k earlier) (λ late. let here : k ≡ n = omega (arith, below, late) in subst (λ (j : ℕ). IsWithin (axis_at from j).first (axis_at from j).last (coordinate_at (source_from shape slab c) j)) (sym here) ((same c before.0).0 both.1)) (cases_lt k n)),
  λ h. (found c).1 ((so c).1 (h.0, λ k below. h.1 k (omega (arith, below))), (same c h.0).1 (h.1 n (omega arith))),
)

pub kept_none : (shape : Shaped) (slab : Slab) (part from kept : List Interval) (n : ℕ) (first last : ℤ) → n < length from → AreKept shape slab part from n kept → ((c : List ℤ) → IsIn part c → IsWithin first last (coordinate_at c n) ↔ IsWithin (axis_at from n).first (axis_at from n).last (coordinate_at (source_from shape slab c) n)) → ((c : List ℤ) → IsIn kept c → IsWithin first last (coordinate_at c n) → ⊥) → (c : List ℤ) → IsIn part c → IsIn from (source_from shape slab c) → ⊥
kept_none shape slab part from kept n first last below so same none c inside taken =
    none c ((so c).1 (inside, λ k before. of_box from (source_from shape slab c) k taken (omega (arith, before, below)))) ((same c inside).1 (of_box from (source_from shape slab c) n taken below))

pub kept_all : (shape : Shaped) (slab : Slab) (part from kept : List Interval) (n : ℕ) → (IsConstant slab.updater → ⊥) → length from ≡ length part → length from ≤ n → n ≤ length from → AreKept shape slab part from n kept → (c : List ℤ) → IsIn kept c ↔ (IsIn part c × IsIn from (source_from shape slab c))
kept_all shape slab part from kept n moving dims all only so c = (
  λ h. let both = (so c).0 h in (both.0, in_box from (source_from shape slab c) (source_dims both.0) (λ k below. both.1 k (omega (arith, below, all)))),
  λ h. (so c).1 (h.0, λ k below. of_box from (source_from shape slab c) k h.1 (omega (arith, below, only))),
)
  where
    source_dims : IsIn part c → length (source_from shape slab c) ≡ length from
    source_dims inside =
        ap length (source_is shape slab c moving) ∙ length-set c slab.axis (number_from slab.updater (axis_at shape.physical slab.axis) (coordinate_at c slab.axis)) ∙ length_cell part c inside ∙ sym dims

-- ---- the test of one axis

pub same_elsewhere : (shape : Shaped) (slab : Slab) (from : List Interval) (n : ℕ) (axis : Interval) → (IsConstant slab.updater → ⊥) → n ≢ slab.axis → slice_get from n ≡ Some axis → (c : List ℤ) → IsWithin axis.first axis.last (coordinate_at c n) ↔ IsWithin (axis_at from n).first (axis_at from n).last (coordinate_at (source_from shape slab c) n)
same_elsewhere shape slab from n axis moving other at c =
    let is_axis : axis_at from n ≡ axis = get_or_from_slice_get from n axis _ at in
    let is_x : coordinate_at (source_from shape slab c) n ≡ coordinate_at c n =
    ap (λ (s : List ℤ). coordinate_at s n) (source_is shape slab c moving) ∙ coordinate_other c slab.axis n (number_from slab.updater (axis_at shape.physical slab.axis) (coordinate_at c slab.axis)) other in
    rw (is_axis, is_x) (λ h. h, λ h. h)

pub same_beside : (shape : Shaped) (slab : Slab) (part from : List Interval) (n : ℕ) (axis own of_part : Interval) (first last : ℤ) → (IsConstant slab.updater → ⊥) → n ≡ slab.axis → slice_get from n ≡ Some axis → slice_get shape.physical n ≡ Some own → slice_get part n ≡ Some of_part → ((x : ℤ) → IsWithin first last x ↔ (IsWithin of_part.first of_part.last x × IsWithin axis.first axis.last (number_from slab.updater own x))) → (c : List ℤ) → IsIn part c → IsWithin first last (coordinate_at c n) ↔ IsWithin (axis_at from n).first (axis_at from n).last (coordinate_at (source_from shape slab c) n)
same_beside shape slab part from n axis own of_part first last moving here at at_own at_part found c inside =
    let is_axis : axis_at from n ≡ axis = get_or_from_slice_get from n axis _ at in
    let is_own : axis_at shape.physical slab.axis ≡ own = ap (axis_at shape.physical) (sym here) ∙ get_or_from_slice_get shape.physical n own _ at_own in
    let there : n < length c = omega (arith, slice_get_within part n of_part at_part, length_cell part c inside) in
    let is_x : coordinate_at (source_from shape slab c) n ≡ number_from slab.updater own (coordinate_at c n) =
    ap (λ (s : List ℤ). coordinate_at s n) (source_is shape slab c moving)
    ∙ ap (λ (k : ℕ). coordinate_at (slice_set c k (number_from slab.updater (axis_at shape.physical slab.axis) (coordinate_at c k))) n) (sym here)
    ∙ coordinate_set c n (number_from slab.updater (axis_at shape.physical slab.axis) (coordinate_at c n)) there
    ∙ ap (λ (a : Interval). number_from slab.updater a (coordinate_at c n)) is_own in
    let on_part : IsWithin of_part.first of_part.last (coordinate_at c n) =
    subst (λ (a : Interval). IsWithin a.first a.last (coordinate_at c n)) (get_or_from_slice_get part n of_part _ at_part) (of_box part c n inside (slice_get_within part n of_part at_part)) in
    rw (is_axis, is_x) (λ h. ((found (coordinate_at c n)).0 h).1, λ h. (found (coordinate_at c n)).1 (on_part, h))

-- no number of the part has its source there
pub none_beside : (shape : Shaped) (slab : Slab) (part from : List Interval) (n : ℕ) (axis own of_part : Interval) → (IsConstant slab.updater → ⊥) → n ≡ slab.axis → slice_get from n ≡ Some axis → slice_get shape.physical n ≡ Some own → slice_get part n ≡ Some of_part → ((x : ℤ) → IsWithin of_part.first of_part.last x → IsWithin axis.first axis.last (number_from slab.updater own x) → ⊥) → (c : List ℤ) → IsIn part c → IsIn from (source_from shape slab c) → ⊥
none_beside shape slab part from n axis own of_part moving here at at_own at_part none c inside taken =
    let same = same_beside shape slab part from n axis own of_part (pos 1) (pos 0) moving here at at_own at_part
    (λ x. (λ h. absurd (omega (arith, ints, h.low, h.high)), λ h. absurd (none x h.0 h.1))) c inside in
    let on : IsWithin (pos 1) (pos 0) (coordinate_at c n) = same.1 (of_box from (source_from shape slab c) n taken (slice_get_within from n axis at)) in
    omega (arith, ints, on.low, on.high)

-- the field has the slab's axis
pub axis_there : (shape : Shaped) (part : List Interval) (n m : ℕ) → n ≡ m → All IsOrdered part → ((c : List ℤ) → IsIn part c → IsInSlabs shape m c) → n < length shape.physical
axis_there shape part n m here ordered by = omega (arith, here, (by (map (λ a. a.first) part) (firsts_in part ordered)).0)

pub ordered_box : (box : List Interval) → IsBox box → All IsOrdered box
ordered_box box h = All-weaker IsAxis IsOrdered (λ axis a. a.ordered) box h.whole

-- the ends that were found, as a test of the source's number
pub join_ends : (u : Updater) (own : Interval) (a b low high first last from to p q x : ℤ) → p ≡ low → q ≡ high → IsWithin a b x ↔ (IsWithin first last x × IsWithin p q x) → (IsWithin first last x → IsWithin low high x ↔ IsWithin from to (number_from u own x)) → IsWithin a b x ↔ (IsWithin first last x × IsWithin from to (number_from u own x))
join_ends u own a b low high first last from to p q x e f found ends = (
  λ h. let both = found.0 h in (both.0, (ends both.0).0 (record { low = omega (arith, ints, e, both.1.low); high = omega (arith, ints, f, both.1.high) })),
  λ h. let between = (ends h.0).1 h.1 in found.1 (h.0, record { low = omega (arith, ints, e, between.low); high = omega (arith, ints, f, between.high) }),
)

pub join_none : (u : Updater) (own : Interval) (low high first last from to p q x : ℤ) → p ≡ low → q ≡ high → (IsWithin first last x → IsWithin p q x → ⊥) → (IsWithin first last x → IsWithin low high x ↔ IsWithin from to (number_from u own x)) → IsWithin first last x → IsWithin from to (number_from u own x) → ⊥
join_none u own low high first last from to p q x e f none ends on taken =
    let between = (ends on).1 taken in
    none on (record { low = omega (arith, ints, e, between.low); high = omega (arith, ints, f, between.high) })
