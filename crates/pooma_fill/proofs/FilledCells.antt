-- Which cells a fill of a slab sets: a box of them, whose sources have the same owners.
use Rattle.std.proofs.Common.{refl, sym, ap, ◌∙◌, subst, inl, inr, ⊎_elim, arith, length-set}
use Rattle.std.proofs.lemmas.Bool.{false≢true}
use Rattle.std.proofs.lemmas.Bool.Decides.{Decides-eqb}
use Rattle.std.proofs.lemmas.Int.{ints}
use Rattle.std.proofs.lemmas.List.Elements.{All-nil, All-cons, All-head, All-tail}
use Rattle.std.proofs.lemmas.Option.{slice_get-get_or, slice_get_within, same_Some}
use Rattle.std.specs.Prelude.{◌≡◌, ◌↔◌, ◌⊎◌, ℕ, zero, suc, ◌/◌, ◌%◌, ◌<◌, ℤ, pos, ◌+ℤ◌, ◌-ℤ◌, ◌≤ℤ◌, ◌<ℤ◌, Bool, true, false, Option, Some, None, option_map, List, [], ◌∷◌, length, map, slice_get, slice_set, All, Contains}
use Rattle.pooma_domain.specs.Cells.{Interval, interval, axis_length, IsIn, IsOrdered}
use Rattle.pooma_domain.specs.Operations.{common_axes, IsMeeting}
use Rattle.pooma_field.specs.declared.shapes.Slab.{Slab}
use Rattle.pooma_field.specs.declared.updaters.Updater.{Updater}
use Rattle.pooma_field.specs.declared.updaters.Updater.TheVariants.{Constant, Periodic, Reflect, Antireflect, Extrapolate}
use Rattle.pooma_field.specs.Shapes.{Shaped, IsAround, IsShape, beyond}
use Rattle.pooma_field.specs.Slabs.{axis_at, cell_sources, coordinate_at, slabs_of, sources_along}
use Rattle.pooma_field.specs.Updaters.{IsConstant, face, inner}
use Rattle.pooma_field.proofs.AlongAxes.{IsOn, less, not_less}
use Rattle.pooma_field.proofs.SlabValues.{IsCellOf, cell_of, external_cell, own_coordinate, sources_total}
use Rattle.pooma_layout.specs.Axes.{CutAxis, IsCutAxis, parts, total_axis}
use Rattle.pooma_layout.specs.Patches.{HaveSameParts, Owns, owned_boxes, owner_of, total_of}
use Rattle.pooma_layout.proofs.Choices.{box_at_place}
use Rattle.pooma_layout.proofs.Cutting.{Cut, only_part_has}
use Rattle.pooma_layout.proofs.Owning.{only_owner, owner_owns, same_owner, total_cut}
use Rattle.pooma_store.proofs.OwnerNumbers.{some_from}
use Rattle.pooma_fill.specs.Boxes.{IsBesideAxis, IsWithin, box_of}
use Rattle.pooma_fill.specs.Filling.{cells_filled, is_patch, number_from, source_from, source_owner}
use Rattle.pooma_fill.proofs.Beside.{AreEndsOf, face_above, face_below, long, shifted_above, shifted_below, some_beside, turned_above, turned_below}
use Rattle.pooma_fill.proofs.Listed.{HasLaws, IsLaid, filled_constant, filled_from, in_owned, laid_over, no_source, owns_by, part_owned, source_owned}
use Rattle.pooma_fill.proofs.Taken.{length_cell, of_box, source_is}

-- ---- cells of one patch

of_parts : (axis : CutAxis) (axes : List CutAxis) (i : ℕ) (part : Interval) (rest : List Interval) (c d : List ℤ) → IsCutAxis axis → slice_get (parts axis) i ≡ Some part → ((xs ys : List ℤ) → IsIn rest xs → IsIn rest ys → HaveSameParts axes xs ys) → IsIn (part ∷ rest) c → IsIn (part ∷ rest) d → HaveSameParts (axis ∷ axes) c d
of_parts axis axes i part rest [] d valid at later h k = absurd h
of_parts axis axes i part rest (x ∷ xs) [] valid at later h k = absurd k
of_parts axis axes i part rest (x ∷ xs) (y ∷ ys) valid at later h k =
    let cut : Cut (total_axis axis).first axis.borders (total_axis axis).last = total_cut axis valid in (
      sym (only_part_has (total_axis axis).first axis.borders (total_axis axis).last x i part cut at h.0 h.1)
          ∙ only_part_has (total_axis axis).first axis.borders (total_axis axis).last y i part cut at k.0 k.1,
      later xs ys h.2 k.2,
    )

no_parts : (c d : List ℤ) → IsIn [] c → IsIn [] d → HaveSameParts [] c d
no_parts [] [] h k = tt
no_parts [] (y ∷ d) h k = absurd k
no_parts (x ∷ c) d h k = absurd h

-- cells of one patch lie in the same part on each axis
pub same_parts : (layout : List CutAxis) (p : ℕ) (box : List Interval) (c d : List ℤ) → All IsCutAxis layout → slice_get (owned_boxes layout) p ≡ Some box → IsIn box c → IsIn box d → HaveSameParts layout c d
same_parts [] zero box c d valid at h k =
    let same : box ≡ [] = cc in no_parts c d (subst (λ (b : List Interval). IsIn b c) same h) (subst (λ (b : List Interval). IsIn b d) same k)
same_parts [] (suc p) box c d valid at h k = cc
same_parts (axis ∷ axes) p box c d valid at h k =
    let split : (part : Interval) × (rest : List Interval) × (slice_get (parts axis) (p % length (parts axis)) ≡ Some part) × (slice_get (owned_boxes axes) (p / length (parts axis)) ≡ Some rest) × (box ≡ part ∷ rest) =
    box_at_place (parts axis) (map parts axes) p box at in
    of_parts axis axes (p % length (parts axis)) split.0 split.1 c d (All-head IsCutAxis axis axes valid) split.2
    (λ xs ys i j. same_parts axes (p / length (parts axis)) split.1 xs ys (All-tail IsCutAxis axis axes valid) split.3 i j)
    (subst (λ (b : List Interval). IsIn b c) split.4 h) (subst (λ (b : List Interval). IsIn b d) split.4 k)

-- and so they do where one coordinate is set to the same number in both
set_parts : (layout : List CutAxis) (c d : List ℤ) (n : ℕ) (z : ℤ) → HaveSameParts layout c d → HaveSameParts layout (slice_set c n z) (slice_set d n z)
set_parts [] [] [] n z h = tt
set_parts [] [] (y ∷ ys) n z h = absurd h
set_parts [] (x ∷ xs) ys n z h = absurd h
set_parts (axis ∷ axes) [] ys n z h = absurd h
set_parts (axis ∷ axes) (x ∷ xs) [] n z h = absurd h
set_parts (axis ∷ axes) (x ∷ xs) (y ∷ ys) zero z h = (refl, h.1)
set_parts (axis ∷ axes) (x ∷ xs) (y ∷ ys) (suc n) z h = (h.0, set_parts axes xs ys n z h.1)

-- ---- beside an axis

-- a slab's cell lies beside the slab's axis, on the slab's side
cell_on_side : (shape : Shaped) (slab : Slab) (c : List ℤ) → IsShape shape → IsCellOf shape slab c → IsBesideAxis slab.high (axis_at shape.physical slab.axis) (coordinate_at c slab.axis)
cell_on_side shape slab c valid cell =
    by slab.high
    (own_coordinate slab.high slab.axis shape.physical shape.total c cell.there valid.same_dims cell.inside)
    (valid.around slab.axis (axis_at shape.physical slab.axis) (axis_at shape.total slab.axis) cell.axis (slice_get-get_or shape.total slab.axis _ (omega (arith, cell.there, valid.same_dims))))
  where
    by : (high : Bool) → IsOn (beyond high (axis_at shape.physical slab.axis) (axis_at shape.total slab.axis)) (coordinate_at c slab.axis) → IsAround (axis_at shape.physical slab.axis) (axis_at shape.total slab.axis) → IsBesideAxis high (axis_at shape.physical slab.axis) (coordinate_at c slab.axis)
    by false on around =
        let low : (axis_at shape.total slab.axis).first ≤ℤ coordinate_at c slab.axis = on.low in
        let high : coordinate_at c slab.axis ≤ℤ ((axis_at shape.physical slab.axis).first -ℤ pos 1) = on.high in
        (omega (arith, ints, high), omega (arith, ints, low, around.few_low))
    by true on around =
        let low : ((axis_at shape.physical slab.axis).last +ℤ pos 1) ≤ℤ coordinate_at c slab.axis = on.low in
        let high : coordinate_at c slab.axis ≤ℤ (axis_at shape.total slab.axis).last = on.high in
        (omega (arith, ints, low), omega (arith, ints, high, around.few_high))

ordered_then : (axis : Interval) (x : ℤ) → IsBesideAxis true axis x → axis.first ≤ℤ axis.last
ordered_then axis x h = let whole : pos (axis_length axis) ≡ (axis.last -ℤ axis.first) +ℤ pos 1 = long axis (some_beside true axis x h) in omega (arith, ints, whole, some_beside true axis x h)

-- numbers on one side have the same inner number
inner_alike : (high : Bool) (axis : Interval) (x y : ℤ) → IsBesideAxis high axis x → IsBesideAxis high axis y → inner axis x ≡ inner axis y
inner_alike false axis x y h k = rw (less x axis.first h.0, less y axis.first k.0) refl
inner_alike true axis x y h k =
    let ordered = ordered_then axis x h in
    rw (not_less x axis.first (omega (arith, ints, h.0, ordered)), not_less y axis.first (omega (arith, ints, k.0, ordered))) refl

-- between which numbers those are whose source is one of these
record HasEnds (u : Updater) (high : Bool) (own target from : Interval) : Type 0 where
  ends : Interval
  are : (x : ℤ) → IsWithin target.first target.last x → IsBesideAxis high own x → AreEndsOf u own ends.first ends.last from.first from.last x

turned_by : (u : Updater) (sum : ℤ) (high : Bool) (own target from : Interval) → ((x : ℤ) → IsBesideAxis high own x → AreEndsOf u own (sum -ℤ from.last) (sum -ℤ from.first) from.first from.last x) → HasEnds u high own target from
turned_by u sum high own target from h = record { ends = interval (sum -ℤ from.last) (sum -ℤ from.first); are = λ x on beside. h x beside }

at_face : (high : Bool) (own target from : Interval) (at : ℤ) → ((x : ℤ) → IsBesideAxis high own x → face own x ≡ at) → HasEnds Extrapolate high own target from
at_face high own target from at is = by (cases_number from.first at) (cases_number at from.last)
  where
    cases_number : (a b : ℤ) → (a ≤ℤ b) ⊎ (b <ℤ a)
    cases_number a b = grind (arith, ints)

    none : ((IsWithin from.first from.last at) → ⊥) → HasEnds Extrapolate high own target from
    none out = record {
      ends = interval (pos 1) (pos 0);
      are = λ x on beside. (
        λ h. let low : pos 1 ≤ℤ x = h.low in let top : x ≤ℤ pos 0 = h.high in absurd (omega (arith, ints, low, top)),
        λ h. absurd (out (subst (IsWithin from.first from.last) (is x beside) h)),
      );
    }

    by : (from.first ≤ℤ at) ⊎ (at <ℤ from.first) → (at ≤ℤ from.last) ⊎ (from.last <ℤ at) → HasEnds Extrapolate high own target from
    by (inl low) (inl top) = record {
      ends = target;
      are = λ x on beside. (λ h. subst (IsWithin from.first from.last) (sym (is x beside)) (record { low = low; high = top }), λ h. on);
    }
    by (inl low) (inr top) = none (λ w. omega (arith, ints, w.high, top))
    by (inr low) top = none (λ w. omega (arith, ints, w.low, low))

some_ends : (u : Updater) (high : Bool) (own target from : Interval) → (IsConstant u → ⊥) → HasEnds u high own target from
some_ends (Constant k) high own target from moving = absurd (moving tt)
some_ends Periodic false own target from moving =
    let by : ℤ = pos 0 -ℤ ((own.last -ℤ own.first) +ℤ pos 1) in
    record { ends = interval (from.first +ℤ by) (from.last +ℤ by); are = λ x on beside. shifted_below own by (from.first +ℤ by) (from.last +ℤ by) from.first from.last x refl refl refl beside }
some_ends Periodic true own target from moving =
    let by : ℤ = (own.last -ℤ own.first) +ℤ pos 1 in
    record { ends = interval (from.first +ℤ by) (from.last +ℤ by); are = λ x on beside. shifted_above own by (from.first +ℤ by) (from.last +ℤ by) from.first from.last x refl refl refl beside }
some_ends Reflect false own target from moving =
    let sum : ℤ = (own.first +ℤ own.first) -ℤ pos 1 in
    turned_by Reflect sum false own target from (λ x beside. turned_below own sum (sum -ℤ from.last) (sum -ℤ from.first) from.first from.last x refl refl refl beside)
some_ends Reflect true own target from moving =
    let sum : ℤ = (own.last +ℤ own.last) +ℤ pos 1 in
    turned_by Reflect sum true own target from (λ x beside. turned_above own sum (sum -ℤ from.last) (sum -ℤ from.first) from.first from.last x refl refl refl beside)
some_ends Antireflect false own target from moving =
    let sum : ℤ = (own.first +ℤ own.first) -ℤ pos 1 in
    turned_by Antireflect sum false own target from (λ x beside. turned_below own sum (sum -ℤ from.last) (sum -ℤ from.first) from.first from.last x refl refl refl beside)
some_ends Antireflect true own target from moving =
    let sum : ℤ = (own.last +ℤ own.last) +ℤ pos 1 in
    turned_by Antireflect sum true own target from (λ x beside. turned_above own sum (sum -ℤ from.last) (sum -ℤ from.first) from.first from.last x refl refl refl beside)
some_ends Extrapolate false own target from moving = at_face false own target from own.first (λ x beside. face_below own x beside)
some_ends Extrapolate true own target from moving = at_face true own target from own.last (λ x beside. face_above own x beside)

-- ---- one axis of a box, set to another one

set_axis : (box : List Interval) (n : ℕ) (e : Interval) (c : List ℤ) (y : ℤ) → n < length box → length c ≡ length box → IsWithin e.first e.last (coordinate_at c n) ↔ IsWithin (axis_at box n).first (axis_at box n).last y → IsIn (slice_set box n e) c ↔ IsIn box (slice_set c n y)
set_axis [] n e c y there same h = absurd (omega (arith, there))
set_axis (q ∷ box) n e [] y there same h = absurd (omega (arith, same))
set_axis (q ∷ box) zero e (x ∷ c) y there same h = (
  λ i. let on : IsWithin q.first q.last y = h.0 (record { low = i.0; high = i.1 }) in (on.low, on.high, i.2),
  λ i. let on : IsWithin e.first e.last x = h.1 (record { low = i.0; high = i.1 }) in (on.low, on.high, i.2),
)
set_axis (q ∷ box) (suc n) e (x ∷ c) y there same h =
    let later = set_axis box n e c y (omega (arith, there)) (omega (arith, same)) h in
    (λ i. (i.0, i.1, later.0 i.2), λ i. (i.0, i.1, later.1 i.2))

-- a box that has a cell has numbers on each axis
pub ordered_by : (box : List Interval) (c : List ℤ) → IsIn box c → All IsOrdered box
ordered_by [] c h = All-nil IsOrdered
ordered_by (axis ∷ box) [] h = absurd h
ordered_by (axis ∷ box) (x ∷ c) h = All-cons IsOrdered axis box (omega (arith, ints, h.0, h.1)) (ordered_by box c h.2)

-- ---- the owners of sources

one_source : (a b s : Option ℕ) → is_patch a s ≡ true → is_patch b s ≡ true → a ≡ b
one_source None None s e f = refl
one_source None (Some p) None e f = absurd (false≢true f)
one_source None (Some p) (Some q) e f = absurd (false≢true e)
one_source (Some p) None None e f = absurd (false≢true e)
one_source (Some p) None (Some q) e f = absurd (false≢true f)
one_source (Some p) (Some r) None e f = absurd (false≢true e)
one_source (Some p) (Some r) (Some q) e f = ap Some ((Decides-eqb p q).0 e ∙ sym ((Decides-eqb r q).0 f))

owners_alike : (u : Updater) (axis : Interval) (x y : ℤ) (f g : ℤ → List ℤ) (own : List ℤ → ℕ) → option_map own (slice_get (map f (sources_along u axis x)) 0) ≡ option_map own (slice_get (map g (sources_along u axis y)) 0) → own (f (inner axis x)) ≡ own (g (inner axis y)) → map own (map f (sources_along u axis x)) ≡ map own (map g (sources_along u axis y))
owners_alike (Constant k) axis x y f g own first second = refl
owners_alike Periodic axis x y f g own first second = ap (λ (p : ℕ). p ∷ []) (same_Some _ _ first)
owners_alike Reflect axis x y f g own first second = ap (λ (p : ℕ). p ∷ []) (same_Some _ _ first)
owners_alike Antireflect axis x y f g own first second = ap (λ (p : ℕ). p ∷ []) (same_Some _ _ first)
owners_alike Extrapolate axis x y f g own first second =
    ap (λ (p : ℕ). p ∷ own (f (inner axis x)) ∷ []) (same_Some _ _ first) ∙ ap (λ (p : ℕ). own (g (face axis y)) ∷ p ∷ []) second

pub constant_or_moving : (u : Updater) → IsConstant u ⊎ (IsConstant u → ⊥)
constant_or_moving (Constant k) = inl tt
constant_or_moving Periodic = inr (λ h. h)
constant_or_moving Reflect = inr (λ h. h)
constant_or_moving Antireflect = inr (λ h. h)
constant_or_moving Extrapolate = inr (λ h. h)

-- ---- the cells of one fill

module _ (layout : List CutAxis) (cut : All IsCutAxis layout) (shape : Shaped) (valid : IsShape shape) (same : shape.total ≡ total_of layout) (slab : Slab) (there : Contains (slabs_of shape) slab) where
  -- one of the slab's cells, that this patch owns and whose value is taken from that one
  pub record IsTaken (p : ℕ) (source : Option ℕ) (c : List ℤ) : Type 0 where
    pub inside : IsIn slab.target c
    pub owner : owner_of layout c ≡ p
    pub from : is_patch (source_owner layout shape slab c) source ≡ true

  pub of_slab : (c : List ℤ) → IsIn slab.target c → IsCellOf shape slab c
  of_slab c inside = cell_of shape slab c valid there inside

  pub total_cell : (c : List ℤ) → IsIn slab.target c → IsIn (total_of layout) c
  total_cell c inside = subst (λ (box : List Interval). IsIn box c) same (external_cell shape slab c valid (of_slab c inside)).0

  laid : IsLaid layout shape slab
  laid = laid_over layout shape slab cut same (λ c h. (external_cell shape slab c valid (of_slab c h)).0) (λ c h. sources_total shape slab c valid (of_slab c h))

  pub source_total_of : (c : List ℤ) → IsIn slab.target c → (IsConstant slab.updater → ⊥) → IsIn (total_of layout) (source_from shape slab c)
  source_total_of c inside moving = laid.sources c inside moving

  -- the box of the patch that owns a cell
  pub owned_box : (c : List ℤ) → IsIn (total_of layout) c → (box : List Interval) × (slice_get (owned_boxes layout) (owner_of layout c) ≡ Some box) × IsIn box c
  owned_box c total = some_from (λ box. IsIn box c) (slice_get (owned_boxes layout) (owner_of layout c)) (owner_owns layout c total)

  pub owns_it : (p : ℕ) (source : Option ℕ) (c : List ℤ) → IsTaken p source c → Owns layout p c
  owns_it p source c of_c = subst (λ (k : ℕ). Owns layout k c) of_c.owner (owner_owns layout c (total_cell c of_c.inside))

  -- the sources of the cells of a fill have the same owners
  pub owners_same : (p : ℕ) (source : Option ℕ) (c d : List ℤ) → IsTaken p source c → IsTaken p source d → map (owner_of layout) (cell_sources shape slab c) ≡ map (owner_of layout) (cell_sources shape slab d)
  owners_same p source c d of_c of_d =
      owners_alike slab.updater (axis_at shape.physical slab.axis) (coordinate_at c slab.axis) (coordinate_at d slab.axis) (λ y. slice_set c slab.axis y) (λ y. slice_set d slab.axis y) (owner_of layout)
      (one_source (source_owner layout shape slab c) (source_owner layout shape slab d) source of_c.from of_d.from)
      (same_owner layout (slice_set c slab.axis (inner (axis_at shape.physical slab.axis) (coordinate_at c slab.axis))) (slice_set d slab.axis (inner (axis_at shape.physical slab.axis) (coordinate_at d slab.axis)))
      (subst (λ (z : ℤ). HaveSameParts layout (slice_set c slab.axis (inner (axis_at shape.physical slab.axis) (coordinate_at c slab.axis))) (slice_set d slab.axis z)) alike
      (set_parts layout c d slab.axis (inner (axis_at shape.physical slab.axis) (coordinate_at c slab.axis)) together)))
    where
      alike : inner (axis_at shape.physical slab.axis) (coordinate_at c slab.axis) ≡ inner (axis_at shape.physical slab.axis) (coordinate_at d slab.axis)
      alike = inner_alike slab.high (axis_at shape.physical slab.axis) (coordinate_at c slab.axis) (coordinate_at d slab.axis) (cell_on_side shape slab c valid (of_slab c of_c.inside)) (cell_on_side shape slab d valid (of_slab d of_d.inside))

      together : HaveSameParts layout c d
      together =
          let box = owned_box c (total_cell c of_c.inside) in
          let of_p : slice_get (owned_boxes layout) p ≡ Some box.0 = ap (slice_get (owned_boxes layout)) (sym of_c.owner) ∙ box.1 in
          same_parts layout p box.0 c d cut of_p box.2 (in_owned layout p box.0 d of_p (owns_it p source d of_d))

  -- the box of these cells
  pub record HasBox (p : ℕ) (source : Option ℕ) : Type 0 where
    pub box : List Interval
    pub is : box_of (cells_filled layout shape slab p source) ≡ Some box
    pub cells : (c : List ℤ) → IsIn box c ↔ IsTaken p source c

  module _ (laws : HasLaws) (meeting : (a b : List Interval) → length a ≡ length b → IsMeeting a b (common_axes a b)) (p : ℕ) (f : List ℤ) (in_f : IsIn slab.target f) (owner_f : owner_of layout f ≡ p) where
    abbrev of_p : List Interval
    of_p = (owned_box f (total_cell f in_f)).0

    at_p : slice_get (owned_boxes layout) p ≡ Some of_p
    at_p = ap (slice_get (owned_boxes layout)) (sym owner_f) ∙ (owned_box f (total_cell f in_f)).1

    f_of_p : IsIn of_p f
    f_of_p = (owned_box f (total_cell f in_f)).2

    abbrev part : List Interval
    part = common_axes slab.target of_p

    met : IsMeeting slab.target of_p part
    met = meeting slab.target of_p (sym (length_cell slab.target f in_f) ∙ length_cell of_p f f_of_p)

    meets : (c : List ℤ) → IsIn part c ↔ (IsIn slab.target c × Owns layout p c)
    meets c = part_owned layout p of_p slab.target part c at_p (met c)

    f_of_part : IsIn part f
    f_of_part = (met f).1 (in_f, f_of_p)

    owned_then : (c : List ℤ) → Owns layout p c → owner_of layout c ≡ p
    owned_then c owns = sym (only_owner layout p c cut owns)

    box_constant : IsConstant slab.updater → HasBox p None
    box_constant constant = record {
      box = part;
      is = filled_constant laws layout shape slab p part laid constant (ordered_by part f f_of_part) meets;
      cells = λ c. (
        λ h. let both = (meets c).0 h in record { inside = both.0; owner = owned_then c both.1; from = ap (λ (o : Option ℕ). is_patch o None) (no_source layout shape slab c constant) },
        λ h. (meets c).1 (h.inside, owns_it p None c h),
      );
    }

    module _ (moving : IsConstant slab.updater → ⊥) where
      abbrev n : ℕ
      n = slab.axis

      abbrev own : Interval
      own = axis_at shape.physical slab.axis

      source_total : (c : List ℤ) → IsIn slab.target c → IsIn (total_of layout) (source_from shape slab c)
      source_total c h = laid.sources c h moving

      abbrev q : ℕ
      q = owner_of layout (source_from shape slab f)

      abbrev of_q : List Interval
      of_q = (owned_box (source_from shape slab f) (source_total f in_f)).0

      at_q : slice_get (owned_boxes layout) q ≡ Some of_q
      at_q = (owned_box (source_from shape slab f) (source_total f in_f)).1

      source_of_q : IsIn of_q (source_from shape slab f)
      source_of_q = (owned_box (source_from shape slab f) (source_total f in_f)).2

      abbrev has : HasEnds slab.updater slab.high own (axis_at slab.target n) (axis_at of_q n)
      has = some_ends slab.updater slab.high own (axis_at slab.target n) (axis_at of_q n) moving

      long_source : (c : List ℤ) → length (source_from shape slab c) ≡ length c
      long_source c = ap length (source_is shape slab c moving) ∙ length-set c n (number_from slab.updater own (coordinate_at c n))

      dims : length f ≡ length of_q
      dims = sym (long_source f) ∙ length_cell of_q (source_from shape slab f) source_of_q

      there_q : n < length of_q
      there_q = omega (arith, slice_get_within f n (coordinate_at f n) (of_slab f in_f).coordinate, dims)

      abbrev narrow : List Interval
      narrow = slice_set of_q n has.ends

      abbrev cells : List Interval
      cells = common_axes part narrow

      met_too : IsMeeting part narrow cells
      met_too = meeting part narrow (sym (length_cell part f f_of_part) ∙ dims ∙ sym (length-set of_q n has.ends))

      taken : (c : List ℤ) → IsIn part c → IsIn narrow c ↔ IsIn of_q (source_from shape slab c)
      taken c h =
          let inside : IsIn slab.target c = ((meets c).0 h).0 in
          let as_long : length c ≡ length of_q = length_cell part c h ∙ sym (length_cell part f f_of_part) ∙ dims in
          let there_target : n < length slab.target = omega (arith, slice_get_within c n (coordinate_at c n) (of_slab c inside).coordinate, length_cell slab.target c inside) in
          let ends = has.are (coordinate_at c n) (of_box slab.target c n inside there_target) (cell_on_side shape slab c valid (of_slab c inside)) in
          subst (λ (s : List ℤ). IsIn narrow c ↔ IsIn of_q s) (sym (source_is shape slab c moving))
          (set_axis of_q n has.ends c (number_from slab.updater own (coordinate_at c n)) there_q as_long ends)

      are : (c : List ℤ) → IsIn cells c ↔ (IsIn part c × IsIn of_q (source_from shape slab c))
      are c = (
        λ h. let both = (met_too c).0 h in (both.0, (taken c both.0).0 both.1),
        λ h. (met_too c).1 (h.0, (taken c h.0).1 h.1),
      )

      box_moving : HasBox p (Some q)
      box_moving = record {
        box = cells;
        is = filled_from laws layout shape slab p q of_q part laid moving at_q meets cells (ordered_by cells f ((are f).1 (f_of_part, source_of_q))) are;
        cells = λ c. (
          λ h.
              let both = (are c).0 h in
              let inside = (meets c).0 both.0 in
              let owner : owner_of layout (source_from shape slab c) ≡ q = sym (only_owner layout q (source_from shape slab c) cut (owns_by layout q of_q (source_from shape slab c) at_q both.1)) in
              record {
                inside = inside.0;
                owner = owned_then c inside.1;
                from = subst (λ (o : Option ℕ). is_patch o (Some q) ≡ true) (sym (source_owned layout shape slab c moving)) ((Decides-eqb (owner_of layout (source_from shape slab c)) q).1 owner);
              },
          λ h.
              let from : is_patch (Some (owner_of layout (source_from shape slab c))) (Some q) ≡ true = subst (λ (o : Option ℕ). is_patch o (Some q) ≡ true) (source_owned layout shape slab c moving) h.from in
              let owner : owner_of layout (source_from shape slab c) ≡ q = (Decides-eqb (owner_of layout (source_from shape slab c)) q).0 from in
              (are c).1 (
                (meets c).1 (h.inside, owns_it p (Some q) c h),
                in_owned layout q of_q (source_from shape slab c) at_q (subst (λ (k : ℕ). Owns layout k (source_from shape slab c)) owner (owner_owns layout (source_from shape slab c) (source_total c h.inside))),
              ),
        );
      }

  -- where one cell is taken so, there is a box of all that are
  pub has_box : HasLaws → ((a b : List Interval) → length a ≡ length b → IsMeeting a b (common_axes a b)) → (p : ℕ) (source : Option ℕ) (f : List ℤ) → IsTaken p source f → HasBox p source
  has_box laws meeting p source f of_f =
      ⊎_elim
      (λ constant.
      let is : None ≡ source = one_source_is None source (subst (λ (o : Option ℕ). is_patch o source ≡ true) (no_source layout shape slab f constant) of_f.from) in
      subst (HasBox p) is (box_constant laws meeting p f of_f.inside of_f.owner constant))
      (λ moving.
      let is : Some (owner_of layout (source_from shape slab f)) ≡ source = one_source_is (Some (owner_of layout (source_from shape slab f))) source (subst (λ (o : Option ℕ). is_patch o source ≡ true) (source_owned layout shape slab f moving) of_f.from) in
      subst (HasBox p) is (box_moving laws meeting p f of_f.inside of_f.owner moving))
      (constant_or_moving slab.updater)
    where
      one_source_is : (a s : Option ℕ) → is_patch a s ≡ true → a ≡ s
      one_source_is None None e = refl
      one_source_is None (Some q) e = absurd (false≢true e)
      one_source_is (Some p) None e = absurd (false≢true e)
      one_source_is (Some p) (Some q) e = ap Some ((Decides-eqb p q).0 e)
