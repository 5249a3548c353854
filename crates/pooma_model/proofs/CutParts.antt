-- The parts of a statement: each of its positions lies in one, and in each a view comes from one part of its array.
use Rattle.std.proofs.Common.{refl, sym, ap, ◌∙◌, subst, inl, inr, ⊎_elim, arith, cond, get_or, length-append}
use Rattle.std.proofs.Math.Nat.{mul-suc}
use Rattle.std.proofs.lemmas.Bool.{eqb-true, false≢true}
use Rattle.std.proofs.lemmas.Int.{ints, by_lt_z}
use Rattle.std.proofs.lemmas.List.{length-map}
use Rattle.std.specs.List.{cons_option, filter, filter_map, list_any}
use Rattle.std.specs.Prelude.{◌≡◌, ◌⊎◌, ℕ, zero, suc, ◌+◌, ◌-◌, ◌*◌, ◌==◌, ◌<◌, ℤ, pos, negsuc, ◌+ℤ◌, ◌-ℤ◌, ◌≤ℤ◌, ◌<ℤ◌, Bool, true, false, not, ◌||◌, Option, Some, None, List, [], ◌∷◌, ◌++◌, length, map, flat_map, slice_get, AllPairs, Contains}
use Rattle.pooma_logic.proofs.Members.{Member, any_of, joined_member, member_cases, member_image, member_joined, member_map, member_of, of_any}
use Rattle.pooma_domain.specs.Cells.{Interval, interval, axis_length, count_of, counting, IsBefore, IsIn}
use Rattle.pooma_domain.specs.Operations.{HaveCommonCell}
use Rattle.pooma_view.specs.declared.slots.Slot.{Slot}
use Rattle.pooma_view.specs.declared.slots.Slot.TheVariants.{Fixed, Along}
use Rattle.pooma_view.specs.Slots.{cell_named, positions_of}
use Rattle.pooma_view.specs.Views.{Viewed}
use Rattle.pooma_layout.specs.Axes.{CutAxis, cut_at}
use Rattle.pooma_layout.specs.Blocks.{product}
use Rattle.pooma_layout.specs.Patches.{boxes_of, HaveSameParts}
use Rattle.pooma_model.specs.Declarations.{Declared, layout_at}
use Rattle.pooma_model.specs.Partitions.{IsPartition}
use Rattle.pooma_model.specs.Parts.{borders_on, changes_part, cut_axes, parts_along, parts_of}

-- ---- lists whose elements are apart

abbrev Separate : {A : Type 0} → (A → A → Type 0) → List A → Type 0
Separate R [] = Unit {0}
Separate R (x ∷ xs) = ((y : _) → Member xs y → R x y) × Separate R xs

separate_joined : {A : Type 0} (R : A → A → Type 0) (xs ys : List A) → Separate R xs → Separate R ys → ((x y : A) → Member xs x → Member ys y → R x y) → Separate R (xs ++ ys)
separate_joined R [] ys sx sy cross = sy
separate_joined R (x ∷ xs) ys sx sy cross = (
  λ y m. ⊎_elim (λ l. sx.0 y l) (λ r. cross x y (inl refl) r) (member_cases xs ys y m),
  separate_joined R xs ys sx.1 sy (λ z y l r. cross z y (inr l) r),
)

pairs_of : {A : Type 0} (R : A → A → Type 0) (xs : List A) → Separate R xs → AllPairs R xs
pairs_of R [] s i j d less below = absurd (omega arith)
pairs_of R (x ∷ xs) s zero zero d less below = absurd (omega arith)
pairs_of R (x ∷ xs) s zero (suc j) d less below = s.0 (get_or xs j d) (there xs j d (omega arith))
  where
    there : {A : Type 0} (xs : List A) (k : ℕ) (d : A) → k < length xs → Member xs (get_or xs k d)
    there [] k d h = absurd (omega arith)
    there (y ∷ ys) zero d h = inl refl
    there (y ∷ ys) (suc k) d h = inr (there ys k d (omega arith))
pairs_of R (x ∷ xs) s (suc i) zero d less below = absurd (omega arith)
pairs_of R (x ∷ xs) s (suc i) (suc j) d less below = pairs_of R xs s.1 i j d (omega arith) (omega arith)

-- ---- one axis

abbrev OnAxis : Interval → ℤ → Type 0
OnAxis axis x = (axis.first ≤ℤ x) × (x ≤ℤ axis.last)

abbrev NoneCommon : Interval → Interval → Type 0
NoneCommon one other = (x : ℤ) → OnAxis one x → OnAxis other x → ⊥

-- the borders ascend from above a first number to no more than a last one
abbrev Ascend : ℤ → List ℤ → ℤ → Type 0
Ascend first [] last = Unit {0}
Ascend first (border ∷ later) last = (first <ℤ border) × (border ≤ℤ last) × Ascend border later last

ascend_above : (first : ℤ) (borders : List ℤ) (last k : ℤ) → Ascend first borders last → Member borders k → first <ℤ k
ascend_above first [] last k up m = absurd m
ascend_above first (border ∷ later) last k up m =
    ⊎_elim (λ e. subst (λ z. first <ℤ z) e up.0)
    (λ l. let above : border <ℤ k = ascend_above border later last k up.2 l in let here = up.0 in omega (arith, ints))
    m

filtered_ascend : (test : ℤ → Bool) (c : ℤ) (n : ℕ) (first last : ℤ) → first <ℤ c → (c +ℤ pos n) ≤ℤ (last +ℤ pos 1) → Ascend first (filter test (counting c n)) last
filtered_ascend test c zero first last above room = tt
filtered_ascend test c (suc n) first last above room =
    by (test c) (filtered_ascend test (c +ℤ pos 1) n c last (omega (arith, ints)) (omega (arith, ints)))
    (filtered_ascend test (c +ℤ pos 1) n first last (omega (arith, ints)) (omega (arith, ints)))
  where
    by : (b : Bool) → Ascend c (filter test (counting (c +ℤ pos 1) n)) last → Ascend first (filter test (counting (c +ℤ pos 1) n)) last
        → Ascend first (cond b (c ∷ filter test (counting (c +ℤ pos 1) n)) (filter test (counting (c +ℤ pos 1) n))) last
    by true here later = (above, (let end = room in omega (arith, ints)), here)
    by false here later = later

cut_covers : (first : ℤ) (borders : List ℤ) (last x : ℤ) → Ascend first borders last → first ≤ℤ x → x ≤ℤ last → (part : Interval) × Member (cut_at first borders last) part × OnAxis part x
cut_covers first [] last x up low high = (interval first last, inl refl, (low, high))
cut_covers first (border ∷ later) last x up low high =
    by_lt_z x border
    (λ below. (interval first (border -ℤ pos 1), inl refl, (low, omega (arith, ints))))
    (λ above. let found = cut_covers border later last x up.2 above high in (found.0, inr found.1, found.2))

cut_within : (first : ℤ) (borders : List ℤ) (last x : ℤ) (part : Interval) → Ascend first borders last → Member (cut_at first borders last) part → OnAxis part x → (first ≤ℤ x) × (x ≤ℤ last)
cut_within first [] last x part up m on =
    ⊎_elim (λ e. subst (λ i. OnAxis i x) (sym e) on) (λ none. absurd none) m
cut_within first (border ∷ later) last x part up m on =
    ⊎_elim
    (λ e. let here : OnAxis (interval first (border -ℤ pos 1)) x = subst (λ i. OnAxis i x) (sym e) on in
    let low : first ≤ℤ x = here.0 in let high : x ≤ℤ (border -ℤ pos 1) = here.1 in let end : border ≤ℤ last = up.1 in (low, omega (arith, ints)))
    (λ l. let rest = cut_within border later last x part up.2 l on in
    let low : border ≤ℤ x = rest.0 in let start : first <ℤ border = up.0 in (omega (arith, ints), rest.1))
    m

cut_separate : (first : ℤ) (borders : List ℤ) (last : ℤ) → Ascend first borders last → Separate NoneCommon (cut_at first borders last)
cut_separate first [] last up = (λ part m. absurd m, tt)
cut_separate first (border ∷ later) last up = (
  λ part m x here there.
      let high : x ≤ℤ (border -ℤ pos 1) = here.1 in
      let low : border ≤ℤ x = (cut_within border later last x part up.2 m there).0 in
      absurd (omega (arith, ints)),
  cut_separate border later last up.2,
)

-- a part begins where the first does, or later
begins : (first : ℤ) (borders : List ℤ) (last : ℤ) (part : Interval) → Ascend first borders last → Member (cut_at first borders last) part → first ≤ℤ part.first
begins first [] last part up m = ⊎_elim (λ e. let at : first ≡ part.first = ap (λ (i : Interval). i.first) e in omega (arith, ints, at)) (λ none. absurd none) m
begins first (c ∷ later) last part up m =
    ⊎_elim (λ e. let at : first ≡ part.first = ap (λ (i : Interval). i.first) e in omega (arith, ints, at))
    (λ l. let rest : c ≤ℤ part.first = begins c later last part up.2 l in let start : first <ℤ c = up.0 in omega (arith, ints))
    m

-- each part begins above the one before it
cut_ascends : (first : ℤ) (borders : List ℤ) (last : ℤ) → Ascend first borders last → Separate (λ one other. one.first <ℤ other.first) (cut_at first borders last)
cut_ascends first [] last up = (λ part m. absurd m, tt)
cut_ascends first (border ∷ later) last up = (
  λ part m. let start : first <ℤ border = up.0 in let low : border ≤ℤ part.first = begins border later last part up.2 m in omega (arith, ints),
  cut_ascends border later last up.2,
)

-- the parts of an axis are parts of it
record CutsAxis (parts : List Interval) (axis : Interval) : Type 0 where
  covers : (x : ℤ) → OnAxis axis x → (part : Interval) × Member parts part × OnAxis part x
  within : (part : Interval) (x : ℤ) → Member parts part → OnAxis part x → OnAxis axis x
  separate : Separate NoneCommon parts
  ascend : Separate (λ one other. one.first <ℤ other.first) parts

whole_or_none : (z : ℤ) → (pos (count_of z) ≡ z) ⊎ (count_of z ≡ 0)
whole_or_none (pos n) = inl refl
whole_or_none (negsuc n) = inr refl

borders_ascend : (views : List (ℤ → ℕ)) (axis : Interval) → Ascend axis.first (borders_on views axis) axis.last
borders_ascend views axis =
    ⊎_elim
    (λ whole. by (axis_length axis) whole)
    (λ none. let empty : axis_length axis - 1 ≡ 0 = omega (arith, none) in
    subst (λ (n : ℕ). Ascend axis.first (filter (λ k. list_any (changes_part k) views) (counting (axis.first +ℤ pos 1) n)) axis.last) (sym empty) tt)
    (whole_or_none ((axis.last -ℤ axis.first) +ℤ pos 1))
  where
    by : (n : ℕ) → pos n ≡ (axis.last -ℤ axis.first) +ℤ pos 1 → Ascend axis.first (filter (λ k. list_any (changes_part k) views) (counting (axis.first +ℤ pos 1) (n - 1))) axis.last
    by zero is = tt
    by (suc n) is =
        let less : suc n - 1 ≡ n = omega arith in
        subst (λ (m : ℕ). Ascend axis.first (filter (λ k. list_any (changes_part k) views) (counting (axis.first +ℤ pos 1) m)) axis.last) (sym less)
        (filtered_ascend (λ k. list_any (changes_part k) views) (axis.first +ℤ pos 1) n axis.first axis.last (omega (arith, ints)) (omega (arith, ints, is)))

cuts_axis : (views : List (ℤ → ℕ)) (axis : Interval) → CutsAxis (cut_at axis.first (borders_on views axis) axis.last) axis
cuts_axis views axis =
    let up = borders_ascend views axis in
    record {
      covers = λ x on. cut_covers axis.first (borders_on views axis) axis.last x up on.0 on.1;
      within = λ part x m on. cut_within axis.first (borders_on views axis) axis.last x part up m on;
      separate = cut_separate axis.first (borders_on views axis) axis.last up;
      ascend = cut_ascends axis.first (borders_on views axis) axis.last up;
    }

-- ---- boxes

abbrev AreCuts : List (List Interval) → List Interval → Type 0
AreCuts [] [] = Unit {0}
AreCuts [] (axis ∷ axes) = ⊥
AreCuts (parts ∷ cuts) [] = ⊥
AreCuts (parts ∷ cuts) (axis ∷ axes) = CutsAxis parts axis × AreCuts cuts axes

abbrev Apart : List Interval → List Interval → Type 0
Apart one other = HaveCommonCell one other → ⊥

-- a box with one more axis before it
abbrev with_part : List Interval → List Interval → List (List Interval)
with_part parts box = map (λ part. part ∷ box) parts

member_with : (parts : List Interval) (boxes : List (List Interval)) (box : List Interval) → Member (flat_map (with_part parts) boxes) box
    → (part : Interval) × (rest : List Interval) × Member parts part × Member boxes rest × (part ∷ rest ≡ box)
member_with parts boxes box m =
    let found = joined_member (with_part parts) boxes box m in
    let first = member_image (λ part. part ∷ found.0) parts box found.2 in
    (first.0, found.0, first.1, found.1, first.2)

boxes_cover : (cuts : List (List Interval)) (axes : List Interval) (p : List ℤ) → AreCuts cuts axes → IsIn axes p → (box : List Interval) × Member (boxes_of cuts) box × IsIn box p
boxes_cover [] [] [] are h = ([], inl refl, tt)
boxes_cover [] [] (x ∷ p) are h = absurd h
boxes_cover [] (axis ∷ axes) p are h = absurd are
boxes_cover (parts ∷ cuts) [] p are h = absurd are
boxes_cover (parts ∷ cuts) (axis ∷ axes) [] are h = absurd h
boxes_cover (parts ∷ cuts) (axis ∷ axes) (x ∷ p) are h =
    let part = are.0.covers x (h.0, h.1) in
    let rest = boxes_cover cuts axes p are.1 h.2 in
    (part.0 ∷ rest.0, member_joined (with_part parts) (boxes_of cuts) rest.0 (part.0 ∷ rest.0) rest.1 (member_map (λ i. i ∷ rest.0) parts part.0 part.1), (part.2.0, part.2.1, rest.2))

boxes_within : (cuts : List (List Interval)) (axes : List Interval) (p : List ℤ) (box : List Interval) → AreCuts cuts axes → Member (boxes_of cuts) box → IsIn box p → IsIn axes p
boxes_within [] [] p box are m h = ⊎_elim (λ e. subst (λ b. IsIn b p) (sym e) h) (λ none. absurd none) m
boxes_within [] (axis ∷ axes) p box are m h = absurd are
boxes_within (parts ∷ cuts) [] p box are m h = absurd are
boxes_within (parts ∷ cuts) (axis ∷ axes) p box are m h =
    let found = member_with parts (boxes_of cuts) box m in
    by p found (subst (λ b. IsIn b p) (sym found.4) h) (boxes_within cuts axes)
  where
    by : (q : List ℤ) (found : (part : Interval) × (rest : List Interval) × Member parts part × Member (boxes_of cuts) rest × (part ∷ rest ≡ box)) → IsIn (found.0 ∷ found.1) q
        → ((r : List ℤ) (b : List Interval) → AreCuts cuts axes → Member (boxes_of cuts) b → IsIn b r → IsIn axes r) → IsIn (axis ∷ axes) q
    by [] found inside later = absurd inside
    by (x ∷ q) found inside later =
        let on = are.0.within found.0 x found.2 (inside.0, inside.1) in
        (on.0, on.1, later q found.1 are.1 found.3 inside.2)

first_apart : (box : List Interval) (one other : Interval) → NoneCommon one other → Apart (one ∷ box) (other ∷ box)
first_apart box one other none common = by common.0 common.1 common.2
  where
    by : (c : List ℤ) → IsIn (one ∷ box) c → IsIn (other ∷ box) c → ⊥
    by [] h k = h
    by (x ∷ c) h k = none x (h.0, h.1) (k.0, k.1)

rest_apart : (one other : Interval) (box rest : List Interval) → Apart box rest → Apart (one ∷ box) (other ∷ rest)
rest_apart one other box rest none common = by common.0 common.1 common.2
  where
    by : (c : List ℤ) → IsIn (one ∷ box) c → IsIn (other ∷ rest) c → ⊥
    by [] h k = h
    by (x ∷ c) h k = none (c, h.2, k.2)

with_part_separate : (parts : List Interval) (box : List Interval) → Separate NoneCommon parts → Separate Apart (with_part parts box)
with_part_separate [] box s = tt
with_part_separate (part ∷ parts) box s = (
  λ other m. let found = member_image (λ i. i ∷ box) parts other m in
      subst (Apart (part ∷ box)) found.2 (first_apart box part found.0 (s.0 found.0 found.1)),
  with_part_separate parts box s.1,
)

joined_separate : (parts : List Interval) (boxes : List (List Interval)) → Separate NoneCommon parts → Separate Apart boxes → Separate Apart (flat_map (with_part parts) boxes)
joined_separate parts [] s t = tt
joined_separate parts (box ∷ boxes) s t =
    separate_joined Apart (with_part parts box) (flat_map (with_part parts) boxes) (with_part_separate parts box s) (joined_separate parts boxes s t.1)
    (λ one other m l.
    let first = member_image (λ i. i ∷ box) parts one m in
    let found = member_with parts boxes other l in
    subst (λ b. Apart b other) first.2 (subst (Apart (first.0 ∷ box)) found.4 (rest_apart first.0 found.0 box found.1 (t.0 found.1 found.3))))

boxes_separate : (cuts : List (List Interval)) (axes : List Interval) → AreCuts cuts axes → Separate Apart (boxes_of cuts)
boxes_separate [] [] are = (λ box m. absurd m, tt)
boxes_separate [] (axis ∷ axes) are = absurd are
boxes_separate (parts ∷ cuts) [] are = absurd are
boxes_separate (parts ∷ cuts) (axis ∷ axes) are = joined_separate parts (boxes_of cuts) are.0.separate (boxes_separate cuts axes are.1)

are_cuts : (declared : Declared) (views : List Viewed) (n : ℕ) (positions : List Interval) → AreCuts (cut_axes declared views n positions) positions
are_cuts declared views n [] = tt
are_cuts declared views n (axis ∷ axes) =
    (cuts_axis (filter_map (λ view. slice_get (parts_along (layout_at declared view.array) view.slots) n) views) axis, are_cuts declared views (suc n) axes)

-- each position lies in one part
pub parts_partition : (declared : Declared) (views : List Viewed) (positions : List Interval) → IsPartition positions (parts_of declared views positions)
parts_partition declared views positions =
    let cuts = cut_axes declared views 0 positions in
    let are = are_cuts declared views 0 positions in
    record {
      cells = λ p. (
        λ h. let found = boxes_cover cuts positions p are h in of_any (λ box. IsIn box p) (boxes_of cuts) found.0 found.1 found.2,
        λ any. let found = any_of (λ box. IsIn box p) (boxes_of cuts) any in boxes_within cuts positions p found.0 are found.1 found.2,
      );
      apart = pairs_of Apart (boxes_of cuts) (boxes_separate cuts positions are);
    }

-- ---- their order

-- the first position of a box stands before that of the other
abbrev pub Begins : List Interval → List Interval → Type 0
Begins one other = IsBefore (map (λ axis. axis.first) one) (map (λ axis. axis.first) other)

with_part_begins : (parts : List Interval) (box : List Interval) → Separate (λ one other. one.first <ℤ other.first) parts → Separate Begins (with_part parts box)
with_part_begins [] box s = tt
with_part_begins (part ∷ parts) box s = (
  λ other m. let found = member_image (λ i. i ∷ box) parts other m in
      subst (Begins (part ∷ box)) found.2 (inr (refl, s.0 found.0 found.1)),
  with_part_begins parts box s.1,
)

joined_begins : (parts : List Interval) (boxes : List (List Interval)) → Separate (λ one other. one.first <ℤ other.first) parts → Separate Begins boxes → Separate Begins (flat_map (with_part parts) boxes)
joined_begins parts [] s t = tt
joined_begins parts (box ∷ boxes) s t =
    separate_joined Begins (with_part parts box) (flat_map (with_part parts) boxes) (with_part_begins parts box s) (joined_begins parts boxes s t.1)
    (λ one other m l.
    let first = member_image (λ i. i ∷ box) parts one m in
    let found = member_with parts boxes other l in
    subst (λ b. Begins b other) first.2 (subst (Begins (first.0 ∷ box)) found.4 (inl (t.0 found.1 found.3))))

boxes_begin : (cuts : List (List Interval)) (axes : List Interval) → AreCuts cuts axes → Separate Begins (boxes_of cuts)
boxes_begin [] [] are = (λ box m. absurd m, tt)
boxes_begin [] (axis ∷ axes) are = absurd are
boxes_begin (parts ∷ cuts) [] are = absurd are
boxes_begin (parts ∷ cuts) (axis ∷ axes) are = joined_begins parts (boxes_of cuts) are.0.ascend (boxes_begin cuts axes are.1)

pub parts_ordered : (declared : Declared) (views : List Viewed) (positions : List Interval) → AllPairs Begins (parts_of declared views positions)
parts_ordered declared views positions =
    let cuts = cut_axes declared views 0 positions in
    pairs_of Begins (boxes_of cuts) (boxes_begin cuts positions (are_cuts declared views 0 positions))

-- ---- how many they are

length_with : (parts : List Interval) (boxes : List (List Interval)) → length (flat_map (with_part parts) boxes) ≡ length parts * length boxes
length_with parts [] = omega arith
length_with parts (box ∷ boxes) =
    length-append (with_part parts box) (flat_map (with_part parts) boxes)
    ∙ omega (arith, length-map parts (λ part. part ∷ box), length_with parts boxes, mul-suc (length parts) (length boxes))

pub boxes_counted : (cuts : List (List Interval)) → length (boxes_of cuts) ≡ product (map length cuts)
boxes_counted [] = refl
boxes_counted (parts ∷ cuts) =
    length_with parts (boxes_of cuts) ∙ ap (λ (n : ℕ). length parts * n) (boxes_counted cuts)

pub parts_counted : (first : ℤ) (borders : List ℤ) (last : ℤ) → length (cut_at first borders last) ≡ length borders + 1
parts_counted first [] last = refl
parts_counted first (border ∷ later) last = let rest = parts_counted border later last in omega arith

-- ---- in a part each view comes from one part of its array

-- a border is not inside a part
none_inside : (first : ℤ) (borders : List ℤ) (last k : ℤ) (part : Interval) → Ascend first borders last → Member (cut_at first borders last) part → part.first <ℤ k → k ≤ℤ part.last → Member borders k → ⊥
none_inside first [] last k part up m low high border = border
none_inside first (b ∷ later) last k part up m low high border =
    ⊎_elim
    (λ e. let end : part.last ≡ b -ℤ pos 1 = ap (λ (i : Interval). i.last) (sym e) in
    ⊎_elim (λ same. let at : b ≡ k = same in absurd (omega (arith, ints, end, at)))
    (λ l. let above : b <ℤ k = ascend_above b later last k up.2 l in absurd (omega (arith, ints, end)))
    border)
    (λ l. ⊎_elim (λ same. let at : b ≡ k = same in let start : b ≤ℤ part.first = begins b later last part up.2 l in absurd (omega (arith, ints, at)))
    (λ r. none_inside b later last k part up.2 l low high r)
    border)
    m

counted_there : (c : ℤ) (n : ℕ) (k : ℤ) → c ≤ℤ k → k <ℤ (c +ℤ pos n) → Member (counting c n) k
counted_there c zero k low high = absurd (omega (arith, ints))
counted_there c (suc n) k low high =
    by_lt_z c k
    (λ less. inr (counted_there (c +ℤ pos 1) n k (omega (arith, ints)) (omega (arith, ints))))
    (λ more. inl (omega (arith, ints)))

kept_there : (test : ℤ → Bool) (xs : List ℤ) (k : ℤ) → Member xs k → test k ≡ true → Member (filter test xs) k
kept_there test [] k m passes = absurd m
kept_there test (x ∷ xs) k m passes =
    ⊎_elim
    (λ e. subst (λ z. Member (cond (test z) (z ∷ filter test xs) (filter test xs)) k) (sym e)
    (subst (λ b. Member (cond b (k ∷ filter test xs) (filter test xs)) k) (sym passes) (inl refl)))
    (λ later. by (test x) (kept_there test xs k later passes))
    m
  where
    by : (b : Bool) → Member (filter test xs) k → Member (cond b (x ∷ filter test xs) (filter test xs)) k
    by true l = inr l
    by false l = l

any_passes : {A : Type 0} (test : A → Bool) (xs : List A) (x : A) → Member xs x → list_any test xs ≡ false → test x ≡ false
any_passes test [] x m none = absurd m
any_passes test (y ∷ ys) x m none =
    ⊎_elim (λ e. subst (λ z. test z ≡ false) e (left (test y) (list_any test ys) none)) (λ later. any_passes test ys x later (right (test y) (list_any test ys) none)) m
  where
    left : (a b : Bool) → (a || b) ≡ false → a ≡ false
    left true b e = e
    left false b e = refl

    right : (a b : Bool) → (a || b) ≡ false → b ≡ false
    right true b e = absurd (false≢true (sym e))
    right false b e = e

not_changed : (k : ℤ) (part : ℤ → ℕ) → changes_part k part ≡ false → part (k -ℤ pos 1) ≡ part k
not_changed k part e = eqb-true (part (k -ℤ pos 1)) (part k) (by (part (k -ℤ pos 1) == part k) e)
  where
    by : (b : Bool) → not b ≡ false → b ≡ true
    by true h = refl
    by false h = absurd (false≢true (sym h))

count_whole : (z : ℤ) → pos 0 ≤ℤ z → pos (count_of z) ≡ z
count_whole (pos n) h = refl
count_whole (negsuc n) h = absurd (omega (arith, ints))

below_end : (n : ℕ) (first last k : ℤ) → pos n ≡ (last -ℤ first) +ℤ pos 1 → first <ℤ k → k ≤ℤ last → k <ℤ ((first +ℤ pos 1) +ℤ pos (n - 1))
below_end zero first last k is low high = absurd (omega (arith, ints))
below_end (suc n) first last k is low high =
    let less : suc n - 1 ≡ n = omega arith in
    subst (λ (m : ℕ). k <ℤ ((first +ℤ pos 1) +ℤ pos m)) (sym less) (omega (arith, ints))

module _ (views : List (ℤ → ℕ)) (axis : Interval) (part : Interval) (m : Member (cut_at axis.first (borders_on views axis) axis.last) part) (f : ℤ → ℕ) (seen : Member views f) where
  abbrev test : ℤ → Bool
  test k = list_any (changes_part k) views

  on_axis : (k : ℤ) → OnAxis part k → OnAxis axis k
  on_axis k on = cut_within axis.first (borders_on views axis) axis.last k part (borders_ascend views axis) m on

  -- two numbers next to each other
  same_before : (k : ℤ) → axis.first <ℤ k → k ≤ℤ axis.last → part.first <ℤ k → k ≤ℤ part.last → f (k -ℤ pos 1) ≡ f k
  same_before k start end low high = by (test k) refl
    where
      there : Member (counting (axis.first +ℤ pos 1) (axis_length axis - 1)) k
      there =
          counted_there (axis.first +ℤ pos 1) (axis_length axis - 1) k (omega (arith, ints))
          (below_end (axis_length axis) axis.first axis.last k (count_whole ((axis.last -ℤ axis.first) +ℤ pos 1) (omega (arith, ints))) start end)

      by : (b : Bool) → test k ≡ b → f (k -ℤ pos 1) ≡ f k
      by true e = absurd (none_inside axis.first (borders_on views axis) axis.last k part (borders_ascend views axis) m low high (kept_there test (counting (axis.first +ℤ pos 1) (axis_length axis - 1)) k there e))
      by false e = not_changed k f (any_passes (changes_part k) views f seen e)

  steps : (d : ℕ) (x : ℤ) → OnAxis part x → (x +ℤ pos d) ≤ℤ part.last → f x ≡ f (x +ℤ pos d)
  steps zero x on high = let same : x ≡ x +ℤ pos 0 = omega (arith, ints) in ap f same
  steps (suc d) x on high =
      let low : part.first ≤ℤ x = on.0 in
      let start : axis.first ≤ℤ x = (on_axis x on).0 in
      let more : (x +ℤ pos d) ≤ℤ part.last = omega (arith, ints) in
      let end : (x +ℤ pos (suc d)) ≤ℤ axis.last = (on_axis (x +ℤ pos (suc d)) (omega (arith, ints), high)).1 in
      let before : (x +ℤ pos (suc d)) -ℤ pos 1 ≡ x +ℤ pos d = omega (arith, ints) in
      steps d x on more ∙ ap f (sym before)
      ∙ same_before (x +ℤ pos (suc d)) (omega (arith, ints)) end (omega (arith, ints)) high

  up_from : (x y : ℤ) → OnAxis part x → OnAxis part y → x ≤ℤ y → f x ≡ f y
  up_from x y on_x on_y up =
      let d = count_of (y -ℤ x) in
      let far : pos d ≡ y -ℤ x = count_whole (y -ℤ x) (omega (arith, ints)) in
      let there : x +ℤ pos d ≡ y = omega (arith, ints, far) in
      steps d x on_x (subst (λ z. z ≤ℤ part.last) (sym there) on_y.1) ∙ ap f there

  same_in_part : (x y : ℤ) → OnAxis part x → OnAxis part y → f x ≡ f y
  same_in_part x y on_x on_y =
      by_lt_z x y (λ less. up_from x y on_x on_y (omega (arith, ints))) (λ more. sym (up_from y x on_y on_x more))

kept_some : {A B : Type 0} (h : A → Option B) (xs : List A) (x : A) (y : B) → Member xs x → h x ≡ Some y → Member (filter_map h xs) y
kept_some h [] x y m is = absurd m
kept_some h (z ∷ xs) x y m is =
    ⊎_elim (λ e. subst (λ o. Member (cons_option o (filter_map h xs)) y) (sym is ∙ ap h (sym e)) (inl refl))
    (λ later. by (h z) (kept_some h xs x y later is))
    m
  where
    by : (o : Option _) → Member (filter_map h xs) y → Member (cons_option o (filter_map h xs)) y
    by None l = l
    by (Some w) l = inr l

-- on each axis of positions the function has one number at both
abbrev SameOn : List (ℤ → ℕ) → List ℤ → List ℤ → Type 0
SameOn [] p q = Unit {0}
SameOn (f ∷ fs) [] q = ⊥
SameOn (f ∷ fs) (x ∷ p) [] = ⊥
SameOn (f ∷ fs) (x ∷ p) (y ∷ q) = (f x ≡ f y) × SameOn fs p q

same_parts : (layout : List CutAxis) (slots : List Slot) (p q : List ℤ) → length layout ≡ length slots → SameOn (parts_along layout slots) p q → HaveSameParts layout (cell_named slots p) (cell_named slots q)
same_parts [] [] p q e h = tt
same_parts [] (slot ∷ slots) p q e h = absurd (omega arith)
same_parts (axis ∷ axes) [] p q e h = absurd (omega arith)
same_parts (axis ∷ axes) (Fixed x ∷ slots) p q e h = (refl, same_parts axes slots p q (omega arith) h)
same_parts (axis ∷ axes) (Along s ∷ slots) [] q e h = absurd h
same_parts (axis ∷ axes) (Along s ∷ slots) (k ∷ p) [] e h = absurd h
same_parts (axis ∷ axes) (Along s ∷ slots) (k ∷ p) (l ∷ q) e h = (h.0, same_parts axes slots p q (omega arith) h.1)

one_each : (layout : List CutAxis) (slots : List Slot) → length layout ≡ length slots → length (parts_along layout slots) ≡ length (positions_of slots)
one_each [] [] e = refl
one_each [] (slot ∷ slots) e = absurd (omega arith)
one_each (axis ∷ axes) [] e = absurd (omega arith)
one_each (axis ∷ axes) (Fixed x ∷ slots) e = one_each axes slots (omega arith)
one_each (axis ∷ axes) (Along s ∷ slots) e = ap suc (one_each axes slots (omega arith))

module _ (declared : Declared) (views : List Viewed) (view : Viewed) (seen : Member views view) where
  abbrev along : List (ℤ → ℕ)
  along = parts_along (layout_at declared view.array) view.slots

  -- what the views have on the axis of this number
  abbrev on_number : ℕ → List (ℤ → ℕ)
  on_number n = filter_map (λ v. slice_get (parts_along (layout_at declared v.array) v.slots) n) views

  together : (n : ℕ) (positions : List Interval) (later : List (ℤ → ℕ)) → length later ≡ length positions → ((k : ℕ) → slice_get along (n + k) ≡ slice_get later k)
      → (box : List Interval) (p q : List ℤ) → Member (boxes_of (cut_axes declared views n positions)) box → IsIn box p → IsIn box q → SameOn later p q
  together n [] [] e at box p q m in_p in_q = tt
  together n [] (f ∷ later) e at box p q m in_p in_q = absurd (omega arith)
  together n (axis ∷ axes) [] e at box p q m in_p in_q = absurd (omega arith)
  together n (axis ∷ axes) (f ∷ later) e at box p q m in_p in_q =
      let found = member_with (cut_at axis.first (borders_on (on_number n) axis) axis.last) (boxes_of (cut_axes declared views (suc n) axes)) box m in
      by found p q (subst (λ b. IsIn b p) (sym found.4) in_p) (subst (λ b. IsIn b q) (sym found.4) in_q)
      (together (suc n) axes later (omega arith) (λ k. let next : suc n + k ≡ n + suc k = omega arith in ap (slice_get along) next ∙ at (suc k)))
    where
      f_there : Member (on_number n) f
      f_there =
          let first : n ≡ n + 0 = omega arith in
          kept_some (λ v. slice_get (parts_along (layout_at declared v.array) v.slots) n) views view f seen (ap (slice_get along) first ∙ at 0)

      by : (found : (part : Interval) × (rest : List Interval) × Member (cut_at axis.first (borders_on (on_number n) axis) axis.last) part × Member (boxes_of (cut_axes declared views (suc n) axes)) rest × (part ∷ rest ≡ box))
          → (p q : List ℤ) → IsIn (found.0 ∷ found.1) p → IsIn (found.0 ∷ found.1) q
          → ((b : List Interval) (r s : List ℤ) → Member (boxes_of (cut_axes declared views (suc n) axes)) b → IsIn b r → IsIn b s → SameOn later r s)
          → SameOn (f ∷ later) p q
      by found [] q in_p in_q rest = absurd in_p
      by found (x ∷ p) [] in_p in_q rest = absurd in_q
      by found (x ∷ p) (y ∷ q) in_p in_q rest = (
        same_in_part (on_number n) axis found.0 found.2 f f_there x y (in_p.0, in_p.1) (in_q.0, in_q.1),
        rest found.1 p q found.3 in_p.2 in_q.2,
      )

-- the cells that a view names in one part lie in one part of its layout
pub parts_together : (declared : Declared) (views : List Viewed) (positions : List Interval) (view : Viewed) (box : List Interval) (p q : List ℤ) → Contains views view → Contains (parts_of declared views positions) box
    → length (layout_at declared view.array) ≡ length view.slots → positions_of view.slots ≡ positions → IsIn box p → IsIn box q
    → HaveSameParts (layout_at declared view.array) (cell_named view.slots p) (cell_named view.slots q)
parts_together declared views positions view box p q has_view has_box slots same in_p in_q =
    let layout = layout_at declared view.array in
    same_parts layout view.slots p q slots
    (together declared views view (member_of views view has_view) 0 positions (parts_along layout view.slots)
    (one_each layout view.slots slots ∙ ap length same)
    (λ k. let first : 0 + k ≡ k = omega arith in ap (slice_get (parts_along layout view.slots)) first)
    box p q (member_of (parts_of declared views positions) box has_box) in_p in_q)
