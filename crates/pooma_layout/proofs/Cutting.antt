-- The intervals between borders: where they begin and end, and which of them has a coordinate.
use Rattle.std.proofs.Common.{refl, sym, ap, ◌∙◌, subst, arith, get_or}
use Rattle.std.proofs.lemmas.Int.{ints, by_lt_z}
use Rattle.std.proofs.lemmas.List.{get_or_default}
use Rattle.std.proofs.lemmas.List.Elements.{All-head, All-tail, All-cons, All-nil}
use Rattle.std.specs.Prelude.{◌≡◌, ◌↔◌, ℕ, zero, suc, ◌+◌, ◌-◌, ◌<◌, ◌≤◌, ℤ, pos, ◌-ℤ◌, ◌≤ℤ◌, ◌<ℤ◌, int_le, true, false, Bool, cond, Some, List, [], ◌∷◌, length, slice_get, All, IsSomeAnd}
use Rattle.pooma_domain.specs.Cells.{Interval, interval}
use Rattle.pooma_layout.specs.Axes.{cut_at, part_of, IsAscending}

-- the borders ascend from above a first number to no more than a last one
abbrev pub Cut : ℤ → List ℤ → ℤ → Type 0
Cut first [] last = first ≤ℤ last
Cut first (border ∷ later) last = (first <ℤ border) × Cut border later last

ascending_later : (x : ℤ) (xs : List ℤ) → IsAscending (x ∷ xs) → IsAscending xs
ascending_later x xs h = λ i j d below within. h (suc i) (suc j) d (omega arith) (omega arith)

ascending_from_first : (x : ℤ) (xs : List ℤ) → IsAscending (x ∷ xs) → All (λ y. x <ℤ y) xs
ascending_from_first x xs h = λ k d within. h 0 (suc k) d (omega arith) (omega arith)

pub cut_from_borders : (first : ℤ) (borders : List ℤ) (last : ℤ) → first ≤ℤ last → IsAscending borders → All (λ border. (first <ℤ border) × (border ≤ℤ last)) borders → Cut first borders last
cut_from_borders first [] last some ascending inside = some
cut_from_borders first (border ∷ later) last some ascending inside =
    let here : (first <ℤ border) × (border ≤ℤ last) = All-head (λ b. (first <ℤ b) × (b ≤ℤ last)) border later inside in
    let rest : All (λ b. (border <ℤ b) × (b ≤ℤ last)) later =
    λ k d within. (ascending_from_first border later ascending k d within, (All-tail (λ b. (first <ℤ b) × (b ≤ℤ last)) border later inside k d within).1) in
    (here.0, cut_from_borders border later last here.1 (ascending_later border later ascending) rest)

pub cut_is_ordered : (first : ℤ) (borders : List ℤ) (last : ℤ) → Cut first borders last → first ≤ℤ last
cut_is_ordered first [] last h = h
cut_is_ordered first (border ∷ later) last h =
    let rest : border ≤ℤ last = cut_is_ordered border later last h.1 in omega (arith, ints, h.0)

pub cut_wider : (first low : ℤ) (borders : List ℤ) (last high : ℤ) → low ≤ℤ first → last ≤ℤ high → Cut first borders last → Cut low borders high
cut_wider first low [] last high below above h = omega (arith, ints, h)
cut_wider first low (border ∷ later) last high below above h =
    let same : border ≤ℤ border = omega (arith, ints) in
    (omega (arith, ints, h.0), cut_wider border border later last high same above h.1)

pub length-cut_at : (first : ℤ) (borders : List ℤ) (last : ℤ) → length (cut_at first borders last) ≡ length borders + 1
length-cut_at first [] last = refl
length-cut_at first (border ∷ later) last = omega (arith, length-cut_at border later last)

-- where an interval begins and ends
abbrev pub begin_at : ℤ → List ℤ → ℕ → ℤ
begin_at first borders zero = first
begin_at first borders (suc k) = get_or borders k first

abbrev pub end_at : List ℤ → ℤ → ℕ → ℤ
end_at [] last k = last
end_at (border ∷ later) last zero = border -ℤ pos 1
end_at (border ∷ later) last (suc k) = end_at later last k

begin_later : (first border : ℤ) (later : List ℤ) (k : ℕ) → k ≤ length later → begin_at border later k ≡ get_or (border ∷ later) k first
begin_later first border later zero h = refl
begin_later first border later (suc k) h = get_or_default later k border first (omega arith)

pub slice_get-cut_at : (first : ℤ) (borders : List ℤ) (last : ℤ) (k : ℕ) → k ≤ length borders → slice_get (cut_at first borders last) k ≡ Some (interval (begin_at first borders k) (end_at borders last k))
slice_get-cut_at first [] last zero h = refl
slice_get-cut_at first [] last (suc k) h = absurd (omega arith)
slice_get-cut_at first (border ∷ later) last zero h = refl
slice_get-cut_at first (border ∷ later) last (suc k) h =
    let here : k ≤ length later = omega arith in
    slice_get-cut_at border later last k here
    ∙ ap (λ begin. Some (interval begin (end_at later last k))) (begin_later first border later k here)

pub begin_after_first : (first : ℤ) (borders : List ℤ) (k : ℕ) → 0 < k → begin_at first borders k ≡ get_or borders (k - 1) first
begin_after_first first borders zero h = absurd (omega arith)
begin_after_first first borders (suc k) h = ap (λ j. get_or borders j first) (let e : k ≡ suc k - 1 = omega arith in e)

pub end_at_border : (borders : List ℤ) (last : ℤ) (k : ℕ) (d : ℤ) → k < length borders → end_at borders last k ≡ get_or borders k d -ℤ pos 1
end_at_border [] last k d h = absurd (omega arith)
end_at_border (border ∷ later) last zero d h = refl
end_at_border (border ∷ later) last (suc k) d h = end_at_border later last k d (omega arith)

pub end_at_last : (borders : List ℤ) (last : ℤ) (k : ℕ) → length borders ≤ k → end_at borders last k ≡ last
end_at_last [] last k h = refl
end_at_last (border ∷ later) last zero h = absurd (omega arith)
end_at_last (border ∷ later) last (suc k) h = end_at_last later last k (omega arith)

-- each interval has a number, and lies between the first and the last number
pub interval_within : (first : ℤ) (borders : List ℤ) (last : ℤ) (k : ℕ) (part : Interval) → Cut first borders last → slice_get (cut_at first borders last) k ≡ Some part → (first ≤ℤ part.first) × (part.first ≤ℤ part.last) × (part.last ≤ℤ last)
interval_within first [] last zero part h at =
    let same : interval first last ≡ part = cc in
    subst (λ (p : Interval). (first ≤ℤ p.first) × (p.first ≤ℤ p.last) × (p.last ≤ℤ last)) same (omega (arith, ints), h, omega (arith, ints))
interval_within first [] last (suc k) part h at = cc
interval_within first (border ∷ later) last zero part h at =
    let same : interval first (border -ℤ pos 1) ≡ part = cc in
    let rest : border ≤ℤ last = cut_is_ordered border later last h.1 in
    let here : first <ℤ border = h.0 in
    subst (λ (p : Interval). (first ≤ℤ p.first) × (p.first ≤ℤ p.last) × (p.last ≤ℤ last)) same (omega (arith, ints), omega (arith, ints, here), omega (arith, ints, rest))
interval_within first (border ∷ later) last (suc k) part h at =
    let rest : (border ≤ℤ part.first) × (part.first ≤ℤ part.last) × (part.last ≤ℤ last) = interval_within border later last k part h.1 at in
    let here : first <ℤ border = h.0 in
    (omega (arith, ints, rest.0, here), rest.1, rest.2)

-- a coordinate below a border lies in the part that the border ends, and one from it on in a later part
int_le_yes : (a b : ℤ) → a ≤ℤ b → int_le a b ≡ true
int_le_yes a b h = grind (arith, ints)

int_le_no : (a b : ℤ) → b <ℤ a → int_le a b ≡ false
int_le_no a b h = grind (arith, ints)

pub part_of_below : (border : ℤ) (later : List ℤ) (x : ℤ) → x <ℤ border → part_of (border ∷ later) x ≡ 0
part_of_below border later x h = ap (λ (b : Bool). cond b (1 + part_of later x) 0) (int_le_no border x h)

pub part_of_above : (border : ℤ) (later : List ℤ) (x : ℤ) → border ≤ℤ x → part_of (border ∷ later) x ≡ suc (part_of later x)
part_of_above border later x h =
    ap (λ (b : Bool). cond b (1 + part_of later x) 0) (int_le_yes border x h)
    ∙ (let e : 1 + part_of later x ≡ suc (part_of later x) = omega arith in e)

-- the part that has a coordinate
pub part_has : (first : ℤ) (borders : List ℤ) (last x : ℤ) → first ≤ℤ x → x ≤ℤ last → IsSomeAnd (slice_get (cut_at first borders last) (part_of borders x)) (λ part. (part.first ≤ℤ x) × (x ≤ℤ part.last))
part_has first [] last x low high = (low, high)
part_has first (border ∷ later) last x low high =
    let P : ℕ → Type 0 = λ k. IsSomeAnd (slice_get (cut_at first (border ∷ later) last) k) (λ part. (part.first ≤ℤ x) × (x ≤ℤ part.last)) in
    by_lt_z x border
    (λ below. subst P (sym (part_of_below border later x below)) (low, omega (arith, ints)))
    (λ above. subst P (sym (part_of_above border later x above)) (part_has border later last x above high))

-- no other part has it
pub only_part_has : (first : ℤ) (borders : List ℤ) (last x : ℤ) (k : ℕ) (part : Interval) → Cut first borders last → slice_get (cut_at first borders last) k ≡ Some part → part.first ≤ℤ x → x ≤ℤ part.last → k ≡ part_of borders x
only_part_has first [] last x zero part h at low high = refl
only_part_has first [] last x (suc k) part h at low high = cc
only_part_has first (border ∷ later) last x zero part h at low high =
    let same : border -ℤ pos 1 ≡ part.last = ap (λ (p : Interval). p.last) (let e : interval first (border -ℤ pos 1) ≡ part = cc in e) in
    sym (part_of_below border later x (omega (arith, ints)))
only_part_has first (border ∷ later) last x (suc k) part h at low high =
    let rest : (border ≤ℤ part.first) × (part.first ≤ℤ part.last) × (part.last ≤ℤ last) = interval_within border later last k part h.1 at in
    ap suc (only_part_has border later last x k part h.1 at low high)
    ∙ sym (part_of_above border later x (omega (arith, ints, rest.0)))

-- there is always some part
pub part_of_below_length : (borders : List ℤ) (x : ℤ) → part_of borders x ≤ length borders
part_of_below_length [] x = omega arith
part_of_below_length (border ∷ later) x =
    by_lt_z x border
    (λ below. omega (arith, part_of_below border later x below))
    (λ above. omega (arith, part_of_above border later x above, part_of_below_length later x))

-- two coordinates lie in one part exactly where no border stands above the lower and not above the other
pub one_part_by_borders : (borders : List ℤ) (x y : ℤ) → IsAscending borders → x ≤ℤ y → (part_of borders x ≡ part_of borders y) ↔ All (λ border. ¬ ((x <ℤ border) × (border ≤ℤ y))) borders
one_part_by_borders [] x y ascending h = (λ same. All-nil (λ border. ¬ ((x <ℤ border) × (border ≤ℤ y))), λ none. refl)
one_part_by_borders (border ∷ later) x y ascending h =
    by_lt_z x border
    (λ below.
    by_lt_z y border
    (λ both. (
      λ same. All-cons (λ b. ¬ ((x <ℤ b) × (b ≤ℤ y))) border later (λ w. omega (arith, ints, w.1, both)) (λ k d within w. let above : border <ℤ get_or later k d = ascending_from_first border later ascending k d within in omega (arith, ints, w.1, above, both)),
      λ none. part_of_below border later x below ∙ sym (part_of_below border later y both),
    ))
    (λ above. (
      λ same. absurd (omega (arith, same, part_of_below border later x below, part_of_above border later y above)),
      λ none. absurd (All-head (λ b. ¬ ((x <ℤ b) × (b ≤ℤ y))) border later none (below, above)),
    )))
    (λ above.
    let further : border ≤ℤ y = omega (arith, ints, above, h) in
    let rest : (part_of later x ≡ part_of later y) ↔ All (λ b. ¬ ((x <ℤ b) × (b ≤ℤ y))) later = one_part_by_borders later x y (ascending_later border later ascending) h in (
      λ same. All-cons (λ b. ¬ ((x <ℤ b) × (b ≤ℤ y))) border later (λ w. omega (arith, ints, w.0, above)) (rest.0 (omega (arith, same, part_of_above border later x above, part_of_above border later y further))),
      λ none. part_of_above border later x above ∙ ap suc (rest.1 (All-tail (λ b. ¬ ((x <ℤ b) × (b ≤ℤ y))) border later none)) ∙ sym (part_of_above border later y further),
    ))
