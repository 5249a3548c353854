-- The parts of a cut line, and the boxes of a part of each of several lines.
use Rattle.std.proofs.Common.{sym, ap, ◌∙◌, subst, ⊎_elim, arith, get_or, take, drop, append_assoc}
use Rattle.std.proofs.lemmas.Int.{ints}
use Rattle.std.proofs.lemmas.List.{append-nil, get_or_default, map-append, take_all, take_more}
use Rattle.std.proofs.lemmas.List.Concat.{flat_map-append}
use Rattle.std.proofs.lemmas.List.Elements.{All-head, All-tail, All-cons, All-nil}
use Rattle.std.proofs.lemmas.Nat.{mul-le}
use Rattle.std.proofs.lemmas.Option.{get_or_from_slice_get, slice_get_within}
use Rattle.std.specs.Prelude.{◌≡◌, ℕ, ◌+◌, ◌-◌, ◌*◌, ◌<◌, ◌≤◌, ℤ, pos, ◌+ℤ◌, ◌-ℤ◌, ◌≤ℤ◌, Option, Some, None, List, [], ◌∷◌, ◌++◌, length, map, flat_map, slice_get, All, IsSomeAnd}
use Rattle.pooma_logic.proofs.Members.{Member, all_members, joined_member, member_image, member_joined, member_map, stands_at}
use Rattle.pooma_domain.specs.Cells.{Interval, interval, axis_length, cells_of, IsIn, IsAxis, IsBox, IsOrdered}
use Rattle.pooma_domain.proofs.CellOrder.{length-cells_of}
use Rattle.pooma_domain.proofs.Within.{box_within}
use Rattle.pooma_layout.specs.Patches.{boxes_of}
use Rattle.pooma_layout.proofs.Counting.{length_of_interval}
use Rattle.pooma_layout.proofs.Cutting.{Cut, cut_from_borders, length-cut_at, begin_at, end_at, slice_get-cut_at, begin_after_first, end_at_border, end_at_last, interval_within}
use Rattle.pooma_part.specs.CutLines.{CutLine, IsCutLine, AreCutLines, parts_in}

-- ---- a line's parts by their number

pub parts_counted : (line : CutLine) → length (parts_in line) ≡ length line.borders + 1
parts_counted line = length-cut_at line.whole.first line.borders line.whole.last

part_at : (line : CutLine) (k : ℕ) → k < length (parts_in line) → slice_get (parts_in line) k ≡ Some (interval (begin_at line.whole.first line.borders k) (end_at line.borders line.whole.last k))
part_at line k h = slice_get-cut_at line.whole.first line.borders line.whole.last k (omega (arith, parts_counted line))

holds_at : (P : Interval → Type 0) (o : Option Interval) (part : Interval) → o ≡ Some part → P part → IsSomeAnd o P
holds_at P o part at h = subst (λ (v : Option Interval). IsSomeAnd v P) (sym at) h

-- the first part begins with the line, and a later one at its border
pub first_begins : (line : CutLine) (k : ℕ) (x : ℤ) → k ≡ 0 → line.whole.first ≡ x → IsSomeAnd (slice_get (parts_in line) k) (λ part. part.first ≡ x)
first_begins line k x e is =
    let within : k < length (parts_in line) = omega (arith, parts_counted line) in
    holds_at (λ part. part.first ≡ x) (slice_get (parts_in line) k) _ (part_at line k within) (ap (begin_at line.whole.first line.borders) e ∙ is)

pub later_begins : (line : CutLine) (k : ℕ) (x d : ℤ) → 0 < k → k < length (parts_in line) → get_or line.borders (k - 1) d ≡ x → IsSomeAnd (slice_get (parts_in line) k) (λ part. part.first ≡ x)
later_begins line k x d some within is =
    let here : k - 1 < length line.borders = omega (arith, parts_counted line) in
    holds_at (λ part. part.first ≡ x) (slice_get (parts_in line) k) _ (part_at line k within)
    (begin_after_first line.whole.first line.borders k some ∙ get_or_default line.borders (k - 1) line.whole.first d here ∙ is)

-- the last part ends with the line, and an earlier one below the next border
pub last_ends : (line : CutLine) (k : ℕ) (x : ℤ) → length line.borders ≤ k → k < length (parts_in line) → line.whole.last ≡ x → IsSomeAnd (slice_get (parts_in line) k) (λ part. part.last ≡ x)
last_ends line k x above within is =
    holds_at (λ part. part.last ≡ x) (slice_get (parts_in line) k) _ (part_at line k within) (end_at_last line.borders line.whole.last k above ∙ is)

pub earlier_ends : (line : CutLine) (k : ℕ) (x d : ℤ) → k < length line.borders → get_or line.borders k d -ℤ pos 1 ≡ x → IsSomeAnd (slice_get (parts_in line) k) (λ part. part.last ≡ x)
earlier_ends line k x d below is =
    let within : k < length (parts_in line) = omega (arith, parts_counted line) in
    holds_at (λ part. part.last ≡ x) (slice_get (parts_in line) k) _ (part_at line k within) (end_at_border line.borders line.whole.last k d below ∙ is)

both_ends : (o : Option Interval) (a b : ℤ) → IsSomeAnd o (λ part. part.first ≡ a) → IsSomeAnd o (λ part. part.last ≡ b) → o ≡ Some (interval a b)
both_ends None a b first last = absurd first
both_ends (Some part) a b first last = ap (λ x. Some (interval x part.last)) first ∙ ap (λ x. Some (interval a x)) last

pub is_cut : (line : CutLine) → IsCutLine line → Cut line.whole.first line.borders line.whole.last
is_cut line valid = cut_from_borders line.whole.first line.borders line.whole.last valid.axis.ordered valid.ascending valid.inside

-- each part has a place, and lies on the line
pub part_within : (line : CutLine) (k : ℕ) (part : Interval) → IsCutLine line → slice_get (parts_in line) k ≡ Some part → (line.whole.first ≤ℤ part.first) × (part.first ≤ℤ part.last) × (part.last ≤ℤ line.whole.last)
part_within line k part valid at = interval_within line.whole.first line.borders line.whole.last k part (is_cut line valid) at

pub ends_within : (line : CutLine) (k : ℕ) (a b : ℤ) → IsCutLine line → IsSomeAnd (slice_get (parts_in line) k) (λ part. part.first ≡ a) → IsSomeAnd (slice_get (parts_in line) k) (λ part. part.last ≡ b)
    → (line.whole.first ≤ℤ a) × (a ≤ℤ b) × (b ≤ℤ line.whole.last)
ends_within line k a b valid first last = part_within line k (interval a b) valid (both_ends (slice_get (parts_in line) k) a b first last)

-- ---- how many they are

borders_few : (first : ℤ) (borders : List ℤ) (last : ℤ) → Cut first borders last → pos (length borders) ≤ℤ (last -ℤ first)
borders_few first [] last h = omega (arith, ints, h)
borders_few first (border ∷ later) last h = let rest = borders_few border later last h.1 in let here = h.0 in omega (arith, ints, rest, here)

parts_few : (line : CutLine) → IsCutLine line → length (parts_in line) ≤ axis_length line.whole
parts_few line valid =
    let few = borders_few line.whole.first line.borders line.whole.last (is_cut line valid) in
    let long : pos (axis_length line.whole) ≡ (line.whole.last -ℤ line.whole.first) +ℤ pos 1 = length_of_interval line.whole valid.axis.ordered in
    omega (arith, ints, few, long, parts_counted line)

abbrev pub wholes : List CutLine → List Interval
wholes lines = map (λ line. line.whole) lines

pub no_fewer : (line : CutLine) (lines : List CutLine) → IsAxis line.whole → length (cells_of (wholes lines)) ≤ length (cells_of (wholes (line ∷ lines)))
no_fewer line lines axis =
    let long : pos (axis_length line.whole) ≡ (line.whole.last -ℤ line.whole.first) +ℤ pos 1 = length_of_interval line.whole axis.ordered in
    let some : 1 ≤ axis_length line.whole = omega (arith, ints, long, axis.ordered) in
    let most : 1 * length (cells_of (wholes lines)) ≤ axis_length line.whole * length (cells_of (wholes lines)) =
    mul-le 1 (length (cells_of (wholes lines))) (axis_length line.whole) (length (cells_of (wholes lines))) some (omega arith) in
    omega (arith, most, length-cells_of line.whole (wholes lines))

-- the later lines are lines of a box too
pub later_lines : (line : CutLine) (lines : List CutLine) → AreCutLines (line ∷ lines) → AreCutLines lines
later_lines line lines valid = record {
  each = All-tail IsCutLine line lines valid.each;
  box = record {
    few = omega (arith, valid.box.few);
    whole = All-tail IsAxis line.whole (wholes lines) valid.box.whole;
    countable = omega (arith, valid.box.countable, no_fewer line lines (All-head IsCutLine line lines valid.each).axis);
  };
}

pub few_choices : (line : CutLine) (lines : List CutLine) (n m : ℕ) → IsCutLine line → n ≡ length (parts_in line) → m ≤ length (cells_of (wholes lines)) → n * m ≤ length (cells_of (wholes (line ∷ lines)))
few_choices line lines n m valid is few =
    let most : n * m ≤ axis_length line.whole * length (cells_of (wholes lines)) =
    mul-le n m (axis_length line.whole) (length (cells_of (wholes lines))) (omega (arith, is, parts_few line valid)) few in
    omega (arith, most, length-cells_of line.whole (wholes lines))

-- ---- boxes of parts

-- each part of the box has a place and lies on its line
record LiesIn (lines : List CutLine) (box : List Interval) : Type 0 where
  ordered : All IsOrdered box
  low : IsIn (wholes lines) (map (λ axis. axis.first) box)
  high : IsIn (wholes lines) (map (λ axis. axis.last) box)

lies_in : (lines : List CutLine) (box : List Interval) → All IsCutLine lines → Member (boxes_of (map parts_in lines)) box → LiesIn lines box
lies_in [] box valid m =
    ⊎_elim (λ e. subst (LiesIn []) e (record { ordered = All-nil IsOrdered; low = tt; high = tt })) (λ none. absurd none) m
lies_in (line ∷ lines) box valid m =
    let found = joined_member (λ rest. map (λ part. part ∷ rest) (parts_in line)) (boxes_of (map parts_in lines)) box m in
    let first = member_image (λ part. part ∷ found.0) (parts_in line) box found.2 in
    let at = stands_at (parts_in line) first.0 first.1 in
    let within = part_within line at.0 first.0 (All-head IsCutLine line lines valid) at.1 in
    let rest : LiesIn lines found.0 = lies_in lines found.0 (All-tail IsCutLine line lines valid) found.1 in
    subst (LiesIn (line ∷ lines)) first.2
    (record {
      ordered = All-cons IsOrdered first.0 found.0 within.1 rest.ordered;
      low = (within.0, (let a = within.1 in let b = within.2 in omega (arith, ints, a, b)), rest.low);
      high = ((let a = within.0 in let b = within.1 in omega (arith, ints, a, b)), within.2, rest.high);
    })

pub part_is_box : (lines : List CutLine) (box : List Interval) → AreCutLines lines → Member (boxes_of (map parts_in lines)) box → IsBox box
part_is_box lines box valid m =
    let lies = lies_in lines box valid.each m in
    box_within box (wholes lines) valid.box lies.ordered lies.low lies.high

-- what is asked of the parts of the first line beside a box of the later ones
pub with_each_part : (line : CutLine) (lines : List CutLine) (boxes : List (List Interval)) → AreCutLines (line ∷ lines) → boxes ≡ boxes_of (map parts_in lines)
    → All (λ rest. All (λ part. IsBox (part ∷ rest)) (parts_in line)) boxes
with_each_part line lines boxes valid is =
    subst (All (λ rest. All (λ part. IsBox (part ∷ rest)) (parts_in line))) (sym is)
    (all_members (λ rest. All (λ part. IsBox (part ∷ rest)) (parts_in line)) (boxes_of (map parts_in lines))
    (λ rest m. all_members (λ part. IsBox (part ∷ rest)) (parts_in line)
    (λ part k. part_is_box (line ∷ lines) (part ∷ rest) valid
    (member_joined (λ r. map (λ p. p ∷ r) (parts_in line)) (boxes_of (map parts_in lines)) rest (part ∷ rest) m (member_map (λ p. p ∷ rest) (parts_in line) part k)))))

-- ---- a list by its first element

pub first_and_later : {A : Type 0} (xs : List A) (x : A) → 1 ≤ length xs → x ≡ get_or xs 0 x → xs ≡ x ∷ take (length xs - 1) (drop 1 xs)
first_and_later [] x some is = absurd (omega arith)
first_and_later (y ∷ ys) x some is =
    let rest : take (length (y ∷ ys) - 1) ys ≡ ys = take_all (length (y ∷ ys) - 1) ys (omega arith) in
    ap (λ z. z ∷ ys) (sym is) ∙ ap (λ zs. x ∷ zs) (sym rest)

pub all_at : {A : Type 0} (P : A → Type 0) (xs : List A) (k : ℕ) (x : A) → All P xs → slice_get xs k ≡ Some x → P x
all_at P xs k x all at = subst P (get_or_from_slice_get xs k x x at) (all k x (slice_get_within xs k x at))

-- ---- lists that are made step by step

pub map_more : {A B : Type 0} (f : A → B) (old mid new : List B) (xs : List A) (k : ℕ) (x : A) (y : B) → mid ≡ old ++ map f (take k xs) → new ≡ mid ++ y ∷ [] → slice_get xs k ≡ Some x → y ≡ f x
    → new ≡ old ++ map f (take (k + 1) xs)
map_more f old mid new xs k x y so_far pushed at is =
    let one : take (k + 1) xs ≡ take k xs ++ x ∷ [] = take_more xs k x (slice_get_within xs k x at) ∙ ap (λ z. take k xs ++ z ∷ []) (get_or_from_slice_get xs k x x at) in
    pushed ∙ ap (λ l. l ++ y ∷ []) so_far ∙ ap (λ z. (old ++ map f (take k xs)) ++ z ∷ []) is
    ∙ append_assoc old (map f (take k xs)) (f x ∷ [])
    ∙ ap (λ l. old ++ l) (sym (map-append f (take k xs) (x ∷ [])))
    ∙ ap (λ l. old ++ map f l) (sym one)

pub joined_more : {A B : Type 0} (f : A → List B) (mid new : List B) (xs : List A) (k : ℕ) (d : A) → k < length xs → mid ≡ flat_map f (take k xs) → new ≡ mid ++ f (get_or xs k d) → new ≡ flat_map f (take (k + 1) xs)
joined_more f mid new xs k d h so_far added =
    added ∙ ap (λ l. l ++ f (get_or xs k d)) so_far ∙ sym (joined_last (take k xs) (get_or xs k d)) ∙ ap (flat_map f) (sym (take_more xs k d h))
  where
    joined_last : (xs : List _) (x : _) → flat_map f (xs ++ x ∷ []) ≡ flat_map f xs ++ f x
    joined_last xs x = flat_map-append f xs (x ∷ []) ∙ ap (λ l. flat_map f xs ++ l) (append-nil (f x))
