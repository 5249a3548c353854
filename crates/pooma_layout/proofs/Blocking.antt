-- Blocks: where they start, and that they have the lengths that they are to have.
use Rattle.std.proofs.Common.{ap, ◌∙◌, ⊎_elim, arith, get_or, replicate}
use Rattle.std.proofs.lemmas.Bool.{cases_lt}
use Rattle.std.proofs.lemmas.Int.{ints}
use Rattle.std.proofs.lemmas.List.{length-map, length-append, length-replicate, length_push, get_or_append_left, get_or-append_right, get_or_push, get_or-replicate, get_or-map, ext_get_or}
use Rattle.std.proofs.lemmas.Nat.{mul-le, mod_below, le-div}
use Rattle.std.proofs.lemmas.Option.{get_or_from_slice_get}
use Rattle.std.proofs.Math.Nat.{mod-add-div}
use Rattle.std.specs.Prelude.{◌≡◌, ℕ, zero, suc, ◌+◌, ◌-◌, ◌*◌, ◌/◌, ◌%◌, ◌<◌, ◌≤◌, min, ℤ, pos, ◌+ℤ◌, ◌≤ℤ◌, List, [], ◌∷◌, ◌++◌, length, map}
use Rattle.pooma_domain.specs.Cells.{Interval, interval, axis_length}
use Rattle.pooma_layout.specs.Axes.{cut_at, IsAscending, AreBorders}
use Rattle.pooma_layout.specs.Blocks.{block_lengths, block_start, AreBlockStarts}
use Rattle.pooma_layout.proofs.Counting.{length_of_interval}
use Rattle.pooma_layout.proofs.Cutting.{begin_at, end_at, end_at_border, end_at_last, length-cut_at, slice_get-cut_at}

-- one more block start
pub starts_more : (first : ℤ) (cells parts k : ℕ) (borders : List ℤ) (x : ℤ) → length borders + 1 ≡ k → AreBlockStarts first cells parts borders → x ≡ first +ℤ pos (block_start cells parts k) → (length (borders ++ x ∷ []) + 1 ≡ k + 1) × AreBlockStarts first cells parts (borders ++ x ∷ [])
starts_more first cells parts k borders x count starts is = (
  omega (arith, length_push borders x, count),
  λ j d within.
      ⊎_elim
      (λ earlier. get_or_append_left borders (x ∷ []) d j earlier ∙ starts j d earlier)
      (λ last.
      let here : length borders ≡ j = omega (arith, length_push borders x, last, within) in
      get_or_push borders x d j here ∙ is ∙ ap (λ n. first +ℤ pos (block_start cells parts n)) (omega (arith, count, here)))
      (cases_lt j (length borders)),
)

-- a later block starts further on
start_rises : (q r i j : ℕ) → 0 < q → i < j → i * q + min i r < j * q + min j r
start_rises q r i j some h =
    let round : (i + 1) * q ≤ j * q = mul-le (i + 1) q j q (omega arith) (omega arith) in
    omega (arith, round)

starts_rise : (cells parts i j : ℕ) → 0 < parts → parts ≤ cells → i < j → block_start cells parts i < block_start cells parts j
starts_rise cells parts i j some enough h =
    let one : 0 < cells / parts = le-div 1 cells parts some (omega arith) in
    start_rises (cells / parts) (cells % parts) i j one h

-- the last block ends with the cells
start_past_last : (cells parts : ℕ) → 0 < parts → block_start cells parts parts ≡ cells
start_past_last cells parts some =
    let rest : cells % parts < parts = mod_below cells parts some in
    let whole : cells % parts + parts * (cells / parts) ≡ cells = mod-add-div cells parts in
    omega (arith, rest, whole)

pub blocks_ascend : (first : ℤ) (cells parts : ℕ) (borders : List ℤ) → 0 < parts → parts ≤ cells → AreBlockStarts first cells parts borders → IsAscending borders
blocks_ascend first cells parts borders some enough starts = λ i j d below within.
    let rises : block_start cells parts (i + 1) < block_start cells parts (j + 1) = starts_rise cells parts (i + 1) (j + 1) some enough (omega arith) in
    omega (arith, ints, starts i d (omega arith), starts j d within, rises)

pub blocks_inside : (axis : Interval) (cells parts : ℕ) (borders : List ℤ) → 0 < parts → parts ≤ cells → axis.first +ℤ pos cells ≡ axis.last +ℤ pos 1 → length borders + 1 ≡ parts → AreBlockStarts axis.first cells parts borders → AreBorders axis borders
blocks_inside axis cells parts borders some enough end count starts = λ k d within.
    let above : block_start cells parts 0 < block_start cells parts (k + 1) = starts_rise cells parts 0 (k + 1) some enough (omega arith) in
    let below : block_start cells parts (k + 1) < block_start cells parts parts = starts_rise cells parts (k + 1) parts some enough (omega arith) in
    let last : block_start cells parts parts ≡ cells = start_past_last cells parts some in
    (omega (arith, ints, starts k d within, above), omega (arith, ints, starts k d within, below, last, end))

-- the interval of a block
begins_at_start : (first : ℤ) (cells parts : ℕ) (borders : List ℤ) (k : ℕ) → AreBlockStarts first cells parts borders → k ≤ length borders → begin_at first borders k ≡ first +ℤ pos (block_start cells parts k)
begins_at_start first cells parts borders zero starts h = omega (arith, ints)
begins_at_start first cells parts borders (suc k) starts h =
    starts k first (omega arith) ∙ ap (λ n. first +ℤ pos (block_start cells parts n)) (let e : k + 1 ≡ suc k = omega arith in e)

ends_before_start : (axis : Interval) (cells parts : ℕ) (borders : List ℤ) (k : ℕ) → 0 < parts → axis.first +ℤ pos cells ≡ axis.last +ℤ pos 1 → length borders + 1 ≡ parts → AreBlockStarts axis.first cells parts borders → k ≤ length borders → end_at borders axis.last k +ℤ pos 1 ≡ axis.first +ℤ pos (block_start cells parts (k + 1))
ends_before_start axis cells parts borders k some end count starts h =
    ⊎_elim
    (λ below. omega (arith, ints, end_at_border borders axis.last k axis.first below, starts k axis.first below))
    (λ last.
    let all : block_start cells parts (k + 1) ≡ cells =
    ap (block_start cells parts) (let e : k + 1 ≡ parts = omega (arith, count, h, last) in e) ∙ start_past_last cells parts some in
    omega (arith, ints, end_at_last borders axis.last k last, end, all))
    (cases_lt k (length borders))

-- how long a block is
next_start : (q r k : ℕ) → (k < r → (k + 1) * q + min (k + 1) r ≡ (k * q + min k r) + (q + 1)) × (r ≤ k → (k + 1) * q + min (k + 1) r ≡ (k * q + min k r) + q)
next_start q r k = (λ h. omega arith, λ h. omega arith)

block_length_at : (cells parts k : ℕ) → 0 < parts → k < parts → block_start cells parts (k + 1) ≡ block_start cells parts k + get_or (block_lengths cells parts) k 0
block_length_at cells parts k some h =
    let rest : cells % parts < parts = mod_below cells parts some in
    let front : length (replicate (cells % parts) (cells / parts + 1)) ≡ cells % parts = length-replicate (cells % parts) (cells / parts + 1) in
    ⊎_elim
    (λ early.
    let within : k < length (replicate (cells % parts) (cells / parts + 1)) = omega (arith, front, early) in
    let is : get_or (block_lengths cells parts) k 0 ≡ cells / parts + 1 =
    get_or_append_left (replicate (cells % parts) (cells / parts + 1)) (replicate (parts - cells % parts) (cells / parts)) 0 k within
    ∙ get_or-replicate (cells % parts) k (cells / parts + 1) 0 early in
    omega (arith, is, (next_start (cells / parts) (cells % parts) k).0 early))
    (λ late.
    let is : get_or (block_lengths cells parts) k 0 ≡ cells / parts =
    get_or-append_right (replicate (cells % parts) (cells / parts + 1)) (replicate (parts - cells % parts) (cells / parts)) (cells % parts) k 0 front late
    ∙ get_or-replicate (parts - cells % parts) (k - cells % parts) (cells / parts) 0 (omega (arith, rest, late, h)) in
    omega (arith, is, (next_start (cells / parts) (cells % parts) k).1 late))
    (cases_lt k (cells % parts))

pub lengths_of_blocks : (axis : Interval) (cells parts : ℕ) (borders : List ℤ) → 0 < parts → parts ≤ cells → axis.first +ℤ pos cells ≡ axis.last +ℤ pos 1 → length borders + 1 ≡ parts → AreBlockStarts axis.first cells parts borders → map axis_length (cut_at axis.first borders axis.last) ≡ block_lengths cells parts
lengths_of_blocks axis cells parts borders some enough end count starts =
    ext_get_or 0 (map axis_length (cut_at axis.first borders axis.last)) (block_lengths cells parts)
    (omega (arith, left, right, count))
    (λ k within. at k (omega (arith, left, within)))
  where
    left : length (map axis_length (cut_at axis.first borders axis.last)) ≡ length borders + 1
    left = length-map (cut_at axis.first borders axis.last) axis_length ∙ length-cut_at axis.first borders axis.last

    right : length (block_lengths cells parts) ≡ parts
    right =
        let rest : cells % parts < parts = mod_below cells parts some in
        length-append (replicate (cells % parts) (cells / parts + 1)) (replicate (parts - cells % parts) (cells / parts))
        ∙ omega (arith, rest, length-replicate (cells % parts) (cells / parts + 1), length-replicate (parts - cells % parts) (cells / parts))

    at : (k : ℕ) → k ≤ length borders → get_or (map axis_length (cut_at axis.first borders axis.last)) k 0 ≡ get_or (block_lengths cells parts) k 0
    at k h =
        let within : k < length (cut_at axis.first borders axis.last) = omega (arith, length-cut_at axis.first borders axis.last, h) in
        let here : get_or (map axis_length (cut_at axis.first borders axis.last)) k 0 ≡ axis_length (interval (begin_at axis.first borders k) (end_at borders axis.last k)) =
        get_or-map axis_length (cut_at axis.first borders axis.last) k axis 0 within
        ∙ ap axis_length (get_or_from_slice_get (cut_at axis.first borders axis.last) k (interval (begin_at axis.first borders k) (end_at borders axis.last k)) axis (slice_get-cut_at axis.first borders axis.last k h)) in
        let begins : begin_at axis.first borders k ≡ axis.first +ℤ pos (block_start cells parts k) = begins_at_start axis.first cells parts borders k starts h in
        let ends : end_at borders axis.last k +ℤ pos 1 ≡ axis.first +ℤ pos (block_start cells parts (k + 1)) = ends_before_start axis cells parts borders k some end count starts h in
        let long : block_start cells parts (k + 1) ≡ block_start cells parts k + get_or (block_lengths cells parts) k 0 = block_length_at cells parts k some (omega (arith, count, h)) in
        let rises : block_start cells parts k < block_start cells parts (k + 1) = starts_rise cells parts k (k + 1) some enough (omega arith) in
        let ordered : begin_at axis.first borders k ≤ℤ end_at borders axis.last k = omega (arith, ints, begins, ends, rises) in
        here ∙ omega (arith, ints, length_of_interval (interval (begin_at axis.first borders k) (end_at borders axis.last k)) ordered, begins, ends, long)

pub start_within : (cells parts k : ℕ) → 0 < parts → k ≤ parts → block_start cells parts k ≤ cells
start_within cells parts k some h =
    let round : k * (cells / parts) ≤ parts * (cells / parts) = mul-le k (cells / parts) parts (cells / parts) h (omega arith) in
    let last : block_start cells parts parts ≡ cells = start_past_last cells parts some in
    omega (arith, round, last)
