-- What a read out of memory leaves: the bytes that were given stand at the front of the buffer.
use Rattle.std.proofs.Common.{◌≡◌, ℕ, ◌+◌, ◌-◌, ◌<◌, ◌≤◌, min, List, [], ◌++◌, length, take, drop, sym, ap, ◌∙◌, arith, length-append}
use Rattle.std.proofs.lemmas.List.{take_at, take-append-drop, drop-drop, drop_all, take_rest, length-take, length-drop}
use Rattle.pooma_io.specs.Bounds.{filled}

-- the front of the buffer and what is left then are what was left before
pub filled_front : (left buf : List ℕ) (n : ℕ) → n ≤ length left → take n (filled left n buf) ++ drop n left ≡ left
filled_front left buf n within =
    let size : length (take n left) ≡ n = omega (arith, length-take n left) in
    ap (λ (front : List ℕ). front ++ drop n left) (take_at (take n left) (drop n buf) n size) ∙ take-append-drop n left

-- the same where what is left is a part of all bytes
pub given_front : (bytes buf : List ℕ) (taken n most : ℕ) → n ≡ min most (min (length buf) (length (drop taken bytes))) →
    drop taken bytes ≡ take n (filled (drop taken bytes) n buf) ++ drop (taken + n) bytes
given_front bytes buf taken n most count =
    let within : n ≤ length (drop taken bytes) = omega arith in
    sym (filled_front (drop taken bytes) buf n within) ∙ ap (λ (rest : List ℕ). take n (filled (drop taken bytes) n buf) ++ rest) (drop-drop n taken bytes)

-- a buffer keeps its length
pub length-filled : (left buf : List ℕ) (n : ℕ) → n ≤ length left → n ≤ length buf → length (filled left n buf) ≡ length buf
length-filled left buf n in_left in_buf =
    omega (arith, length-append (take n left) (drop n buf), length-take n left, length-drop n buf)

-- nothing is given into a buffer that has room only where nothing is left
pub given_none : (bytes buf : List ℕ) (taken n most : ℕ) → n ≡ min most (min (length buf) (length (drop taken bytes))) → 1 ≤ most →
    n ≡ 0 → 0 < length buf → drop (taken + n) bytes ≡ []
given_none bytes buf taken n most count step none room =
    drop_all (taken + n) bytes (omega (arith, length-drop taken bytes))

-- a read out of memory, which sees all bytes but those that were taken, gives the front of what was left, and nothing only
-- at the end
pub gives_front : (bytes seen left buf filled_buf : List ℕ) (taken n most : ℕ) → drop taken bytes ≡ left → seen ≡ bytes →
    n ≡ min most (min (length buf) (length (take (length seen - taken) (drop taken seen)))) →
    filled_buf ≡ filled (take (length seen - taken) (drop taken seen)) n buf → 1 ≤ most →
    (left ≡ take n filled_buf ++ drop (taken + n) bytes) × (n ≡ 0 → 0 < length filled_buf → drop (taken + n) bytes ≡ [])
gives_front bytes seen left buf filled_buf taken n most view same count buffer step =
    let rest : take (length seen - taken) (drop taken seen) ≡ drop taken bytes = take_rest seen taken ∙ ap (λ (xs : List ℕ). drop taken xs) same in
    let counted : n ≡ min most (min (length buf) (length (drop taken bytes))) = rw rest at count in
    let is_filled : filled_buf ≡ filled (drop taken bytes) n buf = rw rest at buffer in
    let size : length filled_buf ≡ length buf = ap length is_filled ∙ length-filled (drop taken bytes) buf n (omega arith) (omega arith) in (
      sym view ∙ given_front bytes buf taken n most counted ∙ ap (λ (b : List ℕ). take n b ++ drop (taken + n) bytes) (sym is_filled),
      λ none room. given_none bytes buf taken n most counted step none (omega arith),
    )
