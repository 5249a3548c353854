-- Boxes by a choice of one interval an axis, and their numbers.
use Rattle.std.proofs.Common.{refl, ap, ◌∙◌, subst, arith, length-append}
use Rattle.std.proofs.lemmas.List.{length-map}
use Rattle.std.proofs.lemmas.Nat.{mod_below, div_below}
use Rattle.std.proofs.lemmas.Option.{slice_get-map, slice_get_within}
use Rattle.std.proofs.Math.Nat.{mul-suc, mul_comm, mod-add-div}
use Rattle.std.specs.Prelude.{◌≡◌, ℕ, zero, suc, ◌+◌, ◌*◌, ◌/◌, ◌%◌, ◌<◌, Some, List, [], ◌∷◌, ◌++◌, length, map, flat_map, slice_get}
use Rattle.pooma_domain.specs.Cells.{Interval}
use Rattle.pooma_layout.specs.Patches.{boxes_of}

slice_get-append_left : {A : Type 0} (xs ys : List A) (i : ℕ) → i < length xs → slice_get (xs ++ ys) i ≡ slice_get xs i
slice_get-append_left [] ys i h = absurd (omega arith)
slice_get-append_left (x ∷ xs) ys zero h = refl
slice_get-append_left (x ∷ xs) ys (suc i) h = slice_get-append_left xs ys i (omega arith)

slice_get-append_right : {A : Type 0} (xs ys : List A) (i j : ℕ) → j ≡ length xs + i → slice_get (xs ++ ys) j ≡ slice_get ys i
slice_get-append_right [] ys i j h = ap (slice_get ys) (omega arith)
slice_get-append_right (x ∷ xs) ys i zero h = absurd (omega arith)
slice_get-append_right (x ∷ xs) ys i (suc j) h = slice_get-append_right xs ys i j (omega arith)

-- lists of one length, joined
pub length-even_pieces : {X A : Type 0} (f : X → List A) → (n : ℕ) → ((x : X) → length (f x) ≡ n) → (xs : List X) → length (flat_map f xs) ≡ n * length xs
length-even_pieces f n e [] = omega arith
length-even_pieces f n e (x ∷ xs) =
    length-append (f x) (flat_map f xs) ∙ omega (arith, e x, length-even_pieces f n e xs, mul-suc n (length xs))

slice_get-even_pieces : {X A : Type 0} (f : X → List A) → (n : ℕ) → ((x : X) → length (f x) ≡ n) → (xs : List X) (i j : ℕ) (x : X) → i < n → slice_get xs j ≡ Some x → slice_get (flat_map f xs) (i + n * j) ≡ slice_get (f x) i
slice_get-even_pieces f n e [] i j x h at = cc
slice_get-even_pieces f n e (y ∷ ys) i zero x h at =
    let same : y ≡ x = cc in
    let within : i < length (f y) = omega (arith, e y) in
    let here : i + n * 0 ≡ i = omega arith in
    rw (here, slice_get-append_left (f y) (flat_map f ys) i within, same) refl
slice_get-even_pieces f n e (y ∷ ys) i (suc j) x h at =
    slice_get-append_right (f y) (flat_map f ys) (i + n * j) (i + n * suc j) (omega (arith, e y, mul-suc n j))
    ∙ slice_get-even_pieces f n e ys i j x h at

length-round : (intervals : List Interval) (box : List Interval) → length (map (λ part. part ∷ box) intervals) ≡ length intervals
length-round intervals box = length-map intervals (λ part. part ∷ box)

pub length-boxes_of : (intervals : List Interval) (later : List (List Interval)) → length (boxes_of (intervals ∷ later)) ≡ length intervals * length (boxes_of later)
length-boxes_of intervals later =
    length-even_pieces (λ box. map (λ part. part ∷ box) intervals) (length intervals) (length-round intervals) (boxes_of later)

-- the box of an interval and a box of the later axes
pub slice_get-boxes_of : (intervals : List Interval) (later : List (List Interval)) (i j : ℕ) (part : Interval) (box : List Interval) → slice_get intervals i ≡ Some part → slice_get (boxes_of later) j ≡ Some box → slice_get (boxes_of (intervals ∷ later)) (i + length intervals * j) ≡ Some (part ∷ box)
slice_get-boxes_of intervals later i j part box here rest =
    let within : i < length intervals = slice_get_within intervals i part here in
    slice_get-even_pieces (λ b. map (λ p. p ∷ b) intervals) (length intervals) (length-round intervals) (boxes_of later) i j box within rest
    ∙ slice_get-map (λ p. p ∷ box) intervals i
    ∙ rw here refl

pub slice_get_some : {A : Type 0} (xs : List A) (k : ℕ) → k < length xs → (x : A) × (slice_get xs k ≡ Some x)
slice_get_some [] k h = absurd (omega arith)
slice_get_some (x ∷ xs) zero h = (x, refl)
slice_get_some (x ∷ xs) (suc k) h = slice_get_some xs k (omega arith)

-- a number below a product, by its rest and its quotient
pub rest_and_quotient : (n m p : ℕ) → p < n * m → (0 < n) × (p % n < n) × (p / n < m)
rest_and_quotient zero m p h = absurd (omega arith)
rest_and_quotient (suc n) m p h =
    let some : 0 < suc n = omega arith in
    (some, mod_below p (suc n) some, div_below p (suc n) m some (let turned : p < m * suc n = rw (mul_comm m (suc n)) h in turned))

-- what stands at a place: the interval at its rest, and the later box at its quotient
pub box_at_place : (intervals : List Interval) (later : List (List Interval)) (p : ℕ) (whole : List Interval) → slice_get (boxes_of (intervals ∷ later)) p ≡ Some whole → (part : Interval) × (box : List Interval) × (slice_get intervals (p % length intervals) ≡ Some part) × (slice_get (boxes_of later) (p / length intervals) ≡ Some box) × (whole ≡ part ∷ box)
box_at_place intervals later p whole at =
    let below : p < length intervals * length (boxes_of later) =
    rw (← length-boxes_of intervals later) (slice_get_within (boxes_of (intervals ∷ later)) p whole at) in
    let split : (0 < length intervals) × (p % length intervals < length intervals) × (p / length intervals < length (boxes_of later)) =
    rest_and_quotient (length intervals) (length (boxes_of later)) p below in
    let here : (part : Interval) × (slice_get intervals (p % length intervals) ≡ Some part) = slice_get_some intervals (p % length intervals) split.1 in
    let rest : (box : List Interval) × (slice_get (boxes_of later) (p / length intervals) ≡ Some box) = slice_get_some (boxes_of later) (p / length intervals) split.2 in
    let place : p % length intervals + length intervals * (p / length intervals) ≡ p = mod-add-div p (length intervals) in
    let stands : slice_get (boxes_of (intervals ∷ later)) p ≡ Some (here.0 ∷ rest.0) =
    subst (λ (k : ℕ). slice_get (boxes_of (intervals ∷ later)) k ≡ Some (here.0 ∷ rest.0)) place
    (slice_get-boxes_of intervals later (p % length intervals) (p / length intervals) here.0 rest.0 here.1 rest.1) in
    (here.0, rest.0, here.1, rest.1, cc)
