-- The place of a cell in its box by arithmetic, and that the list of the box's cells has the cell there.
use Rattle.std.proofs.Common.{refl, sym, ap, ◌∙◌, subst, inl, inr, ⊎_elim, arith, length-append}
use Rattle.std.proofs.lemmas.Bool.{cases_lt}
use Rattle.std.proofs.lemmas.Int.{ints, by_lt_z}
use Rattle.std.proofs.lemmas.Nat.{mod_below, div_below}
use Rattle.std.proofs.lemmas.Option.{slice_get-map, slice_get_within, slice_get-get_or, get_or_from_slice_get}
use Rattle.std.proofs.Math.Nat.{mul-suc, mul_comm, mul-le-mul_left, mod-add-div}
use Rattle.std.specs.Prelude.{◌≡◌, ◌⊎◌, ℕ, zero, suc, ◌+◌, ◌*◌, ◌/◌, ◌%◌, ◌<◌, ◌≤◌, ℤ, pos, negsuc, ◌+ℤ◌, ◌-ℤ◌, ◌≤ℤ◌, Some, List, [], ◌∷◌, ◌++◌, length, map, flat_map, slice_get, AllPairs, Contains}
use Rattle.pooma_domain.specs.Cells.{Interval, count_of, counting, axis_length, coordinates, cells_of, IsIn, IsBefore}

-- the cell's place: its number on the first axis, and so many rounds of that axis as cells of the other axes stand before it
abbrev pub place : List Interval → List ℤ → ℕ
place [] c = 0
place (axis ∷ axes) [] = 0
place (axis ∷ axes) (x ∷ xs) = count_of (x -ℤ axis.first) + axis_length axis * place axes xs

-- the cell at a place
abbrev pub cell_of : List Interval → ℕ → List ℤ
cell_of [] k = []
cell_of (axis ∷ axes) k = (axis.first +ℤ pos (k % axis_length axis)) ∷ cell_of axes (k / axis_length axis)

pub count_of_from_zero : (z : ℤ) → pos 0 ≤ℤ z → pos (count_of z) ≡ z
count_of_from_zero (pos n) h = refl
count_of_from_zero (negsuc n) h = absurd (omega (arith, ints))

pub count_of_below_zero : (z : ℤ) → z ≤ℤ pos 0 → count_of z ≡ 0
count_of_below_zero (pos n) h = omega (arith, ints)
count_of_below_zero (negsuc n) h = refl

pub length-counting : (first : ℤ) (n : ℕ) → length (counting first n) ≡ n
length-counting first zero = refl
length-counting first (suc n) = ap suc (length-counting (first +ℤ pos 1) n)

pub slice_get-counting : (first : ℤ) (n i : ℕ) → i < n → slice_get (counting first n) i ≡ Some (first +ℤ pos i)
slice_get-counting first zero i h = absurd (omega arith)
slice_get-counting first (suc n) zero h = ap Some (omega (arith, ints))
slice_get-counting first (suc n) (suc i) h =
    let here : i < n = omega arith in
    slice_get-counting (first +ℤ pos 1) n i here ∙ ap Some (omega (arith, ints))

pub length-map' : {A B : Type 0} (f : A → B) → (xs : List A) → length (map f xs) ≡ length xs
length-map' f [] = refl
length-map' f (x ∷ xs) = ap suc (length-map' f xs)

pub slice_get-append_left : {A : Type 0} (xs ys : List A) (i : ℕ) → i < length xs → slice_get (xs ++ ys) i ≡ slice_get xs i
slice_get-append_left [] ys i h = absurd (omega arith)
slice_get-append_left (x ∷ xs) ys zero h = refl
slice_get-append_left (x ∷ xs) ys (suc i) h = slice_get-append_left xs ys i (omega arith)

pub slice_get-append_right : {A : Type 0} (xs ys : List A) (i j : ℕ) → j ≡ length xs + i → slice_get (xs ++ ys) j ≡ slice_get ys i
slice_get-append_right [] ys i j h = ap (slice_get ys) (omega arith)
slice_get-append_right (x ∷ xs) ys i zero h = absurd (omega arith)
slice_get-append_right (x ∷ xs) ys i (suc j) h = slice_get-append_right xs ys i j (omega arith)

-- pieces of one length, joined
pub length-even_pieces : {X A : Type 0} (f : X → List A) → (n : ℕ) → ((x : X) → length (f x) ≡ n) → (xs : List X) → length (flat_map f xs) ≡ n * length xs
length-even_pieces f n e [] = omega arith
length-even_pieces f n e (x ∷ xs) =
    length-append (f x) (flat_map f xs) ∙ omega (arith, e x, length-even_pieces f n e xs, mul-suc n (length xs))

-- the i-th element of the j-th piece
pub slice_get-even_pieces : {X A : Type 0} (f : X → List A) → (n : ℕ) → ((x : X) → length (f x) ≡ n) → (xs : List X) (i j : ℕ) (x : X) → i < n → slice_get xs j ≡ Some x → slice_get (flat_map f xs) (i + n * j) ≡ slice_get (f x) i
slice_get-even_pieces f n e [] i j x h at = cc
slice_get-even_pieces f n e (y ∷ ys) i zero x h at =
    let same : y ≡ x = cc in
    let within : i < length (f y) = omega (arith, e y) in
    let here : i + n * 0 ≡ i = omega arith in
    rw (here, slice_get-append_left (f y) (flat_map f ys) i within, same) refl
slice_get-even_pieces f n e (y ∷ ys) i (suc j) x h at =
    slice_get-append_right (f y) (flat_map f ys) (i + n * j) (i + n * suc j) (omega (arith, e y, mul-suc n j))
    ∙ slice_get-even_pieces f n e ys i j x h at

pub length-round : (axis : Interval) (rest : List ℤ) → length (map (λ x. x ∷ rest) (coordinates axis)) ≡ axis_length axis
length-round axis rest =
    length-map' (λ x. x ∷ rest) (coordinates axis) ∙ length-counting axis.first (axis_length axis)

pub length-cells_of : (axis : Interval) (axes : List Interval) → length (cells_of (axis ∷ axes)) ≡ axis_length axis * length (cells_of axes)
length-cells_of axis axes =
    length-even_pieces (λ rest. map (λ x. x ∷ rest) (coordinates axis)) (axis_length axis) (length-round axis) (cells_of axes)

-- the cell that has a number more than another one's in front, and so many rounds more
pub slice_get-cells_of : (axis : Interval) (axes : List Interval) (i j : ℕ) (xs : List ℤ) → i < axis_length axis → slice_get (cells_of axes) j ≡ Some xs → slice_get (cells_of (axis ∷ axes)) (i + axis_length axis * j) ≡ Some ((axis.first +ℤ pos i) ∷ xs)
slice_get-cells_of axis axes i j xs h at =
    slice_get-even_pieces (λ rest. map (λ x. x ∷ rest) (coordinates axis)) (axis_length axis) (length-round axis) (cells_of axes) i j xs h at
    ∙ slice_get-map (λ x. x ∷ xs) (coordinates axis) i
    ∙ rw (slice_get-counting axis.first (axis_length axis) i h) refl

-- how far a coordinate lies from the axis's first number
pub offset_is : (axis : Interval) (x : ℤ) → axis.first ≤ℤ x → x ≤ℤ axis.last → (axis.first +ℤ pos (count_of (x -ℤ axis.first)) ≡ x) × (count_of (x -ℤ axis.first) < axis_length axis)
offset_is axis x low high =
    let offset : pos (count_of (x -ℤ axis.first)) ≡ x -ℤ axis.first = count_of_from_zero (x -ℤ axis.first) (omega (arith, ints)) in
    let whole : pos (axis_length axis) ≡ (axis.last -ℤ axis.first) +ℤ pos 1 = count_of_from_zero ((axis.last -ℤ axis.first) +ℤ pos 1) (omega (arith, ints)) in
    (omega (arith, ints, offset), omega (arith, ints, offset, whole))

-- a cell stands at its place
pub stands_at_place : (axes : List Interval) (c : List ℤ) → IsIn axes c → slice_get (cells_of axes) (place axes c) ≡ Some c
stands_at_place [] [] h = refl
stands_at_place [] (x ∷ xs) h = absurd h
stands_at_place (axis ∷ axes) [] h = absurd h
stands_at_place (axis ∷ axes) (x ∷ xs) h =
    let offset : (axis.first +ℤ pos (count_of (x -ℤ axis.first)) ≡ x) × (count_of (x -ℤ axis.first) < axis_length axis) = offset_is axis x h.0 h.1 in
    slice_get-cells_of axis axes (count_of (x -ℤ axis.first)) (place axes xs) xs offset.1 (stands_at_place axes xs h.2)
    ∙ ap (λ y. Some (y ∷ xs)) offset.0

-- a number of the axis, counted from its first
pub within_axis : (axis : Interval) (i : ℕ) → i < axis_length axis → (axis.first ≤ℤ (axis.first +ℤ pos i)) × ((axis.first +ℤ pos i) ≤ℤ axis.last)
within_axis axis i h =
    let low : pos 0 ≤ℤ ((axis.last -ℤ axis.first) +ℤ pos 1) =
    by_lt_z (pos 0) ((axis.last -ℤ axis.first) +ℤ pos 1)
    (λ above. omega (arith, ints))
    (λ below. absurd (omega (arith, count_of_below_zero ((axis.last -ℤ axis.first) +ℤ pos 1) below))) in
    let whole : pos (axis_length axis) ≡ (axis.last -ℤ axis.first) +ℤ pos 1 = count_of_from_zero ((axis.last -ℤ axis.first) +ℤ pos 1) low in
    (omega (arith, ints), omega (arith, ints, whole))

-- a place below the product of two numbers, by its quotient and its rest
pub quotient_below : (n m k : ℕ) → k < n * m → (0 < n) × (k % n < n) × (k / n < m)
quotient_below zero m k h = absurd (omega arith)
quotient_below (suc n) m k h =
    let some : 0 < suc n = omega arith in
    (some, mod_below k (suc n) some, div_below k (suc n) m some (let turned : k < m * suc n = rw (mul_comm m (suc n)) h in turned))

-- the cell at a place lies in the box, and that is its place
pub cell_of_is_in : (axes : List Interval) (k : ℕ) → k < length (cells_of axes) → IsIn axes (cell_of axes k)
cell_of_is_in [] k h = tt
cell_of_is_in (axis ∷ axes) k h =
    let parts : (0 < axis_length axis) × (k % axis_length axis < axis_length axis) × (k / axis_length axis < length (cells_of axes)) =
    quotient_below (axis_length axis) (length (cells_of axes)) k (rw (← length-cells_of axis axes) h) in
    let on_axis : (axis.first ≤ℤ (axis.first +ℤ pos (k % axis_length axis))) × ((axis.first +ℤ pos (k % axis_length axis)) ≤ℤ axis.last) =
    within_axis axis (k % axis_length axis) parts.1 in
    (on_axis.0, on_axis.1, cell_of_is_in axes (k / axis_length axis) parts.2)

pub place-cell_of : (axes : List Interval) (k : ℕ) → k < length (cells_of axes) → place axes (cell_of axes k) ≡ k
place-cell_of [] k h = omega arith
place-cell_of (axis ∷ axes) k h =
    let parts : (0 < axis_length axis) × (k % axis_length axis < axis_length axis) × (k / axis_length axis < length (cells_of axes)) =
    quotient_below (axis_length axis) (length (cells_of axes)) k (rw (← length-cells_of axis axes) h) in
    let offset : count_of ((axis.first +ℤ pos (k % axis_length axis)) -ℤ axis.first) ≡ k % axis_length axis =
    ap count_of (let e : (axis.first +ℤ pos (k % axis_length axis)) -ℤ axis.first ≡ pos (k % axis_length axis) = omega (arith, ints) in e) in
    rw (offset, place-cell_of axes (k / axis_length axis) parts.2) (mod-add-div k (axis_length axis))

-- the cell at a place stands there, and each cell that stands there is that one
pub stands_at : (axes : List Interval) (k : ℕ) → k < length (cells_of axes) → slice_get (cells_of axes) k ≡ Some (cell_of axes k)
stands_at axes k h =
    let here : slice_get (cells_of axes) (place axes (cell_of axes k)) ≡ Some (cell_of axes k) =
    stands_at_place axes (cell_of axes k) (cell_of_is_in axes k h) in
    rw (place-cell_of axes k h) at here

pub standing_is : (axes : List Interval) (k : ℕ) (c : List ℤ) → slice_get (cells_of axes) k ≡ Some c → c ≡ cell_of axes k
standing_is axes k c at =
    let here : slice_get (cells_of axes) k ≡ Some (cell_of axes k) = stands_at axes k (slice_get_within (cells_of axes) k c at) in
    cc

-- a cell that stands somewhere lies in the box, and stands at its place alone
pub standing_is_in : (axes : List Interval) (k : ℕ) (c : List ℤ) → slice_get (cells_of axes) k ≡ Some c → IsIn axes c
standing_is_in axes k c at =
    subst (IsIn axes) (sym (standing_is axes k c at)) (cell_of_is_in axes k (slice_get_within (cells_of axes) k c at))

pub place_of_standing : (axes : List Interval) (k : ℕ) (c : List ℤ) → slice_get (cells_of axes) k ≡ Some c → place axes c ≡ k
place_of_standing axes k c at =
    ap (place axes) (standing_is axes k c at) ∙ place-cell_of axes k (slice_get_within (cells_of axes) k c at)

pub stands_once : (axes : List Interval) (j k : ℕ) (c : List ℤ) → slice_get (cells_of axes) j ≡ Some c → slice_get (cells_of axes) k ≡ Some c → j ≡ k
stands_once axes j k c at_j at_k = sym (place_of_standing axes j c at_j) ∙ place_of_standing axes k c at_k

pub place_below : (axes : List Interval) (c : List ℤ) → IsIn axes c → place axes c < length (cells_of axes)
place_below axes c h = slice_get_within (cells_of axes) (place axes c) c (stands_at_place axes c h)

-- the list of a box's cells is its set of cells
pub cells_are_in : (axes : List Interval) (c : List ℤ) → Contains (cells_of axes) c → IsIn axes c
cells_are_in axes c h =
    standing_is_in axes h.0 c (slice_get-get_or (cells_of axes) h.0 c h.1 ∙ ap Some h.2)

pub in_are_cells : (axes : List Interval) (c : List ℤ) → IsIn axes c → Contains (cells_of axes) c
in_are_cells axes c h =
    (place axes c, place_below axes c h, get_or_from_slice_get (cells_of axes) (place axes c) c c (stands_at_place axes c h))

-- the quotient of a smaller place is not above, and where it is the same the rest is below
pub smaller_place : (n i j : ℕ) → 0 < n → i < j → (i / n < j / n) ⊎ ((i / n ≡ j / n) × (i % n < j % n))
smaller_place n i j some h =
    ⊎_elim (λ below. inl below)
    (λ above.
    let same : i / n ≡ j / n =
    ⊎_elim
    (λ less. let round : n * suc (j / n) ≤ n * (i / n) = mul-le-mul_left n less in absurd (omega (arith, mul-suc n (j / n), mod-add-div i n, mod-add-div j n, mod_below j n some)))
    (λ more. omega arith)
    (cases_lt (j / n) (i / n)) in
    let rounds : n * (i / n) ≡ n * (j / n) = ap (λ q. n * q) same in
    inr (same, omega (arith, rounds, mod-add-div i n, mod-add-div j n)))
    (cases_lt (i / n) (j / n))

pub cell_of_ascends : (axes : List Interval) (i j : ℕ) → i < j → j < length (cells_of axes) → IsBefore (cell_of axes i) (cell_of axes j)
cell_of_ascends [] i j h below = absurd (omega arith)
cell_of_ascends (axis ∷ axes) i j h below =
    let parts : (0 < axis_length axis) × (j % axis_length axis < axis_length axis) × (j / axis_length axis < length (cells_of axes)) =
    quotient_below (axis_length axis) (length (cells_of axes)) j (rw (← length-cells_of axis axes) below) in
    ⊎_elim (λ less. inl (cell_of_ascends axes (i / axis_length axis) (j / axis_length axis) less parts.2))
    (λ same. inr (ap (cell_of axes) same.0, omega (arith, ints)))
    (smaller_place (axis_length axis) i j parts.0 h)

pub cells_ascend : (axes : List Interval) → AllPairs IsBefore (cells_of axes)
cells_ascend axes i j d h below =
    let first_there : i < length (cells_of axes) = omega arith in
    rw (
      get_or_from_slice_get (cells_of axes) i (cell_of axes i) d (stands_at axes i first_there),
      get_or_from_slice_get (cells_of axes) j (cell_of axes j) d (stands_at axes j below),
    )
    (cell_of_ascends axes i j h below)
