-- Lanes as contracts see them, numbers, and as the machine has them, bits.
use Rattle.std.proofs.Common.{◌≡◌, ℕ, ◌+◌, ◌<◌, ℤ, pos, List, [], ◌∷◌, length, map, refl, ap, sym, ◌∙◌, subst, FitsSigned, w64, to_z, of_z, to_z-of_z, arith, Result, Ok}
use Rattle.std.proofs.lemmas.Int.{ints}
use Rattle.std.specs.Simd.Lanes.{Each1, zip2}
use Rattle.std.proofs.lemmas.Simd.{length-zip2, get_or-zip2, Each1-get_or}
use lib.ListN.{length-map, get_or-map}
use Rattle.pooma_num.specs.declared.fault.FaultKind.{FaultKind}
use Rattle.pooma_lanes.specs.Rows.{at_place}
use Rattle.pooma_lanes.specs.Blocks.{IsBlock, IsBlockOf, Answers}

-- the numbers of the bits of numbers
abbrev pub back : List ℤ → List ℤ
back xs = map (to_z w64) (map (of_z w64) xs)

-- numbers that fit are those of their bits
pub back_is : (xs : List ℤ) → Each1 (FitsSigned w64) xs → back xs ≡ xs
back_is [] fit = refl
back_is (x ∷ xs) fit = λ i. to_z-of_z fit.0 i ∷ back_is xs fit.1 i

-- the number of any bits fits
pub to_z-fits : (n : ℕ) → FitsSigned w64 (to_z w64 n)
to_z-fits n = omega (arith, ints)

-- so do those of a list
pub map-fits : (ns : List ℕ) → Each1 (FitsSigned w64) (map (to_z w64) ns)
map-fits [] = tt
map-fits (n ∷ ns) = (to_z-fits n, map-fits ns)

pub back-block : (xs : List ℤ) → IsBlock xs → IsBlock (back xs)
back-block xs b = subst IsBlock (sym (back_is xs b.fit)) b

-- what an operation by the lane gives for two blocks is a block
pub zip2-block : (f : ℕ → ℕ → ℕ) (xs ys : List ℤ) → IsBlock xs → IsBlock ys → IsBlock (map (to_z w64) (zip2 f (map (of_z w64) xs) (map (of_z w64) ys)))
zip2-block f xs ys a b =
    let bx = map (of_z w64) xs in
    let by = map (of_z w64) ys in
    let lx : length bx ≡ 8 = length-map xs (of_z w64) ∙ a.count in
    let ly : length by ≡ 8 = length-map ys (of_z w64) ∙ b.count in
    record { count = length-map (zip2 f bx by) (to_z w64) ∙ length-zip2 f bx by (lx ∙ sym ly) ∙ lx; fit = map-fits (zip2 f bx by) }

-- the numbers that a block was loaded from
pub number_of : (f : ℕ → ℤ) (at : ℕ) (xs : List ℤ) → IsBlockOf f at xs → (k : ℕ) → k < 8 → at_place (back xs) k ≡ f (at + k)
number_of f at xs b k lt = ap (λ l. at_place l k) (back_is xs b.block.fit) ∙ b.numbers k lt

-- what is answered in the lanes is answered at the places
pub at_places : (P : ℤ → ℤ → Result ℤ FaultKind → Type 0) (f h : ℕ → ℤ) (at : ℕ) (xs ys rs : List ℤ) → IsBlockOf f at xs → IsBlockOf h at ys → IsBlock rs
    → Answers P (back xs) (back ys) rs → (k : ℕ) → k < 8 → P (f (at + k)) (h (at + k)) (Ok (at_place (back rs) k))
at_places P f h at xs ys rs a b r answers k lt =
    subst (λ x. P x (h (at + k)) (Ok (at_place (back rs) k))) (number_of f at xs a k lt)
    (subst (λ y. P (at_place (back xs) k) y (Ok (at_place (back rs) k))) (number_of h at ys b k lt)
    (subst (λ l. P (at_place (back xs) k) (at_place (back ys) k) (Ok (at_place l k))) (sym (back_is rs r.fit)) (answers k lt)))

-- what an operation by the lane gives in a lane
pub lane_of : (f : ℕ → ℕ → ℕ) (xs ys : List ℤ) → IsBlock xs → IsBlock ys → (k : ℕ) → k < 8
    → at_place (map (to_z w64) (zip2 f (map (of_z w64) xs) (map (of_z w64) ys))) k ≡ to_z w64 (f (of_z w64 (at_place xs k)) (of_z w64 (at_place ys k)))
lane_of f xs ys a b k lt =
    let bx = map (of_z w64) xs in
    let by = map (of_z w64) ys in
    get_or-map (to_z w64) (zip2 f bx by) k 0
    ∙ ap (to_z w64) (get_or-zip2 f bx by k 0 0 0 (omega (arith, lt, length-map xs (of_z w64), a.count)) (omega (arith, lt, length-map ys (of_z w64), b.count))
    ∙ λ i. f (get_or-map (of_z w64) xs k (pos 0) i) (get_or-map (of_z w64) ys k (pos 0) i))

pub lane-fits : (xs : List ℤ) → IsBlock xs → (k : ℕ) → k < 8 → FitsSigned w64 (at_place xs k)
lane-fits xs b k lt = Each1-get_or (FitsSigned w64) xs k (pos 0) (omega (arith, lt, b.count)) b.fit
