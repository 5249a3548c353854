-- The places at which numbers at equal steps come past borders are those at which their part changes.
use Rattle.std.proofs.Common.{refl, sym, ap, ◌∙◌, subst, inl, inr, ⊎_elim, arith}
use Rattle.std.proofs.lemmas.Bool.{eqb-true, false≢true}
use Rattle.std.proofs.lemmas.Int.{ints, by_lt_z}
use Rattle.std.proofs.lemmas.List.Elements.{All-contains, All-cons, All-nil}
use Rattle.std.proofs.Math.IntN.{*ℤ_comm, *ℤ-negsuc}
use Rattle.std.specs.Prelude.{◌≡◌, ◌⊎◌, ◌↔◌, ℕ, suc, ◌==◌, ℤ, pos, negsuc, neg_ℤ, ◌+ℤ◌, ◌-ℤ◌, ◌*ℤ◌, ◌≤ℤ◌, ◌<ℤ◌, Bool, true, false, not, List, [], ◌∷◌, All, Any}
use Rattle.pooma_logic.proofs.Members.{Member, any_of, contains_of, of_any}
use Rattle.pooma_domain.specs.declared.strides.Strided.{Strided}
use Rattle.pooma_layout.specs.Axes.{part_of, IsAscending}
use Rattle.pooma_layout.proofs.Cutting.{one_part_by_borders}
use Rattle.pooma_model.specs.Parts.{changes_part}
use Rattle.pooma_part.specs.Crossing.{number_on, LiesBetween, IsCrossing, part_at}
use Rattle.pooma_part.proofs.Stepping.{product_next, products_up, products_down}

-- ---- one place alone

before_up : (s : Strided) (j k : ℤ) → pos 0 ≤ℤ s.stride → j ≤ℤ k → number_on s j ≤ℤ number_on s k
before_up s j k up h = let more : (s.stride *ℤ j) ≤ℤ (s.stride *ℤ k) = products_up s.stride j k up h in omega (arith, ints, more)

before_down : (s : Strided) (j k : ℤ) → s.stride ≤ℤ pos 0 → j ≤ℤ k → number_on s k ≤ℤ number_on s j
before_down s j k down h = let less : (s.stride *ℤ k) ≤ℤ (s.stride *ℤ j) = products_down s.stride j k down h in omega (arith, ints, less)

crossed_up : (s : Strided) (b k : ℤ) → pos 0 ≤ℤ s.stride → IsCrossing s b k → (number_on s (k -ℤ pos 1) <ℤ b) × (b ≤ℤ number_on s k)
crossed_up s b k up here =
    let more : number_on s (k -ℤ pos 1) ≤ℤ number_on s k = before_up s (k -ℤ pos 1) k up (omega (arith, ints)) in
    ⊎_elim (λ h. h) (λ h. absurd (omega (arith, ints, more, h.0, h.1))) here

crossed_down : (s : Strided) (b k : ℤ) → s.stride ≤ℤ pos 0 → IsCrossing s b k → (number_on s k <ℤ b) × (b ≤ℤ number_on s (k -ℤ pos 1))
crossed_down s b k down here =
    let less : number_on s k ≤ℤ number_on s (k -ℤ pos 1) = before_down s (k -ℤ pos 1) k down (omega (arith, ints)) in
    ⊎_elim (λ h. absurd (omega (arith, ints, less, h.0, h.1))) (λ h. h) here

not_before : (s : Strided) (b j k : ℤ) → IsCrossing s b j → IsCrossing s b k → j <ℤ k → ⊥
not_before s b j k first second h =
    by_lt_z s.stride (pos 0)
    (λ down.
    let one : (number_on s j <ℤ b) × (b ≤ℤ number_on s (j -ℤ pos 1)) = crossed_down s b j (omega (arith, ints)) first in
    let other : (number_on s k <ℤ b) × (b ≤ℤ number_on s (k -ℤ pos 1)) = crossed_down s b k (omega (arith, ints)) second in
    let less : number_on s (k -ℤ pos 1) ≤ℤ number_on s j = before_down s j (k -ℤ pos 1) (omega (arith, ints)) (omega (arith, ints)) in
    omega (arith, ints, one.0, other.1, less))
    (λ up.
    let one : (number_on s (j -ℤ pos 1) <ℤ b) × (b ≤ℤ number_on s j) = crossed_up s b j up first in
    let other : (number_on s (k -ℤ pos 1) <ℤ b) × (b ≤ℤ number_on s k) = crossed_up s b k up second in
    let more : number_on s j ≤ℤ number_on s (k -ℤ pos 1) = before_up s j (k -ℤ pos 1) up (omega (arith, ints)) in
    omega (arith, ints, one.1, other.0, more))

-- the numbers come past a border at one place
pub crossing_once : (s : Strided) (b j k : ℤ) → IsCrossing s b j → IsCrossing s b k → j ≡ k
crossing_once s b j k first second =
    by_lt_z j k
    (λ less. absurd (not_before s b j k first second less))
    (λ more. by_lt_z k j (λ less. absurd (not_before s b k j second first less)) (λ other. omega (arith, ints)))

-- ---- the quotients name it

pub crossing_up : (s : Strided) (b q k n way : ℤ) → (n *ℤ q) ≤ℤ way → way <ℤ ((n *ℤ q) +ℤ n) → n ≡ s.stride → way ≡ (b -ℤ s.first) -ℤ pos 1 → k ≡ q +ℤ pos 1 → IsCrossing s b k
crossing_up s b q k n way within most en ew ek =
    let back : (q +ℤ pos 1) -ℤ pos 1 ≡ q = omega (arith, ints) in
    let next : s.stride *ℤ (q +ℤ pos 1) ≡ s.stride *ℤ q +ℤ s.stride = product_next s.stride q in
    let product : n *ℤ q ≡ s.stride *ℤ q = ap (λ z. z *ℤ q) en in
    subst (IsCrossing s b) (sym ek) (inl (rw back (omega (arith, ints, within, product, ew)), rw next (omega (arith, ints, most, product, ew, en))))

turned : (m : ℕ) (q : ℤ) → negsuc m *ℤ q ≡ neg_ℤ (pos (suc m) *ℤ q)
turned m q = *ℤ_comm (negsuc m) q ∙ *ℤ-negsuc q m ∙ ap neg_ℤ (*ℤ_comm q (pos (suc m)))

down_by : (first stride b q n way : ℤ) → stride <ℤ pos 0 → (n *ℤ q) ≤ℤ way → way <ℤ ((n *ℤ q) +ℤ n) → n ≡ neg_ℤ stride → way ≡ neg_ℤ (b -ℤ first)
    → LiesBetween b (first +ℤ stride *ℤ ((q +ℤ pos 1) -ℤ pos 1)) (first +ℤ stride *ℤ (q +ℤ pos 1))
down_by first (pos a) b q n way down within most en ew = absurd (omega (arith, ints, down))
down_by first (negsuc m) b q n way down within most en ew =
    let back : (q +ℤ pos 1) -ℤ pos 1 ≡ q = omega (arith, ints) in
    let next : negsuc m *ℤ (q +ℤ pos 1) ≡ negsuc m *ℤ q +ℤ negsuc m = product_next (negsuc m) q in
    let turn : negsuc m *ℤ q ≡ neg_ℤ (n *ℤ q) = turned m q ∙ ap (λ z. neg_ℤ (z *ℤ q)) (sym en) in
    inr (rw next (omega (arith, ints, most, turn, en, ew)), rw back (omega (arith, ints, within, turn, ew)))

pub crossing_down : (s : Strided) (b q k n way : ℤ) → (n *ℤ q) ≤ℤ way → way <ℤ ((n *ℤ q) +ℤ n) → s.stride <ℤ pos 0 → n ≡ neg_ℤ s.stride → way ≡ neg_ℤ (b -ℤ s.first) → k ≡ q +ℤ pos 1 → IsCrossing s b k
crossing_down s b q k n way within most down en ew ek =
    subst (IsCrossing s b) (sym ek) (down_by s.first s.stride b q n way down within most en ew)

-- ---- the part changes where a border is come past

abbrev Between : ℤ → ℤ → ℤ → Type 0
Between x y b = (x <ℤ b) × (b ≤ℤ y)

some_or_none : (x y : ℤ) (bs : List ℤ) → ((b : ℤ) × Member bs b × Between x y b) ⊎ All (λ b. ¬ (Between x y b)) bs
some_or_none x y [] = inr (All-nil (λ b. ¬ (Between x y b)))
some_or_none x y (b ∷ bs) =
    by_lt_z x b
    (λ low. by_lt_z y b
    (λ past. further (λ h. omega (arith, ints, past, h.1)) (some_or_none x y bs))
    (λ within. inl (b, inl refl, (low, within))))
    (λ not_low. further (λ h. omega (arith, ints, not_low, h.0)) (some_or_none x y bs))
  where
    further : (Between x y b → ⊥) → ((c : ℤ) × Member bs c × Between x y c) ⊎ All (λ c. ¬ (Between x y c)) bs → ((c : ℤ) × Member (b ∷ bs) c × Between x y c) ⊎ All (λ c. ¬ (Between x y c)) (b ∷ bs)
    further not here = ⊎_elim (λ some. inl (some.0, inr some.1, some.2)) (λ none. inr (All-cons (λ c. ¬ (Between x y c)) b bs not none)) here

same_told : (a b : ℕ) → a ≡ b → a == b ≡ true
same_told a b e = grind arith

differs : (a b : ℕ) → not (a == b) ≡ true → a ≡ b → ⊥
differs a b e same = false≢true (by (a == b) refl e)
  where
    by : (t : Bool) → a == b ≡ t → not t ≡ true → false ≡ true
    by true is h = h
    by false is h = absurd (false≢true (sym is ∙ same_told a b same))

differs_told : (a b : ℕ) → (a ≡ b → ⊥) → not (a == b) ≡ true
differs_told a b apart = by (a == b) refl
  where
    by : (t : Bool) → a == b ≡ t → not t ≡ true
    by true is = absurd (apart (eqb-true a b is))
    by false is = refl

-- in either order of two numbers
parted : (bs : List ℤ) (x y : ℤ) → IsAscending bs → x ≤ℤ y → ((b : ℤ) × Member bs b × Between x y b) ↔ (part_of bs x ≡ part_of bs y → ⊥)
parted bs x y ascending h =
    let law : (part_of bs x ≡ part_of bs y) ↔ All (λ b. ¬ (Between x y b)) bs = one_part_by_borders bs x y ascending h in (
      λ some same. All-contains (λ b. ¬ (Between x y b)) bs some.0 (law.0 same) (contains_of bs some.0 some.1) some.2,
      λ apart. ⊎_elim (λ some. some) (λ none. absurd (apart (law.1 none))) (some_or_none x y bs),
    )

pub crossed : (s : Strided) (bs : List ℤ) (k : ℤ) → IsAscending bs → Any (λ b. IsCrossing s b k) bs ↔ (changes_part k (part_at bs s) ≡ true)
crossed s bs k ascending =
    let x = number_on s (k -ℤ pos 1) in
    let y = number_on s k in (
      λ any.
          let found = any_of (λ b. IsCrossing s b k) bs any in
          ⊎_elim
          (λ h. let up : x ≤ℤ y = omega (arith, ints, h.0, h.1) in differs_told (part_of bs x) (part_of bs y) ((parted bs x y ascending up).0 (found.0, found.1, h)))
          (λ h. let down : y ≤ℤ x = omega (arith, ints, h.0, h.1) in differs_told (part_of bs x) (part_of bs y) (λ same. (parted bs y x ascending down).0 (found.0, found.1, h) (sym same)))
          found.2,
      λ changes.
          let apart : part_of bs x ≡ part_of bs y → ⊥ = differs (part_of bs x) (part_of bs y) changes in
          by_lt_z x y
          (λ less. let found = (parted bs x y ascending (omega (arith, ints, less))).1 apart in of_any (λ b. IsCrossing s b k) bs found.0 found.1 (inl found.2))
          (λ more. let found = (parted bs y x ascending more).1 (λ same. apart (sym same)) in of_any (λ b. IsCrossing s b k) bs found.0 found.1 (inr found.2)),
    )
