-- Lists of numbers that ascend: such a list is known by its members.
use Rattle.std.proofs.Common.{refl, sym, ap, ◌∙◌, subst, inl, inr, ⊎_elim, arith, cond, get_or, Less}
use Rattle.std.proofs.lemmas.Bool.{false≢true}
use Rattle.std.proofs.lemmas.Bool.Decides.{Decides-int_eq}
use Rattle.std.proofs.lemmas.Cmp.{int_cmp_total, int_eq_equiv}
use Rattle.std.proofs.lemmas.Int.{ints, by_lt_z}
use Rattle.std.proofs.lemmas.List.Elements.{All-from_recursion}
use Rattle.std.proofs.lemmas.List.Filters.{dedup_is}
use Rattle.std.proofs.lemmas.List.Kept.{AllPairs-cons, Contains-dedup, Contains-from_dedup, IsStrictlySortedBy-dedup}
use Rattle.std.proofs.lemmas.List.Sorted.{Contains-permutation, IsPermutation-sym}
use Rattle.std.specs.List.{dedup, filter}
use Rattle.std.specs.List.Retain.{DiffersFromLast, IsFiltered}
use Rattle.std.specs.List.Sorted.{IsPermutation, IsSorted, IsStrictlySortedBy}
use Rattle.std.specs.Ordering.{eq_by_cmp, int_cmp, int_eq}
use Rattle.std.specs.Prelude.{◌≡◌, ◌⊎◌, ◌↔◌, ℕ, zero, suc, ◌<◌, ℤ, pos, ◌+ℤ◌, ◌≤ℤ◌, ◌<ℤ◌, Bool, true, false, List, [], ◌∷◌, length, Contains}
use Rattle.pooma_logic.proofs.Members.{Member, contains_of, member_of}
use Rattle.pooma_domain.specs.Cells.{counting}
use Rattle.pooma_layout.specs.Axes.{IsAscending}

-- each number is below all later ones
abbrev pub Rising : List ℤ → Type 0
Rising [] = Unit {0}
Rising (x ∷ xs) = ((y : ℤ) → Member xs y → x <ℤ y) × Rising xs

first_of_both : (x y : ℤ) (xs ys : List ℤ) → Rising (x ∷ xs) → Rising (y ∷ ys) → ((k : ℤ) → Member (x ∷ xs) k ↔ Member (y ∷ ys) k) → x ≡ y
first_of_both x y xs ys up vp same =
    ⊎_elim (λ e. sym e)
    (λ later. ⊎_elim (λ e. e)
    (λ earlier. let below : x <ℤ y = up.0 y earlier in let above : y <ℤ x = vp.0 x later in absurd (omega (arith, ints)))
    ((same y).1 (inl refl)))
    ((same x).0 (inl refl))

pub same_members : (xs ys : List ℤ) → Rising xs → Rising ys → ((k : ℤ) → Member xs k ↔ Member ys k) → xs ≡ ys
same_members [] [] up vp same = refl
same_members [] (y ∷ ys) up vp same = absurd ((same y).1 (inl refl))
same_members (x ∷ xs) [] up vp same = absurd ((same x).0 (inl refl))
same_members (x ∷ xs) (y ∷ ys) up vp same =
    let first : x ≡ y = first_of_both x y xs ys up vp same in
    ap (λ z. z ∷ xs) first
    ∙ ap (λ zs. y ∷ zs) (same_members xs ys up.1 vp.1 (λ k. (
      λ m. ⊎_elim (λ e. let below : x <ℤ k = up.0 k m in absurd (omega (arith, ints, first, e))) (λ l. l) ((same k).0 (inr m)),
      λ m. ⊎_elim (λ e. let below : y <ℤ k = vp.0 k m in absurd (omega (arith, ints, first, e))) (λ l. l) ((same k).1 (inr m)),
    )))

-- ---- what sorting without repetition leaves

less_is : (x y : ℤ) → int_cmp x y ≡ Less → x <ℤ y
less_is x y e = by_lt_z x y (λ h. h) (λ h. grind (arith, ints))

rising_by : (xs : List ℤ) → IsStrictlySortedBy int_cmp xs → Rising xs
unfolding IsStrictlySortedBy
rising_by [] h = tt
rising_by (x ∷ xs) h = (
  λ y m. let all = All-from_recursion (λ z. int_cmp x z ≡ Less) xs h.0 in
      let there = contains_of xs y m in
      less_is x y (subst (λ z. int_cmp x z ≡ Less) there.2 (all there.0 y there.1)),
  rising_by xs h.1,
)

equal_is : (x y : ℤ) → int_eq x y ≡ true → x ≡ y
equal_is x y e = (Decides-int_eq x y).0 e

ties : (x y : ℤ) → int_eq x y ≡ eq_by_cmp int_cmp x y
ties x y = grind (arith, ints)

-- a list that was sorted, and in which each number is kept once, ascends and has the same members
pub sorted_once : (xs ys zs : List ℤ) → IsPermutation xs ys → IsSorted int_cmp ys → IsFiltered (DiffersFromLast int_eq) [] ys zs → Rising zs × ((k : ℤ) → Contains xs k ↔ Member zs k)
sorted_once xs ys zs moved sorted once =
    let is : zs ≡ dedup int_eq ys = dedup_is int_eq ys zs once in (
      subst Rising (sym is) (rising_by (dedup int_eq ys) (IsStrictlySortedBy-dedup int_cmp_total ties ys sorted)),
      λ k. (
        λ h. member_of zs k (subst (λ l. Contains l k) (sym is) (Contains-dedup int_eq_equiv equal_is ys k (Contains-permutation xs ys k moved h))),
        λ m. Contains-permutation ys xs k (IsPermutation-sym xs ys moved) (Contains-from_dedup int_eq ys k (subst (λ l. Contains l k) is (contains_of zs k m))),
      ),
    )

pub ascending_of : (xs : List ℤ) → Rising xs → IsAscending xs
ascending_of [] up = λ i j d below within. absurd (omega arith)
ascending_of (x ∷ xs) up =
    AllPairs-cons (λ a b. a <ℤ b) x xs
    (λ k d within. up.0 _ (member_of xs _ (k, within, refl_at xs k d within)))
    (ascending_of xs up.1)
  where
    refl_at : (xs : List ℤ) (k : ℕ) (d : ℤ) → k < length xs → get_or xs k (get_or xs k d) ≡ get_or xs k d
    refl_at [] k d h = absurd (omega arith)
    refl_at (y ∷ ys) zero d h = refl
    refl_at (y ∷ ys) (suc k) d h = refl_at ys k d (omega arith)

-- ---- numbers in a row, and those of them that pass a test

pub counted_member : (c : ℤ) (n : ℕ) (k : ℤ) → Member (counting c n) k ↔ ((c ≤ℤ k) × (k <ℤ (c +ℤ pos n)))
counted_member c zero k = (λ m. absurd m, λ h. absurd (omega (arith, ints, h.0, h.1)))
counted_member c (suc n) k =
    let rest : Member (counting (c +ℤ pos 1) n) k ↔ (((c +ℤ pos 1) ≤ℤ k) × (k <ℤ ((c +ℤ pos 1) +ℤ pos n))) = counted_member (c +ℤ pos 1) n k in (
      λ m. ⊎_elim (λ e. (omega (arith, ints, e), omega (arith, ints, e))) (λ l. let later = rest.0 l in (omega (arith, ints, later.0), omega (arith, ints, later.1))) m,
      λ h. by_lt_z c k
          (λ less. inr (rest.1 (omega (arith, ints, less), omega (arith, ints, h.1))))
          (λ more. inl (omega (arith, ints, more, h.0))),
    )

counting_rises : (c : ℤ) (n : ℕ) → Rising (counting c n)
counting_rises c zero = tt
counting_rises c (suc n) = (
  λ y m. let low : (c +ℤ pos 1) ≤ℤ y = ((counted_member (c +ℤ pos 1) n y).0 m).0 in omega (arith, ints),
  counting_rises (c +ℤ pos 1) n,
)

pub kept_member : (test : ℤ → Bool) (xs : List ℤ) (k : ℤ) → Member (filter test xs) k ↔ (Member xs k × (test k ≡ true))
kept_member test [] k = (λ m. absurd m, λ h. absurd h.0)
kept_member test (x ∷ xs) k = by (test x) refl (kept_member test xs k)
  where
    by : (b : Bool) → test x ≡ b → (Member (filter test xs) k ↔ (Member xs k × (test k ≡ true))) → Member (cond b (x ∷ filter test xs) (filter test xs)) k ↔ (((x ≡ k) ⊎ Member xs k) × (test k ≡ true))
    by true e rest = (
      λ m. ⊎_elim (λ same. (inl same, subst (λ z. test z ≡ true) same e)) (λ l. let later = rest.0 l in (inr later.0, later.1)) m,
      λ h. ⊎_elim (λ same. inl same) (λ l. inr (rest.1 (l, h.1))) h.0,
    )
    by false e rest = (
      λ m. let later = rest.0 m in (inr later.0, later.1),
      λ h. ⊎_elim (λ same. absurd (false≢true (sym e ∙ ap test same ∙ h.1))) (λ l. rest.1 (l, h.1)) h.0,
    )

kept_rises : (test : ℤ → Bool) (xs : List ℤ) → Rising xs → Rising (filter test xs)
kept_rises test [] up = tt
kept_rises test (x ∷ xs) up = by (test x) (kept_rises test xs up.1)
  where
    by : (b : Bool) → Rising (filter test xs) → Rising (cond b (x ∷ filter test xs) (filter test xs))
    by true rest = (λ y m. up.0 y ((kept_member test xs y).0 m).0, rest)
    by false rest = rest

pub chosen_rise : (test : ℤ → Bool) (c : ℤ) (n : ℕ) → Rising (filter test (counting c n))
chosen_rise test c n = kept_rises test (counting c n) (counting_rises c n)
