-- Ascending lists of entries, and answers that name their beginnings.
use Rattle.std.proofs.Common.{◌≡◌, ◌⊎◌, ◌||◌, ◌<◌, ◌≤◌, ℕ, zero, suc, Bool, true, List, [], ◌∷◌, ◌++◌, length, take, drop, get_or, min, Contains, refl, sym, ◌∙◌, ap, subst, arith, inl, inr, nat_lt, length-take, Result, Ok, Err}
use Rattle.std.proofs.Math.Bool.{or-false}
use Rattle.std.proofs.lemmas.Bool.Decides.{leb_tells, eqb_tells}
use Rattle.std.proofs.lemmas.List.{take_all, get_or-take}
use Rattle.std.proofs.lemmas.List.Elements.{Contains-get_or}
use Rattle.std.proofs.lemmas.List.Kept.{AllPairs-cons}
use Rattle.std.proofs.lemmas.List.Sorted.{searched}
use Rattle.std.specs.List.Sorted.{IsBinarySearchResult}
use Rattle.std.specs.Ordering.{nat_cmp}
use Rattle.pooma_logic.proofs.Ascending.{ascending_first, ascending_rest, ascending_rises}
use Rattle.pooma_logic.proofs.Elements.{contains_cases, contains_first, contains_rest, contains_none}
use Rattle.pooma_machine.specs.Became.{IsAscending, Woken, Names, with_entry}

pub ascending_cons : (x : ℕ) (xs : List ℕ) → ((b : ℕ) → Contains xs b → x < b) → IsAscending xs → IsAscending (x ∷ xs)
ascending_cons x xs below up = AllPairs-cons (λ a b. a < b) x xs (λ k d h. below (get_or xs k d) (Contains-get_or xs k d h)) up

pub ascending_take : (xs : List ℕ) (n : ℕ) → IsAscending xs → IsAscending (take n xs)
ascending_take xs n up i j d lt within =
    let l : length (take n xs) ≡ min n (length xs) = length-take n xs in
    let a : get_or (take n xs) i d ≡ get_or xs i d = get_or-take n xs i d (omega arith) in
    let b : get_or (take n xs) j d ≡ get_or xs j d = get_or-take n xs j d (omega arith) in
    let above : get_or xs i d < get_or xs j d = up i j d lt (omega arith) in
    omega arith

-- where a number is put in: before the first one, at it, or behind it
abbrev pub Placed : ℕ → ℕ → List ℕ → Type 0
Placed j k ks = ((j < k) × (with_entry j (k ∷ ks) ≡ j ∷ k ∷ ks)) ⊎ (((j ≡ k) × (with_entry j (k ∷ ks) ≡ k ∷ ks)) ⊎ ((k < j) × (with_entry j (k ∷ ks) ≡ k ∷ with_entry j ks)))

pub with_cases : (j k : ℕ) (ks : List ℕ) → Placed j k ks
with_cases j k ks =
    elim (leb_tells (suc j) k) [
      | inl t ↦ inl (t.1, rw t.0 refl)
      | inr f ↦ elim (eqb_tells j k) [
        | inl same ↦ inr (inl (same.1, rw (f.0, same.0) refl))
        | inr other ↦ let lt : k < suc j = f.1 in inr (inr (omega (arith, other.1), rw (f.0, other.0) refl))
      ]
    ]

-- it has the numbers of the list and this one
pub with_has : (j : ℕ) (xs : List ℕ) (c : ℕ) → Contains (with_entry j xs) c → Contains xs c ⊎ (c ≡ j)
with_has j [] c h = elim (contains_cases j [] c h) [ inl e ↦ inr e | inr more ↦ absurd (contains_none c more) ]
with_has j (k ∷ ks) c h = by (with_has j ks c) (with_cases j k ks)
  where
    by : (Contains (with_entry j ks) c → Contains ks c ⊎ (c ≡ j)) → Placed j k ks → Contains (k ∷ ks) c ⊎ (c ≡ j)
    by rest (inl (lt, e)) = elim (contains_cases j (k ∷ ks) c (subst (λ l. Contains l c) e h)) [ inl same ↦ inr same | inr more ↦ inl more ]
    by rest (inr (inl (same, e))) = inl (subst (λ l. Contains l c) e h)
    by rest (inr (inr (lt, e))) =
        elim (contains_cases k (with_entry j ks) c (subst (λ l. Contains l c) e h)) [
          | inl same ↦ inl (subst (Contains (k ∷ ks)) (sym same) (contains_first k ks))
          | inr more ↦ elim (rest more) [ inl there ↦ inl (contains_rest k ks c there) | inr new ↦ inr new ]
        ]

pub has_with : (j : ℕ) (xs : List ℕ) (c : ℕ) → Contains xs c ⊎ (c ≡ j) → Contains (with_entry j xs) c
has_with j [] c (inl h) = absurd (contains_none c h)
has_with j [] c (inr e) = subst (Contains (j ∷ [])) (sym e) (contains_first j [])
has_with j (k ∷ ks) c h = by (has_with j ks c) (with_cases j k ks)
  where
    by : (Contains ks c ⊎ (c ≡ j) → Contains (with_entry j ks) c) → Placed j k ks → Contains (with_entry j (k ∷ ks)) c
    by rest (inl (lt, e)) =
        subst (λ l. Contains l c) (sym e) (elim h [ inl there ↦ contains_rest j (k ∷ ks) c there | inr new ↦ subst (Contains (j ∷ k ∷ ks)) (sym new) (contains_first j (k ∷ ks)) ])
    by rest (inr (inl (same, e))) =
        subst (λ l. Contains l c) (sym e) (elim h [ inl there ↦ there | inr new ↦ subst (Contains (k ∷ ks)) (sym (new ∙ same)) (contains_first k ks) ])
    by rest (inr (inr (lt, e))) = subst (λ l. Contains l c) (sym e) (further rest h)
      where
        further : (Contains ks c ⊎ (c ≡ j) → Contains (with_entry j ks) c) → Contains (k ∷ ks) c ⊎ (c ≡ j) → Contains (k ∷ with_entry j ks) c
        further rest (inl there) =
            elim (contains_cases k ks c there) [
              | inl same ↦ subst (Contains (k ∷ with_entry j ks)) (sym same) (contains_first k (with_entry j ks))
              | inr more ↦ contains_rest k (with_entry j ks) c (rest (inl more))
            ]
        further rest (inr new) = contains_rest k (with_entry j ks) c (rest (inr new))

-- and ascends
pub with_ascending : (j : ℕ) (xs : List ℕ) → IsAscending xs → IsAscending (with_entry j xs)
with_ascending j [] up = ascending_cons j [] (λ b h. absurd (contains_none b h)) up
with_ascending j (k ∷ ks) up = by (with_ascending j ks (ascending_rest k ks up)) (with_cases j k ks)
  where
    by : IsAscending (with_entry j ks) → Placed j k ks → IsAscending (with_entry j (k ∷ ks))
    by rest (inl (lt, e)) =
        subst IsAscending (sym e) (ascending_cons j (k ∷ ks) (λ b h.
        elim (contains_cases k ks b h) [
          | inl same ↦ subst (λ n. j < n) (sym same) lt
          | inr more ↦ let above : k < b = ascending_first k ks b up more in omega arith
        ]) up)
    by rest (inr (inl (same, e))) = subst IsAscending (sym e) up
    by rest (inr (inr (lt, e))) =
        subst IsAscending (sym e) (ascending_cons k (with_entry j ks) (λ b h.
        elim (with_has j ks b h) [
          | inl there ↦ ascending_first k ks b up there
          | inr new ↦ subst (λ n. k < n) (sym new) lt
        ]) rest)

-- a number that is there is not put in again
pub with_there : (j : ℕ) (xs : List ℕ) (i : ℕ) → IsAscending xs → i < length xs → get_or xs i 0 ≡ j → with_entry j xs ≡ xs
with_there j [] i up within is = absurd (omega arith)
with_there j (k ∷ ks) i up within is = by (λ i. with_there j ks i (ascending_rest k ks up)) (with_cases j k ks) i within is
  where
    by : ((i : ℕ) → i < length ks → get_or ks i 0 ≡ j → with_entry j ks ≡ ks) → Placed j k ks
        → (i : ℕ) → i < length (k ∷ ks) → get_or (k ∷ ks) i 0 ≡ j → with_entry j (k ∷ ks) ≡ k ∷ ks
    by rest (inl (lt, e)) zero h same = let here : k ≡ j = same in absurd (omega arith)
    by rest (inl (lt, e)) (suc i) h same = let above : k < get_or ks i 0 = up 0 (suc i) 0 (omega arith) h in let there : get_or ks i 0 ≡ j = same in absurd (omega arith)
    by rest (inr (inl (same, e))) i h is = e
    by rest (inr (inr (lt, e))) zero h same = let here : k ≡ j = same in absurd (omega arith)
    by rest (inr (inr (lt, e))) (suc i) h same = e ∙ ap (λ l. k ∷ l) (rest i (omega arith) same)

-- a further one stands between those below and those above it
pub with_new : (j : ℕ) (xs : List ℕ) (i : ℕ) → i ≤ length xs → ((k : ℕ) → k < i → get_or xs k 0 < j) → ((k : ℕ) → i ≤ k → k < length xs → j < get_or xs k 0)
    → with_entry j xs ≡ take i xs ++ j ∷ drop i xs
with_new j [] zero le below above = refl
with_new j [] (suc i) le below above = absurd (omega arith)
with_new j (k ∷ ks) i le below above = by (with_new j ks) (with_cases j k ks) i le below above
  where
    by : ((i : ℕ) → i ≤ length ks → ((n : ℕ) → n < i → get_or ks n 0 < j) → ((n : ℕ) → i ≤ n → n < length ks → j < get_or ks n 0) → with_entry j ks ≡ take i ks ++ j ∷ drop i ks)
        → Placed j k ks
        → (i : ℕ) → i ≤ length (k ∷ ks) → ((n : ℕ) → n < i → get_or (k ∷ ks) n 0 < j) → ((n : ℕ) → i ≤ n → n < length (k ∷ ks) → j < get_or (k ∷ ks) n 0)
        → with_entry j (k ∷ ks) ≡ take i (k ∷ ks) ++ j ∷ drop i (k ∷ ks)
    by rest (inl (lt, e)) zero h low high = e
    by rest (inl (lt, e)) (suc i) h low high = let first : k < j = low 0 (omega arith) in absurd (omega arith)
    by rest (inr (inl (same, e))) zero h low high = let first : j < k = high 0 (omega arith) (omega arith) in absurd (omega arith)
    by rest (inr (inl (same, e))) (suc i) h low high = let first : k < j = low 0 (omega arith) in absurd (omega arith)
    by rest (inr (inr (lt, e))) zero h low high = let first : j < k = high 0 (omega arith) (omega arith) in absurd (omega arith)
    by rest (inr (inr (lt, e))) (suc i) h low high =
        e ∙ ap (λ l. k ∷ l) (rest i (omega arith) (λ n lt. low (suc n) (omega arith)) (λ n le within. high (suc n) (omega arith) (omega arith)))

-- what a list begins with, after a number was put in, is seen from its beginning
pub take_with : (j : ℕ) (xs : List ℕ) (n : ℕ) → take n (with_entry j xs) ≡ take n (with_entry j (take n xs))
take_with j xs zero = take_none (with_entry j xs) ∙ sym (take_none (with_entry j (take 0 xs)))
  where
    take_none : (ys : List ℕ) → take 0 ys ≡ []
    take_none [] = refl
    take_none (y ∷ ys) = refl
take_with j [] (suc n) = refl
take_with j (k ∷ ks) (suc n) = by (take_with j ks n) (with_cases j k ks) (with_cases j k (take n ks))
  where
    again : (m : ℕ) (ys : List ℕ) → take m (k ∷ ys) ≡ take m (k ∷ take m ys)
    again zero ys = refl
    again (suc m) ys = ap (λ l. k ∷ l) (twice m ys)
      where
        twice : (m : ℕ) (ys : List ℕ) → take m ys ≡ take m (take (suc m) ys)
        twice zero [] = refl
        twice zero (y ∷ ys) = refl
        twice (suc m) [] = refl
        twice (suc m) (y ∷ ys) = ap (λ l. y ∷ l) (twice m ys)

    same : (m : ℕ) (ys : List ℕ) → take m ys ≡ take m (take m ys)
    same zero [] = refl
    same zero (y ∷ ys) = refl
    same (suc m) [] = refl
    same (suc m) (y ∷ ys) = ap (λ l. y ∷ l) (same m ys)

    by : take n (with_entry j ks) ≡ take n (with_entry j (take n ks)) → Placed j k ks
        → Placed j k (take n ks)
        → take (suc n) (with_entry j (k ∷ ks)) ≡ take (suc n) (with_entry j (k ∷ take n ks))
    by rest (inl (lt, e)) (inl (lt', e')) = rw (e, e') (ap (λ l. j ∷ l) (again n ks))
    by rest (inl (lt, e)) (inr (inl (eq', e'))) = absurd (omega arith)
    by rest (inl (lt, e)) (inr (inr (lt', e'))) = absurd (omega arith)
    by rest (inr (inl (eq, e))) (inl (lt', e')) = absurd (omega arith)
    by rest (inr (inl (eq, e))) (inr (inl (eq', e'))) = rw (e, e') (ap (λ l. k ∷ l) (same n ks))
    by rest (inr (inl (eq, e))) (inr (inr (lt', e'))) = absurd (omega arith)
    by rest (inr (inr (lt, e))) (inl (lt', e')) = absurd (omega arith)
    by rest (inr (inr (lt, e))) (inr (inl (eq', e'))) = absurd (omega arith)
    by rest (inr (inr (lt, e))) (inr (inr (lt', e'))) = rw (e, e') (ap (λ l. k ∷ l) rest)

-- a list is not shorter with a number put in
pub length_with : (j : ℕ) (xs : List ℕ) → length xs ≤ length (with_entry j xs)
length_with j [] = omega arith
length_with j (k ∷ ks) = by (length_with j ks) (with_cases j k ks)
  where
    by : length ks ≤ length (with_entry j ks)
        → Placed j k ks → length (k ∷ ks) ≤ length (with_entry j (k ∷ ks))
    by rest (inl (lt, e)) = rw e (omega arith)
    by rest (inr (inl (same, e))) = rw e (omega arith)
    by rest (inr (inr (lt, e))) = rw e (omega arith)

-- the answer after a number was noted names the list with that number
pub names_with : (old new : Woken) (whole : List ℕ) (j : ℕ) → Names old whole → new.entries ≡ take 16 (with_entry j old.entries)
    → new.more ≡ (old.more || nat_lt 16 (length (with_entry j old.entries))) → Names new (with_entry j whole)
names_with old new whole j (entries, more) noted longer = (
  noted ∙ (ap (λ l. take 16 (with_entry j l)) entries ∙ sym (take_with j whole 16)),
  elim (leb_tells 17 (length whole)) [
    | inl t ↦
        let long : 17 ≤ length (with_entry j whole) = omega (arith, length_with j whole, t.1) in
        longer ∙ (rw (more, t.0) (sym (passes (length (with_entry j whole)) long)))
    | inr f ↦
        let all : old.entries ≡ whole = entries ∙ take_all 16 whole (omega (arith, f.1)) in
        longer ∙ rw (more, f.0, all) refl
  ],
)
  where
    passes : (n : ℕ) → 17 ≤ n → nat_lt 16 n ≡ true
    passes n h = elim (leb_tells 17 n) [ inl t ↦ t.0 | inr f ↦ absurd (omega (arith, f.1)) ]

-- what a search among ascending numbers found is there, and where it found none, one is put in
pub found_there : (j : ℕ) (xs : List ℕ) (i : ℕ) (found : Result ℕ ℕ) → IsAscending xs → IsBinarySearchResult (λ k. nat_cmp k j) xs found → found ≡ Ok i → with_entry j xs ≡ xs
found_there j xs i found up search is =
    let at = searched xs j (Ok i) (subst (IsBinarySearchResult (λ k. nat_cmp k j) xs) is search) (ascending_rises xs up) in
    with_there j xs i up at.0 at.1

pub found_place : (j : ℕ) (xs : List ℕ) (i : ℕ) (found : Result ℕ ℕ) → IsAscending xs → IsBinarySearchResult (λ k. nat_cmp k j) xs found → found ≡ Err i → with_entry j xs ≡ take i xs ++ j ∷ drop i xs
found_place j xs i found up search is =
    let at = searched xs j (Err i) (subst (IsBinarySearchResult (λ k. nat_cmp k j) xs) is search) (ascending_rises xs up) in
    with_new j xs i at.0 at.1 at.2

-- a short list has no more than is named
pub no_more : (xs : List ℕ) (more : Bool) → length xs ≤ 16 → more ≡ (more || nat_lt 16 (length xs))
no_more xs more le = elim (leb_tells 17 (length xs)) [ inl t ↦ absurd (omega (arith, t.1)) | inr f ↦ rw f.0 (sym (or-false more)) ]
