-- Two ascending lists made one: the least of what is left of both is taken, again and again.
use Rattle.std.proofs.Common.{◌≡◌, ◌≢◌, ◌⊎◌, ◌↔◌, ◌<◌, ◌≤◌, ℕ, List, [], ◌∷◌, ◌++◌, length, get_or, Contains, Some, slice_get, min, refl, sym, subst, arith, inl, inr}
use Rattle.std.proofs.lemmas.Bool.Decides.{eqb_tells, leb_tells}
use Rattle.std.proofs.lemmas.List.Elements.{Contains-get_or}
use Rattle.std.proofs.lemmas.List.Quantifiers.{all_pairs_push}
use Rattle.pooma_logic.proofs.Ascending.{ascending_first}
use Rattle.pooma_logic.proofs.Elements.{contains_cases, contains_first, contains_none}
use Rattle.pooma_machine.specs.Became.{IsAscending}
use Rattle.pooma_window.proofs.Lists.{behind_cases, behind_last, behind_others}

-- one of the two lists has it
abbrev pub InEither : List ℕ → List ℕ → ℕ → Type 0
InEither one other j = Contains one j ⊎ Contains other j

-- the list has what was taken of both, and these are left
pub record IsUnitedTo (one other left right all : List ℕ) : Type 0 where
  pub left_up : IsAscending left
  pub right_up : IsAscending right
  pub up : IsAscending all
  pub below : (i j : ℕ) → Contains all i → InEither left right j → i < j
  pub exactly : (j : ℕ) → (Contains all j ⊎ InEither left right j) ↔ InEither one other j

pub none_united : (one other all : List ℕ) → IsAscending one → IsAscending other → all ≡ [] → IsUnitedTo one other one other all
none_united one other all one_up other_up none = record {
  left_up = one_up;
  right_up = other_up;
  up = λ i j d lt within. let empty : length all ≡ 0 = rw none refl in absurd (omega arith);
  below = λ i j there rest. absurd (contains_none i (rw none at there));
  exactly = λ j. (λ h. elim h [ inl there ↦ absurd (contains_none j (rw none at there)) | inr either ↦ either ], λ either. inr either);
}

-- a list without an entry
abbrev pub IsWithout : List ℕ → ℕ → List ℕ → Type 0
IsWithout old entry new = (j : ℕ) → Contains new j ↔ (Contains old j × (j ≢ entry))

without_cases : (old new : List ℕ) (entry j : ℕ) → IsWithout old entry new → Contains old j → (j ≡ entry) ⊎ Contains new j
without_cases old new entry j others there = elim (eqb_tells j entry) [ inl same ↦ inl same.1 | inr other ↦ inr ((others j).1 (there, other.1)) ]

-- the least one is taken
pub next_united : (one other left right all left_behind right_behind more : List ℕ) (entry : ℕ) → IsUnitedTo one other left right all
    → InEither left right entry → ((j : ℕ) → InEither left right j → entry ≤ j)
    → IsAscending left_behind → IsWithout left entry left_behind → IsAscending right_behind → IsWithout right entry right_behind → more ≡ all ++ entry ∷ []
    → IsUnitedTo one other left_behind right_behind more
next_united one other left right all left_behind right_behind more entry so_far there least left_up left_others right_up right_others is = record {
  left_up = left_up;
  right_up = right_up;
  up = rw is (all_pairs_push (λ a b. a < b) all entry so_far.up (λ k d h. so_far.below (get_or all k d) entry (Contains-get_or all k d h) there));
  below = λ i j in_more rest. elim (behind_cases all entry i (rw is at in_more)) [
    | inl before ↦ so_far.below i j before (was j rest)
    | inr same ↦ let low = least j (was j rest) in let differs = other_than j rest in omega (arith, same, low, differs)
  ];
  exactly = λ j. (to j, from j);
}
  where
    was : (j : ℕ) → InEither left_behind right_behind j → InEither left right j
    was j (inl h) = inl ((left_others j).0 h).0
    was j (inr h) = inr ((right_others j).0 h).0

    other_than : (j : ℕ) → InEither left_behind right_behind j → j ≢ entry
    other_than j (inl h) = ((left_others j).0 h).1
    other_than j (inr h) = ((right_others j).0 h).1

    to : (j : ℕ) → Contains more j ⊎ InEither left_behind right_behind j → InEither one other j
    to j (inl h) =
        elim (behind_cases all entry j (rw is at h)) [
          | inl before ↦ (so_far.exactly j).0 (inl before)
          | inr same ↦ (so_far.exactly j).0 (inr (subst (InEither left right) (sym same) there))
        ]
    to j (inr h) = (so_far.exactly j).0 (inr (was j h))

    taken : (j : ℕ) → j ≡ entry → Contains more j
    taken j same = rw is (subst (Contains (all ++ entry ∷ [])) (sym same) (behind_last all entry))

    still : (j : ℕ) → Contains all j ⊎ InEither left right j → Contains more j ⊎ InEither left_behind right_behind j
    still j (inl h) = inl (rw is (behind_others all entry j h))
    still j (inr (inl h)) = elim (without_cases left left_behind entry j left_others h) [ inl same ↦ inl (taken j same) | inr rest ↦ inr (inl rest) ]
    still j (inr (inr h)) = elim (without_cases right right_behind entry j right_others h) [ inl same ↦ inl (taken j same) | inr rest ↦ inr (inr rest) ]

    from : (j : ℕ) → InEither one other j → Contains more j ⊎ InEither left_behind right_behind j
    from j h = still j ((so_far.exactly j).1 h)

-- where nothing is left it has all
pub all_united : (one other left right all : List ℕ) → IsUnitedTo one other left right all → left ≡ [] → right ≡ [] → (j : ℕ) → Contains all j ↔ InEither one other j
all_united one other left right all so_far no_left no_right j = (λ h. (so_far.exactly j).0 (inl h), λ h. by ((so_far.exactly j).1 h))
  where
    by : Contains all j ⊎ InEither left right j → Contains all j
    by (inl h) = h
    by (inr (inl h)) = absurd (contains_none j (rw no_left at h))
    by (inr (inr h)) = absurd (contains_none j (rw no_right at h))

-- what an ascending list begins with is its least
pub first_least : (x : ℕ) (xs : List ℕ) → IsAscending (x ∷ xs) → (j : ℕ) → Contains (x ∷ xs) j → x ≤ j
first_least x xs up j h =
    elim (contains_cases x xs j h) [
      | inl same ↦ omega (arith, same)
      | inr more ↦ let above : x < j = ascending_first x xs j up more in omega arith
    ]

-- an entry that none is below and that is not the first is not there
pub not_first_not_there : (xs : List ℕ) (e d : ℕ) → IsAscending xs → ((j : ℕ) → Contains xs j → e ≤ j) → get_or xs 0 d ≢ e → Contains xs e → ⊥
not_first_not_there [] e d up least other h = contains_none e h
not_first_not_there (x ∷ xs) e d up least other h =
    elim (contains_cases x xs e h) [
      | inl same ↦ absurd (other (sym same))
      | inr more ↦
          let above : x < e = ascending_first x xs e up more in
          let low : e ≤ x = least x (contains_first x xs) in
          absurd (omega arith)
    ]

-- the first of an ascending list is there, and none is below it
pub begins_with : (xs : List ℕ) (a : ℕ) → IsAscending xs → Some a ≡ slice_get xs 0 → Contains xs a × ((j : ℕ) → Contains xs j → a ≤ j)
begins_with [] a up at = absurd (cc at)
begins_with (x ∷ xs) a up at = let same : x ≡ a = cc in (subst (Contains (x ∷ xs)) same (contains_first x xs), λ j h. let low = first_least x xs up j h in omega (arith, same, low))

-- so the lesser of the firsts of two is the least of both
pub lesser_first : (xs ys : List ℕ) (a b m : ℕ) → IsAscending xs → IsAscending ys → Some a ≡ slice_get xs 0 → Some b ≡ slice_get ys 0 → m ≡ min a b
    → InEither xs ys m × ((j : ℕ) → InEither xs ys j → m ≤ j)
lesser_first xs ys a b m xs_up ys_up a_at b_at is =
    let one = begins_with xs a xs_up a_at in
    let other = begins_with ys b ys_up b_at in (
      elim (leb_tells a b) [
        | inl t ↦ let same : a ≡ m = omega (arith, t.1) in inl (subst (Contains xs) same one.0)
        | inr f ↦ let same : b ≡ m = omega (arith, f.1) in inr (subst (Contains ys) same other.0)
      ],
      λ j h. elim h [ inl in_one ↦ let low = one.1 j in_one in omega (arith, low) | inr in_other ↦ let low = other.1 j in_other in omega (arith, low) ],
    )
