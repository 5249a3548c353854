-- Which elements pass a test: whether one of two lists does, and those that are kept of a list.
use Rattle.std.proofs.Common.{◌≡◌, ◌⊎◌, ◌++◌, inl, inr, refl, Bool, true, false, true≢false, List, [], ◌∷◌, filter, Contains, sym, ap, ◌∙◌, subst}
use Rattle.std.specs.List.{list_any}
use Rattle.std.proofs.lemmas.Bool.{or_cases, or_left, or_right}
use Rattle.std.proofs.lemmas.List.Elements.{All-contains, All-contains_itself, All-filter, filter_passes}
use Rattle.std.proofs.lemmas.List.Folds.{list_any-append}
use Rattle.pooma_logic.proofs.Elements.{contains_cases, contains_first, contains_none, contains_rest}

module _ {X : Type 0} (test : X → Bool) where
  -- one of two lists after one another passes where one of the first does, or one of the second
  pub any_of_both : (xs ys : List X) → list_any test (xs ++ ys) ≡ true → (list_any test xs ≡ true) ⊎ (list_any test ys ≡ true)
  any_of_both xs ys some = or_cases (list_any test xs) (list_any test ys) (sym (list_any-append test xs ys) ∙ some)

  pub any_of_left : (xs ys : List X) → list_any test xs ≡ true → list_any test (xs ++ ys) ≡ true
  any_of_left xs ys some = list_any-append test xs ys ∙ or_left (list_any test xs) (list_any test ys) some

  pub any_of_right : (xs ys : List X) → list_any test ys ≡ true → list_any test (xs ++ ys) ≡ true
  any_of_right xs ys some = list_any-append test xs ys ∙ or_right (list_any test xs) (list_any test ys) some

  pub any_of_first : (x : X) (xs : List X) → test x ≡ true → list_any test (x ∷ xs) ≡ true
  any_of_first x xs passes = or_left (test x) (list_any test xs) passes

  -- an element that passes is kept
  pub contains_kept : (xs : List X) (x : X) → Contains xs x → test x ≡ true → Contains (filter test xs) x
  contains_kept [] x there passes = absurd (contains_none x there)
  contains_kept (y ∷ ys) x there passes = by (contains_kept ys x) (contains_cases y ys x there) (test y) refl
    where
      by : (Contains ys x → test x ≡ true → Contains (filter test ys) x) → (x ≡ y) ⊎ Contains ys x → (b : Bool) → test y ≡ b → Contains (filter test (y ∷ ys)) x
      by rest (inl same) true t = rw t (subst (Contains (y ∷ filter test ys)) (sym same) (contains_first y (filter test ys)))
      by rest (inl same) false t = absurd (true≢false (sym passes ∙ ap test same ∙ t))
      by rest (inr later) true t = rw t (contains_rest y (filter test ys) x (rest later passes))
      by rest (inr later) false t = rw t (rest later passes)

  -- and what is kept is an element that passes
  pub kept_passes : (xs : List X) (x : X) → Contains (filter test xs) x → Contains xs x × (test x ≡ true)
  kept_passes xs x there = (
    All-contains (Contains xs) (filter test xs) x (All-filter test (Contains xs) xs (All-contains_itself xs)) there,
    All-contains (λ y. test y ≡ true) (filter test xs) x (filter_passes test xs) there,
  )

  -- where none passes, none is kept
  pub none_kept : (xs : List X) → ((x : X) → Contains xs x → test x ≡ false) → filter test xs ≡ []
  none_kept [] none = refl
  none_kept (x ∷ xs) none = rw (none x (contains_first x xs)) (none_kept xs (λ y there. none y (contains_rest x xs y there)))
