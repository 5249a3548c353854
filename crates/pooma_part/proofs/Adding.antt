-- What a list of places has after some are added.
use Rattle.std.proofs.Common.{refl, sym, ◌∙◌, subst, inl, inr, ⊎_elim, get_or, take}
use Rattle.std.proofs.lemmas.List.{take_more, take_all}
use Rattle.std.proofs.lemmas.List.Elements.{Contains-append_left, Contains-push, Contains-push_cases}
use Rattle.std.specs.Prelude.{◌≡◌, ◌⊎◌, ◌↔◌, ℕ, ◌+◌, ◌<◌, ◌≤◌, ℤ, List, [], ◌∷◌, ◌++◌, length, Any, Contains}
use Rattle.pooma_logic.proofs.Members.{any_of, member_cases, member_left, member_right, of_any}
use Rattle.pooma_domain.specs.Cells.{Interval}
use Rattle.pooma_domain.specs.declared.strides.Strided.{Strided}
use Rattle.pooma_part.specs.Crossing.{IsCrossing, IsInner}
use Rattle.pooma_part.proofs.Changing.{crossing_once}

pub pushed : (axis : Interval) (xs ys : List ℤ) (k v : ℤ) → ys ≡ xs ++ v ∷ [] → v ≡ k → IsInner axis k → (j : ℤ) → Contains ys j ↔ (Contains xs j ⊎ (IsInner axis k × (k ≡ j)))
pushed axis xs ys k v e same inner j = (
  λ h. ⊎_elim (λ old. inl old) (λ here. inr (inner, sym same ∙ here)) (Contains-push_cases xs v j (subst (λ l. Contains l j) e h)),
  λ h. subst (λ l. Contains l j) (sym e)
      (⊎_elim (λ old. Contains-append_left xs (v ∷ []) j old) (λ here. subst (Contains (xs ++ v ∷ [])) (same ∙ here.1) (Contains-push xs v)) h),
)

any_joined : {A : Type 0} (P : A → Type 0) (xs : List A) (x : A) → Any P (xs ++ x ∷ []) ↔ (Any P xs ⊎ P x)
any_joined P xs x = (
  λ h. let found = any_of P (xs ++ x ∷ []) h in
      ⊎_elim (λ l. inl (of_any P xs found.0 l found.2)) (λ r. ⊎_elim (λ e. inr (subst P (sym e) found.2)) (λ none. absurd none) r) (member_cases xs (x ∷ []) found.0 found.1),
  λ h. ⊎_elim (λ some. let found = any_of P xs some in of_any P (xs ++ x ∷ []) found.0 (member_left xs (x ∷ []) found.0 found.1) found.2)
      (λ here. of_any P (xs ++ x ∷ []) x (member_right xs (x ∷ []) x (inl refl)) here)
      h,
)

-- so many elements of a list and the next one
pub any_next : {A : Type 0} (P : A → Type 0) (xs : List A) (i : ℕ) (d : A) → i < length xs → Any P (take (i + 1) xs) ↔ (Any P (take i xs) ⊎ P (get_or xs i d))
any_next P xs i d h =
    subst (λ l. Any P l ↔ (Any P (take i xs) ⊎ P (get_or xs i d))) (sym (take_more xs i d h)) (any_joined P (take i xs) (get_or xs i d))

pub any_whole : {A : Type 0} (P : A → Type 0) (xs : List A) (n : ℕ) → length xs ≤ n → Any P (take n xs) ↔ Any P xs
any_whole P xs n h = (λ a. subst (Any P) (take_all n xs h) a, λ a. subst (Any P) (sym (take_all n xs h)) a)

module _ (s : Strided) (axis : Interval) (old mid new bs : List ℤ) where
  abbrev pub Crossed : ℕ → List ℤ → Type 0
  Crossed i places = (j : ℤ) → Contains places j ↔ (Contains old j ⊎ (IsInner axis j × Any (λ b. IsCrossing s b j) (take i bs)))

  pub crossed_more : (i : ℕ) (d k : ℤ) → i < length bs → IsCrossing s (get_or bs i d) k → Crossed i mid
      → ((j : ℤ) → Contains new j ↔ (Contains mid j ⊎ (IsInner axis k × (k ≡ j)))) → Crossed (i + 1) new
  crossed_more i d k h crosses so_far step j =
      let next = any_next (λ border. IsCrossing s border j) bs i d h in (
        λ m. ⊎_elim
            (λ was. ⊎_elim (λ o. inl o) (λ some. inr (some.0, next.1 (inl some.1))) ((so_far j).0 was))
            (λ here. inr (subst (IsInner axis) here.1 here.0, next.1 (inr (subst (IsCrossing s (get_or bs i d)) here.1 crosses))))
            ((step j).0 m),
        λ m. ⊎_elim
            (λ o. (step j).1 (inl ((so_far j).1 (inl o))))
            (λ some. ⊎_elim
            (λ earlier. (step j).1 (inl ((so_far j).1 (inr (some.0, earlier)))))
            (λ here. let same : k ≡ j = crossing_once s (get_or bs i d) k j crosses here in (step j).1 (inr (subst (IsInner axis) (sym same) some.0, same)))
            (next.0 some.1))
            m,
      )

  pub crossed_all : (n : ℕ) → length bs ≤ n → Crossed n mid → (j : ℤ) → Contains mid j ↔ (Contains old j ⊎ (IsInner axis j × Any (λ b. IsCrossing s b j) bs))
  crossed_all n h so_far j =
      let whole = any_whole (λ b. IsCrossing s b j) bs n h in (
        λ m. ⊎_elim (λ o. inl o) (λ some. inr (some.0, whole.0 some.1)) ((so_far j).0 m),
        λ m. (so_far j).1 (⊎_elim (λ o. inl o) (λ some. inr (some.0, whole.1 some.1)) m),
      )
