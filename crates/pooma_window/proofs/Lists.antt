-- Lists with one element more.
use Rattle.std.proofs.Common.{◌≡◌, ◌⊎◌, ℕ, zero, suc, List, [], ◌∷◌, ◌++◌, take, Some, slice_get, Contains, sym, subst, arith, inl, inr, All, map}
use Rattle.std.proofs.lemmas.List.Elements.{Contains-append_left, Contains-push, Contains-push_cases}

-- it has the elements of the list, and the last one
pub behind_cases : {X : Type 0} (xs : List X) (x y : X) → Contains (xs ++ x ∷ []) y → Contains xs y ⊎ (y ≡ x)
behind_cases xs x y h = elim (Contains-push_cases xs x y h) [ inl there ↦ inl there | inr last ↦ inr (sym last) ]

pub behind_others : {X : Type 0} (xs : List X) (x y : X) → Contains xs y → Contains (xs ++ x ∷ []) y
behind_others xs x y h = Contains-append_left xs (x ∷ []) y h

pub behind_last : {X : Type 0} (xs : List X) (x : X) → Contains (xs ++ x ∷ []) x
behind_last xs x = Contains-push xs x

-- where each element has what it has to after those before it, so it is with one element more
pub each_behind : {X : Type 0} (P : List X → X → Type 0) (xs : List X) (x : X)
    → ((k : ℕ) (y : X) → slice_get xs k ≡ Some y → P (take k xs) y) → P xs x
    → (k : ℕ) (y : X) → slice_get (xs ++ x ∷ []) k ≡ Some y → P (take k (xs ++ x ∷ [])) y
each_behind P [] x each last zero y at = let same : x ≡ y = cc in subst (P []) same last
each_behind P [] x each last (suc k) y at = absurd (cc at)
each_behind P (z ∷ xs) x each last zero y at = each zero y at
each_behind P (z ∷ xs) x each last (suc k) y at = each_behind (λ before. P (z ∷ before)) xs x (λ i w there. each (suc i) w there) last k y at

-- what holds of the image of each element holds of that of one in the middle
pub all_among : {X Y : Type 0} (P : Y → Type 0) (f : X → Y) (xs : List X) (x : X) (ys : List X) → All P (map f (xs ++ x ∷ ys)) → P (f x)
all_among P f [] x ys each = each 0 (f x) (omega arith)
all_among P f (z ∷ xs) x ys each = all_among P f xs x ys (λ k d within. each (suc k) d (omega arith))
