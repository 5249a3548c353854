-- The elements of a list by recursion: its first, or one of the rest. What `Contains` and `All` say by places is said by it.
use Rattle.std.proofs.Common.{refl, sym, ap, ◌∙◌, subst, inl, inr, ⊎_elim, get_or}
use Rattle.std.proofs.lemmas.List.Elements.{All-contains, Contains-get_or}
use Rattle.std.proofs.lemmas.Option.{same_Some, slice_get-get_or, slice_get_within, get_or_from_slice_get}
use Rattle.std.specs.Prelude.{◌≡◌, ◌⊎◌, ℕ, zero, suc, Some, List, [], ◌∷◌, ◌++◌, map, flat_map, slice_get, All, Any, Contains}

abbrev pub Member : {A : Type 0} → List A → A → Type 0
Member [] x = ⊥
Member (y ∷ ys) x = (y ≡ x) ⊎ Member ys x

-- ---- an element and its place

pub member_at : {A : Type 0} (xs : List A) (k : ℕ) (x : A) → slice_get xs k ≡ Some x → Member xs x
member_at [] k x at = cc
member_at (y ∷ ys) zero x at = inl (same_Some y x at)
member_at (y ∷ ys) (suc k) x at = inr (member_at ys k x at)

pub stands_at : {A : Type 0} (xs : List A) (x : A) → Member xs x → (k : ℕ) × (slice_get xs k ≡ Some x)
stands_at [] x m = absurd m
stands_at (y ∷ ys) x m = ⊎_elim (λ e. (zero, ap Some e)) (λ later. let at = stands_at ys x later in (suc at.0, at.1)) m

pub member_of : {A : Type 0} (xs : List A) (x : A) → Contains xs x → Member xs x
member_of xs x h = member_at xs h.0 x (slice_get-get_or xs h.0 x h.1 ∙ ap Some h.2)

pub contains_of : {A : Type 0} (xs : List A) (x : A) → Member xs x → Contains xs x
contains_of xs x m =
    let at = stands_at xs x m in
    (at.0, slice_get_within xs at.0 x at.1, get_or_from_slice_get xs at.0 x x at.1)

-- ---- what holds of all elements, and of one of them

pub all_members : {A : Type 0} (P : A → Type 0) (xs : List A) → ((x : A) → Member xs x → P x) → All P xs
all_members P xs each k d h = each (get_or xs k d) (member_of xs (get_or xs k d) (Contains-get_or xs k d h))

pub of_all : {A : Type 0} (P : A → Type 0) (xs : List A) (x : A) → All P xs → Member xs x → P x
of_all P xs x all m = All-contains P xs x all (contains_of xs x m)

pub any_of : {A : Type 0} (P : A → Type 0) (xs : List A) → Any P xs → (x : A) × Member xs x × P x
any_of P xs h = (h.1, member_of xs h.1 (h.0, h.2, h.3), h.4)

pub of_any : {A : Type 0} (P : A → Type 0) (xs : List A) (x : A) → Member xs x → P x → Any P xs
of_any P xs x m p = let there = contains_of xs x m in (there.0, x, there.1, there.2, p)

-- ---- of two lists, of images, and of lists made one

pub member_left : {A : Type 0} (xs ys : List A) (x : A) → Member xs x → Member (xs ++ ys) x
member_left [] ys x m = absurd m
member_left (y ∷ xs) ys x m = ⊎_elim (λ e. inl e) (λ later. inr (member_left xs ys x later)) m

pub member_right : {A : Type 0} (xs ys : List A) (x : A) → Member ys x → Member (xs ++ ys) x
member_right [] ys x m = m
member_right (y ∷ xs) ys x m = inr (member_right xs ys x m)

pub member_cases : {A : Type 0} (xs ys : List A) (x : A) → Member (xs ++ ys) x → Member xs x ⊎ Member ys x
member_cases [] ys x m = inr m
member_cases (y ∷ xs) ys x m =
    ⊎_elim (λ e. inl (inl e)) (λ later. ⊎_elim (λ l. inl (inr l)) (λ r. inr r) (member_cases xs ys x later)) m

pub member_map : {A B : Type 0} (f : A → B) (xs : List A) (x : A) → Member xs x → Member (map f xs) (f x)
member_map f [] x m = absurd m
member_map f (y ∷ ys) x m = ⊎_elim (λ e. inl (ap f e)) (λ later. inr (member_map f ys x later)) m

pub member_image : {A B : Type 0} (f : A → B) (xs : List A) (y : B) → Member (map f xs) y → (x : A) × Member xs x × (f x ≡ y)
member_image f [] y m = absurd m
member_image f (x ∷ xs) y m =
    ⊎_elim (λ e. (x, inl refl, e)) (λ later. let found = member_image f xs y later in (found.0, inr found.1, found.2)) m

pub joined_member : {X A : Type 0} (f : X → List A) (xs : List X) (y : A) → Member (flat_map f xs) y → (x : X) × Member xs x × Member (f x) y
joined_member f [] y m = absurd m
joined_member f (x ∷ xs) y m =
    ⊎_elim (λ here. (x, inl refl, here))
    (λ later. let found = joined_member f xs y later in (found.0, inr found.1, found.2))
    (member_cases (f x) (flat_map f xs) y m)

pub member_joined : {X A : Type 0} (f : X → List A) (xs : List X) (x : X) (y : A) → Member xs x → Member (f x) y → Member (flat_map f xs) y
member_joined f [] x y m n = absurd m
member_joined f (z ∷ xs) x y m n =
    ⊎_elim (λ e. member_left (f z) (flat_map f xs) y (subst (λ w. Member (f w) y) (sym e) n))
    (λ later. member_right (f z) (flat_map f xs) y (member_joined f xs x y later n))
    m
