-- Which elements a list has that begins with one, and which its images are.
use Rattle.std.proofs.Common.{◌≡◌, ◌⊎◌, inl, inr, zero, suc, List, [], ◌∷◌, map, Contains, refl, sym, ap, ◌∙◌, arith}
use Rattle.std.proofs.lemmas.List.{get_or-map, length-map}

pub contains_none : {X : Type 0} (y : X) → Contains [] y → ⊥
contains_none y (k, h, e) = absurd (omega arith)

pub contains_first : {X : Type 0} (x : X) (xs : List X) → Contains (x ∷ xs) x
contains_first x xs = (0, omega arith, refl)

pub contains_rest : {X : Type 0} (x : X) (xs : List X) (y : X) → Contains xs y → Contains (x ∷ xs) y
contains_rest x xs y (k, h, e) = (suc k, omega arith, e)

-- an element of a list that begins with x is x, or is one of the rest
pub contains_cases : {X : Type 0} (x : X) (xs : List X) (y : X) → Contains (x ∷ xs) y → (y ≡ x) ⊎ Contains xs y
contains_cases x xs y (zero, h, e) = inl (sym e)
contains_cases x xs y (suc k, h, e) = inr (k, omega arith, e)

-- the image of an element is an element of the images
pub contains_map : {X Y : Type 0} (f : X → Y) (xs : List X) (x : X) → Contains xs x → Contains (map f xs) (f x)
contains_map f xs x (k, h, e) = (k, omega (arith, length-map xs f), get_or-map f xs k x (f x) h ∙ ap f e)

-- and each image is that of an element
pub contains_image : {X Y : Type 0} (f : X → Y) (xs : List X) (y : Y) → Contains (map f xs) y → (x : X) × Contains xs x × (y ≡ f x)
contains_image f [] y h = absurd (contains_none y h)
contains_image f (x ∷ xs) y h =
    elim (contains_cases (f x) (map f xs) y h) [
      | inl e ↦ (x, contains_first x xs, e)
      | inr more ↦ let rest = contains_image f xs y more in (rest.0, contains_rest x xs rest.0 rest.1, rest.2)
    ]
