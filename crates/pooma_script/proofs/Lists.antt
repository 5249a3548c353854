-- What holds of a list that is made of another one.
use Rattle.std.proofs.Common.{◌≡◌, List, [], ◌∷◌, refl, ap}
use Rattle.std.proofs.lemmas.List.Elements.{All-cons, All-head, All-nil, All-tail}
use Rattle.std.specs.List.{AllZip}
use Rattle.std.specs.Prelude.{All, map}

pub all_made : {A B : Type 0} (xs : List A) (f : A → B) (P : B → Type 0) → All P (map f xs) → All (λ x. P (f x)) xs
all_made [] f P h = All-nil (λ x. P (f x))
all_made (x ∷ xs) f P h = All-cons (λ y. P (f y)) x xs (All-head P (f x) (map f xs) h) (all_made xs f P (All-tail P (f x) (map f xs) h))

pub zip_made : {A B C : Type 0} (xs : List A) (f : A → B) (zs : List C) (R : C → B → Type 0) → AllZip R zs (map f xs) → AllZip (λ z x. R z (f x)) zs xs
zip_made [] f [] R h = tt
zip_made (x ∷ xs) f [] R h = h
zip_made [] f (z ∷ zs) R h = h
zip_made (x ∷ xs) f (z ∷ zs) R h = (h.0, zip_made xs f zs R h.1)

pub made_twice : {A B C : Type 0} (xs : List A) (f : A → B) (g : B → C) → map g (map f xs) ≡ map (λ x. g (f x)) xs
made_twice [] f g = refl
made_twice (x ∷ xs) f g = ap (λ ys. g (f x) ∷ ys) (made_twice xs f g)
