-- The first of a list whose test is not passed, found step by step.
use Rattle.std.proofs.Common.{◌≡◌, inl, inr, List, [], ◌∷◌, ◌++◌, Option, Some, None, refl, ap}
use Rattle.std.specs.Prelude.{map}
use Rattle.std.specs.Option.{option_map}
use Rattle.pooma_script.specs.Causes.{IsFirstFailed}

-- each of them passes its test
abbrev pub AllPass : {A : Type 0} → (A → Type 0) → List A → Type 0
AllPass P [] = Unit {0}
AllPass P (x ∷ xs) = P x × AllPass P xs

-- what stands behind those that pass is found as if it stood alone
pub behind_passed : {A : Type 0} (P : A → Type 0) (front back : List A) (found : Option A) → AllPass P front → IsFirstFailed P back found → IsFirstFailed P (front ++ back) found
behind_passed P [] back found h k = k
behind_passed P (x ∷ front) back found h k = inl (h.0, behind_passed P front back found h.1 k)

-- the first that fails, behind those that pass
pub failed_behind : {A : Type 0} (P : A → Type 0) (front : List A) (x : A) (back : List A) → AllPass P front → (P x → ⊥) → IsFirstFailed P (front ++ x ∷ back) (Some x)
failed_behind P front x back h fails = behind_passed P front (x ∷ back) (Some x) h (inr (fails, refl))

pub all_passed : {A : Type 0} (P : A → Type 0) (xs : List A) → AllPass P xs → IsFirstFailed P xs None
all_passed P [] h = refl
all_passed P (x ∷ xs) h = inl (h.0, all_passed P xs h.1)

-- where none fails, all pass
pub passed_all : {A : Type 0} (P : A → Type 0) (xs : List A) → IsFirstFailed P xs None → AllPass P xs
passed_all P [] none = tt
passed_all P (x ∷ xs) (inl h) = (h.0, passed_all P xs h.1)
passed_all P (x ∷ xs) (inr h) = absurd (none_is_some x h.1)
  where
    none_is_some : {A : Type 0} (x : A) → ◌≡◌ {A = Option A} None (Some x) → ⊥
    none_is_some x e = cc

-- the first that fails stays the first before others
pub failed_in_front : {A : Type 0} (P : A → Type 0) (front back : List A) (x : A) → IsFirstFailed P front (Some x) → IsFirstFailed P (front ++ back) (Some x)
failed_in_front P [] back x h = cc
failed_in_front P (y ∷ front) back x (inl h) = inl (h.0, failed_in_front P front back x h.1)
failed_in_front P (y ∷ front) back x (inr h) = inr h

-- the tests of what is made of each
pub failed_of_each : {A B : Type 0} (P : B → Type 0) (f : A → B) (xs : List A) (found : Option A) → IsFirstFailed (λ x. P (f x)) xs found → IsFirstFailed P (map f xs) (option_map f found)
failed_of_each P f [] found h = ap (option_map f) h
failed_of_each P f (x ∷ xs) found (inl h) = inl (h.0, failed_of_each P f xs found h.1)
failed_of_each P f (x ∷ xs) found (inr h) = inr (h.0, ap (option_map f) h.1)
