-- How numbers are dealt out: more are put, and the first of the deque are given to one of both.
use Rattle.std.proofs.Common.{◌≡◌, ℕ, true, false, List, [], ◌∷◌, ◌++◌, sym, refl, ap, ◌∙◌, append_assoc, append-nil, ◌+◌}
use native.Mathlib.Omega.{arith}
use Rattle.pooma_ready.specs.Dealing.{Gift, numbers, to_owner, to_thief, IsDealt, GoesOn, times}

pub goes_on_still : (before now : List ℕ) (xs : List ℕ) → GoesOn before now → GoesOn before (now ++ xs)
goes_on_still before now xs h = (h.0 ++ xs, ap (λ l. l ++ xs) h.1 ∙ append_assoc before h.0 xs)

pub goes_on_from_itself : (now : List ℕ) → GoesOn now now
goes_on_from_itself now = ([], sym (append-nil now))

abbrev owned : List ℕ → List Gift
owned [] = []
owned (x ∷ xs) = (true, x) ∷ owned xs

abbrev robbed : List ℕ → List Gift
robbed [] = []
robbed (x ∷ xs) = (false, x) ∷ robbed xs

numbers_owned : (g : List Gift) (xs : List ℕ) → numbers (g ++ owned xs) ≡ numbers g ++ xs
numbers_owned [] [] = refl
numbers_owned [] (x ∷ xs) = ap (λ l. x ∷ l) (numbers_owned [] xs)
numbers_owned ((b, x) ∷ g) xs = ap (λ l. x ∷ l) (numbers_owned g xs)

numbers_robbed : (g : List Gift) (xs : List ℕ) → numbers (g ++ robbed xs) ≡ numbers g ++ xs
numbers_robbed [] [] = refl
numbers_robbed [] (x ∷ xs) = ap (λ l. x ∷ l) (numbers_robbed [] xs)
numbers_robbed ((b, x) ∷ g) xs = ap (λ l. x ∷ l) (numbers_robbed g xs)

owner_owned : (g : List Gift) (xs : List ℕ) → to_owner (g ++ owned xs) ≡ to_owner g ++ xs
owner_owned [] [] = refl
owner_owned [] (x ∷ xs) = ap (λ l. x ∷ l) (owner_owned [] xs)
owner_owned ((true, x) ∷ g) xs = ap (λ l. x ∷ l) (owner_owned g xs)
owner_owned ((false, x) ∷ g) xs = owner_owned g xs

owner_robbed : (g : List Gift) (xs : List ℕ) → to_owner (g ++ robbed xs) ≡ to_owner g
owner_robbed [] [] = refl
owner_robbed [] (x ∷ xs) = owner_robbed [] xs
owner_robbed ((true, x) ∷ g) xs = ap (λ l. x ∷ l) (owner_robbed g xs)
owner_robbed ((false, x) ∷ g) xs = owner_robbed g xs

thief_owned : (g : List Gift) (xs : List ℕ) → to_thief (g ++ owned xs) ≡ to_thief g
thief_owned [] [] = refl
thief_owned [] (x ∷ xs) = thief_owned [] xs
thief_owned ((true, x) ∷ g) xs = thief_owned g xs
thief_owned ((false, x) ∷ g) xs = ap (λ l. x ∷ l) (thief_owned g xs)

thief_robbed : (g : List Gift) (xs : List ℕ) → to_thief (g ++ robbed xs) ≡ to_thief g ++ xs
thief_robbed [] [] = refl
thief_robbed [] (x ∷ xs) = ap (λ l. x ∷ l) (thief_robbed [] xs)
thief_robbed ((true, x) ∷ g) xs = thief_robbed g xs
thief_robbed ((false, x) ∷ g) xs = ap (λ l. x ∷ l) (thief_robbed g xs)

pub more_put : (put given stolen items xs : List ℕ) → IsDealt put given stolen items → IsDealt (put ++ xs) given stolen (items ++ xs)
more_put put given stolen items xs h = (h.0, ap (λ l. l ++ xs) h.1 ∙ append_assoc (numbers h.0) items xs, h.2, h.3)

pub more_given : (put given stolen items xs : List ℕ) → IsDealt put given stolen (xs ++ items) → IsDealt put (given ++ xs) stolen items
more_given put given stolen items xs h = (
  h.0 ++ owned xs,
  h.1 ∙ sym (append_assoc (numbers h.0) xs items) ∙ ap (λ l. l ++ items) (sym (numbers_owned h.0 xs)),
  ap (λ l. l ++ xs) h.2 ∙ sym (owner_owned h.0 xs),
  h.3 ∙ sym (thief_owned h.0 xs),
)

pub more_stolen : (put given stolen items xs : List ℕ) → IsDealt put given stolen (xs ++ items) → IsDealt put given (stolen ++ xs) items
more_stolen put given stolen items xs h = (
  h.0 ++ robbed xs,
  h.1 ∙ sym (append_assoc (numbers h.0) xs items) ∙ ap (λ l. l ++ items) (sym (numbers_robbed h.0 xs)),
  h.2 ∙ sym (owner_robbed h.0 xs),
  ap (λ l. l ++ xs) h.3 ∙ sym (thief_robbed h.0 xs),
)

all_as_often : (g : List Gift) (items : List ℕ) (x : ℕ) → times x (numbers g ++ items) ≡ times x (to_owner g) + times x (to_thief g) + times x items
all_as_often [] items x = omega arith
all_as_often ((true, y) ∷ g) items x = omega (arith, all_as_often g items x)
all_as_often ((false, y) ∷ g) items x = omega (arith, all_as_often g items x)

pub each_as_often : (put given stolen items : List ℕ) → IsDealt put given stolen items → (x : ℕ) → times x put ≡ times x given + times x stolen + times x items
each_as_often put given stolen items h x = ap (times x) h.1 ∙ all_as_often h.0 items x ∙ (λ i. times x (sym h.2 i) + times x (sym h.3 i) + times x items)
