-- A list whose first elements are passed, one after another.
use Rattle.std.proofs.Common.{◌≡◌, ◌∙◌, refl, sym, ap, ℕ, zero, suc, ◌+◌, ◌<◌, add-one, Option, None, Some, IsNone, IfSome, List, [], ◌∷◌, length, drop, arith}
use Rattle.std.specs.Prelude.{◌↔◌, slice_get}
use Rattle.std.proofs.lemmas.List.{length-drop}

drop_on : {A : Type 0} (xs : List A) (k : ℕ) (x : A) (rest : List A) → drop k xs ≡ x ∷ rest → drop (suc k) xs ≡ rest
drop_on [] zero x rest e = absurd (cc e)
drop_on [] (suc k) x rest e = absurd (cc e)
drop_on (y ∷ xs) zero x rest e = cc e
drop_on (y ∷ xs) (suc k) x rest e = drop_on xs k x rest e

-- what was passed is the element there
pub passed_there : {A : Type 0} (xs : List A) (k : ℕ) (x : A) (rest : List A) → drop k xs ≡ x ∷ rest → slice_get xs k ≡ Some x
passed_there [] zero x rest e = absurd (cc e)
passed_there [] (suc k) x rest e = absurd (cc e)
passed_there (y ∷ xs) zero x rest e = cc e
passed_there (y ∷ xs) (suc k) x rest e = passed_there xs k x rest e

pub none_there : {A : Type 0} (xs : List A) (k : ℕ) → k < length xs → drop k xs ≡ [] → ⊥
none_there xs k within e = absurd (omega (arith, length-drop k xs, ap length e))

-- one element more is passed
pub passed_on : {A R : Type 0} (now : R → A) (xs : List A) (k : ℕ) (old new : List A) (found : Option R) → k < length xs → old ≡ drop k xs
    → IfSome found (λ r. old ≡ now r ∷ new) → IsNone found ↔ (old ≡ []) → new ≡ drop (k + 1) xs
passed_on now xs k old new None within is some none = absurd (none_there xs k within (sym is ∙ none.0 refl))
passed_on now xs k old new (Some r) within is some none = sym (rw (add-one k) (drop_on xs k (now r) new (sym is ∙ some)))
