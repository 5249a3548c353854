-- Lists that a walk over another list makes.
use Rattle.std.proofs.Common.{sym, ap, ◌∙◌, get_or, take}
use Rattle.std.proofs.lemmas.List.{take_all}
use Rattle.std.proofs.lemmas.Option.{slice_get-get_or}
use Rattle.std.specs.Prelude.{◌≡◌, ℕ, ◌+◌, ◌<◌, ◌≤◌, Some, List, [], ◌∷◌, ◌++◌, length, map, slice_get}
use Rattle.pooma_part.proofs.Dividing.{map_more}

pub item_at : {A : Type 0} (xs : List A) (k : ℕ) (x : A) → k < length xs → x ≡ get_or xs k x → slice_get xs k ≡ Some x
item_at xs k x below is = slice_get-get_or xs k x below ∙ ap Some (sym is)

-- one element more of what is made of each
pub made_more : {A B : Type 0} (f : A → B) (old mid new : List B) (xs : List A) (k : ℕ) (x : A) (y : B) → mid ≡ old ++ map f (take k xs) → new ≡ mid ++ y ∷ [] → k < length xs → x ≡ get_or xs k x → y ≡ f x
    → new ≡ old ++ map f (take (k + 1) xs)
made_more f old mid new xs k x y so_far pushed below is made = map_more f old mid new xs k x y so_far pushed (item_at xs k x below is) made

pub made_all : {A B : Type 0} (f : A → B) (xs : List A) (k : ℕ) → length xs ≤ k → map f (take k xs) ≡ map f xs
made_all f xs k past = ap (map f) (take_all k xs past)
