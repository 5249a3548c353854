-- The text of a view is that of its numbers at its positions.
use Rattle.std.proofs.Common.{◌≡◌, ◌∙◌, refl, ap, inl, inr, ℤ, List, [], ◌∷◌, ◌++◌, map}
use Rattle.std.specs.Prelude.{flat_map}
use Rattle.pooma_logic.proofs.Members.{Member, contains_of, member_joined, member_map}
use Rattle.pooma_domain.specs.Cells.{Interval, cells_of, coordinates, IsIn}
use Rattle.pooma_model.specs.Texts.{row_text, view_text}
use Rattle.pooma_piece.specs.Gathered.{HasMembers}
use Rattle.pooma_store.specs.Stored.{Stored}
use Rattle.pooma_view.specs.Slots.{positions_of}
use Rattle.pooma_view.specs.Views.{Viewed}
use Rattle.pooma_run.specs.Showing.{OwnersHave, stored_at}

map_alike : {A B : Type 0} (f g : A → B) (xs : List A) → ((x : A) → Member xs x → f x ≡ g x) → map f xs ≡ map g xs
map_alike f g [] same = refl
map_alike f g (x ∷ xs) same = ap (λ y. y ∷ map f xs) (same x (inl refl)) ∙ ap (λ ys. g x ∷ ys) (map_alike f g xs (λ y m. same y (inr m)))

flat_alike : {A B : Type 0} (f g : A → List B) (xs : List A) → ((x : A) → Member xs x → f x ≡ g x) → flat_map f xs ≡ flat_map g xs
flat_alike f g [] same = refl
flat_alike f g (x ∷ xs) same = ap (λ ys. ys ++ flat_map f xs) (same x (inl refl)) ∙ ap (λ ys. g x ++ ys) (flat_alike f g xs (λ y m. same y (inr m)))

pub texts_alike : HasMembers → (f g : List ℤ → ℤ) (box : List Interval)
    → ((p : List ℤ) → IsIn box p → f p ≡ g p) → view_text f box ≡ view_text g box
texts_alike members f g [] same = ap (λ n. row_text (n ∷ [])) (same [] tt)
texts_alike members f g (axis ∷ axes) same =
    flat_alike (λ rest. row_text (map (λ x. f (x ∷ rest)) (coordinates axis))) (λ rest. row_text (map (λ x. g (x ∷ rest)) (coordinates axis))) (cells_of axes)
    (λ rest there. ap row_text (map_alike (λ x. f (x ∷ rest)) (λ x. g (x ∷ rest)) (coordinates axis) (λ x on.
    same (x ∷ rest) ((members (axis ∷ axes) (x ∷ rest)).0 (contains_of (cells_of (axis ∷ axes)) (x ∷ rest)
    (member_joined (λ r. map (λ y. y ∷ r) (coordinates axis)) (cells_of axes) rest (x ∷ rest) there
    (member_map (λ y. y ∷ rest) (coordinates axis) x on)))))))

-- what owners have is what is stored at the cells
pub have_stored : (store : Stored) (view : Viewed) (number : List ℤ → ℤ) → OwnersHave store view number → (p : List ℤ) → IsIn (positions_of view.slots) p → stored_at store view p ≡ number p
have_stored store view number have p there = (have p there).number.number
