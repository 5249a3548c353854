-- The rows of a box of two axes.
use Rattle.std.proofs.Common.{◌≡◌, ◌∙◌, ℤ, ◌≤ℤ◌, List, [], ◌∷◌, length, Some, ap, sym, subst}
use Rattle.std.specs.Prelude.{slice_get}
use Rattle.pooma_domain.specs.Cells.{Interval, IsIn}

in_row : (box : List Interval) (a b : Interval) (y : ℤ) → length box ≡ 2 → slice_get box 0 ≡ Some a → slice_get box 1 ≡ Some b
    → b.first ≤ℤ y → y ≤ℤ b.last → (x : ℤ) → a.first ≤ℤ x → x ≤ℤ a.last → IsIn box (x ∷ y ∷ [])
in_row [] a b y dims along across below above x low high = absurd cc
in_row (c ∷ []) a b y dims along across below above x low high = absurd cc
in_row (c ∷ d ∷ []) a b y dims along across below above x low high =
    let first : c ≡ a = cc along in let second : d ≡ b = cc across in rw (first, second) (low, high, (below, above, tt))
in_row (c ∷ d ∷ e ∷ rest) a b y dims along across below above x low high = absurd cc

-- each cell of a row that crosses the box is in it; the box goes by another name
pub row_of : (box now : List Interval) (a b : Interval) (y : ℤ) → length box ≡ 2 → slice_get box 0 ≡ Some a → slice_get box 1 ≡ Some b → now ≡ box
    → b.first ≤ℤ y → y ≤ℤ b.last → (x : ℤ) → a.first ≤ℤ x → x ≤ℤ a.last → IsIn now (x ∷ y ∷ [])
row_of box now a b y dims along across same below above x low high =
    subst (λ (area : List Interval). IsIn area (x ∷ y ∷ [])) (sym same) (in_row box a b y dims along across below above x low high)

-- what holds of each cell of a row holds of this one
pub at_cell : (P : List ℤ → Type 0) (first last x y z : ℤ) (c : List ℤ) → ((x : ℤ) → first ≤ℤ x → x ≤ℤ last → P (x ∷ y ∷ []))
    → first ≤ℤ x → x ≤ℤ last → c ≡ x ∷ z ∷ [] → z ≡ y → P c
at_cell P first last x y z c row low high is same = subst P (sym (is ∙ ap (λ (n : ℤ). x ∷ n ∷ []) same)) (row x low high)
