-- Cuts by the layouts that are declared.
use Rattle.std.proofs.Common.{refl, ap, ◌∙◌}
use Rattle.std.specs.List.{cons_option, filter_map}
use Rattle.std.specs.Prelude.{◌≡◌, ℕ, suc, Option, List, [], ◌∷◌, map, slice_get}
use Rattle.pooma_domain.specs.Cells.{Interval}
use Rattle.pooma_view.specs.Views.{Viewed}
use Rattle.pooma_layout.specs.Axes.{cut_at}
use Rattle.pooma_model.specs.Declarations.{Declared}
use Rattle.pooma_model.specs.Parts.{borders_on, cut_axes, parts_along}
use Rattle.pooma_part.specs.Cuts.{LaidView, cuts_of, laid_in}

fused : {A B C : Type 0} (h : B → Option C) (g : A → B) → (xs : List A) → filter_map h (map g xs) ≡ filter_map (λ x. h (g x)) xs
fused h g [] = refl
fused h g (x ∷ xs) = ap (cons_option (h (g x))) (fused h g xs)

pub cuts_declared : (declared : Declared) (views : List Viewed) (n : ℕ) (positions : List Interval) → cuts_of (map (laid_in declared) views) n positions ≡ cut_axes declared views n positions
cuts_declared declared views n [] = refl
cuts_declared declared views n (axis ∷ axes) =
    ap (λ fs. cut_at axis.first (borders_on fs axis) axis.last ∷ cuts_of (map (laid_in declared) views) (suc n) axes)
    (fused (λ (v : LaidView). slice_get (parts_along v.layout v.view.slots) n) (laid_in declared) views)
    ∙ ap (λ cuts. cut_at axis.first (borders_on (filter_map (λ view. slice_get (parts_along (laid_in declared view).layout view.slots) n) views) axis) axis.last ∷ cuts)
    (cuts_declared declared views (suc n) axes)
