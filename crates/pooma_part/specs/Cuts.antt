-- Where positions are cut, of which some views are known with the layouts of their arrays.
use Rattle.std.specs.Prelude.{ℕ, suc, ℤ, List, [], ◌∷◌, filter_map, slice_get}
use Rattle.pooma_domain.specs.Cells.{Interval}
use Rattle.pooma_view.specs.Views.{Viewed}
use Rattle.pooma_layout.specs.Axes.{CutAxis, cut_at}
use Rattle.pooma_model.specs.Declarations.{Declared, layout_at}
use Rattle.pooma_model.specs.Parts.{parts_along, borders_on}

-- a view, and the layout of its array
pub record LaidView : Type 0 where
  pub view : Viewed
  pub layout : List CutAxis

-- a view with the layout that is declared for its array
abbrev pub laid_in : Declared → Viewed → LaidView
laid_in declared view = record { view = view; layout = layout_at declared view.array }

-- of each view that has this axis of positions, the part of its layout in which the cells of a place lie
abbrev pub parts_on : List LaidView → ℕ → List (ℤ → ℕ)
parts_on views n = filter_map (λ v. slice_get (parts_along v.layout v.view.slots) n) views

-- the parts of the axes of positions, the first of which has this number: each begins where some view comes to another part
abbrev pub cuts_of : List LaidView → ℕ → List Interval → List (List Interval)
cuts_of views n [] = []
cuts_of views n (axis ∷ axes) = cut_at axis.first (borders_on (parts_on views n) axis) axis.last ∷ cuts_of views (suc n) axes
