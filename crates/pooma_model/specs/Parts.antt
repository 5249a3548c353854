-- How the positions of a statement are cut where its views come from one part of their arrays' layouts to another.
use Rattle.std.specs.Prelude.{ℕ, suc, ◌-◌, ◌==◌, ℤ, pos, ◌+ℤ◌, ◌-ℤ◌, ◌*ℤ◌, Bool, not, List, [], ◌∷◌, filter, filter_map, slice_get}
use Rattle.std.specs.List.{list_any}
use Rattle.pooma_domain.specs.Cells.{Interval, axis_length, counting}
use Rattle.pooma_view.specs.declared.slots.Slot.{Slot}
use Rattle.pooma_view.specs.declared.slots.Slot.TheVariants.{Fixed, Along}
use Rattle.pooma_view.specs.Views.{Viewed}
use Rattle.pooma_layout.specs.Axes.{CutAxis, cut_at, part_of}
use Rattle.pooma_layout.specs.Patches.{boxes_of}
use Rattle.pooma_model.specs.Declarations.{Declared, layout_at}

-- for each axis of a view's positions, the part of the array's layout in which the cells of a place lie on the axis that it goes along
abbrev pub parts_along : List CutAxis → List Slot → List (ℤ → ℕ)
parts_along [] slots = []
parts_along (axis ∷ axes) [] = []
parts_along (axis ∷ axes) (Fixed x ∷ slots) = parts_along axes slots
parts_along (axis ∷ axes) (Along s ∷ slots) = (λ k. part_of axis.borders (s.first +ℤ s.stride *ℤ k)) ∷ parts_along axes slots

-- the cells of this place and of the one before it lie in different parts
abbrev pub changes_part : ℤ → (ℤ → ℕ) → Bool
changes_part k part = not (part (k -ℤ pos 1) == part k)

-- the places of an axis of positions at which some view comes to another part
abbrev pub borders_on : List (ℤ → ℕ) → Interval → List ℤ
borders_on views axis = filter (λ k. list_any (changes_part k) views) (counting (axis.first +ℤ pos 1) (axis_length axis - 1))

-- the parts of the axes of positions, the first of which has this number
abbrev pub cut_axes : Declared → List Viewed → ℕ → List Interval → List (List Interval)
cut_axes declared views n [] = []
cut_axes declared views n (axis ∷ axes) =
    cut_at axis.first (borders_on (filter_map (λ view. slice_get (parts_along (layout_at declared view.array) view.slots) n) views) axis) axis.last
    ∷ cut_axes declared views (suc n) axes

-- The boxes between neighbouring borders, in the order of their first positions. Where there are no axes there is one part.
abbrev pub parts_of : Declared → List Viewed → List Interval → List (List Interval)
parts_of declared views positions = boxes_of (cut_axes declared views 0 positions)
