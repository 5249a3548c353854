-- The parts of a box of positions are boxes of some of them.
use Rattle.std.proofs.Common.{refl, sym, ap, subst}
use Rattle.std.proofs.lemmas.List.Elements.{All-cons, All-head, All-nil, All-tail}
use Rattle.std.specs.List.{filter_map, list_any}
use Rattle.std.specs.Prelude.{◌≡◌, ℕ, suc, ◌-◌, ℤ, pos, ◌+ℤ◌, List, [], ◌∷◌, map, slice_get, All}
use Rattle.pooma_logic.proofs.Members.{Member, all_members, of_any}
use Rattle.pooma_domain.specs.Cells.{Interval, axis_length, counting, IsAxis, IsBox, IsIn}
use Rattle.pooma_view.specs.Views.{Viewed}
use Rattle.pooma_layout.specs.Axes.{IsBorder}
use Rattle.pooma_layout.specs.Patches.{boxes_of}
use Rattle.pooma_model.specs.Declarations.{Declared, layout_at}
use Rattle.pooma_model.specs.Partitions.{IsPartition}
use Rattle.pooma_model.specs.Parts.{borders_on, changes_part, cut_axes, parts_along, parts_of}
use Rattle.pooma_part.specs.CutLines.{CutLine, IsCutLine, parts_in}
use Rattle.pooma_part.proofs.Dividing.{part_is_box}
use Rattle.pooma_part.proofs.Finding.{inner_counted}
use Rattle.pooma_part.proofs.Sets.{ascending_of, chosen_rise, kept_member}
use Rattle.pooma_split.proofs.Piecing.{IsWithin}

module _ (declared : Declared) (views : List Viewed) where
  abbrev on_number : ℕ → List (ℤ → ℕ)
  on_number n = filter_map (λ view. slice_get (parts_along (layout_at declared view.array) view.slots) n) views

  abbrev line : ℕ → Interval → CutLine
  line n axis = record { whole = axis; borders = borders_on (on_number n) axis }

  abbrev lines : ℕ → List Interval → List CutLine
  lines n [] = []
  lines n (axis ∷ axes) = line n axis ∷ lines (suc n) axes

  same_cuts : (n : ℕ) (axes : List Interval) → map parts_in (lines n axes) ≡ cut_axes declared views n axes
  same_cuts n [] = refl
  same_cuts n (axis ∷ axes) = ap (λ cuts. parts_in (line n axis) ∷ cuts) (same_cuts (suc n) axes)

  same_wholes : (n : ℕ) (axes : List Interval) → map (λ l. l.whole) (lines n axes) ≡ axes
  same_wholes n [] = refl
  same_wholes n (axis ∷ axes) = ap (λ rest. axis ∷ rest) (same_wholes (suc n) axes)

  is_line : (n : ℕ) (axis : Interval) → IsAxis axis → IsCutLine (line n axis)
  is_line n axis valid = record {
    axis = valid;
    ascending = ascending_of (borders_on (on_number n) axis) (chosen_rise (λ k. list_any (changes_part k) (on_number n)) (axis.first +ℤ pos 1) (axis_length axis - 1));
    inside =
        all_members (IsBorder axis) (borders_on (on_number n) axis)
        (λ k m. (inner_counted axis k valid.ordered).0 ((kept_member (λ j. list_any (changes_part j) (on_number n)) (counting (axis.first +ℤ pos 1) (axis_length axis - 1)) k).0 m).0);
  }

  are_lines : (n : ℕ) (axes : List Interval) → All IsAxis axes → All IsCutLine (lines n axes)
  are_lines n [] valid = All-nil IsCutLine
  are_lines n (axis ∷ axes) valid =
      All-cons IsCutLine (line n axis) (lines (suc n) axes) (is_line n axis (All-head IsAxis axis axes valid)) (are_lines (suc n) axes (All-tail IsAxis axis axes valid))

  pub part_within : (positions box : List Interval) → IsPartition positions (parts_of declared views positions) → IsBox positions → Member (parts_of declared views positions) box → IsWithin box positions
  part_within positions box parts valid m = record {
    boxed =
        part_is_box (lines 0 positions) box
        (record { each = are_lines 0 positions valid.whole; box = subst IsBox (sym (same_wholes 0 positions)) valid })
        (subst (λ cuts. Member (boxes_of cuts) box) (sym (same_cuts 0 positions)) m);
    all_boxed = valid;
    inside = λ p h. (parts.cells p).1 (of_any (λ b. IsIn b p) (parts_of declared views positions) box m h);
  }
