-- How many positions slots make, from one on.
use Rattle.std.proofs.Common.{◌≡◌, ℕ, zero, suc, ◌+◌, ◌*◌, List, [], ◌∷◌, length, drop, Some, pos, ◌-ℤ◌, ◌<◌, min, sym, ap, ◌∙◌, arith}
use Rattle.std.proofs.lemmas.Int.{ints}
use Rattle.std.specs.Prelude.{slice_get}
use Rattle.pooma_domain.specs.Cells.{Interval, axis_length, cells_of}
use Rattle.pooma_domain.specs.declared.strides.Strided.{Strided}
use Rattle.pooma_view.specs.Slots.{places, positions_of}
use Rattle.pooma_view.specs.declared.slots.Slot.{Slot}
use Rattle.pooma_view.specs.declared.slots.Slot.TheVariants.{Along}
use Rattle.pooma_script.proofs.Capped.{capped_factor}
use Rattle.pooma_script.proofs.Lengths.{length_of_some}

places_counted : (s : Strided) → axis_length (places s) ≡ s.count
places_counted s =
    let some : 0 < s.count = s.some in
    let long = length_of_some (pos 0) (pos s.count -ℤ pos 1) (omega (arith, ints, some)) in
    omega (arith, ints, long)

module _ (counted : (axis : Interval) (axes : List Interval) → length (cells_of (axis ∷ axes)) ≡ axis_length axis * length (cells_of axes)) where
  along_counted : (slots : List Slot) (n : ℕ) (s : Strided) → slice_get slots n ≡ Some (Along s)
      → length (cells_of (positions_of (drop n slots))) ≡ s.count * length (cells_of (positions_of (drop (suc n) slots)))
  along_counted [] n s is = cc is
  along_counted (slot ∷ slots) zero s is =
      let same : slot ≡ Along s = cc in
      ap (λ x. length (cells_of (positions_of (x ∷ slots)))) same
      ∙ counted (places s) (positions_of slots)
      ∙ ap (λ m. m * length (cells_of (positions_of slots))) (places_counted s)
  along_counted (slot ∷ slots) (suc n) s is = along_counted slots n s is

  -- the same of capped counts
  pub along_capped : (slots : List Slot) (n : ℕ) (s : Strided) (later more cap : ℕ) → slice_get slots n ≡ Some (Along s)
      → later ≡ min (length (cells_of (positions_of (drop (n + 1) slots)))) cap → more ≡ min (s.count * later) cap
      → more ≡ min (length (cells_of (positions_of (drop n slots)))) cap
  along_capped slots n s later more cap is e f =
      let next : n + 1 ≡ suc n = omega arith in
      f ∙ ap (λ m. min (s.count * m) cap) (e ∙ ap (λ k. min (length (cells_of (positions_of (drop k slots)))) cap) next)
      ∙ capped_factor s.count (length (cells_of (positions_of (drop (suc n) slots)))) cap
      ∙ ap (λ m. min m cap) (sym (along_counted slots n s is))
