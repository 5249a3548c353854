-- Positions without a fault have a number each, so parts have as many numbers as the whole has positions.
use Rattle.std.proofs.Common.{refl, sym, ap, ◌∙◌}
use Rattle.std.proofs.lemmas.List.{length-append}
use Rattle.std.proofs.lemmas.List.Elements.{All-head, All-tail}
use Rattle.std.specs.List.{cons_option}
use Rattle.std.specs.Prelude.{◌≡◌, suc, ◌+◌, ℤ, None, Ok, Err, List, [], ◌∷◌, length, flat_map, All}
use Rattle.pooma_domain.specs.Cells.{Interval, cells_of}
use Rattle.pooma_expr.specs.Values.{Checked}
use Rattle.pooma_model.specs.Assigning.{fault_of, found_or, given_by}
use Rattle.pooma_model.specs.Partitions.{IsPartition, fault_at, numbers_at, numbers_in_turn}
use Rattle.pooma_model.specs.Reducing.{number_in}
use Rattle.pooma_model.proofs.Lists.{in_any_order}
use Rattle.pooma_model.proofs.Partitioning.{OfCells, cells_once, parts_once, same_cells}
use Rattle.pooma_split.specs.Gathered.{HasLaws}

cells : HasLaws → OfCells
cells laws = record { members = laws.cells.members; once = laws.cells.once; ascending = laws.cells.ascending }

-- parts have as many positions as the whole
positions_counted : HasLaws → (whole : List Interval) (boxes : List (List Interval)) → IsPartition whole boxes → length (flat_map cells_of boxes) ≡ length (cells_of whole)
positions_counted laws whole boxes parts =
    in_any_order (λ (ps : List (List ℤ)). length ps) (λ p n. suc n) (λ p. Unit {0}) (λ n. Unit {0}) (λ p ps. refl) tt (λ p n good fine. tt) (λ p q n one other fine. refl)
    (flat_map cells_of boxes) (cells_of whole) (parts_once (cells laws) whole boxes parts) (cells_once (cells laws) whole) (same_cells (cells laws) whole boxes parts) (λ p m. tt)

module _ (value : List ℤ → Checked) where
  numbered : (ps : List (List ℤ)) → fault_at (λ p. given_by (value p)) ps ≡ None → length (numbers_at value ps) ≡ length ps
  numbered [] none = refl
  numbered (p ∷ ps) none = by (value p) refl (numbered ps)
    where
      by : (v : Checked) → value p ≡ v → (fault_at (λ q. given_by (value q)) ps ≡ None → length (numbers_at value ps) ≡ length ps) → length (numbers_at value (p ∷ ps)) ≡ suc (length ps)
      by (Ok n) e later =
          let rest : fault_at (λ q. given_by (value q)) ps ≡ None = sym (ap (λ w. found_or (fault_of p (given_by w)) (fault_at (λ q. given_by (value q)) ps)) e) ∙ none in
          ap (λ w. length (cons_option (number_in w) (numbers_at value ps))) e ∙ ap suc (later rest)
      by (Err kind) e later =
          let some = sym (ap (λ w. found_or (fault_of p (given_by w)) (fault_at (λ q. given_by (value q)) ps)) e) ∙ none in cc

  numbered_in_turn : (boxes : List (List Interval)) → All (λ box. fault_at (λ p. given_by (value p)) (cells_of box) ≡ None) boxes → length (numbers_in_turn value boxes) ≡ length (flat_map cells_of boxes)
  numbered_in_turn [] none = refl
  numbered_in_turn (box ∷ boxes) none =
      let one = numbered (cells_of box) (All-head (λ b. fault_at (λ p. given_by (value p)) (cells_of b) ≡ None) box boxes none) in
      let rest = numbered_in_turn boxes (All-tail (λ b. fault_at (λ p. given_by (value p)) (cells_of b) ≡ None) box boxes none) in
      length-append (numbers_at value (cells_of box)) (numbers_in_turn value boxes)
      ∙ ap (λ n. n + length (numbers_in_turn value boxes)) one ∙ ap (λ n. length (cells_of box) + n) rest
      ∙ sym (length-append (cells_of box) (flat_map cells_of boxes))

  pub numbers_counted : HasLaws → (whole : List Interval) (boxes : List (List Interval)) → IsPartition whole boxes → All (λ box. fault_at (λ p. given_by (value p)) (cells_of box) ≡ None) boxes
      → length (numbers_in_turn value boxes) ≡ length (cells_of whole)
  numbers_counted laws whole boxes parts none = numbered_in_turn boxes none ∙ positions_counted laws whole boxes parts
