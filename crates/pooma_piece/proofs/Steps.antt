-- A piece as far as it is done: before its k-th position.
use Rattle.std.proofs.Common.{sym, ap, ◌∙◌, subst, take, map}
use Rattle.std.proofs.lemmas.List.{take_all}
use Rattle.std.specs.Prelude.{◌≡◌, ℕ, ◌+◌, ◌≤◌, ℤ, true, Some, Ok, Err, List, [], length, slice_get}
use Rattle.pooma_domain.specs.Cells.{Interval, cells_of, IsIn}
use Rattle.pooma_num.specs.declared.fault.FaultKind.{FaultKind}
use Rattle.pooma_view.specs.Slots.{cell_named, positions_of}
use Rattle.pooma_view.specs.Views.{Viewed}
use Rattle.pooma_field.specs.Numbered.{Numbered, Change, with_number, with_changes, IsFull}
use Rattle.pooma_expr.specs.Values.{Checked, Contents, value}
use Rattle.pooma_piece.specs.declared.outcome.Outcome.TheVariants.{Done, Fault}
use Rattle.pooma_piece.specs.declared.task.Task.{Task}
use Rattle.pooma_piece.specs.declared.task.Task.TheVariants.{Assign}
use Rattle.pooma_piece.specs.Effects.{before_fault, changes_over, first_fault_or, value_at}
use Rattle.pooma_piece.specs.Lent.{fits, seen_by}
use Rattle.pooma_piece.specs.Meaning.{area_of}
use Rattle.pooma_piece.specs.Pieces.{AreOwn, IsPiece, Pieced}
use Rattle.pooma_piece.specs.Sources.{CanSee, SeesAs}
use Rattle.pooma_piece.proofs.Apart.{HasLaws, sees_the_old}
use Rattle.pooma_piece.proofs.Firsts.{HaveNumbers, HaveNumbers-more, before_fault_all, before_fault_is, first_fault_is, no_fault_is, one_more_change}
use Rattle.pooma_piece.proofs.Seen.{can_see, target_there}

-- the positions before the k-th have numbers, and the cells that they name have them
pub record IsSetUpTo (piece : Pieced) (target : Viewed) (old now : Numbered) (r : List Numbered) (k : ℕ) : Type 0 where
  pub laws : HasLaws
  pub valid : IsPiece piece
  pub task : piece.task ≡ Assign target
  pub fit : fits piece (Some old.area) (map area_of r) ≡ true
  pub full : IsFull old
  pub area : now.area ≡ old.area
  pub content : now ≡ with_changes old (changes_over target.slots (value_at piece (Some old) r) (take k (cells_of piece.positions)))
  pub numbers : HaveNumbers (value_at piece (Some old) r) (take k (cells_of piece.positions))

pub state : HasLaws → ((a : Numbered) (changes : List Change) → (with_changes a changes).area ≡ a.area) → (piece : Pieced) (target : Viewed) (old now : Numbered) (r : List Numbered) (k : ℕ) → IsPiece piece → piece.task ≡ Assign target → fits piece (Some old.area) (map area_of r) ≡ true → IsFull old → now ≡ with_changes old (changes_over target.slots (value_at piece (Some old) r) (take k (cells_of piece.positions))) → HaveNumbers (value_at piece (Some old) r) (take k (cells_of piece.positions)) → IsSetUpTo piece target old now r k
state laws area piece target old now r k valid task fit full content numbers = record {
  laws = laws;
  valid = valid;
  task = task;
  fit = fit;
  full = full;
  area = ap area_of content ∙ area old (changes_over target.slots (value_at piece (Some old) r) (take k (cells_of piece.positions)));
  content = content;
  numbers = numbers;
}

module _ (piece : Pieced) (target : Viewed) (old now : Numbered) (r : List Numbered) (k : ℕ) where
  pub sees_there : IsSetUpTo piece target old now r k → (p : List ℤ) → slice_get (cells_of piece.positions) k ≡ Some p → CanSee piece (Some now) r p
  sees_there g p at =
      can_see piece (Some now) r g.valid.alike (subst (λ (a : List Interval). fits piece (Some a) (map area_of r) ≡ true) (sym g.area) g.fit) k p at

  pub position_of_target : IsSetUpTo piece target old now r k → (p : List ℤ) → IsIn piece.positions p → IsIn (positions_of target.slots) p
  position_of_target g p inside = (subst (λ (t : Task). AreOwn t piece.positions) g.task g.valid.own) p inside

  pub cell_of_target : IsSetUpTo piece target old now r k → (p : List ℤ) → slice_get (cells_of piece.positions) k ≡ Some p → IsIn now.area (cell_named target.slots p)
  cell_of_target g p at =
      subst (λ (a : List Interval). IsIn a (cell_named target.slots p)) (sym g.area) (target_there piece target old r g.task g.fit k p at)

  -- the value that was found is the one over the old contents
  pub value_is : IsSetUpTo piece target old now r k → (p : List ℤ) → slice_get (cells_of piece.positions) k ≡ Some p → (v : Checked) → ((has : Contents) → SeesAs piece (Some now) r has p → v ≡ value [] has piece.code p) → value_at piece (Some old) r p ≡ v
  value_is g p at v found =
      sym (found (seen_by piece (Some old) r) (sees_the_old g.laws piece target old now r g.valid g.task g.full k p at (value_at piece (Some old) r) g.content))

  pub one_more_set : IsSetUpTo piece target old now r k → (p : List ℤ) → slice_get (cells_of piece.positions) k ≡ Some p → (n : ℤ) → value_at piece (Some old) r p ≡ Ok n → with_number now (cell_named target.slots p) n ≡ with_changes old (changes_over target.slots (value_at piece (Some old) r) (take (k + 1) (cells_of piece.positions)))
  one_more_set g p at n is =
      ap (λ (a : Numbered). with_number a (cell_named target.slots p) n) g.content
      ∙ sym (one_more_change target.slots (value_at piece (Some old) r) old (cells_of piece.positions) k p n at is)

  pub one_more_numbered : IsSetUpTo piece target old now r k → (p : List ℤ) → slice_get (cells_of piece.positions) k ≡ Some p → (n : ℤ) → value_at piece (Some old) r p ≡ Ok n → HaveNumbers (value_at piece (Some old) r) (take (k + 1) (cells_of piece.positions))
  one_more_numbered g p at n is = HaveNumbers-more (value_at piece (Some old) r) (cells_of piece.positions) k p n at is g.numbers

  pub content_at_fault : IsSetUpTo piece target old now r k → (p : List ℤ) → slice_get (cells_of piece.positions) k ≡ Some p → (kind : FaultKind) → value_at piece (Some old) r p ≡ Err kind → now ≡ with_changes old (changes_over target.slots (value_at piece (Some old) r) (before_fault (value_at piece (Some old) r) (cells_of piece.positions)))
  content_at_fault g p at kind is =
      g.content
      ∙ ap (λ (ps : List (List ℤ)). with_changes old (changes_over target.slots (value_at piece (Some old) r) ps)) (sym (before_fault_is (value_at piece (Some old) r) (cells_of piece.positions) k p kind g.numbers at is))

  pub answer_at_fault : IsSetUpTo piece target old now r k → (p : List ℤ) → slice_get (cells_of piece.positions) k ≡ Some p → (kind : FaultKind) → value_at piece (Some old) r p ≡ Err kind → Fault p kind ≡ first_fault_or (value_at piece (Some old) r) (cells_of piece.positions) Done
  answer_at_fault g p at kind is = sym (first_fault_is (value_at piece (Some old) r) (cells_of piece.positions) k p kind Done g.numbers at is)

  all_taken : length (cells_of piece.positions) ≤ k → take k (cells_of piece.positions) ≡ cells_of piece.positions
  all_taken end = take_all k (cells_of piece.positions) end

  all_numbered : IsSetUpTo piece target old now r k → length (cells_of piece.positions) ≤ k → HaveNumbers (value_at piece (Some old) r) (cells_of piece.positions)
  all_numbered g end = subst (HaveNumbers (value_at piece (Some old) r)) (all_taken end) g.numbers

  pub content_at_end : IsSetUpTo piece target old now r k → length (cells_of piece.positions) ≤ k → now ≡ with_changes old (changes_over target.slots (value_at piece (Some old) r) (before_fault (value_at piece (Some old) r) (cells_of piece.positions)))
  content_at_end g end =
      g.content
      ∙ ap (λ (ps : List (List ℤ)). with_changes old (changes_over target.slots (value_at piece (Some old) r) ps))
      (all_taken end ∙ sym (before_fault_all (value_at piece (Some old) r) (cells_of piece.positions) (all_numbered g end)))

  pub answer_at_end : IsSetUpTo piece target old now r k → length (cells_of piece.positions) ≤ k → Done ≡ first_fault_or (value_at piece (Some old) r) (cells_of piece.positions) Done
  answer_at_end g end = sym (no_fault_is (value_at piece (Some old) r) (cells_of piece.positions) Done (all_numbered g end))
