-- What the pieces of an assignment come to.
use Rattle.std.proofs.Common.{refl, sym, ap, ◌∙◌, subst, inl, inr, ⊎_elim, arith, cond, take}
use Rattle.std.specs.List.{filter_map, position_or_len}
use Rattle.std.specs.Prelude.{◌≡◌, ◌≢◌, ℕ, suc, ◌+◌, ℤ, not, Option, None, Some, Ok, Err, is_err, List, [], ◌∷◌, length, map, fold, slice_get, All}
use Rattle.pooma_logic.proofs.Members.{Member, contains_of, of_any}
use Rattle.pooma_domain.specs.Cells.{Interval, cells_of, IsIn}
use Rattle.pooma_domain.proofs.Within.{length_of_cell}
use Rattle.pooma_view.specs.Slots.{positions_of}
use Rattle.pooma_view.specs.Views.{Viewed}
use Rattle.pooma_field.specs.Numbered.{Numbered, IsFull}
use Rattle.pooma_field.specs.Worlds.{World, array_of, changed}
use Rattle.pooma_expr.specs.declared.tree.Expr.{Expr}
use Rattle.pooma_expr.specs.Trees.{bound, views_of}
use Rattle.pooma_expr.specs.Values.{Checked}
use Rattle.pooma_law.specs.Ser.{Results, at_first}
use Rattle.pooma_model.specs.declared.statement.Action.TheVariants as action
use Rattle.pooma_model.specs.Assigning.{Becomes, assigned, fault_of, found_or, given_at, given_by, whole_value}
use Rattle.pooma_model.specs.Declarations.{Declared, value_in}
use Rattle.pooma_model.specs.Fit.{IsAssignFit}
use Rattle.pooma_model.specs.Partitions.{IsPartition, changed_in_turn, changes_at, fault_at}
use Rattle.pooma_model.specs.Parts.{parts_of}
use Rattle.pooma_store.specs.Standing.{IsFresh}
use Rattle.pooma_piece.specs.declared.outcome.Outcome.{Outcome}
use Rattle.pooma_piece.specs.declared.outcome.Outcome.TheVariants.{Done}
use Rattle.pooma_piece.specs.declared.task.Task.{Task}
use Rattle.pooma_piece.specs.declared.task.Task.TheVariants as task
use Rattle.pooma_piece.specs.Effects.{before_fault, fault_or, first_fault_or}
use Rattle.pooma_piece.specs.Pieces.{Pieced}
use Rattle.pooma_piece.specs.Plans.{or_earlier, plan_fault}
use Rattle.pooma_split.specs.Gathered.{HasLaws}
use Rattle.pooma_split.specs.Splits.{piece_of, pieces_of}
use Rattle.pooma_split.specs.Statements.{ComesTo, Stands, as_fault, done_in_order, fault_among}
use Rattle.pooma_split.proofs.Faulting.{fault_for, faults_are, judged}
use Rattle.pooma_split.proofs.Turning.{Came, Goes, boxes, next_world, turn}

-- where no position has a fault, all of them are done
pub all_done : (value : List ℤ → Checked) (ps : List (List ℤ)) → fault_at (λ p. given_by (value p)) ps ≡ None → before_fault value ps ≡ ps
all_done value [] none = refl
all_done value (p ∷ ps) none = by (value p) refl (all_done value ps)
  where
    by : (v : Checked) → value p ≡ v → (fault_at (λ q. given_by (value q)) ps ≡ None → before_fault value ps ≡ ps) → before_fault value (p ∷ ps) ≡ p ∷ ps
    by (Ok n) e later =
        let rest : fault_at (λ q. given_by (value q)) ps ≡ None = sym (ap (λ w. found_or (fault_of p (given_by w)) (fault_at (λ q. given_by (value q)) ps)) e) ∙ none in
        let one : 1 + position_or_len (λ q. is_err (value q)) ps ≡ suc (position_or_len (λ q. is_err (value q)) ps) = omega arith in
        ap (λ (w : Checked). take (cond (not (is_err w)) (1 + position_or_len (λ q. is_err (value q)) ps) 0) (p ∷ ps)) e
        ∙ ap (λ n. take n (p ∷ ps)) one ∙ ap (λ qs. p ∷ qs) (later rest)
    by (Err kind) e later =
        let some = sym (ap (λ w. found_or (fault_of p (given_by w)) (fault_at (λ q. given_by (value q)) ps)) e) ∙ none in cc

-- and the answer is the other one
pub no_fault : (value : List ℤ → Checked) (ps : List (List ℤ)) (o : Outcome) → fault_at (λ p. given_by (value p)) ps ≡ None → first_fault_or value ps o ≡ o
no_fault value [] o none = refl
no_fault value (p ∷ ps) o none = by (value p) refl (no_fault value ps o)
  where
    by : (v : Checked) → value p ≡ v → (fault_at (λ q. given_by (value q)) ps ≡ None → first_fault_or value ps o ≡ o) → first_fault_or value (p ∷ ps) o ≡ o
    by (Ok n) e later =
        let rest : fault_at (λ q. given_by (value q)) ps ≡ None = sym (ap (λ w. found_or (fault_of p (given_by w)) (fault_at (λ q. given_by (value q)) ps)) e) ∙ none in
        ap (λ w. fault_or p w (first_fault_or value ps o)) e ∙ later rest
    by (Err kind) e later =
        let some = sym (ap (λ w. found_or (fault_of p (given_by w)) (fault_at (λ q. given_by (value q)) ps)) e) ∙ none in cc

fold_same : {A B : Type 0} (f g : A → B → A) (xs : List B) (a : A) → ((x : B) → Member xs x → (b : A) → f b x ≡ g b x) → fold f a xs ≡ fold g a xs
fold_same f g [] a same = refl
fold_same f g (x ∷ xs) a same = ap (λ b. fold f b xs) (same x (inl refl) a) ∙ fold_same f g xs (g a x) (λ y m. same y (inr m))

pub statements_are : (declared : Declared) (number : ℕ) (t : Task) (e : Expr) (boxes : List (List Interval)) → map (λ piece. piece.statement) (map (piece_of declared number t e) boxes) ≡ map (λ (box : List Interval). number) boxes
statements_are declared number t e [] = refl
statements_are declared number t e (box ∷ rest) = ap (λ l. number ∷ l) (statements_are declared number t e rest)

-- positions of boxes that are parts have as many numbers as there are axes
pub all_long : HasLaws → (positions : List Interval) (boxes : List (List Interval)) → IsPartition positions boxes → (box : List Interval) (p : List ℤ) → Member boxes box → Member (cells_of box) p → length p ≡ length positions
all_long laws positions boxes parts box p m k =
    length_of_cell positions p ((parts.cells p).1 (of_any (λ b. IsIn b p) boxes box m ((laws.cells.members box p).0 (contains_of (cells_of box) p k))))

module _ (laws : HasLaws) (declared : Declared) (number : ℕ) (target : Viewed) (value : Expr) (mask : Option Expr) (world : World) (fit : IsAssignFit declared target (whole_value target value mask))
    (objects : List Numbered) (standing : Stands declared objects world (views_of (whole_value target value mask))) (full : IsFull (array_of world target.array)) where
  abbrev whole : Expr
  whole = whole_value target value mask

  abbrev plan : List Pieced
  plan = pieces_of declared world.scalars number (action.Assign target value mask)

  abbrev results : Results Numbered Outcome
  results = done_in_order plan objects

  abbrev all_boxes : List (List Interval)
  all_boxes = parts_of declared (target ∷ views_of (bound world.scalars whole)) (positions_of target.slots)

  abbrev values : List ℤ → Checked
  values p = value_in declared world whole p

  goes : Goes laws declared standing.arrays number target whole world fit standing.has 0 world [] objects
  goes = record {
    objects_are = standing.objects_are;
    stands = standing.stands;
    fresh = standing.fresh;
    midway = λ array c none. refl;
    full = full;
    areas = λ array. refl;
    count = refl;
    others = λ q m. absurd m;
  }

  came : Came laws declared standing.arrays number target whole world fit standing.has 0 world all_boxes (at_first objects) results
  came = turn laws declared standing.arrays number target whole world fit standing.has all_boxes 0 world [] (at_first objects) (λ j. let same : 0 + j ≡ j = omega arith in ap (slice_get all_boxes) same) goes

  parts : IsPartition (positions_of target.slots) all_boxes
  parts = laws.partition declared (target ∷ views_of (bound world.scalars whole)) (positions_of target.slots)

  fault_is : fault_among plan results ≡ fold or_earlier None (filter_map (fault_for number values (λ box. Done) (λ box. refl)) all_boxes)
  fault_is =
      ap (λ outcomes. plan_fault (map (λ piece. piece.statement) plan) outcomes) came.answers
      ∙ ap (fold or_earlier None) (faults_are number values (λ box. Done) (λ box. refl) all_boxes (map (λ piece. piece.statement) plan) (statements_are declared number (task.Assign target) (bound world.scalars whole) all_boxes))

  effect_is : assigned declared target value mask world ≡ assigned declared target whole None world
  effect_is = laws.masks declared target value mask world fit full

  worlds_same : All (λ box. fault_at (given_at declared world whole None) (cells_of box) ≡ None) all_boxes
      → fold (next_world laws declared standing.arrays number target whole world fit standing.has) world all_boxes ≡ changed_in_turn world target (given_at declared world whole None) all_boxes
  worlds_same none =
      fold_same (next_world laws declared standing.arrays number target whole world fit standing.has)
      (λ now box. changed now target.array (changes_at (given_at declared world whole None) target.slots (cells_of box))) all_boxes world
      (λ box m now. ap (λ ps. changed now target.array (changes_at (given_at declared world whole None) target.slots ps)) (all_done values (cells_of box) (all_at box m)))
    where
      all_at : (box : List Interval) → Member all_boxes box → fault_at (given_at declared world whole None) (cells_of box) ≡ None
      all_at box m = let there = contains_of all_boxes box m in subst (λ b. fault_at (given_at declared world whole None) (cells_of b) ≡ None) there.2 (none there.0 box there.1)

  pub assign_comes : ComesTo declared number (fault_among plan results) results (assigned declared target value mask world)
  assign_comes =
      ⊎_elim
      (λ none.
      subst (λ o. ComesTo declared number o results (assigned declared target value mask world)) (sym (fault_is ∙ none.0)) (
        fold (next_world laws declared standing.arrays number target whole world fit standing.has) world all_boxes,
        effect_is ∙ laws.becomes declared target whole None all_boxes world full parts none.1 ∙ ap Becomes (sym (worlds_same none.1)),
        came.goes.objects_are,
        came.goes.stands,
      ))
      (λ some.
      subst (λ o. ComesTo declared number o results (assigned declared target value mask world)) (sym (fault_is ∙ some.1))
      (some.2, effect_is ∙ laws.faults declared target whole None all_boxes world (as_fault some.0) parts some.3))
      (judged number values (λ box. Done) (λ box. refl) (length (positions_of target.slots)) all_boxes (all_long laws (positions_of target.slots) all_boxes parts))

  -- where no piece answered a fault, fields that are not the target stay fresh
  pub stay_fresh : fault_among plan results ≡ None → (new : World) → assigned declared target value mask world ≡ Becomes new → (other : ℕ) → other ≢ target.array → IsFresh declared.shapes declared.layouts objects world other
      → IsFresh declared.shapes declared.layouts results.objects new other
  stay_fresh faultless new becomes other apart fresh =
      ⊎_elim
      (λ none.
      let comes : Becomes (fold (next_world laws declared standing.arrays number target whole world fit standing.has) world all_boxes) ≡ Becomes new =
      ap Becomes (worlds_same none.1) ∙ sym (effect_is ∙ laws.becomes declared target whole None all_boxes world full parts none.1) ∙ becomes in
      let same : fold (next_world laws declared standing.arrays number target whole world fit standing.has) world all_boxes ≡ new = cc in
      subst (λ w. IsFresh declared.shapes declared.layouts results.objects w other) same (came.elsewhere other apart fresh))
      (λ some. let clash : None ≡ Some some.0 = sym faultless ∙ fault_is ∙ some.1 in cc)
      (judged number values (λ box. Done) (λ box. refl) (length (positions_of target.slots)) all_boxes (all_long laws (positions_of target.slots) all_boxes parts))
