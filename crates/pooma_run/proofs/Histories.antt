-- What a history of works answered, in the order of its plan.
use Rattle.std.proofs.Common.{◌≡◌, ◌∙◌, sym, ap, refl, ℕ, suc, ◌+◌, Option, List, [], ◌∷◌, length, map, arith}
use Rattle.std.specs.List.{cons_option, filter_map, range_with_len}
use Rattle.std.specs.Prelude.{slice_get}
use Rattle.pooma_field.specs.Numbered.{Numbered}
use Rattle.pooma_machine.specs.declared.step.Event.{Event}
use Rattle.pooma_machine.specs.Values.{values}
use Rattle.pooma_piece.specs.declared.outcome.Outcome.{Outcome}
use Rattle.pooma_piece.specs.Meaning.{pieces}
use Rattle.pooma_piece.specs.Pieces.{Pieced}
use Rattle.pooma_piece.specs.Plans.{plan_fault}
use Rattle.pooma_split.specs.Statements.{done_in_order, fault_among}
use Rattle.pooma_run.specs.Doing.{fault_in_history}

-- a list is made of what stands at its places
from_places : {X : Type 0} (f : ℕ → Option X) (xs : List X) (first : ℕ) → ((j : ℕ) → f (first + j) ≡ slice_get xs j) → filter_map f (range_with_len first (length xs)) ≡ xs
from_places f [] first at = refl
from_places f (x ∷ xs) first at =
    let here : first ≡ first + 0 = omega arith in
    ap (λ o. cons_option o (filter_map f (range_with_len (first + 1) (length xs)))) (ap f here ∙ at 0)
    ∙ ap (λ ys. x ∷ ys) (from_places f xs (first + 1) (λ j. let next : first + 1 + j ≡ first + suc j = omega arith in ap f next ∙ at (suc j)))

-- where each answered as in its turn, so did the history
pub fault_in_order : (plan : List Pieced) (opening : List Numbered) (history : List Event) → length (done_in_order plan opening).outcomes ≡ length plan
    → ((j : ℕ) → (values pieces plan opening history).outcome j ≡ slice_get (done_in_order plan opening).outcomes j)
    → fault_in_history plan opening history ≡ fault_among plan (done_in_order plan opening)
fault_in_order plan opening history count each =
    let outcomes : List Outcome = (done_in_order plan opening).outcomes in
    let answer : ℕ → Option Outcome = (values pieces plan opening history).outcome in
    ap (plan_fault (map (λ (piece : Pieced). piece.statement) plan))
    (ap (λ n. filter_map answer (range_with_len 0 n)) (sym count)
    ∙ from_places answer outcomes 0 (λ j. let same : 0 + j ≡ j = omega arith in ap answer same ∙ each j))
