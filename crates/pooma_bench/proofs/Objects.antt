-- What a dispatch and a release make of the objects.
use Rattle.std.proofs.Common.{◌≡◌, ◌+◌, ◌%◌, ◌^◌, ◌<◌, ◌≤◌, ℕ, List, [], ◌∷◌, ◌++◌, length, get_or, set, Some, slice_get, option_map, sum, ◌∙◌, ap, arith, length-set}
use Rattle.std.proofs.lemmas.List.Sums.{sum_by-set, get_or-le-sum_by}
use Rattle.std.proofs.lemmas.Option.{slice_get-get_or}
use Rattle.std.proofs.Math.Nat.{mod-eq_of_lt}
use Rattle.pooma_machine.specs.declared.step.Request.{Request}
use Rattle.pooma_machine.specs.declared.step.Event.{Event}
use Rattle.pooma_machine.specs.declared.step.EventKind.TheVariants as kind
use Rattle.pooma_machine.specs.Steps.{event_of}
use Rattle.pooma_machine.specs.Values.{values, lend, give_back, lent_by, put_back, new_value_of, with_at, written_object}
use Rattle.pooma_machine.proofs.Worth.{values_dispatched, values_released, with_at_own}
use Rattle.pooma_bench.specs.Increments.{increments}

-- the objects once a work has added one to the object that it writes
abbrev pub incremented : List ℕ → List Request → List ℕ
incremented objects work = put_back objects (written_object work) (new_value_of increments work (lent_by objects work))

-- the objects once an entry was dispatched and released: the one that its work writes has the new value
pub objects_released : (plan : List (List Request)) (opening : List ℕ) (history : List Event) (j seat : ℕ) (work : List Request) → slice_get plan j ≡ Some work
    → (values increments plan opening ((history ++ event_of kind.Dispatch j seat ∷ []) ++ event_of kind.Release j seat ∷ [])).objects
    ≡ incremented (values increments plan opening history).objects work
objects_released plan opening history j seat work at =
    let before = values increments plan opening history in
    let sent = history ++ event_of kind.Dispatch j seat ∷ [] in
    let lends : values increments plan opening sent ≡ lend increments j work before = values_dispatched increments plan opening history j seat work at in
    let gives : values increments plan opening (sent ++ event_of kind.Release j seat ∷ []) ≡ give_back increments j work (values increments plan opening sent) = values_released increments plan opening sent j seat work at in
    let own : with_at before.lent j (lent_by before.objects work) j ≡ lent_by before.objects work = with_at_own before.lent j (lent_by before.objects work) in
    ap (λ v. v.objects) gives ∙ (ap (λ v. (give_back increments j work v).objects) lends ∙ ap (λ lent. put_back before.objects (written_object work) (new_value_of increments work lent)) own)

-- where one is added to an object, as many objects have a sum greater by one
pub object_added : (objects : List ℕ) (o : ℕ) → o < length objects → sum objects + 1 < 2 ^ 64
    → (length (put_back objects (Some o) (option_map (λ old. (old + 1) % 2 ^ 64) (slice_get objects o))) ≡ length objects)
    × (sum (put_back objects (Some o) (option_map (λ old. (old + 1) % 2 ^ 64) (slice_get objects o))) ≡ sum objects + 1)
object_added objects o within few =
    let old = get_or objects o 0 in
    let least : old ≤ sum objects = get_or-le-sum_by (λ x. x) objects o 0 within in
    let fits : old + 1 < 2 ^ 64 = omega arith in
    let wraps : (old + 1) % 2 ^ 64 ≡ old + 1 = mod-eq_of_lt fits in
    let summed : sum (set objects o (old + 1)) + old ≡ sum objects + (old + 1) = sum_by-set (λ x. x) objects o (old + 1) 0 within in
    rw (slice_get-get_or objects o 0 within, wraps) (length-set objects o (old + 1), omega arith)
