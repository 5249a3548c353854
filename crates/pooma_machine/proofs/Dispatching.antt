-- Why the values of a ready entry's objects are there, and that they are those of the history.
use Rattle.std.proofs.Common.{◌≡◌, ◌≢◌, ◌<◌, ℕ, suc, true, List, [], ◌∷◌, length, get_or, Option, Some, None, is_some, IsSome, option_and_then, slice_get, filter_map, Contains, refl, sym, ◌∙◌, ap, subst, arith, inl, inr, All}
use Rattle.std.proofs.lemmas.Bool.Decides.{eqb_tells, leb_tells}
use Rattle.std.proofs.lemmas.List.{get_or_default, length-map}
use Rattle.pooma_queue.specs.declared.queue.Mode.{Mode}
use Rattle.pooma_queue.specs.declared.queue.Mode.TheVariants.{Read, Write}
use Rattle.pooma_queue.specs.Requests.{conflicts}
use Rattle.pooma_machine.specs.declared.step.Request.{Request}
use Rattle.pooma_machine.specs.declared.step.Event.{Event}
use Rattle.pooma_machine.specs.declared.step.Status.{Status}
use Rattle.pooma_machine.specs.declared.step.Status.TheVariants as status
use Rattle.pooma_machine.specs.Steps.{requests_of, AsksFor, status_of, is_out, is_released, IsReady}
use Rattle.pooma_machine.specs.Values.{Meaning, Lent, FitsLent, values, lent_by, written_object, read_objects, asks_of}
use Rattle.pooma_machine.specs.Slots.{home_at, lent_from}
use Rattle.pooma_machine.specs.Machine.{Matches, FitsShapes}
use Rattle.pooma_logic.proofs.Elements.{contains_cases, contains_first, contains_rest, contains_none}
use Rattle.pooma_machine.proofs.Worth.{asks_at, asked_there, out_in_plan, not_none}
use Rattle.pooma_machine.proofs.Lending.{read_shapes, written_shape, filter_map_same, written_holds}
use Rattle.pooma_machine.proofs.Ties.{request_of}

-- the object that a list asks to write is asked for in that mode, and those that it asks to read in that one
pub written_asks : (requests : List Request) (o : ℕ) → written_object requests ≡ Some o → Contains requests (request_of o Write)
written_asks [] o e = absurd (cc e)
written_asks (r ∷ rs) o e = by_mode (λ more. written_asks rs o more) r.mode refl
  where
    by_mode : (written_object rs ≡ Some o → Contains rs (request_of o Write)) → (mode : Mode) → r.mode ≡ mode → Contains (r ∷ rs) (request_of o Write)
    by_mode again Write t =
        let both : Some r.object ≡ Some o = rw t at e in
        let object : r.object ≡ o = cc in
        subst (λ (q : Request). Contains (r ∷ rs) q) (subst (λ p. r ≡ request_of p Write) object (subst (λ q. r ≡ request_of r.object q) t refl)) (contains_first r rs)
    by_mode again Read t = contains_rest r rs _ (again (rw t at e))

pub read_asks : (requests : List Request) (o : ℕ) → Contains (read_objects requests) o → Contains requests (request_of o Read)
read_asks [] o h = absurd (contains_none o h)
read_asks (r ∷ rs) o h = by_mode (λ more. read_asks rs o more) r.mode refl
  where
    by_mode : (Contains (read_objects rs) o → Contains rs (request_of o Read)) → (mode : Mode) → r.mode ≡ mode → Contains (r ∷ rs) (request_of o Read)
    by_mode again Read t =
        elim (contains_cases r.object (read_objects rs) o (rw t at h)) [
          | inl same ↦ subst (λ (q : Request). Contains (r ∷ rs) q) (subst (λ p. r ≡ request_of p Read) (sym same) (subst (λ q. r ≡ request_of r.object q) t refl)) (contains_first r rs)
          | inr more ↦ contains_rest r rs _ (again more)
        ]
    by_mode again Write t = contains_rest r rs _ (again (rw t at h))

-- an entry that is out was not released
pub out_not_released : (now : Option Status) → is_out now ≡ true → is_released now ≡ true → ⊥
out_not_released None out released = absurd (cc out)
out_not_released (Some status.Waiting) out released = absurd (cc out)
out_not_released (Some (status.Released at)) out released = absurd (cc out)
out_not_released (Some (status.Out at)) out released = absurd (cc released)

pub conflicts_write : (mode : Mode) → (conflicts Write mode ≡ true) × (conflicts mode Write ≡ true)
conflicts_write Read = (refl, refl)
conflicts_write Write = (refl, refl)

-- nothing that a ready entry asks for is away
pub ready_home : {W V O S : Type 0} (m : Meaning W V O S) (plan : List W) (opening : List V) (history : List Event) (homes : List (Option V)) (outcomes : List (Option O)) (work : W) (j o : ℕ) (mode : Mode)
    → Matches m plan opening history homes outcomes → slice_get plan j ≡ Some work → IsReady (asks_of m plan) history j → o < length homes → Contains (m.requests work) (request_of o mode)
    → IsSome (home_at homes o)
ready_home {V = X} m plan opening history homes outcomes work j o mode old at ready within asks = by_home (slice_get homes o) refl
  where
    mine : AsksFor (asks_of m plan) j o mode
    mine = rw (asks_at m plan j work at) asks

    by_home : (v : Option (Option X)) → slice_get homes o ≡ v → IsSome (home_at homes o)
    by_home None e = absurd (not_none homes o within e)
    by_home (Some (Some v)) e = rw e refl
    by_home (Some None) e =
        let gone = old.away o e in
        let theirs : AsksFor (asks_of m plan) gone.0 o Write = written_asks (requests_of (asks_of m plan) gone.0) o gone.2 in
        let in_plan = out_in_plan m plan history gone.0 old.sound gone.1 in
        elim (eqb_tells gone.0 j) [
          | inl t ↦ absurd (cc (sym (ap is_out ready.0) ∙ (sym (ap (λ k. is_out (status_of history k)) t.1) ∙ gone.1)))
          | inr n ↦
              elim (leb_tells (suc gone.0) j) [
                | inl before ↦
                    absurd (out_not_released (status_of history gone.0) gone.1 (ready.1 gone.0 before.1 (o, record { one = Write; other = mode; asks_one = theirs; asks_other = mine; conflicting = (conflicts_write mode).0 })))
                | inr after ↦
                    let ne : gone.0 ≢ j = n.1 in
                    let lt : j < gone.0 = omega (arith, after.1) in
                    elim (old.sound.passed gone.0 (omega (arith, in_plan, length-map plan m.requests))) [
                      | inl waits ↦ absurd (cc (sym (ap is_out waits) ∙ gone.1))
                      | inr nothing ↦
                          absurd (cc (sym (ap is_released ready.0) ∙ nothing j lt (o, record { one = mode; other = Write; asks_one = mine; asks_other = theirs; conflicting = (conflicts_write mode).1 })))
                    ]
              ]
        ]

-- all that it asks for is there
pub all_home : {W V O S : Type 0} (m : Meaning W V O S) (plan : List W) (opening : List V) (history : List Event) (homes : List (Option V)) (outcomes : List (Option O)) (work : W) (j : ℕ)
    → Matches m plan opening history homes outcomes → slice_get plan j ≡ Some work → IsReady (asks_of m plan) history j
    → All (λ r. IsSome (home_at homes r.object)) (m.requests work)
all_home m plan opening history homes outcomes work j old at ready k d h =
    ready_home m plan opening history homes outcomes work j (get_or (m.requests work) k d).object (get_or (m.requests work) k d).mode old at ready (asked_there m plan opening history homes outcomes work j old at k d h)
    (k, h, get_or_default (m.requests work) k (get_or (m.requests work) k d) d h)

-- a value that is there is the present one
pub home_value : {V : Type 0} (homes : List (Option V)) (objects : List V) (o : ℕ)
    → ((p : ℕ) (x : V) → slice_get homes p ≡ Some (Some x) → slice_get objects p ≡ Some x) → IsSome (home_at homes o) → home_at homes o ≡ slice_get objects o
home_value {V = X} homes objects o home there = by_home (slice_get homes o) refl
  where
    by_home : (v : Option (Option X)) → slice_get homes o ≡ v → home_at homes o ≡ slice_get objects o
    by_home None e = absurd (cc (sym (ap (λ (v : Option (Option X)). is_some (option_and_then (λ x. x) v)) e) ∙ there))
    by_home (Some None) e = absurd (cc (sym (ap (λ (v : Option (Option X)). is_some (option_and_then (λ x. x) v)) e) ∙ there))
    by_home (Some (Some x)) e = rw e (sym (home o x e))

-- an object that is asked for in any mode has what holds of all
pub asked_holds : (P : ℕ → Type 0) (requests : List Request) (o : ℕ) (mode : Mode) → All (λ r. P r.object) requests → Contains requests (request_of o mode) → P o
asked_holds P requests o mode all asks = subst (λ (q : Request). P q.object) asks.2 (all asks.0 (request_of o mode) asks.1)

-- what is lent to an entry whose objects are there is what their present contents lend
pub lent_there : {V : Type 0} (homes : List (Option V)) (objects : List V) (requests : List Request)
    → ((p : ℕ) (x : V) → slice_get homes p ≡ Some (Some x) → slice_get objects p ≡ Some x) → All (λ r. IsSome (home_at homes r.object)) requests
    → lent_from homes requests ≡ lent_by objects requests
lent_there {V = X} homes objects requests home there =
    ap (λ w. pair w (filter_map (home_at homes) (read_objects requests))) (one (written_object requests) refl)
    ∙ ap (pair (lent_by objects requests).written) (filter_map_same (home_at homes) (slice_get objects) (read_objects requests) (λ o h. home_value homes objects o home (asked_holds (λ p. IsSome (home_at homes p)) requests o Read there (read_asks requests o h))))
  where
    pair : Option X → List X → Lent X
    pair w r = record { written = w; reads = r }

    one : (w : Option ℕ) → written_object requests ≡ w → option_and_then (home_at homes) w ≡ option_and_then (slice_get objects) w
    one None e = refl
    one (Some o) e = home_value homes objects o home (written_holds (λ p. IsSome (home_at homes p)) requests o there e)

-- what is lent to a ready entry is what the history gives
pub lent_now : {W V O S : Type 0} (m : Meaning W V O S) (plan : List W) (opening : List V) (history : List Event) (homes : List (Option V)) (outcomes : List (Option O)) (work : W) (j : ℕ)
    → Matches m plan opening history homes outcomes → slice_get plan j ≡ Some work → IsReady (asks_of m plan) history j
    → lent_from homes (m.requests work) ≡ lent_by (values m plan opening history).objects (m.requests work)
lent_now m plan opening history homes outcomes work j old at ready =
    lent_there homes (values m plan opening history).objects (m.requests work) old.home (all_home m plan opening history homes outcomes work j old at ready)

-- and the work fits it
pub lent_fits : {W V O S : Type 0} (m : Meaning W V O S) (plan : List W) (opening : List V) (history : List Event) (homes : List (Option V)) (outcomes : List (Option O)) (work : W) (j : ℕ)
    → Matches m plan opening history homes outcomes → slice_get plan j ≡ Some work → IsReady (asks_of m plan) history j
    → FitsLent m work (lent_from homes (m.requests work))
lent_fits {S = S} m plan opening history homes outcomes work j old at ready =
    let objects = (values m plan opening history).objects in
    let fits = subst (λ (shapes : List S). FitsShapes m shapes work) (sym old.shapes) (old.fitting j work at) in
    subst (FitsLent m work) (sym (lent_now m plan opening history homes outcomes work j old at ready)) (rw (written_shape m.shape objects (written_object (m.requests work)), read_shapes m.shape objects (read_objects (m.requests work))) at fits)
