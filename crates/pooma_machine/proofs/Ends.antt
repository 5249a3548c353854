-- A machine before its first event and after its last.
use Rattle.std.proofs.Common.{◌≡◌, ◌+◌, ◌*◌, ◌<◌, ◌≤◌, ℕ, max, zero, suc, List, [], ◌∷◌, map, length, Option, Some, None, option_map, slice_get, get_or, IsSome, All, refl, sym, ◌∙◌, ap, arith}
use Rattle.std.proofs.lemmas.List.{length-map}
use Rattle.std.proofs.lemmas.Option.{slice_get-map, slice_get-get_or}
use Rattle.pooma_queue.specs.Requests.{Waiting}
use Rattle.pooma_machine.specs.declared.step.Event.{Event}
use Rattle.pooma_machine.specs.declared.step.Status.{Status}
use Rattle.pooma_machine.specs.Values.{Meaning, values, IsComplete}
use Rattle.pooma_machine.specs.Lines.{room_at}
use Rattle.pooma_machine.specs.Kept.{HasRoom}
use Rattle.pooma_machine.specs.Machine.{Matches}
use Rattle.pooma_machine.specs.Steps.{status_of}
use Rattle.pooma_machine.proofs.Keeps.{sound_empty}
use Rattle.pooma_machine.proofs.Worth.{out_in_plan}
use Rattle.pooma_machine.proofs.Dispatching.{out_not_released}

-- an object that is there has its content
pub some_at : {X : Type 0} (xs : List X) (o : ℕ) → slice_get (map (λ x. Some x) xs) o ≡ option_map (λ x. Some x) (slice_get xs o)
some_at xs o = slice_get-map (λ x. Some x) xs o

pub some_there : {X : Type 0} (xs : List X) (o : ℕ) (x : X) → slice_get (map (λ y. Some y) xs) o ≡ Some (Some x) → slice_get xs o ≡ Some x
some_there [] o x e = absurd (cc e)
some_there (y ∷ xs) zero x e = cc
some_there (y ∷ xs) (suc o) x e = some_there xs o x e

pub some_away : {X : Type 0} (xs : List X) (o : ℕ) → slice_get (map (λ y. Some y) xs) o ≡ Some None → ⊥
some_away [] o e = absurd (cc e)
some_away (y ∷ xs) zero e = absurd (cc e)
some_away (y ∷ xs) (suc o) e = some_away xs o e

-- before the first event all objects are there
pub matches_empty : {W V O S : Type 0} (m : Meaning W V O S) (opening : List V) → Matches m [] opening [] (map (λ x. Some x) opening) []
matches_empty m opening =
    record {
      sound = sound_empty;
      count = length-map opening (λ x. Some x);
      shapes = refl;
      fitting = λ j work at. absurd (cc at);
      home = λ o x at. some_there opening o x at;
      away = λ o at. absurd (some_away opening o at);
      lent = λ i o out asks. absurd (cc out);
      ranges = λ j h. absurd (omega arith);
      outcomes_count = refl;
      kept = λ j h. absurd (omega arith);
      answered = λ j. refl;
    }

-- two lists of one length, of which the second has each element of the first at its place
pub same_by_place : {X : Type 0} (xs ys : List X) → length xs ≡ length ys → ((o : ℕ) (x : X) → slice_get xs o ≡ Some x → slice_get ys o ≡ Some x) → xs ≡ ys
same_by_place [] [] len at = refl
same_by_place [] (y ∷ ys) len at = absurd (omega arith)
same_by_place (x ∷ xs) [] len at = absurd (omega arith)
same_by_place (x ∷ xs) (y ∷ ys) len at =
    let first : Some y ≡ Some x = at 0 x refl in
    let same : y ≡ x = cc in
    ap (λ z. z ∷ xs) (sym same) ∙ ap (λ zs. y ∷ zs) (same_by_place xs ys (omega arith) (λ o z h. at (suc o) z h))

-- once each entry was released all objects are there
pub all_back : {W V O S : Type 0} (m : Meaning W V O S) (plan : List W) (opening : List V) (history : List Event) (homes : List (Option V)) (outcomes : List (Option O))
    → Matches m plan opening history homes outcomes → IsComplete plan history → All (λ home. IsSome home) homes
all_back {V = X} m plan opening history homes outcomes old complete k d h = by_home (get_or homes k d) refl
  where
    by_home : (home : Option X) → get_or homes k d ≡ home → IsSome (get_or homes k d)
    by_home (Some x) e = rw e refl
    by_home None e =
        let gone = old.away k (slice_get-get_or homes k d h ∙ ap (λ home. Some home) e) in
        absurd (out_not_released (status_of history gone.0) gone.1 (complete gone.0 (out_in_plan m plan history gone.0 old.sound gone.1)))

-- contents that are all there are those of the history
pub values_back : {W V O S : Type 0} (m : Meaning W V O S) (plan : List W) (opening : List V) (history : List Event) (homes : List (Option V)) (outcomes : List (Option O)) (contents : List V)
    → Matches m plan opening history homes outcomes → homes ≡ map (λ x. Some x) contents → contents ≡ (values m plan opening history).objects
values_back {V = X} m plan opening history homes outcomes contents old all =
    same_by_place contents objects long (λ o x h. old.home o x (ap (λ xs. slice_get xs o) all ∙ (some_at contents o ∙ ap (option_map (λ y. Some y)) h)))
  where
    objects : List X
    objects = (values m plan opening history).objects

    long : length contents ≡ length objects
    long =
        let shapes = ap length old.shapes in
        let count = old.count in
        let same = ap length all in
        omega (arith, length-map contents (λ x. Some x), length-map objects m.shape, length-map opening m.shape)

-- room for so many further entries is so much spare room
pub room_spare : (entries events spare n m a b c : ℕ) (statuses : List Status) (queues : List Waiting) → HasRoom entries events statuses queues spare a b c
    → entries + n ≤ a → entries + n ≤ b → 3 * (entries + n) ≤ c → ((o : ℕ) → o < length queues → n ≤ room_at queues o) → m ≡ max spare n
    → HasRoom entries events statuses queues m a b c
room_spare entries events spare n m a b c statuses queues room ha hb hc each is =
    let works = room.for_works in
    let states = room.for_statuses in
    let history = room.for_events in
    record {
      owes = room.owes;
      for_works = omega arith;
      for_statuses = omega arith;
      for_events = omega arith;
      for_requests = λ o h. let had = room.for_requests o h in let has = each o h in omega arith;
    }
