-- What a loop makes of its pass, step by step, and which entries are known to be there.
use Rattle.std.proofs.Common.{◌≡◌, ◌<◌, ◌≤◌, ℕ, List, [], ◌∷◌, ◌++◌, sym, ap, ◌∙◌, refl, append_assoc, append-nil, arith, slice_get}
use Rattle.std.specs.Prelude.{Some, IsSome}
use Rattle.std.proofs.lemmas.Grind.{flat_map-append}
use Rattle.pooma_machine.specs.declared.step.Request.{Request}
use Rattle.pooma_machine.specs.declared.step.Event.{Event}
use Rattle.pooma_machine.specs.declared.step.EventKind.TheVariants as kind
use Rattle.pooma_machine.specs.Steps.{IsReady, status_of}
use Rattle.pooma_desk.specs.declared.sight.Noted.{Noted}
use Rattle.pooma_desk.specs.Tokens.{Token, IsSamePass, Looks, Adds, AddsTwo, own_calls, called}
use Rattle.pooma_worker.specs.Working.{Works, WorksFrom, turns_of, calls_of}

module _ {W V : Type 0} where
  pub same_then : (a b c : Token W V) → IsSamePass a b → IsSamePass b c → IsSamePass a c
  same_then a b c p q =
      record {
        from = q.from ∙ p.from;
        seat = q.seat ∙ p.seat;
        joined = q.joined ∙ p.joined;
        shares = q.shares ∙ p.shares;
        left = q.left ∙ p.left;
      }

  -- at first nothing was done
  pub works_none : (a : Token W V) → Works a a
  works_none a =
      record {
        same = record { from = refl; seat = refl; joined = refl; shares = refl; left = refl };
        more = [];
        seen = sym (append-nil a.seen);
        entries = [];
        own = sym (append-nil (own_calls a));
      }

  -- a look does no entry
  works_look : (a b : Token W V) → Looks a b → Works a b
  works_look a b look = record { same = look.same; more = look.more; seen = look.seen; entries = []; own = look.own ∙ sym (append-nil (own_calls a)) }

  -- one after the other
  pub works_then : (a b c : Token W V) → Works a b → Works b c → Works a c
  works_then a b c p q =
      record {
        same = same_then a b c p.same q.same;
        more = p.more ++ q.more;
        seen = q.seen ∙ (ap (λ l. l ++ q.more) p.seen ∙ append_assoc a.seen p.more q.more);
        entries = p.entries ++ q.entries;
        own = q.own ∙ (ap (λ l. l ++ calls_of b.seat q.entries) p.own ∙ (append_assoc (own_calls a) (calls_of a.seat p.entries) (calls_of b.seat q.entries) ∙ ap (λ l. own_calls a ++ l) (ap (λ s. calls_of a.seat p.entries ++ calls_of s q.entries) p.same.seat ∙ sym (flat_map-append (turns_of a.seat) p.entries q.entries))));
      }

  -- a look adds no call
  pub works_looked : (a b c : Token W V) → Works a b → Looks b c → Works a c
  works_looked a b c works look = works_then a b c works (works_look b c look)

-- the calls of doing some entries and then one more
calls_more : {W : Type 0} (calls : List (Noted W)) (seat : ℕ) (entries : List ℕ) (j : ℕ) → calls ++ calls_of seat (entries ++ j ∷ []) ≡ (calls ++ calls_of seat entries) ++ turns_of seat j
calls_more calls seat entries j = ap (λ l. calls ++ l) (flat_map-append (turns_of seat) entries (j ∷ [])) ∙ sym (append_assoc calls (calls_of seat entries) (turns_of seat j))

-- the first of a longer list
first_stays : (xs ys : List ℕ) (x : ℕ) → slice_get xs 0 ≡ Some x → slice_get (xs ++ ys) 0 ≡ Some x
first_stays [] ys x e = absurd (cc)
first_stays (z ∷ xs) ys x e = e

-- the same pass, which has seen what it had seen and maybe more; the calls that it has made since are those of doing entries,
-- one after another, and last the dispatch of this one; the first of all these entries is the one that it was to begin with
pub record IsUnderway {W V : Type 0} (old new : Token W V) (entry j : ℕ) : Type 0 where
  pub same : IsSamePass old new
  pub more : List (Noted W)
  pub seen : new.seen ≡ old.seen ++ more
  pub entries : List ℕ
  pub own : own_calls new ≡ (own_calls old ++ calls_of old.seat entries) ++ called kind.Dispatch j old.seat ∷ []
  pub first : slice_get (entries ++ j ∷ []) 0 ≡ Some entry

module _ {W V : Type 0} where
  -- the first entry was dispatched
  pub underway_first : (a b : Token W V) (j : ℕ) → Adds a b (called kind.Dispatch j a.seat) → IsUnderway a b j j
  underway_first a b j p =
      let first = called kind.Dispatch j a.seat ∷ [] in
      record {
        same = p.same;
        more = p.between ++ first;
        seen = p.seen ∙ append_assoc a.seen p.between first;
        entries = [];
        own = p.own ∙ ap (λ l. l ++ first) (sym (append-nil (own_calls a)));
        first = refl;
      }

  -- it was released, and the next one dispatched
  pub underway_next : (a b c : Token W V) (entry j k : ℕ) → IsUnderway a b entry j → AddsTwo b c (called kind.Release j b.seat) (called kind.Dispatch k b.seat) → IsUnderway a c entry k
  underway_next a b c entry j k p q =
      let done = own_calls a ++ calls_of a.seat p.entries in
      let both = λ (s : ℕ). called kind.Release j s ∷ called kind.Dispatch k s ∷ [] in
      record {
        same = same_then a b c p.same q.same;
        more = p.more ++ (q.between ++ both b.seat);
        seen = q.seen ∙ (append_assoc b.seen q.between (both b.seat) ∙ (ap (λ l. l ++ (q.between ++ both b.seat)) p.seen ∙ append_assoc a.seen p.more (q.between ++ both b.seat)));
        entries = p.entries ++ j ∷ [];
        own = q.own
            ∙ (ap (λ l. l ++ both b.seat) p.own
            ∙ (ap (λ s. (done ++ called kind.Dispatch j a.seat ∷ []) ++ both s) p.same.seat
            ∙ (append_assoc done (called kind.Dispatch j a.seat ∷ []) (both a.seat)
            ∙ (sym (append_assoc done (turns_of a.seat j) (called kind.Dispatch k a.seat ∷ []))
            ∙ ap (λ l. l ++ called kind.Dispatch k a.seat ∷ []) (sym (calls_more (own_calls a) a.seat p.entries j))))));
        first = first_stays (p.entries ++ j ∷ []) (k ∷ []) entry p.first;
      }

  -- it was released, and no other dispatched
  pub underway_last : (a b c : Token W V) (entry j : ℕ) → IsUnderway a b entry j → Adds b c (called kind.Release j b.seat) → WorksFrom a c entry
  underway_last a b c entry j p q =
      let done = own_calls a ++ calls_of a.seat p.entries in
      let last = λ (s : ℕ). called kind.Release j s ∷ [] in
      let works : Works a c = record {
        same = same_then a b c p.same q.same;
        more = p.more ++ (q.between ++ last b.seat);
        seen = q.seen ∙ (append_assoc b.seen q.between (last b.seat) ∙ (ap (λ l. l ++ (q.between ++ last b.seat)) p.seen ∙ append_assoc a.seen p.more (q.between ++ last b.seat)));
        entries = p.entries ++ j ∷ [];
        own = q.own
            ∙ (ap (λ l. l ++ last b.seat) p.own
            ∙ (ap (λ s. (done ++ called kind.Dispatch j a.seat ∷ []) ++ last s) p.same.seat
            ∙ (append_assoc done (called kind.Dispatch j a.seat ∷ []) (last a.seat)
            ∙ sym (calls_more (own_calls a) a.seat p.entries j))));
      } in
      record { works = works; first = rw p.first refl }

  -- no entry was begun
  pub works_from_none : (a b : Token W V) (entry : ℕ) → Looks a b → WorksFrom a b entry
  unfolding works_look
  works_from_none a b entry look = record { works = works_look a b look; first = tt }

-- an entry that may be dispatched has a status
pub ready_is_known : (plan : List (List Request)) (history : List Event) (j : ℕ) → IsReady plan history j → IsSome (status_of history j)
ready_is_known plan history j ready = rw ready.0 refl

-- such an entry is one of those that were issued
pub ready_is_there : (plan : List (List Request)) (history : List Event) (j issued entries : ℕ) → IsReady plan history j → (IsSome (status_of history j) → j < issued) → issued ≤ entries → j < entries
ready_is_there plan history j issued entries ready known within = let before = known (ready_is_known plan history j ready) in omega arith
