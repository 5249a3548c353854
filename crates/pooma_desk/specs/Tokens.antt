-- What contracts see of a desk and of a pass, and what a call does to a pass.
use Rattle.std.specs.Prelude.{◌≡◌, ◌+◌, ◌-◌, ◌++◌, ℕ, List, ◌∷◌, [], drop, length, map, slice_get, Some, None, Contains}
use Rattle.std.specs.List.{range_with_len}
use Rattle.atomic_table.specs.Seated.{TableId}
use Rattle.pooma_machine.specs.declared.step.Event.{Event}
use Rattle.pooma_machine.specs.declared.step.EventKind.{EventKind}
use Rattle.pooma_machine.specs.declared.step.EventKind.TheVariants as kind
use Rattle.pooma_machine.specs.Values.{Account, Loaned, Values, Meaning}
use Rattle.pooma_machine.specs.Values.{values as values_of}
use Rattle.pooma_law.specs.Histories.{IsHistoryOf}
use Rattle.pooma_desk.specs.declared.sight.Noted.{Noted}
use Rattle.pooma_desk.specs.Sight.{Sight}
use Rattle.pooma_desk.specs.Seen.{plan_after, history_after, calls_under}
use Rattle.pooma_desk.specs.Rule.{first_of}

-- what contracts see of a desk: which one it is, its machine as it was when the desk was started, and how many seats it has
pub record Started (W V : Type 0) : Type 0 where
  pub desk : TableId
  pub machine : Account W V
  pub seats : ℕ

-- what contracts see of a pass
pub record Token (W V : Type 0) : Type 0 where
  -- the desk that it came from
  pub from : Started W V
  -- its own seat, and those that were joined into it
  pub seat : ℕ
  pub joined : List ℕ
  -- its shares of the desk, and the numbers of seats that it has left to give
  pub shares : ℕ
  pub left : List ℕ
  -- what it has seen: a front of what happened since the start
  pub seen : List (Noted W)

module _ {W V : Type 0} where
  -- all its seats
  abbrev pub seats_of : Token W V → List ℕ
  seats_of pass = pass.seat ∷ pass.joined

  -- the calls of its own among what it has seen
  abbrev pub own_calls : Token W V → List (Noted W)
  own_calls pass = calls_under (seats_of pass) pass.seen

  -- the works of the entries that it has seen requested, with those of the start
  abbrev pub plan_of : Token W V → List W
  plan_of pass = plan_after pass.from.machine pass.seen

  -- what happened, as far as it has seen, with what had happened by the start
  abbrev pub history_of : Token W V → List Event
  history_of pass = history_after pass.from.machine pass.seen

  -- what that gives
  abbrev pub values_after : {O S : Type 0} → Meaning W V O S → Token W V → Values V O
  values_after meaning pass = values_of meaning (plan_of pass) pass.from.machine.opening (history_of pass)

  -- what it has seen, with what was before, is a legal history
  abbrev pub IsLegalFor : {O S : Type 0} → Meaning W V O S → Token W V → Type 0
  IsLegalFor meaning pass = IsHistoryOf meaning (plan_of pass) (history_of pass)

-- a pass of the same desk, with the same seats, shares and numbers left
pub record IsSamePass {W V : Type 0} (old new : Token W V) : Type 0 where
  pub from : new.from ≡ old.from
  pub seat : new.seat ≡ old.seat
  pub joined : new.joined ≡ old.joined
  pub shares : new.shares ≡ old.shares
  pub left : new.left ≡ old.left

-- the pass has seen what it had seen, and maybe more; it has made no call
pub record Looks {W V : Type 0} (old new : Token W V) : Type 0 where
  pub same : IsSamePass old new
  pub more : List (Noted W)
  pub seen : new.seen ≡ old.seen ++ more
  pub own : own_calls new ≡ own_calls old

-- the pass has seen what it had seen, maybe more, and last these events, one right behind the other, which are the calls that it
-- has made
pub record AddsAll {W V : Type 0} (old new : Token W V) (events : List (Noted W)) : Type 0 where
  pub same : IsSamePass old new
  pub between : List (Noted W)
  pub seen : new.seen ≡ (old.seen ++ between) ++ events
  pub own : own_calls new ≡ own_calls old ++ events

-- one event, and two
abbrev pub Adds : {W V : Type 0} → Token W V → Token W V → Noted W → Type 0
Adds old new event = AddsAll old new (event ∷ [])

abbrev pub AddsTwo : {W V : Type 0} → Token W V → Token W V → Noted W → Noted W → Type 0
AddsTwo old new one other = AddsAll old new (one ∷ other ∷ [])

-- an event that is no request, and the request of a work
abbrev pub called : {W : Type 0} → EventKind → ℕ → ℕ → Noted W
called kind entry seat = record { event = record { kind = kind; entry = entry; seat = seat }; work = None }

abbrev pub requested : {W : Type 0} → ℕ → ℕ → W → Noted W
requested entry seat work = record { event = record { kind = kind.Request; entry = entry; seat = seat }; work = Some work }

-- such events of one kind at a seat, of these entries in order; the requests of these works in order, as entries from this one on
abbrev pub all_called : {W : Type 0} → EventKind → ℕ → List ℕ → List (Noted W)
all_called kind seat entries = map (λ entry. called kind entry seat) entries

abbrev pub all_requested : {W : Type 0} → ℕ → ℕ → List W → List (Noted W)
all_requested entry seat [] = []
all_requested entry seat (work ∷ works) = requested entry seat work ∷ all_requested (entry + 1) seat works

-- the entries of loans, or of what comes back for them
abbrev pub entries_of : {W V : Type 0} → List (Loaned W V) → List ℕ
entries_of loans = map (λ loan. loan.entry) loans

-- what a pass is to contracts, from what is known at its place
abbrev pub token_of : {W V : Type 0} → TableId → Sight W V → Token W V
token_of desk v =
    record {
      from = record { desk = desk; machine = v.start.machine; seats = v.start.seats };
      seat = first_of v.seats;
      joined = drop 1 v.seats;
      shares = v.shares;
      left = range_with_len v.next (v.start.seats - v.next);
      seen = v.seen;
    }

module _ {W V : Type 0} where
  -- the two that a pass is split into: one keeps its seat and calls, and gives a share and the least number that it had left;
  -- the other has these alone, and has seen as much
  abbrev pub keeping : Token W V → Token W V
  keeping pass = record { from = pass.from; seat = pass.seat; joined = pass.joined; shares = pass.shares - 1; left = drop 1 pass.left; seen = pass.seen }

  abbrev pub newly : Token W V → Token W V
  newly pass = record { from = pass.from; seat = first_of pass.left; joined = []; shares = 1; left = []; seen = pass.seen }

-- the list goes on from what the pass has seen, and has no further call of its own
pub record GoesOn {W V : Type 0} (pass : Token W V) (seen : List (Noted W)) : Type 0 where
  pub more : List (Noted W)
  pub on : seen ≡ pass.seen ++ more
  pub own : calls_under (seats_of pass) seen ≡ own_calls pass

-- an entry that the pass has out: it was dispatched by a call of the pass's own, and released by none
pub record HasOut {W V : Type 0} (pass : Token W V) (number : ℕ) : Type 0 where
  pub dispatch : Noted W
  pub there : Contains (own_calls pass) dispatch
  pub lent : dispatch.event.kind ≡ kind.Dispatch
  pub entry : dispatch.event.entry ≡ number
  pub kept : (n : Noted W) → Contains (own_calls pass) n → n.event.kind ≡ kind.Release → n.event.entry ≡ number → ⊥

-- a loan of this pass's, or what comes back for it: the pass has the entry out, with its work and with what was lent to it
pub record IsLoanOf {W V O S : Type 0} (meaning : Meaning W V O S) (pass : Token W V) (loan : Loaned W V) : Type 0 where
  pub out : HasOut pass loan.entry
  pub work : slice_get (plan_of pass) loan.entry ≡ Some loan.work
  pub lent : loan.lent ≡ (values_after meaning pass).lent loan.entry

-- a list of works as a pass requests it: those before the rest were requested, in order, one event each, as the entries from
-- the first on, with which the plan ends
pub record RequestsAll {W V : Type 0} (old new : Token W V) (works rest : List W) (first : ℕ) : Type 0 where
  pub asked : List W
  pub cut : works ≡ asked ++ rest
  pub adds : AddsAll old new (all_requested first old.seat asked)
  pub entries : first + length asked ≡ length (plan_of new)
