-- What the calls of a pass rest on: which event may be noted, and what the machine is asked for a release.
use Rattle.std.proofs.Common.{◌≡◌, ℕ, zero, suc, true, false, List, [], ◌∷◌, ◌++◌, drop, Contains, sym, ap, ◌∙◌, subst, ◌⊎◌, inl, inr, arith, append_assoc}
use Rattle.std.proofs.lemmas.List.{map-append}
use Rattle.std.specs.Prelude.{Some, IsTrue, slice_get}
use Rattle.std.proofs.lemmas.List.Elements.{Contains-append_left, Contains-append_right, Contains-append_cases}
use Rattle.atomic_table.specs.Seated.{TableId}
use Rattle.pooma_logic.proofs.Elements.{contains_image, contains_map, contains_none}
use Rattle.pooma_logic.proofs.Tested.{contains_kept, kept_passes}
use Rattle.pooma_machine.specs.declared.step.Event.{Event}
use Rattle.pooma_machine.specs.declared.step.EventKind.{EventKind}
use Rattle.pooma_machine.specs.declared.step.EventKind.TheVariants as kind
use Rattle.pooma_machine.specs.Steps.{IsWaiting, status_of, is_released, event_of}
use Rattle.pooma_desk.specs.declared.sight.Noted.{Noted}
use Rattle.pooma_desk.specs.Sight.{Sight}
use Rattle.pooma_desk.specs.Seen.{events_of, history_after, is_one_of, calls_under}
use Rattle.pooma_desk.specs.Rule.{IsPair, MayNote, first_of}
use Rattle.pooma_desk.specs.Tokens.{Token, Looks, HasOut, own_calls, token_of, called, requested}
use Rattle.pooma_desk.specs.Turns.{IsPlaced}
use Rattle.pooma_desk.proofs.Fronts.{one_of_first}
use Rattle.pooma_desk.proofs.Fitting.{own_seat}
use Rattle.pooma_desk.proofs.Turning.{whole_row}

-- what is read at the front of a longer list
pub get_front : {X : Type 0} (xs ys : List X) (k : ℕ) (x : X) → slice_get xs k ≡ Some x → slice_get (xs ++ ys) k ≡ Some x
get_front [] ys k x e = absurd (cc)
get_front (z ∷ xs) ys zero x e = e
get_front (z ∷ xs) ys (suc k) x e = get_front xs ys k x e

-- a list with an element, cut there
pub record IsCut {X : Type 0} (xs : List X) (x : X) : Type 0 where
  pub before : List X
  pub behind : List X
  pub is : xs ≡ before ++ x ∷ behind

pub cut_at : {X : Type 0} (xs : List X) (x : X) → Contains xs x → IsCut xs x
cut_at [] x there = absurd (contains_none x there)
cut_at (y ∷ xs) x (zero, h, e) = record { before = []; behind = xs; is = ap (λ z. z ∷ xs) e }
cut_at (y ∷ xs) x (suc k, h, e) = let r = cut_at xs x (k, omega arith, e) in record { before = y ∷ r.before; behind = r.behind; is = ap (λ zs. y ∷ zs) r.is }

module _ {W : Type 0} where
  pub event_there : (seen : List (Noted W)) (n : Noted W) → Contains seen n → Contains (events_of seen) n.event
  event_there seen n there = contains_map (λ (m : Noted W). m.event) seen n there

  -- an event of the list stands in it with its work, if it has one
  pub noted_there : (seen : List (Noted W)) (event : Event) → Contains (events_of seen) event → (n : Noted W) × Contains seen n × (n.event ≡ event)
  noted_there seen event there = let r = contains_image (λ (n : Noted W). n.event) seen event there in (r.0, r.1, sym r.2)

  -- the calls of some seats are those that stand under one of them
  pub under_there : (seats : List ℕ) (seen : List (Noted W)) (n : Noted W) → Contains seen n → is_one_of seats n.event.seat ≡ true → Contains (calls_under seats seen) n
  under_there seats seen n there is = contains_kept (λ (m : Noted W). is_one_of seats m.event.seat) seen n there is

  pub there_under : (seats : List ℕ) (seen : List (Noted W)) (n : Noted W) → Contains (calls_under seats seen) n → Contains seen n × (is_one_of seats n.event.seat ≡ true)
  there_under seats seen n there = kept_passes (λ (m : Noted W). is_one_of seats m.event.seat) seen n there

  -- an event of a list of what happened, as an event of an entry at a seat
  pub as_event : (n : Noted W) (act : EventKind) (entry : ℕ) → n.event.kind ≡ act → n.event.entry ≡ entry → n.event ≡ event_of act entry n.event.seat
  as_event n act entry a b = λ i. record { kind = a i; entry = b i; seat = n.event.seat }

module _ {W V : Type 0} where
  -- the seat that a pass steps with is one of its own
  pub own_first : (v : Sight W V) (seat next : ℕ) → IsPlaced v seat next → is_one_of v.seats seat ≡ true
  own_first v seat next p = subst (λ xs. is_one_of xs seat ≡ true) (sym p.own) (one_of_first seat (drop 1 v.seats))

  pub may_request : (v : Sight W V) (seat next entry : ℕ) (work : W) → IsPlaced v seat next → MayNote v (requested entry seat work)
  may_request v seat next entry work p = record {
    mine = own_first v seat next p;
    back = λ d at pair. absurd (not_released pair.back);
    lent = λ r at pair. not_lent pair.lent;
  }
    where
      not_released : kind.Request ≡ kind.Release → ⊥
      not_released e = cc

      not_lent : kind.Request ≡ kind.Dispatch → ⊥
      not_lent e = cc

  -- an entry that waits was not released
  pub may_dispatch : (v : Sight W V) (seat next entry : ℕ) → IsPlaced v seat next
      → IsWaiting (history_after v.start.machine v.seen) entry
      → ((at : ℕ) → Contains (history_after v.start.machine v.seen) (event_of kind.Release entry at) → IsTrue (is_released (status_of (history_after v.start.machine v.seen) entry)))
      → MayNote v (called kind.Dispatch entry seat)
  may_dispatch v seat next entry p waits told = record {
    mine = own_first v seat next p;
    back = λ d at pair. absurd (kinds pair.back);
    lent = λ r at pair. released r at pair;
  }
    where
      kinds : kind.Dispatch ≡ kind.Release → ⊥
      kinds e = cc

      off : false ≡ true → ⊥
      off e = cc

      released : (r : Noted W) → Contains v.seen r → IsPair (called kind.Dispatch entry seat) r → ⊥
      released r at pair =
          let is : r.event ≡ event_of kind.Release entry r.event.seat = λ i. record { kind = pair.back i; entry = sym pair.entry i; seat = r.event.seat } in
          let there = Contains-append_right v.start.machine.history (events_of v.seen) r.event (event_there v.seen r at) in
          let t = told r.event.seat (subst (Contains (history_after v.start.machine v.seen)) is there) in
          off (sym (ap is_released waits) ∙ t)

  -- what the pass dispatched, among what its place has seen in the turn
  pub record IsOut (pass : Token W V) (v : Sight W V) (number : ℕ) : Type 0 where
    pub dispatch : Noted W
    pub there : Contains v.seen dispatch
    pub mine : is_one_of v.seats dispatch.event.seat ≡ true
    pub is : dispatch.event ≡ event_of kind.Dispatch number dispatch.event.seat
    pub kept : (n : Noted W) → Contains v.seen n → n.event.kind ≡ kind.Release → n.event.entry ≡ number → ⊥

  pub out_in_turn : (desk : TableId) (pass : Token W V) (v : Sight W V) (seat next number : ℕ) → IsPlaced v seat next → Looks pass (token_of desk v) → HasOut pass number → IsOut pass v number
  out_in_turn desk pass v seat next number p looks out =
      let row : first_of v.seats ∷ drop 1 v.seats ≡ v.seats = whole_row v.seats seat p.own in
      let same : calls_under v.seats v.seen ≡ own_calls pass = sym (ap (λ xs. calls_under xs v.seen) row) ∙ looks.own in
      let d = there_under v.seats v.seen out.dispatch (subst (λ l. Contains l out.dispatch) (sym same) out.there) in
      record {
        dispatch = out.dispatch;
        there = d.0;
        mine = d.1;
        is = as_event out.dispatch kind.Dispatch number out.lent out.entry;
        kept = λ n at back entry.
            let pair : IsPair out.dispatch n = record { lent = out.lent; back = back; entry = out.entry ∙ sym entry } in
            let mine = own_seat v n.event.seat p.alone (p.fits.pairs out.dispatch n d.0 at pair (inl d.1)) in
            out.kept n (subst (λ l. Contains l n) same (under_there v.seats v.seen n at mine)) back entry;
      }

  pub may_release : (pass : Token W V) (v : Sight W V) (seat next number : ℕ) → IsPlaced v seat next → IsOut pass v number
      → ((at other : ℕ) → Contains (history_after v.start.machine v.seen) (event_of kind.Dispatch number at) → Contains (history_after v.start.machine v.seen) (event_of kind.Dispatch number other) → at ≡ other)
      → MayNote v (called kind.Release number seat)
  may_release pass v seat next number p out once = record {
    mine = own_first v seat next p;
    back = λ d at pair.
        let is : d.event ≡ event_of kind.Dispatch number d.event.seat = as_event d kind.Dispatch number pair.lent pair.entry in
        let whole : (n : Noted W) → Contains v.seen n → Contains (history_after v.start.machine v.seen) n.event = λ n there. Contains-append_right v.start.machine.history (events_of v.seen) n.event (event_there v.seen n there) in
        let same : out.dispatch.event.seat ≡ d.event.seat = once out.dispatch.event.seat d.event.seat
        (subst (Contains (history_after v.start.machine v.seen)) out.is (whole out.dispatch out.there))
        (subst (Contains (history_after v.start.machine v.seen)) is (whole d at)) in
        subst (λ s. is_one_of v.seats s ≡ true) same out.mine;
    lent = λ r at pair. absurd (kinds pair.lent);
  }
    where
      kinds : kind.Release ≡ kind.Dispatch → ⊥
      kinds e = cc

  -- no release of it stands in the whole history: not among what was seen, and not before the start, since it was waiting later
  pub not_released : (pass : Token W V) (v : Sight W V) (number at : ℕ) → IsOut pass v number
      → ((front : List Event) (event : Event) (later : List Event) → history_after v.start.machine v.seen ≡ front ++ event ∷ later → event.kind ≡ kind.Dispatch → IsWaiting front event.entry)
      → ((front later : List Event) → history_after v.start.machine v.seen ≡ front ++ later → Contains front (event_of kind.Release number at) → IsTrue (is_released (status_of front number)))
      → Contains (history_after v.start.machine v.seen) (event_of kind.Release number at) → ⊥
  not_released pass v number at out waits told there = by (Contains-append_cases v.start.machine.history (events_of v.seen) (event_of kind.Release number at) there)
    where
      off : false ≡ true → ⊥
      off e = cc

      by : Contains v.start.machine.history (event_of kind.Release number at) ⊎ Contains (events_of v.seen) (event_of kind.Release number at) → ⊥
      by (inr since) =
          let n = noted_there v.seen (event_of kind.Release number at) since in
          out.kept n.0 n.1 (ap (λ (e : Event). e.kind) n.2) (ap (λ (e : Event). e.entry) n.2)
      by (inl before) =
          let cut = cut_at v.seen out.dispatch out.there in
          let front : List Event = v.start.machine.history ++ events_of cut.before in
          let event : Event = out.dispatch.event in
          let is : history_after v.start.machine v.seen ≡ front ++ event ∷ events_of cut.behind =
          ap (λ l. v.start.machine.history ++ events_of l) cut.is
          ∙ (ap (λ l. v.start.machine.history ++ l) (map-append (λ (m : Noted W). m.event) cut.before (out.dispatch ∷ cut.behind))
          ∙ sym (append_assoc v.start.machine.history (events_of cut.before) (event ∷ events_of cut.behind))) in
          let waiting : IsWaiting front event.entry = waits front event (events_of cut.behind) is (ap (λ (e : Event). e.kind) out.is) in
          let entry : event.entry ≡ number = ap (λ (e : Event). e.entry) out.is in
          let released = told front (event ∷ events_of cut.behind) is (Contains-append_left v.start.machine.history (events_of cut.before) (event_of kind.Release number at) before) in
          off (sym (ap is_released (subst (λ k. IsWaiting front k) entry waiting)) ∙ released)
