use Rattle.std.proofs.Common.{◌≡◌, ◌<◌, ◌+◌, ◌++◌, ◌∷◌, [], length, sym, ap, ◌∙◌, subst, arith, length-append, All, AllPairs}
use Rattle.std.proofs.lemmas.List.{map-append}
use Rattle.std.proofs.lemmas.List.Elements.{All-push}
use Rattle.std.proofs.lemmas.List.Quantifiers.{all_pairs_push}
use Rattle.pooma_machine.specs.declared.step.EventKind.TheVariants as kind
use Rattle.pooma_machine.specs.Values.{asks_of}
use Rattle.pooma_desk.specs.Steps.{noting_all}
use Rattle.pooma_desk.specs.Tokens.{IsLoanOf, plan_of, history_of, all_called, entries_of, token_of}
use Rattle.pooma_desk.proofs.Several.{called_step}
use Rattle.pooma_desk.proofs.Handing.{IsHanding, handing_next, loan_else, least_told, least_at, none_at}
use Rattle.pooma_desk.proofs.desk.Desk.dispatch_ready.Goals as goal

pub returns-in_default-clause-short : goal.returns-in_default-clause-short
returns-in_default-clause-short g c = λ _.
    let h = c.entries.invariant in
    let e = c.in_default.ensures in
    let old = c.args.turn.now.place.me in
    let same = ap length e.err.1 in
    let len = c.len.ensures in
    let under = c.entries-test.true in (
      omega (arith, same, len, under),
      e.short.0,
      least_at g.W.Work.meaning c.args.self.now.desk old c.entries.turn.place.me c.dispatch_next.new.turn.place.me c.args.turn.now.seat c.args.from c.entries.next e.short.0 (entries_of c.entries.loans.items) h.noted e.err.0 h.handing e.short.1,
    )

pub returns-in_default-found-clause-none : goal.returns-in_default-found-clause-none
returns-in_default-found-clause-none g c = λ _ _.
    let h = c.entries.invariant in
    let old = c.args.turn.now.place.me in
    let none = rw c.in_default-found.is at c.in-Ok.ensures.none in
    let ready = rw c.in_default-found.is at c.in-Ok.ensures.ready in
    none_at g.W.Work.meaning c.args.self.now.desk old c.entries.turn.place.me c.dispatch_next.new.turn.place.me c.args.turn.now.seat c.args.from c.entries.next (entries_of c.entries.loans.items) h.noted none.0 h.handing ready

pub entries-preserved : goal.entries-preserved
entries-preserved g c =
    let h = c.entries.invariant in
    let e = c.in-Ok.ensures in
    let j = c.in-Some.j in
    let desk = c.args.self.now.desk in
    let old = c.args.turn.now.place.me in
    let me = c.entries.turn.place.me in
    let new = c.dispatch_next.new.turn.place.me in
    let seat = c.args.turn.now.seat in
    let items = c.entries.loans.items in
    let noted = rw c.in-Some.is at e.noted in
    let found = rw c.in-Some.is at e.loan in
    let ready = rw c.in-Some.is at e.ready in
    let loan = found.0 in
    let more = found.1 in
    let entry = found.2 in
    let low = ready.not_below in
    let entries = ap entries_of more ∙ (map-append (λ l. l.entry) items (loan ∷ []) ∙ ap (λ k. entries_of items ++ k ∷ []) entry) in
    let plan = asks_of g.W.Work.meaning (plan_of (token_of desk old.0)) in
    let history = history_of (token_of desk old.0) in
    let longer = ap length more in
    let len = c.len.ensures in
    let room = c.entries-test.true in
    record {
      desk = e.desk ∙ sym c.requires.desk;
      seat = e.seat ∙ h.seat;
      turn = e.turn;
      after = e.after;
      noted = subst (λ l. new ≡ (noting_all old.0 (all_called kind.Dispatch seat (entries_of l)), old.1)) (sym more) (called_step old me new kind.Dispatch seat c.entries.turn.seat j items loan h.noted noted entry h.seat);
      handing = subst (λ js. IsHanding plan seat c.args.from (j + 1) history js) (sym entries) (handing_next plan seat c.args.from c.entries.next history (entries_of items) j h.handing (least_told g.W.Work.meaning desk old me seat c.entries.next j (entries_of items) h.noted ready));
      loans = subst (λ l. All (IsLoanOf g.W.Work.meaning (token_of desk new.0)) l) (sym more) (All-push (IsLoanOf g.W.Work.meaning (token_of desk new.0)) items loan
          (λ k d below. let under = h.under k d below in loan_else g.W.Work.meaning desk me new kind.Dispatch j c.entries.turn.seat _ noted (λ same. omega (arith, same, under, low)) c.values_stay.ensures.next (h.loans k d below)) found.3);
      order = subst (λ l. AllPairs (λ one other. one.entry < other.entry) l) (sym more) (all_pairs_push (λ one other. one.entry < other.entry) items loan h.order (λ k d below. let under = h.under k d below in omega (arith, under, low, entry)));
      under = subst (λ l. All (λ l. l.entry < j + 1) l) (sym more) (All-push (λ l. l.entry < j + 1) items loan (λ k d below. let under = h.under k d below in omega (arith, under, low)) (omega (arith, entry)));
      most = omega (arith, longer, length-append items (loan ∷ []), len, room);
    }
