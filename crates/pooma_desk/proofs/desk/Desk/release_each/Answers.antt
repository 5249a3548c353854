use Rattle.std.proofs.Common.{◌≡◌, ◌≢◌, ◌++◌, ◌∷◌, [], All, AllPairs, List, length, suc, rules, refl, sym, ap, ◌∙◌, subst, arith, append_assoc, append-nil}
use Rattle.std.specs.Vec.Iter.{into_iter_items, into_iter_len}
use Rattle.pooma_machine.specs.declared.step.EventKind.TheVariants as kind
use Rattle.pooma_desk.specs.Steps.{noting_all}
use Rattle.pooma_desk.specs.Tokens.{IsLoanOf, all_called, entries_of, token_of}
use Rattle.pooma_desk.proofs.Several.{noted_none, called_step}
use Rattle.pooma_desk.proofs.Handing.{loan_else}
use Rattle.pooma_desk.proofs.desk.Desk.release_each.Goals as goal

none_left : {X : Type 0} (xs : List X) → length xs ≡ 0 → xs ≡ []
none_left [] none = refl
none_left (x ∷ xs) none = absurd (omega (arith, none))

pub loop-one-init : goal.loop-one-init
loop-one-init g c =
    let rest : c.args.done.items ≡ into_iter_items c.into_iter-one-iterator.result = search rules in
    let count : into_iter_len c.into_iter-one-iterator.result ≡ length (into_iter_items c.into_iter-one-iterator.result) = search rules in
    record {
      desk = refl;
      seat = refl;
      turn = c.requires.turn;
      after = c.requires.after;
      noted = noted_none c.args.turn.now.place.me;
      rest = rest;
      count = count;
      loans = subst (λ l. All (IsLoanOf g.W.Work.meaning (token_of c.args.self.now.desk c.args.turn.now.place.me.0)) l) rest c.requires.loans;
      once = subst (λ l. AllPairs (λ one other. one.entry ≢ other.entry) l) rest c.requires.once;
    }

pub release_in_turn-requires-clause-loan : goal.release_in_turn-requires-clause-loan
release_in_turn-requires-clause-loan g c =
    let loans = subst (λ l. All (IsLoanOf g.W.Work.meaning (token_of c.args.self.now.desk c.loop-one.turn.place.me.0)) l) c.in-Some.ensures.steps.0 c.loop-one.invariant.loans in
    loans 0 c.in-Some.one (omega arith)

pub loop-one-preserved : goal.loop-one-preserved
loop-one-preserved g c =
    let h = c.loop-one.invariant in
    let e = c.release_in_turn.ensures in
    let one = c.in-Some.one in
    let desk = c.args.self.now.desk in
    let me = c.loop-one.turn.place.me in
    let new = c.release_in_turn.new.turn.place.me in
    let step = c.in-Some.ensures.steps.0 in
    let longer = ap length step in
    let left = c.in-Some.ensures.steps.1 in
    let count = h.count in
    let loans = subst (λ l. All (IsLoanOf g.W.Work.meaning (token_of desk me.0)) l) step h.loans in
    let once = subst (λ l. AllPairs (λ one other. one.entry ≢ other.entry) l) step h.once in
    record {
      desk = e.desk ∙ sym c.requires.desk;
      seat = e.seat ∙ h.seat;
      turn = e.turn;
      after = e.after;
      noted = called_step c.args.turn.now.place.me me new kind.Release c.args.turn.now.seat c.loop-one.turn.seat one.entry c.loop-one.yielded one h.noted e.noted refl h.seat;
      rest = h.rest ∙ (ap (λ l. c.loop-one.yielded ++ l) step ∙ sym (append_assoc c.loop-one.yielded (one ∷ []) _));
      count = omega (arith, longer, left, count);
      loans = λ k d below. loan_else g.W.Work.meaning desk me new kind.Release one.entry c.loop-one.turn.seat _ e.noted (λ same. once 0 (suc k) d (omega arith) (omega (arith, below)) (sym same)) c.values_stay.ensures.next (loans (suc k) d (omega (arith, below)));
      once = λ i j d less below. once (suc i) (suc j) d (omega (arith, less)) (omega (arith, below));
    }

pub returns-clause-noted : goal.returns-clause-noted
returns-clause-noted g c =
    let h = c.loop-one.invariant in
    let none = c.in-None.ensures.steps.0 in
    let count = h.count in
    let rest = none_left (into_iter_items c.loop-one.one-iterator) (omega (arith, none, count)) in
    let whole = h.rest ∙ (ap (λ l. c.loop-one.yielded ++ l) rest ∙ append-nil c.loop-one.yielded) in
    subst (λ l. c.loop-one.turn.place.me ≡ (noting_all c.args.turn.now.place.me.0 (all_called kind.Release c.args.turn.now.seat (entries_of l)), c.args.turn.now.place.me.1)) (sym whole) h.noted
