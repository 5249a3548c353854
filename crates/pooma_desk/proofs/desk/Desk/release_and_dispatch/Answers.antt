use Rattle.std.proofs.Common.{◌≡◌, ℕ, length, [], ◌∷◌, ◌++◌, Some, refl, sym, ap, ◌∙◌, subst, slice_get}
use Rattle.pooma_machine.specs.declared.step.EventKind.TheVariants as kind
use Rattle.pooma_machine.specs.Steps.{IsReady, event_of}
use Rattle.pooma_machine.specs.Values.{asks_of}
use Rattle.pooma_machine.specs.Became.{TellsReady}
use Rattle.pooma_desk.specs.Readied.{EndsWith, IsLeastReadied, NoneReadied, TellsReadied}
use Rattle.pooma_desk.specs.Tokens.{Started, Adds, AddsTwo, HasOut, called, plan_of, history_of, values_after, token_of}
use Rattle.pooma_desk.proofs.Turning.{legal_seen}
use Rattle.pooma_desk.proofs.Lending.{adds_then}
use Rattle.pooma_desk.proofs.Readying.{first_is_readied, none_is_readied, ready_is_issued, ends_then, told_readied}
use Rattle.pooma_desk.proofs.desk.Desk.release_and_dispatch.Goals as goal

pub returns-in_default-clause-released : goal.returns-in_default-clause-released
returns-in_default-clause-released g c = subst (λ t. Adds c.args.pass t (called kind.Release c.args.done.entry c.args.pass.seat)) (sym c.leave.ensures.pass) c.enter_and_release-turn.ensures.adds

pub returns-in_default-clause-none : goal.returns-in_default-clause-none
returns-in_default-clause-none g c =
    let e = c.enter_and_release-turn.ensures in
    let t = c.enter_and_release-turn.result.0 in
    let now = token_of c.args.self.now.desk t.place.me.0 in
    let asks = asks_of g.W.Work.meaning (plan_of now) in
    let release = event_of kind.Release c.args.done.entry c.args.pass.seat in
    let named = λ (j : ℕ) (is : slice_get c.enter_and_release-turn.result.1.entries 0 ≡ Some j). c.in_default.not-Some j ((c.copied.ensures ∙ c.first.ensures.value) ∙ (ap (λ l. slice_get l 0) c.entries.ensures ∙ is)) in
    let none = none_is_readied asks e.became.0 (history_of now) release c.enter_and_release-turn.result.1 e.became.1 e.became.2 named in
    subst (λ t. EndsWith (history_of t) (release ∷ []) (λ before. NoneReadied (asks_of g.W.Work.meaning (plan_of t)) before release)) (sym c.leave.ensures.pass) (e.became.0, e.became.1, none)

pub dispatch_in_turn-requires-clause-start : goal.dispatch_in_turn-requires-clause-start
dispatch_in_turn-requires-clause-start g c = ap (λ (s : Started _ _). s.machine) (c.enter_and_release-turn.ensures.adds.same.from ∙ c.requires.desk)

pub dispatch_in_turn-requires-clause-issued : goal.dispatch_in_turn-requires-clause-issued
dispatch_in_turn-requires-clause-issued g c =
    let e = c.enter_and_release-turn.ensures in
    let t = c.enter_and_release-turn.result.0 in
    let now = token_of c.args.self.now.desk t.place.me.0 in
    let asks = asks_of g.W.Work.meaning (plan_of now) in
    let release = event_of kind.Release c.args.done.entry c.args.pass.seat in
    let named = ap (λ l. slice_get l 0) (sym c.entries.ensures) ∙ (sym (c.copied.ensures ∙ c.first.ensures.value) ∙ c.in-Some.is) in
    let least = first_is_readied asks e.became.0 (history_of now) release c.enter_and_release-turn.result.1 c.in-Some.next e.became.1 e.became.2 named in
    let legal = legal_seen g.W.Work.meaning t.place.me.0 t.machine e.after c.history.ensures.legal c.history.ensures.issued in
    ready_is_issued asks (history_of now) c.in-Some.next (length (plan_of now)) (subst (λ h. IsReady asks h c.in-Some.next) (sym e.became.1) least.readied.0) (c.legal_histories_tell.ensures.issued _ _ legal.legal c.in-Some.next) legal.issued

pub returns-in-Ok-clause-next : goal.returns-in-Ok-clause-next
returns-in-Ok-clause-next g c =
    let e = c.enter_and_release-turn.ensures in
    let t = c.enter_and_release-turn.result.0 in
    let release = called kind.Release c.args.done.entry c.args.pass.seat in
    let two = adds_then c.args.self.now.desk c.args.pass c.leave-in-Ok.result t.place.me.0 t.seat t.next release (called kind.Dispatch c.in-Some.next t.seat) _ _ e.adds e.turn.placed refl c.in-Ok.ensures.noted c.leave-in-Ok.ensures.pass in
    subst (λ j. AddsTwo c.args.pass c.leave-in-Ok.result release (called kind.Dispatch j c.args.pass.seat)) (sym c.in-Ok.ensures.entry) (subst (λ s. AddsTwo c.args.pass c.leave-in-Ok.result release (called kind.Dispatch c.in-Some.next s)) e.seat two)

pub returns-in-Ok-clause-least : goal.returns-in-Ok-clause-least
returns-in-Ok-clause-least g c =
    let e = c.enter_and_release-turn.ensures in
    let t = c.enter_and_release-turn.result.0 in
    let now = token_of c.args.self.now.desk t.place.me.0 in
    let asks = asks_of g.W.Work.meaning (plan_of now) in
    let release = event_of kind.Release c.args.done.entry c.args.pass.seat in
    let named = ap (λ l. slice_get l 0) (sym c.entries.ensures) ∙ (sym (c.copied.ensures ∙ c.first.ensures.value) ∙ c.in-Some.is) in
    let least = first_is_readied asks e.became.0 (history_of now) release c.enter_and_release-turn.result.1 c.in-Some.next e.became.1 e.became.2 named in
    let r = c.leave-in-Ok.result in
    let ends = ends_then c.args.self.now.desk r t.place.me.0 release c.in-Some.next t.seat (λ plan before. IsLeastReadied (asks_of g.W.Work.meaning plan) before release c.in-Some.next) _ _ (e.became.0, e.became.1, least) c.in-Ok.ensures.noted c.leave-in-Ok.ensures.pass in
    subst (λ j. EndsWith (history_of r) (release ∷ event_of kind.Dispatch j c.args.pass.seat ∷ []) (λ before. IsLeastReadied (asks_of g.W.Work.meaning (plan_of r)) before release j)) (sym c.in-Ok.ensures.entry)
    (subst (λ s. EndsWith (history_of r) (release ∷ event_of kind.Dispatch c.in-Some.next s ∷ []) (λ before. IsLeastReadied (asks_of g.W.Work.meaning (plan_of r)) before release c.in-Some.next)) e.seat ends)

pub returns-in-Ok-clause-out : goal.returns-in-Ok-clause-out
returns-in-Ok-clause-out g c = subst (λ j. HasOut c.leave-in-Ok.result j) (sym c.in-Ok.ensures.entry) (subst (λ t. HasOut t c.in-Some.next) (sym c.leave-in-Ok.ensures.pass) c.in-Ok.ensures.out)

pub returns-in-Ok-clause-work : goal.returns-in-Ok-clause-work
returns-in-Ok-clause-work g c = subst (λ j. slice_get (plan_of c.leave-in-Ok.result) j ≡ Some c.in-Ok.loan.work) (sym c.in-Ok.ensures.entry) (subst (λ t. slice_get (plan_of t) c.in-Some.next ≡ Some c.in-Ok.loan.work) (sym c.leave-in-Ok.ensures.pass) c.in-Ok.ensures.work)

pub returns-in-Ok-clause-lent : goal.returns-in-Ok-clause-lent
returns-in-Ok-clause-lent g c = subst (λ j. c.in-Ok.loan.lent ≡ (values_after g.W.Work.meaning c.leave-in-Ok.result).lent j) (sym c.in-Ok.ensures.entry) (subst (λ t. c.in-Ok.loan.lent ≡ (values_after g.W.Work.meaning t).lent c.in-Some.next) (sym c.leave-in-Ok.ensures.pass) c.in-Ok.ensures.lent)

pub returns-in-OutOfMemory-clause-err : goal.returns-in-OutOfMemory-clause-err
returns-in-OutOfMemory-clause-err g c = subst (λ t. Adds c.args.pass t (called kind.Release c.args.done.entry c.args.pass.seat)) (sym (c.leave-in-OutOfMemory.ensures.pass ∙ ap (λ m. token_of c.args.self.now.desk m.0) c.in-Err.ensures.err)) c.enter_and_release-turn.ensures.adds

pub returns-in-OutOfMemory-clause-ready : goal.returns-in-OutOfMemory-clause-ready
returns-in-OutOfMemory-clause-ready g c =
    let e = c.enter_and_release-turn.ensures in
    let t = c.enter_and_release-turn.result.0 in
    let now = token_of c.args.self.now.desk t.place.me.0 in
    let asks = asks_of g.W.Work.meaning (plan_of now) in
    let release = event_of kind.Release c.args.done.entry c.args.pass.seat in
    let named = ap (λ l. slice_get l 0) (sym c.entries.ensures) ∙ (sym (c.copied.ensures ∙ c.first.ensures.value) ∙ c.in-Some.is) in
    let least = first_is_readied asks e.became.0 (history_of now) release c.enter_and_release-turn.result.1 c.in-Some.next e.became.1 e.became.2 named in
    subst (λ t. EndsWith (history_of t) (release ∷ []) (λ before. (j : ℕ) × IsLeastReadied (asks_of g.W.Work.meaning (plan_of t)) before release j)) (sym (c.leave-in-OutOfMemory.ensures.pass ∙ ap (λ m. token_of c.args.self.now.desk m.0) c.in-Err.ensures.err)) (e.became.0, e.became.1, (c.in-Some.next, least))

pub unreachable-requires : goal.unreachable-requires
unreachable-requires g c =
    let e = c.enter_and_release-turn.ensures in
    let t = c.enter_and_release-turn.result.0 in
    let now = token_of c.args.self.now.desk t.place.me.0 in
    let asks = asks_of g.W.Work.meaning (plan_of now) in
    let release = event_of kind.Release c.args.done.entry c.args.pass.seat in
    let named = ap (λ l. slice_get l 0) (sym c.entries.ensures) ∙ (sym (c.copied.ensures ∙ c.first.ensures.value) ∙ c.in-Some.is) in
    let least = first_is_readied asks e.became.0 (history_of now) release c.enter_and_release-turn.result.1 c.in-Some.next e.became.1 e.became.2 named in
    let ready = c.in-Err.ensures.succeeds (subst (λ h. IsReady asks h c.in-Some.next) (sym e.became.1) least.readied.0) in
    absurd (c.in_default-error.not-OutOfMemory ready)

pub returns-in_default-clause-became : goal.returns-in_default-clause-became
returns-in_default-clause-became g c =
    let e = c.enter_and_release-turn.ensures in
    let t = c.enter_and_release-turn.result.0 in
    let now = token_of c.args.self.now.desk t.place.me.0 in
    let release = event_of kind.Release c.args.done.entry c.args.pass.seat in
    let told = told_readied (asks_of g.W.Work.meaning (plan_of now)) e.became.0 (history_of now) (history_of now) [] release c.enter_and_release-turn.result.1 e.became.1 e.became.2 e.became.1 in
    subst (λ t. TellsReadied (asks_of g.W.Work.meaning (plan_of t)) (history_of t) release c.enter_and_release-turn.result.1) (sym c.leave.ensures.pass) told

pub returns-in-Ok-clause-became : goal.returns-in-Ok-clause-became
returns-in-Ok-clause-became g c =
    let e = c.enter_and_release-turn.ensures in
    let t = c.enter_and_release-turn.result.0 in
    let now = token_of c.args.self.now.desk t.place.me.0 in
    let release = event_of kind.Release c.args.done.entry c.args.pass.seat in
    let woken = c.enter_and_release-turn.result.1 in
    let r = c.leave-in-Ok.result in
    let ends = ends_then c.args.self.now.desk r t.place.me.0 release c.in-Some.next t.seat (λ plan before. TellsReady (asks_of g.W.Work.meaning plan) before (before ++ release ∷ []) woken) _ _ (e.became.0, e.became.1, subst (λ h. TellsReady (asks_of g.W.Work.meaning (plan_of now)) e.became.0 h woken) e.became.1 e.became.2) c.in-Ok.ensures.noted c.leave-in-Ok.ensures.pass in
    record { before = ends.0; later = event_of kind.Dispatch c.in-Some.next t.seat ∷ []; stands = ends.1; tells = ends.2 }

pub returns-in-OutOfMemory-clause-became : goal.returns-in-OutOfMemory-clause-became
returns-in-OutOfMemory-clause-became g c =
    let e = c.enter_and_release-turn.ensures in
    let t = c.enter_and_release-turn.result.0 in
    let now = token_of c.args.self.now.desk t.place.me.0 in
    let release = event_of kind.Release c.args.done.entry c.args.pass.seat in
    let told = told_readied (asks_of g.W.Work.meaning (plan_of now)) e.became.0 (history_of now) (history_of now) [] release c.enter_and_release-turn.result.1 e.became.1 e.became.2 e.became.1 in
    subst (λ t. TellsReadied (asks_of g.W.Work.meaning (plan_of t)) (history_of t) release c.enter_and_release-turn.result.1) (sym (c.leave-in-OutOfMemory.ensures.pass ∙ ap (λ m. token_of c.args.self.now.desk m.0) c.in-Err.ensures.err)) told
