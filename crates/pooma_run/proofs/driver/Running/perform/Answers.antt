use Rattle.std.proofs.Common.{◌≡◌, ◌∙◌, sym, ap, subst, ℕ, ℤ, ◌+◌, ◌⊎◌, ◌≤◌, List, true, inl, inr, length, drop, take, map, arith, ◌<◌, ◌-◌}
use Rattle.std.specs.Arc.{arc_value}
use Rattle.std.proofs.lemmas.List.{length-map}
use Rattle.pooma_fill.specs.Marks.{fills_before}
use Rattle.pooma_model.specs.Declarations.{Declared}
use Rattle.pooma_model.specs.Fit.{IsFit}
use Rattle.pooma_split.specs.Splits.{declared_in}
use Rattle.pooma_run.specs.contracts.driver.Running.{the_view}
use Rattle.pooma_run.specs.Plan.{ends_window}
use Rattle.pooma_run.specs.Underway.{IsConcluding, IsOf, Kept, begins, left, with_works}
use Rattle.pooma_run.proofs.Performed.{Performs, added_now, all_pending, begins_within, concluding_now, ended_now, first_now, short_now, tells_after, tells_now, told_by_fault, told_by_sum, underway_now, where_false, where_true}
use Rattle.pooma_run.proofs.Performing.{with_works_is}
use Rattle.pooma_run.proofs.Telling.{told_first}
use Rattle.pooma_run.proofs.Results.{on_err}
use Rattle.pooma_run.proofs.driver.Running.perform.Given.{Over}
use Rattle.pooma_run.proofs.driver.Running.perform.Goals as goal
use Rattle.pooma_run.proofs.driver.Running.perform.Goals.{After-after, After-deref-in-Some, After-end_window, else-not-ends_window-via-then-not-ends_window+else-len-lt-ENOUGH, else-not-ends_window-via-else-not-ends_window}

pub returns-in_err-begin-clause-stays : goal.returns-in_err-begin-clause-stays
returns-in_err-begin-clause-stays g c = g.met.C.Completer.stays_itself c.args.completer.now

pub returns-in_err-begin-clause-front : goal.returns-in_err-begin-clause-front
returns-in_err-begin-clause-front g c =
    on_err c.from_residual.result
    (λ known start upto. told_first g.C.Completer.tells c.args.program.now known start g.C.Completer.stops _ (g.C.Completer.told c.args.completer.now) c.args.completer.now upto)

pub returns-then-len-lt-ENOUGH-clause-stays : goal.returns-then-len-lt-ENOUGH-clause-stays
returns-then-len-lt-ENOUGH-clause-stays g c = g.met.C.Completer.stays_itself c.args.completer.now

pub add_works-requires-clause-declared : goal.add_works-requires-clause-declared
add_works-requires-clause-declared g c =
    let of : IsOf c.args.program.now (the_view c.self.inside) = subst (IsOf c.args.program.now) (sym c.self.view_is) c.requires.underway.of in
    ap (λ (ns : List ℤ). declared_in c.self.inside.store (length ns)) c.deref.ensures.value ∙ (of.in_store ∙ sym of.declared)

pub add_works-requires-clause-fit : goal.add_works-requires-clause-fit
add_works-requires-clause-fit g c =
    let of : IsOf c.args.program.now (the_view c.self.inside) = subst (IsOf c.args.program.now) (sym c.self.view_is) c.requires.underway.of in
    subst (λ (d : Declared). IsFit d c.args.statement.now.action) (sym of.declared) c.requires.fit

pub after-requires : goal.after-requires
after-requires g c =
    let of : IsOf c.args.program.now (the_view c.self.inside) = subst (IsOf c.args.program.now) (sym c.self.view_is) c.requires.underway.of in
    subst (λ (d : Declared). IsFit d c.args.statement.now.action) (sym of.declared) c.requires.fit

-- once the marks were set
performed : (g : Over) (c : After-after g)
    → Performs c.args.program.now c.args.self.now c.args.number c.args.statement.now (the_view (record c.self.inside { stale = c.after.new.self; pending = c.add_works.new.pending }))
performed g c = record {
  laws = c.laws_below.ensures;
  underway = c.requires.underway;
  next = c.requires.next;
  fit = c.requires.fit;
  literals = c.in_ok-begin.ensures.literals;
  is =
      with_works_is (the_view c.self.inside) c.args.number c.args.statement.now.action c.after.new.self c.deref.result.now (map arc_value c.add_works.new.pending.items)
      c.after.ensures c.deref.ensures.value c.in_ok-begin.ensures.works
      ∙ ap (λ (k : Kept). with_works k c.args.number c.args.statement.now.action) c.self.view_is;
}

pub returns-then-len-lt-ENOUGH-clause-underway : goal.returns-then-len-lt-ENOUGH-clause-underway
returns-then-len-lt-ENOUGH-clause-underway g c =
    let performs = performed g (goal.at.returns-then-len-lt-ENOUGH-clause-underway g c).After-after in
    underway_now performs
    (sym c.ends_window.ensures ∙ c.if-not-ends_window.true)

pub returns-then-len-lt-ENOUGH-clause-told : goal.returns-then-len-lt-ENOUGH-clause-told
returns-then-len-lt-ENOUGH-clause-told g c =
    let performs = performed g (goal.at.returns-then-len-lt-ENOUGH-clause-told g c).After-after in
    λ known start upto.
    tells_now performs
    g.C.Completer.tells known start (g.C.Completer.told c.args.completer.now) c.args.completer.now upto (sym c.ends_window.ensures ∙ c.if-not-ends_window.true)
    (let few : length c.add_works.new.pending.items < 4096 = omega arith in rw (length-map c.add_works.new.pending.items arc_value) few)

pub end_window-requires-clause-of : goal.end_window-requires-clause-of
end_window-requires-clause-of g c =
    let performs = performed g (goal.at.end_window-requires-clause-of g c).After-after in
    (added_now performs).of

pub end_window-requires-clause-pending : goal.end_window-requires-clause-pending
end_window-requires-clause-pending g c =
    let performs = performed g (goal.at.end_window-requires-clause-pending g c).After-after in
    all_pending performs

-- why a window ends
ends : (g : Over) (c : After-end_window g)
    → (ends_window c.args.statement.now.action ≡ true) ⊎ (4096 ≤ length (map arc_value c.add_works.new.pending.items))
ends g c =
    elim c.else-not-ends_window.branch [
      | else-not-ends_window-via-then-not-ends_window+else-len-lt-ENOUGH w ↦
          let many : 4096 ≤ length c.add_works.new.pending.items = omega arith in inr (rw (length-map c.add_works.new.pending.items arc_value) many)
      | else-not-ends_window-via-else-not-ends_window w ↦ inl (sym c.ends_window.ensures ∙ w.if-not-ends_window.false)
    ]

pub returns-in_err-outcomes-clause-stays : goal.returns-in_err-outcomes-clause-stays
returns-in_err-outcomes-clause-stays g c = c.end_window.ensures.stays

pub returns-in_err-outcomes-clause-front : goal.returns-in_err-outcomes-clause-front
returns-in_err-outcomes-clause-front g c =
    let performs = performed g (goal.at.returns-in_err-outcomes-clause-front g c).After-after in
    let why = ends g (goal.at.returns-in_err-outcomes-clause-front g c).After-end_window in
    on_err c.from_residual-in_err-outcomes.result
    (λ known start upto.
    short_now performs
    g.C.Completer.tells known start (g.C.Completer.told c.args.completer.now) c.args.completer.now upto why _ _ g.C.Completer.stops c.in_err-outcomes.ensures.err)

-- what the works answered
answered : (g : Over) (c : After-deref-in-Some g) → c.deref-in-Some.result.now ≡ (left (the_view (record c.self.inside { stale = c.after.new.self; pending = c.add_works.new.pending }))).outcomes
answered g c = c.deref-in-Some.ensures.value ∙ rw c.in-Some.is at c.in_ok-outcomes.ensures.outcomes

begins_at : (g : Over) (c : After-after g) → c.in_ok-begin.begin ≡ begins c.args.self.now c.args.number c.args.statement.now.action
begins_at g c =
    c.in_ok-begin.ensures.begin
    ∙ (ap (λ (n : ℕ). n + length (fills_before c.self.inside.stale.layouts c.self.inside.stale c.args.number c.args.statement.now.action)) (sym (length-map c.self.inside.pending.items arc_value))
    ∙ ap (λ (k : Kept). begins k c.args.number c.args.statement.now.action) c.self.view_is)

-- no fault is among it, and the statement can be concluded
concluding : (g : Over) (c : After-deref-in-Some g)
    → Performs c.args.program.now c.args.self.now c.args.number c.args.statement.now (the_view (record c.self.inside { stale = c.after.new.self; pending = c.add_works.new.pending }))
    → c.in_ok-begin.begin ≡ begins c.args.self.now c.args.number c.args.statement.now.action
    → IsConcluding c.args.program.now c.end_window.new.self c.args.number c.args.statement.now
    (take (length c.deref-in-Some.result.now - c.in_ok-begin.begin) (drop c.in_ok-begin.begin c.deref-in-Some.result.now))
concluding g c performs begin =
    concluding_now performs c.end_window.new.self c.deref-in-Some.result.now c.in_ok-begin.begin (rw c.in-Some.is at c.in_ok-outcomes.ensures.none)
    (rw c.in-Some.is at c.in_ok-outcomes.ensures.completed) (answered g c) begin

pub conclude-requires : goal.conclude-requires
conclude-requires g c =
    let at = goal.at.conclude-requires g c in
    (c.args.program.now, c.args.number, concluding g at.After-deref-in-Some (performed g at.After-after) (begins_at g at.After-after))

pub slice_bounds-conclude-count : goal.slice_bounds-conclude-count
slice_bounds-conclude-count g c =
    begins_within (performed g (goal.at.slice_bounds-conclude-count g c).After-after) c.deref-in-Some.result.now c.in_ok-begin.begin (answered g (goal.at.slice_bounds-conclude-count g c).After-deref-in-Some)
    (begins_at g (goal.at.slice_bounds-conclude-count g c).After-after)

pub returns-in-Some-clause-underway : goal.returns-in-Some-clause-underway
returns-in-Some-clause-underway g c =
    let at = goal.at.returns-in-Some-clause-underway g c in
    where_false c.conclude.result (λ none stale on. on c.args.program.now c.args.number (concluding g at.After-deref-in-Some (performed g at.After-after) (begins_at g at.After-after))) c.conclude.ensures.none c.conclude.ensures.stale c.conclude.ensures.underway

pub returns-in-Some-clause-ended : goal.returns-in-Some-clause-ended
returns-in-Some-clause-ended g c =
    let at = goal.at.returns-in-Some-clause-ended g c in
    where_true c.conclude.result (λ by some. (by c.args.program.now c.args.number (concluding g at.After-deref-in-Some (performed g at.After-after) (begins_at g at.After-after))).0) c.conclude.ensures.ended c.conclude.ensures.some

pub returns-in-Some-clause-stays : goal.returns-in-Some-clause-stays
returns-in-Some-clause-stays g c = c.end_window.ensures.stays

pub returns-in-Some-clause-told : goal.returns-in-Some-clause-told
returns-in-Some-clause-told g c =
    let at = goal.at.returns-in-Some-clause-told g c in
    let done = rw c.in-Some.is at c.in_ok-outcomes.ensures.completed in
    where_false c.conclude.result
    (λ none stale on known start upto.
    tells_after (performed g at.After-after) g.C.Completer.tells known start (g.C.Completer.told c.args.completer.now) c.args.completer.now upto (ends g at.After-end_window) _ _ c.in_ok-outcomes.ensures.told
    c.conclude.new.self (stale ∙ ap (λ (k : Kept). k.stale) done) (none ∙ ap (λ (k : Kept). k.pending) done) (on c.args.program.now c.args.number (concluding g at.After-deref-in-Some (performed g at.After-after) (begins_at g at.After-after))))
    c.conclude.ensures.none c.conclude.ensures.stale c.conclude.ensures.underway

pub returns-in-Some-clause-told_all : goal.returns-in-Some-clause-told_all
returns-in-Some-clause-told_all g c =
    let at = goal.at.returns-in-Some-clause-told_all g c in
    where_true c.conclude.result
    (λ by some known start upto.
    told_by_sum (performed g at.After-after) g.C.Completer.tells known start (g.C.Completer.told c.args.completer.now) c.args.completer.now upto (ends g at.After-end_window) _ _ c.in_ok-outcomes.ensures.told
    c.deref-in-Some.result.now c.in_ok-begin.begin (answered g at.After-deref-in-Some) (begins_at g at.After-after) some (by c.args.program.now c.args.number (concluding g at.After-deref-in-Some (performed g at.After-after) (begins_at g at.After-after))).1)
    c.conclude.ensures.ended c.conclude.ensures.some

pub returns-in-Some-clause-front : goal.returns-in-Some-clause-front
returns-in-Some-clause-front g c =
    let performs = performed g (goal.at.returns-in-Some-clause-front g c).After-after in
    let why = ends g (goal.at.returns-in-Some-clause-front g c).After-end_window in
    on_err c.conclude.result
    (λ known start upto.
    first_now performs
    g.C.Completer.tells known start (g.C.Completer.told c.args.completer.now) c.args.completer.now upto why _ _ c.in_ok-outcomes.ensures.told g.C.Completer.stops)

pub returns-in-None-clause-stays : goal.returns-in-None-clause-stays
returns-in-None-clause-stays g c = c.end_window.ensures.stays

pub returns-in-None-clause-ended : goal.returns-in-None-clause-ended
returns-in-None-clause-ended g c =
    ended_now (performed g (goal.at.returns-in-None-clause-ended g c).After-after) c.end_window.new.self.bytes (rw c.in-None.is at c.in_ok-outcomes.ensures.fault)

pub returns-in-None-clause-told_all : goal.returns-in-None-clause-told_all
returns-in-None-clause-told_all g c =
    let performs = performed g (goal.at.returns-in-None-clause-told_all g c).After-after in
    let why = ends g (goal.at.returns-in-None-clause-told_all g c).After-end_window in
    λ known start upto.
    told_by_fault performs
    g.C.Completer.tells known start (g.C.Completer.told c.args.completer.now) c.args.completer.now upto why _ _ c.in_ok-outcomes.ensures.told c.end_window.new.self.bytes (rw c.in-None.is at c.in_ok-outcomes.ensures.fault)
