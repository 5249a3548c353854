use Rattle.std.proofs.Common.{sym, ap, ◌∙◌, arith}
use Rattle.pooma_desk.specs.Tokens.{Started, Token, own_calls, keeping, token_of}
use Rattle.pooma_desk.proofs.Moves.{splits_seat}
use Rattle.pooma_desk.proofs.Turning.{resting_outside}
use Rattle.pooma_desk.proofs.Sharing.{some_left, token_given, newcomer_idle, outside_given, outside_newcomer}
use Rattle.pooma_desk.proofs.desk.Desk.split.Goals as goal

pub split_seat-other-requires : goal.split_seat-other-requires
split_seat-other-requires g c =
    let words = c.self.invariant.0 in
    let left = some_left c.pass.inside.place.table_id c.pass.inside.place.me.0 c.args.pass c.pass.view_is c.requires.left in
    (ap (λ (t : Token _ _). t.from.desk) c.pass.view_is ∙ (ap (λ (s : Started _ _). s.desk) c.requires.desk ∙ sym (ap (λ (s : Started _ _). s.desk) c.self.view_is)), omega (arith, words), splits_seat _ _ _ (resting_outside _ _ _ _ c.pass.invariant) left)

pub overflow_add-first : goal.overflow_add-first
overflow_add-first g c =
    let left = some_left c.pass.inside.place.table_id c.pass.inside.place.me.0 c.args.pass c.pass.view_is c.requires.left in
    let next = c.pass.invariant.placed.left in
    let seats = ap (λ (t : Token _ _). t.from.seats) c.pass.view_is ∙ (ap (λ (s : Started _ _). s.seats) c.requires.desk ∙ sym (ap (λ (s : Started _ _). s.seats) c.self.view_is)) in
    let kept = c.self.invariant.2 in
    let few = c.self.invariant.4 in
    omega (arith, left, next, seats, kept, few)

pub invariant_of-first : goal.invariant_of-first
invariant_of-first g c = outside_given _ _ _ _ _ c.pass.invariant (some_left c.pass.inside.place.table_id c.pass.inside.place.me.0 c.args.pass c.pass.view_is c.requires.left) c.split_seat-other.ensures.2

pub invariant_of-second : goal.invariant_of-second
invariant_of-second g c =
    let seats = ap (λ (t : Token _ _). t.from.seats) c.pass.view_is ∙ (ap (λ (s : Started _ _). s.seats) c.requires.desk ∙ (sym (ap (λ (s : Started _ _). s.seats) c.self.view_is) ∙ sym c.self.invariant.2)) in
    outside_newcomer _ _ _ _ _ c.pass.invariant (some_left c.pass.inside.place.table_id c.pass.inside.place.me.0 c.args.pass c.pass.view_is c.requires.left) _ _ c.pass.invariant.placed.left seats c.split_seat-other.ensures.4

pub returns-clause-first : goal.returns-clause-first
returns-clause-first g c =
    let e = c.split_seat-other.ensures in
    let v = c.pass.inside.place.me.0 in
    let d = c.pass.inside.place.table_id in
    ap (λ k. token_of k c.split_seat-other.new.seat.me.0) e.0 ∙ (ap (λ m. token_of d m.0) e.2 ∙ (token_given d v (some_left c.pass.inside.place.table_id c.pass.inside.place.me.0 c.args.pass c.pass.view_is c.requires.left) ∙ ap keeping c.pass.view_is))

pub returns-clause-alone : goal.returns-clause-alone
returns-clause-alone g c =
    let e = c.split_seat-other.ensures in
    let d = c.split_seat-other.result.table_id in
    ap (λ m. own_calls (token_of d m.0)) e.4 ∙ newcomer_idle d c.pass.inside.place.me.0 c.pass.invariant.placed.fits
