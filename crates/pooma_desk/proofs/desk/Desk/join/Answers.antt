use Rattle.std.proofs.Common.{sym, ap, ◌∙◌, subst, arith}
use Rattle.pooma_desk.specs.Steps.{HasJoined}
use Rattle.pooma_desk.specs.Tokens.{Started, Token}
use Rattle.pooma_desk.proofs.Moves.{joins_seats}
use Rattle.pooma_desk.proofs.Turning.{resting_outside}
use Rattle.pooma_desk.proofs.Sharing.{tells_from, outside_joined, left_joined, goes_on}
use Rattle.pooma_desk.proofs.desk.Desk.join.Goals as goal

pub join_seat-requires : goal.join_seat-requires
join_seat-requires g c =
    let words = c.self.invariant.0 in
    let here = sym (ap (λ (s : Started _ _). s.desk) c.self.view_is) in (
      ap (λ (t : Token _ _). t.from.desk) c.one.view_is ∙ (ap (λ (s : Started _ _). s.desk) c.requires.one ∙ here),
      ap (λ (t : Token _ _). t.from.desk) c.other.view_is ∙ (ap (λ (s : Started _ _). s.desk) c.requires.other ∙ here),
      c.other.invariant.none,
      omega (arith, words),
      joins_seats _ _ _ _ _ (resting_outside _ _ _ _ c.one.invariant) (resting_outside _ _ _ _ c.other.invariant),
    )

pub load-requires : goal.load-requires
load-requires g c =
    let words = c.self.invariant.0 in
    let here = sym (ap (λ (s : Started _ _). s.desk) c.self.view_is) in
    let e = c.join_seat.ensures in (
      e.0 ∙ (ap (λ (t : Token _ _). t.from.desk) c.one.view_is ∙ (ap (λ (s : Started _ _). s.desk) c.requires.one ∙ here)),
      omega (arith, words),
      tells_from _ _ _ c.one.inside.place.me.0 c.other.inside.place.me.0 c.join_seat.new.seat.me _ (resting_outside _ _ _ _ c.one.invariant) e.2,
    )

pub invariant_of-result : goal.invariant_of-result
invariant_of-result g c =
    let same = ap (λ (t : Token _ _). t.from.machine) c.one.view_is ∙ (ap (λ (s : Started _ _). s.machine) (c.requires.one ∙ sym c.requires.other) ∙ sym (ap (λ (t : Token _ _). t.from.machine) c.other.view_is)) in
    outside_joined g.W.Work.meaning c.one.inside.place.me c.other.inside.place.me c.load.new.seat.me c.join_seat.new.seat.me c.one.inside.seat c.one.inside.next c.other.inside.seat c.other.inside.next c.min.result c.one.invariant c.other.invariant same c.join_seat.ensures.2 c.load.ensures.2 (omega (arith, c.min.ensures))

pub returns-clause-left : goal.returns-clause-left
returns-clause-left g c =
    let has = subst (λ m. HasJoined m.0 c.load.new.seat.me.0) c.join_seat.ensures.2 c.load.ensures.2.0 in
    let same = ap (λ (t : Token _ _). t.from.seats) c.one.view_is ∙ (ap (λ (s : Started _ _). s.seats) (c.requires.one ∙ sym c.requires.other) ∙ sym (ap (λ (t : Token _ _). t.from.seats) c.other.view_is)) in
    left_joined _ _ c.one.inside.place.me.0 c.other.inside.place.me.0 _ _ _ has.is c.one.view_is c.other.view_is same c.one.invariant.placed.fits.next c.other.invariant.placed.fits.next

pub returns-clause-calls : goal.returns-clause-calls
returns-clause-calls g c =
    let has = subst (λ m. HasJoined m.0 c.load.new.seat.me.0) c.join_seat.ensures.2 c.load.ensures.2.0 in
    goes_on _ c.one.inside.place.me.0 _ _ _ c.one.view_is c.one.invariant.placed.own has.seen

pub returns-clause-other_calls : goal.returns-clause-other_calls
returns-clause-other_calls g c =
    let has = subst (λ m. HasJoined m.0 c.load.new.seat.me.0) c.join_seat.ensures.2 c.load.ensures.2.0 in
    goes_on _ c.other.inside.place.me.0 _ _ _ c.other.view_is c.other.invariant.placed.own has.told
