use Rattle.std.proofs.Common.{length, sym, ap, ◌∙◌, arith}
use Rattle.pooma_machine.specs.Values.{Account}
use Rattle.pooma_desk.specs.Tokens.{Started}
use Rattle.pooma_desk.proofs.Moves.{notes_event}
use Rattle.pooma_desk.proofs.Turning.{counted}
use Rattle.pooma_desk.proofs.desk.Desk.note.Goals as goal

pub store-requires : goal.store-requires
store-requires g c =
    let words = c.self.invariant.0 in
    let turn = c.requires.turn.2 in
    let events = ap length c.history.ensures.events in
    let start = ap (λ (m : Account _ _). length m.history) (c.requires.start ∙ sym (ap (λ (s : Started _ _). s.machine) c.self.view_is)) in
    let before = c.self.invariant.3 in
    let all = counted _ _ _ _ c.requires.after in
    (c.requires.desk ∙ sym (ap (λ (s : Started _ _). s.desk) c.self.view_is), omega (arith, words), notes_event _ _ _ _ _ _ _ turn.placed.live turn.holds turn.placed.alone turn.placed.quiet c.requires.may (omega (arith, events, start, before, all)))
