use Rattle.std.proofs.Common.{map, ◌∙◌, ap}
use Rattle.pooma_text.specs.Lines.{text_at}
use Rattle.pooma_text.proofs.Cuts.{are_lines-lines_of, cut_all, cut_last, cut_line, cut_more, text_at-spans_from}
use Rattle.pooma_text.proofs.Parts.{parts-spans_from}
use Rattle.pooma_text.proofs.line.lines.Goals as goal
use Rattle.pooma_text.proofs.line.lines.Goals.{then-byte-eq10+in_ok-push, else-byte-eq10, then-start-bytes+in_ok-push-2, else-start-bytes}

pub loop-at-preserved : goal.loop-at-preserved
loop-at-preserved c =
    elim c.if-byte-eq10.branch [
      | then-byte-eq10+in_ok-push w ↦ rw (w.spans-is, w.in_ok-push.ensures.items, w.start-is) (cut_line _ _ _ _ c.loop-at.invariant c.loop-at-test.true w.if-byte-eq10.true)
      | else-byte-eq10 w ↦ rw (w.spans-is, w.start-is) (cut_more _ _ _ _ c.loop-at.invariant w.if-byte-eq10.false)
    ]

pub returns-in_err-push-clause-cut : goal.returns-in_err-push-clause-cut
returns-in_err-push-clause-cut c = are_lines-lines_of c.args.bytes.now

pub returns-in_err-push-2-clause-cut : goal.returns-in_err-push-2-clause-cut
returns-in_err-push-2-clause-cut c = are_lines-lines_of c.args.bytes.now

pub returns-clause-places : goal.returns-clause-places
returns-clause-places c =
    elim c.if-start-bytes.branch [
      | then-start-bytes+in_ok-push-2 w ↦ rw (w.spans-is, w.in_ok-push-2.ensures.items) (cut_last _ _ _ _ c.loop-at.invariant c.loop-at-test.false w.if-start-bytes.true)
      | else-start-bytes w ↦ rw w.spans-is (cut_all _ _ _ _ c.loop-at.invariant w.if-start-bytes.false)
    ]

pub returns-clause-texts : goal.returns-clause-texts
returns-clause-texts c = ap (map (text_at c.args.bytes.now)) (returns-clause-places c) ∙ text_at-spans_from c.args.bytes.now

pub returns-clause-parts : goal.returns-clause-parts
returns-clause-parts c = rw (returns-clause-places c) (parts-spans_from c.args.bytes.now)

pub returns-clause-cut : goal.returns-clause-cut
returns-clause-cut c = are_lines-lines_of c.args.bytes.now
