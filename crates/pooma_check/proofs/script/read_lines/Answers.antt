use Rattle.std.proofs.Common.{◌≡◌, ◌+◌, ◌<◌, ℕ, get_or, length, sym, subst, arith}
use Rattle.pooma_text.specs.declared.span.Span.{Span}
use Rattle.pooma_text.specs.Lines.{lines_of, text_at}
use Rattle.pooma_script.specs.declared.cause.Cause.{Cause}
use Rattle.pooma_script.specs.Known.{nothing_known}
use Rattle.pooma_script.specs.Scripts.{Becomes, Read, Refused, Stops, script_at_end}
use Rattle.pooma_check.specs.Kept.{known_of}
use Rattle.pooma_check.proofs.Along.{ends_here, goes_further, stops_here}
use Rattle.pooma_check.proofs.Refusals.{refused_too}
use Rattle.pooma_check.proofs.script.read_lines.Goals as goal

pub returns-in-Err-clause-refused : goal.returns-in-Err-clause-refused
returns-in-Err-clause-refused c =
    let d : Span = record { start = 0; end = 0 } in
    let spans = c.args.spans.now in
    let n = c.loop-n.n in
    let below : n < length spans = omega arith in
    refused_too (λ (line : ℕ) (why : Cause). (line ≡ n + 1) × Becomes (n + 1) (known_of c.loop-n.known) (text_at c.args.bytes.now (get_or spans n d)) (Stops why))
    (λ (line : ℕ) (why : Cause). Read 1 nothing_known (lines_of c.args.bytes.now) (Refused line why))
    (λ line why h. subst (λ l. Read 1 nothing_known (lines_of c.args.bytes.now) (Refused l why)) (sym h.0)
    (stops_here c.args.bytes.now spans (Read 1 nothing_known (lines_of c.args.bytes.now)) n d (known_of c.loop-n.known) c.requires.lines c.loop-n.invariant.sofar below why h.1))
    c.in-Err.error c.in-Err.ensures.refused

pub loop-n-preserved : goal.loop-n-preserved
loop-n-preserved c =
    let d : Span = record { start = 0; end = 0 } in
    let spans = c.args.spans.now in
    let n = c.loop-n.n in
    let below : n < length spans = omega arith in
    record {
      kept = c.in_default.ensures.kept;
      scalars = let h = c.in_default.ensures.few_scalars in omega (arith, h);
      sofar = goes_further c.args.bytes.now spans (Read 1 nothing_known (lines_of c.args.bytes.now)) n d (known_of c.loop-n.known) c.requires.lines c.loop-n.invariant.sofar below
          (known_of c.read_line.new.known) c.in_default.ensures.goes;
    }

pub returns-clause-read : goal.returns-clause-read
returns-clause-read c =
    let d : Span = record { start = 0; end = 0 } in
    let spans = c.args.spans.now in
    let n = c.loop-n.n in
    let whole : n ≡ length spans = omega arith in
    subst (λ k. Read 1 nothing_known (lines_of c.args.bytes.now) (script_at_end (k + 1) (known_of c.loop-n.known))) whole
    (ends_here c.args.bytes.now spans (Read 1 nothing_known (lines_of c.args.bytes.now)) n d (known_of c.loop-n.known) c.requires.lines c.loop-n.invariant.sofar whole)
