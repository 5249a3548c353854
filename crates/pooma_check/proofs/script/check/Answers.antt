use Rattle.std.proofs.Common.{ap, length, arith}
use Rattle.std.proofs.lemmas.List.{length-map}
use Rattle.pooma_text.specs.Lines.{text_at}
use Rattle.pooma_check.proofs.Along.{few_lines}
use Rattle.pooma_check.proofs.script.check.Goals as goal

pub read_lines-requires-clause-few : goal.read_lines-requires-clause-few
read_lines-requires-clause-few c =
    let texts = ap length c.in_ok-spans.ensures.texts in
    let spans = length-map c.in_ok-spans.spans.items (text_at c.args.bytes.now) in
    let shown = ap length c.deref.ensures.value in
    let few = few_lines c.args.bytes.now in
    omega (arith, texts, spans, shown, few, c.if-bytes-gt-MOST_BYTES.false)

pub overflow_cast-len : goal.overflow_cast-len
overflow_cast-len c =
    let texts = ap length c.in_ok-spans.ensures.texts in
    let spans = length-map c.in_ok-spans.spans.items (text_at c.args.bytes.now) in
    let few = few_lines c.args.bytes.now in
    omega (arith, texts, spans, few, c.len.ensures, c.if-bytes-gt-MOST_BYTES.false)

pub overflow_add-len : goal.overflow_add-len
overflow_add-len c =
    let texts = ap length c.in_ok-spans.ensures.texts in
    let spans = length-map c.in_ok-spans.spans.items (text_at c.args.bytes.now) in
    let few = few_lines c.args.bytes.now in
    omega (arith, texts, spans, few, c.len.ensures, c.if-bytes-gt-MOST_BYTES.false)
