use Rattle.std.proofs.Common.{◌≡◌, ◌≢◌, [], Some, ap, ◌∙◌, sym, map, length, lit≤, arith}
use Rattle.std.proofs.lemmas.Grind.{common_steps}
use Rattle.pooma_parse.specs.Reader.{read_line}
use Rattle.pooma_parse.specs.Tokens.{lexeme_of}
use Rattle.pooma_parse.proofs.Exact.{some_same}
use Rattle.pooma_parse.proofs.Places.{names_are_parts}
use Rattle.pooma_parse.proofs.Readings.{blank_spells_none, no_tokens, not_blank, not_read, read_spelled, refused, refused_only, runs_longest, spells_read}
use Rattle.pooma_parse.proofs.parse.parse_line.Goals as goal

pub returns-in-Err-BadByte-clause-not_blank : goal.returns-in-Err-BadByte-clause-not_blank
returns-in-Err-BadByte-clause-not_blank c = λ e blank. let other = c.in-Err-BadByte.ensures.only_found [] blank (lit≤ tt) in cc (other, c.in-Err-BadByte.field-0-is)

pub returns-in-Err-BadByte-clause-only_blank : goal.returns-in-Err-BadByte-clause-only_blank
returns-in-Err-BadByte-clause-only_blank c = λ blank. absurd (let other = c.in-Err-BadByte.ensures.only_found [] blank (lit≤ tt) in cc (other, c.in-Err-BadByte.field-0-is))

pub returns-then-is_empty-clause-only_form : goal.returns-then-is_empty-clause-only_form
returns-then-is_empty-clause-only_form c = λ form s.
    let counted : length c.in-Ok.tokens.items ≡ 0 = grind (arith, common_steps) in
    let none = no_tokens c.in-Ok.tokens.items counted in
    absurd (blank_spells_none _ (λ all has few. sym none ∙ c.in-Ok.ensures.only_found all has few) form s)

pub new-requires : goal.new-requires
new-requires c = rw c.deref.ensures.value (runs_longest _ _ _ _ c.in-Ok.ensures.found.1)

pub returns-in-Ok-form-clause-form : goal.returns-in-Ok-form-clause-form
returns-in-Ok-form-clause-form c =
    let same = c.new.ensures ∙ ap (map (lexeme_of c.args.line.now)) c.deref.ensures.value in
    spells_read _ _ _ _ c.in-Ok.ensures.found c.in-Ok.ensures.few same c.in-Ok-form.ensures

pub returns-in-Ok-form-clause-names : goal.returns-in-Ok-form-clause-names
returns-in-Ok-form-clause-names c =
    let same = c.new.ensures ∙ ap (map (lexeme_of c.args.line.now)) c.deref.ensures.value in
    names_are_parts _ _ (spells_read _ _ _ _ c.in-Ok.ensures.found c.in-Ok.ensures.few same c.in-Ok-form.ensures)

pub returns-in-Ok-form-clause-only_form : goal.returns-in-Ok-form-clause-only_form
returns-in-Ok-form-clause-only_form c = λ form s.
    let same = c.new.ensures ∙ ap (map (lexeme_of c.args.line.now)) c.deref.ensures.value in
    let read = read_spelled _ c.in-Ok.tokens.items c.in-Ok.ensures.only_found form s in
    ap (λ p. Some (p.0)) (some_same (sym c.in-Ok-form.ensures ∙ ap read_line same ∙ read))

pub returns-clause-not_blank : goal.returns-clause-not_blank
returns-clause-not_blank c = λ e blank.
    let some : c.in-Ok.tokens.items ≢ [] = λ none. (let length_is = ap length none in grind (arith, common_steps)) in
    not_blank _ _ some c.in-Ok.ensures.only_found blank

pub returns-clause-no_form : goal.returns-clause-no_form
returns-clause-no_form c = λ e form s.
    let same = c.new.ensures ∙ ap (map (lexeme_of c.args.line.now)) c.deref.ensures.value in
    not_read _ c.in-Ok.tokens.items _ c.in-Ok.ensures.only_found same (refused _ [] c.in-Err.error c.in-Err.ensures (cc (e))) form s

pub returns-clause-only_form : goal.returns-clause-only_form
returns-clause-only_form c = λ form s.
    let same = c.new.ensures ∙ ap (map (lexeme_of c.args.line.now)) c.deref.ensures.value in
    let read = read_spelled _ c.in-Ok.tokens.items c.in-Ok.ensures.only_found form s in
    refused_only _ [] c.in-Err.error form c.in-Err.ensures (ap read_line same ∙ read)
