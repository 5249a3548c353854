use Rattle.std.proofs.Common.{◌≡◌, ℕ, ap, refl}
use Rattle.std.proofs.lemmas.Result.{IfOk-weaker}
use Rattle.std.specs.Prelude.{Err}
use Rattle.pooma_parse.specs.Lines.{Spells}
use Rattle.pooma_script.specs.declared.cause.Cause.{Cause}
use Rattle.pooma_script.specs.Scripts.{Becomes, Stops, form_outcome, formless, spelt}
use Rattle.pooma_check.specs.Kept.{known_of}
use Rattle.pooma_check.proofs.Refusals.{answered_too}
use Rattle.pooma_check.proofs.line.read_line.Goals as goal

pub returns-in-Ok-Some-clause-goes : goal.returns-in-Ok-Some-clause-goes
returns-in-Ok-Some-clause-goes c =
    let spells : Spells c.args.text.now c.in-Ok-Some.form = rw c.in-Ok-Some.field-0-is at c.in-Ok-Some.ensures.form in
    IfOk-weaker c.read_form-answer.result _ _ (λ _ h. spelt c.in-Ok-Some.form spells h) c.read_form-answer.ensures.goes

pub returns-in-Ok-Some-clause-refused : goal.returns-in-Ok-Some-clause-refused
returns-in-Ok-Some-clause-refused c =
    let spells : Spells c.args.text.now c.in-Ok-Some.form = rw c.in-Ok-Some.field-0-is at c.in-Ok-Some.ensures.form in
    answered_too (λ (line : ℕ) (why : Cause). (line ≡ c.args.number) × form_outcome c.args.number (known_of c.args.known.now) c.args.text.now c.in-Ok-Some.form (Stops why))
    (λ (line : ℕ) (why : Cause). (line ≡ c.args.number) × Becomes c.args.number (known_of c.args.known.now) c.args.text.now (Stops why))
    (λ line why h. (h.0, spelt c.in-Ok-Some.form spells h.1)) c.read_form-answer.result c.read_form-answer.ensures.refused

pub returns-in-Err-Syntax-clause-refused : goal.returns-in-Err-Syntax-clause-refused
returns-in-Err-Syntax-clause-refused c =
    rw c.refuse.ensures (refl, formless (c.in-Err-Syntax.ensures.not_blank (ap Err c.in-Err-Syntax.field-0-is)) (c.in-Err-Syntax.ensures.no_form (ap Err c.in-Err-Syntax.field-0-is)) refl)
