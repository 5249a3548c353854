use Rattle.std.proofs.Common.{◌∙◌, ◌<◌, List, Option, Some, ap, length, subst, sym, true≢false}
use Rattle.pooma_text.specs.Lines.{text_at}
use Rattle.pooma_stencil.specs.Stencils.{Stenciled}
use Rattle.pooma_script.specs.declared.names.Named.{Named}
use Rattle.pooma_script.specs.declared.names.Named.TheVariants as named
use Rattle.pooma_check.proofs.lookup.stencil_at.Goals as goal

-- the number that the name has is one of a stencil
pub unreachable-requires-in_default-get : goal.unreachable-requires-in_default-get
unreachable-requires-in_default-get c =
    let wrap : Named → Option Named = λ x. Some x in
    let HasIt : List Stenciled → Type 0 = λ l. c.in-Some-Stencil.n < length l in
    true≢false (sym (c.in_default-get.ensures.lookup.2 (subst HasIt (sym c.deref.ensures.value)
    (c.requires.kept.known.there (text_at c.args.text.now c.args.name) (named.Stencil c.in-Some-Stencil.n)
    (sym c.named.ensures ∙ c.in-Some-Stencil.is ∙ ap wrap c.in-Some-Stencil.field-0-is)))))
