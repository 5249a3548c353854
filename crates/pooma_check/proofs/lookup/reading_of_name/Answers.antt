use Rattle.std.proofs.Common.{◌≡◌, ◌∙◌, Option, Some, ap, sym}
use Rattle.std.proofs.lemmas.Option.{get_or_from_slice_get}
use Rattle.std.specs.Option.{option_copied}
use Rattle.pooma_field.specs.ShapeOf.{shape_of}
use Rattle.pooma_field.specs.Shapes.{Shaped}
use Rattle.pooma_text.specs.Lines.{text_at}
use Rattle.pooma_model.specs.Declarations.{shape_at}
use Rattle.pooma_script.specs.declared.names.Named.{Named}
use Rattle.pooma_script.specs.declared.names.Named.TheVariants as named
use Rattle.pooma_script.specs.Known.{array_named, declared_in, named_at}
use Rattle.pooma_script.specs.Views.{Reading, reading_by, subs_of}
use Rattle.pooma_check.specs.Kept.{known_of}
use Rattle.pooma_check.proofs.lookup.reading_of_name.Goals as goal

pub shape-requires : goal.shape-requires
shape-requires c =
    let wrap : Named → Option Named = λ x. Some x in
    c.requires.kept.known.there (text_at c.args.text.now c.args.name) (named.Array c.in-Some-Array.array)
    (sym c.named.ensures ∙ c.in-Some-Array.is ∙ ap wrap c.in-Some-Array.field-0-is)

pub returns : goal.returns
returns c =
    let wrap : Named → Option Named = λ x. Some x in
    let known = known_of c.args.known.now in
    let stencil = option_copied c.args.stencil in
    let written = option_copied c.args.written in
    let what : named_at known c.args.text.now c.args.name ≡ Some (named.Array c.in-Some-Array.array) =
    sym c.named.ensures ∙ c.in-Some-Array.is ∙ ap wrap c.in-Some-Array.field-0-is in
    let shape : shape_at (declared_in known) c.in-Some-Array.array ≡ shape_of c.shape.result.now =
    get_or_from_slice_get (declared_in known).shapes c.in-Some-Array.array (shape_of c.shape.result.now) _ c.shape.ensures in
    let of_shape : Shaped → Reading = λ s. reading_by c.in-Some-Array.array stencil (subs_of s written) in
    let of_name : Option Named → Reading = λ o. reading_by (array_named o) stencil (subs_of (shape_at (declared_in known) (array_named o)) written) in
    c.new.ensures ∙ ap of_shape (sym shape) ∙ ap of_name (sym what)
