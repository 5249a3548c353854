use Rattle.std.proofs.Common.{◌≡◌, ◌<◌, ◌≤◌, List, [], length, Some, sym, ap, ◌∙◌, arith}
use Rattle.std.proofs.lemmas.List.{get_or_default}
use Rattle.std.proofs.lemmas.Result.{IfOk-weaker}
use Rattle.std.specs.Prelude.{slice_index_or}
use Rattle.pooma_layout.specs.Axes.{CutAxis}
use Rattle.pooma_text.specs.Lines.{text_at}
use Rattle.pooma_script.specs.declared.names.Named.TheVariants.{Layout}
use Rattle.pooma_script.specs.Known.{layout_named, named_at}
use Rattle.pooma_check.specs.Kept.{known_of}
use Rattle.pooma_check.proofs.declare.layout_at.Goals as goal

pub unreachable-requires-in_default-get : goal.unreachable-requires-in_default-get
unreachable-requires-in_default-get c =
    let found : named_at (known_of c.args.known.now) c.args.text.now c.args.name ≡ Some (Layout c.in-Some-Layout.n) =
    sym c.named.ensures ∙ (c.in-Some-Layout.is ∙ ap Some c.in-Some-Layout.field-0-is) in
    let below : c.in-Some-Layout.n < length c.args.known.now.layouts.items =
    c.requires.kept.known.there (text_at c.args.text.now c.args.name) (Layout c.in-Some-Layout.n) found in
    let beyond : length c.deref.result.now ≤ c.in-Some-Layout.n = rw c.in_default-get.is at c.get.ensures.lookup.3 in
    let same : length c.deref.result.now ≡ length c.args.known.now.layouts.items = ap length c.deref.ensures.value in
    omega (arith, below, beyond, same)

pub returns : goal.returns
returns c =
    let found : named_at (known_of c.args.known.now) c.args.text.now c.args.name ≡ Some (Layout c.in-Some-Layout.n) =
    sym c.named.ensures ∙ (c.in-Some-Layout.is ∙ ap Some c.in-Some-Layout.field-0-is) in
    let below : c.in-Some-Layout.n < length c.args.known.now.layouts.items =
    c.requires.kept.known.there (text_at c.args.text.now c.args.name) (Layout c.in-Some-Layout.n) found in
    let at : c.in-Some.layout.now ≡ slice_index_or c.deref.result.now c.in-Some-Layout.n c.in-Some.layout.now = rw c.in-Some.is at c.get.ensures.lookup.1 in
    IfOk-weaker c.copied.result _ _ (λ made is. is ∙ (at ∙ (ap (λ (l : List (List CutAxis)). slice_index_or l c.in-Some-Layout.n c.in-Some.layout.now) c.deref.ensures.value
    ∙ (get_or_default c.args.known.now.layouts.items c.in-Some-Layout.n c.in-Some.layout.now [] below ∙ sym (ap (layout_named (known_of c.args.known.now)) found))))) c.copied.ensures
