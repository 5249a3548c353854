use Rattle.std.proofs.Common.{◌+◌, ◌≤◌, length, sym, ap, subst, ◌∙◌}
use Rattle.std.specs.Prelude.{map}
use Rattle.pooma_layout.specs.Axes.{AreBorders, IsAscending}
use Rattle.pooma_layout.specs.Blocks.{product}
use Rattle.pooma_script.proofs.Borders.{cuts_made_of}
use Rattle.pooma_script.proofs.Lists.{all_made, made_twice, zip_made}
use Rattle.pooma_script.specs.Layouts.{axes_of, layers}
use Rattle.pooma_script.proofs.made.cuts_of.Goals as goal

pub cuts-requires-clause-ascending : goal.cuts-requires-clause-ascending
cuts-requires-clause-ascending c =
    rw c.deref.ensures.value (all_made c.in_ok-lists.lists.items (λ list. list.items) IsAscending (rw c.in_ok-lists.ensures c.requires.ascending))

pub cuts-requires-clause-inside : goal.cuts-requires-clause-inside
cuts-requires-clause-inside c =
    rw (c.deref.ensures.value, c.box_of.ensures)
    (zip_made c.in_ok-lists.lists.items (λ list. list.items) (axes_of c.args.domain.now) AreBorders (rw c.in_ok-lists.ensures c.requires.inside))

pub cuts-requires-clause-patches : goal.cuts-requires-clause-patches
cuts-requires-clause-patches c =
    rw c.deref.ensures.value (subst (λ ns. product ns ≤ 256)
    (ap (map (λ list. length list + 1)) (sym c.in_ok-lists.ensures) ∙ made_twice c.in_ok-lists.lists.items (λ list. list.items) (λ list. length list + 1))
    c.requires.patches)

pub returns : goal.returns
returns c = cuts_made_of c.in_ok-layout.layout (axes_of c.args.domain.now) c.args.cuts.now (layers (axes_of c.args.domain.now) c.args.internal.now)
    (layers (axes_of c.args.domain.now) c.args.external.now) (c.in_ok-layout.ensures.physical ∙ c.box_of.ensures)
    (c.in_ok-layout.ensures.internal ∙ c.layers_of-inside.ensures) (c.in_ok-layout.ensures.external ∙ c.layers_of-outside.ensures)
    (rw c.deref.ensures.value at c.in_ok-layout.ensures.borders ∙ c.in_ok-lists.ensures)
