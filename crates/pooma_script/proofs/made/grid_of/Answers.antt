use Rattle.std.proofs.Common.{◌∙◌}
use Rattle.pooma_script.proofs.Borders.{blocks_made_of}
use Rattle.pooma_script.specs.Layouts.{axes_of, layers}
use Rattle.pooma_script.proofs.made.grid_of.Goals as goal

pub returns : goal.returns
returns c = blocks_made_of c.in_ok-layout.layout (axes_of c.args.domain.now) c.args.blocks.now (layers (axes_of c.args.domain.now) c.args.internal.now)
    (layers (axes_of c.args.domain.now) c.args.external.now) c.patches-patches.ensures.valid.axes (c.in_ok-layout.ensures.physical ∙ c.box_of.ensures)
    (c.in_ok-layout.ensures.internal ∙ c.layers_of-inside.ensures) (c.in_ok-layout.ensures.external ∙ c.layers_of-outside.ensures)
    (rw (← c.box_of.ensures, ← c.cell_of.ensures) c.in_ok-layout.ensures.lengths)
