use Rattle.std.proofs.Common.{◌≡◌, ◌*◌, List, length, sym, ap, ◌∙◌}
use Rattle.std.proofs.lemmas.List.{length-map}
use Rattle.std.specs.Prelude.{map}
use Rattle.pooma_layout.specs.Axes.{CutAxis}
use Rattle.pooma_script.specs.Operators.{updater_of}
use Rattle.pooma_script.proofs.Shapes.{by_axis_length}
use Rattle.pooma_check.proofs.declare.take_field.Goals as goal

pub shape_over-shape-requires : goal.shape_over-shape-requires
shape_over-shape-requires c = λ x is.
    let long : length (map updater_of c.args.faces.now) ≡ 2 * length c.in_ok-layout.layout =
    length-map c.args.faces.now updater_of ∙ (c.requires.faced ∙ ap (λ (l : List CutAxis). 2 * length l) (sym c.in_ok-layout.ensures)) in
    let same : c.faces_of.result ≡ x = cc in
    ap length (sym same) ∙ (ap length c.faces_of.ensures ∙ (by_axis_length (map updater_of c.args.faces.now) (length c.in_ok-layout.layout) long
    ∙ sym (length-map c.in_ok-layout.layout (λ axis. axis.physical))))
