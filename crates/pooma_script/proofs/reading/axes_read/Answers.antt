use Rattle.std.proofs.Common.{◌≡◌, ◌∙◌, length, min, ap, sym}
use Rattle.pooma_script.specs.Views.{positions_left}
use Rattle.pooma_script.proofs.Extents.{length-shrunk}
use Rattle.pooma_script.proofs.reading.axes_read.Goals as goal

pub returns-in-Some : goal.returns-in-Some
returns-in-Some c =
    let positions = c.args.reading.now.positions in
    let stencil = c.in-Some.stencil.now in
    let axes : c.ranges_in-axes.result ≡ length positions = c.ranges_in-axes.ensures.value ∙ ap length c.subs.ensures.positions in
    let lower : c.dims.result ≡ length stencil.lower = c.dims.ensures.value ∙ ap length c.lower.ensures in
    let upper : c.dims-in-Some.result ≡ length stencil.upper = c.dims-in-Some.ensures.value ∙ ap length c.upper.ensures in
    c.min-in-Some.ensures ∙ ap (min c.ranges_in-axes.result) c.min.ensures
    ∙ ap (λ n. min n (min c.dims.result c.dims-in-Some.result)) axes
    ∙ ap (λ n. min (length positions) (min n c.dims-in-Some.result)) lower
    ∙ ap (λ n. min (length positions) (min (length stencil.lower) n)) upper
    ∙ sym (length-shrunk positions stencil.lower stencil.upper)
    ∙ ap (λ s. length (positions_left s positions)) c.in-Some.ensures
