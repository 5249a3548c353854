use Rattle.std.proofs.Common.{ap, sym, subst, ◌≡◌, ◌∷◌, ◌∙◌}
use Rattle.pooma_domain.specs.Cells.{IsBox}
use Rattle.pooma_domain.specs.Axes.{interval_of}
use Rattle.pooma_layout.specs.Axes.{total_axis}
use Rattle.pooma_layout.specs.Patches.{total_of}
use Rattle.pooma_layout.proofs.Stepping.{first_and_later, within_is_box, total_within}
use Rattle.pooma_layout.proofs.patches.+total.Goals as goal

pub after-requires : goal.after-requires
after-requires t c =
    let split = first_and_later c.args.axes.now c.first-item.result c.in-len1-up.len_at_least c.first-item.is in
    let whole : interval_of c.total-in-len1-up.result ∷ c.total.result ≡ total_of c.args.axes.now =
    ap (λ i. i ∷ c.total.result) c.total-in-len1-up.ensures ∙ ap (λ is. total_axis c.first-item.result ∷ is) c.total.ensures ∙ sym (ap total_of split) in
    subst IsBox (sym whole) (within_is_box c.args.axes.now (total_of c.args.axes.now) c.requires.valid c.requires.few (total_within c.args.axes.now c.requires.valid))
