use Rattle.std.proofs.Common.{ap, sym, subst, ◌≡◌, ◌∷◌, ◌∙◌}
use Rattle.pooma_domain.specs.Cells.{IsBox}
use Rattle.pooma_domain.specs.Axes.{interval_of}
use Rattle.pooma_layout.specs.Patches.{physical_of}
use Rattle.pooma_layout.proofs.Stepping.{first_and_later, within_is_box, physical_within}
use Rattle.pooma_layout.proofs.patches.+physical.Goals as goal

pub after-requires : goal.after-requires
after-requires t c =
    let split = first_and_later c.args.axes.now c.first-item.result c.in-len1-up.len_at_least c.first-item.is in
    let whole : interval_of c.physical-in-len1-up.result ∷ c.physical.result ≡ physical_of c.args.axes.now =
    ap (λ i. i ∷ c.physical.result) c.physical-in-len1-up.ensures ∙ ap (λ is. c.first-item.result.physical ∷ is) c.physical.ensures ∙ sym (ap physical_of split) in
    subst IsBox (sym whole) (within_is_box c.args.axes.now (physical_of c.args.axes.now) c.requires.valid c.requires.few (physical_within c.args.axes.now c.requires.valid))
