use Rattle.pooma_view.specs.Overlap.{IsOverlap}
use Rattle.pooma_view.specs.Views.{Viewed}
use Rattle.std.specs.Prelude.{flat_map}
use Rattle.pooma_script.proofs.Heads.{flat_by_head, others}
use Rattle.pooma_script.proofs.Offsets.{all_of_both}
use Rattle.pooma_check.specs.Readings.{views_of_reading}
use Rattle.pooma_check.proofs.apart.+all_are_apart.Goals as goal

pub returns-in-len1-up : goal.returns-in-len1-up
returns-in-len1-up t c =
    let readings = c.args.readings.now in
    let Apart : Viewed → Type 0 = λ view. IsOverlap view c.args.target.now → ⊥ in
    all_of_both Apart (views_of_reading c.reading-item.result) (flat_map views_of_reading (others readings)) (flat_map views_of_reading readings)
    c.is_apart.result c.all_are_apart.result c.both.result
    (flat_by_head views_of_reading readings c.reading-item.result c.in-len1-up.len_at_least c.reading-item.is)
    c.is_apart.ensures c.all_are_apart.ensures c.both.ensures
