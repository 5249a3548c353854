use Rattle.pooma_script.specs.Tests.{HasPositions}
use Rattle.pooma_script.proofs.Heads.{all_by_head}
use Rattle.pooma_script.proofs.places.+all_have_positions.Goals as goal

pub returns-in-len1-up : goal.returns-in-len1-up
returns-in-len1-up t c = all_by_head HasPositions c.args.readings.now c.reading-item.result c.has_positions.result c.all_have_positions.result c.both.result
    c.in-len1-up.len_at_least c.reading-item.is c.has_positions.ensures c.all_have_positions.ensures c.both.ensures
