use Rattle.pooma_split.proofs.Serving.{all_served}
use Rattle.pooma_split.proofs.laws.positions_are_served.Goals as goal

pub returns : goal.returns
returns c = λ declared scalars number does p arrays fit here. all_served c.gathered.ensures declared arrays scalars number does p fit here
