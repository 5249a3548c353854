use Rattle.std.proofs.Common.{eqb}
use Rattle.std.proofs.lemmas.Bool.Decides.{Decides-eqb}
use Rattle.std.proofs.lemmas.List.Elements.{Decides-contains, contains_decides}
use Rattle.pooma_text.specs.Signs.{single_signs}
use Rattle.pooma_text.proofs.scan.is_single_sign.Goals as goal

pub returns : goal.returns
returns c =
    Decides-contains single_signs c.args.byte c.contains.result
    (contains_decides eqb Decides-eqb single_signs c.args.byte c.contains.result c.contains.ensures.cases)
