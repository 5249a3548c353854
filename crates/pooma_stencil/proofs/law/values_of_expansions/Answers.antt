use Rattle.std.proofs.Common.{refl}
use Rattle.pooma_stencil.specs.Expansions.{expansion}
use Rattle.pooma_stencil.proofs.Expanded.{parts_of_expansion, value-expansion}
use Rattle.pooma_stencil.proofs.ViewsRead.{all_are_read}
use Rattle.pooma_stencil.proofs.law.values_of_expansions.Goals as goal

pub returns : goal.returns
returns c = record {
  parts = λ s v area is has box inside. parts_of_expansion s v (expansion s v) refl (all_are_read s v area is has box inside);
  value = λ s v area is has box inside. value-expansion s v (expansion s v) refl (all_are_read s v area is has box inside);
}
