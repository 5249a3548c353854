use Rattle.std.proofs.Common.{◌≡◌, ◌∷◌, map, take}
use Rattle.std.specs.Prelude.{flat_map}
use Rattle.pooma_part.specs.CutLines.{parts_in}
use Rattle.pooma_part.proofs.cuts.with_parts.Given as goal

abbrev pub invariant-loop-rest : goal.invariant-loop-rest
invariant-loop-rest l = l.boxes.items ≡ flat_map (λ rest. map (λ part. part ∷ rest) (parts_in l.first)) (take l.rest-index l.later)
