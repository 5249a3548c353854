use Rattle.std.proofs.Common.{◌≡◌, map, take}
use Rattle.pooma_piece.specs.Sources.{source_of}
use Rattle.pooma_piece.proofs.source.sources_of.Given as goal

abbrev pub invariant-loop-object : goal.invariant-loop-object
invariant-loop-object l = l.sources.items ≡ map (source_of l.write l.requests) (take l.object-index l.objects)
