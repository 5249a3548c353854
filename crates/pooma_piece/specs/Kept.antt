-- What a piece keeps beside what contracts see of it.
use Rattle.std.specs.Prelude.{◌≡◌, List, map}
use Rattle.pooma_machine.specs.declared.step.Request.{Request}
use Rattle.pooma_piece.specs.declared.source.Source.{Source}
use Rattle.pooma_piece.specs.Pieces.{Pieced, IsPiece, requests_of}
use Rattle.pooma_piece.specs.Sources.{source_of}

-- where the views of the code are read, in order
abbrev pub sources_of : Pieced → List Source
sources_of piece = map (source_of piece.write (requests_of piece)) piece.reads

-- its requests, and where its reads are found among what is lent for them
pub record IsKept (piece : Pieced) (requests : List Request) (sources : List Source) : Type 0 where
  pub valid : IsPiece piece
  pub requests_are : requests ≡ requests_of piece
  pub sources_are : sources ≡ sources_of piece
