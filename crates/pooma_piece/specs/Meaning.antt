-- What pieces mean as works over the contents of patches.
use Rattle.std.specs.Prelude.{Bool, not, List}
use Rattle.pooma_domain.specs.Cells.{Interval}
use Rattle.pooma_field.specs.Numbered.{Numbered}
use Rattle.pooma_machine.specs.Values.{Meaning}
use Rattle.pooma_patch.specs.Patched.{Patched}
use Rattle.pooma_piece.specs.declared.outcome.Outcome.{Outcome}
use Rattle.pooma_piece.specs.Effects.{answer_by, content_by}
use Rattle.pooma_piece.specs.Lent.{fits}
use Rattle.pooma_piece.specs.Pieces.{Pieced, requests_of}

-- what a patch stands for
abbrev pub content_of : Patched → Numbered
content_of patch = patch.content

-- the area of what it stands for
abbrev pub area_of : Numbered → List Interval
area_of content = content.area

-- whether a patch can be written: its numbers are not kept as one
abbrev pub is_ready : Patched → Bool
is_ready patch = not patch.one

-- the work of a piece: the shape of a patch is its area
abbrev pub pieces : Meaning Pieced Numbered Outcome (List Interval)
pieces =
    record {
      statement = λ piece. piece.statement;
      requests = requests_of;
      new_value = λ piece old reads. content_by piece.task piece old reads;
      outcome = λ piece written reads. answer_by piece.task piece written reads;
      shape = area_of;
      fits = fits;
    }
