-- What the code keeps of what is known.
use Rattle.std.specs.Prelude.{◌≡◌, ℕ, ◌+◌, ◌*◌, ◌<◌, ◌≤◌, List, [], ◌∷◌, ◌++◌, length, map, min, Some}
use Rattle.std.specs.Map.{lookup}
use Rattle.std.specs.Str.{bytes_eq}
use Rattle.pooma_layout.specs.Blocks.{product}
use Rattle.pooma_parse.specs.declared.form.RawLine.{RawLine}
use Rattle.pooma_parse.specs.declared.form.RawLine.TheVariants as line
use Rattle.pooma_model.specs.Order.{Frame}
use Rattle.pooma_script.specs.declared.count.TheConstants.{CAP}
use Rattle.pooma_script.specs.declared.names.Named.{Named}
use Rattle.pooma_script.specs.declared.names.Named.TheVariants as named
use Rattle.pooma_script.specs.declared.cause.LimitName.TheVariants as limit
use Rattle.pooma_script.specs.After.{with_declaration}
use Rattle.pooma_script.specs.Known.{Known, declared_in}
use Rattle.pooma_script.specs.Limits.{most}
use Rattle.pooma_check.specs.declared.known.Known.{Known as Kept}

-- what is known by what is kept
abbrev pub known_of : Kept → Known
known_of k = record {
  names = k.names;
  layouts = k.layouts.items;
  stencils = k.stencils.items;
  drafted = k.draft;
  allocated = k.allocated;
  executed = k.executed;
  printed = k.printed;
}

-- how often a line in all of these repeats is done
abbrev pub turns_of : List Frame → ℕ
turns_of frames = product (map (λ frame. frame.turns) frames)

-- that count for each open repeat, the outermost first, or `CAP` where it is greater
abbrev pub turns_kept : List Frame → List ℕ
turns_kept [] = []
turns_kept (frame ∷ frames) = turns_kept frames ++ min (turns_of (frame ∷ frames)) CAP ∷ []

-- how many statements the open repeats will execute so far
abbrev pub executed_in : List Frame → ℕ
executed_in [] = 0
executed_in (frame ∷ frames) = turns_of (frame ∷ frames) * length frame.statements + executed_in frames

-- what has this number is there
abbrev pub IsThere : Known → Named → Type 0
IsThere known (named.Layout n) = n < length known.layouts
IsThere known (named.Array n) = n < length (declared_in known).shapes
IsThere known (named.Stencil n) = n < length known.stencils
IsThere known (named.Scalar n) = n < (declared_in known).scalars

-- What holds between two lines: what is named is there, the limits are kept, and the executed statements are those of the draft.
pub record IsKnown (known : Known) : Type 0 where
  pub there : (name : List ℕ) (what : Named) → lookup (bytes_eq name) known.names ≡ Some what → IsThere known what
  pub statements : known.executed ≡ length known.drafted.statements + executed_in known.drafted.open_repeats
  pub allocated : known.allocated ≤ most limit.AllocatedCells
  pub executed : known.executed ≤ most limit.Statements
  pub printed : known.printed ≤ most limit.PrintedValues

pub record IsKept (kept : Kept) : Type 0 where
  pub known : IsKnown (known_of kept)
  pub turns : kept.turns.items ≡ turns_kept kept.draft.open_repeats

-- what the line declares, where it is a layout or an array
abbrev pub with_array_of : Known → List ℕ → RawLine → Known
with_array_of known text (line.Layout layout domain cutting internal external) = with_declaration known text (line.Layout layout domain cutting internal external)
with_array_of known text (line.Brick brick domain) = with_declaration known text (line.Brick brick domain)
with_array_of known text (line.Array array on) = with_declaration known text (line.Array array on)
with_array_of known text (line.Field field on faces) = with_declaration known text (line.Field field on faces)
with_array_of known text other = known
