-- What the lines before a line have made known.
use Rattle.std.specs.Prelude.{ℕ, Bool, true, false, List, [], Option, Some, None, map, slice_index_or}
use Rattle.std.specs.Map.{lookup}
use Rattle.std.specs.Str.{bytes_eq}
use Rattle.pooma_text.specs.declared.span.Span.{Span}
use Rattle.pooma_text.specs.Lines.{text_at}
use Rattle.pooma_layout.specs.Axes.{CutAxis}
use Rattle.pooma_layout.specs.Blocks.{product}
use Rattle.pooma_model.specs.Declarations.{Declared}
use Rattle.pooma_model.specs.Order.{Drafted, empty_draft}
use Rattle.pooma_script.specs.declared.names.Named.{Named}
use Rattle.pooma_script.specs.declared.names.Named.TheVariants as named
use Rattle.pooma_stencil.specs.Stencils.{Stenciled}
use Rattle.pooma_script.specs.Bodies.{no_stencil}

-- each name that is declared, with what it names
abbrev pub Names : Type 0
Names = List (List ℕ × Named)

-- what the name at this part of a line names
abbrev pub named_in : Names → List ℕ → Span → Option Named
named_in names line name = lookup (bytes_eq (text_at line name)) names

-- The names with what they name; the layouts and stencils that have names; the program so far, which has the arrays and the
-- scalars; and how many cells are allocated, statements executed and values printed, those in repeats as often as they will be.
pub record Known : Type 0 where
  pub names : Names
  pub layouts : List (List CutAxis)
  pub stencils : List Stenciled
  pub drafted : Drafted
  pub allocated : ℕ
  pub executed : ℕ
  pub printed : ℕ

-- before the first line
abbrev pub nothing_known : Known
nothing_known = record {
  names = [];
  layouts = [];
  stencils = [];
  drafted = empty_draft;
  allocated = 0;
  executed = 0;
  printed = 0;
}

-- the arrays and scalars that are declared
abbrev pub declared_in : Known → Declared
declared_in known = known.drafted.declared

-- how often a line is done that stands in all open repeats
abbrev pub turns_in : Known → ℕ
turns_in known = product (map (λ frame. frame.turns) known.drafted.open_repeats)

abbrev pub named_at : Known → List ℕ → Span → Option Named
named_at known line name = named_in known.names line name

-- the number of the array, the layout, the stencil that is named
abbrev pub array_named : Option Named → ℕ
array_named (Some (named.Array n)) = n
array_named other = 0

abbrev pub layout_named : Known → Option Named → List CutAxis
layout_named known (Some (named.Layout n)) = slice_index_or known.layouts n []
layout_named known other = []

abbrev pub stencil_named : Known → Option Named → Stenciled
stencil_named known (Some (named.Stencil n)) = slice_index_or known.stencils n no_stencil
stencil_named known other = no_stencil

-- whether a name may be declared: it names nothing yet
abbrev pub is_new : Option Named → Bool
is_new None = true
is_new (Some other) = false

-- what a name may name
abbrev pub is_layout : Option Named → Bool
is_layout (Some (named.Layout n)) = true
is_layout other = false

abbrev pub is_array : Option Named → Bool
is_array (Some (named.Array n)) = true
is_array other = false

abbrev pub is_stencil : Option Named → Bool
is_stencil (Some (named.Stencil n)) = true
is_stencil other = false

abbrev pub is_scalar : Option Named → Bool
is_scalar (Some (named.Scalar n)) = true
is_scalar other = false
