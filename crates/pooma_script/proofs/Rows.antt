-- The definitions on worked lines.
use Rattle.std.proofs.Common.{◌≡◌, ℕ, pos, negsuc, [], ◌∷◌, Some, None, refl, arith, lit<}
use Rattle.std.proofs.lemmas.Int.{ints}
use Rattle.std.specs.Prelude.{codes, false}
use Rattle.pooma_text.specs.declared.span.Span.{Span}
use Rattle.pooma_parse.specs.declared.form.RawExpr.TheVariants as tree
use Rattle.pooma_parse.specs.declared.form.RawLine.{RawLine}
use Rattle.pooma_parse.specs.declared.form.RawLine.TheVariants as line
use Rattle.pooma_parse.specs.declared.form.RawSub.TheVariants.{Range}
use Rattle.pooma_script.specs.declared.names.Named.TheVariants.{Array}
use Rattle.pooma_script.specs.After.{after}
use Rattle.pooma_script.specs.Known.{Known, named_at, nothing_known}
use Rattle.pooma_script.specs.Statements.{task_of}
use Rattle.pooma_script.specs.Tests.{HasNumbers, has_names}
use Rattle.pooma_script.specs.Views.{count_to}

abbrev span : ℕ → ℕ → Span
span start end = record { start = start; end = end }

-- brick A (0:3)
abbrev one_brick : Known
one_brick = after 1 nothing_known (codes "brick A (0:3)") (line.Brick (span 6 7) ((pos 0, pos 3) ∷ []))

the_name : named_at one_brick (codes "print A") (span 6 7) ≡ Some (Array 0)
the_name = refl

another_name : named_at one_brick (codes "print B") (span 6 7) ≡ None
another_name = refl

-- brick A (0:3) again: the name is taken
taken : has_names one_brick.names (codes "brick A (0:3)") (line.Brick (span 6 7) ((pos 0, pos 3) ∷ [])) ≡ false
taken = refl

-- ranges: 0:5:10 has one number, 3:2 none, 9:0:-1 ten, and a stride of 0 none
one_number : count_to (pos 0) (pos 5) (pos 10) ≡ 1
one_number = refl

no_number : count_to (pos 3) (pos 2) (pos 1) ≡ 0
no_number = refl

ten_numbers : count_to (pos 9) (pos 0) (negsuc 0) ≡ 10
ten_numbers = refl

no_stride : count_to (pos 0) (pos 9) (pos 0) ≡ 0
no_stride = refl

-- print A[3:2] is empty
abbrev backwards : RawLine
backwards = line.PrintView (record { name = span 6 7; subs = Some (Range (pos 3) (pos 2) (pos 1) ∷ []) })

is_empty : HasNumbers one_brick (codes "print A[3:2]") backwards → ⊥
is_empty h = absurd (omega (arith, ints, (h 0 (record { stencil = None; view = record { array = 0; slots = [] }; positions = [] }) (lit< tt)).0 0 (record { first = pos 0; last = pos 0 }) (lit< tt)))

-- scalar s = A has a view with an axis
abbrev whole_brick : RawLine
whole_brick = line.Scalar (span 7 8) (tree.View (record { name = span 11 12; subs = None }))

positions_of_whole : (task_of one_brick (codes "scalar s = A") whole_brick).positions ≡ []
positions_of_whole = refl
