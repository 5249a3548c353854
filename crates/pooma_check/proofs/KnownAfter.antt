-- What holds between two lines holds after a line that has no cause.
use Rattle.std.proofs.Common.{◌≡◌, ◌⊎◌, inl, inr, ℕ, ◌+◌, ◌≤◌, Bool, true, false, cond, List, [], ◌∷◌, ◌++◌, length, Option, None, Some, refl, sym, ap, subst, ◌∙◌, arith}
use Rattle.std.proofs.lemmas.List.{length-append}
use Rattle.std.specs.Map.{lookup}
use Rattle.std.specs.Str.{bytes_eq}
use Rattle.pooma_text.specs.Lines.{text_at}
use Rattle.pooma_field.specs.Shapes.{Shaped}
use Rattle.pooma_layout.specs.Axes.{CutAxis}
use Rattle.pooma_stencil.specs.Stencils.{Stenciled}
use Rattle.pooma_parse.specs.declared.form.RawLine.{RawLine}
use Rattle.pooma_parse.specs.declared.form.RawLine.TheVariants as line
use Rattle.pooma_model.specs.declared.statement.Action.{Action}
use Rattle.pooma_model.specs.Declarations.{Declared}
use Rattle.pooma_script.specs.declared.names.Named.{Named}
use Rattle.pooma_script.specs.declared.names.Named.TheVariants as named
use Rattle.pooma_script.specs.After.{after, with_action, with_action_of, with_declaration, with_layout, with_new_array, with_scalar, with_stencil}
use Rattle.pooma_script.specs.Known.{Known, Names, declared_in, layout_named, named_at}
use Rattle.pooma_script.specs.Layouts.{axes_of, brick_of}
use Rattle.pooma_script.specs.Statements.{action_of}
use Rattle.pooma_check.specs.Kept.{IsKnown, IsThere}
use Rattle.pooma_check.specs.Sound.{IsLimited}
use Rattle.pooma_check.proofs.Counting.{declared_end, declared_with, executed_end, executed_of, executed_repeat, executed_with}

-- what is named is there
abbrev pub AreThere : Known → Type 0
AreThere known = (name : List ℕ) (what : Named) → lookup (bytes_eq name) known.names ≡ Some what → IsThere known what

-- as much is there and maybe more
record HasMore (old new : Known) : Type 0 where
  layouts : length old.layouts ≤ length new.layouts
  shapes : length (declared_in old).shapes ≤ length (declared_in new).shapes
  stencils : length old.stencils ≤ length new.stencils
  scalars : (declared_in old).scalars ≤ (declared_in new).scalars

there_more : (old new : Known) (what : Named) → HasMore old new → IsThere old what → IsThere new what
there_more old new (named.Layout n) more h = omega (arith, h, more.layouts)
there_more old new (named.Array n) more h = omega (arith, h, more.shapes)
there_more old new (named.Stencil n) more h = omega (arith, h, more.stencils)
there_more old new (named.Scalar n) more h = omega (arith, h, more.scalars)

by_entry : (b : Bool) (here what : Named) (old new : Option Named) (last : Named) → (new ≡ Some what → (old ≡ Some what) ⊎ (last ≡ what))
    → cond b (Some here) new ≡ Some what → (cond b (Some here) old ≡ Some what) ⊎ (last ≡ what)
by_entry true here what old new last f h = inl h
by_entry false here what old new last f h = f h

last_found : (b : Bool) (last what : Named) → cond b (Some last) None ≡ Some what → (None ≡ Some what) ⊎ (last ≡ what)
last_found true last what h = inr cc
last_found false last what h = inl h

-- what is found with one entry more was found before, or is the entry's
found_with : (is : List ℕ → Bool) (names : Names) (name : List ℕ) (last what : Named) → lookup is (names ++ (name, last) ∷ []) ≡ Some what
    → (lookup is names ≡ Some what) ⊎ (last ≡ what)
found_with is [] name last what h = last_found (is name) last what h
found_with is (entry ∷ names) name last what h =
    by_entry (is entry.0) entry.1 what (lookup is names) (lookup is (names ++ (name, last) ∷ [])) last (found_with is names name last what) h

-- with a new name that is there, all that is named is there
are_there_with : (old new : Known) (name : List ℕ) (last : Named) → new.names ≡ old.names ++ (name, last) ∷ [] → HasMore old new → IsThere new last
    → AreThere old → AreThere new
are_there_with old new name last is more here there sought what found =
    by (found_with (bytes_eq sought) old.names name last what (ap (lookup (bytes_eq sought)) (sym is) ∙ found))
  where
    by : (lookup (bytes_eq sought) old.names ≡ Some what) ⊎ (last ≡ what) → IsThere new what
    by (inl h) = there_more old new what more (there sought what h)
    by (inr h) = subst (IsThere new) h here

-- with the same names
are_there_still : (old new : Known) → new.names ≡ old.names → HasMore old new → AreThere old → AreThere new
are_there_still old new is more there sought what found =
    there_more old new what more (there sought what (ap (lookup (bytes_eq sought)) (sym is) ∙ found))

module _ (known : Known) (there : AreThere known) where
  there_layout : (name : List ℕ) (layout : List CutAxis) → AreThere (with_layout name layout known)
  there_layout name layout =
      let longer = length-append known.layouts (layout ∷ []) in
      are_there_with known (with_layout name layout known) name (named.Layout (length known.layouts)) refl
      (record { layouts = omega (arith, longer); shapes = omega arith; stencils = omega arith; scalars = omega arith }) (omega (arith, longer)) there

  there_stencil : (name : List ℕ) (stencil : Stenciled) → AreThere (with_stencil name stencil known)
  there_stencil name stencil =
      let longer = length-append known.stencils (stencil ∷ []) in
      are_there_with known (with_stencil name stencil known) name (named.Stencil (length known.stencils)) refl
      (record { layouts = omega arith; shapes = omega arith; stencils = omega (arith, longer); scalars = omega arith }) (omega (arith, longer)) there

  there_array : (name : List ℕ) (shape : Shaped) (layout : List CutAxis) → AreThere (with_new_array name shape layout known)
  there_array name shape layout =
      let longer = length-append (declared_in known).shapes (shape ∷ []) in
      are_there_with known (with_new_array name shape layout known) name (named.Array (length (declared_in known).shapes)) refl
      (record { layouts = omega arith; shapes = omega (arith, longer); stencils = omega arith; scalars = omega arith }) (omega (arith, longer)) there

  there_scalar : (name : List ℕ) (what : Option Named) → AreThere (with_scalar name what known)
  there_scalar name (Some what) = there
  there_scalar name None =
      are_there_with known (with_scalar name None known) name (named.Scalar (declared_in known).scalars) refl
      (record { layouts = omega arith; shapes = omega arith; stencils = omega arith; scalars = omega arith }) (omega arith) there

  -- with as many arrays and scalars
  there_same : (new : Known) → new.names ≡ known.names → new.layouts ≡ known.layouts → new.stencils ≡ known.stencils → declared_in new ≡ declared_in known → AreThere new
  there_same new names layouts stencils declared =
      are_there_still known new names (record {
        layouts = let e = ap length layouts in omega (arith, e);
        shapes = let e = ap (λ (d : Declared). length d.shapes) declared in omega (arith, e);
        stencils = let e = ap length stencils in omega (arith, e);
        scalars = let e = ap (λ (d : Declared). d.scalars) declared in omega (arith, e);
      }) there

  there_declared : (text : List ℕ) (form : RawLine) → AreThere (with_declaration known text form)
  there_declared text (line.Layout layout domain cutting internal external) = there_layout (text_at text layout) _
  there_declared text (line.Brick brick domain) = there_array (text_at text brick) _ (brick_of (axes_of domain))
  there_declared text (line.Array array on) = there_array (text_at text array) _ (layout_named known (named_at known text on))
  there_declared text (line.Field field on faces) = there_array (text_at text field) _ (layout_named known (named_at known text on))
  there_declared text (line.Stencil stencil lower upper body) = there_stencil (text_at text stencil) _
  there_declared text (line.Scalar scalar value) = there_scalar (text_at text scalar) (named_at known text scalar)
  there_declared text (line.Reduce scalar word value) = there_scalar (text_at text scalar) (named_at known text scalar)
  there_declared text (line.Repeat turns) = there_same (with_declaration known text (line.Repeat turns)) refl refl refl refl
  there_declared text line.End = there_same (with_declaration known text line.End) refl refl refl (declared_end known.drafted)
  there_declared text other = there

there_action : (number : ℕ) (does : Option Action) (known : Known) → AreThere known → AreThere (with_action_of number does known)
there_action number None known there = there
there_action number (Some action) known there =
    there_same known there (with_action number action known) refl refl refl
    (declared_with (record { line = number; action = action } ∷ []) known.drafted.statements known.drafted.open_repeats known.drafted.declared)

-- the executed statements are those of the draft
abbrev AreCounted : Known → Type 0
AreCounted known = known.executed ≡ executed_of known.drafted

counted_scalar : (name : List ℕ) (what : Option Named) (known : Known) → AreCounted known → AreCounted (with_scalar name what known)
counted_scalar name (Some what) known h = h
counted_scalar name None known h = h

counted_declared : (known : Known) (text : List ℕ) (form : RawLine) → AreCounted known → AreCounted (with_declaration known text form)
counted_declared known text (line.Scalar scalar value) h = counted_scalar (text_at text scalar) (named_at known text scalar) known h
counted_declared known text (line.Reduce scalar word value) h = counted_scalar (text_at text scalar) (named_at known text scalar) known h
counted_declared known text (line.Repeat turns) h = h ∙ sym (executed_repeat _ known.drafted)
counted_declared known text line.End h = h ∙ sym (executed_end known.drafted)
counted_declared known text other h = h

counted_action : (number : ℕ) (does : Option Action) (known : Known) → AreCounted known → AreCounted (with_action_of number does known)
counted_action number None known h = h
counted_action number (Some action) known h =
    let more = executed_with (record { line = number; action = action } ∷ []) known.drafted in omega (arith, more, h)

-- what holds before a line holds after it
pub known_after : (number : ℕ) (known : Known) (text : List ℕ) (form : RawLine) → IsKnown known → IsLimited number known text form → IsKnown (after number known text form)
known_after number known text form holds limits = record {
  there = there_action number (action_of known text form) (with_declaration known text form) (there_declared known holds.there text form);
  statements = counted_action number (action_of known text form) (with_declaration known text form) (counted_declared known text form holds.statements);
  allocated = limits.allocated_cells;
  executed = limits.statements;
  printed = limits.printed;
}

-- a line declares a scalar at the most
scalars_scalar : (name : List ℕ) (what : Option Named) (known : Known) → (declared_in (with_scalar name what known)).scalars ≤ (declared_in known).scalars + 1
scalars_scalar name (Some what) known = omega arith
scalars_scalar name None known = omega arith

scalars_declared : (known : Known) (text : List ℕ) (form : RawLine) → (declared_in (with_declaration known text form)).scalars ≤ (declared_in known).scalars + 1
scalars_declared known text (line.Scalar scalar value) = scalars_scalar (text_at text scalar) (named_at known text scalar) known
scalars_declared known text (line.Reduce scalar word value) = scalars_scalar (text_at text scalar) (named_at known text scalar) known
scalars_declared known text line.End = let same = ap (λ (d : Declared). d.scalars) (declared_end known.drafted) in omega (arith, same)
scalars_declared known text other = omega arith

scalars_action : (number : ℕ) (does : Option Action) (known : Known) → (declared_in (with_action_of number does known)).scalars ≡ (declared_in known).scalars
scalars_action number None known = refl
scalars_action number (Some action) known =
    ap (λ (d : Declared). d.scalars) (declared_with (record { line = number; action = action } ∷ []) known.drafted.statements known.drafted.open_repeats known.drafted.declared)

pub scalars_after : (number : ℕ) (known : Known) (text : List ℕ) (form : RawLine) → (declared_in (after number known text form)).scalars ≤ (declared_in known).scalars + 1
scalars_after number known text form =
    let a = scalars_action number (action_of known text form) (with_declaration known text form) in
    let b = scalars_declared known text form in omega (arith, a, b)
