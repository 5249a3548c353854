-- Where a run stands before its first statement.
use Rattle.std.proofs.Common.{◌≡◌, refl, sym, ap, subst, ℕ, List, [], ◌∷◌, length, map, arith}
use Rattle.std.specs.Prelude.{pos, All, replicate}
use Rattle.std.proofs.lemmas.List.Elements.{All-append, All-cons, All-replicate}
use Rattle.pooma_expr.specs.Words.{IsWord}
use Rattle.pooma_domain.specs.Cells.{Interval, cells_of}
use Rattle.pooma_field.specs.Numbered.{Numbered}
use Rattle.pooma_field.specs.ShapeOf.{shape_of}
use Rattle.pooma_field.specs.Worlds.{World, opening_world}
use Rattle.pooma_fill.specs.declared.stale.Mark.{Mark}
use Rattle.pooma_fill.specs.Marks.{Staled, declared_of, first_mark}
use Rattle.pooma_layout.specs.Axes.{CutAxis}
use Rattle.pooma_layout.specs.Patches.{allocated_boxes}
use Rattle.pooma_model.specs.Declarations.{Declared}
use Rattle.pooma_model.specs.Order.{Programmed}
use Rattle.pooma_store.specs.Numbering.{new_objects, new_patches, zeros_over}
use Rattle.pooma_store.specs.Stored.{AreArrays}
use Rattle.pooma_model.specs.Serial.{serial_of}
use Rattle.pooma_piece.specs.Words.{AllWords}
use Rattle.pooma_run.specs.Gathered.{HasLaws}
use Rattle.pooma_run.specs.Underway.{IsHere, IsOf, IsUnderway, Kept, behind}
use Rattle.pooma_run.proofs.Concluding.{at_rest}
use Rattle.pooma_run.proofs.Standing.{has_arrays, store_of}

-- new objects have the number 0 alone
zero_word : IsWord (pos 0)
zero_word = record { sfits = omega arith }

zeros_words : (n : ℕ) → All IsWord (replicate n (pos 0))
zeros_words n = All-replicate IsWord n (pos 0) zero_word

none_have : AllWords []
none_have k d within = absurd (omega arith)

patches_words : (boxes : List (List Interval)) → AllWords (map zeros_over boxes)
patches_words [] = none_have
patches_words (box ∷ boxes) = All-cons (λ object. All IsWord object.numbers) (zeros_over box) (map zeros_over boxes) (zeros_words (length (cells_of box))) (patches_words boxes)

objects_words : (layouts : List (List CutAxis)) → AllWords (new_objects layouts)
objects_words [] = none_have
objects_words (layout ∷ layouts) = All-append (λ object. All IsWord object.numbers) (new_patches layout) (new_objects layouts) (patches_words (allocated_boxes layout)) (objects_words layouts)

opening_here : HasLaws → (stale : Staled) (declared : Declared) (objects : List Numbered) → declared_of stale ≡ declared → AreArrays declared.shapes declared.layouts
    → stale.marks ≡ map first_mark stale.shapes → objects ≡ new_objects declared.layouts → IsHere declared stale.marks objects (opening_world declared.shapes declared.scalars)
opening_here laws stale declared objects same arrays marks are =
    subst (λ os. IsHere declared stale.marks os (opening_world declared.shapes declared.scalars)) (sym are)
    (subst (λ (d : Declared). AreArrays d.shapes d.layouts → IsHere d stale.marks (new_objects d.layouts) (opening_world d.shapes d.scalars)) same
    (λ arrays_are. subst (λ (ms : List Mark). IsHere (declared_of stale) ms (new_objects stale.layouts) (opening_world (map shape_of stale.shapes) stale.scalars)) (sym marks)
    (record {
      world_of = laws.worlds.opening (declared_of stale);
      objects_are = laws.worlds.objects stale.layouts;
      stands = laws.worlds.stands (map shape_of stale.shapes) stale.layouts stale.scalars arrays_are;
      fresh = laws.fills.first (store_of stale) stale (new_objects stale.layouts) (opening_world (map shape_of stale.shapes) stale.scalars) (has_arrays stale);
      words = objects_words stale.layouts;
    }))
    arrays)

pub opens : HasLaws → (program : Programmed) (kept : Kept) → IsOf program kept → kept.stale.marks ≡ map first_mark kept.stale.shapes
    → kept.store.objects ≡ new_objects program.declared.layouts → kept.scalars ≡ replicate program.declared.scalars (pos 0) → kept.pending ≡ [] → kept.bytes ≡ []
    → IsUnderway program kept 0
opens laws program kept of marks objects scalars none empty =
    let world : World = opening_world program.declared.shapes program.declared.scalars in
    at_rest program kept 0 world of none
    (record {
      run = ap (λ (bs : List ℕ). behind bs (serial_of program)) (sym empty);
      first = refl;
      scalars = sym scalars;
    })
    (opening_here laws kept.stale program.declared kept.store.objects of.declared of.arrays marks objects)
