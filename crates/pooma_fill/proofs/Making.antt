-- Fills make numbers of 64 bits, where the constants of updaters are such.
use Rattle.std.proofs.Common.{refl, sym, subst}
use Rattle.std.proofs.lemmas.List.{map-append}
use Rattle.std.proofs.lemmas.List.Elements.{All-append, All-cons, All-filter, All-head, All-nil, All-push, All-tail}
use Rattle.std.specs.List.{cons_option, filter_map}
use Rattle.std.specs.Option.{ForSome, option_map_or}
use Rattle.std.specs.Prelude.{◌≡◌, ℕ, suc, Bool, true, false, Option, None, Some, option_map, List, [], ◌∷◌, ◌++◌, flat_map, slice_index_or, All, if◌then◌else◌}
use Rattle.pooma_field.specs.declared.faces.Ends.{Ends}
use Rattle.pooma_field.specs.declared.shapes.Shape.{Shape}
use Rattle.pooma_field.specs.declared.shapes.Slab.{Slab}
use Rattle.pooma_field.specs.Shapes.{Shaped}
use Rattle.pooma_field.specs.ShapeOf.{shape_of}
use Rattle.pooma_field.specs.Slabs.{is_deep, slab_at, slabs_beside, slabs_of}
use Rattle.pooma_layout.specs.Axes.{CutAxis}
use Rattle.pooma_model.specs.declared.statement.Action.{Action}
use Rattle.pooma_piece.specs.Words.{GiveWords, GivesWord, HaveWords, MakesWords}
use Rattle.pooma_store.specs.Numbering.{layout_at, patch_count}
use Rattle.pooma_fill.specs.declared.stale.Array.{Array}
use Rattle.pooma_fill.specs.declared.stale.Mark.{Mark}
use Rattle.pooma_fill.specs.Boxes.{box_of, numbers_below}
use Rattle.pooma_fill.specs.Filling.{cells_filled, fill_of_box, fills_of_field, fills_of_patch, fills_of_slab, patches_of}
use Rattle.pooma_fill.specs.Kept.{shapes_of}
use Rattle.pooma_fill.specs.Marks.{fills_from, fills_if, is_needed}
use Rattle.pooma_fill.proofs.SlabFills.{of_mapped}

all_flat : {X Y : Type 0} (P : Y → Type 0) (f : X → List Y) (xs : List X) → All (λ x. All P (f x)) xs → All P (flat_map f xs)
all_flat P f [] each = All-nil P
all_flat P f (x ∷ xs) each =
    All-append P (f x) (flat_map f xs) (All-head (λ y. All P (f y)) x xs each) (all_flat P f xs (All-tail (λ y. All P (f y)) x xs each))

all_flat_of : {X Y : Type 0} (P : Y → Type 0) (f : X → List Y) → ((x : X) → All P (f x)) → (xs : List X) → All P (flat_map f xs)
all_flat_of P f each [] = All-nil P
all_flat_of P f each (x ∷ xs) = All-append P (f x) (flat_map f xs) (each x) (all_flat_of P f each xs)

all_chosen : {X Y : Type 0} (P : Y → Type 0) (f : X → Option Y) → ((x : X) (y : Y) → f x ≡ Some y → P y) → (xs : List X) → All P (filter_map f xs)
all_chosen P f each [] = All-nil P
all_chosen {X} {Y} P f each (x ∷ xs) = by (f x) (each x) (all_chosen P f each xs)
  where
    by : (o : Option Y) → ((y : Y) → o ≡ Some y → P y) → All P (filter_map f xs) → All P (cons_option o (filter_map f xs))
    by None here rest = rest
    by (Some y) here rest = All-cons P y (filter_map f xs) (here y refl) rest

-- ---- the slabs of a field

slabs_give : (shape : Shaped) (n : ℕ) (faces : List Ends) → All GiveWords faces → All (λ slab. GivesWord slab.updater) (slabs_beside shape n faces)
slabs_give shape n [] words = All-nil (λ (slab : Slab). GivesWord slab.updater)
slabs_give shape n (ends ∷ faces) words =
    let here : GiveWords ends = All-head GiveWords ends faces words in
    All-cons (λ (slab : Slab). GivesWord slab.updater) (slab_at shape n false ends.low) (slab_at shape n true ends.high ∷ slabs_beside shape (suc n) faces) here.0
    (All-cons (λ (slab : Slab). GivesWord slab.updater) (slab_at shape n true ends.high) (slabs_beside shape (suc n) faces) here.1
    (slabs_give shape (suc n) faces (All-tail GiveWords ends faces words)))

field_gives : (shape : Shape) → HaveWords shape → All (λ slab. GivesWord slab.updater) (slabs_of (shape_of shape))
field_gives shape words =
    All-filter is_deep (λ (slab : Slab). GivesWord slab.updater) (option_map_or (slabs_beside (shape_of shape) 0) shape.faces []) (by shape.faces words)
  where
    by : (faces : Option (List Ends)) → ForSome faces (λ all. All GiveWords all) → All (λ slab. GivesWord slab.updater) (option_map_or (slabs_beside (shape_of shape) 0) faces [])
    by None some = All-nil (λ (slab : Slab). GivesWord slab.updater)
    by (Some faces) some = slabs_give (shape_of shape) 0 faces (some faces refl)

-- ---- fills

module _ (layouts : List (List CutAxis)) (number : ℕ) where
  patch_makes : (shape : Shape) (array : ℕ) (slab : Slab) → GivesWord slab.updater → (target : ℕ) → All MakesWords (fills_of_patch layouts number shape array slab target)
  patch_makes shape array slab gives target =
      all_chosen MakesWords
      (λ source. option_map (fill_of_box layouts number shape array slab target) (box_of (cells_filled (layout_at layouts array) (shape_of shape) slab target source)))
      (λ source piece is.
      let found = of_mapped (fill_of_box layouts number shape array slab target) (box_of (cells_filled (layout_at layouts array) (shape_of shape) slab target source)) piece is in
      subst MakesWords found.2 gives)
      (patches_of slab.updater (patch_count (layout_at layouts array)))

  field_makes : (shape : Shape) (array : ℕ) → HaveWords shape → All MakesWords (fills_of_field layouts number shape array)
  field_makes shape array words =
      all_flat MakesWords (fills_of_slab layouts number shape array) (slabs_of (shape_of shape))
      (λ k d below.
      let slab = slice_index_or (slabs_of (shape_of shape)) k d in
      all_flat_of MakesWords (fills_of_patch layouts number shape array slab) (patch_makes shape array slab (field_gives shape words k d below)) (numbers_below (patch_count (layout_at layouts array))))

  pub fills_make : (does : Action) (ss : List Shape) (ms : List Mark) (first : ℕ) → All HaveWords ss → All MakesWords (fills_from layouts number does first ss ms)
  fills_make does [] ms first words = All-nil MakesWords
  fills_make does (s ∷ ss) [] first words = All-nil MakesWords
  fills_make does (s ∷ ss) (m ∷ ms) first words =
      All-append MakesWords (fills_if layouts number does first s m) (fills_from layouts number does (suc first) ss ms)
      (by (is_needed does first s m)) (fills_make does ss ms (suc first) (All-tail HaveWords s ss words))
    where
      by : (needed : Bool) → All MakesWords (if needed then fills_of_field layouts number s first else [])
      by true = field_makes s first (All-head HaveWords s ss words)
      by false = All-nil MakesWords

-- an array more
pub words_pushed : (arrays all : List Array) (made : Array) → all ≡ arrays ++ made ∷ [] → All HaveWords (shapes_of arrays) → HaveWords made.shape → All HaveWords (shapes_of all)
words_pushed arrays all made is words here =
    subst (λ (list : List Array). All HaveWords (shapes_of list)) (sym is)
    (subst (All HaveWords) (sym (map-append (λ (a : Array). a.shape) arrays (made ∷ []))) (All-push HaveWords (shapes_of arrays) made.shape words here))
