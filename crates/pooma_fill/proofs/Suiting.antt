-- Each fill that an action needs suits the store: it fits the areas of its patches, and asks for objects that are there.
use Rattle.std.proofs.Common.{refl, sym, ap, ◌∙◌, subst, ⊎_elim, arith}
use Rattle.std.proofs.lemmas.List.Elements.{Contains-append_cases}
use Rattle.std.proofs.lemmas.Option.{slice_get_within}
use Rattle.std.specs.Prelude.{◌≡◌, ℕ, suc, ◌+◌, ◌<◌, Bool, true, false, Some, List, [], ◌∷◌, length, slice_get, All, Contains, if◌then◌else◌}
use Rattle.pooma_field.specs.declared.shapes.Shape.{Shape}
use Rattle.pooma_field.specs.declared.shapes.Slab.{Slab}
use Rattle.pooma_field.specs.Shapes.{Shaped, IsShape}
use Rattle.pooma_field.specs.ShapeOf.{shape_of}
use Rattle.pooma_field.specs.Slabs.{slabs_of}
use Rattle.pooma_layout.specs.Axes.{CutAxis}
use Rattle.pooma_machine.specs.Values.{lent_by}
use Rattle.pooma_model.specs.declared.statement.Action.{Action}
use Rattle.pooma_store.specs.Numbering.{areas_of, object_count}
use Rattle.pooma_store.specs.Standing.{shape_at}
use Rattle.pooma_store.specs.Stored.{AreArrays, Stored}
use Rattle.pooma_piece.specs.Lent.{IsFitting}
use Rattle.pooma_piece.specs.Pieces.{Pieced, requests_of}
use Rattle.pooma_fill.specs.declared.stale.Mark.{Mark}
use Rattle.pooma_fill.specs.Filling.{fills_of_field, fills_of_slab}
use Rattle.pooma_fill.specs.Marks.{HasArrays, Staled, fills_before, fills_from, fills_if, is_needed}
use Rattle.pooma_fill.proofs.Marking.{shape_there}
use Rattle.pooma_fill.specs.Gathered.{HasLaws}
use Rattle.pooma_fill.proofs.SlabFills.{each_fill, in_flat}
use Rattle.pooma_fill.proofs.FillFits.{IsOver, asks_known, is_fitting}
use Rattle.pooma_fill.proofs.Freshening.{layout_there}
use Rattle.pooma_fill.proofs.OneFill.{of_cells}

-- the piece is a fill of one of these arrays, the first of which has this number
record IsOfArray (layouts : List (List CutAxis)) (number first : ℕ) (ss : List Shape) (piece : Pieced) : Type 0 where
  place : ℕ
  shape : Shape
  at : slice_get ss place ≡ Some shape
  listed : Contains (fills_of_field layouts number shape (first + place)) piece

of_array : (layouts : List (List CutAxis)) (number : ℕ) (does : Action) (ss : List Shape) (ms : List Mark) (first : ℕ) (piece : Pieced) → Contains (fills_from layouts number does first ss ms) piece → IsOfArray layouts number first ss piece
of_array layouts number does [] ms first piece h = absurd (omega (arith, h.1))
of_array layouts number does (s ∷ ss) [] first piece h = absurd (omega (arith, h.1))
of_array layouts number does (s ∷ ss) (m ∷ ms) first piece h =
    ⊎_elim
    (λ now. let same : first ≡ first + 0 = omega arith in
    record { place = 0; shape = s; at = refl; listed = subst (λ (k : ℕ). Contains (fills_of_field layouts number s k) piece) same (by (is_needed does first s m) now) })
    (λ rest. let found = of_array layouts number does ss ms (suc first) piece rest in
    let next : suc first + found.place ≡ first + suc found.place = omega arith in
    record { place = suc found.place; shape = found.shape; at = found.at; listed = subst (λ (k : ℕ). Contains (fills_of_field layouts number found.shape k) piece) next found.listed })
    (Contains-append_cases (fills_if layouts number does first s m) (fills_from layouts number does (suc first) ss ms) piece h)
  where
    by : (needed : Bool) → Contains (if needed then fills_of_field layouts number s first else []) piece → Contains (fills_of_field layouts number s first) piece
    by true here = here
    by false here = absurd (omega (arith, here.1))

pub record Suits (layouts : List (List CutAxis)) (number : ℕ) (piece : Pieced) : Type 0 where
  pub fitting : IsFitting piece (lent_by (areas_of layouts) (requests_of piece)).written (lent_by (areas_of layouts) (requests_of piece)).reads
  pub known : All (λ r. r.object < object_count layouts) (requests_of piece)
  pub statement : piece.statement ≡ number

slab_suits : HasLaws → (layouts : List (List CutAxis)) (number : ℕ) (array : ℕ) (shape : Shape) (slab : Slab) → IsOver layouts array shape slab → (piece : Pieced) → Contains (fills_of_slab layouts number shape array slab) piece → Suits layouts number piece
slab_suits laws layouts number array shape slab over piece listed =
    let fill = each_fill (of_cells laws) laws.meeting layouts array shape over.layout.axes over.valid over.same slab over.there number piece listed in
    subst (Suits layouts number) fill.is
    (record {
      fitting = is_fitting (of_cells laws) laws.meeting layouts array shape slab over number piece fill;
      known = asks_known (of_cells laws) laws.meeting layouts array shape slab over number piece fill;
      statement = refl;
    })

pub each_suits : HasLaws → (store : Stored) (stale : Staled) (number : ℕ) (does : Action) (piece : Pieced) → AreArrays store.shapes store.layouts → HasArrays store stale → Contains (fills_before store.layouts stale number does) piece → Suits store.layouts number piece
each_suits laws store stale number does piece arrays has listed =
    let found = of_array store.layouts number does stale.shapes stale.marks 0 piece listed in
    let same : 0 + found.place ≡ found.place = omega arith in
    let of_field : Contains (fills_of_field store.layouts number found.shape found.place) piece = subst (λ (k : ℕ). Contains (fills_of_field store.layouts number found.shape k) piece) same found.listed in
    let of_slab = in_flat (fills_of_slab store.layouts number found.shape found.place) (slabs_of (shape_of found.shape)) piece of_field in
    let known : found.place < length store.layouts = layout_there store stale arrays has found.place (slice_get_within stale.shapes found.place found.shape found.at) in
    let is : shape_at store.shapes found.place ≡ shape_of found.shape = shape_there store.shapes stale.shapes found.place found.shape has.shapes found.at in
    slab_suits laws store.layouts number found.place found.shape of_slab.0
    (record {
      known = known;
      layout = arrays.cut found.place known;
      valid = subst IsShape is (arrays.shaped found.place known);
      same = ap (λ (s : Shaped). s.total) (sym is) ∙ (arrays.fitting found.place known).total;
      there = of_slab.1;
    })
    piece of_slab.2
