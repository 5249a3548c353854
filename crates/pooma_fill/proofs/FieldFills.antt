-- The fills of a field, done one after another, make it fresh.
use Rattle.std.proofs.Common.{refl, sym, ap, subst, ⊎_elim, arith}
use Rattle.std.proofs.lemmas.List.Elements.{All-append, All-cons, All-contains, All-nil}
use Rattle.std.proofs.lemmas.List.Sums.{fold-append}
use Rattle.std.specs.Prelude.{◌≡◌, ◌≢◌, ℕ, suc, ◌<◌, ◌≤◌, ℤ, IsSome, List, [], ◌∷◌, fold, flat_map, length, All, AllPairs, Contains}
use Rattle.pooma_domain.specs.Cells.{IsIn}
use Rattle.pooma_field.specs.declared.shapes.Shape.{Shape}
use Rattle.pooma_field.specs.declared.shapes.Slab.{Slab}
use Rattle.pooma_field.specs.Look.{look}
use Rattle.pooma_field.specs.Numbered.{Numbered}
use Rattle.pooma_field.specs.Shapes.{IsShape, inside_from}
use Rattle.pooma_field.specs.ShapeOf.{shape_of}
use Rattle.pooma_field.specs.Slabs.{cell_sources, slabs_of}
use Rattle.pooma_field.specs.Worlds.{World, HasCell, number_of}
use Rattle.pooma_field.proofs.Lookups.{look_inside}
use Rattle.pooma_field.proofs.SlabCells.{inside_or_not}
use Rattle.pooma_field.proofs.SlabList.{slabs_ascend}
use Rattle.pooma_field.proofs.SlabValues.{IsCellOf, LiesIn, cell_of, earlier_axis, some_slab_of, sources_inside, sources_total}
use Rattle.pooma_layout.specs.Axes.{CutAxis}
use Rattle.pooma_layout.specs.Patches.{IsLayout, total_of}
use Rattle.pooma_law.specs.Ser.{Results, with_work}
use Rattle.pooma_store.specs.Numbering.{AreObjects, layout_at}
use Rattle.pooma_store.specs.Standing.{OwnerHas, StandsFor}
use Rattle.pooma_piece.specs.declared.outcome.Outcome.{Outcome}
use Rattle.pooma_piece.specs.declared.outcome.Outcome.TheVariants.{Done}
use Rattle.pooma_piece.specs.Meaning.{pieces}
use Rattle.pooma_piece.specs.Pieces.{Pieced}
use Rattle.pooma_fill.specs.Filling.{fills_of_field, fills_of_slab}
use Rattle.pooma_fill.specs.Gathered.{HasLaws}
use Rattle.pooma_fill.proofs.SlabFills.{each_fill, each_set, first_or_later, here, later}
use Rattle.pooma_fill.proofs.FillFits.{IsOver}
use Rattle.pooma_fill.proofs.OneFill.{IsOne, elsewhere, objects_after, of_cells, set, stays, still, still_stands}

-- what stays while fills of an array are done
pub record HasPassed (layouts : List (List CutAxis)) (array : ℕ) (world : World) (before after : Results Numbered Outcome) : Type 0 where
  pub are : AreObjects layouts after.objects
  pub stands : StandsFor layouts after.objects world
  pub elsewhere : (other : ℕ) (c : List ℤ) (n : ℤ) → other ≢ array → OwnerHas layouts before.objects other c n → OwnerHas layouts after.objects other c n
  pub done : All (λ o. o ≡ Done) before.outcomes → All (λ o. o ≡ Done) after.outcomes

module _ (laws : HasLaws) (layouts : List (List CutAxis)) (array : ℕ) (shape : Shape) (number : ℕ) (world : World) where
  -- cells that have what looking them up gives still have it
  abbrev pub Keeps : List Numbered → List Numbered → Type 0
  Keeps before after = (c : List ℤ) → OwnerHas layouts before array c (look (shape_of shape) (number_of world array) c) → OwnerHas layouts after array c (look (shape_of shape) (number_of world array) c)

  nothing_passed : (results : Results Numbered Outcome) → AreObjects layouts results.objects → StandsFor layouts results.objects world → HasPassed layouts array world results results
  nothing_passed results are stands = record { are = are; stands = stands; elsewhere = λ other c n apart has. has; done = λ all. all }

  both_passed : (before mid after : Results Numbered Outcome) → HasPassed layouts array world before mid → HasPassed layouts array world mid after → HasPassed layouts array world before after
  both_passed before mid after one two = record {
    are = two.are;
    stands = two.stands;
    elsewhere = λ other c n apart has. two.elsewhere other c n apart (one.elsewhere other c n apart has);
    done = λ all. two.done (one.done all);
  }

  module _ (own : (c : List ℤ) → HasCell world array c → IsIn (shape_of shape).physical c) (slab : Slab) (over : IsOver layouts array shape slab) where
    abbrev Fill : Pieced → Type 0
    Fill piece = IsOne laws layouts array shape slab over number world piece

    one_passed : (results : Results Numbered Outcome) → AreObjects layouts results.objects → StandsFor layouts results.objects world → (piece : Pieced) → Fill piece → HasPassed layouts array world results (with_work pieces results piece)
    one_passed results are stands piece fill =
        let objects = objects_after laws layouts array shape slab over number world piece fill results.objects are in
        subst (λ (w : Pieced). HasPassed layouts array world results (with_work pieces results w)) fill.is
        (record {
          are = subst (AreObjects layouts) (sym objects) (still laws layouts array shape slab over number world piece fill results.objects are);
          stands = subst (λ (os : List Numbered). StandsFor layouts os world) (sym objects) (still_stands laws layouts array shape slab over number world piece fill results.objects are own stands);
          elsewhere = λ other c n apart has. subst (λ (os : List Numbered). OwnerHas layouts os other c n) (sym objects) (elsewhere laws layouts array shape slab over number world piece fill results.objects are other c n apart has);
          done = λ all. All-append (λ o. o ≡ Done) results.outcomes (Done ∷ []) all (All-cons (λ o. o ≡ Done) Done [] refl (All-nil (λ o. o ≡ Done)));
        })

    pub all_passed : (ps : List Pieced) → ((piece : Pieced) → Contains ps piece → Fill piece) → (results : Results Numbered Outcome) → AreObjects layouts results.objects → StandsFor layouts results.objects world → HasPassed layouts array world results (fold (with_work pieces) results ps)
    all_passed [] each results are stands = nothing_passed results are stands
    all_passed (p ∷ ps) each results are stands =
        let one = one_passed results are stands p (each p (here ps p)) in
        both_passed results (with_work pieces results p) (fold (with_work pieces) (with_work pieces results p) ps) one
        (all_passed ps (λ piece there. each piece (later p ps piece there)) (with_work pieces results p) one.are one.stands)

    -- the sources of the slab's cells have what looking them up gives
    abbrev HaveSources : List Numbered → Type 0
    HaveSources objects = (c s : List ℤ) → IsIn slab.target c → Contains (cell_sources (shape_of shape) slab c) s → OwnerHas layouts objects array s (look (shape_of shape) (number_of world array) s)

    -- what fills of the slab make of its cells
    pub record HaveSet (ps : List Pieced) (before after : Results Numbered Outcome) : Type 0 where
      pub keeps : Keeps before.objects after.objects
      pub set : (piece : Pieced) (c : List ℤ) → Contains ps piece → IsIn piece.positions c → OwnerHas layouts after.objects array c (look (shape_of shape) (number_of world array) c)

    one_set : (results : Results Numbered Outcome) → AreObjects layouts results.objects → HaveSources results.objects → (piece : Pieced) → Fill piece → HaveSet (piece ∷ []) results (with_work pieces results piece)
    one_set results are sources piece fill =
        let objects = objects_after laws layouts array shape slab over number world piece fill results.objects are in
        subst (λ (w : Pieced). HaveSet (w ∷ []) results (with_work pieces results w)) fill.is
        (record {
          keeps = λ c has. subst (λ (os : List Numbered). OwnerHas layouts os array c (look (shape_of shape) (number_of world array) c)) (sym objects) (stays laws layouts array shape slab over number world piece fill results.objects are sources c has);
          set = λ p c there inside. subst (λ (os : List Numbered). OwnerHas layouts os array c (look (shape_of shape) (number_of world array) c)) (sym objects)
              (set laws layouts array shape slab over number world piece fill results.objects are sources c
              (⊎_elim (λ (same : _ ≡ p). subst (λ (w : Pieced). IsIn w.positions c) (sym same) inside) (λ none. absurd (omega (arith, none.1))) (first_or_later _ [] p there)));
        })

    pub all_set : (ps : List Pieced) → ((piece : Pieced) → Contains ps piece → Fill piece) → (results : Results Numbered Outcome) → AreObjects layouts results.objects → StandsFor layouts results.objects world → HaveSources results.objects → HaveSet ps results (fold (with_work pieces) results ps)
    all_set [] each results are stands sources = record { keeps = λ c has. has; set = λ p c there inside. absurd (omega (arith, there.1)) }
    all_set (p ∷ ps) each results are stands sources =
        let one = one_passed results are stands p (each p (here ps p)) in
        let now = one_set results are sources p (each p (here ps p)) in
        let rest = all_set ps (λ piece there. each piece (later p ps piece there)) (with_work pieces results p) one.are one.stands (λ c s inside k. now.keeps s (sources c s inside k)) in
        record {
          keeps = λ c has. rest.keeps c (now.keeps c has);
          set = λ piece c there inside. ⊎_elim
              (λ (same : p ≡ piece). rest.keeps c (now.set p c (here [] p) (subst (λ (w : Pieced). IsIn w.positions c) (sym same) inside)))
              (λ more. rest.set piece c more inside) (first_or_later p ps piece there);
        }

  -- ---- the slabs in their order

  module _ (own : (c : List ℤ) → HasCell world array c → IsIn (shape_of shape).physical c) (known : array < length layouts) (layout : IsLayout (layout_at layouts array)) (valid : IsShape (shape_of shape)) (same : (shape_of shape).total ≡ total_of (layout_at layouts array)) where
    abbrev over_slab : (slab : Slab) → Contains (slabs_of (shape_of shape)) slab → IsOver layouts array shape slab
    over_slab slab there = record { known = known; layout = layout; valid = valid; same = same; there = there }

    each_one : (slab : Slab) (there : Contains (slabs_of (shape_of shape)) slab) (piece : Pieced) → Contains (fills_of_slab layouts number shape array slab) piece → IsOne laws layouts array shape slab (over_slab slab there) number world piece
    each_one slab there piece listed = each_fill (of_cells laws) laws.meeting layouts array shape layout.axes valid same slab there number piece listed

    slabs_passed : (slabs : List Slab) → ((slab : Slab) → Contains slabs slab → Contains (slabs_of (shape_of shape)) slab) → (results : Results Numbered Outcome) → AreObjects layouts results.objects → StandsFor layouts results.objects world → HasPassed layouts array world results (fold (with_work pieces) results (flat_map (fills_of_slab layouts number shape array) slabs))
    slabs_passed [] of_field results are stands = nothing_passed results are stands
    slabs_passed (slab ∷ slabs) of_field results are stands =
        let fills = fills_of_slab layouts number shape array slab in
        let there = of_field slab (here slabs slab) in
        let one = all_passed own slab (over_slab slab there) fills (each_one slab there) results are stands in
        let rest = slabs_passed slabs (λ next h. of_field next (later slab slabs next h)) (fold (with_work pieces) results fills) one.are one.stands in
        subst (HasPassed layouts array world results) (sym (fold-append (with_work pieces) results fills (flat_map (fills_of_slab layouts number shape array) slabs)))
        (both_passed results (fold (with_work pieces) results fills) _ one rest)

    pub field_passed : (results : Results Numbered Outcome) → AreObjects layouts results.objects → StandsFor layouts results.objects world → HasPassed layouts array world results (fold (with_work pieces) results (fills_of_field layouts number shape array))
    field_passed results are stands = slabs_passed (slabs_of (shape_of shape)) (λ slab there. there) results are stands

    -- the slabs that are left are the field's, in the order of their axes, and each cell that lies in none of them has its value
    record AreLeft (objects : List Numbered) (slabs : List Slab) : Type 0 where
      ordered : AllPairs (λ (one : Slab) (later : Slab). one.axis ≤ later.axis) slabs
      of_field : (slab : Slab) → Contains slabs slab → Contains (slabs_of (shape_of shape)) slab
      done : (c : List ℤ) → IsIn (shape_of shape).total c → ((slab : Slab) → Contains slabs slab → IsIn slab.target c → ⊥) → OwnerHas layouts objects array c (look (shape_of shape) (number_of world array) c)

    sources_have : (objects : List Numbered) (slab : Slab) (slabs : List Slab) → AreLeft objects (slab ∷ slabs) → (c s : List ℤ) → IsIn slab.target c → Contains (cell_sources (shape_of shape) slab c) s → OwnerHas layouts objects array s (look (shape_of shape) (number_of world array) s)
    sources_have objects slab slabs left c s inside k =
        left.done s (total.0 s k) (λ next there in_next.
        let before = earlier_axis (shape_of shape) slab.axis next s valid (cell_of (shape_of shape) next s valid (left.of_field next there) in_next) (total.1 s k) in
        let after : slab.axis ≤ next.axis = ⊎_elim (λ (is : slab ≡ next). same_axis slab next is) (λ more. not_before next more) (first_or_later slab slabs next there) in
        omega (arith, before, after))
      where
        cell : IsCellOf (shape_of shape) slab c
        cell = cell_of (shape_of shape) slab c valid (left.of_field slab (here slabs slab)) inside

        total : ((t : List ℤ) → Contains (cell_sources (shape_of shape) slab c) t → IsIn (shape_of shape).total t) × ((t : List ℤ) → Contains (cell_sources (shape_of shape) slab c) t → IsIn (inside_from slab.axis (shape_of shape)) t)
        total = (
          λ t h. All-contains (IsIn (shape_of shape).total) (cell_sources (shape_of shape) slab c) t (sources_total (shape_of shape) slab c valid cell) h,
          λ t h. All-contains (IsIn (inside_from slab.axis (shape_of shape))) (cell_sources (shape_of shape) slab c) t (sources_inside (shape_of shape) slab c valid cell) h,
        )

        same_axis : (one other : Slab) → one ≡ other → one.axis ≤ other.axis
        same_axis one other is = let axes : one.axis ≡ other.axis = ap (λ (x : Slab). x.axis) is in omega (arith, axes)

        not_before : (next : Slab) → Contains slabs next → slab.axis ≤ next.axis
        not_before next there =
            let at = left.ordered 0 (suc there.0) next (omega arith) (omega (arith, there.1)) in
            subst (λ (x : Slab). slab.axis ≤ x.axis) there.2 at

    one_less : (results : Results Numbered Outcome) (slab : Slab) (slabs : List Slab) → AreObjects layouts results.objects → StandsFor layouts results.objects world → AreLeft results.objects (slab ∷ slabs) → AreLeft (fold (with_work pieces) results (fills_of_slab layouts number shape array slab)).objects slabs
    one_less results slab slabs are stands left =
        let there = left.of_field slab (here slabs slab) in
        let fills = fills_of_slab layouts number shape array slab in
        let sets = all_set own slab (over_slab slab there) fills (each_one slab there) results are stands (sources_have results.objects slab slabs left) in
        record {
          ordered = λ i j d before below. left.ordered (suc i) (suc j) d (omega (arith, before)) (omega (arith, below));
          of_field = λ next h. left.of_field next (later slab slabs next h);
          done = λ c total outside. ⊎_elim
              (λ inside. let by = each_set (of_cells laws) laws.meeting layouts array shape layout.axes valid same slab there number c inside in sets.set by.piece c by.listed by.inside)
              (λ not_here. sets.keeps c (left.done c total (λ next h in_next. ⊎_elim
              (λ (is : slab ≡ next). not_here (subst (λ (x : Slab). IsIn x.target c) (sym is) in_next)) (λ more. outside next more in_next) (first_or_later slab slabs next h))))
              (inside_or_not slab.target c);
        }

    none_left : (slabs : List Slab) (results : Results Numbered Outcome) → AreObjects layouts results.objects → StandsFor layouts results.objects world → AreLeft results.objects slabs → (c : List ℤ) → IsIn (shape_of shape).total c → OwnerHas layouts (fold (with_work pieces) results (flat_map (fills_of_slab layouts number shape array) slabs)).objects array c (look (shape_of shape) (number_of world array) c)
    none_left [] results are stands left c total = left.done c total (λ slab there inside. absurd (omega (arith, there.1)))
    none_left (slab ∷ slabs) results are stands left c total =
        let fills = fills_of_slab layouts number shape array slab in
        let there = left.of_field slab (here slabs slab) in
        let one = all_passed own slab (over_slab slab there) fills (each_one slab there) results are stands in
        subst (λ (r : Results Numbered Outcome). OwnerHas layouts r.objects array c (look (shape_of shape) (number_of world array) c))
        (sym (fold-append (with_work pieces) results fills (flat_map (fills_of_slab layouts number shape array) slabs)))
        (none_left slabs (fold (with_work pieces) results fills) one.are one.stands (one_less results slab slabs are stands left) c total)

    -- where the world has the field's physical cells, each of its cells has the number that looking it up gives
    pub field_filled : IsSome (shape_of shape).faces → ((c : List ℤ) → IsIn (shape_of shape).physical c → HasCell world array c) → (results : Results Numbered Outcome) → AreObjects layouts results.objects → StandsFor layouts results.objects world → (c : List ℤ) → IsIn (shape_of shape).total c → OwnerHas layouts (fold (with_work pieces) results (fills_of_field layouts number shape array)).objects array c (look (shape_of shape) (number_of world array) c)
    field_filled faced has results are stands c total =
        none_left (slabs_of (shape_of shape)) results are stands
        (record {
          ordered = slabs_ascend (shape_of shape);
          of_field = λ slab there. there;
          done = λ d d_total outside. ⊎_elim
              (λ inside. subst (OwnerHas layouts results.objects array d) (sym (look_inside (shape_of shape).faces (shape_of shape).physical (number_of world array) d inside)) (stands array d (has d inside)))
              (λ external. absurd (let lies : LiesIn (shape_of shape) d = some_slab_of (shape_of shape) d valid faced d_total external in outside lies.slab lies.there lies.inside))
              (inside_or_not (shape_of shape).physical d);
        })
        c total
