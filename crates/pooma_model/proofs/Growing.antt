-- What fits stays fit where more is declared.
use Rattle.std.proofs.Common.{◌≡◌, ◌<◌, ◌≤◌, ℕ, ℤ, suc, Option, None, List, [], ◌∷◌, ◌++◌, length, refl, sym, ◌∙◌, ap, subst, arith}
use Rattle.std.specs.Prelude.{slice_get}
use Rattle.std.specs.List.{All, AllByRecursion, AllZip, cons_option, filter_map}
use Rattle.std.proofs.lemmas.List.{get_or_append_left, length-append}
use Rattle.std.proofs.lemmas.List.Elements.{All-cons, All-weaker, recursion_from_All}
use Rattle.pooma_domain.specs.Cells.{Interval}
use Rattle.pooma_view.specs.Slots.{positions_of}
use Rattle.pooma_view.specs.Views.{Viewed}
use Rattle.pooma_field.specs.Shapes.{Shaped, own_area}
use Rattle.pooma_layout.specs.Axes.{CutAxis, cut_at}
use Rattle.pooma_layout.specs.Patches.{boxes_of}
use Rattle.pooma_expr.specs.declared.tree.Expr.{Expr}
use Rattle.pooma_expr.specs.Trees.{views_of}
use Rattle.pooma_model.specs.declared.lines.Line.{Line}
use Rattle.pooma_model.specs.declared.lines.Line.TheVariants.{Do, Repeat, End}
use Rattle.pooma_model.specs.declared.statement.Action.{Action}
use Rattle.pooma_model.specs.declared.statement.Action.TheVariants as action
use Rattle.pooma_model.specs.Assigning.{whole_value}
use Rattle.pooma_model.specs.Declarations.{Declared, IsArray, IsDeclaring, layout_at, shape_at, with_array, with_one_scalar}
use Rattle.pooma_model.specs.Fit.{IsAssignFit, IsFit, IsReadable, IsReduceFit, IsValueOver, LiesIn}
use Rattle.pooma_model.specs.Lines.{IsFitLine}
use Rattle.pooma_model.specs.Parts.{borders_on, cut_axes, parts_along, parts_of}

-- each array is still there as it was, and no scalar has gone
pub record Grows (old new : Declared) : Type 0 where
  pub arrays : length old.shapes ≤ length new.shapes
  pub shapes : (a : ℕ) → a < length old.shapes → shape_at new a ≡ shape_at old a
  pub layouts : (a : ℕ) → a < length old.shapes → layout_at new a ≡ layout_at old a
  pub scalars : old.scalars ≤ new.scalars

filter_map_agree : {X Y : Type 0} (f g : X → Option Y) (xs : List X) → AllByRecursion (λ x. f x ≡ g x) xs → filter_map f xs ≡ filter_map g xs
filter_map_agree f g [] h = refl
filter_map_agree f g (x ∷ xs) h = ap (λ o. cons_option o (filter_map f xs)) h.0 ∙ ap (λ ys. cons_option (g x) ys) (filter_map_agree f g xs h.1)

module _ (old new : Declared) (grows : Grows old new) where
  lies-grown : (box : List Interval) (view : Viewed) → LiesIn old box view → LiesIn new box view
  lies-grown box view lies = record {
    there = omega (arith, grows.arrays, lies.there);
    slots = lies.slots ∙ ap (λ shape. length shape.total) (sym (grows.shapes view.array lies.there));
    cells = lies.cells;
  }

  readable-grown : (view : Viewed) → IsReadable old view → IsReadable new view
  readable-grown view lies =
      subst (λ (shape : Shaped). LiesIn new shape.total view) (sym (grows.shapes view.array lies.there))
      (lies-grown (shape_at old view.array).total view lies)

  value-grown : (positions : List Interval) (e : Expr) → IsValueOver old positions e → IsValueOver new positions e
  value-grown positions e h = record {
    scalars = omega (arith, grows.scalars, h.scalars);
    axes = h.axes;
    views = All-weaker (IsReadable old) (IsReadable new) readable-grown (views_of e) h.views;
    equal = h.equal;
    shallow = h.shallow;
    few_reads = h.few_reads;
  }

  cut_axes-grown : (views : List Viewed) (n : ℕ) (axes : List Interval) → All (λ view. view.array < length old.shapes) views → cut_axes new views n axes ≡ cut_axes old views n axes
  cut_axes-grown views n [] there = refl
  cut_axes-grown views n (axis ∷ axes) there =
      let same : (view : Viewed) → view.array < length old.shapes →
      slice_get (parts_along (layout_at new view.array) view.slots) n ≡ slice_get (parts_along (layout_at old view.array) view.slots) n =
      λ view h. ap (λ layout. slice_get (parts_along layout view.slots) n) (grows.layouts view.array h) in
      let cut = λ (given : List (ℤ → ℕ)) (rest : List (List Interval)). cut_at axis.first (borders_on given axis) axis.last ∷ rest in
      let old_cut = λ (view : Viewed). slice_get (parts_along (layout_at old view.array) view.slots) n in
      let new_cut = λ (view : Viewed). slice_get (parts_along (layout_at new view.array) view.slots) n in
      ap (λ given. cut given (cut_axes new views (suc n) axes))
      (filter_map_agree new_cut old_cut views
      (recursion_from_All (λ view. new_cut view ≡ old_cut view) views (All-weaker (λ view. view.array < length old.shapes) (λ view. new_cut view ≡ old_cut view) same views there)))
      ∙ ap (λ rest. cut (filter_map old_cut views) rest) (cut_axes-grown views (suc n) axes there)

  parts-grown : (views : List Viewed) (positions : List Interval) → All (λ view. view.array < length old.shapes) views → parts_of new views positions ≡ parts_of old views positions
  parts-grown views positions there = ap boxes_of (cut_axes-grown views 0 positions there)

  are_there : (views : List Viewed) → All (IsReadable old) views → All (λ view. view.array < length old.shapes) views
  are_there views h = All-weaker (IsReadable old) (λ view. view.array < length old.shapes) (λ view lies. lies.there) views h

  assign-grown : (target : Viewed) (whole : Expr) → IsAssignFit old target whole → IsAssignFit new target whole
  assign-grown target whole h =
      let there : All (λ view. view.array < length old.shapes) (target ∷ views_of whole) =
      All-cons (λ view. view.array < length old.shapes) target (views_of whole) h.writable.there (are_there (views_of whole) h.value.views) in
      record {
        writable = subst (λ (shape : Shaped). LiesIn new (own_area shape) target) (sym (grows.shapes target.array h.writable.there))
            (lies-grown (own_area (shape_at old target.array)) target h.writable);
        few_positions = h.few_positions;
        value = value-grown (positions_of target.slots) whole h.value;
        parts = subst (λ parts. length parts ≤ 65536) (sym (parts-grown (target ∷ views_of whole) (positions_of target.slots) there)) h.parts;
        apart = h.apart;
      }

  reduce-grown : (scalar : ℕ) (positions : List Interval) (whole : Expr) → IsReduceFit old scalar positions whole → IsReduceFit new scalar positions whole
  reduce-grown scalar positions whole h = record {
    there = omega (arith, grows.scalars, h.there);
    from_zero = h.from_zero;
    few_positions = h.few_positions;
    value = value-grown positions whole h.value;
    parts = subst (λ parts. length parts ≤ 65536) (sym (parts-grown (views_of whole) positions (are_there (views_of whole) h.value.views))) h.parts;
  }

  pub fit-grown : (a : Action) → IsFit old a → IsFit new a
  fit-grown (action.Assign target value mask) h = assign-grown target (whole_value target value mask) h
  fit-grown (action.Reduce scalar reduction positions value) h = reduce-grown scalar positions value h
  fit-grown (action.PrintView view) h = record { readable = readable-grown view h.readable; few_positions = h.few_positions }
  fit-grown (action.PrintScalar scalar) h = omega (arith, grows.scalars)
  fit-grown action.Block h = tt

same_number : {A B : Type 0} (R : A → B → Type 0) (xs : List A) (ys : List B) → AllZip R xs ys → length xs ≡ length ys
same_number R [] [] h = refl
same_number R [] (y ∷ ys) h = absurd h
same_number R (x ∷ xs) [] h = absurd h
same_number R (x ∷ xs) (y ∷ ys) h = ap suc (same_number R xs ys h.1)

zip-push : {A B : Type 0} (R : A → B → Type 0) (xs : List A) (ys : List B) (x : A) (y : B) → AllZip R xs ys → R x y → AllZip R (xs ++ x ∷ []) (ys ++ y ∷ [])
zip-push R [] [] x y h r = (r, tt)
zip-push R [] (b ∷ ys) x y h r = absurd h
zip-push R (a ∷ xs) [] x y h r = absurd h
zip-push R (a ∷ xs) (b ∷ ys) x y h r = (h.0, zip-push R xs ys x y h.1 r)

pub grows-array : (shape : Shaped) (layout : List CutAxis) (declared : Declared) → IsDeclaring declared → Grows declared (with_array shape layout declared)
grows-array shape layout declared h =
    let same : length declared.shapes ≡ length declared.layouts = same_number IsArray declared.shapes declared.layouts h.arrays in
    record {
      arrays = omega (arith, length-append declared.shapes (shape ∷ []));
      shapes = λ a below. get_or_append_left declared.shapes (shape ∷ []) (record { physical = []; total = []; faces = None }) a below;
      layouts = λ a below. get_or_append_left declared.layouts (layout ∷ []) [] a (omega (arith, same, below));
      scalars = omega arith;
    }

pub grows-scalar : (declared : Declared) → Grows declared (with_one_scalar declared)
grows-scalar declared = record { arrays = omega arith; shapes = λ a below. refl; layouts = λ a below. refl; scalars = omega arith }

pub declaring-array : (shape : Shaped) (layout : List CutAxis) (declared : Declared) → length declared.shapes < 256 → IsArray shape layout →
    IsDeclaring declared → IsDeclaring (with_array shape layout declared)
declaring-array shape layout declared few valid h = record {
  few_arrays = omega (arith, length-append declared.shapes (shape ∷ []));
  arrays = zip-push IsArray declared.shapes declared.layouts shape layout h.arrays valid;
}

pub declaring-scalar : (declared : Declared) → IsDeclaring declared → IsDeclaring (with_one_scalar declared)
declaring-scalar declared h = record { few_arrays = h.few_arrays; arrays = h.arrays }

-- what a line with a fitting statement says stays fit
line-grown : (old new : Declared) → Grows old new → (line : Line) → IsFitLine old line → IsFitLine new line
line-grown old new grows (Do s) h = fit-grown old new grows s.action h
line-grown old new grows (Repeat turns) h = tt
line-grown old new grows End h = tt

pub lines-grown : (old new : Declared) → Grows old new → (lines : List Line) → All (IsFitLine old) lines → All (IsFitLine new) lines
lines-grown old new grows lines h = All-weaker (IsFitLine old) (IsFitLine new) (line-grown old new grows) lines h
