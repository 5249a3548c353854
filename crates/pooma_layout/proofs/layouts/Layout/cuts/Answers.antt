use Rattle.std.proofs.Common.{arith, rules, refl, ap, sym, subst, ◌≡◌, ◌∙◌, ◌≤◌, length, map, Vec, Global}
use Rattle.std.proofs.lemmas.Int.{to_z-of_z}
use Rattle.std.proofs.lemmas.List.{length-map}
use Rattle.std.proofs.lemmas.Option.{slice_get_read, slice_get-map}
use Rattle.std.specs.Prelude.{ℤ, FitsSigned, Some, slice_get}
use Rattle.std.specs.Option.{option_map}
use Rattle.std.specs.Int.{w32}
use Rattle.pooma_domain.specs.Axes.{interval_of}
use Rattle.pooma_layout.specs.Axes.{cut_axis, AreBorders, IsCutAxis}
use Rattle.pooma_layout.specs.Blocks.{product}
use Rattle.pooma_layout.proofs.Making.{all_of, length_of_zip, cut_axis_at, cuts_more, cuts_patches, is_layout, same_axis, lengths_of_lists}
use Rattle.pooma_layout.proofs.layouts.Layout.cuts.Goals as goal

pub axis-requires : goal.axis-requires
axis-requires c =
    omega (arith, c.loop-n-test.true, length_of_zip (λ axis (list : Vec ℤ Global). AreBorders axis list.items) c.args.domain c.args.cuts.now c.requires.inside)

pub at-requires : goal.at-requires
at-requires c =
    omega (arith, c.loop-n-test.true, c.requires.same_dims.0, length_of_zip (λ axis (list : Vec ℤ Global). AreBorders axis list.items) c.args.domain c.args.cuts.now c.requires.inside)

pub at-requires-in-loop-n : goal.at-requires-in-loop-n
at-requires-in-loop-n c =
    omega (arith, c.loop-n-test.true, c.requires.same_dims.1, length_of_zip (λ axis (list : Vec ℤ Global). AreBorders axis list.items) c.args.domain c.args.cuts.now c.requires.inside)

pub cut-requires : goal.cut-requires
cut-requires c =
    let inner : FitsSigned w32 c.at.result = search rules in
    let outer : FitsSigned w32 c.at-in-loop-n.result = search rules in
    let here : slice_get c.args.cuts.now c.loop-n.n ≡ Some c.index-cuts-n.result =
    slice_get_read c.args.cuts.now (length c.args.cuts.now) c.loop-n.n c.index-cuts-n.result refl c.loop-n-test.true c.index-cuts-n.is in
    let valid : IsCutAxis (cut_axis (interval_of c.axis.result) c.at-in-loop-n.result c.at.result c.index-cuts-n.result.items) =
    cut_axis_at c.args.domain c.args.cuts.now c.args.internal.now c.args.external.now c.loop-n.n (interval_of c.axis.result) c.index-cuts-n.result c.at.result c.at-in-loop-n.result
    c.requires.near c.requires.ascending c.requires.inside c.requires.depths c.requires.covering c.axis.ensures here c.at.ensures c.at-in-loop-n.ensures in
    let same = same_axis (interval_of c.axis.result) (to_z-of_z w32 c.at-in-loop-n.result outer) (to_z-of_z w32 c.at.result inner) c.deref.ensures.value in
    subst IsCutAxis (sym same) valid

pub loop-n-preserved : goal.loop-n-preserved
loop-n-preserved c =
    let inner : FitsSigned w32 c.at.result = search rules in
    let outer : FitsSigned w32 c.at-in-loop-n.result = search rules in
    let here : slice_get c.args.cuts.now c.loop-n.n ≡ Some c.index-cuts-n.result =
    slice_get_read c.args.cuts.now (length c.args.cuts.now) c.loop-n.n c.index-cuts-n.result refl c.loop-n-test.true c.index-cuts-n.is in
    let valid : IsCutAxis (cut_axis (interval_of c.axis.result) c.at-in-loop-n.result c.at.result c.index-cuts-n.result.items) =
    cut_axis_at c.args.domain c.args.cuts.now c.args.internal.now c.args.external.now c.loop-n.n (interval_of c.axis.result) c.index-cuts-n.result c.at.result c.at-in-loop-n.result
    c.requires.near c.requires.ascending c.requires.inside c.requires.depths c.requires.covering c.axis.ensures here c.at.ensures c.at-in-loop-n.ensures in
    let same = same_axis (interval_of c.axis.result) (to_z-of_z w32 c.at-in-loop-n.result outer) (to_z-of_z w32 c.at.result inner) c.deref.ensures.value in
    let list : slice_get (map (λ (v : Vec ℤ Global). v.items) c.args.cuts.now) c.loop-n.n ≡ Some c.index-cuts-n.result.items =
    slice_get-map (λ (v : Vec ℤ Global). v.items) c.args.cuts.now c.loop-n.n ∙ ap (option_map (λ (v : Vec ℤ Global). v.items)) here in
    rw c.in_ok-push.ensures.items
    (cuts_more c.args.domain (map (λ (v : Vec ℤ Global). v.items) c.args.cuts.now) c.args.internal.now c.args.external.now c.loop-n.n c.loop-n.axes.items c.in_ok-axis.axis
    (interval_of c.axis.result) c.index-cuts-n.result.items c.at.result c.at-in-loop-n.result c.loop-n.invariant
    c.axis.ensures list c.at.ensures c.at-in-loop-n.ensures (c.in_ok-axis.ensures ∙ same) valid)

pub invariant_of-result : goal.invariant_of-result
invariant_of-result c =
    let all : length c.args.domain ≡ length c.args.cuts.now = length_of_zip (λ axis (list : Vec ℤ Global). AreBorders axis list.items) c.args.domain c.args.cuts.now c.requires.inside in
    let whole : length c.args.domain ≤ c.loop-n.n = omega (arith, c.loop-n-test.false, all) in
    let physical = all_of _ c.args.domain c.loop-n.n c.loop-n.invariant.physical_so_far whole in
    let borders = all_of _ (map (λ (v : Vec ℤ Global). v.items) c.args.cuts.now) c.loop-n.n c.loop-n.invariant.borders_so_far (omega (arith, whole, all, length-map c.args.cuts.now (λ (v : Vec ℤ Global). v.items))) in
    is_layout c.args.domain c.loop-n.axes.items c.requires.some c.dims.ensures.valid.few physical c.loop-n.invariant.valid
    (rw (cuts_patches (map (λ (v : Vec ℤ Global). v.items) c.args.cuts.now) c.loop-n.axes.items borders) (subst (λ ns. product ns ≤ 256) (lengths_of_lists c.args.cuts.now) c.requires.patches))

pub returns-clause-physical : goal.returns-clause-physical
returns-clause-physical c =
    let all : length c.args.domain ≡ length c.args.cuts.now = length_of_zip (λ axis (list : Vec ℤ Global). AreBorders axis list.items) c.args.domain c.args.cuts.now c.requires.inside in
    all_of _ c.args.domain c.loop-n.n c.loop-n.invariant.physical_so_far (omega (arith, c.loop-n-test.false, all))

pub returns-clause-internal : goal.returns-clause-internal
returns-clause-internal c =
    let all : length c.args.domain ≡ length c.args.cuts.now = length_of_zip (λ axis (list : Vec ℤ Global). AreBorders axis list.items) c.args.domain c.args.cuts.now c.requires.inside in
    all_of _ c.args.internal.now c.loop-n.n c.loop-n.invariant.internal_so_far (omega (arith, c.loop-n-test.false, all, c.requires.same_dims.0))

pub returns-clause-external : goal.returns-clause-external
returns-clause-external c =
    let all : length c.args.domain ≡ length c.args.cuts.now = length_of_zip (λ axis (list : Vec ℤ Global). AreBorders axis list.items) c.args.domain c.args.cuts.now c.requires.inside in
    all_of _ c.args.external.now c.loop-n.n c.loop-n.invariant.external_so_far (omega (arith, c.loop-n-test.false, all, c.requires.same_dims.1))
