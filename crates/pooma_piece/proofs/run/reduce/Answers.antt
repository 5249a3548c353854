use Rattle.std.proofs.Common.{◌≡◌, ◌+◌, ◌∙◌, ap, sym, subst, arith, rules, to_z, of_z, w64, ℕ, ℤ, Some, List, [], ◌∷◌, ◌++◌, length, take}
use Rattle.std.proofs.lemmas.List.{take_all}
use Rattle.std.specs.Option.{option_copied}
use Rattle.std.specs.Prelude.{option_map, slice_get}
use Rattle.pooma_domain.specs.Cells.{Interval, cells_of}
use Rattle.pooma_expr.specs.Reductions.{StandsFor}
use Rattle.pooma_machine.specs.Slots.{contents}
use Rattle.pooma_piece.specs.declared.outcome.Outcome.TheVariants.{Value}
use Rattle.pooma_piece.specs.Effects.{kept_of, numbers_over, value_at}
use Rattle.pooma_piece.specs.Lent.{seen_by}
use Rattle.pooma_piece.specs.Meaning.{content_of}
use Rattle.pooma_piece.proofs.Firsts.{HaveNumbers, HaveNumbers-more, first_fault_is, no_fault_is, one_more_number}
use Rattle.pooma_piece.proofs.Seen.{can_see, sees_them}
use Rattle.pooma_piece.proofs.Totals.{kept_is}
use Rattle.pooma_piece.proofs.run.reduce.Goals as goal
use Rattle.pooma_piece.proofs.run.reduce.Goals.{After-cell_at-p}

-- which position is next
here : (c : After-cell_at-p) → slice_get (cells_of c.args.piece.now.positions) c.loop-k.k ≡ Some c.cell_at-p.result
here c = subst (λ (box : List Interval). slice_get (cells_of box) c.loop-k.k ≡ Some c.cell_at-p.result) c.positions-positions.ensures c.cell_at-p.ensures.stands

pub value_at-requires-clause-there : goal.value_at-requires-clause-there
value_at-requires-clause-there c =
    let written = option_map content_of (option_copied c.args.written) in
    let reads = contents content_of c.args.reads.now in
    can_see c.args.piece.now written reads c.code-code.ensures.valid.alike c.requires.fits c.loop-k.k c.cell_at-p.result (here (goal.at.value_at-requires-clause-there c).After-cell_at-p)

pub returns-in-Err : goal.returns-in-Err
returns-in-Err c =
    let piece = c.args.piece.now in
    let written = option_map content_of (option_copied c.args.written) in
    let reads = contents content_of c.args.reads.now in
    let p = c.cell_at-p.result in
    let at = here (goal.at.returns-in-Err c).After-cell_at-p in
    let is = sym (c.in-Err.ensures (seen_by piece written reads) (sees_them piece written reads p c.code-code.ensures.valid.alike)) in
    sym (first_fault_is (value_at piece written reads) (cells_of piece.positions) c.loop-k.k p c.in-Err.fault _ c.loop-k.invariant.numbers at is)

pub loop-k-preserved : goal.loop-k-preserved
loop-k-preserved c =
    let piece = c.args.piece.now in
    let written = option_map content_of (option_copied c.args.written) in
    let reads = contents content_of c.args.reads.now in
    let value = value_at piece written reads in
    let cells = cells_of piece.positions in
    let p = c.cell_at-p.result in
    let at = here (goal.at.loop-k-preserved c).After-cell_at-p in
    let is = sym (c.in-Ok.ensures (seen_by piece written reads) (sees_them piece written reads p c.code-code.ensures.valid.alike)) in
    let bare : to_z w64 (of_z w64 c.in-Ok.x) ≡ c.in-Ok.x = search rules in
    let taken = numbers_over value (take c.loop-k.k cells) in
    let pushed = subst (λ (n : ℤ). StandsFor (taken ++ n ∷ []) c.push.new.self) bare (c.push.ensures.numbers taken c.loop-k.invariant.kept) in
    record {
      reduction = c.push.ensures.reduction ∙ c.loop-k.invariant.reduction;
      count = c.push.ensures.count ∙ ap (λ (n : ℕ). n + 1) c.loop-k.invariant.count;
      kept = subst (λ (xs : List ℤ). StandsFor xs c.push.new.self) (sym (one_more_number value cells c.loop-k.k p c.in-Ok.x at is)) pushed;
      numbers = HaveNumbers-more value cells c.loop-k.k p c.in-Ok.x at is c.loop-k.invariant.numbers;
    }

pub returns : goal.returns
returns c =
    let piece = c.args.piece.now in
    let written = option_map content_of (option_copied c.args.written) in
    let reads = contents content_of c.args.reads.now in
    let value = value_at piece written reads in
    let cells = cells_of piece.positions in
    let count : c.count-k-end.result ≡ length cells = c.count-k-end.ensures.value ∙ ap (λ (box : List Interval). length (cells_of box)) c.positions-positions.ensures in
    let all = take_all c.loop-k.k cells (omega (arith, count, c.loop-k-test.false)) in
    let kept = subst (λ (ps : List (List ℤ)). StandsFor (numbers_over value ps) c.loop-k.partial) all c.loop-k.invariant.kept in
    let numbers = subst (HaveNumbers value) all c.loop-k.invariant.numbers in
    ap Value (kept_is c.loop-k.partial (numbers_over value cells) c.args.reduction c.loop-k.invariant.reduction kept)
    ∙ sym (no_fault_is value cells (Value (kept_of c.args.reduction (numbers_over value cells))) numbers)
