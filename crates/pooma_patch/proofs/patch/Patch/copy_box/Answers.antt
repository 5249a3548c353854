use Rattle.std.proofs.Common.{sym, ap, ◌∙◌, subst, ◌≡◌, arith, ◌+◌, List, [], ◌∷◌, Some, slice_get, to_z, of_z, w64}
use Rattle.std.proofs.lemmas.Int.{ints}
use Rattle.std.proofs.lemmas.Option.{slice_get-get_or, slice_get_within, get_or_from_slice_get}
use Rattle.pooma_domain.specs.Cells.{Interval, cells_of, IsIn}
use Rattle.pooma_field.specs.Numbered.{Numbered, with_number, IsFull}
use Rattle.pooma_patch.proofs.CopiedCells.{HasLaws, IsCopiedUpTo, one_more_copied}
use Rattle.pooma_patch.proofs.patch.Patch.copy_box.Goals as goal

pub set-requires-clause-inside : goal.set-requires-clause-inside
set-requires-clause-inside c =
    subst (λ (box : List Interval). IsIn box c.cell_at-c.result) (sym c.loop-k.invariant.area) (c.requires.inside c.cell_at-c.result c.cell_at-c.ensures.inside)

pub loop-k-preserved : goal.loop-k-preserved
loop-k-preserved c =
    let laws : HasLaws = record { set = c.numbers_of_cells.ensures.set; kept = c.numbers_of_cells.ensures.kept; once = c.order_of_cells.ensures.once } in
    let same : c.set.new.self.content ≡ with_number c.loop-k.self.content c.cell_at-c.result _ = c.set.ensures.content in
    let inside : IsIn c.loop-k.self.content.area c.cell_at-c.result =
    subst (λ (box : List Interval). IsIn box c.cell_at-c.result) (sym c.loop-k.invariant.area) (c.requires.inside c.cell_at-c.result c.cell_at-c.ensures.inside) in
    record {
      area = ap (λ (a : Numbered). a.area) same ∙ c.loop-k.invariant.area;
      full = subst IsFull (sym same) (c.numbers_of_cells.ensures.full c.loop-k.self.content (record { cell = c.cell_at-c.result; number = _ } ∷ []) c.loop-k.invariant.full);
      writable = c.set.ensures.writable;
      copied = subst (IsCopiedUpTo c.args.b.now (c.loop-k.k + 1) c.args.from.now.content c.args.self.now.content) (sym same)
          (one_more_copied laws c.args.b.now c.loop-k.k c.args.from.now.content c.args.self.now.content c.loop-k.self.content c.cell_at-c.result _ c.loop-k.invariant.full inside c.cell_at-c.ensures.stands
          ((let bare : to_z w64 (of_z w64 c.get.result) ≡ c.get.result = omega (arith, ints) in bare) ∙ c.get.ensures)
          c.loop-k.invariant.copied);
    }

pub returns-clause-copied : goal.returns-clause-copied
returns-clause-copied c cell inside =
    let there = (c.order_of_cells.ensures.members c.args.b.now cell).1 inside in
    let at : slice_get (cells_of c.args.b.now) there.0 ≡ Some cell = slice_get-get_or (cells_of c.args.b.now) there.0 cell there.1 ∙ ap Some there.2 in
    c.loop-k.invariant.copied.done there.0 cell (omega (arith, there.1, c.loop-k-test.false, c.count-k-end.ensures.value)) at

pub returns-clause-kept : goal.returns-clause-kept
returns-clause-kept c cell outside =
    c.loop-k.invariant.copied.rest cell (λ j below at. outside ((c.order_of_cells.ensures.members c.args.b.now cell).0 (j, slice_get_within (cells_of c.args.b.now) j cell at, get_or_from_slice_get (cells_of c.args.b.now) j cell cell at)))
