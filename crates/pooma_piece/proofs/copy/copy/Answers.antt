use Rattle.std.proofs.Common.{◌≡◌, ◌∙◌, refl, ap, sym, subst, Some, List}
use Rattle.std.specs.Arc.{arc_value}
use Rattle.pooma_domain.specs.Cells.{Interval, IsIn}
use Rattle.pooma_field.specs.Numbered.{number_at}
use Rattle.pooma_machine.specs.Slots.{contents}
use Rattle.pooma_piece.specs.Lent.{copied_from, lent_for}
use Rattle.pooma_piece.specs.Meaning.{content_of}
use Rattle.pooma_piece.proofs.Apart.{HasLaws}
use Rattle.pooma_piece.proofs.Copying.{HasChanges, IsCopying, copied_is, lent_is, read_there, set_there}
use Rattle.pooma_piece.proofs.copy.copy.Goals as goal
use Rattle.pooma_piece.proofs.copy.copy.Goals.{After-deref-from}

laws : (c : After-deref-from) → HasLaws
laws c = record { kept = c.numbers_of_cells.ensures.all_kept; cells = record { members = c.order_of_cells.ensures.members; once = c.order_of_cells.ensures.once; ascending = c.order_of_cells.ensures.ascending } }

-- what it is given
given : (c : After-deref-from) → IsCopying c.args.piece.now c.args.array c.args.patch.now.content (contents content_of c.args.reads.now) c.in-Read.place
given c = record { laws = laws c; valid = c.code-code.ensures.valid; task = c.requires.task; fit = c.requires.fits; source = c.in-Read.ensures }

pub copy_box-requires-clause-inside : goal.copy_box-requires-clause-inside
copy_box-requires-clause-inside c =
    subst (λ (box : List Interval). (d : List _) → IsIn box d → IsIn c.args.patch.now.content.area d) (sym c.positions.ensures)
    (set_there _ _ _ _ _ (given (goal.at.copy_box-requires-clause-inside c).After-deref-from))

-- what it reads is lent for its one object
lent : (c : After-deref-from) → lent_for c.args.piece.now (Some c.args.patch.now.content) (contents content_of c.args.reads.now) (copied_from c.args.piece.now) ≡ Some c.deref-from.result.now.content
lent c =
    lent_is _ _ _ _ _ (given c) (λ arc. content_of (arc_value arc)) c.args.reads.now c.index-reads-place.result refl c.index-reads-place.is
    ∙ ap (λ patch. Some (content_of patch)) (sym c.deref-from.ensures)

pub copy_box-requires-clause-there : goal.copy_box-requires-clause-there
copy_box-requires-clause-there c =
    let at = (goal.at.copy_box-requires-clause-there c).After-deref-from in
    subst (λ (box : List Interval). (d : List _) → IsIn box d → IsIn c.deref-from.result.now.content.area d) (sym c.positions.ensures)
    (read_there _ _ _ _ _ (given at) c.deref-from.result.now.content (lent at))

pub returns-clause-content : goal.returns-clause-content
returns-clause-content c =
    let at = (goal.at.returns-clause-content c).After-deref-from in
    let copied = c.copy_box.ensures in
    let known : HasChanges = record { laws = laws at; all_set = c.numbers_of_cells.ensures.all_set; area = c.numbers_of_cells.ensures.area; full = c.numbers_of_cells.ensures.full; same = c.numbers_of_cells.ensures.same } in
    copied_is known c.args.piece.now c.args.patch.now.content c.copy_box.new.self.content c.deref-from.result.now.content (contents content_of c.args.reads.now)
    (record {
      area = copied.area;
      full_before = c.area-area.ensures.full;
      full = copied.full;
      inside = set_there _ _ _ _ _ (given at);
      copied = subst (λ (box : List Interval). (d : List _) → IsIn box d → number_at c.copy_box.new.self.content d ≡ number_at c.deref-from.result.now.content d) c.positions.ensures copied.copied;
      kept = subst (λ (box : List Interval). (d : List _) → (IsIn box d → ⊥) → number_at c.copy_box.new.self.content d ≡ number_at c.args.patch.now.content d) c.positions.ensures copied.kept;
    })
    (lent at)
