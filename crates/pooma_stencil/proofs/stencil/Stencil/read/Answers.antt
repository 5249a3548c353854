use Rattle.std.proofs.Common.{List, length, sym, ap, subst, ◌∙◌, arith}
use Rattle.pooma_domain.specs.Cells.{Interval, IsBox, IsIn}
use Rattle.pooma_domain.specs.Operations.{moved}
use Rattle.pooma_view.specs.Slots.{positions_of}
use Rattle.pooma_stencil.specs.Stencils.{Stenciled, IsStencil}
use Rattle.pooma_stencil.proofs.Axes.{length-shrunk, first_read_is_in, last_read_is_in, read_is_ordered}
use Rattle.pooma_stencil.proofs.Offsets.{fits_on, box_read, read_for}
use Rattle.pooma_stencil.proofs.stencil.Stencil.read.Goals as goal

pub shift-requires-clause-same_dims : goal.shift-requires-clause-same_dims
shift-requires-clause-same_dims c =
    let is : IsStencil c.args.self.now = subst IsStencil c.self.view_is c.self.invariant in
    let long = length-shrunk (positions_of c.args.view.now.slots) c.args.self.now.lower c.args.self.now.upper c.requires.fits.dims (is.paired ∙ c.requires.fits.dims) in
    omega (arith, ap length c.requires.positions, long, c.requires.fits.dims, c.beginning-begin.ensures.dims, ap (λ (s : Stenciled). length s.lower) c.self.view_is)

pub shift-requires-clause-valid : goal.shift-requires-clause-valid
shift-requires-clause-valid c =
    let is : IsStencil c.args.self.now = subst IsStencil c.self.view_is c.self.invariant in
    let fits = fits_on c.args.self.now c.args.view.now c.args.offset.now is c.requires.fits c.requires.within in
    let begins = c.beginning-begin.ensures.sum ∙ ap (λ (s : Stenciled). moved s.lower c.args.offset.now) c.self.view_is in
    subst IsBox (sym (box_read c.args.self.now c.args.view.now c.args.offset.now _ _ c.requires.positions begins))
    (c.boxes_within_boxes.ensures.valid _ _ c.requires.fits.positions (read_is_ordered _ _ _ _ fits) (first_read_is_in _ _ _ _ fits) (last_read_is_in _ _ _ _ fits))

pub restrict-requires : goal.restrict-requires
restrict-requires c = λ p q.
    let is : IsStencil c.args.self.now = subst IsStencil c.self.view_is c.self.invariant in
    let fits = fits_on c.args.self.now c.args.view.now c.args.offset.now is c.requires.fits c.requires.within in
    let begins = c.beginning-begin.ensures.sum ∙ ap (λ (s : Stenciled). moved s.lower c.args.offset.now) c.self.view_is in
    let box_is = c.shift.ensures.axes ∙ box_read c.args.self.now c.args.view.now c.args.offset.now _ _ c.requires.positions begins in
    c.boxes_within_boxes.ensures.cells _ _ p (first_read_is_in _ _ _ _ fits) (last_read_is_in _ _ _ _ fits) (subst (λ (axes : List Interval). IsIn axes p) box_is q)

pub returns-clause-reads : goal.returns-clause-reads
returns-clause-reads c =
    let is : IsStencil c.args.self.now = subst IsStencil c.self.view_is c.self.invariant in
    let begins = c.beginning-begin.ensures.sum ∙ ap (λ (s : Stenciled). moved s.lower c.args.offset.now) c.self.view_is in
    let box_is = c.shift.ensures.axes ∙ box_read c.args.self.now c.args.view.now c.args.offset.now _ _ c.requires.positions begins in
    read_for c.args.self.now c.args.view.now _ c.args.offset.now _ is c.requires.fits c.requires.within box_is c.restrict.ensures.view c.restrict.ensures.positions c.restrict.ensures.cells
