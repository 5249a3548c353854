use Rattle.std.proofs.Common.{refl, sym, arith}
use Rattle.pooma_domain.specs.Cells.{IsIn}
use Rattle.pooma_domain.specs.Operations.{reaches}
use Rattle.pooma_stencil.specs.Expansions.{IsReadFor}
use Rattle.pooma_stencil.proofs.Expanded.{at_offset, of_bin, of_where, of_same, operand_of_neg, operand_of_abs, first_of_bin, second_of_bin, test_of_where, first_of_where, second_of_where}
use Rattle.pooma_stencil.proofs.stencil.+expand.Goals as goal

pub expand_body-read-requires-clause-within : goal.expand_body-read-requires-clause-within
expand_body-read-requires-clause-within t c =
    at_offset (IsIn (reaches c.args.stencil.now.lower c.args.stencil.now.upper)) _ (of_same (IsIn (reaches c.args.stencil.now.lower c.args.stencil.now.upper)) _ _ c.in-At.is c.requires.within)

pub expand_body-expand_boxed-requires : goal.expand_body-expand_boxed-requires
expand_body-expand_boxed-requires t c =
    let is = operand_of_neg _ _ _ c.in-Neg.is refl in
    (omega (arith, c.decreases, is.depth), (c.requires.fits, (c.requires.positions, is.reach c.args.stencil.now.lower c.args.stencil.now.upper c.requires.within)))

pub expand_body-expand_boxed-requires-in-Abs : goal.expand_body-expand_boxed-requires-in-Abs
expand_body-expand_boxed-requires-in-Abs t c =
    let is = operand_of_abs _ _ _ c.in-Abs.is refl in
    (omega (arith, c.decreases, is.depth), (c.requires.fits, (c.requires.positions, is.reach c.args.stencil.now.lower c.args.stencil.now.upper c.requires.within)))

pub expand_body-expand_boxed-requires-in-Bin : goal.expand_body-expand_boxed-requires-in-Bin
expand_body-expand_boxed-requires-in-Bin t c =
    let is = first_of_bin _ _ _ _ _ c.in-Bin.is refl in
    (omega (arith, c.decreases, is.depth), (c.requires.fits, (c.requires.positions, is.reach c.args.stencil.now.lower c.args.stencil.now.upper c.requires.within)))

pub expand_body-expand_boxed-requires-in-Bin-2 : goal.expand_body-expand_boxed-requires-in-Bin-2
expand_body-expand_boxed-requires-in-Bin-2 t c =
    let is = second_of_bin _ _ _ _ _ c.in-Bin.is refl in
    (omega (arith, c.decreases, is.depth), (c.requires.fits, (c.requires.positions, is.reach c.args.stencil.now.lower c.args.stencil.now.upper c.requires.within)))

pub expand_body-expand_boxed-requires-in-Where : goal.expand_body-expand_boxed-requires-in-Where
expand_body-expand_boxed-requires-in-Where t c =
    let is = test_of_where _ _ _ _ _ c.in-Where.is refl in
    (omega (arith, c.decreases, is.depth), (c.requires.fits, (c.requires.positions, is.reach c.args.stencil.now.lower c.args.stencil.now.upper c.requires.within)))

pub expand_body-expand_boxed-requires-in-Where-2 : goal.expand_body-expand_boxed-requires-in-Where-2
expand_body-expand_boxed-requires-in-Where-2 t c =
    let is = first_of_where _ _ _ _ _ c.in-Where.is refl in
    (omega (arith, c.decreases, is.depth), (c.requires.fits, (c.requires.positions, is.reach c.args.stencil.now.lower c.args.stencil.now.upper c.requires.within)))

pub expand_body-expand_boxed-requires-in-Where-3 : goal.expand_body-expand_boxed-requires-in-Where-3
expand_body-expand_boxed-requires-in-Where-3 t c =
    let is = second_of_where _ _ _ _ _ c.in-Where.is refl in
    (omega (arith, c.decreases, is.depth), (c.requires.fits, (c.requires.positions, is.reach c.args.stencil.now.lower c.args.stencil.now.upper c.requires.within)))

pub expand_body-returns-in_ok-expand_boxed-in-Bin-clause-reads : goal.expand_body-returns-in_ok-expand_boxed-in-Bin-clause-reads
expand_body-returns-in_ok-expand_boxed-in-Bin-clause-reads t c =
    of_same (IsReadFor c.args.stencil.now c.args.view.now) _ _ (sym c.in-Bin.is)
    (of_bin (IsReadFor c.args.stencil.now c.args.view.now) _ _ _ c.in_ok-a-in-Bin.ensures.reads c.in_ok-expand_boxed-in-Bin.ensures.reads)

pub expand_body-returns-in_ok-expand_boxed-in-Where-clause-reads : goal.expand_body-returns-in_ok-expand_boxed-in-Where-clause-reads
expand_body-returns-in_ok-expand_boxed-in-Where-clause-reads t c =
    of_same (IsReadFor c.args.stencil.now c.args.view.now) _ _ (sym c.in-Where.is)
    (of_where (IsReadFor c.args.stencil.now c.args.view.now) _ _ _ c.in_ok-c-in-Where.ensures.reads c.in_ok-a-in-Where.ensures.reads c.in_ok-expand_boxed-in-Where.ensures.reads)
