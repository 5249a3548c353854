use Rattle.pooma_run.proofs.laws.laws_below.Goals as goal

pub returns : goal.returns
returns c = record {
  works = record {
    objects = c.ser_composes.ensures.objects;
    outcomes = c.ser_composes.ensures.outcomes;
    count = c.ser_composes.ensures.outcome_count;
  };
  pieces = record {
    known = c.pieces_of_statements.ensures.known;
    fits = c.pieces_of_statements.ensures.fits;
    statement = c.pieces_of_statements.ensures.statement;
    entries = c.pieces_of_statements.ensures.entries;
    assigns = c.statements_in_pieces.ensures.assigns;
    elsewhere = c.statements_in_pieces.ensures.fresh;
    reduces = c.statements_in_pieces.ensures.reduces;
    leaves = c.statements_in_pieces.ensures.leaves;
    counted = c.statements_in_pieces.ensures.counted;
    words = c.statements_in_pieces.ensures.words;
    stay_words = c.statements_in_pieces.ensures.stay_words;
  };
  fills = record {
    known = c.fills_fit.ensures.known;
    fits = c.fills_fit.ensures.fits;
    statement = c.fills_fit.ensures.statement;
    objects = c.fills_make_fresh.ensures.objects;
    stands = c.fills_make_fresh.ensures.stands;
    kept = c.fills_make_fresh.ensures.kept;
    done = c.fills_make_fresh.ensures.done;
    fresh = c.fills_make_fresh.ensures.fresh;
    whole = c.fills_make_fresh.ensures.whole;
    words = c.fills_make_fresh.ensures.words;
    first = c.marks_tell_stale.ensures.first;
    after = c.marks_tell_stale.ensures.after;
    as_many = c.marks_tell_stale.ensures.as_many;
  };
  worlds = record {
    cells = c.order_of_cells.ensures.members;
    opening = c.worlds_keep_cells.ensures.opening;
    next = c.worlds_keep_cells.ensures.one;
    scalars = c.assignments_change_cells.ensures.scalars;
    full = c.worlds_keep_cells.ensures.full;
    own = c.reads_stand_apart.ensures.own;
    objects = c.new_arrays.ensures.objects;
    stands = c.new_arrays.ensures.opening;
  };
}
