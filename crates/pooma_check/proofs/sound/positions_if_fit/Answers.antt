use Rattle.std.proofs.Common.{List, sym, subst}
use Rattle.std.specs.Prelude.{All}
use Rattle.pooma_script.specs.Known.{declared_in}
use Rattle.pooma_script.specs.Tests.{HasEqualLengths}
use Rattle.pooma_script.specs.Views.{Reading}
use Rattle.pooma_check.specs.Kept.{known_of}
use Rattle.pooma_check.specs.Readings.{IsSoundReading}
use Rattle.pooma_check.proofs.Early.{is_not, overlapping}
use Rattle.pooma_check.proofs.Sounding.{task_sound}
use Rattle.pooma_check.proofs.sound.positions_if_fit.Goals as goal

pub has_equal_lengths-requires : goal.has_equal_lengths-requires
has_equal_lengths-requires c =
    task_sound (known_of c.args.known.now) c.args.text.now c.args.form.now c.args.task.now c.requires.task (c.has_dimensions.ensures.0 c.if-not-has_dimensions.false)
    (c.has_numbers.ensures.0 c.if-not-has_numbers.false) (c.lies_inside.ensures.0 c.if-not-lies_inside.false)

pub returns-then-not-reads_apart-clause-cause : goal.returns-then-not-reads_apart-clause-cause
returns-then-not-reads_apart-clause-cause c =
    overlapping (known_of c.args.known.now) c.args.text.now c.args.form.now c.requires.placed c.requires.names (c.has_dimensions.ensures.0 c.if-not-has_dimensions.false)
    (c.has_numbers.ensures.0 c.if-not-has_numbers.false) (c.lies_inside.ensures.0 c.if-not-lies_inside.false)
    (subst HasEqualLengths c.requires.task (c.has_equal_lengths.ensures.same.0 c.if-not-has_equal_lengths.false)) (is_not c.reads_apart.result c.if-not-reads_apart.true c.reads_apart.ensures)

pub all_seen-requires : goal.all_seen-requires
all_seen-requires c =
    subst (λ (l : List Reading). All (IsSoundReading (declared_in (known_of c.args.known.now))) l) (sym c.readings.ensures)
    (task_sound (known_of c.args.known.now) c.args.text.now c.args.form.now c.args.task.now c.requires.task (c.has_dimensions.ensures.0 c.if-not-has_dimensions.false)
    (c.has_numbers.ensures.0 c.if-not-has_numbers.false) (c.lies_inside.ensures.0 c.if-not-lies_inside.false))

pub positions_of_task-requires : goal.positions_of_task-requires
positions_of_task-requires c =
    task_sound (known_of c.args.known.now) c.args.text.now c.args.form.now c.args.task.now c.requires.task (c.has_dimensions.ensures.0 c.if-not-has_dimensions.false)
    (c.has_numbers.ensures.0 c.if-not-has_numbers.false) (c.lies_inside.ensures.0 c.if-not-lies_inside.false)
