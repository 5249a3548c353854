use Rattle.pooma_value_tests.proofs.Repeats.{one_statement}
use Rattle.pooma_value_tests.proofs.model.repeats_around_nothing.Goals as goal

pub finish-requires-clause-few : goal.finish-requires-clause-few
finish-requires-clause-few c =
    one_statement _ _ _ _ _ _ _ _ _ _ _ _ c.new-draft.ensures c.in_ok-repeat.ensures.ok c.in_ok-repeat-2.ensures.ok
    c.in_ok-repeat-3.ensures.ok c.in_ok-repeat-4.ensures.ok c.end.ensures c.end-2.ensures c.end-3.ensures c.end-4.ensures
    c.in_ok-put.ensures
