use Rattle.pooma_statement_tests.proofs.patches.perform_one.Goals as goal

pub returns : goal.returns
returns c = c.patches_in_place.ensures c.args.patches.now c.in_ok-object.object c.index-patches-object.result c.set_alone.new.patch c.set_alone.ensures
