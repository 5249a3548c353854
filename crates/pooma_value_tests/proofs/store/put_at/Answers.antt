use Rattle.pooma_value_tests.proofs.store.put_at.Goals as goal

pub returns : goal.returns
returns c = c.patches_in_place.ensures c.args.patches.now c.args.object c.index-patches-object.result c.put_alone.new.patch c.put_alone.ensures
