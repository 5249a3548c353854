use Rattle.std.proofs.Common.{◌∙◌}
use Rattle.pooma_script.proofs.NameLists.{lookup-by_text}
use Rattle.pooma_script.proofs.names.Names.find.Goals as goal

pub returns : goal.returns
returns c = rw (← c.self.view_is) (c.copied.ensures ∙ (c.get.ensures.value ∙ lookup-by_text c.self.inside.entries.entries (λ k. k.now) c.args.name.now))
