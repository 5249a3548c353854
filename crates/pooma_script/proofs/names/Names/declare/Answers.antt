use Rattle.std.proofs.Common.{◌∙◌}
use Rattle.indexmap.proofs.CallerLemmas.{insert_entry-new}
use Rattle.pooma_script.proofs.NameLists.{lookup-by_text, named_more}
use Rattle.pooma_script.proofs.names.Names.declare.Goals as goal
use Rattle.pooma_script.proofs.names.Names.declare.Goals.{in-Ok, in-Err}

pub returns-clause-ok : goal.returns-clause-ok
returns-clause-ok c =
    elim c.match-insert.branch [
      | in-Ok w ↦ rw w.result-is (named_more c.self.inside.entries.entries c.insert.new.self.entries (λ k. k.now) c.args.name c.args.what c.args.self.now c.self.view_is
          (w.in-Ok.ensures.entries ∙ insert_entry-new _ c.self.inside.entries c.args.name c.args.what
          (lookup-by_text c.self.inside.entries.entries (λ k. k.now) c.args.name.now ∙ rw c.self.view_is c.requires)))
      | in-Err w ↦ rw w.result-is tt
    ]
