use Rattle.std.proofs.Common.{Some, ◌∷◌, sym, ap, ◌∙◌}
use Rattle.atomic_table.specs.Table.{rest}
use Rattle.pooma_desk.specs.Tokens.{Started}
use Rattle.pooma_desk.proofs.desk.Desk.take_out.Goals as goal

pub exchange-requires : goal.exchange-requires
exchange-requires g c =
    let m = c.requires.machine in
    (c.requires.desk ∙ sym (ap (λ (s : Started _ _). s.desk) c.self.view_is), (Some m.0, m.1 ∙ ap (λ r. (0, Some m.0) ∷ r) (sym (ap rest m.1))))
