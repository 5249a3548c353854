use Rattle.std.proofs.Common.{◌↔◌, sym, subst}
use Rattle.std.specs.Prelude.{IsTrue}
use Rattle.pooma_script.specs.Tests.{IsWithin}
use Rattle.pooma_check.specs.Kept.{known_of}
use Rattle.pooma_check.proofs.limit.is_within.Goals as goal

pub returns-in-Views : goal.returns-in-Views
returns-in-Views c =
    subst (λ l. IsTrue c.reads_few.result ↔ IsWithin l c.args.number (known_of c.args.known.now) c.args.text.now c.args.form.now) (sym c.in-Views.is) (c.reads_few.ensures c.args.number)

pub returns-in-Depth : goal.returns-in-Depth
returns-in-Depth c =
    subst (λ l. IsTrue c.is_shallow.result ↔ IsWithin l c.args.number (known_of c.args.known.now) c.args.text.now c.args.form.now) (sym c.in-Depth.is) (c.is_shallow.ensures c.args.number)
