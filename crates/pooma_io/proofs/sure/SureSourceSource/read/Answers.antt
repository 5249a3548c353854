use Rattle.std.proofs.Common.{ap, arith}
use Rattle.pooma_io.specs.Bounds.{SureSourceState}
use Rattle.pooma_io.proofs.Front.{gives_front}
use Rattle.pooma_io.proofs.sure.SureSourceSource.read.Goals as goal

pub returns-clause-bytes : goal.returns-clause-bytes
returns-clause-bytes c =
    gives_front c.self.inside.bytes.items c.deref.result.now _ c.args.buf.now c.copy_front-n.new.buf c.self.inside.taken c.copy_front-n.result _
    (ap (λ (s : SureSourceState). s.left) c.self.view_is) c.deref.ensures.value c.copy_front-n.ensures.count c.copy_front-n.ensures.buffer (omega arith)
