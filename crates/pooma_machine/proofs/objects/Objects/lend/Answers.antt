use Rattle.std.proofs.Common.{◌∙◌, ap, IsSome}
use Rattle.pooma_machine.specs.Slots.{home_at}
use Rattle.pooma_machine.proofs.Lending.{written_all}
use Rattle.pooma_machine.proofs.objects.Objects.lend.Goals as goal

pub lend_written-requires : goal.lend_written-requires
lend_written-requires g c =
    let asks = c.requests-2.ensures.requests ∙ ap g.W.Work.meaning.requests (c.deref-2.ensures ∙ c.in_ok-work.ensures) in
    rw (c.written.ensures, asks, c.lend_reads.ensures.same) (written_all (λ o. IsSome (home_at c.args.self.now o)) (g.W.Work.meaning.requests _) c.requires.home)
