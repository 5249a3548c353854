use Rattle.pooma_window.proofs.Seated.{one_gathered, next_gathered}
use Rattle.pooma_window.proofs.places.gathered.Goals as goal

pub loop-place-init : goal.loop-place-init
loop-place-init g c = one_gathered c.args.desk.now c.args.places.items c.pop.new.self.items c.in-Some.last c.into_pass-pass.result c.in-Some.ensures.items c.into_pass-pass.ensures c.requires.passes

pub loop-place-preserved : goal.loop-place-preserved
loop-place-preserved g c =
    let e = c.join-pass.ensures in
    next_gathered c.args.desk.now c.args.places.items c.loop-place.places.items c.pop-in-loop-place.new.self.items c.in-Some-pop.place c.loop-place.pass c.into_pass.result c.join-pass.result
    c.loop-place.invariant c.in-Some-pop.ensures.items c.into_pass.ensures
    (record { from = e.from; seat = e.seat; joined = e.joined; shares = e.shares; calls = e.calls; other_calls = e.other_calls })
