use Rattle.std.proofs.Common.{◌≡◌, FitsSigned, List, ℤ, drop, pos, refl, subst, ◌-ℤ◌, rules, w32, w64}
use Rattle.std.proofs.lemmas.Int.{to_z-of_z}
use Rattle.std.specs.Prelude.{◌↔◌, All, IsTrue}
use Rattle.pooma_domain.specs.Cells.{IsOrdered, interval}
use Rattle.pooma_stencil.specs.Stencils.{shrunk}
use Rattle.pooma_script.specs.Views.{count_to, positions_in}
use Rattle.pooma_script.proofs.Heads.{others}
use Rattle.pooma_script.proofs.Extents.{no_axes_left, room_on, room_past}
use Rattle.pooma_script.proofs.places.+has_room.Goals as goal

pub returns-in-None : goal.returns-in-None
returns-in-None t c = (λ h. no_axes_left (positions_in c.args.subs.now) c.args.lower.now c.args.upper.now c.in-None.ensures.none, λ h. refl)

pub returns-in-At : goal.returns-in-At
returns-in-At t c = room_past c.args.subs.now _ c.in-At.field-0 c.args.lower.now c.args.upper.now c.has_room.result c.in-len1-up.len_at_least c.in-At.is c.has_room.ensures

pub returns-in-Some : goal.returns-in-Some
returns-in-Some t c =
    let f : FitsSigned w32 c.in-Range.first = search rules in
    let g : FitsSigned w32 c.in-Range.last = search rules in
    let h : FitsSigned w32 c.in-Range.stride = search rules in
    let e : FitsSigned w64 c.in-Some.extents = search rules in
    let count : c.count_to.result ≡ count_to c.in-Range.first c.in-Range.last c.in-Range.stride = simp to_z-of_z at c.count_to.ensures in
    let one : IsTrue c.leaves_one.result ↔ IsOrdered (interval (pos 0) ((pos (count_to c.in-Range.first c.in-Range.last c.in-Range.stride) -ℤ pos 1) -ℤ c.in-Some.extents)) =
    rw count at (simp to_z-of_z at c.leaves_one.ensures) in
    let Low : List ℤ → Type 0 = λ l. IsTrue c.has_room-in-Some.result ↔ All IsOrdered (shrunk (positions_in (others c.args.subs.now)) l c.rest-in-Some.result) in
    let Both : List ℤ → Type 0 = λ l. IsTrue c.has_room-in-Some.result ↔ All IsOrdered (shrunk (positions_in (others c.args.subs.now)) (drop 1 c.args.lower.now) l) in
    let later = subst Both c.rest-in-Some.ensures (subst Low c.rest.ensures c.has_room-in-Some.ensures) in
    let left = c.in-Some.ensures.some in
    room_on c.args.subs.now _ c.in-Range.first c.in-Range.last c.in-Range.stride c.args.lower.now c.args.upper.now c.in-Some.extents
    c.leaves_one.result c.has_room-in-Some.result c.both.result c.in-len1-up.len_at_least c.in-Range.is left.0 left.1 left.2 one later c.both.ensures
