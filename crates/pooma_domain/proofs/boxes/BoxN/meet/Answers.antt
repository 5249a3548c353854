use Rattle.std.proofs.Common.{subst, sym, refl, List}
use Rattle.std.proofs.lemmas.Bool.{false≢true}
use Rattle.pooma_domain.specs.Cells.{Interval, interval}
use Rattle.pooma_domain.specs.Operations.{HaveCommonCell, IsMeeting}
use Rattle.pooma_domain.proofs.BoxSets.{common_axes_meet}
use Rattle.pooma_domain.proofs.PaddedMoves.{meet_needs, meet_makes, same_interval}
use Rattle.pooma_domain.proofs.boxes.BoxN.meet.Goals as goal

pub returns-in_err-x-clause-found : goal.returns-in_err-x-clause-found
returns-in_err-x-clause-found c =
    let h = c.in_err-x.ensures in
    rw c.from_residual.ensures
    (λ t. absurd (false≢true t), λ (both : HaveCommonCell c.args.self.now c.args.other.now). absurd (false≢true (h.found.1 (meet_needs _ _ _ _ _ _ _ _ _ _ c.self.invariant c.other.invariant c.self.view_is c.other.view_is c.requires both).0)))

pub returns-in_err-y-clause-found : goal.returns-in_err-y-clause-found
returns-in_err-y-clause-found c =
    let h = c.in_err-y.ensures in
    rw c.from_residual-in_err-y.ensures
    (λ t. absurd (false≢true t), λ (both : HaveCommonCell c.args.self.now c.args.other.now). absurd (false≢true (h.found.1 (meet_needs _ _ _ _ _ _ _ _ _ _ c.self.invariant c.other.invariant c.self.view_is c.other.view_is c.requires both).1)))

pub returns-in_err-z-clause-found : goal.returns-in_err-z-clause-found
returns-in_err-z-clause-found c =
    let h = c.in_err-z.ensures in
    rw c.from_residual-in_err-z.ensures
    (λ t. absurd (false≢true t), λ (both : HaveCommonCell c.args.self.now c.args.other.now). absurd (false≢true (h.found.1 (meet_needs _ _ _ _ _ _ _ _ _ _ c.self.invariant c.other.invariant c.self.view_is c.other.view_is c.requires both).2)))

pub invariant_of-result : goal.invariant_of-result
invariant_of-result c =
    let x = c.in_ok-x.ensures in
    let y = c.in_ok-y.ensures in
    let z = c.in_ok-z.ensures in
    (meet_makes _ _ _ _ _ _ _ _ _ _ (interval c.in_ok-x.x.first c.in_ok-x.x.last) (interval c.in_ok-y.y.first c.in_ok-y.y.last) (interval c.in_ok-z.z.first c.in_ok-z.z.last) c.self.invariant c.other.invariant c.self.view_is c.other.view_is c.requires
    (same_interval _ _ x.first x.last) (same_interval _ _ y.first y.last) (same_interval _ _ z.first z.last) (x.found.0 refl) (y.found.0 refl) (z.found.0 refl)).0

pub returns-clause-found : goal.returns-clause-found
returns-clause-found c =
    let x = c.in_ok-x.ensures in
    let y = c.in_ok-y.ensures in
    let z = c.in_ok-z.ensures in (
      λ _. (meet_makes _ _ _ _ _ _ _ _ _ _ (interval c.in_ok-x.x.first c.in_ok-x.x.last) (interval c.in_ok-y.y.first c.in_ok-y.y.last) (interval c.in_ok-z.z.first c.in_ok-z.z.last) c.self.invariant c.other.invariant c.self.view_is c.other.view_is c.requires
          (same_interval _ _ x.first x.last) (same_interval _ _ y.first y.last) (same_interval _ _ z.first z.last) (x.found.0 refl) (y.found.0 refl) (z.found.0 refl)).2,
      λ _. refl,
    )

pub returns-clause-axes : goal.returns-clause-axes
returns-clause-axes c =
    let x = c.in_ok-x.ensures in
    let y = c.in_ok-y.ensures in
    let z = c.in_ok-z.ensures in
    (meet_makes _ _ _ _ _ _ _ _ _ _ (interval c.in_ok-x.x.first c.in_ok-x.x.last) (interval c.in_ok-y.y.first c.in_ok-y.y.last) (interval c.in_ok-z.z.first c.in_ok-z.z.last) c.self.invariant c.other.invariant c.self.view_is c.other.view_is c.requires
    (same_interval _ _ x.first x.last) (same_interval _ _ y.first y.last) (same_interval _ _ z.first z.last) (x.found.0 refl) (y.found.0 refl) (z.found.0 refl)).1

pub returns-clause-cells : goal.returns-clause-cells
returns-clause-cells c =
    subst (λ (b : List Interval). IsMeeting c.args.self.now c.args.other.now b) (sym (returns-clause-axes c))
    (common_axes_meet c.args.self.now c.args.other.now c.requires)
