-- What orders say over an interlocking is what they say of its design.
use Rattle.std.proofs.Common.{◌≡◌, ℕ, ◌-◌, Bool, not, ◌&&◌, is_ok, List, map, filter, sym, ap, subst, ◌∙◌}
use Rattle.std.specs.List.{list_any}
use Rattle.bound_spec.specs.declared.Evidence.TheVariants as evidence
use Rattle.order_bounds.specs.Asked.{says_first_of, says_of}
use Rattle.order_bounds.specs.Orders.{bound_by, makes_both, says, says_first}
use Rattle.proof_judge.specs.declared.evidence.ByDesign.{ByDesign}
use Rattle.proof_judge.specs.Judged.{refuted}
use Rattle.rail_base.specs.declared.plan.Command.{Command}
use Rattle.rail_base.specs.declared.route.Route.{Route}
use Rattle.rail_base.specs.Numbering.{one_to}
use Rattle.rail_spec.specs.Track.{routes_of}

pub says_first_so : (b : ByDesign) (o : ℕ) (p : Command × Command) → let d = b.contention.interlocking.now.design.station in says_first_of b o p ≡ says_first b.kind d b.steps.count o p
says_first_so b o p =
    let i = b.contention.interlocking.now in
    let d = i.design.station in
    let by : List Route → ℕ → Bool = λ rs q. makes_both d rs q p && is_ok (refuted b.kind d b.steps.count (evidence.Bound (bound_by q p))) in
    ap (λ (rs : List Route). by rs o && not (list_any (by rs) (one_to (o - 1)))) i.table
