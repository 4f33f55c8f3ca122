-- Requirements that are to be shown to fail, and from where a bound counts its ticks.
use Rattle.std.specs.Prelude.{◌≡◌, ℕ, Bool, true, false, not, ◌&&◌, nat_lt, if◌then◌else◌, Option, None, Some, option_and_then}
use Rattle.bound_spec.specs.declared.Requirement.{Requirement}
use Rattle.bound_spec.specs.declared.Requirement.TheVariants as requirement
use Rattle.bound_spec.specs.declared.Origin.{Origin}
use Rattle.bound_spec.specs.declared.Origin.TheVariants as origin
use Rattle.bound_spec.specs.Certificates.{violation_of}
use Rattle.leg_targets.specs.declared.targets.Visit.{Visit}
use Rattle.bound_chains.specs.declared.goals.Beginning.{Beginning}
use Rattle.bound_chains.specs.declared.goals.Beginning.TheVariants as beginning
use Rattle.bound_chains.specs.declared.goals.Goal.{Goal}

-- the requirement is an order
abbrev pub is_order : Requirement → Bool
is_order (requirement.Order k) = true
is_order _ = false

-- ticks are counted up to a cone's tick first
abbrev pub is_from_cone : Beginning → Bool
is_from_cone (beginning.Cone tick) = true
is_from_cone _ = false

-- any chain shows that it fails: an order, with ticks that are counted from no cone
abbrev pub takes_any : Goal → Bool
takes_any g = is_order g.requirement && not (is_from_cone g.beginning)

-- from there on it has to take so many ticks: none for an order
abbrev pub least_ticks : Goal → ℕ
least_ticks g = if is_order g.requirement then 0 else g.least

-- the visit, where ticks are counted from one
abbrev pub visit_at : Beginning → Option Visit → Option Visit
visit_at beginning.Visit from = from
visit_at _ from = None

-- the visit with which the first leg begins
abbrev pub begins_with : Goal → Option Visit
begins_with g = visit_at g.beginning g.from

-- the same where it is a later one than the first of its train
abbrev pub from_place : Goal → Option Visit
from_place g = option_and_then (λ visit. if nat_lt 1 visit.number then Some visit else None) (begins_with g)

-- a bound of the goal counts its ticks from there: of a cone up to the goal's tick, with the requirement's violation
abbrev pub IsOriginOf : Goal → Origin → Type 0
IsOriginOf g origin.Visit = g.beginning ≡ beginning.Visit
IsOriginOf g origin.Start = g.beginning ≡ beginning.Start
IsOriginOf g origin.FirstTick = g.beginning ≡ beginning.FirstTick
IsOriginOf g (origin.Cone tick cone) =
    (g.beginning ≡ beginning.Cone tick) × (cone.violation ≡ violation_of g.requirement)
