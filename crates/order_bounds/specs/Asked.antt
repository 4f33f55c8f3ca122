-- What orders say, as it is asked of an interlocking.
use Rattle.std.specs.Prelude.{ℕ, ◌≡◌, ◌-◌, true, Bool, not, ◌&&◌, is_ok, List, Ok}
use Rattle.std.specs.List.{list_any}
use Rattle.bound_spec.specs.declared.Bound.{Bound}
use Rattle.bound_spec.specs.declared.Evidence.TheVariants as evidence
use Rattle.log_checker.specs.Verdict.{may_stand}
use Rattle.order_bounds.specs.Orders.{bound_by, makes_both}
use Rattle.proof_judge.specs.declared.evidence.ByDesign.{ByDesign}
use Rattle.proof_judge.specs.declared.evidence.EvidenceLine.{EvidenceLine}
use Rattle.proof_judge.specs.Shows.{shows}
use Rattle.proof_judge.specs.Written.{IsEvidenceLine}
use Rattle.rail_base.specs.declared.plan.Command.{Command}
use Rattle.rail_base.specs.declared.route.Route.{Route}
use Rattle.rail_base.specs.declared.station.NodeNo.{NodeNo}
use Rattle.rail_base.specs.declared.station.Order.{Order}
use Rattle.rail_base.specs.declared.station.TrainNo.{TrainNo}
use Rattle.rail_base.specs.Numbering.{one_to}
use Rattle.rail_spec.specs.Places.{may_visit}
use Rattle.rail_spec.specs.Plans.{is_train, route_at}
use Rattle.sat_clause.specs.declared.lit.Lit.{Lit}

-- with the command a train can make the visit of this number, at one of these nodes
abbrev pub makes_it : List Route → TrainNo → ℕ → List NodeNo → Command → Bool
makes_it routes t k nodes c = is_train t c.train && may_visit k nodes (route_at routes c.route)

module _ (b : ByDesign) where
  -- the pairs of the base's commands that contend
  abbrev pub pairs_of : List (Command × Command)
  pairs_of = b.contention.pairs.now.pairs

  -- the orders of the design
  abbrev pub orders_of : List Order
  orders_of = b.contention.interlocking.now.design.station.orders

  -- the visits of the order can be made with these commands
  abbrev pub makes_of : ℕ → Command × Command → Bool
  makes_of = let i = b.contention.interlocking.now in makes_both i.design.station i.routes

  -- the order says that the first is not given before the second
  abbrev pub says_of : ℕ → Command × Command → Bool
  says_of o p = makes_of o p && is_ok (shows b (evidence.Bound (bound_by o p)))

  -- some order before it does
  abbrev pub is_said_before : ℕ → Command × Command → Bool
  is_said_before o p = list_any (λ q. says_of q p) (one_to (o - 1))

  -- the order says so, and none before it does
  abbrev pub says_first_of : ℕ → Command × Command → Bool
  says_first_of o p = says_of o p && not (is_said_before o p)

  -- it says so, and this is what is left of its clause
  abbrev pub IsClauseOfOrder : ℕ → Command × Command → List Lit → Type 0
  IsClauseOfOrder o p clause =
      (says_of o p ≡ true) × (shows b (evidence.Bound (bound_by o p)) ≡ Ok clause)

  -- it is the first that says so, by this line
  abbrev pub IsLineOfOrder : ℕ → Command × Command → EvidenceLine → Type 0
  IsLineOfOrder o p l =
      (says_first_of o p ≡ true)
      × IsEvidenceLine b.kind b.contention.interlocking.now.design.station b.steps.count
      (evidence.Bound (bound_by o p)) l.line.items l.clause.items

  -- bounds may stand in a log over the base
  abbrev pub TakesBounds : Type 0
  TakesBounds = (x : Bound) → may_stand b.kind (evidence.Bound x) ≡ true
