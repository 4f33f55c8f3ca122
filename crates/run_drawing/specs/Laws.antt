-- What a picture says of orders and withins is so.
use Rattle.std.specs.Prelude.{◌≡◌, ℕ, ◌+◌, true, false, List}
use Rattle.rail_base.specs.declared.station.Station.{Station}
use Rattle.rail_base.specs.declared.station.Order.{Order}
use Rattle.rail_base.specs.declared.station.Within.{Within}
use Rattle.rail_base.specs.declared.route.Route.{Route}
use Rattle.rail_base.specs.declared.plan.Command.{Command}
use Rattle.rail_base.specs.Admitted.{IsAdmitted}
use Rattle.rail_base.specs.Members.{In}
use Rattle.rail_spec.specs.Histories.{history_at}
use Rattle.rail_spec.specs.Requirements.{keeps_order, keeps_within}
use Rattle.run_drawing.specs.declared.ending.Ending.TheVariants.{Met, Broken}
use Rattle.run_drawing.specs.Requirements.{ending_of_order, ending_of_within}

-- by what has happened up to tick k, an order that is met is kept from then on, and one that is broken never is
pub record OrderIsSo (d : Station) (routes : List Route) (plan : List (List Command)) (k : ℕ) (o : Order) : Type 0 where
  pub met : ending_of_order (history_at d routes plan k) o ≡ Met → (m : ℕ) → keeps_order d routes plan (k + m) o ≡ true
  pub broken : ending_of_order (history_at d routes plan k) o ≡ Broken → (m : ℕ)
      → keeps_order d routes plan (k + m) o ≡ false

-- and so it is of a within
pub record WithinIsSo (d : Station) (routes : List Route) (plan : List (List Command)) (k : ℕ) (w : Within) : Type 0 where
  pub met : ending_of_within d (history_at d routes plan k) k w ≡ Met → (m : ℕ)
      → keeps_within d routes plan (k + m) w ≡ true
  pub broken : ending_of_within d (history_at d routes plan k) k w ≡ Broken → (m : ℕ)
      → keeps_within d routes plan (k + m) w ≡ false

-- of each order and each within, whatever the plan and the tick
pub record EndingsAreSo : Type 0 where
  pub order : (d : Station) (routes : List Route) (plan : List (List Command)) (k : ℕ) → IsAdmitted d
      → (o : Order) → In o d.orders → OrderIsSo d routes plan k o
  pub within : (d : Station) (routes : List Route) (plan : List (List Command)) (k : ℕ) → IsAdmitted d
      → (w : Within) → In w d.withins → WithinIsSo d routes plan k w
