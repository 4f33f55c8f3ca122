-- What is asked of a search, and what is known where it begins.
use Rattle.std.specs.Prelude.{ℕ, List}
use Rattle.bound_spec.specs.declared.Evidence.{Evidence}
use Rattle.clause_spec.specs.declared.question.BaseKind.{BaseKind}
use Rattle.order_bounds.specs.Orders.{orders_first}
use Rattle.rail_base.specs.declared.station.Station.{Station}
use Rattle.verify_loop.specs.declared.outcome.Aim.{Aim}
use Rattle.verify_loop.specs.declared.outcome.Wanted.{Wanted}

-- the clauses and the plan that is wanted; the cones and bounds that are known before the first plan, and the ticks that
-- were simulated before it
pub record Quest : Type 0 where
  pub base : BaseKind
  pub wanted : Wanted
  pub known : List Evidence
  pub spent : ℕ

-- of a search by itself the bounds by orders are known, and nothing was spent
abbrev pub by_itself : Aim → Station → ℕ → Quest
by_itself m d n = record { base = m.base; wanted = m.wanted; known = orders_first m.base d n; spent = 0 }
