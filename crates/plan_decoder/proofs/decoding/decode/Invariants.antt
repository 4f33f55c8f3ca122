use Rattle.std.proofs.Common.{◌≡◌, ℕ, ◌++◌, ◌+◌, ◌-◌, Bool, List, map}
use Rattle.rail_base.specs.Numbering.{count_from, one_to}
use Rattle.rail_base.specs.declared.station.Station.{Station}
use Rattle.rail_base.specs.declared.route.Route.{Route}
use Rattle.rail_base.specs.declared.plan.Command.{Command}
use Rattle.plan_encoding.specs.Numberings.{IsNumberingOf}
use Rattle.plan_decoder.specs.Decoded.{new_in}
use Rattle.plan_decoder.proofs.decoding.decode.Given as goal

-- what is added and what is left to add make all of it
abbrev pub invariant-loop-step : goal.invariant-loop-step
invariant-loop-step l = (live : Command → Bool) (d : Station) (routes : List Route) (n : ℕ) → IsNumberingOf live d routes n l.numbering
    → l.steps.items ++ map (new_in live d routes n l.values) (count_from l.step (n + 1 - l.step)) ≡ map (new_in live d routes n l.values) (one_to n)
