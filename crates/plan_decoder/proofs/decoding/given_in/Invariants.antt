use Rattle.std.proofs.Common.{◌≡◌, ℕ, ◌++◌, Bool, List, filter, drop}
use Rattle.rail_base.specs.declared.station.Station.{Station}
use Rattle.rail_base.specs.declared.route.Route.{Route}
use Rattle.rail_base.specs.declared.plan.Command.{Command}
use Rattle.plan_encoding.specs.Numberings.{IsNumberingOf}
use Rattle.plan_decoder.specs.Decoded.{is_new, new_in}
use Rattle.plan_decoder.proofs.decoding.given_in.Given as goal

-- what is added and what is left to add make all of it
abbrev pub invariant-loop-command : goal.invariant-loop-command
invariant-loop-command l = (live : Command → Bool) (d : Station) (routes : List Route) (n : ℕ) → IsNumberingOf live d routes n l.numbering
    → l.commands.items ++ filter (is_new live d routes n l.values l.step) (drop l.command-index l.command-items) ≡ new_in live d routes n l.values l.step
