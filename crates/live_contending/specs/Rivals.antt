-- The commands that contend with one.
use Rattle.std.specs.Prelude.{◌≡◌, true, filter, Result, IfOk, Vec}
use Rattle.std.specs.declared.alloc.Global.{Global}
use Rattle.rail_base.specs.declared.plan.Command.{Command}
use Rattle.rail_spec.specs.Plans.{contend}
use Rattle.live_clause_spec.specs.Variables.{live_pairs}
use Rattle.command_set.specs.Commands.{OfDesign, is_among}
use Rattle.live_contending.specs.Pairs.{Contending}

-- where these are the pairs of commands of a design, and the command is one of them, those that are found are all of
-- them that contend with it
abbrev pub GivesRivals : {E : Type 0} → Contending → Command → Result (Vec Command Global) E → Type 0
GivesRivals p c found = OfDesign p.commands (λ d routes. p.pairs ≡ live_pairs (is_among p.commands) d routes
    → is_among p.commands c ≡ true → IfOk found (λ cs. cs.items ≡ filter (contend routes c) p.commands))
