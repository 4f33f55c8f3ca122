-- What is asked for, by its bytes.
use Rattle.std.specs.Prelude.{Option}
use Rattle.rail_words.specs.Words.{texts_of}
use Rattle.draw_cli.specs.declared.wanted.CommandWords.{CommandWords}
use Rattle.draw_cli.specs.declared.wanted.Wanted.{Wanted as Asking}
use Rattle.draw_cli.specs.declared.wanted.Wanted.TheVariants.{Track, Run}
use Rattle.draw_cli.specs.Wanted.{Wanted, track, run, routes_or_simulate}

abbrev pub wanted_by : Asking → Wanted
wanted_by (Track design) = track design.now
wanted_by (Run design plan) = run design.now plan.now

-- what words ask for that are given with each of the two commands
abbrev pub asked_by : CommandWords → Option Wanted
asked_by both = routes_or_simulate (texts_of both.routes.items) (texts_of both.simulate.items)
