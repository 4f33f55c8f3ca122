-- What words ask for: `DESIGN` or `DESIGN PLAN` after the program's name, taken as `rcv routes` and `rcv simulate` take them.
use Rattle.std.specs.Prelude.{List, [], ◌∷◌, Option, Some, None, codes}
use Rattle.clap.specs.Words.{Text}
use Rattle.rail_words.specs.Requests.{RequestSeen, simulate, routes, verify, tightest, check, trial, request_of}

-- a drawing of a track, by its design's file, or of a run, by the files of its design and its plan
pub data Wanted : Type 0 where
  track : Text → Wanted
  run : Text → Text → Wanted

-- the words with a command after the program's name
abbrev pub words_with_command : Text → List Text → List Text
words_with_command command [] = []
words_with_command command (program ∷ words) = program ∷ command ∷ words

-- the drawing for a request to list routes
abbrev pub by_routes : Option RequestSeen → Option Wanted
by_routes (Some (routes design)) = Some (track design)
by_routes (Some (simulate design plan)) = None
by_routes (Some (verify n conflicts ticks mode design proof)) = None
by_routes (Some (tightest n conflicts ticks within bounds design proof)) = None
by_routes (Some (check n in_time design proof)) = None
by_routes (Some (trial seed size)) = None
by_routes None = None

-- the drawing for a request to simulate
abbrev pub by_simulate : Option RequestSeen → Option Wanted
by_simulate (Some (simulate design plan)) = Some (run design plan)
by_simulate (Some (routes design)) = None
by_simulate (Some (verify n conflicts ticks mode design proof)) = None
by_simulate (Some (tightest n conflicts ticks within bounds design proof)) = None
by_simulate (Some (check n in_time design proof)) = None
by_simulate (Some (trial seed size)) = None
by_simulate None = None

-- the first, if there is one, or else the second
abbrev pub or_else : Option Wanted → Option Wanted → Option Wanted
or_else (Some w) other = Some w
or_else None other = other

-- what words with `routes` among them ask for, or else words with `simulate`
abbrev pub routes_or_simulate : List Text → List Text → Option Wanted
routes_or_simulate with_routes with_simulate =
    or_else (by_routes (request_of with_routes)) (by_simulate (request_of with_simulate))

-- what the words ask for: what `rcv routes` is asked for by the same words, or else `rcv simulate`
abbrev pub wanted_of : List Text → Option Wanted
wanted_of words =
    routes_or_simulate (words_with_command (codes "routes") words) (words_with_command (codes "simulate") words)
