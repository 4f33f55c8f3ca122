-- What a numbering is.
use Rattle.std.specs.Prelude.{ℕ, ◌≡◌, Bool, List, Some, if◌then◌else◌, Option, None}
use Rattle.std.specs.List.{list_any}
use Rattle.rail_base.specs.declared.station.Station.{Station}
use Rattle.rail_base.specs.declared.route.Route.{Route}
use Rattle.rail_base.specs.declared.plan.Command.{Command}
use Rattle.sat_clause.specs.declared.lit.Lit.{Lit}
use Rattle.clause_spec.specs.Variables.{Given, Before, is_pair, yes}
use Rattle.live_clause_spec.specs.Variables.{live_commands, live_numbered, live_pairs}
use Rattle.command_set.specs.Commands.{is_among}

-- how many steps there are, the commands that the base speaks of, and the pairs of them that contend
pub record Numbered : Type 0 where
  pub steps : ℕ
  pub commands : List Command
  pub pairs : List (Command × Command)

-- it is that of the live commands of a design with these routes, for n steps
pub record IsNumberingOf (live : Command → Bool) (d : Station) (table : List Route) (n : ℕ) (b : Numbered)
    : Type 0 where
  pub steps : b.steps ≡ n
  pub commands : b.commands ≡ live_commands live d table
  pub pairs : b.pairs ≡ live_pairs live d table

-- it is so of each test of live commands, design and number of steps of which this is the numbering
abbrev pub OfNumbering : Numbered → ((Command → Bool) → Station → List Route → ℕ → Type 0) → Type 0
OfNumbering b Is =
    (live : Command → Bool) (d : Station) (routes : List Route) (n : ℕ) → IsNumberingOf live d routes n b
    → Is live d routes n

module _ (live : Command → Bool) (d : Station) (routes : List Route) (n : ℕ) where
  -- the literal that a command is given by a step, where it is live
  abbrev pub given_number : Command → ℕ → Option Lit
  given_number c i =
      if is_among (live_commands live d routes) c then Some (live_numbered live d routes n (yes (Given c i))) else None

  -- the literal that one command is given before another, where both are live and contend
  abbrev pub before_number : Command → Command → Option Lit
  before_number e c =
      if list_any (is_pair e c) (live_pairs live d routes) then Some (live_numbered live d routes n (yes (Before e c)))
      else None
