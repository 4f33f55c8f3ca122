-- The pairs of commands that contend, by the rows of their trains.
use Rattle.std.specs.Prelude.{ℕ, ◌≡◌, ◌≤◌, ◌+◌, ◌==◌, if◌then◌else◌, List, [], map, flat_map, length, slice_index, take}
use Rattle.rail_base.specs.declared.route.RouteNo.{RouteNo}
use Rattle.rail_base.specs.declared.plan.Command.{Command}
use Rattle.rail_base.specs.Members.{Differ}
use Rattle.rail_base.specs.Numbering.{one_to}
use Rattle.command_set.specs.Commands.{AreRising, commands_in}
use Rattle.live_contending.specs.declared.rows.TrainRows.{TrainRows}
use Rattle.live_contending.specs.Rows.{AreShort, row_at, train_count}

-- commands, and the pairs of them that contend
pub record Contending : Type 0 where
  pub commands : List Command
  pub pairs : List (Command × Command)

-- a train's commands that contend with this one, by the rows of trains: none of its own train
abbrev pub rivals_of_train : (ℕ → RouteNo → List RouteNo) → Command → ℕ → List Command
rivals_of_train row e t = if e.train.0 == t then [] else commands_in t (row t e.route)

module _ (trains : ℕ) (row : ℕ → RouteNo → List RouteNo) where
  -- all commands that contend with this one
  abbrev pub rivals : Command → List Command
  rivals e = flat_map (rivals_of_train row e) (one_to trains)

  -- each with it before
  abbrev pub pairs_from : Command → List (Command × Command)
  pairs_from e = map (λ c. (e, c)) (rivals e)

  -- those of each command
  abbrev pub pairs_by_rows : List Command → List (Command × Command)
  pairs_by_rows cs = flat_map pairs_from cs

  -- how many pairs stand before those of each command, and at last how many there are
  pub record AreStarts (cs : List Command) (starts : List ℕ) : Type 0 where
    pub each : length starts ≡ length cs + 1
    pub before : (k : ℕ) → k ≤ length cs → slice_index starts k ≡ length (pairs_by_rows (take k cs))

-- few commands of few trains, each once, with short and rising rows and the starts of their pairs
pub record ArePairs (cs : List Command) (rows : TrainRows) (starts : List ℕ) : Type 0 where
  pub few : train_count rows ≤ 128
  pub small : length cs ≤ 256000
  pub short : AreShort rows
  pub rising : (t : ℕ) (r : RouteNo) → AreRising (row_at rows t r)
  pub differ : Differ cs
  pub counted : AreStarts (train_count rows) (row_at rows) cs starts
