-- What the answers have to do with those of `rcv routes` and `rcv simulate`, and what a drawing shows.
use Rattle.std.specs.Prelude.{◌≡◌, ◌≢◌, ℕ, true, false, List, Ok, None}
use Rattle.drawing.specs.Laws.{Shows}
use Rattle.rail_base.specs.declared.station.Station.{Station}
use Rattle.rail_base.specs.declared.plan.Command.{Command}
use Rattle.rail_base.specs.Members.{In}
use Rattle.cli_shell.specs.declared.status.Status.TheVariants.{Done}
use Rattle.cli_shell.specs.Answers.{ReplySeen, design_in, plan_in, routes_reply, simulation_reply}
use Rattle.cli_shell.specs.Statuses.{is_verdict}
use Rattle.draw_cli.specs.Wanted.{wanted_of}
use Rattle.draw_cli.specs.Answers.{IsAnswerTo, IsDrawing, IsRunAnswer, IsRunDrawing, IsTrackAnswer, IsTrackDrawing, usage}

-- where the routes of a design are not listed, the answer is the same, by status and line
abbrev pub RefusesAsRoutes : Type 0
RefusesAsRoutes = (design_bytes : List ℕ) (a : ReplySeen) → IsTrackAnswer design_bytes a
    → (routes_reply design_bytes).status ≢ Done → a ≡ routes_reply design_bytes

-- the bytes spell a design, of whose track the answer is a drawing
pub record DrawsTrack (design_bytes : List ℕ) (a : ReplySeen) : Type 0 where
  pub design : Station
  pub parsed : design_in design_bytes ≡ Ok design
  pub drawn : IsTrackDrawing design a

-- where they are listed, the answer is a drawing
abbrev pub DrawsWhereRoutesAreListed : Type 0
DrawsWhereRoutesAreListed = (design_bytes : List ℕ) (a : ReplySeen) → IsTrackAnswer design_bytes a
    → (routes_reply design_bytes).status ≡ Done → DrawsTrack design_bytes a

-- where a simulation comes to no verdict, the answer is the same, by status and line
abbrev pub RefusesAsSimulate : Type 0
RefusesAsSimulate = (design_bytes plan_bytes : List ℕ) (a : ReplySeen) → IsRunAnswer design_bytes plan_bytes a
    → is_verdict (simulation_reply design_bytes plan_bytes).status ≡ false → a ≡ simulation_reply design_bytes plan_bytes

-- the bytes spell a design and a plan over it, of whose run the answer is a drawing
pub record DrawsRun (design_bytes plan_bytes : List ℕ) (a : ReplySeen) : Type 0 where
  pub design : Station
  pub parsed : design_in design_bytes ≡ Ok design
  pub plan : List (List Command)
  pub plan_parsed : plan_in design plan_bytes ≡ Ok plan
  pub drawn : IsRunDrawing design plan a

-- where it comes to one, the answer is a drawing
abbrev pub DrawsWhereThereIsAVerdict : Type 0
DrawsWhereThereIsAVerdict = (design_bytes plan_bytes : List ℕ) (a : ReplySeen) → IsRunAnswer design_bytes plan_bytes a
    → is_verdict (simulation_reply design_bytes plan_bytes).status ≡ true → DrawsRun design_bytes plan_bytes a

-- in a drawing, each of its words is the text of a line
abbrev pub NamesAreDrawn : Type 0
NamesAreDrawn = (words : List (List ℕ)) (most : ℕ) (a : ReplySeen) (name : List ℕ) → IsDrawing words most a
    → In name words → Shows a.lines name

-- words that ask for nothing are answered by how the program is used, whatever the files are
abbrev pub SilenceIsUsage : Type 0
SilenceIsUsage = (design_bytes plan_bytes : List ℕ) (words : List (List ℕ)) (a : ReplySeen) → wanted_of words ≡ None
    → IsAnswerTo (wanted_of words) design_bytes plan_bytes a → a ≡ usage
