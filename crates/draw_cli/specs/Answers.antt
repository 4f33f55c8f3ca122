-- The answers to what is wanted, for the files that are held: what `rcv` answers where it refuses a file, and else the
-- status 0 and the lines of a drawing that shows each name.
use Rattle.std.specs.Prelude.{◌≡◌, ℕ, ◌≤◌, List, length, codes, Option, Some, None}
use Rattle.drawing.specs.declared.shape.Shape.{Shape}
use Rattle.drawing.specs.Drawing.{IsDrawingOf, LabelsAreApart, words_in}
use Rattle.named_files.specs.Replies.{Answers, asks_for}
use Rattle.rail_base.specs.declared.station.Station.{Station}
use Rattle.rail_base.specs.declared.plan.Command.{Command}
use Rattle.cli_shell.specs.declared.status.Status.TheVariants.{Done, Usage}
use Rattle.cli_shell.specs.declared.input.InputFile.TheVariants as file
use Rattle.cli_shell.specs.Answers.{ReplySeen, one_line, within_limit, design_in, plan_in}
use Rattle.cli_shell.specs.Shows.{verdict_at_horizon}
use Rattle.rail_outside.specs.Asks.{Ask}
use Rattle.run_drawing.specs.Words.{run_size, run_words}
use Rattle.track_drawing.specs.Edges.{ShowsEdges}
use Rattle.track_drawing.specs.Words.{track_size, track_words}
use Rattle.draw_cli.specs.Wanted.{Wanted, track, run}

-- how the program is used
abbrev pub usage_line : List ℕ
usage_line = codes "usage: rcv_draw DESIGN [PLAN]\n"

-- the answer to words that ask for nothing
abbrev pub usage : ReplySeen
usage = one_line Usage usage_line

-- ---- drawings

-- the answer has the status 0 and the lines of a drawing of a picture with these words, of so many shapes at most
pub record IsDrawing (words : List (List ℕ)) (most : ℕ) (a : ReplySeen) : Type 0 where
  pub status : a.status ≡ Done
  pub picture : List Shape
  pub lines : IsDrawingOf picture a.lines
  pub words_are : words_in picture ≡ words
  pub within_limit : length picture ≤ most

-- of a track: it begins with the edges, each line from node to node in the colour of its section's name, and no flat part of
-- one over another; its words are the names of all sections, nodes and signals, and no name at a mark meets another
pub record IsTrackDrawing (d : Station) (a : ReplySeen) : Type 0 where
  pub drawing : IsDrawing (track_words d) (track_size d) a
  pub edges : ShowsEdges d drawing.picture
  pub apart : LabelsAreApart drawing.picture

-- of the run of a plan up to its deciding tick: how it ends, the names of all trains and sections, and all visits made
abbrev pub IsRunDrawing : Station → List (List Command) → ReplySeen → Type 0
IsRunDrawing d plan a = IsDrawing (run_words d (verdict_at_horizon d plan)) (run_size d (verdict_at_horizon d plan)) a

-- ---- answers

-- for the text of a design
abbrev pub TrackAnswers : List ℕ → ReplySeen → Type 0
TrackAnswers text a = Answers (design_in text) IsTrackDrawing a

-- for a design and the text of a plan
abbrev pub PlanAnswers : Station → List ℕ → ReplySeen → Type 0
PlanAnswers d text a = Answers (plan_in d text) (IsRunDrawing d) a

-- for the bytes of a plan and a design
abbrev pub RunAnswers : List ℕ → Station → ReplySeen → Type 0
RunAnswers plan_bytes d a = Answers (within_limit file.Plan plan_bytes) (PlanAnswers d) a

-- for the bytes of a design
abbrev pub IsTrackAnswer : List ℕ → ReplySeen → Type 0
IsTrackAnswer design_bytes a = Answers (within_limit file.Design design_bytes) TrackAnswers a

-- for the text of a design and the bytes of a plan
abbrev pub RunTextAnswers : List ℕ → List ℕ → ReplySeen → Type 0
RunTextAnswers text plan_bytes a = Answers (design_in text) (RunAnswers plan_bytes) a

-- for the bytes of a design and a plan
abbrev pub IsRunAnswer : List ℕ → List ℕ → ReplySeen → Type 0
IsRunAnswer design_bytes plan_bytes a =
    Answers (within_limit file.Design design_bytes) (λ text. RunTextAnswers text plan_bytes) a

-- to what is wanted, which may be nothing, for the bytes of the design and of the plan
abbrev pub IsAnswerTo : Option Wanted → List ℕ → List ℕ → ReplySeen → Type 0
IsAnswerTo None design_bytes plan_bytes a = a ≡ usage
IsAnswerTo (Some (track design)) design_bytes plan_bytes a = IsTrackAnswer design_bytes a
IsAnswerTo (Some (run design plan)) design_bytes plan_bytes a = IsRunAnswer design_bytes plan_bytes a

-- ---- files

-- the name of the design, and of the plan, where there is one
abbrev pub design_name : Option Wanted → Option (List ℕ)
design_name None = None
design_name (Some (track design)) = Some design
design_name (Some (run design plan)) = Some design

abbrev pub plan_name : Option Wanted → Option (List ℕ)
plan_name None = None
plan_name (Some (track design)) = None
plan_name (Some (run design plan)) = Some plan

-- the calls of the shelf, in order
abbrev pub asks_to : Option Wanted → List Ask
asks_to wanted = asks_for (design_name wanted) (plan_name wanted)
