-- What a run prints of its answer, and where it stops.
use Rattle.std.specs.Prelude.{◌≡◌, ℕ, List, [], ◌∷◌, ◌++◌, Option, Result, Ok, Err}
use Rattle.named_files.specs.declared.unmade.Unmade.{Unmade}
use Rattle.named_files.specs.declared.unmade.Unmade.TheVariants.{Refused, Memory, Unread}
use Rattle.named_files.specs.Reports.{PrintsFor, Reports, unread_line}
use Rattle.cli_shell.specs.declared.reply.Reply.{Reply}
use Rattle.cli_shell.specs.declared.status.Status.{Status}
use Rattle.rail_outside.specs.Asks.{Ask, fetched}
use Rattle.rail_outside.specs.Files.{Files}
use Rattle.rail_outside.specs.Growth.{grown, GrowsByPrefix}
use Rattle.draw_cli.specs.Wanted.{Wanted}
use Rattle.draw_cli.specs.Answers.{IsAnswerTo, asks_to, design_name, plan_name, usage}

-- ---- what is printed

-- an answer to what is wanted, for some bytes of the files; where the shelf's files are known, they are theirs
abbrev pub PrintsAnswer : Option Files → Option Wanted → Status → Option (List ℕ) → Option (List ℕ)
    → Option (List (List ℕ)) → Option (List (List ℕ)) → Type 0
PrintsAnswer known wanted s text new_text pieces new_pieces =
    PrintsFor known (design_name wanted) (plan_name wanted) (IsAnswerTo wanted) s text new_text pieces new_pieces

-- how the program is used is printed, unless memory was wanting
abbrev pub PrintsUsage : Status → Option (List ℕ) → Option (List ℕ) → Option (List (List ℕ))
    → Option (List (List ℕ)) → Type 0
PrintsUsage s text new_text pieces new_pieces = Reports (λ a. a ≡ usage) [] s text new_text pieces new_pieces

-- ---- a file that could not be read

-- the work stops at the file of this name: each one before it was asked for, and none behind it
pub record StopsAt (wanted : Option Wanted) (name : List ℕ) (old new : Option (List Ask)) : Type 0 where
  pub before : List Ask
  pub behind : List Ask
  pub all : before ++ (fetched name ∷ behind) ≡ asks_to wanted
  pub asked : GrowsByPrefix (grown old before) new (fetched name ∷ [])

-- where no reply is made for a file that could not be read, the work stops at that file
abbrev pub StopsUnread : Option Wanted → Result Reply Unmade → Option (List Ask) → Option (List Ask) → Type 0
StopsUnread wanted (Ok reply) old new = Unit {0}
StopsUnread wanted (Err (Refused reply)) old new = Unit {0}
StopsUnread wanted (Err Memory) old new = Unit {0}
StopsUnread wanted (Err (Unread name)) old new = StopsAt wanted name.now old new

-- a line says that the file could not be read at which the work stops
pub record NamesUnread (wanted : Option Wanted) (text new_text : Option (List ℕ)) (old new : Option (List Ask))
    : Type 0 where
  pub name : List ℕ
  pub stops : StopsAt wanted name old new
  pub written : new_text ≡ grown text (unread_line name)
