-- What a run prints of its answer.
use Rattle.std.specs.Prelude.{◌≡◌, ◌≢◌, ◌⊎◌, ◌≤◌, ℕ, length, Bool, true, false, List, [], ◌∷◌, Option, Result, Ok, Err}
use Rattle.design_text.specs.Texts.{design_text}
use Rattle.infra_reader.specs.Design.{design_of}
use Rattle.rail_base.specs.declared.station.Station.{Station}
use Rattle.rail_base.specs.Members.{In}
use Rattle.rail_outside.specs.Growth.{grown, GrowsByPrefix, GrowsByLines}
use Rattle.cli_shell.specs.declared.ending.Ending.{Ending}
use Rattle.cli_shell.specs.declared.ending.Ending.TheVariants as ending
use Rattle.cli_shell.specs.declared.reply.Reply.{Reply}
use Rattle.cli_shell.specs.declared.status.Status.{Status}
use Rattle.cli_shell.specs.declared.status.Status.TheVariants.{Memory, ShelfFault, SinkFault}
use Rattle.cli_shell.specs.declared.input.InputFile.TheVariants as file
use Rattle.cli_shell.specs.Answers.{ReplySeen}
use Rattle.cli_shell.specs.Prints.{Prints}
use Rattle.cli_shell.specs.Statuses.{is_answered}
use Rattle.cli_shell.specs.Texts.{limit_of}
use Rattle.design_cli.specs.Answers.{answer_given, names_in, unread_line}
use Rattle.design_cli.specs.Wanted.{Wanted}

-- the answer is printed
pub record PrintsAnswer (a : ReplySeen) (s : Status) (text new_text : Option (List ℕ))
    (pieces new_pieces : Option (List (List ℕ))) : Type 0 where
  pub prints : Prints a s text new_text pieces new_pieces
  pub is_read : s ≢ ShelfFault

-- the file of this name could not be read, and a line that says so is printed; for want of memory it may be missing, and
-- by a fault of the sink it may end early
pub record PrintsUnread (name : List ℕ) (s : Status) (text new_text : Option (List ℕ))
    (pieces new_pieces : Option (List (List ℕ))) : Type 0 where
  pub unanswered : is_answered s ≡ false
  pub written : s ≡ ShelfFault → new_text ≡ grown text (unread_line name)
  pub put : s ≡ ShelfFault → new_pieces ≡ grown pieces (unread_line name ∷ [])
  pub put_prefix : GrowsByPrefix pieces new_pieces (unread_line name ∷ [])
  pub memory : s ≡ Memory → GrowsByLines text new_text (unread_line name ∷ [])
  pub sink_fault : s ≡ SinkFault → GrowsByPrefix text new_text (unread_line name)

-- the same, for one of these names
pub record PrintsUnreadOf (names : List (List ℕ)) (s : Status) (text new_text : Option (List ℕ))
    (pieces new_pieces : Option (List (List ℕ))) : Type 0 where
  pub name : List ℕ
  pub named : In name names
  pub prints : PrintsUnread name s text new_text pieces new_pieces

-- the answer is printed, or that one of these files could not be read
abbrev pub Reports : ReplySeen → List (List ℕ) → Status → Option (List ℕ) → Option (List ℕ)
    → Option (List (List ℕ)) → Option (List (List ℕ)) → Type 0
Reports a names s text new_text pieces new_pieces =
    PrintsAnswer a s text new_text pieces new_pieces ⊎ PrintsUnreadOf names s text new_text pieces new_pieces

-- there are bytes of the files of the design and of the plan for which that is so
pub record PrintsSome (wanted : Option Wanted) (s : Status) (text new_text : Option (List ℕ))
    (pieces new_pieces : Option (List (List ℕ))) : Type 0 where
  pub bytes : List ℕ
  pub plan_bytes : List ℕ
  pub reports : Reports (answer_given bytes plan_bytes wanted) (names_in wanted) s text new_text pieces new_pieces

-- the text of the design is printed, read as that design, and no longer than the file of a design may be
pub record PrintsDesign (d : Station) (text new_text : Option (List ℕ)) : Type 0 where
  pub written : new_text ≡ grown text (design_text d)
  pub reads_back : design_of (design_text d) ≡ Ok d
  pub fits : length (design_text d) ≤ limit_of file.Design

-- a reply is made
abbrev pub is_reply : Result Reply Ending → Bool
is_reply (Ok reply) = true
is_reply (Err (ending.RefusedWith reply)) = true
is_reply (Err ending.Memory) = false
is_reply (Err ending.ShelfFault) = false
