-- What is printed of a reply that is made of files by their names.
use Rattle.std.specs.Prelude.{◌≡◌, ◌≢◌, ◌⊎◌, ℕ, false, List, [], ◌∷◌, ◌++◌, codes, Option, Some, Result, Ok, Err}
use Rattle.rail_base.specs.Members.{In}
use Rattle.rail_outside.specs.Files.{Files}
use Rattle.rail_outside.specs.Growth.{grown, GrowsByPrefix, GrowsByLines}
use Rattle.cli_shell.specs.declared.status.Status.{Status}
use Rattle.cli_shell.specs.declared.status.Status.TheVariants.{Memory, ShelfFault, SinkFault}
use Rattle.cli_shell.specs.Answers.{ReplySeen}
use Rattle.cli_shell.specs.Prints.{Prints}
use Rattle.cli_shell.specs.Replies.{reply_seen}
use Rattle.cli_shell.specs.declared.reply.Reply.{Reply}
use Rattle.named_files.specs.Replies.{IsHeld, names_of}
use Rattle.named_files.specs.declared.unmade.Unmade.{Unmade}
use Rattle.named_files.specs.declared.unmade.Unmade.TheVariants as unmade
use Rattle.cli_shell.specs.Statuses.{is_answered}

-- that the file of this name could not be read
abbrev pub unread_line : List ℕ → List ℕ
unread_line name = codes "not read " ++ (name ++ codes "\n")

module _ (s : Status) (text new_text : Option (List ℕ)) (pieces new_pieces : Option (List (List ℕ))) where
  -- an answer that is right is printed
  pub record PrintsRight (right : ReplySeen → Type 0) : Type 0 where
    pub answer : ReplySeen
    pub is_right : right answer
    pub prints : Prints answer s text new_text pieces new_pieces
    pub is_read : s ≢ ShelfFault

  -- the file of this name could not be read, and a line that says so is printed; for want of memory it may be missing, and
  -- by a fault of the sink it may end early
  pub record PrintsUnreadLine (name : List ℕ) : Type 0 where
    pub unanswered : is_answered s ≡ false
    pub written : s ≡ ShelfFault → new_text ≡ grown text (unread_line name)
    pub put : s ≡ ShelfFault → new_pieces ≡ grown pieces (unread_line name ∷ [])
    pub put_prefix : GrowsByPrefix pieces new_pieces (unread_line name ∷ [])
    pub memory : s ≡ Memory → GrowsByLines text new_text (unread_line name ∷ [])
    pub sink_fault : s ≡ SinkFault → GrowsByPrefix text new_text (unread_line name)

  -- the same, for one of these names
  pub record PrintsUnreadOf (names : List (List ℕ)) : Type 0 where
    pub name : List ℕ
    pub named : In name names
    pub prints : PrintsUnreadLine name

  -- nothing is printed, for want of memory
  pub record PrintsNothing : Type 0 where
    pub memory : s ≡ Memory
    pub text_stays : new_text ≡ text
    pub pieces_stay : new_pieces ≡ pieces

-- this answer is printed
pub record PrintsReply (a : ReplySeen) (s : Status) (text new_text : Option (List ℕ))
    (pieces new_pieces : Option (List (List ℕ))) : Type 0 where
  pub prints : Prints a s text new_text pieces new_pieces
  pub is_read : s ≢ ShelfFault

-- the line on the file of this name
abbrev pub PrintsUnread : List ℕ → Status → Option (List ℕ) → Option (List ℕ)
    → Option (List (List ℕ)) → Option (List (List ℕ)) → Type 0
PrintsUnread name s text new_text pieces new_pieces = PrintsUnreadLine s text new_text pieces new_pieces name

-- an answer that is right is printed, or that one of these files could not be read, or nothing for want of memory
abbrev pub Reports : (ReplySeen → Type 0) → List (List ℕ) → Status → Option (List ℕ) → Option (List ℕ)
    → Option (List (List ℕ)) → Option (List (List ℕ)) → Type 0
Reports right names s text new_text pieces new_pieces =
    PrintsRight s text new_text pieces new_pieces right
    ⊎ (PrintsUnreadOf s text new_text pieces new_pieces names ⊎ PrintsNothing s text new_text pieces new_pieces)

-- what is printed of a reply, or of what came in its place
abbrev pub ReportsOf : Result Reply Unmade → Status → Option (List ℕ) → Option (List ℕ)
    → Option (List (List ℕ)) → Option (List (List ℕ)) → Type 0
ReportsOf (Ok reply) s text new_text pieces new_pieces = PrintsReply (reply_seen reply) s text new_text pieces new_pieces
ReportsOf (Err (unmade.Refused reply)) s text new_text pieces new_pieces =
    PrintsReply (reply_seen reply) s text new_text pieces new_pieces
ReportsOf (Err unmade.Memory) s text new_text pieces new_pieces = PrintsNothing s text new_text pieces new_pieces
ReportsOf (Err (unmade.Unread name)) s text new_text pieces new_pieces =
    PrintsUnread name.now s text new_text pieces new_pieces

-- a right answer for some bytes of two files is printed, or that one of them could not be read, or nothing for want of memory; where
-- the shelf's files are known, the bytes are theirs
pub record PrintsFor (known : Option Files) (first second : Option (List ℕ)) (right : List ℕ → List ℕ → ReplySeen → Type 0) (s : Status)
    (text new_text : Option (List ℕ)) (pieces new_pieces : Option (List (List ℕ))) : Type 0 where
  pub first_bytes : List ℕ
  pub second_bytes : List ℕ
  pub held : (files : Files) → known ≡ Some files → IsHeld files first first_bytes × IsHeld files second second_bytes
  pub reports : Reports (right first_bytes second_bytes) (names_of first second) s text new_text pieces new_pieces
