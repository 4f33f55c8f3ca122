-- Replies that are made of files by their names.
use Rattle.std.specs.Prelude.{◌≡◌, ℕ, Bool, true, false, List, [], ◌∷◌, ◌++◌, Option, None, Some, Result, Ok, Err, Vec}
use Rattle.std.specs.declared.alloc.Global.{Global}
use Rattle.rail_base.specs.Members.{In}
use Rattle.rail_outside.specs.Asks.{Ask, fetched}
use Rattle.rail_outside.specs.Files.{Files}
use Rattle.cli_shell.specs.declared.input.InputFile.{InputFile}
use Rattle.cli_shell.specs.declared.reply.Reply.{Reply}
use Rattle.cli_shell.specs.declared.ending.Ending.{Ending}
use Rattle.cli_shell.specs.declared.ending.Ending.TheVariants as ending
use Rattle.cli_shell.specs.Answers.{ReplySeen, within_limit}
use Rattle.cli_shell.specs.Replies.{reply_seen}
use Rattle.named_files.specs.declared.unmade.Unmade.{Unmade}
use Rattle.named_files.specs.declared.unmade.Unmade.TheVariants.{Refused, Memory, Unread}

-- an ending that is no fault of the shelf
abbrev pub unmade_of : Ending → Unmade
unmade_of (ending.RefusedWith reply) = Refused reply
unmade_of ending.Memory = Memory
unmade_of ending.ShelfFault = Memory

-- a file could not be read
abbrev pub is_unread : {X : Type 0} → Result X Unmade → Bool
is_unread (Ok x) = false
is_unread (Err (Refused reply)) = false
is_unread (Err Memory) = false
is_unread (Err (Unread name)) = true

-- what was read is what reading gives, or the reply is the answer that refuses it, or the file of this name could not be read; want of memory is free
abbrev pub Reads : Result (Vec ℕ Global) Unmade → List ℕ → Result (List ℕ) ReplySeen → Type 0
Reads (Ok bytes) name reading = reading ≡ Ok bytes.items
Reads (Err (Refused reply)) name reading = reading ≡ Err (reply_seen reply)
Reads (Err Memory) name reading = Unit {0}
Reads (Err (Unread other)) name reading = other.now ≡ name

-- some bytes are so read, within the limit of the file; where the shelf's files are known, they are those of this name
pub record Fetches (known : Option Files) (f : InputFile) (name : List ℕ) (result : Result (Vec ℕ Global) Unmade) : Type 0 where
  pub bytes : List ℕ
  pub held : (files : Files) → known ≡ Some files → bytes ≡ files name
  pub reads : Reads result name (within_limit f bytes)

-- the reply is one that is right, or a file of one of these names could not be read; want of memory is free
abbrev pub Makes : (ReplySeen → Type 0) → List (List ℕ) → Result Reply Unmade → Type 0
Makes right names (Ok reply) = right (reply_seen reply)
Makes right names (Err (Refused reply)) = right (reply_seen reply)
Makes right names (Err Memory) = Unit {0}
Makes right names (Err (Unread name)) = In name.now names

-- the answer is one that is right for what is read, or else the one that refuses
abbrev pub Answers : {X : Type 0} → Result X ReplySeen → (X → ReplySeen → Type 0) → ReplySeen → Type 0
Answers (Ok x) right a = right x a
Answers (Err refusal) right a = a ≡ refusal

-- ---- files that are wanted

-- the bytes are those of the file of this name, where there is one
abbrev pub IsHeld : Files → Option (List ℕ) → List ℕ → Type 0
IsHeld files None bytes = Unit {0}
IsHeld files (Some name) bytes = bytes ≡ files name

-- the name, where there is one
abbrev pub name_of : Option (List ℕ) → List (List ℕ)
name_of None = []
name_of (Some name) = name ∷ []

-- the names of two files
abbrev pub names_of : Option (List ℕ) → Option (List ℕ) → List (List ℕ)
names_of first second = name_of first ++ name_of second

-- the call for a file, where there is one
abbrev pub ask_for : Option (List ℕ) → List Ask
ask_for None = []
ask_for (Some name) = fetched name ∷ []

-- the calls for two files, in order
abbrev pub asks_for : Option (List ℕ) → Option (List ℕ) → List Ask
asks_for first second = ask_for first ++ ask_for second

-- the reply is a right one for some bytes of the file of this name; where the shelf's files are known, they are that file's
pub record RepliesOf (known : Option Files) (name : List ℕ) (right : List ℕ → ReplySeen → Type 0) (result : Result Reply Unmade) : Type 0 where
  pub bytes : List ℕ
  pub held : (files : Files) → known ≡ Some files → bytes ≡ files name
  pub makes : Makes (right bytes) (name ∷ []) result

-- the same of two files, each of which may be none
pub record RepliesFor (known : Option Files) (first second : Option (List ℕ)) (right : List ℕ → List ℕ → ReplySeen → Type 0)
    (result : Result Reply Unmade) : Type 0 where
  pub first_bytes : List ℕ
  pub second_bytes : List ℕ
  pub held : (files : Files) → known ≡ Some files → IsHeld files first first_bytes × IsHeld files second second_bytes
  pub makes : Makes (right first_bytes second_bytes) (names_of first second) result
