-- Replies as the program makes them, and what its steps give.
use Rattle.std.specs.Prelude.{◌≡◌, ◌↔◌, ℕ, true, List, Result, Ok, Err, IfOk}
use Rattle.std.specs.declared.alloc.AllocError.{AllocError}
use Rattle.rail_base.specs.declared.station.Station.{Station}
use Rattle.rail_base.specs.declared.plan.Command.{Command}
use Rattle.rail_outside.specs.Lines.{lines_of}
use Rattle.rail_spec.specs.Feasible.{IsFeasible}
use Rattle.cli_shell.specs.declared.status.Status.{Status}
use Rattle.cli_shell.specs.declared.status.Status.TheVariants as statuses
use Rattle.cli_shell.specs.declared.reply.Reply.{Reply}
use Rattle.cli_shell.specs.declared.ending.Ending.{Ending}
use Rattle.cli_shell.specs.declared.ending.Ending.TheVariants as ending
use Rattle.cli_shell.specs.Statuses.{is_refusal}
use Rattle.cli_shell.specs.Answers.{ReplySeen, design_in, plan_in}
use Rattle.cli_shell.specs.Simulations.{RunsSafely}

-- a reply, by its status and the bytes of its lines
abbrev pub reply_seen : Reply → ReplySeen
reply_seen reply = record { status = reply.status; lines = lines_of reply.lines.items }

-- the reply is the answer, where there is memory for one
abbrev pub RepliesWith : Result Reply AllocError → ReplySeen → Type 0
RepliesWith result answer = IfOk result (λ reply. reply_seen reply ≡ answer)

-- the ending with a reply that refuses, or for want of memory
abbrev pub ending_of : Result Reply AllocError → Ending
ending_of (Ok reply) = ending.RefusedWith reply
ending_of (Err e) = ending.Memory

-- what was read, seen by view, is what reading gives; or reading gives the answer that refuses it; want of memory and a fault of the shelf are free
abbrev pub ReadsOrEnds : {X Y : Type 0} → (X → Y) → Result X Ending → Result Y ReplySeen → Type 0
ReadsOrEnds view (Ok x) reading = reading ≡ Ok (view x)
ReadsOrEnds view (Err (ending.RefusedWith reply)) reading = reading ≡ Err (reply_seen reply)
ReadsOrEnds view (Err ending.Memory) reading = Unit {0}
ReadsOrEnds view (Err ending.ShelfFault) reading = Unit {0}

-- where nothing was read, a file is refused, unless memory was wanting or the shelf failed
abbrev pub RefusesFile : {X : Type 0} → Result X Ending → Type 0
RefusesFile (Ok x) = Unit {0}
RefusesFile (Err (ending.RefusedWith reply)) = is_refusal reply.status ≡ true
RefusesFile (Err ending.Memory) = Unit {0}
RefusesFile (Err ending.ShelfFault) = Unit {0}

-- where nothing was read, a file is refused, unless memory was wanting
abbrev pub OnlyRefuses : {X : Type 0} → Result X Ending → Type 0
OnlyRefuses (Ok x) = Unit {0}
OnlyRefuses (Err (ending.RefusedWith reply)) = is_refusal reply.status ≡ true
OnlyRefuses (Err ending.Memory) = Unit {0}
OnlyRefuses (Err ending.ShelfFault) = ⊥

-- nothing is refused: memory was wanting or the shelf failed
abbrev pub OnlyFails : {X : Type 0} → Result X Ending → Type 0
OnlyFails (Ok x) = Unit {0}
OnlyFails (Err (ending.RefusedWith reply)) = ⊥
OnlyFails (Err ending.Memory) = Unit {0}
OnlyFails (Err ending.ShelfFault) = Unit {0}

-- this holds of the reply, where one is made
abbrev pub OnReply : Result Reply Ending → (Reply → Type 0) → Type 0
OnReply (Ok reply) fact = fact reply
OnReply (Err (ending.RefusedWith reply)) fact = fact reply
OnReply (Err ending.Memory) fact = Unit {0}
OnReply (Err ending.ShelfFault) fact = Unit {0}

-- the reply is the answer; want of memory and a fault of the shelf are free
abbrev pub Replies : Result Reply Ending → ReplySeen → Type 0
Replies result answer = OnReply result (λ reply. answer ≡ reply_seen reply)

-- this holds of the status with which the work ends
abbrev pub OnEnd : Result Reply Ending → (Status → Type 0) → Type 0
OnEnd (Ok reply) fact = fact reply.status
OnEnd (Err (ending.RefusedWith reply)) fact = fact reply.status
OnEnd (Err ending.Memory) fact = fact statuses.Memory
OnEnd (Err ending.ShelfFault) fact = fact statuses.ShelfFault

-- ---- simulations

-- the bytes spell a plan over the design whose run is safe, and the status is 0 exactly where it is feasible
pub record DecidesPlan (d : Station) (bytes : List ℕ) (s : Status) : Type 0 where
  pub plan : List (List Command)
  pub parsed : plan_in d bytes ≡ Ok plan
  pub exactly : (s ≡ statuses.Done) ↔ IsFeasible d 256 plan
  pub safe : RunsSafely d plan

-- the one file spells a design, the other a plan over it, and the status is 0 exactly where that is feasible
pub record Decides (design_bytes plan_bytes : List ℕ) (s : Status) : Type 0 where
  pub design : Station
  pub parsed : design_in design_bytes ≡ Ok design
  pub decided : DecidesPlan design plan_bytes s
