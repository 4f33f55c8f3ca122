-- How a run of the program ends.
use Rattle.std.specs.Prelude.{ℕ, Bool, true, false}
use Rattle.cli_shell.specs.declared.status.Status.{Status}
use Rattle.cli_shell.specs.declared.status.Status.TheVariants.{Done, No, Usage, DesignRefused, PlanRefused}
use Rattle.cli_shell.specs.declared.status.Status.TheVariants.{ConflictsSpent, Memory, ShelfFault, SinkFault}
use Rattle.cli_shell.specs.declared.status.Status.TheVariants.{TicksSpent, LogSpent, TooLong}

-- the number of a status
abbrev pub code_of : Status → ℕ
code_of Done = 0
code_of No = 1
code_of Usage = 2
code_of DesignRefused = 3
code_of PlanRefused = 4
code_of ConflictsSpent = 5
code_of Memory = 6
code_of ShelfFault = 7
code_of SinkFault = 8
code_of TicksSpent = 9
code_of LogSpent = 10
code_of TooLong = 11

-- the run came to its answer: memory was there, and neither shelf nor sink failed
abbrev pub is_answered : Status → Bool
is_answered Memory = false
is_answered ShelfFault = false
is_answered SinkFault = false
is_answered Done = true
is_answered No = true
is_answered Usage = true
is_answered DesignRefused = true
is_answered PlanRefused = true
is_answered TooLong = true
is_answered ConflictsSpent = true
is_answered TicksSpent = true
is_answered LogSpent = true

-- the answer refuses a file
abbrev pub is_refusal : Status → Bool
is_refusal DesignRefused = true
is_refusal PlanRefused = true
is_refusal TooLong = true
is_refusal Usage = false
is_refusal Done = false
is_refusal No = false
is_refusal Memory = false
is_refusal ShelfFault = false
is_refusal SinkFault = false
is_refusal ConflictsSpent = false
is_refusal TicksSpent = false
is_refusal LogSpent = false

-- the answer is a verdict on a plan
abbrev pub is_verdict : Status → Bool
is_verdict Done = true
is_verdict No = true
is_verdict Usage = false
is_verdict DesignRefused = false
is_verdict PlanRefused = false
is_verdict Memory = false
is_verdict ShelfFault = false
is_verdict SinkFault = false
is_verdict TooLong = false
is_verdict ConflictsSpent = false
is_verdict TicksSpent = false
is_verdict LogSpent = false
