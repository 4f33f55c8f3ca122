-- What a sink in memory was given and is to fail.
use Rattle.std.specs.Prelude.{ℕ, ◌+◌, ◌==◌, List, [], length, take, Option, Some, None, Result, Err, find}
use Rattle.rail_outside.specs.declared.memory_sink.Failure.{Failure}
use Rattle.rail_outside.specs.declared.memory_sink.MemorySink.{MemorySink}
use Rattle.rail_outside.specs.declared.sink.SinkFault.{SinkFault}
use Rattle.rail_outside.specs.declared.sink.SinkFault.TheVariants.{Memory}
use Rattle.rail_outside.specs.Lines.{lines_of}

abbrev pub written_to : MemorySink → List ℕ
written_to sink = sink.bytes.items

-- the pieces of the calls so far
abbrev pub pieces_of : MemorySink → List (List ℕ)
pieces_of sink = lines_of sink.pieces.items

abbrev pub failures_of : MemorySink → List Failure
failures_of sink = sink.failures.items

abbrev pub faults_in : MemorySink → ℕ
faults_in sink = sink.faults

-- the failure of the next call, where it is to fail
abbrev pub next_failure : MemorySink → Option Failure
next_failure sink = find (λ failure. failure.call == length sink.pieces.items + 1) (failures_of sink)

-- what a put writes: its piece, or as much of its prefix as the failure lets out
abbrev pub put_bytes : {X : Type 0} → Option Failure → Result X SinkFault → List ℕ → List ℕ
put_bytes failure (Err Memory) bytes = []
put_bytes None result bytes = bytes
put_bytes (Some failure) result bytes = take failure.first bytes
