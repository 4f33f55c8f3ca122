use Rattle.std.proofs.Common.{◌≡◌, ◌++◌, ℕ, List, Some, take, drop, ap, arith}
use Rattle.std.proofs.lemmas.List.{take-append-drop}
use Rattle.std.proofs.lemmas.Grind.{common_steps}
use Rattle.rail_outside.proofs.memory_sink.MemorySinkSink.put.Goals as goal

pub returns-clause-leaves : goal.returns-clause-leaves
returns-clause-leaves c =
    let bytes : List ℕ = c.args.bytes.now in
    let count : ℕ = c.min-count.result in
    let out : c.append-2.new.bytes.items ≡ c.args.self.now.bytes.items ++ take count bytes = grind (arith, common_steps, c.in_ok-append-2.ensures.bytes_ok) in
    (take count bytes, (drop count bytes, take-append-drop count bytes), ap (λ (text : List ℕ). Some text) out)
