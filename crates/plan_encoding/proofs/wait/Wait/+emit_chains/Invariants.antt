use Rattle.std.proofs.Common.{◌≡◌, ◌-◌, ◌++◌, [], ◌∷◌, drop, flat_map}
use Rattle.live_clause_spec.specs.Listed.{live_chains}
use Rattle.command_set.specs.Commands.{is_among}
use Rattle.plan_encoding.specs.Sinks.{emitted}
use Rattle.plan_encoding.specs.Encoders.{among, commands, table, numbered_clauses}
use Rattle.plan_encoding.specs.Waiting.{waits_over}
use Rattle.plan_encoding.specs.Waits.{waits_on}
use Rattle.plan_encoding.proofs.wait.Wait.+emit_chains.Given as goal

abbrev pub decreases-emit_chains : goal.decreases-emit_chains
decreases-emit_chains l = l.more

-- the chain is longer by the route, and what is left to list makes all of it
abbrev pub invariant-loop-next : goal.invariant-loop-next
invariant-loop-next l = record {
  longer : l.chain.items ≡ l.fn.chain.items ++ l.fn.route ∷ [];
  left : emitted l.sink (numbered_clauses l.self.tables.now.encoder (among l.self.tables.now.encoder waits_over l.self.first l.self.second (flat_map (live_chains (is_among (commands l.self.tables.now.encoder)) (table l.self.tables.now.encoder) l.self.first.train (l.more - 1) l.self.bound (l.fn.chain.items ++ l.fn.route ∷ [])) (drop l.next-index l.next-items))))
      ≡ emitted l.fn.sink (numbered_clauses l.self.tables.now.encoder (waits_on l.self l.more l.fn.chain.items l.fn.route));
}
