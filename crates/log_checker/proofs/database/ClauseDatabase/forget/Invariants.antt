use Rattle.std.proofs.Common.{◌≡◌, drop}
use Rattle.log_checker.specs.Verdict.{forgotten}
use Rattle.log_checker.proofs.database.ClauseDatabase.forget.Given as goal

abbrev pub invariant-loop-id : goal.invariant-loop-id
invariant-loop-id l = record {
  left : forgotten l.self.derived l.self.store (drop l.id-index l.ids) ≡ forgotten l.initial.self.derived l.initial.self.store l.ids;
  derived : l.self.derived ≡ l.initial.self.derived;
}
