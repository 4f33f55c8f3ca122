use Rattle.std.proofs.Common.{◌≡◌, ◌-◌, ◌++◌, map, drop}
use Rattle.normal_clause_spec.specs.Variables.{is_in, normal_numbered}
use Rattle.plan_encoding.specs.Encoders.{over}
use Rattle.plan_encoding.specs.Normal.{kept_by, normal_written}
use Rattle.plan_encoding.proofs.normal.NormalEncoder.kept_clause.Given as goal

-- what is put and what is left to put make all of it
abbrev pub invariant-loop-other : goal.invariant-loop-other
invariant-loop-other l =
    l.clause.items ++ map (over l.self.encoder normal_numbered) (map (λ e. is_in e (l.step - 1)) (drop l.other-index l.before))
    ≡ normal_written l.self.encoder (kept_by l.fn.command l.before l.step)
