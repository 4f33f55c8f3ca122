use Rattle.std.proofs.Common.{◌≡◌, ℕ, ◌+◌, ◌≤◌, ◌<◌, [], length, map}
use Rattle.rail_base.specs.Numbering.{entry}
use Rattle.cone_spec.specs.Cones.{named}
use Rattle.cone_form.specs.Marks.{MarksPath}
use Rattle.cone_form.proofs.marks.rows_of.Given as goal

-- the rows so far mark the paths of their trains
abbrev pub invariant-loop-number : goal.invariant-loop-number
invariant-loop-number l = record {
  many : length l.rows.items + 1 ≡ l.number;
  marked : (t : ℕ) → 1 ≤ t → t < l.number → MarksPath (named l.cone (record { 0 = t })).path (entry [] (map (λ row. row.items) l.rows.items) t);
}
