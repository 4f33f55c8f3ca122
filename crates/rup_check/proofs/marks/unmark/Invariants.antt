use Rattle.std.proofs.Common.{◌≡◌, false, drop, length}
use Rattle.sat_clause.specs.declared.lit.Lit.{Lit}
use Rattle.sat_clause.specs.Hints.{is_assigned}
use Rattle.rup_check.specs.Marks.{marked}
use Rattle.rup_check.proofs.marks.unmark.Given as goal

abbrev pub invariant-loop-literal : goal.invariant-loop-literal
invariant-loop-literal l =
    record {
      size : length l.table ≡ length l.fn.table;
      left : (k : Lit) → is_assigned (drop l.literal-index l.assigned) k ≡ false → marked l.table k ≡ false;
    }
