-- The clauses that cones and bounds of a design show.
use Rattle.std.specs.Prelude.{List, Result}
use Rattle.bound_spec.specs.declared.Evidence.{Evidence}
use Rattle.bound_spec.specs.declared.EvidenceFault.{EvidenceFault}
use Rattle.sat_clause.specs.declared.lit.Lit.{Lit}
use Rattle.proof_judge.specs.declared.evidence.ByDesign.{ByDesign}
use Rattle.proof_judge.specs.Judged.{refuted}

-- what is left of the clause that a cone or a bound shows of the design, or why it shows none
abbrev pub shows : ByDesign → Evidence → Result (List Lit) EvidenceFault
shows c = refuted c.kind c.contention.interlocking.now.design.station c.steps.count
