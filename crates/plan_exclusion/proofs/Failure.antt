-- The exclusion of a plan by the cone of its failure.
use Rattle.std.proofs.Common.{◌≡◌, ℕ, ◌≤◌, Bool, true, List, is_none, Option, None, Some, refl, sym, ap, subst, ◌∙◌, arith}
use Rattle.base_spec.specs.Bases.{HasModelFor, clauses_of}
use Rattle.base_spec.proofs.Models.{gives_plan}
use Rattle.cone_clause.specs.Numbered.{base_clause}
use Rattle.command_set.specs.Commands.{is_among}
use Rattle.live_clause_spec.specs.Clauses.{left_of}
use Rattle.live_clause_spec.specs.Variables.{live_commands}
use Rattle.plan_encoding.specs.Bases.{speaks_of}
use Rattle.proof_judge.proofs.Deciding.{cone_shown, cone_so}
use Rattle.proof_log.specs.declared.line.Line.TheVariants.{Refute}
use Rattle.proof_log.specs.Text.{text_of_line}
use Rattle.rail_base.specs.declared.history.TrainHistory.{TrainHistory}
use Rattle.rail_base.specs.declared.history.Verdict.TheVariants.{Failed}
use Rattle.rail_base.specs.declared.plan.Command.{Command}
use Rattle.rail_base.specs.declared.plan.Violation.{Violation}
use Rattle.rail_base.specs.declared.route.Route.{Route}
use Rattle.rail_base.specs.declared.station.Station.{Station}
use Rattle.rail_base.specs.Admitted.{IsAdmitted}
use Rattle.bound_spec.specs.declared.Evidence.TheVariants as evidence
use Rattle.cone_spec.specs.declared.Cone.{Cone}
use Rattle.cone_spec.specs.Laws.{Refutes}
use Rattle.cone_spec.specs.Validity.{fault_of, in_design}
use Rattle.cone_spec.proofs.Refusing.{holds_of_valid}
use Rattle.slice_spec.specs.Holders.{GivesEach}
use Rattle.slice_spec.specs.Leasts.{IsSliceOf}
use Rattle.rail_spec.specs.Feasible.{IsWellFormed, IsRunnable}
use Rattle.rail_spec.specs.Histories.{verdict_of}
use Rattle.rail_spec.specs.Track.{routes_of}
use Rattle.sat_clause.specs.declared.lit.Lit.{Lit}
use Rattle.sat_core.specs.Models.{value_in}
use Rattle.timing_refuter.specs.Small.{IsSmall}
use Rattle.clause_spec.specs.declared.question.BaseKind.{BaseKind}
use Rattle.plan_exclusion.specs.Exclusions.{IsExclusion}
use Rattle.plan_exclusion.specs.Failures.{AreValuesOfPlan, FailsSo, IsRefutedBy}
use Rattle.plan_exclusion.proofs.Denying.{evidence_denies}
use Rattle.plan_exclusion.proofs.Forming.{well_formed_within}
use Rattle.proof_judge.proofs.Within.{written_so}
use Rattle.plan_exclusion.proofs.Written.{cone-written}

none_is : {X : Type 0} (o : Option X) → is_none o ≡ true → o ≡ None
none_is None h = refl
none_is (Some x) h = absurd (cc)

not_some : (c : List Lit) → None ≡ Some c → ⊥
not_some c e = cc

module _ (d : Station) (n : ℕ) (routes : List Route) (table : routes ≡ routes_of d) (plan : List (List Command)) (runs : IsRunnable d (routes_of d) n plan) where
  -- it is well formed over the table for 256 steps, and for n
  pub formed_so : (m : ℕ) → n ≤ m → IsWellFormed d routes m plan
  formed_so m le = subst (λ (r : List Route). IsWellFormed d r m plan) (sym table) (well_formed_within d (routes_of d) n m plan le runs.well_formed)

  pub fails_so : (history : List TrainHistory) (tick : ℕ) (violation : Violation) → FailsSo d plan history tick violation → (ticks : ℕ) × (verdict_of d routes plan ticks ≡ Failed history tick violation)
  fails_so history tick violation f = (tick, ap (λ (r : List Route). verdict_of d r plan tick) table ∙ f)

  module _ (good : IsAdmitted d) (each : GivesEach d plan) (some : 1 ≤ n) (most : n ≤ 256) (cone : Cone)
      (refutes : GivesEach d plan → (m : ℕ) → IsWellFormed d routes m plan → Refutes d routes m cone plan) (small : GivesEach d plan → IsSmall cone) where
    -- the cone refutes it
    pub refutes_so : Refutes d routes n cone plan
    refutes_so = refutes each n (formed_so n (le-refl n))
      where
        le-refl : (k : ℕ) → k ≤ k
        le-refl k = omega arith

    module _ (history : List TrainHistory) (tick : ℕ) (violation : Violation) (fails : FailsSo d plan history tick violation) (is : IsSliceOf d routes plan tick violation cone)
        (kind : BaseKind) (cs : List Command) (speaks : cs ≡ live_commands (speaks_of kind d routes) d routes) where
      -- it shows that the plan fails
      refuted_by : IsRefutedBy d plan (evidence.Cone cone)
      refuted_by = (record { history = history; tick = tick; violation = violation; fails = fails }, subst (λ (r : List Route). IsSliceOf d r plan tick violation cone) table is)

      fits : in_design d routes cone ≡ true
      fits = (holds_of_valid d routes cone refutes_so.valid).in_design

      -- something is left of its clause, since the plan's values make it false
      pub stays : (values : List Bool) → AreValuesOfPlan kind d n values plan → None ≡ left_of (is_among cs) d routes n (base_clause d routes n cone) → ⊥
      stays values told none =
          let clauses = clauses_of kind d (routes_of d) n in
          let model : HasModelFor kind d (routes_of d) n plan clauses =
          subst (λ (p : List (List Command)). HasModelFor kind d (routes_of d) n p clauses) (sym told.decoded) (gives_plan kind d n some (value_in values) told.holds) in
          let left = evidence_denies kind d good n some plan runs each clauses model (evidence.Cone cone) refuted_by in
          not_some left.0 (none ∙ (cone_so kind d routes table n some cs speaks cone fits ∙ left.1))

      -- the line and what is left of the clause exclude it
      pub excluded_so : (line : List ℕ) (clause : List Lit) → line ≡ text_of_line (Refute (evidence.Cone cone)) → Some clause ≡ left_of (is_among cs) d routes n (base_clause d routes n cone) → IsExclusion kind d n plan line clause
      excluded_so line clause text left =
          let shows = cone_shown kind d routes table n some cs speaks cone fits clause left (none_is (fault_of d routes cone) refutes_so.valid) in
          record {
            evidence = evidence.Cone cone;
            refuted_by = refuted_by;
            written = written_so kind d n some (evidence.Cone cone) line clause shows refl (cone-written d good routes n cone plan most refutes_so (small each)) text;
          }
