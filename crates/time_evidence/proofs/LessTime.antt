-- What is valid in a design, or shows a clause, is valid and shows it with less time.
use Rattle.std.proofs.Common.{◌≡◌, ℕ, List, Option, None, Some, Ok, map, refl, sym, ap, subst, ◌∙◌}
use Rattle.std.specs.Prelude.{option_map}
use Rattle.rail_base.specs.declared.station.Station.{Station}
use Rattle.rail_base.specs.declared.station.Within.{Within}
use Rattle.rail_base.specs.Stations.{within_of}
use Rattle.rail_spec.specs.Track.{routes_of}
use Rattle.sat_clause.specs.declared.lit.Lit.{Lit}
use Rattle.clause_spec.specs.declared.question.BaseKind.{BaseKind}
use Rattle.base_spec.specs.Bases.{left_in}
use Rattle.cone_spec.specs.declared.Cone.{Cone}
use Rattle.cone_spec.specs.Validity as cone
use Rattle.cone_clause.specs.Numbered.{base_clause, base_literal}
use Rattle.bound_spec.specs.declared.Bound.{Bound}
use Rattle.bound_spec.specs.declared.Evidence.{Evidence}
use Rattle.bound_spec.specs.declared.Evidence.TheVariants as evidence
use Rattle.bound_spec.specs.declared.EvidenceFault.{EvidenceFault}
use Rattle.bound_spec.specs.declared.EvidenceFault.TheVariants as of
use Rattle.bound_spec.specs.Validity as bound
use Rattle.bound_clause.specs.Numbered.{base_clause_of_bound}
use Rattle.proof_judge.specs.Judged.{clause_said, fault_of, not_in_design, shown_by}
use Rattle.greatest_time.proofs.Alike.{routes_alike}
use Rattle.time_evidence.specs.Laws.{EachLessTime, ConesStayValid, BoundsStayValid, EvidenceStaysShown}
use Rattle.time_evidence.proofs.Tighter.{AreTighter, tighter}
use Rattle.time_evidence.proofs.Cones.{cone_stays}
use Rattle.time_evidence.proofs.Bounds.{bound_stays, clause_same}
use Rattle.time_evidence.proofs.Bases.{left_same}

-- ---- what is shown

-- a clause is shown where there is no reason against it, and it is what is left
shown_parts : (fault : Option EvidenceFault) (none : EvidenceFault) (left : Option (List Lit)) (clause : List Lit) → shown_by fault none left ≡ Ok clause → (fault ≡ None) × (left ≡ Some clause)
shown_parts (Some f) none (Some l) clause h = cc
shown_parts (Some f) none None clause h = cc
shown_parts None none None clause h = cc
shown_parts None none (Some l) clause h = (refl, cc)

shown_from : (fault : Option EvidenceFault) (none : EvidenceFault) (left : Option (List Lit)) (clause : List Lit) → fault ≡ None → left ≡ Some clause → shown_by fault none left ≡ Ok clause
shown_from fault none left clause e f = ap (λ x. shown_by x none left) e ∙ ap (shown_by None none) f

-- no reason of one kind is none at all
unwrapped : {X Y : Type 0} (f : X → Y) (o : Option X) → option_map f o ≡ None → o ≡ None
unwrapped f None h = refl
unwrapped f (Some x) h = cc

-- ---- two designs, of which the one has less time

module _ (d : Station) (vs ws : List Within) (less : AreTighter vs ws) where
  abbrev more_time : Station
  more_time = record d { withins = ws }

  abbrev less_time : Station
  less_time = record d { withins = vs }

  cone_valid : (k : Cone) → cone.fault_of more_time (routes_of more_time) k ≡ None → cone.fault_of less_time (routes_of less_time) k ≡ None
  cone_valid k valid = subst (λ routes. cone.fault_of less_time routes k ≡ None) (sym (routes_alike d vs))
      (cone_stays d vs ws less (routes_of d) k (subst (λ routes. cone.fault_of more_time routes k ≡ None) (routes_alike d ws) valid))

  bound_valid : (b : Bound) → bound.fault_of more_time (routes_of more_time) b ≡ None → bound.fault_of less_time (routes_of less_time) b ≡ None
  bound_valid b valid = subst (λ routes. bound.fault_of less_time routes b ≡ None) (sym (routes_alike d vs))
      (bound_stays d vs ws less (routes_of d) b (subst (λ routes. bound.fault_of more_time routes b ≡ None) (routes_alike d ws) valid))

  valid_stays : (e : Evidence) → fault_of more_time e ≡ None → fault_of less_time e ≡ None
  valid_stays (evidence.Cone k) valid = ap (option_map of.Cone) (cone_valid k (unwrapped of.Cone (cone.fault_of more_time (routes_of more_time) k) valid))
  valid_stays (evidence.Bound b) valid = ap (option_map of.Bound) (bound_valid b (unwrapped of.Bound (bound.fault_of more_time (routes_of more_time) b) valid))

  -- what is said is the same
  said_same : (n : ℕ) (e : Evidence) → clause_said less_time n e ≡ clause_said more_time n e
  said_same n (evidence.Cone k) = ap (λ routes. base_clause d routes n k) (routes_alike d vs ∙ sym (routes_alike d ws))
  said_same n (evidence.Bound b) =
      ap (λ routes. base_clause_of_bound less_time routes n b) (routes_alike d vs)
      ∙ ap (map (base_literal n)) (clause_same d vs ws less (routes_of d) b)
      ∙ ap (λ routes. base_clause_of_bound more_time routes n b) (sym (routes_alike d ws))

  -- and so is what is left of it
  said_left : (kind : BaseKind) (n : ℕ) (e : Evidence) → left_in kind less_time (routes_of less_time) n (clause_said less_time n e) ≡ left_in kind more_time (routes_of more_time) n (clause_said more_time n e)
  said_left kind n e =
      ap (λ routes. left_in kind less_time routes n (clause_said less_time n e)) (routes_alike d vs)
      ∙ left_same d vs (routes_of d) n kind (clause_said less_time n e)
      ∙ ap (left_in kind d (routes_of d) n) (said_same n e)
      ∙ sym (left_same d ws (routes_of d) n kind (clause_said more_time n e))
      ∙ ap (λ routes. left_in kind more_time routes n (clause_said more_time n e)) (sym (routes_alike d ws))

  shown_stays : EvidenceStaysShown more_time less_time
  shown_stays kind n e clause h =
      let parts = shown_parts (fault_of more_time e) (not_in_design e) (left_in kind more_time (routes_of more_time) n (clause_said more_time n e)) clause h in
      shown_from (fault_of less_time e) (not_in_design e) (left_in kind less_time (routes_of less_time) n (clause_said less_time n e)) clause (valid_stays e parts.0) (said_left kind n e ∙ parts.1)

-- ---- one within with less time

pub cones_stay : EachLessTime ConesStayValid
cones_stay d w ms less h = cone_valid d _ _ (tighter d.withins _ (within_of d w) less ms h)

pub bounds_stay : EachLessTime BoundsStayValid
bounds_stay d w ms less h = bound_valid d _ _ (tighter d.withins _ (within_of d w) less ms h)

pub evidence_stays : EachLessTime EvidenceStaysShown
evidence_stays d w ms less h = shown_stays d _ _ (tighter d.withins _ (within_of d w) less ms h)
