-- Values that make a base true, and the model of the plan that they give, say the same of cones and bounds.
use Rattle.std.proofs.Common.{◌≡◌, ℕ, ◌≤◌, inl, inr, Bool, true, cond, not, ◌||◌, List, [], ◌∷◌, map, None, Ok, refl, sym, ap, ap₂, ◌∙◌, arith}
use Rattle.std.specs.List.{list_all}
use Rattle.base_spec.specs.Bases.{clauses_of, decoded_of, left_in, on_plain}
use Rattle.base_spec.proofs.Alike.{begins_with_plain}
use Rattle.base_spec.proofs.Left.{left_on_plain}
use Rattle.bound_clause.proofs.Holding.{fits_design}
use Rattle.bound_clause.proofs.Known as bound
use Rattle.cone_clause.specs.Numbered.{base_literal, variable_of, lit_of}
use Rattle.cone_clause.proofs.Known.{IsKnown, all_known}
use Rattle.clause_spec.specs.declared.question.BaseKind.{BaseKind}
use Rattle.clause_spec.specs.Clauses.{base_clauses}
use Rattle.clause_spec.specs.Models.{model_of}
use Rattle.clause_spec.specs.Variables.{number_of, numbered}
use Rattle.clause_spec.proofs.Decode.{decoded_given, decoded_before}
use Rattle.clause_spec.proofs.Places.{pair_from}
use Rattle.proof_judge.specs.Judged.{clause_said, fault_of, not_in_design, refuted}
use Rattle.proof_judge.proofs.Below.{clause_known, numbers_said}
use Rattle.proof_judge.proofs.Showing.{none_of, shown_valid}
use Rattle.rail_base.specs.declared.station.Station.{Station}
use Rattle.rail_base.proofs.Members.{In}
use Rattle.bound_spec.specs.declared.Evidence.{Evidence}
use Rattle.bound_spec.specs.declared.Evidence.TheVariants as evidence
use Rattle.bound_spec.specs.declared.EvidenceFault.TheVariants as of
use Rattle.bound_spec.specs.Clauses.{clause_of_bound}
use Rattle.bound_spec.specs.Validity as certificate
use Rattle.cone_spec.specs.Clauses.{Fact, Used, Before, Literal, clause_of_cone}
use Rattle.cone_spec.specs.Validity as cone
use Rattle.cone_spec.proofs.Refusing.{holds_of_valid}
use Rattle.rail_spec.specs.Track.{routes_of}
use Rattle.sat_clause.specs.declared.lit.Lit.{Lit}
use Rattle.sat_clause.specs.Clauses.{lit_holds, clause_holds}

module _ (kind : BaseKind) (d : Station) (n : ℕ) (some : 1 ≤ n) (values : ℕ → Bool) (true_ : list_all (clause_holds values) (clauses_of kind d (routes_of d) n) ≡ true) where
  -- for all variables of the plain base
  abbrev whole : ℕ → Bool
  whole = on_plain kind d (routes_of d) n values

  abbrev model : ℕ → Bool
  model = model_of d (routes_of d) n (decoded_of kind d (routes_of d) n values)

  plain : list_all (clause_holds whole) (base_clauses d (routes_of d) n) ≡ true
  plain = begins_with_plain kind d (routes_of d) n some values true_

  fact_alike : (f : Fact) → IsKnown d (routes_of d) f → model (number_of d (routes_of d) n (variable_of n f)) ≡ whole (number_of d (routes_of d) n (variable_of n f))
  fact_alike (Used c) m = decoded_given d (routes_of d) n whole plain c n m some (omega arith)
  fact_alike (Before e c) m = decoded_before d (routes_of d) n whole plain some e c (pair_from d (routes_of d) e c m.0 m.1 m.2)

  literal_alike : (l : Literal) → IsKnown d (routes_of d) l.fact → lit_holds model (lit_of d (routes_of d) n l) ≡ lit_holds whole (lit_of d (routes_of d) n l)
  literal_alike l m = ap (λ b. cond l.negated (not b) b) (fact_alike l.fact m)

  each_alike : (ls : List Literal) → ((l : Literal) → In l ls → IsKnown d (routes_of d) l.fact) → clause_holds model (map (lit_of d (routes_of d) n) ls) ≡ clause_holds whole (map (lit_of d (routes_of d) n) ls)
  each_alike [] h = refl
  each_alike (l ∷ ls) h = ap₂ (λ a b. a || b) (literal_alike l (h l (inl refl))) (each_alike ls (λ k m. h k (inr m)))

  numbers_alike : (ls : List Literal) → ((l : Literal) → In l ls → IsKnown d (routes_of d) l.fact)
      → clause_holds model (map (numbered d (routes_of d) n) (map (base_literal n) ls)) ≡ clause_holds whole (map (numbered d (routes_of d) n) (map (base_literal n) ls))
  numbers_alike ls known =
      ap (clause_holds model) (numbers_said d (routes_of d) n ls) ∙ (each_alike ls known ∙ sym (ap (clause_holds whole) (numbers_said d (routes_of d) n ls)))

  said_alike : (e : Evidence) → fault_of d e ≡ None → clause_holds model (map (numbered d (routes_of d) n) (clause_said d n e)) ≡ clause_holds whole (map (numbered d (routes_of d) n) (clause_said d n e))
  said_alike (evidence.Cone k) valid =
      numbers_alike (clause_of_cone d (routes_of d) k) (all_known d (routes_of d) k (holds_of_valid d (routes_of d) k (none_of of.Cone (cone.fault_of d (routes_of d) k) valid)).in_design)
  said_alike (evidence.Bound b) valid =
      numbers_alike (clause_of_bound d (routes_of d) b) (bound.all_known d (routes_of d) b (fits_design d (routes_of d) b (none_of of.Bound (certificate.fault_of d (routes_of d) b) valid)))

  -- so of what is shown
  pub shown_alike : (e : Evidence) (clause : List Lit) → refuted kind d n e ≡ Ok clause → clause_holds model (map (numbered d (routes_of d) n) (clause_said d n e)) ≡ clause_holds values clause
  shown_alike e clause shows =
      let s = shown_valid (fault_of d e) (not_in_design e) (left_in kind d (routes_of d) n (clause_said d n e)) clause shows in
      said_alike e s.0 ∙ sym (left_on_plain d (routes_of d) n (clause_said d n e) clause (clause_known d n some e s.0) kind s.1 values)
