-- Which of the reasons against a cone or a bound is the first.
use Rattle.std.proofs.Common.{◌≡◌, ℕ, ◌≤◌, Bool, true, false, ◌&&◌, if◌then◌else◌, List, option_map, Option, None, Some, Ok, Err, refl, sym, ap, ◌∙◌, subst}
use Rattle.std.specs.List.{list_all}
use Rattle.rail_base.specs.declared.plan.Command.{Command}
use Rattle.rail_base.specs.declared.station.Station.{Station}
use Rattle.rail_base.specs.declared.route.Route.{Route}
use Rattle.base_spec.specs.Bases.{left_in}
use Rattle.bound_spec.specs.declared.Bound.{Bound}
use Rattle.bound_spec.specs.declared.BoundFault.{BoundFault}
use Rattle.bound_spec.specs.declared.BoundFault.TheVariants.{BoundNotInDesign, PlaceNotCovered, BoundNotShown}
use Rattle.bound_spec.specs.declared.Evidence.TheVariants as evidence
use Rattle.bound_spec.specs.declared.EvidenceFault.TheVariants as of
use Rattle.bound_spec.specs.Clauses.{clause_of_bound}
use Rattle.bound_spec.specs.Validity.{names_design, is_consistent, covered, shows_failure, first_fault, fault_of}
use Rattle.bound_clause.proofs.Known as bound
use Rattle.clause_spec.specs.declared.question.BaseKind.{BaseKind}
use Rattle.cone_spec.specs.declared.Cone.{Cone}
use Rattle.cone_spec.specs.declared.ConeFault.{ConeFault}
use Rattle.cone_spec.specs.declared.ConeFault.TheVariants.{PathNotInDesign}
use Rattle.cone_spec.specs.Clauses.{clause_of_cone}
use Rattle.cone_spec.specs.Validity as cone
use Rattle.cone_clause.specs.Numbered.{base_clause}
use Rattle.cone_clause.proofs.Known.{all_known}
use Rattle.command_set.specs.Commands.{is_among}
use Rattle.live_clause_spec.specs.Clauses.{left_of}
use Rattle.live_clause_spec.specs.Variables.{live_commands}
use Rattle.plan_encoding.specs.Bases.{speaks_of}
use Rattle.plan_encoding.proofs.Lefts.{left_by_kind}
use Rattle.rail_base.proofs.Members.{and_both}
use Rattle.rail_spec.specs.Track.{routes_of}
use Rattle.sat_clause.specs.declared.lit.Lit.{Lit}
use Rattle.bound_clause.specs.Numbered.{base_clause_of_bound, left_if_consistent}
use Rattle.proof_judge.specs.Judged.{refuted}
use Rattle.proof_judge.proofs.Below.{literals_known}
use Rattle.proof_judge.proofs.Showing.{faulty, none_left, not_there, valid_shows}

module _ (kind : BaseKind) (d : Station) (routes : List Route) (same : routes ≡ routes_of d) (n : ℕ) (some : 1 ≤ n)
    (cs : List Command) (speaks : cs ≡ live_commands (speaks_of kind d routes) d routes) where
  -- ---- cones

  module _ (k : Cone) where
    abbrev cone_left : Option (List Lit)
    cone_left = left_in kind d (routes_of d) n (base_clause d (routes_of d) n k)

    abbrev by_tests : Bool → Option ConeFault
    by_tests b = cone.first_fault b (list_all (cone.free_granted d routes k) k.trains) (list_all (λ c. cone.holder_fits d routes k c c.holder) k.trains) (cone.shows_violation d routes k k.violation)

    pub no_path : cone.in_design d routes k ≡ false → refuted kind d n (evidence.Cone k) ≡ Err (of.Cone PathNotInDesign)
    no_path h =
        let first : cone.fault_of d routes k ≡ Some PathNotInDesign = ap by_tests h in
        not_there (option_map of.Cone (cone.fault_of d (routes_of d) k)) (of.Cone PathNotInDesign) cone_left
        (ap (option_map of.Cone) (subst (λ rs. cone.fault_of d rs k ≡ Some PathNotInDesign) same first))

    module _ (fits : cone.in_design d routes k ≡ true) where
      pub cone_so : left_of (is_among cs) d routes n (base_clause d routes n k) ≡ cone_left
      cone_so =
          left_by_kind d routes n (base_clause d routes n k) (literals_known d routes n some (clause_of_cone d routes k) (all_known d routes k fits)) kind cs speaks
          ∙ ap (λ rs. left_in kind d rs n (base_clause d rs n k)) same

      pub cone_dead : None ≡ left_of (is_among cs) d routes n (base_clause d routes n k) → refuted kind d n (evidence.Cone k) ≡ Err (of.Cone PathNotInDesign)
      cone_dead h = none_left (option_map of.Cone (cone.fault_of d (routes_of d) k)) (of.Cone PathNotInDesign) cone_left (sym cone_so ∙ sym h)

      module _ (clause : List Lit) (left : Some clause ≡ left_of (is_among cs) d routes n (base_clause d routes n k)) where
        pub cone_faulty : (fault : ConeFault) → cone.fault_of d routes k ≡ Some fault → refuted kind d n (evidence.Cone k) ≡ Err (of.Cone fault)
        cone_faulty fault h =
            faulty (option_map of.Cone (cone.fault_of d (routes_of d) k)) (of.Cone fault) (of.Cone PathNotInDesign) cone_left clause
            (ap (option_map of.Cone) (subst (λ rs. cone.fault_of d rs k ≡ Some fault) same h)) (sym cone_so ∙ sym left)

        pub cone_shown : cone.fault_of d routes k ≡ None → refuted kind d n (evidence.Cone k) ≡ Ok clause
        cone_shown h =
            valid_shows (option_map of.Cone (cone.fault_of d (routes_of d) k)) (of.Cone PathNotInDesign) cone_left clause
            (ap (option_map of.Cone) (subst (λ rs. cone.fault_of d rs k ≡ None) same h)) (sym cone_so ∙ sym left)

  -- ---- bounds

  module _ (b : Bound) where
    abbrev bound_left : Option (List Lit)
    bound_left = left_in kind d (routes_of d) n (base_clause_of_bound d (routes_of d) n b)

    -- the first fault by the four tests
    abbrev by_four : Bool → Bool → Bool → Bool → Option BoundFault
    by_four names consistent is_covered is_shown = first_fault (names && consistent) is_covered is_shown

    not_in_design : fault_of d routes b ≡ Some BoundNotInDesign → refuted kind d n (evidence.Bound b) ≡ Err (of.Bound BoundNotInDesign)
    not_in_design h =
        not_there (option_map of.Bound (fault_of d (routes_of d) b)) (of.Bound BoundNotInDesign) bound_left
        (ap (option_map of.Bound) (subst (λ rs. fault_of d rs b ≡ Some BoundNotInDesign) same h))

    pub not_named : names_design d routes b ≡ false → refuted kind d n (evidence.Bound b) ≡ Err (of.Bound BoundNotInDesign)
    not_named h = not_in_design (ap (λ x. by_four x (is_consistent d routes b) (covered d routes b) (shows_failure d routes b)) h)

    module _ (names : names_design d routes b ≡ true) where
      by_three : (x y z : Bool) → is_consistent d routes b ≡ x → covered d routes b ≡ y → shows_failure d routes b ≡ z → fault_of d routes b ≡ first_fault x y z
      by_three x y z e f g =
          ap (λ v. by_four v (is_consistent d routes b) (covered d routes b) (shows_failure d routes b)) names
          ∙ (ap (λ v. first_fault v (covered d routes b) (shows_failure d routes b)) e ∙ (ap (λ v. first_fault x v (shows_failure d routes b)) f ∙ ap (first_fault x y) g))

      bound_so : is_consistent d routes b ≡ true → left_of (is_among cs) d routes n (base_clause_of_bound d routes n b) ≡ bound_left
      bound_so consistent =
          left_by_kind d routes n (base_clause_of_bound d routes n b) (literals_known d routes n some (clause_of_bound d routes b) (bound.all_known d routes b (and_both _ _ names consistent))) kind cs speaks
          ∙ ap (λ rs. left_in kind d rs n (base_clause_of_bound d rs n b)) same

      -- it takes something for granted both ways, or denies what the base hasn't
      pub bound_dead : None ≡ left_if_consistent (is_among cs) d routes n b → refuted kind d n (evidence.Bound b) ≡ Err (of.Bound BoundNotInDesign)
      bound_dead h = go (is_consistent d routes b) refl h
        where
          go : (x : Bool) → is_consistent d routes b ≡ x → None ≡ (if x then left_of (is_among cs) d routes n (base_clause_of_bound d routes n b) else None) → refuted kind d n (evidence.Bound b) ≡ Err (of.Bound BoundNotInDesign)
          go true e none = none_left (option_map of.Bound (fault_of d (routes_of d) b)) (of.Bound BoundNotInDesign) bound_left (sym (bound_so e) ∙ sym none)
          go false e none = not_in_design (by_three false (covered d routes b) (shows_failure d routes b) e refl refl)

      module _ (clause : List Lit) (listed : Some clause ≡ left_if_consistent (is_among cs) d routes n b) where
        consistent : (is_consistent d routes b ≡ true) × (bound_left ≡ Some clause)
        consistent = go (is_consistent d routes b) refl listed
          where
            go : (x : Bool) → is_consistent d routes b ≡ x → Some clause ≡ (if x then left_of (is_among cs) d routes n (base_clause_of_bound d routes n b) else None) → (is_consistent d routes b ≡ true) × (bound_left ≡ Some clause)
            go true e there = (e, sym (bound_so e) ∙ sym there)
            go false e there = absurd (cc)

        refused : (f : BoundFault) → fault_of d routes b ≡ Some f → refuted kind d n (evidence.Bound b) ≡ Err (of.Bound f)
        refused f e =
            faulty (option_map of.Bound (fault_of d (routes_of d) b)) (of.Bound f) (of.Bound BoundNotInDesign) bound_left clause
            (ap (option_map of.Bound) (subst (λ rs. fault_of d rs b ≡ Some f) same e)) consistent.1

        pub not_covered : covered d routes b ≡ false → refuted kind d n (evidence.Bound b) ≡ Err (of.Bound PlaceNotCovered)
        not_covered h = refused PlaceNotCovered (by_three true false (shows_failure d routes b) consistent.0 h refl)

        pub not_shown : covered d routes b ≡ true → shows_failure d routes b ≡ false → refuted kind d n (evidence.Bound b) ≡ Err (of.Bound BoundNotShown)
        not_shown h g = refused BoundNotShown (by_three true true false consistent.0 h g)

        pub accepted : covered d routes b ≡ true → shows_failure d routes b ≡ true → refuted kind d n (evidence.Bound b) ≡ Ok clause
        accepted h g =
            valid_shows (option_map of.Bound (fault_of d (routes_of d) b)) (of.Bound BoundNotInDesign) bound_left clause
            (ap (option_map of.Bound) (subst (λ rs. fault_of d rs b ≡ None) same (by_three true true true consistent.0 h g))) consistent.1
