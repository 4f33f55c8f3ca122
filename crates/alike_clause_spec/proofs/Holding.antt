-- The model of a plan with the pairs in turn makes their clauses true.
use Rattle.std.proofs.Common.{◌≡◌, ℕ, ◌≤◌, inl, inr, true, nat_le, List, map, flat_map, refl, sym, subst, ◌∙◌, arith, leb-true, le-leb, true≢false}
use Rattle.std.specs.List.{list_all}
use Rattle.std.proofs.lemmas.List.Folds.{list_all-append}
use Rattle.rail_base.specs.declared.station.Station.{Station}
use Rattle.rail_base.specs.declared.station.TrainNo.{TrainNo}
use Rattle.rail_base.specs.declared.route.Route.{Route}
use Rattle.rail_base.specs.declared.route.RouteNo.{RouteNo}
use Rattle.rail_base.specs.declared.plan.Command.{Command}
use Rattle.rail_base.specs.Numbering.{one_to}
use Rattle.rail_base.specs.Members.{In}
use Rattle.rail_base.specs.Stations.{IsTrain}
use Rattle.rail_base.proofs.Members.{and_left, and_right, and_both, in_filter}
use Rattle.rail_base.proofs.Lists.{in_map, in_map_back, in_flat_map_back, in_filter_back, in_count_back, list_all_from}
use Rattle.rail_spec.specs.Track.{routes_of}
use Rattle.rail_spec.specs.Plans.{route_numbers, has_command, step_of, commands}
use Rattle.rail_spec.specs.Feasible.{IsWellFormed, IsFeasible, IsInfeasible}
use Rattle.rail_alike.specs.Renaming.{first_step}
use Rattle.rail_alike.specs.Turns.{AreNamed, ArePairs, InTurn}
use Rattle.rail_alike.proofs.Beginnings as told
use Rattle.rail_alike.proofs.Next.{neighbors_alike}
use Rattle.rail_alike.proofs.Beside.{beside_alike}
use Rattle.rail_alike.proofs.Turns.{has_in_turn}
use Rattle.sat_clause.specs.declared.lit.Lit.{Lit}
use Rattle.sat_clause.specs.Clauses.{clause_holds}
use Rattle.clause_spec.specs.declared.question.Turns.{Turns}
use Rattle.clause_spec.specs.declared.question.Turns.TheVariants.{All, Beside}
use Rattle.clause_spec.specs.Variables.{Given, By, Literal, yes, number_of, numbered}
use Rattle.clause_spec.specs.Clauses.{Clause, base_clauses}
use Rattle.clause_spec.specs.Models.{holds, is_so, model_of}
use Rattle.clause_spec.proofs.Places.{command_from, route_in, train_in}
use Rattle.clause_spec.proofs.Numbers.{Known, clause_says, holds_alike, model_says}
use Rattle.clause_spec.proofs.Truth.{Fails, at_clause, no_false, yes_false}
use Rattle.clause_spec.proofs.Steps.{step_high}
use Rattle.clause_spec.proofs.Theorems.{feasible_plans_are_models}
use Rattle.clause_spec.proofs.Shown.{short_enough, more_feasible}
use Rattle.alike_clause_spec.specs.Turns.{begins, beginnings, has_begun, in_turn, turn_clauses, turn_pairs}
use Rattle.alike_clause_spec.specs.Sorted.{HasSortedModel, NoneSortedBy, AreSound, sorted_base}

-- the pairs that come in turn are of trains that are alike
pub turns_alike : (turns : Turns) (d : Station) → ArePairs d (turn_pairs turns d)
turns_alike All d = neighbors_alike d
turns_alike (Beside w) d = beside_alike d w

pub turns_named : (turns : Turns) (d : Station) → AreNamed d (turn_pairs turns d)
turns_named turns d p m = let a = (turns_alike turns d p m).0 in (a.one, a.other)

module _ (d : Station) (routes : List Route) (n : ℕ) where
  abbrev give : TrainNo → RouteNo → Command
  give t r = record { train = t; route = r }

  known_given : (t : TrainNo) → IsTrain d t → (r : RouteNo) → In r (beginnings d routes n t) → (i : ℕ) → 1 ≤ i → i ≤ n → Known d routes n (Given (give t r) i)
  known_given t h r m i low high = (command_from d routes t r (train_in d t h.0 h.1) (in_filter_back (begins d routes n t) (route_numbers routes) r m).0, low, high)

  -- a clause of a pair
  pub record OfPair (p : TrainNo × TrainNo) (cl : Clause) : Type 0 where
    pub route : RouteNo
    pub step : ℕ
    pub begins : In route (beginnings d routes n p.1)
    pub low : 1 ≤ step
    pub high : step ≤ n
    pub is : has_begun d routes n p route step ≡ cl

  pub of_pair : (p : TrainNo × TrainNo) (cl : Clause) → In cl (in_turn d routes n p) → OfPair p cl
  of_pair p cl m = go (in_flat_map_back (λ q. map (has_begun d routes n p q) (one_to n)) (beginnings d routes n p.1) cl m)
    where
      at : (q : RouteNo) → In q (beginnings d routes n p.1) → ((i : ℕ) × In i (one_to n) × (has_begun d routes n p q i ≡ cl)) → OfPair p cl
      at q k (i, j, e) = let c = in_count_back 1 n i j in let l = c.0 in let u = c.1 in record { route = q; step = i; begins = k; low = l; high = omega arith; is = e }

      go : ((q : RouteNo) × In q (beginnings d routes n p.1) × In cl (map (has_begun d routes n p q) (one_to n))) → OfPair p cl
      go (q, k, j) = at q k (in_map_back (has_begun d routes n p q) (one_to n) cl j)

  -- each literal of it is of a variable that there is
  pub all_known : (p : TrainNo × TrainNo) → IsTrain d p.0 → IsTrain d p.1 → (cl : Clause) → OfPair p cl → (l : Literal) → In l cl → Known d routes n l.variable
  all_known p one other cl o l m = go (subst (In l) (sym o.is) m)
    where
      at : ((r : RouteNo) × In r (beginnings d routes n p.0) × (yes (Given (give p.0 r) o.step) ≡ l)) → Known d routes n l.variable
      at (r, k, e) = subst (λ (x : Literal). Known d routes n x.variable) e (known_given p.0 one r k o.step o.low o.high)

      go : In l (has_begun d routes n p o.route o.step) → Known d routes n l.variable
      go (inl e) = subst (λ (x : Literal). Known d routes n x.variable) e (known_given p.1 other o.route o.begins o.step o.low o.high)
      go (inr k) = at (in_map_back (λ r. yes (Given (give p.0 r) o.step)) (beginnings d routes n p.0) l k)

  module _ (plan : List (List Command)) (formed : IsWellFormed d routes n plan) where
    begun_holds : (p : TrainNo × TrainNo) → IsTrain d p.0 → first_step plan p.0 ≤ first_step plan p.1 → (q : RouteNo) (i : ℕ) → holds (is_so plan) (has_begun d routes n p q i) ≡ true
    begun_holds p one first q i = at_clause (is_so plan) refl (λ f. fails f)
      where
        fails : Fails (is_so plan) (has_begun d routes n p q i) → ⊥
        fails f =
            let so = no_false (is_so plan) (Given (give p.1 q) i) f (inl refl) in
            let by = leb-true (step_of plan (give p.1 q)) i (and_right (has_command plan (give p.1 q)) _ so) in
            let b = told.has_begun d routes n plan formed p.0 (give p.1 q) one first (and_left _ (nat_le (step_of plan (give p.1 q)) i) so) in
            let l = b.no_later in
            let member = in_filter (begins d routes n p.0) (route_numbers routes) b.route (route_in routes b.route b.there.0 b.there.1) b.starts in
            let not_so = yes_false (is_so plan) (Given (give p.0 b.route) i) f (inr (in_map (λ r. yes (Given (give p.0 r) i)) (beginnings d routes n p.0) b.route member)) in
            true≢false (sym (and_both _ _ b.given (le-leb (step_of plan (give p.0 b.route)) i (omega arith))) ∙ not_so)

    pub turns_hold : (pairs : List (TrainNo × TrainNo)) → AreNamed d pairs → InTurn pairs plan → list_all (clause_holds (model_of d routes n plan)) (turn_clauses d routes n pairs) ≡ true
    turns_hold pairs named turn = list_all_from (clause_holds (model_of d routes n plan)) (turn_clauses d routes n pairs) (λ c m. one c (in_map_back (map (numbered d routes n)) (flat_map (in_turn d routes n) pairs) c m))
      where
        of : (cl : Clause) → ((p : TrainNo × TrainNo) × In p pairs × In cl (in_turn d routes n p)) → clause_holds (model_of d routes n plan) (map (numbered d routes n) cl) ≡ true
        of cl (p, k, j) =
            let a = named p k in
            let o = of_pair p cl j in
            clause_says d routes n (model_of d routes n plan) cl
            ∙ holds_alike (λ v. model_of d routes n plan (number_of d routes n v)) (is_so plan) cl (λ l m. model_says d routes n plan l.variable (all_known p a.0 a.1 cl o l m))
            ∙ subst (λ x. holds (is_so plan) x ≡ true) o.is (begun_holds p a.0 (turn p k) o.route o.step)

        one : (c : List Lit) → ((cl : Clause) × In cl (flat_map (in_turn d routes n) pairs) × (map (numbered d routes n) cl ≡ c)) → clause_holds (model_of d routes n plan) c ≡ true
        one c (cl, k, e) = subst (λ x. clause_holds (model_of d routes n plan) x ≡ true) e (of cl (in_flat_map_back (in_turn d routes n) pairs cl k))

-- ---- the sorted base

module _ (turns : Turns) (d : Station) (n k : ℕ) (some : 1 ≤ k) (within : k ≤ n) where
  pub has_model : (plan : List (List Command)) → IsFeasible d k plan → HasSortedModel turns d n k
  has_model plan f =
      let h = has_in_turn d k (turn_pairs turns d) (turns_alike turns d) plan f in
      let g = more_feasible d k n h.plan within h.feasible in
      let short = short_enough d (routes_of d) k h.plan h.feasible.runnable.well_formed.formed in
      let by_then : is_so h.plan (By k) ≡ true = list_all_from (λ c. nat_le (step_of h.plan c) k) (commands h.plan) (λ c m. (let high = step_high h.plan c m in le-leb (step_of h.plan c) k (omega arith))) in
      record {
        plan = h.plan;
        feasible = g;
        holds =
            list_all-append (clause_holds (model_of d (routes_of d) n h.plan)) (base_clauses d (routes_of d) n) (turn_clauses d (routes_of d) n (turn_pairs turns d))
            ∙ and_both _ _ (feasible_plans_are_models d n h.plan (omega arith) g)
            (turns_hold d (routes_of d) n h.plan g.runnable.well_formed (turn_pairs turns d) (turns_named turns d) h.in_turn);
        by = model_says d (routes_of d) n h.plan (By k) (some, within) ∙ by_then;
      }

  pub none_sorted : (more : List (List Lit)) → AreSound d n more → NoneSortedBy turns d n k more → IsInfeasible d k
  none_sorted more sound none plan f =
      let m = has_model plan f in
      none (model_of d (routes_of d) n m.plan)
      (list_all-append (clause_holds (model_of d (routes_of d) n m.plan)) (sorted_base turns d (routes_of d) n) more ∙ and_both _ _ m.holds (sound m.plan m.feasible))
      m.by
