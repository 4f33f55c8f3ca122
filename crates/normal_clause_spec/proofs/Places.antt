-- In which step of a plan a command stands, where no train is given a route twice.
use Rattle.std.proofs.Common.{◌≡◌, ℕ, zero, suc, inl, inr, List, [], ◌∷◌, ◌++◌, filter, sym, subst, arith}
use Rattle.rail_base.specs.declared.station.TrainNo.{TrainNo}
use Rattle.rail_base.specs.declared.route.RouteNo.{RouteNo}
use Rattle.rail_base.specs.declared.plan.Command.{Command}
use Rattle.rail_base.specs.Numbering.{entry}
use Rattle.rail_spec.specs.Plans.{is_train, commands, routes_given, path, step_of}
use Rattle.rail_base.proofs.Members.{In, in_filter}
use Rattle.rail_base.proofs.Lists.{in_map, in_append_left, in_append_right}
use Rattle.clause_spec.proofs.Lists.{Distinct}
use Rattle.clause_spec.proofs.Steps.{cmd, is_train_self, step_here, step_later, in_path_from}

distinct_later : {X : Type 0} (xs ys : List X) → Distinct (xs ++ ys) → Distinct ys
distinct_later [] ys h = h
distinct_later (x ∷ xs) ys h = distinct_later xs ys h.1

distinct_across : {X : Type 0} (xs ys : List X) (x : X) → Distinct (xs ++ ys) → In x xs → In x ys → ⊥
distinct_across [] ys x h m k = m
distinct_across (y ∷ xs) ys x h (inl e) k = h.0 (subst (λ w. In w (xs ++ ys)) (sym e) (in_append_right x xs ys k))
distinct_across (y ∷ xs) ys x h (inr m) k = distinct_across xs ys x h.1 m k

pub in_step : (plan : List (List Command)) (c : Command) (i : ℕ) → In c (entry [] plan i) → In c (commands plan)
in_step plan c zero m = absurd m
in_step [] c (suc zero) m = absurd m
in_step [] c (suc (suc i)) m = absurd m
in_step (step ∷ steps) c (suc zero) m = in_append_left c step (commands steps) m
in_step (step ∷ steps) c (suc (suc i)) m = in_append_right c step (commands steps) (in_step steps c (suc i) m)

pub step_is : (plan : List (List Command)) (t : TrainNo) (r : RouteNo) (i : ℕ) → Distinct (path plan t) → In (cmd t r) (entry [] plan i) → step_of plan (cmd t r) ≡ i
step_is plan t r zero apart m = absurd m
step_is [] t r (suc zero) apart m = absurd m
step_is [] t r (suc (suc i)) apart m = absurd m
step_is (step ∷ steps) t r (suc zero) apart m = step_here step steps (cmd t r) m
step_is (step ∷ steps) t r (suc (suc i)) apart m =
    let rest = step_is steps t r (suc i) (distinct_later (routes_given t step) (path steps t) apart) m in
    let later = step_later step steps (cmd t r) (λ h. distinct_across (routes_given t step) (path steps t) r apart
    (in_map (λ (c : Command). c.route) (filter (λ (c : Command). is_train c.train t) step) (cmd t r) (in_filter (λ (c : Command). is_train c.train t) step (cmd t r) h (is_train_self t)))
    (in_path_from steps t r (in_step steps (cmd t r) (suc i) m))) in
    omega arith
