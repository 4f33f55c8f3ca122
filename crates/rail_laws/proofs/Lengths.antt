-- A step of a well-formed plan gives a train at most one route, so its path is no longer than the plan.
use Rattle.std.proofs.Common.{◌≡◌, ◌+◌, ◌≤◌, inl, inr, Bool, true, false, cond, not, List, [], ◌∷◌, map, filter, length, refl, sym, ap, ◌∙◌, arith, eq-eqb, length-append, true≢false}
use Rattle.std.specs.List.{list_all}
use Rattle.rail_base.specs.declared.station.TrainNo.{TrainNo}
use Rattle.rail_base.specs.declared.plan.Command.{Command}
use Rattle.rail_base.specs.Members.{In}
use Rattle.rail_base.proofs.Members.{and_left, and_right, list_all_at}
use Rattle.rail_spec.specs.Plans.{is_train, routes_given, path, one_each}
use Rattle.rail_laws.proofs.Given.{same_train}

pub routes_none : (t : TrainNo) (step : List Command) → ((c : Command) → In c step → is_train c.train t ≡ true → ⊥) → length (routes_given t step) ≡ 0
routes_none t [] h = refl
routes_none t (c ∷ cs) h = go (is_train c.train t) refl (routes_none t cs (λ e m. h e (inr m)))
  where
    go : (b : Bool) → is_train c.train t ≡ b → length (routes_given t cs) ≡ 0 → length (map (λ (e : Command). e.route) (cond b (c ∷ filter (λ (e : Command). is_train e.train t) cs) (filter (λ (e : Command). is_train e.train t) cs))) ≡ 0
    go false e k = k
    go true e k = absurd (h c (inl refl) e)

pub routes_few : (t : TrainNo) (step : List Command) → one_each step ≡ true → length (routes_given t step) ≤ 1
routes_few t [] h = omega arith
routes_few t (c ∷ cs) h = go (is_train c.train t) refl (routes_few t cs (and_right (list_all (λ (e : Command). not (is_train c.train e.train)) cs) (one_each cs) h))
  where
    others : is_train c.train t ≡ true → (e : Command) → In e cs → is_train e.train t ≡ true → ⊥
    others one e m two =
        let apart = list_all_at (λ (e : Command). not (is_train c.train e.train)) cs e (and_left (list_all (λ (e : Command). not (is_train c.train e.train)) cs) (one_each cs) h) m in
        let same : c.train ≡ e.train = same_train c.train t one ∙ sym (same_train e.train t two) in
        let here : is_train c.train e.train ≡ true = eq-eqb c.train.0 e.train.0 (ap (λ (u : TrainNo). u.0) same) in
        true≢false (sym apart ∙ ap not here)

    go : (b : Bool) → is_train c.train t ≡ b → length (routes_given t cs) ≤ 1 → length (map (λ (e : Command). e.route) (cond b (c ∷ filter (λ (e : Command). is_train e.train t) cs) (filter (λ (e : Command). is_train e.train t) cs))) ≤ 1
    go false e k = k
    go true e k = let none = routes_none t cs (others e) in omega arith

pub path_few : (t : TrainNo) (plan : List (List Command)) → list_all one_each plan ≡ true → length (path plan t) ≤ length plan
path_few t [] h = omega arith
path_few t (step ∷ steps) h =
    let few = routes_few t step (and_left (one_each step) (list_all one_each steps) h) in
    let more = path_few t steps (and_right (one_each step) (list_all one_each steps) h) in
    let both : length (path (step ∷ steps) t) ≡ length (routes_given t step) + length (path steps t) = length-append (routes_given t step) (path steps t) in
    omega arith
