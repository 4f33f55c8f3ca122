-- The commands that a step has for one train, of which there is one at most.
use Rattle.std.proofs.Common.{◌≡◌, ◌+◌, ◌≤◌, inl, true, List, [], ◌∷◌, map, filter, flat_map, length, None, Some, refl, sym, ap, ◌∙◌, arith, eqb-true}
use Rattle.std.proofs.lemmas.List.{append-nil}
use Rattle.rail_base.specs.declared.station.Station.{Station}
use Rattle.rail_base.specs.declared.station.SectionNo.{SectionNo}
use Rattle.rail_base.specs.declared.station.TrainNo.{TrainNo}
use Rattle.rail_base.specs.declared.route.Route.{Route}
use Rattle.rail_base.specs.declared.route.RouteNo.{RouteNo}
use Rattle.rail_base.specs.declared.plan.Command.{Command}
use Rattle.rail_base.specs.Members.{In}
use Rattle.rail_base.specs.Numbering.{first_of_list}
use Rattle.rail_spec.specs.Plans.{is_train, one_each, routes_given}
use Rattle.rail_plan.specs.declared.place.PlanPlace.TheVariants as place
use Rattle.rail_plan.specs.Ahead.{stopped_in, stopped_sections}
use Rattle.rail_base.proofs.Lists.{in_filter_back}
use Rattle.rail_plan.proofs.Firsts.{first_mapped_none, first_mapped_some}
use Rattle.rail_plan.proofs.WellFormed.{few_given}

-- the commands that a step has for a train
abbrev pub own : TrainNo → List Command → List Command
own t step = filter (λ (c : Command). is_train c.train t) step

pub own_none : (t : TrainNo) (step : List Command) → None ≡ first_of_list (routes_given t step) → own t step ≡ []
own_none t step e = go (own t step) e
  where
    go : (cs : List Command) → None ≡ first_of_list (map (λ (c : Command). c.route) cs) → cs ≡ []
    go [] k = refl
    go (c ∷ cs) k = cc

pub own_one : (t : TrainNo) (step : List Command) (r : RouteNo) → one_each step ≡ true → Some r ≡ first_of_list (routes_given t step) → own t step ≡ record { train = t; route = r } ∷ []
own_one t step r one e = go (own t step) (λ c m. (in_filter_back (λ (c : Command). is_train c.train t) step c m).1) (few_given t step one) e
  where
    go : (cs : List Command) → ((c : Command) → In c cs → is_train c.train t ≡ true) → length (map (λ (c : Command). c.route) cs) ≤ 1 → Some r ≡ first_of_list (map (λ (c : Command). c.route) cs) → cs ≡ record { train = t; route = r } ∷ []
    go [] its few k = cc
    go (c ∷ []) its few k =
        let number : c.train.0 ≡ t.0 = eqb-true c.train.0 t.0 (its c (inl refl)) in
        let train : c.train ≡ t = ap (λ n. record { 0 = n }) number in
        let route : c.route ≡ r = cc in
        ap (λ u. record { train = u; route = c.route } ∷ []) train ∙ ap (λ q. record { train = t; route = q } ∷ []) route
    go (c ∷ e ∷ cs) its few k = absurd (omega arith)

module _ (d : Station) (routes : List Route) (before : List (List Command)) (step : List Command) (t : TrainNo) where
  pub stopped_none : None ≡ first_of_list (routes_given t step) → None ≡ first_of_list (stopped_in d routes before step t)
  stopped_none e = ap (λ cs. first_of_list (flat_map (λ c. map (place.Section (length before + 1) t) (stopped_sections d routes before step c)) cs)) (sym (own_none t step e))

  stopped_one : (r : RouteNo) → one_each step ≡ true → Some r ≡ first_of_list (routes_given t step)
      → stopped_in d routes before step t ≡ map (place.Section (length before + 1) t) (stopped_sections d routes before step (record { train = t; route = r }))
  stopped_one r one e =
      ap (flat_map (λ c. map (place.Section (length before + 1) t) (stopped_sections d routes before step c))) (own_one t step r one e)
      ∙ append-nil (map (place.Section (length before + 1) t) (stopped_sections d routes before step (record { train = t; route = r })))

  pub stopped_free : (r : RouteNo) → one_each step ≡ true → Some r ≡ first_of_list (routes_given t step) → None ≡ first_of_list (stopped_sections d routes before step (record { train = t; route = r }))
      → None ≡ first_of_list (stopped_in d routes before step t)
  stopped_free r one e k = first_mapped_none (place.Section (length before + 1) t) _ k ∙ ap first_of_list (sym (stopped_one r one e))

  pub stopped_there : (r : RouteNo) (z : SectionNo) → one_each step ≡ true → Some r ≡ first_of_list (routes_given t step) → Some z ≡ first_of_list (stopped_sections d routes before step (record { train = t; route = r }))
      → Some (place.Section (length before + 1) t z) ≡ first_of_list (stopped_in d routes before step t)
  stopped_there r z one e k = first_mapped_some (place.Section (length before + 1) t) _ z k ∙ ap first_of_list (sym (stopped_one r one e))
