-- The pairs of a cone, which contend.
use Rattle.std.proofs.Common.{◌≡◌, ◌⊎◌, inl, inr, Bool, true, ◌&&◌, List, [], ◌∷◌, refl, sym, ap, ap₂, subst, ◌∙◌, arith}
use Rattle.std.specs.List.{list_all}
use Rattle.rail_base.specs.declared.station.Station.{Station}
use Rattle.rail_base.specs.declared.station.TrainNo.{TrainNo}
use Rattle.rail_base.specs.declared.route.Route.{Route}
use Rattle.rail_base.specs.declared.plan.Command.{Command}
use Rattle.rail_base.specs.Members.{all_pairs, all_neighbors}
use Rattle.rail_base.proofs.Members.{In, and_left, and_right, list_all_at}
use Rattle.rail_spec.specs.Plans.{all_commands, contend}
use Rattle.cone_spec.specs.declared.Cone.{Cone}
use Rattle.cone_spec.specs.declared.ConeTrain.{ConeTrain}
use Rattle.cone_spec.specs.Cones.{unnamed, first_named, named, is_named}
use Rattle.cone_spec.specs.Validity.{train_in_design, pair_in_design, violation_in_design, in_design, is_pair_before}
use Rattle.cone_spec.proofs.Naming.{IsNamed, named_or_not, has_route_in, of_design}
use Rattle.cone_spec.proofs.Saying.{in_all}
use Rattle.cone_form.specs.Marks.{MarksCone, MarkRoutes, marked_pair}
use Rattle.cone_form.proofs.Ranges.{named_routes, train_bounds}
use Rattle.cone_form.proofs.Orders.{neighbors_pairs}

module _ (d : Station) (routes : List Route) (k : Cone) (trains : list_all (train_in_design d routes k) k.trains ≡ true) where
  -- a command of the cone is one of the design
  pub named_known : (c : Command) → is_named k c ≡ true → In c (all_commands d routes)
  named_known c h = go (named_or_not k.trains c.train)
    where
      go : IsNamed k.trains c.train ⊎ (first_named c.train k.trains ≡ unnamed c.train) → In c (all_commands d routes)
      go (inl i) =
          let b = train_bounds d routes k trains (named k c.train) i.member in
          let t : (named k c.train).train.0 ≡ c.train.0 = ap (λ (t : TrainNo). t.0) i.train in
          let r = named_routes d routes k trains c h in
          let low = b.0 in
          let high = b.1 in
          in_all d routes c (omega arith) (omega arith) r.0 r.1
      go (inr e) = absurd (subst (λ (x : ConeTrain). In c.route x.path) e (has_route_in (named k c.train).path c.route h))

  module _ (rows : List (List Bool)) (marks : MarksCone k rows) where
    -- the marks of the cone are of routes of the design
    pub routes_marked : MarkRoutes routes rows
    routes_marked c h = named_routes d routes k trains c (sym (marks c) ∙ h)

    -- pairs that are marked and contend are as they are to be
    pub pairs_are : (ps : List (Command × Command)) → list_all (marked_pair routes rows) ps ≡ list_all (pair_in_design d routes k) ps
    pairs_are [] = refl
    pairs_are (p ∷ ps) = ap₂ (λ a b. a && b) (ap₂ (λ a b. a && b && contend routes p.0 p.1) (marks p.0) (marks p.1)) (pairs_are ps)

module _ (d : Station) (routes : List Route) (k : Cone) (fits : in_design d routes k ≡ true) where
  -- the pairs of a cone of the design stand in order
  pub listed_in_order : all_neighbors is_pair_before k.pairs ≡ true
  listed_in_order = and_right _ (all_neighbors is_pair_before k.pairs) (and_left _ (violation_in_design d routes k k.violation) fits)

  pub listed_sorted : all_pairs is_pair_before k.pairs ≡ true
  listed_sorted = neighbors_pairs k.pairs listed_in_order

  module _ (p : Command × Command) (there : In p k.pairs) where
    in_order : pair_in_design d routes k p ≡ true
    in_order = list_all_at (pair_in_design d routes k) k.pairs p (of_design d routes k fits).pairs there

    -- they are of commands of the design
    pub listed_known : In p.0 (all_commands d routes) × In p.1 (all_commands d routes)
    listed_known =
        let trains = (of_design d routes k fits).trains in
        let names = and_left _ (contend routes p.0 p.1) in_order in
        (named_known d routes k trains p.0 (and_left (is_named k p.0) (is_named k p.1) names), named_known d routes k trains p.1 (and_right (is_named k p.0) (is_named k p.1) names))

    -- and these contend
    pub listed_contend : contend routes p.0 p.1 ≡ true
    listed_contend = and_right _ (contend routes p.0 p.1) in_order
