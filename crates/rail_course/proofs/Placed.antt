-- What stands before a command on its path is within range.
use Rattle.std.proofs.Common.{◌≡◌, ℕ, zero, suc, ◌+◌, ◌<◌, ◌≤◌, ◌^◌, List, [], ◌∷◌, ◌++◌, flat_map, length, take, drop, refl, ap, ◌∙◌, arith, length-append}
use Rattle.std.proofs.lemmas.List.Concat.{flat_map-append}
use Rattle.rail_base.specs.declared.route.Route.{Route}
use Rattle.rail_base.specs.declared.plan.Command.{Command}
use Rattle.rail_spec.specs.Dispatches.{Dispatch, routes_before}
use Rattle.interlocking.specs.declared.railway.Interlocking.{Interlocking}
use Rattle.rail_course.specs.declared.train_path.TrainPath.{TrainPath}
use Rattle.rail_course.specs.TrainPaths.{IsTrainPath}
use Rattle.rail_course.specs.Tracks.{routes_at}
use Rattle.rail_course.proofs.Granting.{few_edges, few_held}
use Rattle.rail_course.proofs.Numbered.{number_before, routes_before_is}

in_parts : {X : Type 0} (n : ℕ) (xs : List X) → xs ≡ take n xs ++ drop n xs
in_parts zero xs = refl
in_parts (suc n) [] = refl
in_parts (suc n) (x ∷ xs) = ap (λ ys. x ∷ ys) (in_parts n xs)

-- the first members of a list have no more between them than all
first_fewer : {X Y : Type 0} (f : X → List Y) (n : ℕ) (xs : List X) → length (flat_map f (take n xs)) ≤ length (flat_map f xs)
first_fewer f n xs =
    let parts = ap (λ ys. length (flat_map f ys)) (in_parts n xs) ∙ ap length (flat_map-append f (take n xs) (drop n xs)) ∙ length-append (flat_map f (take n xs)) (flat_map f (drop n xs)) in
    omega arith

module _ (i : Interlocking) (p : Dispatch) (train_path : TrainPath) (is : IsTrainPath i.design.station i.routes (p.path train_path.train) train_path) (e : Command) (same : train_path.train ≡ e.train) where
  pub before_edges : length (flat_map (λ (r : Route). r.edges) (routes_before i.design.station i.routes p e)) < 2 ^ 47
  before_edges =
      let first = first_fewer (λ (r : Route). r.edges) (number_before i.design.station i.routes p train_path is e same) (routes_at i.routes (p.path train_path.train)) in
      let before = ap (λ rs. length (flat_map (λ (r : Route). r.edges) rs)) (routes_before_is i.design.station i.routes p train_path is e same) in
      let few = few_edges i (p.path train_path.train) in
      let short = is.range.below_2_47 in
      omega arith

  pub before_held : length (flat_map (λ (r : Route). r.overlaps) (routes_before i.design.station i.routes p e)) < 2 ^ 52
  before_held =
      let first = first_fewer (λ (r : Route). r.overlaps) (number_before i.design.station i.routes p train_path is e same) (routes_at i.routes (p.path train_path.train)) in
      let before = ap (λ rs. length (flat_map (λ (r : Route). r.overlaps) rs)) (routes_before_is i.design.station i.routes p train_path is e same) in
      let few = few_held i (p.path train_path.train) is.range.named in
      let short = is.range.below_2_47 in
      omega arith
