-- What steps give to trains, and that giving more stops no more commands.
use Rattle.std.proofs.Common.{◌≡◌, ℕ, ◌+◌, ◌⊎◌, inl, inr, Bool, true, false, not, ◌&&◌, ◌||◌, nat_le, List, [], ◌∷◌, ◌++◌, map, filter, sum_by, sym, ap, ◌∙◌, arith, leb-true, le-leb, true≢false}
use Rattle.std.specs.List.{list_any}
use Rattle.std.proofs.lemmas.List.{append_assoc, append-nil, map-append}
use Rattle.std.proofs.lemmas.List.Folds.{list_any-append}
use Rattle.std.proofs.lemmas.List.Sums.{sum_by-append}
use Rattle.rail_base.specs.declared.station.Station.{Station}
use Rattle.rail_base.specs.declared.station.SectionNo.{SectionNo}
use Rattle.rail_base.specs.declared.station.TrainNo.{TrainNo}
use Rattle.rail_base.specs.declared.route.Route.{Route}
use Rattle.rail_base.specs.declared.route.RouteNo.{RouteNo}
use Rattle.rail_base.specs.declared.plan.Command.{Command}
use Rattle.rail_base.specs.Members.{In}
use Rattle.rail_base.specs.Stations.{train_length}
use Rattle.rail_spec.specs.Plans.{is_train, route_at, length_mm, has_section, goes_over, release_offset, exits, path, path_routes, routes_given}
use Rattle.rail_plan.specs.Ahead.{clears, stops, is_stopped}
use Rattle.rail_plan.specs.Holds.{takes}
use Rattle.rail_base.proofs.Members.{and_both, and_left, and_right, either, false_unless, filter-append, is_false, list_any_from, list_any_gives, or_left, or_right}
use Rattle.rail_plan.proofs.Blocked.{kept_none}
use Rattle.rail_plan.proofs.Standing.{over_has}

-- ---- one step

pub given_joined : (t : TrainNo) (xs ys : List Command) → routes_given t (xs ++ ys) ≡ routes_given t xs ++ routes_given t ys
given_joined t xs ys =
    ap (map (λ (c : Command). c.route)) (filter-append (λ (c : Command). is_train c.train t) xs ys)
    ∙ map-append (λ (c : Command). c.route) (filter (λ (c : Command). is_train c.train t) xs) (filter (λ (c : Command). is_train c.train t) ys)

-- a step with no command of a train gives it nothing
pub gives_none : (t : TrainNo) (step : List Command) → ((e : Command) → In e step → is_train e.train t ≡ false) → routes_given t step ≡ []
gives_none t step none = ap (map (λ (c : Command). c.route)) (kept_none (λ (c : Command). is_train c.train t) step none)

-- ---- steps

-- the first steps give the train what the others do, and then maybe more
abbrev pub GivesMore : TrainNo → List (List Command) → List (List Command) → Type 0
GivesMore t more less = (rs : List RouteNo) × (path more t ≡ path less t ++ rs)

pub gives_same : (t : TrainNo) (more less : List (List Command)) → path more t ≡ path less t → GivesMore t more less
gives_same t more less e = ([], e ∙ sym (append-nil (path less t)))

pub gives_behind : (t : TrainNo) (xs more less : List (List Command)) → GivesMore t more less → GivesMore t (xs ++ more) (xs ++ less)
gives_behind t [] more less g = g
gives_behind t (x ∷ xs) more less g =
    let l = gives_behind t xs more less g in
    (l.0, ap (λ rs. routes_given t x ++ rs) l.1 ∙ sym (append_assoc (routes_given t x) (path (xs ++ less) t) l.0))

-- ---- what is stopped

pub any_less : {X : Type 0} (p q : X → Bool) (xs : List X) → ((x : X) → In x xs → p x ≡ true → q x ≡ true) → list_any p xs ≡ true → list_any q xs ≡ true
any_less {X} p q xs over h = go (list_any_gives p xs h)
  where
    go : (x : X) × In x xs × (p x ≡ true) → list_any q xs ≡ true
    go (x, m, k) = list_any_from q xs x m (over x m k)

module _ (d : Station) (routes : List Route) where
  clears_more : (more less : List (List Command)) (e : Command) (z : SectionNo) → GivesMore e.train more less → clears d routes less e z ≡ true → clears d routes more e z ≡ true
  clears_more more less e z (rs, same) h = ap wants whole ∙ go (either (nat_le need (sum_by length_mm given)) (list_any exits given) h)
    where
      need : ℕ
      need = release_offset (route_at routes e.route) z + train_length d e.train

      wants : List Route → Bool
      wants qs = nat_le (release_offset (route_at routes e.route) z + train_length d e.train) (sum_by length_mm qs) || list_any exits qs

      given : List Route
      given = path_routes routes less e.train

      behind : List Route
      behind = map (route_at routes) rs

      whole : path_routes routes more e.train ≡ given ++ behind
      whole = ap (map (route_at routes)) same ∙ map-append (route_at routes) (path less e.train) rs

      go : (nat_le need (sum_by length_mm given) ≡ true) ⊎ (list_any exits given ≡ true) → wants (given ++ behind) ≡ true
      go (inl k) =
          let enough = leb-true need (sum_by length_mm given) k in
          let sum = sum_by-append length_mm given behind in
          or_left (nat_le need (sum_by length_mm (given ++ behind))) (list_any exits (given ++ behind)) (le-leb need (sum_by length_mm (given ++ behind)) (omega arith))
      go (inr k) = or_right (nat_le need (sum_by length_mm (given ++ behind))) (list_any exits (given ++ behind)) (list_any-append exits given behind ∙ or_left (list_any exits given) (list_any exits behind) k)

  -- what stops a train has the section
  pub stops_takes : (between : List (List Command)) (t : TrainNo) (z : SectionNo) (e : Command) → stops d routes between t z e ≡ true → takes routes t z e ≡ true
  stops_takes between t z e h =
      let other = not (is_train e.train t) in
      let over = goes_over (route_at routes e.route) z in
      let both = and_left (other && over) (not (clears d routes between e z)) h in
      and_both other (has_section (route_at routes e.route) z) (and_left other over both) (over_has (route_at routes e.route) z (and_right other over both))

  pub stops_less : (more less : List (List Command)) (t : TrainNo) (z : SectionNo) (e : Command) → GivesMore e.train more less → stops d routes more t z e ≡ true → stops d routes less t z e ≡ true
  stops_less more less t z e gives h =
      let there = not (is_train e.train t) && goes_over (route_at routes e.route) z in
      let kept = is_false (clears d routes more e z) (and_right there (not (clears d routes more e z)) h) in
      let kept_before = false_unless (clears d routes less e z) (λ k. true≢false (sym (clears_more more less e z gives k) ∙ kept)) in
      and_both there (not (clears d routes less e z)) (and_left there (not (clears d routes more e z)) h) (ap not kept_before)

  pub stopped_behind : (t : TrainNo) (z : SectionNo) (xs more less : List (List Command)) (step was : List Command) → ((u : TrainNo) → GivesMore u more less)
      → (is_stopped d routes t z more step ≡ true → is_stopped d routes t z less was ≡ true) → is_stopped d routes t z (xs ++ more) step ≡ true → is_stopped d routes t z (xs ++ less) was ≡ true
  stopped_behind t z [] more less step was gives base h = base h
  stopped_behind t z (x ∷ xs) more less step was gives base h = go (either (list_any (stops d routes (x ∷ (xs ++ more)) t z) x) (is_stopped d routes t z (xs ++ more) step) h) (stopped_behind t z xs more less step was gives base)
    where
      go : (list_any (stops d routes (x ∷ (xs ++ more)) t z) x ≡ true) ⊎ (is_stopped d routes t z (xs ++ more) step ≡ true) → (is_stopped d routes t z (xs ++ more) step ≡ true → is_stopped d routes t z (xs ++ less) was ≡ true)
          → (list_any (stops d routes (x ∷ (xs ++ less)) t z) x || is_stopped d routes t z (xs ++ less) was) ≡ true
      go (inl k) rest = or_left (list_any (stops d routes (x ∷ (xs ++ less)) t z) x) (is_stopped d routes t z (xs ++ less) was)
          (any_less (stops d routes (x ∷ (xs ++ more)) t z) (stops d routes (x ∷ (xs ++ less)) t z) x (λ e m s. stops_less (x ∷ (xs ++ more)) (x ∷ (xs ++ less)) t z e (gives_behind e.train (x ∷ xs) more less (gives e.train)) s) k)
      go (inr k) rest = or_right (list_any (stops d routes (x ∷ (xs ++ less)) t z) x) (is_stopped d routes t z (xs ++ less) was) (rest k)
