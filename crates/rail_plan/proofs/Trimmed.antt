-- Without the empty steps at its end a plan is as good.
use Rattle.std.proofs.Common.{◌≡◌, ℕ, zero, suc, ◌+◌, ◌≤◌, ◌<◌, ◌⊎◌, inl, inr, Bool, true, false, ◌&&◌, if◌then◌else◌, nat_le, nat_lt, List, [], ◌∷◌, ◌++◌, map, length, replicate, refl, sym, ap, subst, ◌∙◌, arith, leb-true, le-leb}
use Rattle.std.specs.List.{list_any, list_all}
use Rattle.std.proofs.lemmas.List.{append_assoc, append-nil, length_push}
use Rattle.std.proofs.lemmas.List.Concat.{flat_map-append}
use Rattle.std.proofs.lemmas.List.Folds.{list_all-append}
use Rattle.rail_base.specs.declared.station.Station.{Station}
use Rattle.rail_base.specs.declared.station.TrainNo.{TrainNo}
use Rattle.rail_base.specs.declared.route.Route.{Route}
use Rattle.rail_base.specs.declared.route.RouteNo.{RouteNo}
use Rattle.rail_base.specs.declared.plan.Command.{Command}
use Rattle.rail_base.specs.Stations.{trains, train_of}
use Rattle.rail_spec.specs.Plans.{is_command, is_path, commands, contend, one_each, route_at, routes_given, path, path_routes, step_of}
use Rattle.rail_spec.specs.Feasible.{is_of, names_only, IsRunnable, IsWellFormed}
use Rattle.rail_plan.specs.Earlier.{delay, IsAsGood}
use Rattle.rail_base.proofs.Members.{and_both, and_left, same_bool}
use Rattle.rail_plan.proofs.Free.{free_front, free_of_plan, plan_of_free}
use Rattle.rail_plan.proofs.WellFormed.{one_each_of, paths_of_formed}

-- ---- plans that are as good

module _ (d : Station) (routes : List Route) where
  pub as_good_itself : (plan : List (List Command)) → IsAsGood d routes plan plan
  as_good_itself plan = record { runnable = λ n r. r; paths = λ t. refl; order = λ e c. refl; fewer = omega arith }

  pub as_good_both : (a b c : List (List Command)) → IsAsGood d routes a b → IsAsGood d routes b c → IsAsGood d routes a c
  as_good_both a b c f g = record {
    runnable = λ n r. g.runnable n (f.runnable n r);
    paths = λ t. g.paths t ∙ f.paths t;
    order = λ e h. g.order e h ∙ f.order e h;
    fewer = let one = f.fewer in let two = g.fewer in omega arith;
  }

-- ---- one empty step

module _ (plan : List (List Command)) where
  abbrev longer : List (List Command)
  longer = plan ++ [] ∷ []

  same_commands : commands longer ≡ commands plan
  same_commands = flat_map-append (λ (s : List Command). s) plan ([] ∷ []) ∙ append-nil (commands plan)

  same_path : (t : TrainNo) → path longer t ≡ path plan t
  same_path t = flat_map-append (routes_given t) plan ([] ∷ []) ∙ append-nil (path plan t)

-- a command of the plan stands where it stood, and the others one step later
step_longer : (plan : List (List Command)) (g : Command) → ((step_of (plan ++ [] ∷ []) g ≡ step_of plan g) × (step_of plan g ≤ length plan)) ⊎ ((step_of (plan ++ [] ∷ []) g ≡ length plan + 2) × (step_of plan g ≡ length plan + 1))
step_longer [] g = inr (refl, refl)
step_longer (s ∷ ss) g = go (list_any (is_command g) s) (step_longer ss g)
  where
    go : (b : Bool) → ((step_of (ss ++ [] ∷ []) g ≡ step_of ss g) × (step_of ss g ≤ length ss)) ⊎ ((step_of (ss ++ [] ∷ []) g ≡ length ss + 2) × (step_of ss g ≡ length ss + 1))
        → (((if b then 1 else step_of (ss ++ [] ∷ []) g + 1) ≡ (if b then 1 else step_of ss g + 1)) × ((if b then 1 else step_of ss g + 1) ≤ suc (length ss))) ⊎ (((if b then 1 else step_of (ss ++ [] ∷ []) g + 1) ≡ suc (length ss) + 2) × ((if b then 1 else step_of ss g + 1) ≡ suc (length ss) + 1))
    go true h = inl (refl, omega arith)
    go false (inl h) = let same = h.0 in let few = h.1 in inl (omega arith, omega arith)
    go false (inr h) = let new = h.0 in let old = h.1 in inr (omega arith, omega arith)

same_order : (plan : List (List Command)) (e g : Command) → nat_lt (step_of (plan ++ [] ∷ []) e) (step_of (plan ++ [] ∷ []) g) ≡ nat_lt (step_of plan e) (step_of plan g)
same_order plan e g = go (step_longer plan e) (step_longer plan g)
  where
    less : (step_of (plan ++ [] ∷ []) e < step_of (plan ++ [] ∷ []) g → step_of plan e < step_of plan g) → (step_of plan e < step_of plan g → step_of (plan ++ [] ∷ []) e < step_of (plan ++ [] ∷ []) g)
        → nat_lt (step_of (plan ++ [] ∷ []) e) (step_of (plan ++ [] ∷ []) g) ≡ nat_lt (step_of plan e) (step_of plan g)
    less f h = same_bool (nat_lt (step_of (plan ++ [] ∷ []) e) (step_of (plan ++ [] ∷ []) g)) (nat_lt (step_of plan e) (step_of plan g))
        (λ k. le-leb (suc (step_of plan e)) (step_of plan g) (f (leb-true (suc (step_of (plan ++ [] ∷ []) e)) (step_of (plan ++ [] ∷ []) g) k)))
        (λ k. le-leb (suc (step_of (plan ++ [] ∷ []) e)) (step_of (plan ++ [] ∷ []) g) (h (leb-true (suc (step_of plan e)) (step_of plan g) k)))

    go : ((step_of (plan ++ [] ∷ []) e ≡ step_of plan e) × (step_of plan e ≤ length plan)) ⊎ ((step_of (plan ++ [] ∷ []) e ≡ length plan + 2) × (step_of plan e ≡ length plan + 1))
        → ((step_of (plan ++ [] ∷ []) g ≡ step_of plan g) × (step_of plan g ≤ length plan)) ⊎ ((step_of (plan ++ [] ∷ []) g ≡ length plan + 2) × (step_of plan g ≡ length plan + 1))
        → nat_lt (step_of (plan ++ [] ∷ []) e) (step_of (plan ++ [] ∷ []) g) ≡ nat_lt (step_of plan e) (step_of plan g)
    go (inl h) (inl k) = let a = h.0 in let b = h.1 in let x = k.0 in let y = k.1 in less (λ l. omega arith) (λ l. omega arith)
    go (inl h) (inr k) = let a = h.0 in let b = h.1 in let x = k.0 in let y = k.1 in less (λ l. omega arith) (λ l. omega arith)
    go (inr h) (inl k) = let a = h.0 in let b = h.1 in let x = k.0 in let y = k.1 in less (λ l. omega arith) (λ l. omega arith)
    go (inr h) (inr k) = let a = h.0 in let b = h.1 in let x = k.0 in let y = k.1 in less (λ l. omega arith) (λ l. omega arith)

pub trimmed_delay : (plan : List (List Command)) → delay (plan ++ [] ∷ []) ≡ delay plan
trimmed_delay [] = refl
trimmed_delay (s ∷ ss) = let many = ap length (same_commands ss) in let rest = trimmed_delay ss in omega arith

module _ (d : Station) (routes : List Route) where
  shorter_is_as_good : (plan : List (List Command)) → IsAsGood d routes (plan ++ [] ∷ []) plan
  shorter_is_as_good plan = record {
    runnable = runs;
    paths = λ t. sym (same_path plan t);
    order = λ e g. ap (λ b. contend routes e g && b) (sym (same_order plan e g));
    fewer = let size = length_push plan [] in omega arith;
  }
    where
      names : names_only d routes (plan ++ [] ∷ []) ≡ true → names_only d routes plan ≡ true
      names h = ap (list_all (is_of d routes)) (sym (same_commands plan)) ∙ h

      paths : (n : ℕ) → IsRunnable d routes n (plan ++ [] ∷ []) → list_all (λ t. is_path (train_of d t) (path_routes routes plan t)) (trains d) ≡ true
      paths n r =
          let same : path (plan ++ [] ∷ []) ≡ path plan = λ i t. same_path plan t i in
          subst (λ (q : TrainNo → List RouteNo). list_all (λ t. is_path (train_of d t) (map (route_at routes) (q t))) (trains d) ≡ true) same (paths_of_formed d routes (plan ++ [] ∷ []) n r.well_formed.formed)

      few : (n : ℕ) → nat_le (length (plan ++ [] ∷ [])) n ≡ true → nat_le (length plan) n ≡ true
      few n h = let l = leb-true (length (plan ++ [] ∷ [])) n h in let size = length_push plan [] in le-leb (length plan) n (omega arith)

      formed : (n : ℕ) → IsRunnable d routes n (plan ++ [] ∷ []) → IsWellFormed d routes n plan
      formed n r =
          let each = list_all (λ t. is_path (train_of d t) (path_routes routes (plan ++ [] ∷ []) t)) (trains d) in
          let first = and_left (nat_le (length (plan ++ [] ∷ [])) n && list_all one_each (plan ++ [] ∷ [])) each r.well_formed.formed in
          let ones = sym (list_all-append one_each plan ([] ∷ [])) ∙ one_each_of d routes (plan ++ [] ∷ []) n r.well_formed.formed in
          record {
            named = names r.well_formed.named;
            formed = and_both (nat_le (length plan) n && list_all one_each plan) (list_all (λ t. is_path (train_of d t) (path_routes routes plan t)) (trains d))
                (and_both (nat_le (length plan) n) (list_all one_each plan) (few n (and_left (nat_le (length (plan ++ [] ∷ [])) n) (list_all one_each (plan ++ [] ∷ [])) first)) (and_left (list_all one_each plan) (list_all one_each ([] ∷ [])) ones))
                (paths n r);
          }

      runs : (n : ℕ) → IsRunnable d routes n (plan ++ [] ∷ []) → IsRunnable d routes n plan
      runs n r = record {
        well_formed = formed n r;
        executable = plan_of_free d routes plan (names r.well_formed.named) (paths n r)
            (free_front d routes [] plan ([] ∷ []) (free_of_plan d routes (plan ++ [] ∷ []) r.well_formed.named (paths_of_formed d routes (plan ++ [] ∷ []) n r.well_formed.formed) r.executable));
      }

  -- and so is it without more of them
  pub trimmed_is_as_good : (k : ℕ) (plan whole : List (List Command)) → whole ≡ plan ++ replicate k [] → IsAsGood d routes whole plan
  trimmed_is_as_good zero plan whole e = subst (λ p. IsAsGood d routes p plan) (sym (e ∙ append-nil plan)) (as_good_itself d routes plan)
  trimmed_is_as_good (suc k) plan whole e = as_good_both d routes whole (plan ++ [] ∷ []) plan
      (trimmed_is_as_good k (plan ++ [] ∷ []) whole (e ∙ sym (append_assoc plan ([] ∷ []) (replicate k [])))) (shorter_is_as_good plan)

-- it is no later
pub trimmed_no_later : (k : ℕ) (plan whole : List (List Command)) → whole ≡ plan ++ replicate k [] → delay whole ≡ delay plan
trimmed_no_later zero plan whole e = ap delay (e ∙ append-nil plan)
trimmed_no_later (suc k) plan whole e = trimmed_no_later k (plan ++ [] ∷ []) whole (e ∙ sym (append_assoc plan ([] ∷ []) (replicate k []))) ∙ trimmed_delay plan
