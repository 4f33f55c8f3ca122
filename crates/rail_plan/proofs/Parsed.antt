-- What is read from the text's values is what the text spells.
use Rattle.std.proofs.Common.{◌≡◌, ℕ, zero, suc, ◌+◌, ◌<◌, ◌≤◌, inl, inr, Bool, true, false, ◌&&◌, if◌then◌else◌, nat_lt, nat_le, List, [], ◌∷◌, map, filter, flat_map, length, position, Option, None, Some, is_some, is_none, option_map, option_and_then, Result, Ok, Err, IfOk, refl, sym, ap, ap₂, subst, ◌∙◌, arith, leb-true, le-leb}
use Rattle.std.specs.Prelude.{unwrap_or, bytes_eq}
use Rattle.std.specs.List.{filter_map, cons_option, position_or_len}
use Rattle.std.proofs.lemmas.List.{length-map}
use Rattle.rail_base.specs.declared.station.Station.{Station}
use Rattle.rail_base.specs.declared.station.Train.{Train}
use Rattle.rail_base.specs.declared.station.TrainNo.{TrainNo}
use Rattle.rail_base.specs.declared.route.Route.{Route}
use Rattle.rail_base.specs.declared.route.RouteNo.{RouteNo}
use Rattle.rail_base.specs.declared.plan.Command.{Command}
use Rattle.rail_base.specs.declared.plan.Plan.{Plan}
use Rattle.rail_base.specs.Admission.{is_from}
use Rattle.rail_base.specs.Members.{In}
use Rattle.rail_base.specs.Numbering.{one_to, entry}
use Rattle.rail_spec.specs.Plans.{commands}
use Rattle.rail_spec.specs.Feasible.{is_of, names_only, IsRunnable}
use Rattle.serde_json.specs.Data.{Data, null}
use Rattle.rail_plan.specs.declared.fault.PlanCode.TheVariants.{P2, P3, P4}
use Rattle.rail_plan.specs.declared.fault.PlanFault.{PlanFault}
use Rattle.rail_plan.specs.declared.place.PlanPlace.{PlanPlace}
use Rattle.rail_plan.specs.declared.place.PlanPlace.TheVariants as place
use Rattle.rail_plan.specs.Text.{Written, array_of, command_of, step_in, steps_at, text_steps, of_all, with_others}
use Rattle.rail_plan.specs.Reading.{GivesOrFails, unless, train_names, route_numbered, missing, known, seen, unread_in, read_in, values_of, unread, read_steps, unknown, planned, admitted_plan, plan_of_text}
use Rattle.rail_plan.specs.WellFormed.{misplaced}
use Rattle.rail_plan.specs.Executable.{blocked}
use Rattle.rail_base.proofs.Members.{and_left, and_right, and_both}
use Rattle.rail_base.proofs.Lists.{in_map_back, in_flat_map_back, list_all_from}
use Rattle.rail_plan.proofs.Empties.{in_one_to_back}
use Rattle.rail_plan.proofs.Blocked.{kept_same, joined_same}
use Rattle.rail_plan.proofs.WellFormed.{formed_where_none}
use Rattle.rail_plan.proofs.Standing.{executable_of_free}

-- ---- something of all

record Both {X : Type 0} (a : Option X) (b : Option (List X)) (zs : List X) : Type 0 where
  pub head : X
  pub rest : List X
  pub first : a ≡ Some head
  pub others : b ≡ Some rest
  pub whole : zs ≡ head ∷ rest

both_there : {X : Type 0} (a : Option X) (b : Option (List X)) (zs : List X) → with_others a b ≡ Some zs → Both a b zs
both_there None b zs e = cc
both_there (Some x) None zs e = cc
both_there (Some x) (Some xs) zs e = record { head = x; rest = xs; first = refl; others = refl; whole = let same : x ∷ xs ≡ zs = cc in sym same }

all_long : {X Y : Type 0} (f : X → Option Y) (xs : List X) (ys : List Y) → of_all f xs ≡ Some ys → length xs ≡ length ys
all_long f [] ys e = let same : [] ≡ ys = cc in ap length same
all_long f (x ∷ xs) ys e =
    let b = both_there (f x) (of_all f xs) ys e in
    ap suc (all_long f xs b.rest b.others) ∙ sym (ap length b.whole)

all_at : {X Y : Type 0} (f : X → Option Y) (xs : List X) (ys : List Y) (other : X) (last : Y) (j : ℕ) → of_all f xs ≡ Some ys → 1 ≤ j → j ≤ length xs → f (entry other xs j) ≡ Some (entry last ys j)
all_at f xs ys other last zero e low high = absurd (omega arith)
all_at f [] ys other last (suc j) e low high = absurd (omega arith)
all_at f (x ∷ xs) ys other last (suc zero) e low high =
    let b = both_there (f x) (of_all f xs) ys e in
    b.first ∙ ap (λ zs. Some (entry last zs 1)) (sym b.whole)
all_at f (x ∷ xs) ys other last (suc (suc j)) e low high =
    let b = both_there (f x) (of_all f xs) ys e in
    all_at f xs b.rest other last (suc j) b.others (omega arith) (omega arith) ∙ ap (λ zs. Some (entry last zs (suc (suc j)))) (sym b.whole)

module _ (names : List (List ℕ)) (many : ℕ) where
  -- ---- one step

  step_commands : (vs : List Data) (ws : List Written) → of_all command_of vs ≡ Some ws → read_in names many vs ≡ filter_map (known names many) ws
  step_commands [] ws e = let same : [] ≡ ws = cc in ap (filter_map (known names many)) same
  step_commands (v ∷ vs) ws e =
      let b = both_there (command_of v) (of_all command_of vs) ws e in
      ap₂ cons_option (ap (option_and_then (known names many)) b.first) (step_commands vs b.rest b.others)
      ∙ sym (ap (filter_map (known names many)) b.whole)

  step_missing : (vs : List Data) (ws : List Written) → of_all command_of vs ≡ Some ws → missing (seen names many) null vs ≡ missing (known names many) ([], 0) ws
  step_missing vs ws e =
      kept_same (λ j. is_none (seen names many (entry null vs j))) (λ j. is_none (known names many (entry ([], 0) ws j))) (one_to (length vs))
      (λ j m. let l = in_one_to_back (length vs) j m in ap (λ o. is_none (option_and_then (known names many) o)) (all_at command_of vs ws null ([], 0) j e l.0 l.1))
      ∙ ap (λ n. filter (λ j. is_none (known names many (entry ([], 0) ws j))) (one_to n)) (all_long command_of vs ws e)

  values_there : (d : Data) (ws : List Written) → step_in d ≡ Some ws → of_all command_of (values_of d) ≡ Some ws
  values_there d ws e = go (array_of d) e
    where
      go : (o : Option (List Data)) → option_and_then (of_all command_of) o ≡ Some ws → of_all command_of (unwrap_or o []) ≡ Some ws
      go (Some vs) k = k
      go None k = cc

  -- ---- all steps

  pub read_is : (ds : List Data) (text : List (List Written)) → of_all step_in ds ≡ Some text → read_steps names many ds ≡ planned names many text
  read_is [] text e = let same : [] ≡ text = cc in ap (planned names many) same
  read_is (d ∷ ds) text e =
      let b = both_there (step_in d) (of_all step_in ds) text e in
      ap₂ (λ s ss. s ∷ ss) (step_commands (values_of d) b.head (values_there d b.head b.first)) (read_is ds b.rest b.others)
      ∙ sym (ap (planned names many) b.whole)

  pub unread_is : (ds : List Data) (text : List (List Written)) → of_all step_in ds ≡ Some text → unread names many ds ≡ unknown names many text
  unread_is ds text e =
      joined_same (λ i. unread_in names many i (values_of (entry null ds i))) (λ i. map (place.Command i) (missing (known names many) ([], 0) (entry [] text i))) (one_to (length ds))
      (λ i m. let l = in_one_to_back (length ds) i m in ap (map (place.Command i)) (step_missing (values_of (entry null ds i)) (entry [] text i) (values_there (entry null ds i) (entry [] text i) (all_at step_in ds text null [] i e l.0 l.1))))
      ∙ ap (λ n. flat_map (λ i. map (place.Command i) (missing (known names many) ([], 0) (entry [] text i))) (one_to n)) (all_long step_in ds text e)

-- ---- what is read names trains and routes

in_filter_map : {X Y : Type 0} (f : X → Option Y) (xs : List X) (y : Y) → In y (filter_map f xs) → (x : X) × (f x ≡ Some y)
in_filter_map f [] y m = absurd m
in_filter_map {X} {Y} f (x ∷ xs) y m = go (f x) refl m (in_filter_map f xs y)
  where
    go : (o : Option Y) → f x ≡ o → In y (cons_option o (filter_map f xs)) → (In y (filter_map f xs) → (z : X) × (f z ≡ Some y)) → (z : X) × (f z ≡ Some y)
    go None e k later = later k
    go (Some w) e (inl same) later = (x, e ∙ ap Some same)
    go (Some w) e (inr k) later = later k

position_below : (p : List ℕ → Bool) (ns : List (List ℕ)) (i : ℕ) → position p ns ≡ Some i → i < length ns
position_below p ns i e = go (nat_lt (position_or_len p ns) (length ns)) refl e
  where
    go : (b : Bool) → nat_lt (position_or_len p ns) (length ns) ≡ b → (if b then Some (position_or_len p ns) else None) ≡ Some i → i < length ns
    go true t k = let same : position_or_len p ns ≡ i = cc in subst (λ j. j < length ns) same (leb-true (suc (position_or_len p ns)) (length ns) t)
    go false t k = cc

module _ (d : Station) (routes : List Route) where
  known_is : (w : Written) (c : Command) → known (train_names d) (length routes) w ≡ Some c → is_of d routes c ≡ true
  known_is w c e = at_train (position (bytes_eq w.0) (train_names d)) refl e
    where
      of_route : (i : ℕ) → i < length d.trains → (b : Bool) → is_from 1 (length routes) w.1 ≡ b → option_map (λ (r : RouteNo). record { train = record { 0 = i + 1 }; route = r }) (if b then Some (record { 0 = w.1 }) else None) ≡ Some c → is_of d routes c ≡ true
      of_route i low true t k =
          let same : record { train = record { 0 = i + 1 }; route = record { 0 = w.1 } } ≡ c = cc in
          subst (λ c. is_of d routes c ≡ true) same
          (and_both (nat_le 1 (i + 1) && nat_le (i + 1) (length d.trains) && nat_le 1 w.1) (nat_le w.1 (length routes))
          (and_both (nat_le 1 (i + 1) && nat_le (i + 1) (length d.trains)) (nat_le 1 w.1)
          (and_both (nat_le 1 (i + 1)) (nat_le (i + 1) (length d.trains)) (le-leb 1 (i + 1) (omega arith)) (le-leb (i + 1) (length d.trains) (omega arith)))
          (and_left (nat_le 1 w.1) (nat_le w.1 (length routes)) t))
          (and_right (nat_le 1 w.1) (nat_le w.1 (length routes)) t))
      of_route i low false t k = cc

      at_train : (o : Option ℕ) → position (bytes_eq w.0) (train_names d) ≡ o → option_and_then (λ (t : TrainNo). option_map (λ (r : RouteNo). record { train = t; route = r }) (route_numbered (length routes) w.1)) (option_map (λ i. record { 0 = i + 1 }) o) ≡ Some c → is_of d routes c ≡ true
      at_train None p k = cc
      at_train (Some i) p k = of_route i (let below = position_below (bytes_eq w.0) (train_names d) i p in let long = length-map d.trains (λ (t : Train). t.name) in omega arith) (is_from 1 (length routes) w.1) refl k

  pub planned_named : (text : List (List Written)) → names_only d routes (planned (train_names d) (length routes) text) ≡ true
  planned_named text = list_all_from (is_of d routes) (commands (planned (train_names d) (length routes) text)) (λ c m. at_step c (in_flat_map_back (λ s. s) (planned (train_names d) (length routes) text) c m))
    where
      at_step : (c : Command) → (s : List Command) × In s (planned (train_names d) (length routes) text) × In c s → is_of d routes c ≡ true
      at_step c (s, m, n) =
          let f = in_map_back (filter_map (known (train_names d) (length routes))) text s m in
          let g = in_filter_map (known (train_names d) (length routes)) f.0 c (subst (In c) (sym f.2) n) in
          known_is g.0 c g.1

  -- ---- a plan that is read can be run

  pub runnable : (o : Option (List (List Written))) (plan : List (List Command)) → plan_of_text d routes o ≡ Ok plan → IsRunnable d routes 256 plan
  runnable None plan e = cc
  runnable (Some text) plan e = at_known (unknown (train_names d) (length routes) text) e
    where
      at_blocked : (ps : List PlanPlace) → misplaced d routes 256 (planned (train_names d) (length routes) text) ≡ [] → blocked d routes (planned (train_names d) (length routes) text) ≡ ps → unless P4 ps (Ok (planned (train_names d) (length routes) text)) ≡ Ok plan → IsRunnable d routes 256 plan
      at_blocked [] m b k =
          let same : planned (train_names d) (length routes) text ≡ plan = cc in
          let named = planned_named text in
          subst (IsRunnable d routes 256) same (record {
            well_formed = record { named = named; formed = (formed_where_none d routes (planned (train_names d) (length routes) text) named 256).1 m };
            executable = executable_of_free d routes (planned (train_names d) (length routes) text) named b;
          })
      at_blocked (q ∷ ps) m b k = cc

      at_misplaced : (ps : List PlanPlace) → misplaced d routes 256 (planned (train_names d) (length routes) text) ≡ ps → unless P3 ps (unless P4 (blocked d routes (planned (train_names d) (length routes) text)) (Ok (planned (train_names d) (length routes) text))) ≡ Ok plan → IsRunnable d routes 256 plan
      at_misplaced [] m k = at_blocked (blocked d routes (planned (train_names d) (length routes) text)) m refl k
      at_misplaced (q ∷ ps) m k = cc

      at_known : (ps : List PlanPlace) → unless P2 ps (admitted_plan d routes (planned (train_names d) (length routes) text)) ≡ Ok plan → IsRunnable d routes 256 plan
      at_known [] k = at_misplaced (misplaced d routes 256 (planned (train_names d) (length routes) text)) refl k
      at_known (q ∷ ps) k = cc

  pub runnable_result : (o : Option (List (List Written))) (result : Result Plan PlanFault) → GivesOrFails (λ p. p.steps) result (plan_of_text d routes o) → IfOk result (λ p. IsRunnable d routes 256 p.steps)
  runnable_result o (Ok plan) h = runnable o plan.steps h
  runnable_result o (Err e) h = tt

-- ---- the shape

pub steps_spelled : (d v : Data) (ds : List Data) → Some v ≡ steps_at d → Some ds ≡ array_of v → text_steps d ≡ of_all step_in ds
steps_spelled d v ds e k =
    ap (λ (o : Option Data). option_and_then (of_all step_in) (option_and_then array_of o)) (sym e)
    ∙ ap (option_and_then (of_all step_in)) (sym k)

pub some_there : {X : Type 0} (o : Option X) → is_some o ≡ true → (x : X) × (o ≡ Some x)
some_there (Some x) e = (x, refl)
some_there None e = cc

pub none_there : {X : Type 0} (o : Option X) → is_some o ≡ false → o ≡ None
none_there (Some x) e = cc
none_there None e = refl
