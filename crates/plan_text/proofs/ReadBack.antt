-- The text of a plan is read as that plan.
use Rattle.std.proofs.Common.{◌≡◌, ℕ, zero, suc, ◌+◌, ◌≤◌, ◌<◌, ◌^◌, inl, inr, true, false, not, cond, ◌&&◌, nat_le, if◌then◌else◌, List, [], ◌∷◌, ◌++◌, map, flat_map, length, Option, None, Some, is_none, option_map, option_and_then, Ok, refl, sym, ap, ap₂, ◌∙◌, arith, lt-ltb, leb-true}
use Rattle.std.specs.Prelude.{bytes_eq, codes}
use Rattle.std.specs.List.{filter_map, cons_option, position_or_len}
use Rattle.std.proofs.lemmas.List.{length-map}
use Rattle.std.proofs.lemmas.Slice.Eq.{bytes_eq-Decides}
use Rattle.json.specs.Tree as tree
use Rattle.json.proofs.Printed.Utf8.{IsUtf8-are_ascii}
use Rattle.serde_json.specs.Data.{Data}
use Rattle.serde_json.specs.Read.{max_depth}
use Rattle.serde_json.specs.View.{items_of}
use Rattle.serde_json.specs.Written.{outline}
use Rattle.rail_base.specs.declared.station.Station.{Station}
use Rattle.rail_base.specs.declared.station.Train.{Train}
use Rattle.rail_base.specs.declared.station.TrainNo.{TrainNo}
use Rattle.rail_base.specs.declared.route.Route.{Route}
use Rattle.rail_base.specs.declared.route.RouteNo.{RouteNo}
use Rattle.rail_base.specs.declared.plan.Command.{Command}
use Rattle.rail_base.specs.Admission.{is_admitted}
use Rattle.rail_base.specs.Members.{In, Pairs}
use Rattle.rail_base.specs.Numbering.{entry, one_to}
use Rattle.rail_base.specs.Stations.{IsTrain, no_train, train_of}
use Rattle.rail_base.proofs.Admitting.{admitted}
use Rattle.rail_base.proofs.Members.{and_left, and_right, and_both, false_unless, list_all_at}
use Rattle.rail_base.proofs.Lists.{in_entry, in_flat_map, in_map_back}
use Rattle.rail_spec.specs.Plans.{commands}
use Rattle.rail_spec.specs.Feasible.{is_of, names_only, IsRunnable}
use Rattle.rail_plan.specs.declared.fault.PlanCode.TheVariants.{P2, P3, P4}
use Rattle.rail_plan.specs.declared.place.PlanPlace.TheVariants as place
use Rattle.rail_plan.specs.Text.{Written, list_of_items, of_all, with_others, command_of, step_in, text_steps}
use Rattle.rail_plan.specs.Reading.{train_names, train_named, route_numbered, known, missing, unknown, planned, unless, admitted_plan, plan_of_text, plan_of}
use Rattle.rail_plan.specs.WellFormed.{misplaced}
use Rattle.rail_plan.specs.Executable.{blocked}
use Rattle.rail_plan.proofs.Empties.{in_one_to_back}
use Rattle.rail_plan.proofs.WellFormed.{formed_where_none}
use Rattle.rail_plan.proofs.Standing.{free_of_executable}
use Rattle.plan_text.specs.Text.{in_file_order, command_value, step_value, plan_value, plan_text}
use Rattle.plan_text.proofs.Names.{name_is_text}
use Rattle.plan_text.proofs.Ordered.{none_kept, in_step, ordered, train_there, ordered_executable, same_misplaced}
use Rattle.plan_text.proofs.Plain.{IsPlain, plain_items, shallow, parsed}

-- ---- the shape

pub all_listed : (ds : List Data) → list_of_items (items_of ds) ≡ ds
all_listed [] = refl
all_listed (d ∷ ds) = ap (λ es. d ∷ es) (all_listed ds)

all_given : {X Y Z : Type 0} (f : Y → Option Z) (g : X → Y) (h : X → Z) (xs : List X) → ((x : X) → f (g x) ≡ Some (h x)) → of_all f (map g xs) ≡ Some (map h xs)
all_given f g h [] each = refl
all_given f g h (x ∷ xs) each = ap₂ with_others (each x) (all_given f g h xs each)

module _ (d : Station) where
  abbrev written : Command → Written
  written c = ((train_of d c.train).name, c.route.0)

  abbrev written_step : List Command → List Written
  written_step step = map written (in_file_order d step)

  step_spelled : (step : List Command) → step_in (step_value d step) ≡ Some (written_step step)
  step_spelled step = ap (of_all command_of) (all_listed (map (command_value d) (in_file_order d step))) ∙ all_given command_of (command_value d) written (in_file_order d step) (λ c. refl)

  steps_spelled : (plan : List (List Command)) → text_steps (plan_value d plan) ≡ Some (map written_step plan)
  steps_spelled plan = ap (of_all step_in) (all_listed (map (step_value d) plan)) ∙ all_given step_in (step_value d) written_step plan step_spelled

-- ---- trains by name

name_itself : (name : List ℕ) → bytes_eq name name ≡ true
name_itself name = (bytes_eq-Decides name name).1 refl

first_place : (us : List Train) (i : ℕ) → Pairs (λ (a b : Train). a.name ≡ b.name → ⊥) us → 1 ≤ i → i ≤ length us
    → position_or_len (bytes_eq (entry no_train us i).name) (map (λ (u : Train). u.name) us) + 1 ≡ i
first_place us zero differ low high = absurd (omega arith)
first_place [] (suc i) differ low high = absurd (omega arith)
first_place (u ∷ us) (suc zero) differ low high = ap (λ b. cond (not b) (1 + position_or_len (bytes_eq u.name) (map (λ (u : Train). u.name) us)) 0 + 1) (name_itself u.name)
first_place (u ∷ us) (suc (suc i)) differ low high =
    let x = entry no_train us (suc i) in
    let other : bytes_eq x.name u.name ≡ false = false_unless (bytes_eq x.name u.name) (λ e. differ.0 x (in_entry no_train us (suc i) (omega arith) (omega arith)) (sym ((bytes_eq-Decides x.name u.name).0 e))) in
    let later = first_place us (suc i) differ.1 (omega arith) (omega arith) in
    let next : 1 + position_or_len (bytes_eq x.name) (map (λ (u : Train). u.name) us) + 1 ≡ suc (suc i) = omega arith in
    ap (λ b. cond (not b) (1 + position_or_len (bytes_eq x.name) (map (λ (u : Train). u.name) us)) 0 + 1) other ∙ next

module _ (d : Station) (good : is_admitted d ≡ true) where
  found : (t : TrainNo) → IsTrain d t → train_named (train_names d) (train_of d t).name ≡ Some t
  found t k =
      let l = position_or_len (bytes_eq (train_of d t).name) (train_names d) in
      let at : l + 1 ≡ t.0 = first_place d.trains t.0 (admitted d good).train_names k.0 k.1 in
      let long = length-map d.trains (λ (u : Train). u.name) in
      let high = k.1 in
      ap (λ b. option_map (λ i. record { 0 = i + 1 }) (cond b (Some l) None)) (lt-ltb l (length (train_names d)) (omega arith))
      ∙ ap (λ n. Some (record { 0 = n })) at

  module _ (routes : List Route) where
    known_is : (c : Command) → IsTrain d c.train → is_of d routes c ≡ true → known (train_names d) (length routes) (written d c) ≡ Some c
    known_is c k named =
        let there = nat_le 1 c.train.0 && nat_le c.train.0 (length d.trains) in
        let first = and_right there (nat_le 1 c.route.0) (and_left (there && nat_le 1 c.route.0) (nat_le c.route.0 (length routes)) named) in
        let last = and_right (there && nat_le 1 c.route.0) (nat_le c.route.0 (length routes)) named in
        ap (option_and_then (λ (t : TrainNo). option_map (λ (r : RouteNo). record { train = t; route = r }) (route_numbered (length routes) c.route.0))) (found c.train k)
        ∙ ap (λ b. option_map (λ (r : RouteNo). record { train = c.train; route = r }) (if b then Some (record { 0 = c.route.0 }) else None)) (and_both (nat_le 1 c.route.0) (nat_le c.route.0 (length routes)) first last)

-- ---- all are known

none_missing : {X Y : Type 0} (f : X → Option Y) (other : X) (xs : List X) → ((x : X) → In x xs → is_none (f x) ≡ false) → missing f other xs ≡ []
none_missing f other xs each = none_kept (λ j. is_none (f (entry other xs j))) (one_to (length xs)) (λ j m. let l = in_one_to_back (length xs) j m in each (entry other xs j) (in_entry other xs j l.0 l.1))

none_joined : {X Y : Type 0} (f : X → List Y) (xs : List X) → ((x : X) → In x xs → f x ≡ []) → flat_map f xs ≡ []
none_joined f [] each = refl
none_joined f (x ∷ xs) each = ap₂ (λ ys zs. ys ++ zs) (each x (inl refl)) (none_joined f xs (λ y m. each y (inr m)))

all_there : {X Y : Type 0} (f : Y → Option X) (g : X → Y) (xs : List X) → ((x : X) → In x xs → f (g x) ≡ Some x) → filter_map f (map g xs) ≡ xs
all_there f g [] each = refl
all_there f g (x ∷ xs) each = ap₂ cons_option (each x (inl refl)) (all_there f g xs (λ y m. each y (inr m)))

all_same : {X Y : Type 0} (f g : X → Y) (xs : List X) → ((x : X) → In x xs → f x ≡ g x) → map f xs ≡ map g xs
all_same f g [] each = refl
all_same f g (x ∷ xs) each = ap₂ (λ y ys. y ∷ ys) (each x (inl refl)) (all_same f g xs (λ y m. each y (inr m)))

module _ (d : Station) (good : is_admitted d ≡ true) (routes : List Route) (plan : List (List Command)) (named : names_only d routes plan ≡ true) where
  abbrev names : List (List ℕ)
  names = train_names d

  abbrev many : ℕ
  many = length routes

  in_commands : (step : List Command) (c : Command) → In step plan → In c (in_file_order d step) → In c (commands plan)
  in_commands step c m n = in_flat_map (λ (s : List Command). s) plan step c m (in_step d step c n)

  is_known : (step : List Command) (c : Command) → In step plan → In c (in_file_order d step) → known names many (written d c) ≡ Some c
  is_known step c m n =
      let k = in_commands step c m n in
      known_is d good routes c (train_there d routes plan named c k) (list_all_at (is_of d routes) (commands plan) c named k)

  none_unknown : unknown names many (map (written_step d) plan) ≡ []
  none_unknown = none_joined (λ i. map (place.Command i) (missing (known names many) ([], 0) (entry [] (map (written_step d) plan) i))) (one_to (length (map (written_step d) plan))) at_step
    where
      at_step : (i : ℕ) → In i (one_to (length (map (written_step d) plan))) → map (place.Command i) (missing (known names many) ([], 0) (entry [] (map (written_step d) plan) i)) ≡ []
      at_step i m =
          let l = in_one_to_back (length (map (written_step d) plan)) i m in
          let f = in_map_back (written_step d) plan (entry [] (map (written_step d) plan) i) (in_entry [] (map (written_step d) plan) i l.0 l.1) in
          ap (λ ws. map (place.Command i) (missing (known names many) ([], 0) ws)) (sym f.2)
          ∙ ap (map (place.Command i)) (none_missing (known names many) ([], 0) (written_step d f.0) (λ w n.
          let g = in_map_back (written d) (in_file_order d f.0) w n in
          ap (λ v. is_none (known names many v)) (sym g.2) ∙ ap (λ (o : Option Command). is_none o) (is_known f.0 g.0 f.1 g.1)))

  all_planned : planned names many (map (written_step d) plan) ≡ ordered d plan
  all_planned = twice plan ∙ all_same (λ step. filter_map (known names many) (written_step d step)) (in_file_order d) plan (λ step m. all_there (known names many) (written d) (in_file_order d step) (λ c n. is_known step c m n))
    where
      twice : (ss : List (List Command)) → map (filter_map (known names many)) (map (written_step d) ss) ≡ map (λ step. filter_map (known names many) (written_step d step)) ss
      twice [] = refl
      twice (s ∷ ss) = ap (λ ys. filter_map (known names many) (written_step d s) ∷ ys) (twice ss)

  -- ---- the value

  pub plain : length routes < 2 ^ 32 → IsPlain (plan_value d plan)
  plain few = (IsUtf8-are_ascii (codes "steps") refl, plain_items (step_value d) plan (λ step m. plain_items (command_value d) (in_file_order d step) (λ c n. command step c m n)))
    where
      command : (step : List Command) (c : Command) → In step plan → In c (in_file_order d step) → IsPlain (command_value d c)
      command step c m n =
          let k = in_commands step c m n in
          let of = list_all_at (is_of d routes) (commands plan) c named k in
          let last = leb-true c.route.0 (length routes) (and_right (nat_le 1 c.train.0 && nat_le c.train.0 (length d.trains) && nat_le 1 c.route.0) (nat_le c.route.0 (length routes)) of) in
          let lower : 2 ^ 32 < 2 ^ 64 = omega arith in
          (name_is_text d good c.train (train_there d routes plan named c k), (omega arith, tt))

  pub low : tree.depth (outline (plan_value d plan)) ≤ max_depth
  low = let l = shallow (step_value d) plan 2 (λ step. let l = shallow (command_value d) (in_file_order d step) 1 (λ c. omega arith) in omega arith) in omega arith

  -- ---- the plan

  nothing_refused : IsRunnable d routes 256 plan → admitted_plan d routes (ordered d plan) ≡ Ok (ordered d plan)
  nothing_refused run =
      let placed : misplaced d routes 256 (ordered d plan) ≡ [] = same_misplaced d routes 256 plan ∙ (formed_where_none d routes plan named 256).0 run.well_formed.formed in
      let free : blocked d routes (ordered d plan) ≡ [] = free_of_executable d routes (ordered d plan) (ordered_executable d routes plan named run.executable) in
      ap (λ ps. unless P3 ps (unless P4 (blocked d routes (ordered d plan)) (Ok (ordered d plan)))) placed
      ∙ ap (λ ps. unless P4 ps (Ok (ordered d plan))) free

  read_so : length routes < 2 ^ 32 → IsRunnable d routes 256 plan → plan_of d routes (plan_text d plan) ≡ Ok (ordered d plan)
  read_so few run =
      ap (λ o. plan_of_text d routes (option_and_then text_steps o)) (parsed (plan_value d plan) (plain few) low)
      ∙ ap (plan_of_text d routes) (steps_spelled d plan)
      ∙ ap (λ ps. unless P2 ps (admitted_plan d routes (planned names many (map (written_step d) plan)))) none_unknown
      ∙ ap (admitted_plan d routes) all_planned
      ∙ nothing_refused run

pub plans_read_back : (d : Station) (routes : List Route) (plan : List (List Command)) → is_admitted d ≡ true → length routes < 2 ^ 32 → IsRunnable d routes 256 plan → plan_of d routes (plan_text d plan) ≡ Ok (map (in_file_order d) plan)
plans_read_back d routes plan good few run = read_so d good routes plan run.well_formed.named few run
