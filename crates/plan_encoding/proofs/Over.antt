-- Bases over some commands: what is left of the clauses where the others are never given.
use Rattle.std.proofs.Common.{◌≡◌, ℕ, zero, suc, ◌+◌, ◌-◌, ◌*◌, ◌≤◌, inl, inr, Bool, true, false, not, ◌&&◌, ◌||◌, cond, List, [], ◌∷◌, ◌++◌, map, filter, flat_map, length, slice_get, Some, refl, sym, ap, ap₂, ◌∙◌, arith}
use Rattle.sat_clause.specs.declared.lit.Lit.{Lit}
use Rattle.rail_base.specs.declared.station.Station.{Station}
use Rattle.rail_base.specs.declared.station.TrainNo.{TrainNo}
use Rattle.rail_base.specs.declared.route.Route.{Route}
use Rattle.rail_base.specs.declared.route.RouteNo.{RouteNo}
use Rattle.rail_base.specs.declared.plan.Command.{Command}
use Rattle.rail_base.specs.Members.{In}
use Rattle.rail_base.specs.Numbering.{before_first, one_to}
use Rattle.rail_base.specs.Stations.{trains}
use Rattle.rail_base.proofs.Lists.{in_count_back, in_filter_back, in_map_back, length-map, length-count}
use Rattle.rail_base.proofs.Members.{map-map}
use Rattle.rail_spec.specs.Plans.{all_commands, commands_of, is_command, route_numbers}
use Rattle.clause_spec.specs.declared.question.Turns.{Turns}
use Rattle.clause_spec.specs.Variables.{Variable, Given, Before, By, Literal, if_given, is_pair, no, number_of, numbered, pairs, yes}
use Rattle.clause_spec.specs.Clauses.{Clause, all_given, base_clauses, clauses, excluded, first_pairs, in_order, literals, makes_visits, not_at_once, starts_rightly, stays_given, waits}
use Rattle.clause_spec.proofs.Families.{KnownAll, clauses_known}
use Rattle.clause_spec.proofs.Numbers.{Known}
use Rattle.clause_spec.proofs.Places.{command_from, command_of, pair_of, route_in, train_in}
use Rattle.clause_spec.proofs.Steps.{cmd, is_command_same, is_command_self}
use Rattle.alike_clause_spec.specs.Sorted.{sorted_base}
use Rattle.live_clause_spec.specs.Clauses.{base_left, denies_dead, sorted_clauses, with_dead_false, without_dead}
use Rattle.live_clause_spec.specs.Listed.{live_all_given, live_clauses, live_excluded, live_first_pairs, live_makes_visits, live_starts_rightly, live_waits}
use Rattle.live_clause_spec.specs.Variables.{is_dead, live_commands, live_number, live_numbered, live_pairs}
use Rattle.live_clause_spec.proofs.Leaving.{both_left}
use Rattle.live_clause_spec.proofs.Listing.{apart_left, excludes_left, given_left, left_is_listed, orders_left, starts_left, stays_left, visits_left, waits_left}
use Rattle.live_clause_spec.proofs.Lists.{filter_alike, filter_every, get-counted, get-row}
use Rattle.live_clause_spec.proofs.Sorted.{sorted_are, sorted_known}
use Rattle.live_contending.proofs.Distinct.{index_is}
use Rattle.command_set.specs.Commands.{AreCommandsOf, is_among}
use Rattle.command_set.proofs.Tests.{all_are_a_set, are_sets, pairs_alike, set_differs, tells_alike}
use Rattle.plan_encoding.specs.Bases.{plain_base, plain_clauses, turns_base}
use Rattle.plan_encoding.specs.declared.encoder.Encoder.{Encoder}
use Rattle.plan_encoding.specs.Encoders.{IsCommand, among, commands, over, station, table}
use Rattle.plan_encoding.specs.Families.{all_apart, all_by_steps, all_in_order, all_start_rightly, all_stay, all_visits, all_wait, none_excluded}
use Rattle.std.proofs.lemmas.List.Sums.{sum_by-append}
use Rattle.clause_spec.specs.Laws.{HasFewLiterals}
use Rattle.clause_spec.proofs.Few.{literals_told, orders_literals, within_limit}
use Rattle.command_set.proofs.Lists.{length-kept}
use Rattle.plan_encoding.proofs.Tabled.{commands_few, commands_many}

-- ---- what is left, family by family

module _ (live : Command → Bool) (d : Station) (routes : List Route) (n : ℕ) where
  joined : (xs ys us vs : List Clause) → with_dead_false live xs ≡ us → with_dead_false live ys ≡ vs → with_dead_false live (xs ++ ys) ≡ us ++ vs
  joined xs ys us vs a b = both_left live xs ys ∙ ap₂ (λ ps qs. ps ++ qs) a b

  -- what is left of the plain clauses
  pub plain_left : with_dead_false live (clauses d routes n) ≡ plain_clauses live d routes n
  plain_left =
      let f1 = flat_map (stays_given d routes n) (all_commands d routes) in
      let f2 = flat_map (starts_rightly d routes n) (all_commands d routes) in
      let f3 = flat_map (excluded d routes n) (trains d) in
      let f4 = flat_map (not_at_once d routes n) (first_pairs d routes n) in
      let f5 = flat_map (waits d routes n) (pairs d routes) in
      let f6 = flat_map (makes_visits d routes n) (trains d) in
      let f7 = flat_map (in_order d routes n) (pairs d routes) in
      let f8 = flat_map (all_given d routes n) (one_to (n - 1)) in
      let g1 = flat_map (stays_given d routes n) (live_commands live d routes) in
      let g2 = flat_map (live_starts_rightly live d routes n) (live_commands live d routes) in
      let g3 = flat_map (live_excluded live d routes n) (trains d) in
      let g4 = flat_map (not_at_once d routes n) (live_first_pairs live d routes n) in
      let g5 = flat_map (live_waits live d routes n) (live_pairs live d routes) in
      let g6 = flat_map (live_makes_visits live d routes n) (trains d) in
      let g7 = flat_map (in_order d routes n) (live_pairs live d routes) in
      let g8 = flat_map (live_all_given live d routes n) (one_to (n - 1)) in
      joined (f1 ++ f2 ++ f3 ++ f4 ++ f5 ++ f6 ++ f7) f8 (g1 ++ g2 ++ g3 ++ g4 ++ g5 ++ g6 ++ g7) g8
      (joined (f1 ++ f2 ++ f3 ++ f4 ++ f5 ++ f6) f7 (g1 ++ g2 ++ g3 ++ g4 ++ g5 ++ g6) g7
      (joined (f1 ++ f2 ++ f3 ++ f4 ++ f5) f6 (g1 ++ g2 ++ g3 ++ g4 ++ g5) g6
      (joined (f1 ++ f2 ++ f3 ++ f4) f5 (g1 ++ g2 ++ g3 ++ g4) g5
      (joined (f1 ++ f2 ++ f3) f4 (g1 ++ g2 ++ g3) g4
      (joined (f1 ++ f2) f3 (g1 ++ g2) g3
      (joined f1 f2 g1 g2 (stays_left live d routes n) (starts_left live d routes n)) (excludes_left live d routes n)) (apart_left live d routes n)) (waits_left live d routes n)) (visits_left live d routes n)) (orders_left live d routes n)) (given_left live d routes n)

-- ---- tests that tell the same of the commands of a design

same_variables : (one other : Command → Bool) (d : Station) (routes : List Route) (n : ℕ) → ((c : Command) → In c (all_commands d routes) → one c ≡ other c) → (v : Variable) → Known d routes n v → is_dead one v ≡ is_dead other v
same_variables one other d routes n same (Given c i) k = ap not (same c k.0)
same_variables one other d routes n same (Before e c) k = let p = pair_of d routes (e, c) k in ap₂ (λ a b. not (a && b)) (same e p.one) (same c p.other)
same_variables one other d routes n same (By i) k = refl

module _ (one other : Command → Bool) where
  denies_alike : (cl : Clause) → ((l : Literal) → In l cl → is_dead one l.variable ≡ is_dead other l.variable) → denies_dead one cl ≡ denies_dead other cl
  denies_alike [] h = refl
  denies_alike (l ∷ cl) h = ap₂ (λ a b. l.negated && a || b) (h l (inl refl)) (denies_alike cl (λ x m. h x (inr m)))

  left_alike : (cls : List Clause) → ((cl : Clause) → In cl cls → (l : Literal) → In l cl → is_dead one l.variable ≡ is_dead other l.variable) → with_dead_false one cls ≡ with_dead_false other cls
  left_alike cls h = map_alike (filter (λ cl. not (denies_dead one cl)) cls) (λ cl m. h cl (from_filter cls cl m))
      ∙ ap (map (without_dead other)) (filter_alike (λ cl. not (denies_dead one cl)) (λ cl. not (denies_dead other cl)) cls (λ cl m. ap not (denies_alike cl (h cl m))))
    where
      from_filter : (xs : List Clause) (cl : Clause) → In cl (filter (λ cl. not (denies_dead one cl)) xs) → In cl xs
      from_filter xs cl m = (in_filter_back (λ (cl : Clause). not (denies_dead one cl)) xs cl m).0

      map_alike : (xs : List Clause) → ((cl : Clause) → In cl xs → (l : Literal) → In l cl → is_dead one l.variable ≡ is_dead other l.variable) → map (without_dead one) xs ≡ map (without_dead other) xs
      map_alike [] h = refl
      map_alike (cl ∷ xs) h = ap₂ (λ a b. a ∷ b)
          (filter_alike (λ (l : Literal). not (is_dead one l.variable)) (λ (l : Literal). not (is_dead other l.variable)) cl (λ l m. ap not (h cl (inl refl) l m)))
          (map_alike xs (λ x m. h x (inr m)))

-- ---- the commands that pass a test, as a set

module _ (live : Command → Bool) (d : Station) (routes : List Route) (n : ℕ) where
  abbrev set : Command → Bool
  set = is_among (live_commands live d routes)

  -- their numbers are those by the test
  pub set_number : (v : Variable) → live_number set d routes n v ≡ live_number live d routes n v
  set_number (Given c i) = ap (λ cs. length (before_first (is_command c) cs) * n + i) (are_sets live d routes)
  set_number (Before e c) = ap₂ (λ cs ps. length cs * n + length (before_first (is_pair e c) ps) + 1) (are_sets live d routes) (pairs_alike live d routes)
  set_number (By k) = ap₂ (λ cs ps. length cs * n + length ps + k) (are_sets live d routes) (pairs_alike live d routes)

  pub set_numbered : (l : Literal) → live_numbered set d routes n l ≡ live_numbered live d routes n l
  set_numbered l = ap (λ m. let x : Lit = record { var = m; negated = l.negated } in x) (set_number l.variable)

  written_alike : (cls : List Clause) → map (map (live_numbered set d routes n)) cls ≡ map (map (live_numbered live d routes n)) cls
  written_alike [] = refl
  written_alike (cl ∷ cls) = ap₂ (λ a b. a ∷ b) (go cl) (written_alike cls)
    where
      go : (ls : Clause) → map (live_numbered set d routes n) ls ≡ map (live_numbered live d routes n) ls
      go [] = refl
      go (l ∷ ls) = ap₂ (λ a b. a ∷ b) (set_numbered l) (go ls)

  -- the plain clauses and those with turns are what is left by the test
  pub set_plain : 1 ≤ n → plain_base set d routes n ≡ map (map (live_numbered live d routes n)) (with_dead_false live (clauses d routes n))
  set_plain some =
      written_alike (plain_clauses set d routes n)
      ∙ ap (map (map (live_numbered live d routes n)))
      (sym (plain_left set d routes n)
      ∙ left_alike set live (clauses d routes n) (λ cl m l i. same_variables set live d routes n (tells_alike live d routes) l.variable (clauses_known d routes n some cl m l i)))

  pub set_turns : (turns : Turns) → 1 ≤ n → turns_base turns set d routes n ≡ base_left turns live d routes n
  set_turns turns some =
      written_alike (live_clauses turns set d routes n)
      ∙ ap (map (map (live_numbered live d routes n)))
      (sym (left_is_listed set d routes n turns)
      ∙ left_alike set live (sorted_clauses turns d routes n) (λ cl m l i. same_variables set live d routes n (tells_alike live d routes) l.variable (sorted_known turns d routes n some cl m l i)))

-- ---- all commands

-- nothing goes where all are live
abbrev pub any : Command → Bool
any = λ c. true

alive : (v : Variable) → is_dead any v ≡ false
alive (Given c i) = refl
alive (Before e c) = refl
alive (By k) = refl

nothing : (b : Bool) → (b && false) ≡ false
nothing true = refl
nothing false = refl

pub denies_none : (cl : Clause) → denies_dead any cl ≡ false
denies_none [] = refl
denies_none (l ∷ ls) = ap (λ b. l.negated && b || denies_dead any ls) (alive l.variable) ∙ (ap (λ b. b || denies_dead any ls) (nothing l.negated) ∙ denies_none ls)

pub whole : (cl : Clause) → without_dead any cl ≡ cl
whole cl = filter_every (λ (l : Literal). not (is_dead any l.variable)) cl (λ l m. ap not (alive l.variable))

pub none_dead : (cls : List Clause) → with_dead_false any cls ≡ cls
none_dead [] = refl
none_dead (cl ∷ cls) = ap (λ b. map (without_dead any) (cond (not b) (cl ∷ filter (λ c. not (denies_dead any c)) cls) (filter (λ c. not (denies_dead any c)) cls))) (denies_none cl) ∙ ap₂ (λ a b. a ∷ b) (whole cl) (none_dead cls)

module _ (d : Station) (routes : List Route) (n : ℕ) where
  pub every_command : live_commands any d routes ≡ all_commands d routes
  every_command = filter_every any (all_commands d routes) (λ c m. refl)

  pub every_pair : live_pairs any d routes ≡ pairs d routes
  every_pair = filter_every _ (pairs d routes) (λ p m. refl)

  length-commands_of : (t : TrainNo) → length (commands_of routes t) ≡ length routes
  length-commands_of t =
      let f : ℕ → RouteNo = λ r. record { 0 = r } in
      length-map (cmd t) (route_numbers routes) ∙ (length-map f (one_to (length routes)) ∙ length-count 1 (length routes))

  get-command : (c : Command) → In c (all_commands d routes) → slice_get (all_commands d routes) ((c.train.0 - 1) * length routes + (c.route.0 - 1)) ≡ Some c
  get-command c m =
      let o = command_of d routes c m in
      let number : ℕ → TrainNo = λ t. record { 0 = t } in
      let route : ℕ → RouteNo = λ r. record { 0 = r } in
      let t = in_map_back number (one_to (length d.trains)) c.train o.train in
      let r = in_map_back route (one_to (length routes)) c.route o.route in
      let tn : t.0 ≡ c.train.0 = ap (λ (u : TrainNo). u.0) t.2 in
      let rn : r.0 ≡ c.route.0 = ap (λ (q : RouteNo). q.0) r.2 in
      let tr = in_count_back 1 (length d.trains) t.0 t.1 in
      let rr = in_count_back 1 (length routes) r.0 r.1 in
      let tl = tr.0 in let th = tr.1 in let rl = rr.0 in let rh = rr.1 in
      get-row (commands_of routes) (length routes) (trains d) (c.train.0 - 1) (c.route.0 - 1) c.train c length-commands_of
      (get-counted number 1 (length d.trains) c.train.0 (omega arith) (omega arith))
      (ap (λ rs. slice_get rs (c.route.0 - 1)) (map-map (cmd c.train) route (one_to (length routes))) ∙ get-counted (λ q. cmd c.train (route q)) 1 (length routes) c.route.0 (omega arith) (omega arith))

  -- a command stands among all at its train and its route
  pub stands_at : (c : Command) → In c (all_commands d routes) → length (before_first (is_command c) (all_commands d routes)) ≡ (c.train.0 - 1) * length routes + (c.route.0 - 1)
  stands_at c m =
      (index_is (is_command c) c (is_command_self c) (λ q h. is_command_same c q h) (all_commands d routes) ((c.train.0 - 1) * length routes + (c.route.0 - 1))
      (set_differs (all_commands d routes) d routes (all_are_a_set d routes)) (get-command c m)).1

  -- the numbers of variables that there are are those of the plain base
  pub every_number : (v : Variable) → Known d routes n v → live_number any d routes n v ≡ number_of d routes n v
  every_number (Given c i) k = ap (λ cs. length (before_first (is_command c) cs) * n + i) every_command ∙ ap (λ m. m * n + i) (stands_at c k.0)
  every_number (Before e c) k =
      ap₂ (λ cs ps. length cs * n + length (before_first (is_pair e c) ps) + 1) every_command every_pair
      ∙ ap (λ m. m * n + length (before_first (is_pair e c) (pairs d routes)) + 1) (commands_many d routes)
  every_number (By j) k = ap₂ (λ cs ps. length cs * n + length ps + j) every_command every_pair ∙ ap (λ m. m * n + length (pairs d routes) + j) (commands_many d routes)

  pub written_one : (cl : Clause) → KnownAll d routes n cl → map (live_numbered any d routes n) cl ≡ map (numbered d routes n) cl
  written_one [] h = refl
  written_one (l ∷ ls) h = ap₂ (λ a b. a ∷ b) (ap (λ m. let x : Lit = record { var = m; negated = l.negated } in x) (every_number l.variable (h l (inl refl)))) (written_one ls (λ x m. h x (inr m)))

  written_so : (cls : List Clause) → ((cl : Clause) → In cl cls → KnownAll d routes n cl) → map (map (live_numbered any d routes n)) cls ≡ map (map (numbered d routes n)) cls
  written_so [] h = refl
  written_so (cl ∷ cls) h = ap₂ (λ a b. a ∷ b) (written_one cl (h cl (inl refl))) (written_so cls (λ x m. h x (inr m)))

  -- with all commands the plain clauses are those of the plain base, and those with turns of the sorted one
  pub all_plain : 1 ≤ n → map (map (live_numbered any d routes n)) (with_dead_false any (clauses d routes n)) ≡ base_clauses d routes n
  all_plain some = ap (map (map (live_numbered any d routes n))) (none_dead (clauses d routes n)) ∙ written_so (clauses d routes n) (clauses_known d routes n some)

  pub all_turns : (turns : Turns) → 1 ≤ n → base_left turns any d routes n ≡ sorted_base turns d routes n
  all_turns turns some = ap (map (map (live_numbered any d routes n))) (none_dead (sorted_clauses turns d routes n)) ∙ (written_so (sorted_clauses turns d routes n) (sorted_known turns d routes n some) ∙ sym (sorted_are turns d routes n))

-- ---- as they are emitted

-- the families make all plain clauses
pub families_are : (f : Encoder) → (all_stay f ++ all_start_rightly f ++ none_excluded f ++ all_apart f ++ all_wait f ++ all_visits f ++ all_in_order f ++ all_by_steps f) ≡ among f plain_clauses
families_are f = ap₂ (λ (cs : List Command) (ps : List (Command × Command)). flat_map (over f stays_given) cs ++ flat_map (among f live_starts_rightly) cs ++ none_excluded f ++ all_apart f
    ++ flat_map (among f live_waits) ps ++ all_visits f ++ flat_map (over f in_order) ps ++ all_by_steps f) (sym f.of_design) f.paired

module _ (f : Encoder) (every : commands f ≡ all_commands (station f) (table f)) where
  -- with all commands a command has the number of the plain base
  pub given_as : (c : Command) (i : ℕ) → In c (all_commands (station f) (table f)) → among f live_number (Given c i) ≡ over f number_of (Given c i)
  given_as c i m =
      ap (λ cs. length (before_first (is_command c) cs) * f.steps.count + i) (f.of_design ∙ every)
      ∙ ap (λ m. m * f.steps.count + i) (stands_at (station f) (table f) f.steps.count c m)

  pub yes_as : (c : Command) (i : ℕ) → In c (all_commands (station f) (table f)) → among f live_numbered (yes (Given c i)) ≡ over f numbered (yes (Given c i))
  yes_as c i m = ap (λ v. let x : Lit = record { var = v; negated = false } in x) (given_as c i m)

  pub no_as : (c : Command) (i : ℕ) → In c (all_commands (station f) (table f)) → among f live_numbered (no (Given c i)) ≡ over f numbered (no (Given c i))
  no_as c i m = ap (λ v. let x : Lit = record { var = v; negated = true } in x) (given_as c i m)

  pub if_given_as : (c : Command) (i : ℕ) → In c (all_commands (station f) (table f)) → map (among f live_numbered) (if_given c i) ≡ map (over f numbered) (if_given c i)
  if_given_as c zero m = refl
  if_given_as c (suc i) m = ap (λ l. l ∷ []) (yes_as c (suc i) m)

-- a command of the encoder is one of the design
pub of_design : (f : Encoder) (c : Command) → IsCommand f c → In c (all_commands (station f) (table f))
of_design f c k = command_from (station f) (table f) c.train c.route (train_in (station f) c.train k.train.0 k.train.1) (route_in (table f) c.route k.route.0 k.route.1)

-- ---- few

-- the commands of a design are few
pub few_among : (cs : List Command) (d : Station) (routes : List Route) → AreCommandsOf d routes cs → length d.trains ≤ 128 → length routes ≤ 2000 → length cs ≤ 256000
few_among cs d routes are a b =
    let kept = length-kept (is_among cs) (all_commands d routes) in
    let same = ap length are in
    let all = commands_few d routes a b in
    omega arith

-- and so are their pairs, where the clauses have few literals
pub few_live_pairs : (live : Command → Bool) (d : Station) (routes : List Route) (n : ℕ) → HasFewLiterals (plain_base live d routes n) → length (live_pairs live d routes) ≤ 8000000
few_live_pairs live d routes n few =
    let g1 = flat_map (stays_given d routes n) (live_commands live d routes) in
    let g2 = flat_map (live_starts_rightly live d routes n) (live_commands live d routes) in
    let g3 = flat_map (live_excluded live d routes n) (trains d) in
    let g4 = flat_map (not_at_once d routes n) (live_first_pairs live d routes n) in
    let g5 = flat_map (live_waits live d routes n) (live_pairs live d routes) in
    let g6 = flat_map (live_makes_visits live d routes n) (trains d) in
    let g7 = flat_map (in_order d routes n) (live_pairs live d routes) in
    let g8 = flat_map (live_all_given live d routes n) (one_to (n - 1)) in
    let early = g1 ++ g2 ++ g3 ++ g4 ++ g5 ++ g6 in
    let one = sum_by-append (λ (cl : Clause). length cl) (early ++ g7) g8 in
    let two = sum_by-append (λ (cl : Clause). length cl) early g7 in
    let orders : 2 * length (live_pairs live d routes) ≤ literals g7 = orders_literals d routes n (live_pairs live d routes) in
    let same : literals (plain_base live d routes n) ≡ literals (plain_clauses live d routes n) = literals_told (live_numbered live d routes n) (plain_clauses live d routes n) in
    elim (within_limit 16000000 0 (plain_base live d routes n) few) [ inl z ↦ omega arith | inr z ↦ omega arith ]
