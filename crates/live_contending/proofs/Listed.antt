-- The pairs by the rows of a design's trains are the pairs of its commands that contend.
use Rattle.std.proofs.Common.{◌≡◌, ℕ, ◌≤◌, inl, inr, Bool, true, false, not, ◌&&◌, ◌==◌, if◌then◌else◌, List, All, [], ◌∷◌, ◌++◌, map, filter, flat_map, length, refl, sym, ap, ap₂, subst, ◌∙◌, arith, append-nil}
use Rattle.rail_base.specs.declared.station.Station.{Station}
use Rattle.rail_base.specs.declared.station.TrainNo.{TrainNo}
use Rattle.rail_base.specs.declared.route.Route.{Route}
use Rattle.rail_base.specs.declared.route.RouteNo.{RouteNo}
use Rattle.rail_base.specs.declared.plan.Command.{Command}
use Rattle.rail_base.specs.Members.{In}
use Rattle.rail_base.specs.Numbering.{one_to}
use Rattle.rail_base.specs.Routes.{IsRoute}
use Rattle.rail_base.proofs.Lists.{in_count_back, in_filter_back, in_map_back}
use Rattle.rail_base.proofs.Members.{false_unless, filter-append}
use Rattle.rail_spec.specs.Plans.{all_commands, contend, is_command, is_train, route_at, routes_given, share}
use Rattle.clause_spec.specs.Variables.{pairs_before}
use Rattle.clause_spec.proofs.Lists.{Distinct}
use Rattle.clause_spec.proofs.Steps.{is_command_same, is_command_self}
use Rattle.live_clause_spec.specs.Listed.{is_live_for}
use Rattle.live_clause_spec.specs.Variables.{both_live, live_commands, live_pairs}
use Rattle.live_clause_spec.proofs.Lists.{filter_both, filter_every, filter_map, filter_none, flat_map_kept}
use Rattle.command_set.specs.Commands.{AreCommandsOf, AreRising, commands_in, is_among}
use Rattle.command_set.specs.Rows.{train_no}
use Rattle.command_set.proofs.Blocks.{flat_same}
use Rattle.command_set.proofs.Lists.{filter_parts, some_few, some_rise}
use Rattle.command_set.proofs.Tests.{given_live, of_a_route, set_by_trains}
use Rattle.live_contending.specs.declared.rows.TrainRows.{TrainRows}
use Rattle.live_contending.specs.Pairs.{pairs_by_rows, rivals, rivals_of_train}
use Rattle.live_contending.specs.Rows.{AreRowsTo, row_at, shares, train_count}
use Rattle.live_contending.proofs.Gathered.{all_from}
use Rattle.live_contending.proofs.Placing.{first_of, from}
use Rattle.live_contending.proofs.Tabled.{row_known}

-- the pairs of commands that contend, by their first commands
pub live_by_firsts : (live : Command → Bool) (d : Station) (routes : List Route) → live_pairs live d routes ≡ flat_map (from (λ e. filter (contend routes e) (live_commands live d routes))) (live_commands live d routes)
live_by_firsts live d routes =
    filter_parts (both_live live) (pairs_before d routes) (all_commands d routes)
    ∙ flat_map_kept live (λ e. filter (both_live live) (pairs_before d routes e)) (from (λ e. filter (contend routes e) (live_commands live d routes))) (all_commands d routes) (λ e m h. some e h) (λ e m h. none e h)
  where
    some : (e : Command) → live e ≡ true → filter (both_live live) (pairs_before d routes e) ≡ map (λ c. (e, c)) (filter (contend routes e) (live_commands live d routes))
    some e h =
        filter_map (both_live live) live (λ (c : Command). (e, c)) (filter (contend routes e) (all_commands d routes)) (λ c m. ap (λ b. b && live c) h)
        ∙ ap (map (λ (c : Command). (e, c))) (filter_both live (contend routes e) (all_commands d routes))

    none : (e : Command) → live e ≡ false → filter (both_live live) (pairs_before d routes e) ≡ []
    none e h = filter_none (both_live live) (pairs_before d routes e) (λ p m.
        let back = in_map_back (λ (c : Command). (e, c)) (filter (contend routes e) (all_commands d routes)) p m in
        ap (λ (q : Command × Command). live q.0 && live q.1) (sym back.2) ∙ ap (λ b. b && live back.0) h)

module _ (cs : List Command) (d : Station) (routes : List Route) (are : AreCommandsOf d routes cs) where
  -- those of a set
  pub set_by_firsts : live_pairs (is_among cs) d routes ≡ flat_map (from (λ e. filter (contend routes e) cs)) cs
  set_by_firsts = live_by_firsts (is_among cs) d routes ∙ ap (λ (xs : List Command). flat_map (from (λ e. filter (contend routes e) xs)) xs) are

  pub set_route : (e : Command) → In e cs → IsRoute routes e.route
  set_route e m = of_a_route d routes e (in_filter_back (is_among cs) (all_commands d routes) e (subst (λ (xs : List Command). In e xs) (sym are) m)).0

  module _ (s : TrainRows) (rows : AreRowsTo routes cs (length d.trains) s) where
    -- a train's commands that contend with one
    of_train : (e : Command) → IsRoute routes e.route → (t : ℕ) → In t (one_to (length d.trains)) → rivals_of_train (row_at s) e t ≡ filter (contend routes e) (commands_in t (routes_given (train_no t) cs))
    of_train e known t m = go (e.train.0 == t) refl
      where
        of_one : List Command
        of_one = commands_in t (routes_given (train_no t) cs)

        make : RouteNo → Command
        make r = record { train = train_no t; route = r }

        go : (b : Bool) → (e.train.0 == t) ≡ b → (if b then [] else commands_in t (row_at s t e.route)) ≡ filter (contend routes e) (commands_in t (routes_given (train_no t) cs))
        go true h = sym (filter_none (contend routes e) (commands_in t (routes_given (train_no t) cs)) (λ c k.
            let back = in_map_back make (routes_given (train_no t) cs) c k in
            ap (λ (x : Command). not (is_train e.train x.train) && share (route_at routes e.route) (route_at routes x.route)) (sym back.2) ∙ ap (λ b. not b && share (route_at routes e.route) (route_at routes back.0)) h))
        go false h =
            let range = in_count_back 1 (length d.trains) t m in
            let low = range.0 in
            let high = range.1 in
            ap (commands_in t) (row_known routes cs (length d.trains) s rows t e.route low (omega arith) known)
            ∙ sym (filter_map (contend routes e) (shares routes e.route) make (routes_given (train_no t) cs) (λ r k. ap (λ b. not b && share (route_at routes e.route) (route_at routes r)) h))

    -- all that contend with it
    pub rivals_are : (e : Command) → IsRoute routes e.route → rivals (length d.trains) (row_at s) e ≡ filter (contend routes e) cs
    rivals_are e known =
        flat_same (rivals_of_train (row_at s) e) (λ t. filter (contend routes e) (commands_in t (routes_given (train_no t) cs))) (one_to (length d.trains)) (of_train e known)
        ∙ (sym (filter_parts (contend routes e) (λ t. commands_in t (routes_given (train_no t) cs)) (one_to (length d.trains))) ∙ ap (filter (contend routes e)) (sym (set_by_trains cs d routes are)))

    pub pairs_are : pairs_by_rows (train_count s) (row_at s) cs ≡ live_pairs (is_among cs) d routes
    pairs_are =
        ap (λ n. pairs_by_rows n (row_at s) cs) rows.trains
        ∙ (flat_same (λ e. map (λ c. (e, c)) (rivals (length d.trains) (row_at s) e)) (from (λ e. filter (contend routes e) cs)) cs (λ e m. ap (map (λ c. (e, c))) (rivals_are e (set_route e m)))
        ∙ sym set_by_firsts)

-- ---- the pairs of one first command

module _ (listed : Command → List Command) (e : Command) where
  abbrev pub test : Command × Command → Bool
  test p = is_command p.0 e

  none_of : (x : Command) → (x ≡ e → ⊥) → filter test (from listed x) ≡ []
  none_of x apart = filter_none test (from listed x) (λ p m. false_unless (test p) (λ h.
      apart (sym (first_of listed x p m) ∙ sym_same p.0 h)))
    where
      sym_same : (y : Command) → is_command y e ≡ true → y ≡ e
      sym_same y h = sym (is_command_same y e h)

  -- none, where it isn't there
  pub own_none : (cs : List Command) → (In e cs → ⊥) → filter test (flat_map (from listed) cs) ≡ []
  own_none [] h = refl
  own_none (x ∷ cs) h =
      filter-append test (from listed x) (flat_map (from listed) cs)
      ∙ ap₂ (λ xs ys. xs ++ ys) (none_of x (λ is. h (inl is))) (own_none cs (λ m. h (inr m)))

  -- those that are listed for it, where it stands there once
  pub own_pairs : (cs : List Command) → Distinct cs → In e cs → filter test (flat_map (from listed) cs) ≡ from listed e
  own_pairs [] d m = absurd m
  own_pairs (x ∷ cs) d (inl is) =
      filter-append test (from listed x) (flat_map (from listed) cs)
      ∙ (ap₂ (λ xs ys. xs ++ ys)
      (filter_every test (from listed x) (λ p k. subst (λ (y : Command). is_command y e ≡ true) (sym (first_of listed x p k ∙ is)) (is_command_self e)) ∙ ap (from listed) is)
      (own_none cs (λ k. d.0 (subst (λ (y : Command). In y cs) (sym is) k)))
      ∙ append-nil (from listed e))
  own_pairs (x ∷ cs) d (inr m) =
      filter-append test (from listed x) (flat_map (from listed) cs)
      ∙ (ap (λ xs. xs ++ filter test (flat_map (from listed) cs)) (none_of x (λ is. d.0 (subst (λ (y : Command). In y cs) (sym is) m))) ∙ own_pairs cs d.1 m)

pub seconds : (e : Command) (cs : List Command) → map (λ (p : Command × Command). p.1) (map (λ c. (e, c)) cs) ≡ cs
seconds e [] = refl
seconds e (c ∷ cs) = ap (λ xs. c ∷ xs) (seconds e cs)

-- in a design they are all of the set that contend with it
pub all_rivals : (view : List (Command × Command)) (cs found : List Command) (e : Command) → map (λ c. (e, c)) found ≡ filter (λ p. is_command p.0 e) view
    → (d : Station) (routes : List Route) → AreCommandsOf d routes cs → Distinct cs → In e cs → view ≡ live_pairs (is_among cs) d routes → found ≡ filter (contend routes e) cs
all_rivals view cs found e h d routes are once m is =
    sym (seconds e found) ∙ (ap (map (λ (p : Command × Command). p.1)) (h ∙ (ap (filter (λ p. is_command p.0 e)) (is ∙ set_by_firsts cs d routes are) ∙ own_pairs (λ x. filter (contend routes x) cs) e cs once m))
    ∙ seconds e (filter (contend routes e) cs))

-- ---- the routes of trains in a design

module _ (cs : List Command) (d : Station) (routes : List Route) (are : AreCommandsOf d routes cs) where
  pub given_known : (t : TrainNo) → All (IsRoute routes) (routes_given t cs)
  given_known t = all_from (IsRoute routes) (routes_given t cs) (λ r m.
      let back = in_map_back (λ (c : Command). c.route) (filter (λ c. is_train c.train t) cs) r m in
      subst (IsRoute routes) back.2 (set_route cs d routes are back.0 (in_filter_back (λ c. is_train c.train t) cs back.0 back.1).0))

  pub given_few : length routes ≤ 2000 → (t : TrainNo) → length (routes_given t cs) ≤ 2000
  given_few h t =
      let e = ap length (given_live cs d routes are t) in
      let few = some_few routes (is_live_for (is_among cs) t) in
      omega arith

  pub given_rise : (t : TrainNo) → AreRising (routes_given t cs)
  given_rise t = subst AreRising (sym (given_live cs d routes are t)) (some_rise routes (is_live_for (is_among cs) t))
