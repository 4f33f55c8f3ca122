-- What is known of a plan's commands, one command and one step further.
use Rattle.std.proofs.Common.{◌≡◌, ◌⊎◌, ℕ, zero, suc, ◌+◌, ◌-◌, ◌<◌, inl, inr, Bool, true, false, cond, ◌||◌, ◌==◌, if◌then◌else◌, List, [], ◌∷◌, ◌++◌, map, filter, flat_map, take, drop, length, get_or, refl, sym, ap, subst, ◌∙◌, arith, le_refl, append_assoc}
use Rattle.std.specs.List.{list_all}
use Rattle.std.specs.Global.{Vec}
use Rattle.std.proofs.lemmas.List.{append-nil, map-append, take_more, drop_more, take-append-drop, take_all}
use Rattle.rail_base.specs.declared.station.Station.{Station}
use Rattle.rail_base.specs.declared.station.SectionNo.{SectionNo}
use Rattle.rail_base.specs.declared.station.TrainNo.{TrainNo}
use Rattle.rail_base.specs.declared.route.Route.{Route}
use Rattle.rail_base.specs.declared.route.RouteNo.{RouteNo}
use Rattle.rail_base.specs.declared.plan.Command.{Command}
use Rattle.rail_base.specs.declared.state.TrainState.{TrainState}
use Rattle.rail_base.specs.Members.{In}
use Rattle.rail_base.specs.Numbering.{entry}
use Rattle.rail_base.specs.Routes.{route_at, has_section, sections}
use Rattle.rail_base.specs.Stations.{IsTrain}
use Rattle.rail_base.proofs.Lists.{in_flat_map_back}
use Rattle.rail_base.proofs.Members.{filter-append}
use Rattle.rail_spec.specs.Plans.{is_train, path, routes_given}
use Rattle.rail_spec.specs.Dispatches.{Dispatch, of_plan, has_released}
use Rattle.rail_laws.proofs.Given.{same_train}
use Rattle.rail_course.specs.declared.itineraries.Itineraries.{Itineraries}
use Rattle.rail_course.specs.declared.planned.PlannedTrainPaths.{PlannedTrainPaths}
use Rattle.rail_course.specs.declared.waits.Wait.{Wait}
use Rattle.rail_course.specs.Itineraries.{going_in, path_in}
use Rattle.rail_course.specs.Ready.{GiveWhatIsReady, own_waits, AllGiveWhatIsReady}
use Rattle.rail_course.specs.Waits.{IsWait}
use Rattle.rail_course.proofs.Numbered.{path_of_number}
use Rattle.rail_course.proofs.Granting.{no_path, plan_named}
use Rattle.rail_course.proofs.Holding.{wait_elsewhere}
use Rattle.rail_course.proofs.Waiting.{list_all-parts, list_all-same}
use Rattle.dispatcher.specs.Queues.{are_of, last_on, on_section, queue_at}
use Rattle.dispatcher.specs.Planned.{AreKnown, AreQueues, AreWaitsIn}
use Rattle.dispatcher.specs.Turned.{AreTurned, AsksQueues}
use Rattle.dispatcher.specs.Waits.{AreWaits, lets_pass, waits_at}
use Rattle.dispatcher.proofs.Last.{StandLast, last_more, stand_last}
use Rattle.dispatcher.proofs.Ready.{orderly, waits_more, waits_tell}
use Rattle.dispatcher.proofs.Standing.{kept_parts, train_at, waits_known, waits_pass}

-- ---- routes given to a train

flat_map-append : {X Y : Type 0} (f : X → List Y) (xs ys : List X) → flat_map f (xs ++ ys) ≡ flat_map f xs ++ flat_map f ys
flat_map-append f [] ys = refl
flat_map-append f (x ∷ xs) ys = ap (λ zs. f x ++ zs) (flat_map-append f xs ys) ∙ sym (append_assoc (f x) (flat_map f xs) (flat_map f ys))

pub path_more : (plan : List (List Command)) (n : ℕ) (step : List Command) (t : TrainNo) → n < length plan → step ≡ get_or plan n step → path (take (n + 1) plan) t ≡ path (take n plan) t ++ routes_given t step
path_more plan n step t h is =
    ap (λ p. path p t) (take_more plan n step h ∙ ap (λ s. take n plan ++ s ∷ []) (sym is))
    ∙ flat_map-append (routes_given t) (take n plan) (step ∷ [])
    ∙ ap (λ rs. path (take n plan) t ++ rs) (append-nil (routes_given t step))

given_more : (step : List Command) (j : ℕ) (c : Command) (t : TrainNo) → j < length step → c ≡ get_or step j c → routes_given t (take (j + 1) step) ≡ routes_given t (take j step) ++ (if is_train c.train t then c.route ∷ [] else [])
given_more step j c t h is =
    ap (routes_given t) (take_more step j c h ∙ ap (λ x. take j step ++ x ∷ []) (sym is))
    ∙ ap (map (λ (x : Command). x.route)) (filter-append (λ (x : Command). is_train x.train t) (take j step) (c ∷ []))
    ∙ map-append (λ (x : Command). x.route) (filter (λ (x : Command). is_train x.train t) (take j step)) (cond (is_train c.train t) (c ∷ []) [])
    ∙ ap (λ rs. routes_given t (take j step) ++ rs) (go (is_train c.train t))
  where
    go : (b : Bool) → map (λ (x : Command). x.route) (cond b (c ∷ []) []) ≡ (if b then c.route ∷ [] else [])
    go true = refl
    go false = refl

split_at : (plan : List (List Command)) (n : ℕ) (step : List Command) → n < length plan → step ≡ get_or plan n step → plan ≡ take n plan ++ step ∷ drop (n + 1) plan
split_at plan n step h is = sym (take-append-drop n plan) ∙ ap (λ p. take n plan ++ p) (drop_more plan n step h ∙ ap (λ s. s ∷ drop (n + 1) plan) (sym is))

get_in : {X : Type 0} (xs : List X) (i : ℕ) (x : X) → i < length xs → x ≡ get_or xs i x → In x xs
get_in [] i x h is = absurd (omega arith)
get_in (y ∷ ys) zero x h is = inl (sym is)
get_in (y ∷ ys) (suc i) x h is = inr (get_in ys i x (omega arith) is)

module _ (p : PlannedTrainPaths) where
  abbrev given : Itineraries
  given = p.train_paths.given

  abbrev station : Station
  station = given.interlocking.now.design.station

  abbrev routes : List Route
  routes = given.interlocking.now.routes

  abbrev plan : List (List Command)
  plan = p.plan.now.steps

  abbrev dispatch : Dispatch
  dispatch = of_plan routes plan

  -- the paths are those of the plan
  pub same_paths : path_in given ≡ path plan
  same_paths = path_of_number station (path plan) given.paths.items p.paths (no_path station routes plan (plan_named given.interlocking.now plan p.formed))

  -- ---- the waits of one command

  going_is : (of : Dispatch → Type 0) → of dispatch → of (record { path = path_in given; before = dispatch.before; concerns = dispatch.concerns })
  going_is of h = subst (λ path. of (record { path = path; before = dispatch.before; concerns = dispatch.concerns })) (sym same_paths) h

  going_back : (of : Dispatch → Type 0) → of (record { path = path_in given; before = dispatch.before; concerns = dispatch.concerns }) → of dispatch
  going_back of h = subst (λ path. of (record { path = path; before = dispatch.before; concerns = dispatch.concerns })) same_paths h

  -- what stands on a section for a command lets a train pass where the command has released the section
  passes_at : (ps : List (List TrainState)) (t : TrainNo) (z : SectionNo) (e : Command) → has_section (route_at routes e.route) z ≡ true → list_all (lets_pass ps t) (waits_at given z e) ≡ (is_train e.train t || has_released station routes dispatch ps e z)
  passes_at ps t z e on = going_back (λ q. list_all (lets_pass ps t) (waits_at given z e) ≡ (is_train e.train t || has_released station routes q ps e z)) (waits_pass given ps t z e on)

  passes_is : (ps : List (List TrainState)) (t : TrainNo) (z : SectionNo) (queue : List Wait) (last : List Command) → queue ≡ flat_map (waits_at given z) last → ((e : Command) → In e last → has_section (route_at routes e.route) z ≡ true)
      → list_all (lets_pass ps t) queue ≡ list_all (λ e. is_train e.train t || has_released station routes dispatch ps e z) last
  passes_is ps t z queue last is on =
      ap (list_all (lets_pass ps t)) is
      ∙ list_all-parts (lets_pass ps t) (waits_at given z) last
      ∙ list_all-same (λ e. list_all (lets_pass ps t) (waits_at given z e)) (λ e. is_train e.train t || has_released station routes dispatch ps e z) last (λ e m. passes_at ps t z e (on e m))

  -- and it is known how it ends
  known_at : (z : SectionNo) (last : List Command) (w : Wait) → In w (flat_map (waits_at given z) last) → IsWait station routes dispatch w
  known_at z last w m = go (in_flat_map_back (waits_at given z) last w m)
    where
      go : ((e : Command) × In e last × In w (waits_at given z e)) → IsWait station routes dispatch w
      go (e, k, i) = wait_elsewhere station routes (going_in given) dispatch same_paths w (waits_known given z e w i)

  pub own_waits_are : (n : ℕ) (queues : List (List Wait)) → AreQueues p n queues → n < length plan → (step : List Command) → step ≡ get_or plan n step → (c : Command) → In c step → (own : List Wait)
      → AsksQueues routes queues c own → AreWaits station routes dispatch plan c own
  own_waits_are n queues are less step is c m own asks = record {
    before = take n plan;
    step = step;
    later = drop (n + 1) plan;
    split = split_at plan n step less is;
    given = m;
    over = λ ps. asks.over ps
        ∙ list_all-same (λ z. list_all (lets_pass ps c.train) (queue_at queues z)) (λ z. list_all (λ e. is_train e.train c.train || has_released station routes dispatch ps e z) (last_on routes z [] (take n plan))) (sections (route_at routes c.route))
        (λ z k. passes_is ps c.train z (queue_at queues z) (last_on routes z [] (take n plan)) (are.each z) (λ e i. ((last z).known e i).1));
    known = λ w k. known w (asks.known w k);
  }
    where
      last : (z : SectionNo) → StandLast routes plan (orderly given.interlocking.now plan p.formed).once z (length (take n plan)) (last_on routes z [] (take n plan))
      last z = stand_last routes plan (orderly given.interlocking.now plan p.formed).once z (take n plan) (step ∷ drop (n + 1) plan) (split_at plan n step less is)

      known : (w : Wait) → In w [] ⊎ ((z : SectionNo) × In z (sections (route_at routes c.route)) × In w (queue_at queues z)) → IsWait station routes dispatch w
      known w (inl none) = absurd none
      known w (inr (z, k, i)) = known_at z (last_on routes z [] (take n plan)) w (subst (In w) (are.each z) i)

  -- ---- one command more

  pub known_more : (t : TrainNo) (before : List RouteNo) (step : List Command) (j : ℕ) (c : Command) → j < length step → c ≡ get_or step j c → (own : Vec Wait) → AreWaits station routes dispatch plan c own.items
      → (old new : List (Vec Wait)) → new ≡ (if c.train.0 == t.0 then old ++ own ∷ [] else old)
      → AreWaitsIn p t (before ++ routes_given t (take j step)) (map (λ v. v.items) old) → AreWaitsIn p t (before ++ routes_given t (take (j + 1) step)) (map (λ v. v.items) new)
  known_more t before step j c h is own waits old new put known =
      subst (λ rs. AreWaitsIn p t (before ++ rs) (map (λ v. v.items) new)) (sym (given_more step j c t h is))
      (subst (λ vs. AreWaitsIn p t (before ++ (routes_given t (take j step) ++ (if is_train c.train t then c.route ∷ [] else []))) (map (λ v. v.items) vs)) (sym put)
      (go (is_train c.train t) refl))
    where
      rs : List RouteNo
      rs = routes_given t (take j step)

      go : (b : Bool) → is_train c.train t ≡ b → AreWaitsIn p t (before ++ (rs ++ (if b then c.route ∷ [] else []))) (map (λ (v : Vec Wait). v.items) (if b then old ++ own ∷ [] else old))
      go false e = subst (λ qs. AreWaitsIn p t (before ++ qs) (map (λ (v : Vec Wait). v.items) old)) (sym (append-nil rs)) known
      go true e =
          let same : c.train ≡ t = same_train c.train t e in
          let here : AreWaits station routes dispatch plan (record { train = t; route = c.route }) own.items = subst (λ u. AreWaits station routes dispatch plan (record { train = u; route = c.route }) own.items) same waits in
          subst (AreWaitsIn p t (before ++ (rs ++ c.route ∷ []))) (sym (map-append (λ (v : Vec Wait). v.items) old (own ∷ [])))
          (subst (λ qs. AreWaitsIn p t qs (map (λ (v : Vec Wait). v.items) old ++ own.items ∷ [])) (append_assoc before rs (c.route ∷ []))
          (waits_more station routes plan t (before ++ rs) (map (λ (v : Vec Wait). v.items) old) c.route own.items known here))

  -- ---- one step more

  pub queue_more : (n : ℕ) → n < length plan → (step : List Command) → step ≡ get_or plan n step → (z : SectionNo) (old new : List Wait) → old ≡ flat_map (waits_at given z) (last_on routes z [] (take n plan))
      → new ≡ filter (λ w. are_of w.event.train (on_section routes z step)) old ++ flat_map (waits_at given z) (on_section routes z step) → new ≡ flat_map (waits_at given z) (last_on routes z [] (take (n + 1) plan))
  queue_more n less step is z old new before turn =
      turn ∙ ap (λ ws. filter (λ w. are_of w.event.train these) ws ++ flat_map (waits_at given z) these) before
      ∙ ap (λ ws. ws ++ flat_map (waits_at given z) these) (kept_parts (waits_at given z) (λ e. are_of e.train these) (λ w. are_of w.event.train these) (λ e w m. ap (λ t. are_of t these) (train_at given z e w m)) (last_on routes z [] (take n plan)))
      ∙ sym (flat_map-append (waits_at given z) (filter (λ e. are_of e.train these) (last_on routes z [] (take n plan))) these)
      ∙ ap (flat_map (waits_at given z)) (sym (last_more routes z [] (take n plan) step) ∙ ap (last_on routes z []) (ap (λ s. take n plan ++ s ∷ []) is ∙ sym (take_more plan n step less)))
    where
      these : List Command
      these = on_section routes z step

  -- ---- what is known after some steps

  pub nothing_queued : (queues : List (List Wait)) → length queues ≡ length station.sections → ((n : ℕ) → entry [] queues n ≡ []) → AreQueues p 0 queues
  nothing_queued queues many none = record { queue_a_section = many; each = λ z. none z.0 }

  pub nothing_known : (waits : List (List (Vec Wait))) → length waits ≡ length station.trains → ((n : ℕ) → entry [] waits n ≡ []) → AreKnown p 0 waits
  nothing_known waits many none = record { waits_a_train = many; each = λ t is. subst (λ vs. AreWaitsIn p t [] (map (λ (v : Vec Wait). v.items) vs)) (sym (none t.0)) tt }

  pub queues_turned : (n : ℕ) → n < length plan → (step : List Command) → step ≡ get_or plan n step → (old new : List (List Wait)) → AreQueues p n old → length new ≡ length old
      → AreTurned old new given step → AreQueues p (n + 1) new
  queues_turned n less step is old new are many turn = record {
    queue_a_section = many ∙ are.queue_a_section;
    each = λ z. queue_more n less step is z (queue_at old z) (queue_at new z) (are.each z) (turn z);
  }

  pub step_known : (n : ℕ) → n < length plan → (step : List Command) → step ≡ get_or plan n step → (waits : List (List (Vec Wait))) → length waits ≡ length station.trains
      → ((t : TrainNo) → IsTrain station t → AreWaitsIn p t (path (take n plan) t ++ routes_given t step) (own_waits waits t)) → AreKnown p (n + 1) waits
  step_known n less step is waits many each = record {
    waits_a_train = many;
    each = λ t train. subst (λ rs. AreWaitsIn p t rs (own_waits waits t)) (sym (path_more plan n step t less is)) (each t train);
  }

  all_told : (waits : List (List (Vec Wait))) → AreKnown p (length plan) waits → (t : TrainNo) → IsTrain station t → GiveWhatIsReady station routes dispatch t (own_waits waits t)
  all_told waits known t is =
      waits_tell station routes plan t (orderly given.interlocking.now plan p.formed) (own_waits waits t)
      (subst (λ steps. AreWaitsIn p t (path steps t) (own_waits waits t)) (take_all (length plan) plan (le_refl (length plan))) (known.each t is))

  -- so all waits give what is ready
  pub all_give : (waits : List (List (Vec Wait))) → AreKnown p (length plan) waits → AllGiveWhatIsReady station routes dispatch waits
  all_give waits known = record { waits_a_train = known.waits_a_train; each = all_told waits known }
