-- A walk over the contending pairs says what a cone's clause says of the order of all commands.
use Rattle.std.proofs.Common.{◌≡◌, ℕ, zero, suc, ◌+◌, ◌-◌, ◌*◌, ◌<◌, ◌⊎◌, inl, inr, Bool, true, false, cond, not, ◌&&◌, if◌then◌else◌, List, [], ◌∷◌, ◌++◌, map, filter, flat_map, length, get_or, All, Option, Some, None, refl, sym, ap, ap₂, subst, ◌∙◌, arith, true≢false}
use Rattle.std.specs.List.{list_all}
use Rattle.std.proofs.lemmas.Grind.{flat_map-append}
use Rattle.rail_base.specs.declared.station.Station.{Station}
use Rattle.rail_base.specs.declared.station.TrainNo.{TrainNo}
use Rattle.rail_base.specs.declared.route.Route.{Route}
use Rattle.rail_base.specs.declared.route.RouteNo.{RouteNo}
use Rattle.rail_base.specs.declared.plan.Command.{Command}
use Rattle.rail_base.specs.Numbering.{before_first, count_from, one_to}
use Rattle.rail_base.specs.Members.{In, all_pairs}
use Rattle.rail_base.specs.Routes.{IsRoute}
use Rattle.rail_base.proofs.Lists.{in_filter_back}
use Rattle.rail_base.proofs.Members.{and_left, and_right, and_both, list_all_at, false_unless}
use Rattle.rail_spec.specs.Plans.{route_at, is_train, routes_given, share, contend, all_commands}
use Rattle.clause_spec.specs.Variables.{pairs, pairs_before, is_pair}
use Rattle.clause_spec.proofs.Places.{pair_of}
use Rattle.live_clause_spec.specs.Variables.{both_live, live_commands, live_pairs}
use Rattle.command_set.specs.Commands.{AreCommandsOf}
use Rattle.command_set.proofs.Blocks.{flat_mapped}
use Rattle.command_set.proofs.Tests.{set_by_trains}
use Rattle.cone_spec.specs.declared.Cone.{Cone}
use Rattle.cone_spec.specs.declared.ConeTrain.{ConeTrain}
use Rattle.cone_spec.specs.Cones.{unnamed, first_named, named, has_pair, is_free}
use Rattle.cone_spec.specs.Validity.{in_design, is_pair_before}
use Rattle.cone_spec.specs.Clauses.{Before, Literal, used_literals, before_literals}
use Rattle.cone_spec.proofs.Naming.{IsNamed, named_or_not, of_design, proper, listed_is}
use Rattle.cone_form.proofs.Ranges.{all_routes}
use Rattle.cone_spec.proofs.Sorted.{all_pairs_filter, pairs_sorted}
use Rattle.cone_clause.specs.Numbered.{left_lit, signed}
use Rattle.cone_clause.proofs.Gathering.{flat_flat}
use Rattle.cone_clause.proofs.Signing.{before_signed}
use Rattle.cone_clause.proofs.Ordered.{not_both_pairs, same_pair, pair_self}

pub got : {X : Type 0} (xs : List X) (i : ℕ) (other : X) → i < length xs → In (get_or xs i other) xs
got [] i other h = absurd (omega arith)
got (x ∷ xs) zero other h = inl refl
got (x ∷ xs) (suc i) other h = inr (got xs i other (omega arith))

-- the place of a pair among pairs in order is its index
place : (xs : List (Command × Command)) (i : ℕ) (other : Command × Command) → all_pairs is_pair_before xs ≡ true → i < length xs → length (before_first (is_pair (get_or xs i other).0 (get_or xs i other).1) xs) ≡ i
place [] i other h l = absurd (omega arith)
place (x ∷ xs) zero other h l = ap (λ b. length (if b then [] else x ∷ before_first (is_pair x.0 x.1) xs)) (pair_self x)
place (x ∷ xs) (suc i) other h l = go (get_or xs i other) (got xs i other (omega arith)) (place xs i other (and_right (list_all (is_pair_before x) xs) (all_pairs is_pair_before xs) h) (omega arith))
  where
    go : (p : Command × Command) → In p xs → length (before_first (is_pair p.0 p.1) xs) ≡ i → length (before_first (is_pair p.0 p.1) (x ∷ xs)) ≡ suc i
    go p m e =
        let first : is_pair_before x p ≡ true = list_all_at (is_pair_before x) xs p (and_left (list_all (is_pair_before x) xs) (all_pairs is_pair_before xs) h) m in
        let apart : is_pair p.0 p.1 x ≡ false = false_unless (is_pair p.0 p.1 x) (λ t. let s : is_pair_before p p ≡ true = subst (λ r. is_pair_before r p ≡ true) (same_pair p x t) first in not_both_pairs p p s s) in
        ap (λ b. length (if b then [] else x ∷ before_first (is_pair p.0 p.1) xs)) apart ∙ ap suc e

module _ (live : Command → Bool) (d : Station) (routes : List Route) where
  pairs_in_order : all_pairs is_pair_before (live_pairs live d routes) ≡ true
  pairs_in_order = all_pairs_filter is_pair_before (both_live live) (pairs d routes) (pairs_sorted d routes (contend routes))

  pub place_is : (i : ℕ) (other : Command × Command) → i < length (live_pairs live d routes)
      → length (before_first (is_pair (get_or (live_pairs live d routes) i other).0 (get_or (live_pairs live d routes) i other).1) (live_pairs live d routes)) ≡ i
  place_is i other h = place (live_pairs live d routes) i other pairs_in_order h

  pub contends : (i : ℕ) (other : Command × Command) → i < length (live_pairs live d routes) → contend routes (get_or (live_pairs live d routes) i other).0 (get_or (live_pairs live d routes) i other).1 ≡ true
  contends i other h =
      let p = get_or (live_pairs live d routes) i other in
      (pair_of d routes p (in_filter_back (both_live live) (pairs d routes) p (got (live_pairs live d routes) i other h)).0).contend

-- what is said of a pair
abbrev pub said : Station → List Route → Cone → Command × Command → List Literal
said d routes k p = before_literals d routes k p.0 p.1

module _ (d : Station) (routes : List Route) (k : Cone) (fits : in_design d routes k ≡ true) where
  -- the routes of a path are in range
  pub path_routes : (t : TrainNo) → All (IsRoute routes) (named k t).path
  path_routes t = go (named_or_not k.trains t)
    where
      go : IsNamed k.trains t ⊎ (first_named t k.trains ≡ unnamed t) → All (IsRoute routes) (named k t).path
      go (inl i) = all_routes routes (named k t).path (proper d routes k (of_design d routes k fits) (named k t) i.member).routes_in
      go (inr e) = let none : (named k t).path ≡ [] = ap (λ (c : ConeTrain). c.path) e in subst (λ (rs : List RouteNo). All (IsRoute routes) rs) (sym none) (λ j other less. absurd (omega arith))

  -- nothing is said of two commands that do not contend
  not_said : (e c : Command) → contend routes e c ≡ false → before_literals d routes k e c ≡ []
  not_said e c f = go (has_pair k e c) (is_free k c && contend routes e c) not_listed (neither (is_free k c) (contend routes e c) f)
    where
      apart : has_pair k e c ≡ true → ⊥
      apart t =
          let one = listed_is d routes k (of_design d routes k fits) e c t in
          true≢false (sym (and_both (not (is_train e.train c.train)) (share (route_at routes e.route) (route_at routes c.route)) (ap not one.apart) one.sharing) ∙ f)

      not_listed : has_pair k e c ≡ false
      not_listed = false_unless (has_pair k e c) apart

      neither : (a b : Bool) → b ≡ false → (a && b) ≡ false
      neither true b g = g
      neither false b g = refl

      go : (a b : Bool) → a ≡ false → b ≡ false → ◌≡◌ {A = List Literal} (if a then record { fact = Before e c; negated = true } ∷ [] else if b then record { fact = Before e c; negated = false } ∷ [] else []) []
      go true b g h = absurd (true≢false g)
      go false true g h = absurd (true≢false h)
      go false false g h = refl

  of_one : (e : Command) (cs : List Command) → flat_map (before_literals d routes k e) cs ≡ flat_map (said d routes k) (map (λ c. (e, c)) (filter (contend routes e) cs))
  of_one e [] = refl
  of_one e (c ∷ cs) = go (contend routes e c) refl (of_one e cs)
    where
      go : (b : Bool) → contend routes e c ≡ b → flat_map (before_literals d routes k e) cs ≡ flat_map (said d routes k) (map (λ c. (e, c)) (filter (contend routes e) cs))
          → before_literals d routes k e c ++ flat_map (before_literals d routes k e) cs ≡ flat_map (said d routes k) (map (λ c. (e, c)) (cond b (c ∷ filter (contend routes e) cs) (filter (contend routes e) cs)))
      go true t h = ap (λ ls. before_literals d routes k e c ++ ls) h
      go false f h = ap (λ ls. ls ++ flat_map (before_literals d routes k e) cs) (not_said e c f) ∙ h

  of_these : (cs : List Command) → flat_map (λ e. flat_map (before_literals d routes k e) (all_commands d routes)) cs ≡ flat_map (said d routes k) (flat_map (pairs_before d routes) cs)
  of_these [] = refl
  of_these (e ∷ cs) = ap₂ (λ xs ys. xs ++ ys) (of_one e (all_commands d routes)) (of_these cs) ∙ sym (flat_map-append (said d routes k) (pairs_before d routes e) (flat_map (pairs_before d routes) cs))

  -- what is said of all commands, two and two, is what is said of the pairs
  pub walked : flat_map (λ e. flat_map (before_literals d routes k e) (all_commands d routes)) (all_commands d routes) ≡ flat_map (said d routes k) (pairs d routes)
  walked = of_these (all_commands d routes)

-- the literal of a live pair
module _ (live : Command → Bool) (d : Station) (routes : List Route) (k : Cone) where
  pub pair_step : (n : ℕ) (i : ℕ) (other : Command × Command) → i < length (live_pairs live d routes) → (v : ℕ) (s : Option Bool) → v ≡ length (live_commands live d routes) * n + i + 1
      → s ≡ (if has_pair k (get_or (live_pairs live d routes) i other).0 (get_or (live_pairs live d routes) i other).1 then Some true else if is_free k (get_or (live_pairs live d routes) i other).1 then Some false else None)
      → signed v s ≡ map (left_lit live d routes n) (said d routes k (get_or (live_pairs live d routes) i other))
  pair_step n i other l v s m g =
      let p = get_or (live_pairs live d routes) i other in
      before_signed live d routes n k p.0 p.1 v s (contends live d routes i other l) (m ∙ ap (λ j. length (live_commands live d routes) * n + j + 1) (sym (place_is live d routes i other l))) g

-- what is said of the commands of all trains
pub used_whole : (cs : List Command) (d : Station) (routes : List Route) (k : Cone) → AreCommandsOf d routes cs
    → flat_map (λ (t : TrainNo). flat_map (used_literals d routes k) (map (λ r. record { train = t; route = r }) (routes_given t cs))) (map (λ n. record { 0 = n }) (count_from 1 (length d.trains + 1 - 1))) ≡ flat_map (used_literals d routes k) cs
used_whole cs d routes k are =
    let named : ℕ → TrainNo = λ n. record { 0 = n } in
    let of_train : TrainNo → List Command = λ t. map (λ r. record { train = t; route = r }) (routes_given t cs) in
    let e : length d.trains + 1 - 1 ≡ length d.trains = omega arith in
    ap (λ m. flat_map (λ (t : TrainNo). flat_map (used_literals d routes k) (of_train t)) (map named (count_from 1 m))) e
    ∙ (sym (flat_flat (used_literals d routes k) of_train (map named (one_to (length d.trains))))
    ∙ ap (flat_map (used_literals d routes k)) (flat_mapped of_train named (one_to (length d.trains)) ∙ sym (set_by_trains cs d routes are)))
