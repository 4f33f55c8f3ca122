-- A plan of which all that the sentences about a cone say is so makes each literal of the cone's clause false.
use Rattle.std.proofs.Common.{◌≡◌, ◌⊎◌, inl, inr, Bool, true, false, not, ◌&&◌, ◌||◌, if◌then◌else◌, true≢false, List, [], ◌∷◌, ◌++◌, flat_map, map, take, refl, sym, ap, subst, ◌∙◌}
use Rattle.std.specs.List.{list_all}
use Rattle.std.proofs.lemmas.List.Folds.{list_all-append}
use Rattle.rail_base.specs.declared.station.Station.{Station}
use Rattle.rail_base.specs.declared.station.TrainNo.{TrainNo}
use Rattle.rail_base.specs.declared.route.Route.{Route}
use Rattle.rail_base.specs.declared.plan.Command.{Command}
use Rattle.rail_base.specs.declared.plan.Violation.{Violation}
use Rattle.rail_base.specs.declared.plan.Violation.TheVariants as violation
use Rattle.rail_base.specs.Members.{In}
use Rattle.rail_base.proofs.Members.{and_left, and_right, and_both, false_unless, list_any_gives, list_any_from}
use Rattle.rail_spec.specs.Plans.{route_at, contend, has_command, is_command, all_commands}
use Rattle.rail_spec.specs.Track.{routes_of}
use Rattle.cone_spec.specs.declared.Cone.{Cone}
use Rattle.cone_spec.specs.declared.ConeTrain.{ConeTrain}
use Rattle.cone_spec.specs.Cones.{named, unnamed, first_named, all_free, free_path, is_named, is_free, is_pair, has_pair}
use Rattle.cone_spec.specs.Clauses.{Used, Before, Literal, holds_of, is_true_of, is_false_of, goes_further, is_path_violation, is_closed, used_literals, before_literals, clause_of_cone}
use Rattle.cone_spec.proofs.Naming.{IsNamed, named_or_not, has_route_in}
use Rattle.cone_spec.proofs.Saying.{is_command_same, is_command_self}
use Rattle.cone_spec.proofs.Refusing.{true_of_feasible, timed_of}
use Rattle.cone_words.specs.Cones.{is_of_path}
use Rattle.cone_words.specs.So.{of_train, ConeIsSo, SentencesOfConesDeny}

-- ---- lists

pub all_flat : {X Y : Type 0} (test : Y → Bool) (f : X → List Y) (xs : List X) → ((x : X) → list_all test (f x) ≡ true) → list_all test (flat_map f xs) ≡ true
all_flat test f [] h = refl
all_flat test f (x ∷ xs) h = list_all-append test (f x) (flat_map f xs) ∙ rw (h x, all_flat test f xs h) refl

pub all_both : {X : Type 0} (test : X → Bool) (xs ys : List X) → list_all test xs ≡ true → list_all test ys ≡ true → list_all test (xs ++ ys) ≡ true
all_both test xs ys h g = list_all-append test xs ys ∙ rw (h, g) refl

-- a literal that says that it isn't so fails where it is so, and the other way round
pub not_so : (b : Bool) → b ≡ true → (not (not b) && true) ≡ true
not_so true h = refl
not_so false h = absurd (cc)

pub so : (b : Bool) → b ≡ false → (not b && true) ≡ true
so true h = absurd (cc)
so false h = refl

path_same : (v : Violation) (d : Station) (routes : List Route) (k : Cone) → is_path_violation d routes k v ≡ is_of_path v
path_same (violation.Path t j) d routes k = refl
path_same (violation.Within w) d routes k = refl
path_same (violation.Order o) d routes k = refl
path_same (violation.Grant t j) d routes k = refl
path_same (violation.Visit t j) d routes k = refl

module _ (d : Station) (routes : List Route) (k : Cone) (plan : List (List Command)) (is : ConeIsSo routes k plan) where
  -- ---- what the sentences say of commands

  pub given : (c : Command) → is_named k c ≡ true → has_command plan c ≡ true
  given c h = go (named_or_not k.trains c.train)
    where
      m : In c.route (named k c.train).path
      m = has_route_in (named k c.train).path c.route h

      go : IsNamed k.trains c.train ⊎ (first_named c.train k.trains ≡ unnamed c.train) → has_command plan c ≡ true
      go (inl i) = subst (λ (t : TrainNo). has_command plan (of_train t c.route) ≡ true) i.train (is.paths (named k c.train) i.member c.route m)
      go (inr e) = absurd (subst (λ (x : ConeTrain). In c.route x.path) e m)

  pub ended : (c : Command) → is_closed d routes k c.train ≡ true → goes_further (map (route_at routes) (named k c.train).path) (route_at routes c.route) ≡ true → has_command plan c ≡ false
  ended c closed further = false_unless (has_command plan c) (λ there. go (named_or_not k.trains c.train) there)
    where
      go : IsNamed k.trains c.train ⊎ (first_named c.train k.trains ≡ unnamed c.train) → has_command plan c ≡ true → ⊥
      go (inl i) there =
          is.ends (named k c.train) i.member (sym (ap (λ b. all_free (named k c.train) || b) (path_same k.violation d routes k)) ∙ closed) c.route further
          (subst (λ (t : TrainNo). has_command plan (of_train t c.route) ≡ true) (sym i.train) there)
      go (inr e) there = true≢false (sym (subst (λ (x : ConeTrain). goes_further (map (route_at routes) x.path) (route_at routes c.route) ≡ true) e further))

  pub turned : (e c : Command) → has_pair k e c ≡ true → holds_of plan (Before e c) ≡ true
  turned e c h = go (list_any_gives (is_pair e c) k.pairs h)
    where
      go : (p : Command × Command) × In p k.pairs × (is_pair e c p ≡ true) → holds_of plan (Before e c) ≡ true
      go (p, m, t) =
          let a = is_command_same p.0 e (and_left (is_command p.0 e) _ t) in
          let b = is_command_same p.1 c (and_right (is_command p.0 e) _ t) in
          subst (λ (x : Command). holds_of plan (Before x c) ≡ true) a (subst (λ (y : Command). holds_of plan (Before p.0 y) ≡ true) b (is.turns p.0 p.1 m))

  pub behind : (e c : Command) → has_pair k e c ≡ false → is_free k c ≡ true → contend routes e c ≡ true → holds_of plan (Before e c) ≡ false
  behind e c none free share = false_unless (holds_of plan (Before e c)) (λ there. go (named_or_not k.trains c.train) there)
    where
      m : In c.route (free_path k c.train)
      m = has_route_in (free_path k c.train) c.route free

      listed : In (e, c) k.pairs → ⊥
      listed i = true≢false (sym (list_any_from (is_pair e c) k.pairs (e, c) i (and_both _ _ (is_command_self e) (is_command_self c))) ∙ none)

      go : IsNamed k.trains c.train ⊎ (first_named c.train k.trains ≡ unnamed c.train) → holds_of plan (Before e c) ≡ true → ⊥
      go (inl i) there =
          let same : of_train (named k c.train).train c.route ≡ c = ap (λ (t : TrainNo). of_train t c.route) i.train in
          is.others (named k c.train) i.member c.route m e
          (subst (λ (x : Command). contend routes e x ≡ true) (sym same) share)
          (λ i. listed (subst (λ (x : Command). In (e, x) k.pairs) same i))
          (subst (λ (x : Command). holds_of plan (Before e x) ≡ true) (sym same) there)
      go (inr e) there = absurd (subst (λ (x : ConeTrain). In c.route (take x.free x.path)) e m)

  -- ---- the clause

  abbrev fails : Literal → Bool
  fails l = not (is_true_of plan l)

  used_fail : (c : Command) → list_all fails (used_literals d routes k c) ≡ true
  used_fail c = go (is_named k c) refl (is_closed d routes k c.train && goes_further (map (route_at routes) (named k c.train).path) (route_at routes c.route)) refl
    where
      go : (b : Bool) → is_named k c ≡ b → (g : Bool) → (is_closed d routes k c.train && goes_further (map (route_at routes) (named k c.train).path) (route_at routes c.route)) ≡ g
          → list_all fails (if b then record { fact = Used c; negated = true } ∷ [] else if g then record { fact = Used c; negated = false } ∷ [] else []) ≡ true
      go true n g e = not_so (has_command plan c) (given c n)
      go false n true e = so (has_command plan c) (ended c (and_left (is_closed d routes k c.train) _ e) (and_right (is_closed d routes k c.train) _ e))
      go false n false e = refl

  before_fail : (e c : Command) → list_all fails (before_literals d routes k e c) ≡ true
  before_fail e c = go (has_pair k e c) refl (is_free k c && contend routes e c) refl
    where
      go : (b : Bool) → has_pair k e c ≡ b → (g : Bool) → (is_free k c && contend routes e c) ≡ g
          → list_all fails (if b then record { fact = Before e c; negated = true } ∷ [] else if g then record { fact = Before e c; negated = false } ∷ [] else []) ≡ true
      go true n g s = not_so (holds_of plan (Before e c)) (turned e c n)
      go false n true s = so (holds_of plan (Before e c)) (behind e c n (and_left (is_free k c) _ s) (and_right (is_free k c) _ s))
      go false n false s = refl

  pub all_fail : is_false_of plan (clause_of_cone d routes k) ≡ true
  all_fail =
      let commands = all_commands d routes in
      all_both fails (flat_map (used_literals d routes k) commands) _ (all_flat fails (used_literals d routes k) commands used_fail)
      (all_flat fails (λ e. flat_map (before_literals d routes k e) commands) commands (λ e. all_flat fails (before_literals d routes k e) commands (before_fail e)))

pub cones_deny : SentencesOfConesDeny
cones_deny d admitted n plan feasible k valid is =
    true≢false (sym (all_fail d (routes_of d) k plan is) ∙ true_of_feasible d n k plan (timed_of d admitted) feasible valid)
