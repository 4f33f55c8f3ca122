-- The clause of a slice is false of the plan.
use Rattle.std.proofs.Common.{◌≡◌, ℕ, zero, suc, ◌≤◌, ◌<◌, ◌⊎◌, inl, inr, Bool, true, false, not, ◌&&◌, ◌||◌, if◌then◌else◌, List, [], ◌∷◌, ◌++◌, map, flat_map, length, take, refl, sym, ap, subst, ◌∙◌, arith, leb-true, true≢false, length-take}
use Rattle.std.specs.List.{list_all}
use Rattle.rail_base.specs.declared.station.Station.{Station}
use Rattle.rail_base.specs.declared.station.TrainNo.{TrainNo}
use Rattle.rail_base.specs.declared.route.Route.{Route}
use Rattle.rail_base.specs.declared.plan.Command.{Command}
use Rattle.rail_base.specs.declared.plan.Violation.{Violation}
use Rattle.cone_spec.specs.declared.ConeTrain.{ConeTrain}
use Rattle.rail_spec.specs.Plans.{route_at, is_train, share, commands, path, precedes, has_command, all_commands, contend}
use Rattle.rail_base.proofs.Members.{In, and_left, and_right, and_both, in_filter, below_or_not}
use Rattle.cone_spec.specs.Cones.{unnamed, named, free_path, all_free, has_route, is_named, is_free}
use Rattle.cone_spec.specs.Clauses.{is_path_violation, goes_further, Used, Before, Literal, holds_of, is_true_of, used_literals, before_literals, clause_of_cone, is_false_of}
use Rattle.cone_spec.specs.Cones as cone
use Rattle.slice_spec.specs.Holders.{count_at}
use Rattle.slice_spec.specs.Slices.{slice_train, slice_with}
use Rattle.cone_spec.proofs.Saying.{has_in, in_has}
use Rattle.cone_spec.proofs.Naming.{has_route_in, in_has_route}
use Rattle.cone_spec.proofs.Fitting.{in_take}
use Rattle.slice_spec.proofs.Slicing.{Failed, named_slice, in_design_or_not, count_first, listed_in, listed_out, precedes_listed, command_in_design}
use Rattle.rail_laws.proofs.Standing.{in_path}
use Rattle.rail_laws.proofs.Given.{command_in_path}

pub all_append : {X : Type 0} (test : X → Bool) (xs ys : List X) → list_all test xs ≡ true → list_all test ys ≡ true → list_all test (xs ++ ys) ≡ true
all_append test [] ys h k = k
all_append test (x ∷ xs) ys h k = and_both _ _ (and_left (test x) _ h) (all_append test xs ys (and_right (test x) _ h) k)

pub all_flat : {X Y : Type 0} (test : Y → Bool) (f : X → List Y) (xs : List X) → ((x : X) → list_all test (f x) ≡ true) → list_all test (flat_map f xs) ≡ true
all_flat test f [] h = refl
all_flat test f (x ∷ xs) h = all_append test (f x) (flat_map f xs) (h x) (all_flat test f xs h)

module _ (d : Station) (routes : List Route) (n : ℕ) (plan : List (List Command)) (last : ℕ) (v : Violation) (h upto : TrainNo → ℕ) (failed : Failed d routes n plan last v h upto) where
  abbrev fails : Literal → Bool
  fails l = not (is_true_of plan l)

  not_twice : (x : Bool) → x ≡ true → (not (not x) && true) ≡ true
  not_twice true e = refl
  not_twice false e = e

  not_once : (x : Bool) → x ≡ false → (not x && true) ≡ true
  not_once true e = absurd (true≢false e)
  not_once false e = refl

  -- the commands of the slice are given
  given : (c : Command) → is_named (slice_with d routes plan last h upto v) c ≡ true → has_command plan c ≡ true
  given c m = go (in_design_or_not d routes n plan last v h upto failed c.train)
    where
      i : In c.route (named (slice_with d routes plan last h upto v) c.train).path
      i = has_route_in (named (slice_with d routes plan last h upto v) c.train).path c.route m

      go : ((1 ≤ c.train.0) × (c.train.0 ≤ length d.trains)) ⊎ (named (slice_with d routes plan last h upto v) c.train ≡ unnamed c.train) → has_command plan c ≡ true
      go (inr e) = absurd (subst (λ (x : ConeTrain). In c.route x.path) e i)
      go (inl (a, b)) =
          let p = subst (λ (x : ConeTrain). In c.route x.path) (named_slice d routes n plan last v h upto failed c.train a b) i in
          in_has plan c (in_path c.train plan c.route (in_take (upto c.train) (path plan c.train) c.route p))

  take_all : {X : Type 0} (m : ℕ) (xs : List X) → length xs ≤ m → take m xs ≡ xs
  take_all zero [] l = refl
  take_all zero (x ∷ xs) l = absurd (omega arith)
  take_all (suc m) [] l = refl
  take_all (suc m) (x ∷ xs) l = ap (λ ys. x ∷ ys) (take_all m xs (omega arith))

  -- a train goes no further than where all its commands are free
  no_further : (c : Command) → is_named (slice_with d routes plan last h upto v) c ≡ false → all_free (named (slice_with d routes plan last h upto v) c.train) ≡ true
      → goes_further (map (route_at routes) (named (slice_with d routes plan last h upto v) c.train).path) (route_at routes c.route) ≡ true → has_command plan c ≡ false
  no_further c unnamed_c free on = go (has_command plan c) refl
    where
      t : TrainNo
      t = c.train

      no_path : (x : ConeTrain) → x.path ≡ [] → named (slice_with d routes plan last h upto v) c.train ≡ x → ⊥
      no_path x e s = true≢false (sym on ∙ ap (λ rs. goes_further (map (route_at routes) rs) (route_at routes c.route)) (ap (λ (x : ConeTrain). x.path) s ∙ e))

      empty : {X : Type 0} (xs : List X) → length xs ≤ 0 → xs ≡ []
      empty [] l = refl
      empty (x ∷ xs) l = absurd (omega arith)

      in_it : In c (commands plan) → (1 ≤ c.train.0) × (c.train.0 ≤ length d.trains) → ⊥
      in_it m (a, b) = at (h c.train) refl
        where
          same : named (slice_with d routes plan last h upto v) c.train ≡ slice_train d routes plan last h upto c.train
          same = named_slice d routes n plan last v h upto failed c.train a b

          few : length (take (upto c.train) (path plan c.train)) ≤ count_at d routes plan (h c.train) c.train
          few = leb-true _ _ (ap all_free (sym same) ∙ free)

          at : (x : ℕ) → h c.train ≡ x → ⊥
          at zero e =
              let z : count_at d routes plan (h c.train) c.train ≡ 0 = ap (λ i. count_at d routes plan i c.train) e ∙ count_first d routes n plan last v h upto failed c.train in
              no_path (slice_train d routes plan last h upto c.train) (empty (take (upto c.train) (path plan c.train)) (let f = few in omega arith)) same
          at (suc x) e =
              let l = length-take (upto c.train) (path plan c.train) in
              let f = few in
              let short : length (path plan c.train) ≤ upto c.train = at_end (below_or_not (count_at d routes plan (h c.train) c.train) (length (path plan c.train))) in
              let whole : take (upto c.train) (path plan c.train) ≡ path plan c.train = take_all (upto c.train) (path plan c.train) short in
              let there : In c.route (named (slice_with d routes plan last h upto v) c.train).path = subst (λ (x : ConeTrain). In c.route x.path) (sym same) (subst (In c.route) (sym whole) (command_in_path plan c m)) in
              true≢false (sym (in_has_route (named (slice_with d routes plan last h upto v) c.train).path c.route there) ∙ unnamed_c)
            where
              at_end : (count_at d routes plan (h c.train) c.train < length (path plan c.train)) ⊎ (length (path plan c.train) ≤ count_at d routes plan (h c.train) c.train) → length (path plan c.train) ≤ upto c.train
              at_end (inr k) = let g = failed.granted_in c.train in omega arith
              at_end (inl k) =
                  let g = failed.next_in c.train (omega arith) k in
                  let f = few in
                  let l = length-take (upto c.train) (path plan c.train) in
                  omega arith

      go : (x : Bool) → has_command plan c ≡ x → has_command plan c ≡ false
      go false e = e
      go true e = let m = has_in plan c e in absurd (in_it m (command_in_design d routes n plan last v h upto failed c m))

  used_fail : is_path_violation d routes (slice_with d routes plan last h upto v) v ≡ false → (c : Command) → list_all fails (used_literals d routes (slice_with d routes plan last h upto v) c) ≡ true
  used_fail not_path c = go (is_named (slice_with d routes plan last h upto v) c) refl (all_free (named (slice_with d routes plan last h upto v) c.train)) refl (is_path_violation d routes (slice_with d routes plan last h upto v) v) not_path (goes_further (map (route_at routes) (named (slice_with d routes plan last h upto v) c.train).path) (route_at routes c.route)) refl
    where
      go : (a : Bool) → is_named (slice_with d routes plan last h upto v) c ≡ a → (b : Bool) → all_free (named (slice_with d routes plan last h upto v) c.train) ≡ b → (p : Bool) → p ≡ false → (f : Bool) → goes_further (map (route_at routes) (named (slice_with d routes plan last h upto v) c.train).path) (route_at routes c.route) ≡ f
          → list_all fails (if a then record { fact = Used c; negated = true } ∷ [] else if (b || p) && f then record { fact = Used c; negated = false } ∷ [] else []) ≡ true
      go true ea b eb p ep f ef = not_twice (has_command plan c) (given c ea)
      go false ea true eb p ep true ef = not_once (has_command plan c) (no_further c ea eb ef)
      go false ea true eb p ep false ef = refl
      go false ea false eb true ep f ef = absurd (true≢false ep)
      go false ea false eb false ep f ef = refl

  before_fail : (e c : Command) → list_all fails (before_literals d routes (slice_with d routes plan last h upto v) e c) ≡ true
  before_fail e c = go (cone.has_pair (slice_with d routes plan last h upto v) e c) refl (is_free (slice_with d routes plan last h upto v) c) refl (is_train e.train c.train) refl (share (route_at routes e.route) (route_at routes c.route)) refl
    where
      listed_holds : cone.has_pair (slice_with d routes plan last h upto v) e c ≡ true → holds_of plan (Before e c) ≡ true
      listed_holds l =
          let out = listed_out d routes n plan last v h upto failed e c l in
          let abc = and_left (has_command plan e && has_command plan c && precedes routes plan e c) _ out in
          and_both _ _ (and_left (has_command plan e && has_command plan c) _ abc) (and_right (contend routes e c) _ (and_right (has_command plan e && has_command plan c) _ abc))

      unlisted_fails : cone.has_pair (slice_with d routes plan last h upto v) e c ≡ false → is_free (slice_with d routes plan last h upto v) c ≡ true → is_train e.train c.train ≡ false → share (route_at routes e.route) (route_at routes c.route) ≡ true → holds_of plan (Before e c) ≡ false
      unlisted_fails no_list free apart sharing = at (holds_of plan (Before e c)) refl
        where
          at : (x : Bool) → holds_of plan (Before e c) ≡ x → holds_of plan (Before e c) ≡ false
          at false k = k
          at true k =
              let has = and_left (has_command plan e) _ (and_left (has_command plan e && has_command plan c) _ k) in
              let before : precedes routes plan e c ≡ true = and_both _ _ (and_both _ _ (ap not apart) sharing) (and_right (has_command plan e && has_command plan c) _ k) in
              let l = precedes_listed d routes n plan last v h upto failed c.train c.route e (has_route_in (free_path (slice_with d routes plan last h upto v) c.train) c.route free) (in_filter (λ e. precedes routes plan e c) (commands plan) e (has_in plan e has) before) in
              absurd (true≢false (sym (listed_in d routes n plan last v h upto failed e c l) ∙ no_list))

      go : (a : Bool) → cone.has_pair (slice_with d routes plan last h upto v) e c ≡ a → (b : Bool) → is_free (slice_with d routes plan last h upto v) c ≡ b → (t : Bool) → is_train e.train c.train ≡ t → (s : Bool) → share (route_at routes e.route) (route_at routes c.route) ≡ s
          → list_all fails (if a then record { fact = Before e c; negated = true } ∷ [] else if b && (not t && s) then record { fact = Before e c; negated = false } ∷ [] else []) ≡ true
      go true ea b eb t et s es = not_twice (holds_of plan (Before e c)) (listed_holds ea)
      go false ea true eb false et true es = not_once (holds_of plan (Before e c)) (unlisted_fails ea eb et es)
      go false ea true eb false et false es = refl
      go false ea true eb true et s es = refl
      go false ea false eb t et s es = refl

  pub slice_denied : is_path_violation d routes (slice_with d routes plan last h upto v) v ≡ false → is_false_of plan (clause_of_cone d routes (slice_with d routes plan last h upto v)) ≡ true
  slice_denied not_path = all_append fails (flat_map (used_literals d routes (slice_with d routes plan last h upto v)) (all_commands d routes)) _
      (all_flat fails (used_literals d routes (slice_with d routes plan last h upto v)) (all_commands d routes) (used_fail not_path))
      (all_flat fails (λ e. flat_map (before_literals d routes (slice_with d routes plan last h upto v) e) (all_commands d routes)) (all_commands d routes) (λ e. all_flat fails (before_literals d routes (slice_with d routes plan last h upto v) e) (all_commands d routes) (before_fail e)))
