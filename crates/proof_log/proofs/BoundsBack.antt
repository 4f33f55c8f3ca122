-- The text of a bound is read as that bound.
use Rattle.std.proofs.Common.{◌≡◌, ℕ, zero, suc, ◌+◌, ◌≤◌, Bool, true, false, ◌&&◌, ◌==◌, nat_le, eqb-true, List, [], ◌∷◌, ◌++◌, length, flat_map, codes, decimal, Some, refl, ap, ◌∙◌, arith, lit<, append_assoc, append-nil, length-append}
use Rattle.std.specs.List.{list_all}
use Rattle.std.specs.Str.{bytes_eq}
use Rattle.rail_text.specs.Laws.{NumbersReadBack}
use Rattle.rail_base.specs.declared.plan.Command.{Command}
use Rattle.rail_base.specs.declared.route.RouteNo.{RouteNo}
use Rattle.bound_spec.specs.declared.Requirement.{Requirement}
use Rattle.bound_spec.specs.declared.Requirement.TheVariants as requirements
use Rattle.bound_spec.specs.declared.Origin.{Origin}
use Rattle.bound_spec.specs.declared.Origin.TheVariants as origins
use Rattle.bound_spec.specs.declared.Place.{Place}
use Rattle.bound_spec.specs.declared.Place.TheVariants as place
use Rattle.bound_spec.specs.declared.Leg.{Leg}
use Rattle.bound_spec.specs.declared.Bound.{Bound}
use Rattle.rail_base.specs.declared.station.TrainNo.{TrainNo}
use Rattle.rail_base.specs.declared.plan.Violation.{Violation}
use Rattle.rail_base.specs.declared.plan.Violation.TheVariants as violations
use Rattle.bound_spec.specs.Certificates.{violation_of}
use Rattle.proof_log.specs.Words.{greatest_variable, greatest_clause_number, is_small, plain_number_of, route_of, members_of}
use Rattle.proof_log.specs.Parts.{WithRest, made, has_member, parts_of, all_parts, small_number, train_path, cone_train, pair}
use Rattle.proof_log.specs.ConeText.{route_word, list_words, command_words, train_words, pair_words, keeps_path, keeps_train, keeps_pair}
use Rattle.proof_log.proofs.Written.{stops, none-back}
use Rattle.proof_log.proofs.Written as written_of_cones
use Rattle.proof_log.proofs.Back.{Back, first-back, next-back, all-back, small-read, numbers-read, pair-read, path-read, train-read, number-back, route-back, members-back}
use Rattle.proof_log.proofs.Back.{spaceless, decimal-spaceless, number-spaceless, small-spaceless, list-spaceless, append-spaceless, parts-spaceless, numbers-spaceless, train-spaceless, pair-spaceless}
use Rattle.proof_log.specs.Bounds.{route, granted, requirement, origin, among, place_of, parts_until, leg, bound}
use Rattle.proof_log.specs.BoundText.{requirement_words, origin_words, place_words, leg_words, bound_line_words, keeps_route, keeps_requirement, is_of, keeps_origin, keeps_place, keeps_leg, keeps_bound}
use Rattle.proof_log.proofs.BoundsGathering.{starts, none-until}
use Rattle.proof_log.proofs.BoundsWritten.{after_mark, place-some}
use Rattle.sat_clause.proofs.Sound.{both}

-- ---- parts up to a mark

until-back : {X : Type 0} (mark : List ℕ) (part : List ℕ → WithRest X) (write : X → List (List ℕ)) (good : X → Bool)
    → ((x : X) (rest : List (List ℕ)) (n : ℕ) → good x ≡ true → parts_until mark part (suc n) (write x ++ rest) ≡ made (λ xs. x ∷ xs) (parts_until mark part n rest))
    → (n : ℕ) (xs : List X) (rest : List (List ℕ)) → length xs ≤ n → starts mark rest ≡ true → list_all good xs ≡ true → parts_until mark part n (flat_map write xs ++ rest) ≡ Some (xs, rest)
until-back mark part write good step n [] rest le s h = none-until mark part n rest s
until-back mark part write good step zero (x ∷ xs) rest le s h = absurd (omega arith)
until-back {X} mark part write good step (suc n) (x ∷ xs) rest le s h =
    let p = both (good x) (list_all good xs) h in
    let after : List (List ℕ) = flat_map write xs in
    let later : parts_until mark part n (after ++ rest) ≡ Some (xs, rest) = until-back mark part write good step n xs rest (omega (arith, le)) s p.1 in
    ap (parts_until mark part (suc n)) (append_assoc (write x) after rest) ∙ step x (after ++ rest) n p.0 ∙ ap (made (λ ys. x ∷ ys)) later

enough : {X : Type 0} (write : X → List (List ℕ)) → ((x : X) → 1 ≤ length (write x)) → (xs : List X) (rest : List (List ℕ)) → length xs ≤ length (flat_map write xs ++ rest)
enough write some [] rest = omega arith
enough write some (x ∷ xs) rest =
    let after : List (List ℕ) = flat_map write xs in
    let one : length (write x ++ (after ++ rest)) ≡ length (write x) + length (after ++ rest) = length-append (write x) (after ++ rest) in
    let same : length ((write x ++ after) ++ rest) ≡ length (write x ++ (after ++ rest)) = ap length (append_assoc (write x) after rest) in
    let first : 1 ≤ length (write x) = some x in
    omega (arith, one, same, first, enough write some xs rest)

-- ---- the violation of a requirement

same-train : (t u : TrainNo) → t.0 ≡ u.0 → t ≡ u
same-train t u e = ap (λ n. record { 0 = n }) e

visit-is : (t u : TrainNo) (k l : ℕ) → ((t.0 == u.0) && (k == l)) ≡ true → violations.Visit t k ≡ violations.Visit u l
visit-is t u k l h =
    let p = both (t.0 == u.0) (k == l) h in
    rw (same-train t u (eqb-true t.0 u.0 p.0), eqb-true k l p.1) refl

grant-is : (t u : TrainNo) (l : ℕ) → ((t.0 == u.0) && (l == 1)) ≡ true → violations.Grant t 1 ≡ violations.Grant u l
grant-is t u l h =
    let p = both (t.0 == u.0) (l == 1) h in
    rw (same-train t u (eqb-true t.0 u.0 p.0), eqb-true l 1 p.1) refl

is-of : (q : Requirement) (v : Violation) → is_of q v ≡ true → violation_of q ≡ v
is-of (requirements.Within w) (violations.Within v) h = ap violations.Within (eqb-true w v h)
is-of (requirements.Within w) (violations.Path t k) h = absurd (cc)
is-of (requirements.Within w) (violations.Order o) h = absurd (cc)
is-of (requirements.Within w) (violations.Grant t k) h = absurd (cc)
is-of (requirements.Within w) (violations.Visit t k) h = absurd (cc)
is-of (requirements.Order o) (violations.Order v) h = ap violations.Order (eqb-true o v h)
is-of (requirements.Order o) (violations.Path t k) h = absurd (cc)
is-of (requirements.Order o) (violations.Within w) h = absurd (cc)
is-of (requirements.Order o) (violations.Grant t k) h = absurd (cc)
is-of (requirements.Order o) (violations.Visit t k) h = absurd (cc)
is-of (requirements.Visit t k) (violations.Visit u l) h = visit-is t u k l h
is-of (requirements.Visit t k) (violations.Path u l) h = absurd (cc)
is-of (requirements.Visit t k) (violations.Within w) h = absurd (cc)
is-of (requirements.Visit t k) (violations.Order o) h = absurd (cc)
is-of (requirements.Visit t k) (violations.Grant u l) h = absurd (cc)
is-of (requirements.Grant c) (violations.Grant u l) h = grant-is c.train u l h
is-of (requirements.Grant c) (violations.Path u l) h = absurd (cc)
is-of (requirements.Grant c) (violations.Within w) h = absurd (cc)
is-of (requirements.Grant c) (violations.Order o) h = absurd (cc)
is-of (requirements.Grant c) (violations.Visit u l) h = absurd (cc)

-- ---- what stands after an origin

legs-stop : (mark : List ℕ) → bytes_eq (codes "l") mark ≡ false → (ls : List Leg) → stops mark (flat_map leg_words ls) ≡ true
legs-stop mark other [] = refl
legs-stop mark other (l ∷ ls) = rw other refl

pairs-stop : (ps : List (Command × Command)) (ls : List Leg) → stops (codes "t") (flat_map pair_words ps ++ flat_map leg_words ls) ≡ true
pairs-stop [] ls = legs-stop (codes "t") refl ls
pairs-stop (p ∷ ps) ls = refl

legs-start : (ls : List Leg) → starts (codes "l") (flat_map leg_words ls) ≡ true
legs-start [] = refl
legs-start (l ∷ ls) = refl

module _ (back : NumbersReadBack) where
  route-read : Back (λ r. route_word r ∷ []) keeps_route route
  route-read = first-back route_of route_word keeps_route (route-back back)

  granted-read : Back (λ p. (decimal p.0 ∷ []) ++ (route_word p.1 ∷ [])) (λ p. is_small p.0 && keeps_route p.1) granted
  granted-read = next-back (λ n. decimal n ∷ []) is_small small_number (λ r. route_word r ∷ []) keeps_route route (small-read back) route-read

  requirement-read : Back requirement_words keeps_requirement requirement
  requirement-read (requirements.Within within) rest h = rw (small-read back within rest h) refl
  requirement-read (requirements.Order order) rest h = rw (small-read back order rest h) refl
  requirement-read (requirements.Visit train visit) rest h = rw (numbers-read back (train.0, visit) rest h) refl
  requirement-read (requirements.Grant c) rest h = rw (granted-read (c.train.0, c.route) rest h) refl

  origin-read : (q : Requirement) (o : Origin) (ls : List Leg) → keeps_origin q o ≡ true → origin q (origin_words o ++ flat_map leg_words ls) ≡ Some (o, flat_map leg_words ls)
  origin-read q origins.Visit ls h = refl
  origin-read q origins.Start ls h = refl
  origin-read q origins.FirstTick ls h = refl
  origin-read q (origins.Cone tick k) ls h =
      let t = both (nat_le tick greatest_clause_number) (is_of q k.violation && ((has_member k.trains && list_all keeps_train k.trains) && list_all keeps_pair k.pairs)) h in
      let a = both (is_of q k.violation) ((has_member k.trains && list_all keeps_train k.trains) && list_all keeps_pair k.pairs) t.1 in
      let b = both (has_member k.trains && list_all keeps_train k.trains) (list_all keeps_pair k.pairs) a.1 in
      let c = both (has_member k.trains) (list_all keeps_train k.trains) b.0 in
      let first : List (List ℕ) = flat_map train_words k.trains in
      let second : List (List ℕ) = flat_map pair_words k.pairs in
      let rest : List (List ℕ) = flat_map leg_words ls in
      let number : plain_number_of (decimal tick) ≡ Some tick = number-back back tick t.0 in
      let trains_back : all_parts (codes "t") cone_train ((first ++ second) ++ rest) ≡ Some (k.trains, second ++ rest) =
      ap (all_parts (codes "t") cone_train) (append_assoc first second rest) ∙ all-back (codes "t") cone_train written_of_cones.after_mark keeps_train (train-read back) k.trains (second ++ rest) (pairs-stop k.pairs ls) c.1 in
      let pairs_back : all_parts (codes "p") pair (second ++ rest) ≡ Some (k.pairs, rest) =
      all-back (codes "p") pair (λ p. command_words p.0 ++ command_words p.1) keeps_pair (pair-read back) k.pairs rest (legs-stop (codes "p") refl ls) b.1 in
      rw number (rw trains_back (rw c.0 (rw pairs_back (rw (is-of q k.violation a.0) refl))))

  routes-read : Back (list_words route_word) (list_all keeps_route) (members_of route_of)
  routes-read = members-back route_of route_word keeps_route refl (route-back back)

  among-read : Back (λ p. list_words route_word p.0 ++ list_words route_word p.1) (λ p. keeps_path p.0 && list_all keeps_route p.1) among
  among-read = next-back (list_words route_word) keeps_path train_path (list_words route_word) (list_all keeps_route) (members_of route_of) (path-read back) routes-read

  place-step : (p : Place) (rest : List (List ℕ)) (n : ℕ) → keeps_place p ≡ true → parts_until (codes "l") place_of (suc n) (place_words p ++ rest) ≡ made (λ ps. p ∷ ps) (parts_until (codes "l") place_of n rest)
  place-step (place.Named r) rest n h = rw (route-read r rest h) refl
  place-step (place.Among rs ws) rest n h = rw (among-read (rs, ws) rest h) refl

  leg-read : (l : Leg) (rest : List (List ℕ)) → starts (codes "l") rest ≡ true → keeps_leg l ≡ true → leg (after_mark l ++ rest) ≡ Some (l, rest)
  leg-read l rest s h =
      let a = both (is_small l.train.0) (has_member l.places && list_all keeps_place l.places) h in
      let b = both (has_member l.places) (list_all keeps_place l.places) a.1 in
      let words : List (List ℕ) = flat_map place_words l.places ++ rest in
      let number : small_number (decimal l.train.0 ∷ words) ≡ Some (l.train.0, words) = small-read back l.train.0 words a.0 in
      let found : parts_until (codes "l") place_of (length words) words ≡ Some (l.places, rest) = until-back (codes "l") place_of place_words keeps_place place-step (length words) l.places rest (enough place_words place-some l.places rest) s b.1 in
      rw number (rw found (rw b.0 refl))

  legs-read : (n : ℕ) (ls : List Leg) → length ls ≤ n → list_all keeps_leg ls ≡ true → parts_of (codes "l") leg n (flat_map leg_words ls) ≡ Some (ls, [])
  legs-read n [] le h = none-back (codes "l") leg n [] refl
  legs-read zero (l ∷ ls) le h = absurd (omega arith)
  legs-read (suc n) (l ∷ ls) le h =
      let p = both (keeps_leg l) (list_all keeps_leg ls) h in
      let found : leg (after_mark l ++ flat_map leg_words ls) ≡ Some (l, flat_map leg_words ls) = leg-read l (flat_map leg_words ls) (legs-start ls) p.0 in
      let later : parts_of (codes "l") leg n (flat_map leg_words ls) ≡ Some (ls, []) = legs-read n ls (omega (arith, le)) p.1 in
      rw found (rw later refl)

  legs-few : (ls : List Leg) → length ls ≤ length (flat_map leg_words ls)
  legs-few ls =
      let same : length (flat_map leg_words ls ++ []) ≡ length (flat_map leg_words ls) = ap length (append-nil (flat_map leg_words ls)) in
      omega (arith, same, enough leg_words (λ l. omega arith) ls [])

  pub bound-read : (b : Bound) → keeps_bound b ≡ true → bound (bound_line_words b) ≡ Some (b, [])
  bound-read b h =
      let p = both (keeps_requirement b.requirement) (keeps_origin b.requirement b.origin && (has_member b.legs && list_all keeps_leg b.legs)) h in
      let q = both (keeps_origin b.requirement b.origin) (has_member b.legs && list_all keeps_leg b.legs) p.1 in
      let r = both (has_member b.legs) (list_all keeps_leg b.legs) q.1 in
      let rest : List (List ℕ) = flat_map leg_words b.legs in
      let wanted : requirement (requirement_words b.requirement ++ (origin_words b.origin ++ rest)) ≡ Some (b.requirement, origin_words b.origin ++ rest) = requirement-read b.requirement (origin_words b.origin ++ rest) p.0 in
      let from : origin b.requirement (origin_words b.origin ++ rest) ≡ Some (b.origin, rest) = origin-read b.requirement b.origin b.legs q.0 in
      let after : parts_of (codes "l") leg (length rest) rest ≡ Some (b.legs, []) = legs-read (length rest) b.legs (legs-few b.legs) r.1 in
      rw wanted (rw from (rw after (rw r.0 refl)))

-- ---- words between spaces

route-spaceless : (r : RouteNo) → keeps_route r ≡ true → spaceless (route_word r) ≡ true
route-spaceless r h = decimal-spaceless greatest_variable r.0 (lit< tt) h

requirement-spaceless : (q : Requirement) → keeps_requirement q ≡ true → list_all spaceless (requirement_words q) ≡ true
requirement-spaceless (requirements.Within within) h = rw (small-spaceless within h) refl
requirement-spaceless (requirements.Order order) h = rw (small-spaceless order h) refl
requirement-spaceless (requirements.Visit train visit) h = numbers-spaceless train.0 visit h
requirement-spaceless (requirements.Grant c) h =
    let p = both (is_small c.train.0) (keeps_route c.route) h in
    rw (small-spaceless c.train.0 p.0, route-spaceless c.route p.1) refl

origin-spaceless : (q : Requirement) (o : Origin) → keeps_origin q o ≡ true → list_all spaceless (origin_words o) ≡ true
origin-spaceless q origins.Visit h = refl
origin-spaceless q origins.Start h = refl
origin-spaceless q origins.FirstTick h = refl
origin-spaceless q (origins.Cone tick k) h =
    let t = both (nat_le tick greatest_clause_number) (is_of q k.violation && ((has_member k.trains && list_all keeps_train k.trains) && list_all keeps_pair k.pairs)) h in
    let a = both (is_of q k.violation) ((has_member k.trains && list_all keeps_train k.trains) && list_all keeps_pair k.pairs) t.1 in
    let b = both (has_member k.trains && list_all keeps_train k.trains) (list_all keeps_pair k.pairs) a.1 in
    let c = both (has_member k.trains) (list_all keeps_train k.trains) b.0 in
    let first : list_all spaceless (flat_map train_words k.trains) ≡ true = parts-spaceless train_words keeps_train train-spaceless k.trains c.1 in
    let second : list_all spaceless (flat_map pair_words k.pairs) ≡ true = parts-spaceless pair_words keeps_pair pair-spaceless k.pairs b.1 in
    rw (number-spaceless tick t.0) (append-spaceless (flat_map train_words k.trains) (flat_map pair_words k.pairs) first second)

place-spaceless : (p : Place) → keeps_place p ≡ true → list_all spaceless (place_words p) ≡ true
place-spaceless (place.Named r) h = rw (route-spaceless r h) refl
place-spaceless (place.Among rs ws) h =
    let a = both (keeps_path rs) (list_all keeps_route ws) h in
    let b = both (has_member rs) (list_all keeps_route rs) a.0 in
    append-spaceless (list_words route_word rs) (list_words route_word ws) (list-spaceless route_word keeps_route route-spaceless rs b.1) (list-spaceless route_word keeps_route route-spaceless ws a.1)

leg-spaceless : (l : Leg) → keeps_leg l ≡ true → list_all spaceless (leg_words l) ≡ true
leg-spaceless l h =
    let a = both (is_small l.train.0) (has_member l.places && list_all keeps_place l.places) h in
    let b = both (has_member l.places) (list_all keeps_place l.places) a.1 in
    rw (small-spaceless l.train.0 a.0) (parts-spaceless place_words keeps_place place-spaceless l.places b.1)

pub bound-spaceless : (b : Bound) → keeps_bound b ≡ true → list_all spaceless (bound_line_words b) ≡ true
bound-spaceless b h =
    let p = both (keeps_requirement b.requirement) (keeps_origin b.requirement b.origin && (has_member b.legs && list_all keeps_leg b.legs)) h in
    let q = both (keeps_origin b.requirement b.origin) (has_member b.legs && list_all keeps_leg b.legs) p.1 in
    let r = both (has_member b.legs) (list_all keeps_leg b.legs) q.1 in
    let after : list_all spaceless (origin_words b.origin ++ flat_map leg_words b.legs) ≡ true =
    append-spaceless (origin_words b.origin) (flat_map leg_words b.legs) (origin-spaceless b.requirement b.origin q.0) (parts-spaceless leg_words keeps_leg leg-spaceless b.legs r.1) in
    append-spaceless (requirement_words b.requirement) (origin_words b.origin ++ flat_map leg_words b.legs) (requirement-spaceless b.requirement p.0) after
