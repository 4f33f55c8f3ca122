-- What is read of a bound from words on has those words as its text.
use Rattle.std.proofs.Common.{◌≡◌, ℕ, zero, suc, ◌+◌, ◌≤◌, Bool, true, false, cond, ◌&&◌, nat_le, List, [], ◌∷◌, ◌++◌, append_assoc, length, flat_map, codes, decimal, Option, Some, None, refl, sym, ap, ◌∙◌, arith, length-append}
use Rattle.std.specs.List.{list_all}
use Rattle.std.specs.Str.{bytes_eq}
use Rattle.std.proofs.lemmas.Bool.{eq-eqb}
use Rattle.rail_base.specs.declared.plan.Command.{Command}
use Rattle.rail_base.specs.declared.route.RouteNo.{RouteNo}
use Rattle.cone_spec.specs.declared.ConeTrain.{ConeTrain}
use Rattle.bound_spec.specs.declared.Requirement.{Requirement}
use Rattle.bound_spec.specs.declared.Requirement.TheVariants as requirements
use Rattle.bound_spec.specs.declared.Origin.TheVariants as origins
use Rattle.bound_spec.specs.declared.Place.{Place}
use Rattle.bound_spec.specs.declared.Place.TheVariants as place
use Rattle.bound_spec.specs.declared.Leg.{Leg}
use Rattle.bound_spec.specs.Certificates.{violation_of}
use Rattle.proof_log.specs.Words.{greatest_clause_number, is_small, plain_number_of, route_of, members_of}
use Rattle.proof_log.specs.Parts.{WithRest, made, with_next, first_of, has_member, part_before, small_number, two_numbers, train_path, some_cone_trains, cone_pairs}
use Rattle.proof_log.specs.ConeText.{route_word, list_words, train_words, pair_words, keeps_path, keeps_train, keeps_pair}
use Rattle.proof_log.proofs.Parsed.{plain-parsed, route-parsed, members-parsed}
use Rattle.proof_log.proofs.Written.{IsWritten, some-told, none-told, both, made-told, behind-told, next-told, first-told, any-told, parts-told, small-told, numbers_words, keeps_numbers, numbers-told, choose, named-told, path-told, trains-told, pairs-told}
use Rattle.proof_log.specs.Bounds.{route, visit_by, grant_by, granted, requirement_of, requirement, cone_by, cone_parts, origin_of, origin, among_by, among, place_of, parts_until, places, some_places, leg_by, leg, legs, some_legs, bound_by, bound_after, bound}
use Rattle.proof_log.specs.BoundText.{requirement_words, origin_words, place_words, leg_words, bound_line_words, keeps_route, keeps_requirement, is_of, keeps_origin, keeps_place, keeps_leg, keeps_bound}

-- ---- the requirement

route-told : (words : List (List ℕ)) → IsWritten (λ r. route_word r ∷ []) keeps_route words (route words)
route-told words = first-told route_of route_word keeps_route route-parsed words

-- the words of a train and a route
abbrev granted_words : ℕ × RouteNo → List (List ℕ)
granted_words p = (decimal p.0 ∷ []) ++ (route_word p.1 ∷ [])

abbrev keeps_granted : ℕ × RouteNo → Bool
keeps_granted p = is_small p.0 && keeps_route p.1

granted-told : (words : List (List ℕ)) → IsWritten granted_words keeps_granted words (granted words)
granted-told words = next-told (λ n. decimal n ∷ []) is_small (λ r. route_word r ∷ []) keeps_route route route-told words (small_number words) (small-told words)

requirement_of-told : (kind : List ℕ) (more : List (List ℕ)) → IsWritten requirement_words keeps_requirement (kind ∷ more) (requirement_of kind more)
requirement_of-told kind more found e =
    choose kind (codes "within") (made requirements.Within (small_number more)) _ found
    (λ n. named-told (codes "within") requirements.Within (λ x. decimal x ∷ []) is_small requirement_words keeps_requirement (λ x. refl) (λ x h. h) kind more (small_number more) (small-told more) n found)
    (choose kind (codes "order") (made requirements.Order (small_number more)) _ found
    (λ n. named-told (codes "order") requirements.Order (λ x. decimal x ∷ []) is_small requirement_words keeps_requirement (λ x. refl) (λ x h. h) kind more (small_number more) (small-told more) n found)
    (choose kind (codes "visit") (made visit_by (two_numbers more)) _ found
    (λ n. named-told (codes "visit") visit_by numbers_words keeps_numbers requirement_words keeps_requirement (λ x. refl) (λ x h. h) kind more (two_numbers more) (numbers-told more) n found)
    (choose kind (codes "grant") (made grant_by (granted more)) None found
    (λ n. named-told (codes "grant") grant_by granted_words keeps_granted requirement_words keeps_requirement (λ x. refl) (λ x h. h) kind more (granted more) (granted-told more) n found)
    (λ none. absurd (cc)) (bytes_eq kind (codes "grant")) refl)
    (bytes_eq kind (codes "visit")) refl)
    (bytes_eq kind (codes "order")) refl)
    (bytes_eq kind (codes "within")) refl e

requirement-told : (words : List (List ℕ)) → IsWritten requirement_words keeps_requirement words (requirement words)
requirement-told [] = none-told requirement_words keeps_requirement []
requirement-told (kind ∷ more) = requirement_of-told kind more

-- ---- the origin

-- the trains and pairs of a cone
abbrev Both : Type 0
Both = List ConeTrain × List (Command × Command)

abbrev both_words : Both → List (List ℕ)
both_words p = flat_map train_words p.0 ++ flat_map pair_words p.1

abbrev keeps_both : Both → Bool
keeps_both p = (has_member p.0 && list_all keeps_train p.0) && list_all keeps_pair p.1

both-told : (words : List (List ℕ)) → IsWritten both_words keeps_both words (with_next (some_cone_trains words) cone_pairs)
both-told words = next-told (flat_map train_words) (λ cs. has_member cs && list_all keeps_train cs) (flat_map pair_words) (list_all keeps_pair) cone_pairs pairs-told words (some_cone_trains words) (trains-told words)

abbrev cone_line_words : ℕ × Both → List (List ℕ)
cone_line_words p = (decimal p.0 ∷ []) ++ both_words p.1

abbrev keeps_cone : ℕ × Both → Bool
keeps_cone p = nat_le p.0 greatest_clause_number && keeps_both p.1

cone-told : (words : List (List ℕ)) → IsWritten cone_line_words keeps_cone words (cone_parts words)
cone-told words =
    next-told (λ n. decimal n ∷ []) (λ n. nat_le n greatest_clause_number) both_words keeps_both (λ w. with_next (some_cone_trains w) cone_pairs) both-told
    words (first_of plain_number_of words) (first-told plain_number_of decimal (λ n. nat_le n greatest_clause_number) plain-parsed words)

-- the violation of a requirement is of it
is-own : (q : Requirement) → is_of q (violation_of q) ≡ true
is-own (requirements.Within within) = eq-eqb within within refl
is-own (requirements.Order order) = eq-eqb order order refl
is-own (requirements.Visit train visit) = rw (eq-eqb train.0 train.0 refl, eq-eqb visit visit refl) refl
is-own (requirements.Grant c) = rw (eq-eqb c.train.0 c.train.0 refl) refl

cone-keeps : (q : Requirement) (p : ℕ × Both) → keeps_cone p ≡ true → keeps_origin q (cone_by q p) ≡ true
cone-keeps q p h = rw (is-own q) h

origin_of-told : (q : Requirement) (kind : List ℕ) (more : List (List ℕ)) → IsWritten origin_words (keeps_origin q) (kind ∷ more) (origin_of q kind more)
origin_of-told q kind more found e =
    choose kind (codes "from") (Some (origins.Visit, more)) _ found (λ n. some-told origin_words (keeps_origin q) (kind ∷ more) origins.Visit more (ap (λ k. k ∷ more) n, refl) found)
    (choose kind (codes "zero") (Some (origins.Start, more)) _ found (λ n. some-told origin_words (keeps_origin q) (kind ∷ more) origins.Start more (ap (λ k. k ∷ more) n, refl) found)
    (choose kind (codes "one") (Some (origins.FirstTick, more)) _ found (λ n. some-told origin_words (keeps_origin q) (kind ∷ more) origins.FirstTick more (ap (λ k. k ∷ more) n, refl) found)
    (choose kind (codes "cone") (made (cone_by q) (cone_parts more)) None found
    (λ n. named-told (codes "cone") (cone_by q) cone_line_words keeps_cone origin_words (keeps_origin q) (λ x. refl) (cone-keeps q) kind more (cone_parts more) (cone-told more) n found)
    (λ none. absurd (cc)) (bytes_eq kind (codes "cone")) refl)
    (bytes_eq kind (codes "one")) refl)
    (bytes_eq kind (codes "zero")) refl)
    (bytes_eq kind (codes "from")) refl e

origin-told : (q : Requirement) (words : List (List ℕ)) → IsWritten origin_words (keeps_origin q) words (origin q words)
origin-told q [] = none-told origin_words (keeps_origin q) []
origin-told q (kind ∷ more) = origin_of-told q kind more

-- ---- legs

routes-told : (words : List (List ℕ)) → IsWritten (list_words route_word) (list_all keeps_route) words (members_of route_of words)
routes-told words = members-parsed route_of route_word keeps_route route-parsed words

abbrev among_words : List RouteNo × List RouteNo → List (List ℕ)
among_words p = list_words route_word p.0 ++ list_words route_word p.1

abbrev keeps_among : List RouteNo × List RouteNo → Bool
keeps_among p = keeps_path p.0 && list_all keeps_route p.1

among-told : (words : List (List ℕ)) → IsWritten among_words keeps_among words (among words)
among-told words = next-told (list_words route_word) keeps_path (list_words route_word) (list_all keeps_route) (members_of route_of) routes-told words (train_path words) (path-told words)

pub place-told : (kind : List ℕ) (more : List (List ℕ)) → IsWritten place_words keeps_place (kind ∷ more) (place_of kind more)
place-told kind more found e =
    choose kind (codes "n") (made place.Named (route more)) _ found
    (λ n. named-told (codes "n") place.Named (λ r. route_word r ∷ []) keeps_route place_words keeps_place (λ x. refl) (λ x h. h) kind more (route more) (route-told more) n found)
    (choose kind (codes "a") (made among_by (among more)) None found
    (λ n. named-told (codes "a") among_by among_words keeps_among place_words keeps_place (λ x. refl) (λ x h. h) kind more (among more) (among-told more) n found)
    (λ none. absurd (cc)) (bytes_eq kind (codes "a")) refl)
    (bytes_eq kind (codes "n")) refl e

pub place-some : (p : Place) → 1 ≤ length (place_words p)
place-some (place.Named r) = omega arith
place-some (place.Among rs ws) = omega arith

-- a place leaves fewer words than it was read from
pub place-shorter : (kind : List ℕ) (more : List (List ℕ)) (p : Place) (after : List (List ℕ)) → place_of kind more ≡ Some (p, after) → length after ≤ length more
place-shorter kind more p after e =
    let t = place-told kind more (p, after) e in
    let sizes : suc (length more) ≡ length (place_words p) + length after = ap length t.0 ∙ length-append (place_words p) after in
    let some : 1 ≤ length (place_words p) = place-some p in
    omega (arith, sizes, some)

before-told : {X : Type 0} (write : X → List (List ℕ)) (good : X → Bool) (words : List (List ℕ)) (o : Option (X × List (List ℕ))) (next : WithRest (List X)) → IsWritten write good words o
    → ((w : List (List ℕ)) → IsWritten (flat_map write) (list_all good) w (next w)) → IsWritten (flat_map write) (list_all good) words (part_before o next)
before-told write good words None next told after = none-told (flat_map write) (list_all good) words
before-told {X} write good words (Some f) next told after = go (next f.1) (after f.1) where
  go : (o : Option (List X × List (List ℕ))) → IsWritten (flat_map write) (list_all good) f.1 o → IsWritten (flat_map write) (list_all good) words (made (λ xs. f.0 ∷ xs) o)
  go None later = none-told (flat_map write) (list_all good) words
  go (Some g) later =
      let t = told f refl in
      let s = later g refl in
      some-told (flat_map write) (list_all good) words (f.0 ∷ g.0) g.1
      (t.0 ∙ ap (λ l. write f.0 ++ l) s.0 ∙ sym (append_assoc (write f.0) (flat_map write g.0) g.1), both (good f.0) (list_all good g.0) t.1 s.1)

until-told : {X : Type 0} (mark : List ℕ) (part : List ℕ → WithRest X) (write : X → List (List ℕ)) (good : X → Bool) → ((word : List ℕ) (more : List (List ℕ)) → IsWritten write good (word ∷ more) (part word more))
    → (n : ℕ) (words : List (List ℕ)) → IsWritten (flat_map write) (list_all good) words (parts_until mark part n words)
until-told mark part write good each zero words = some-told (flat_map write) (list_all good) words [] words (refl, refl)
until-told mark part write good each (suc n) [] = some-told (flat_map write) (list_all good) [] [] [] (refl, refl)
until-told {X} mark part write good each (suc n) (word ∷ more) = go (λ w. until-told mark part write good each n w) (bytes_eq word mark) where
  go : ((w : List (List ℕ)) → IsWritten (flat_map write) (list_all good) w (parts_until mark part n w)) → (b : Bool) → IsWritten (flat_map write) (list_all good) (word ∷ more) (cond b (Some ([], word ∷ more)) (part_before (part word more) (λ w. parts_until mark part n w)))
  go later true = some-told (flat_map write) (list_all good) (word ∷ more) [] (word ∷ more) (refl, refl)
  go later false = before-told write good (word ∷ more) (part word more) (λ w. parts_until mark part n w) (each word more) later

abbrev keeps_places : List Place → Bool
keeps_places ps = has_member ps && list_all keeps_place ps

places-told : (words : List (List ℕ)) → IsWritten (flat_map place_words) keeps_places words (some_places words)
places-told words = any-told (flat_map place_words) (list_all keeps_place) words (places words) (until-told (codes "l") place_of place_words keeps_place place-told (length words) words)

-- the words of a leg after the word `l`
abbrev pub after_mark : Leg → List (List ℕ)
after_mark l = decimal l.train.0 ∷ flat_map place_words l.places

pub leg-told : (words : List (List ℕ)) → IsWritten after_mark keeps_leg words (leg words)
leg-told words =
    made-told leg_by (λ p. (decimal p.0 ∷ []) ++ flat_map place_words p.1) (λ p. is_small p.0 && keeps_places p.1) after_mark keeps_leg (λ p h. (refl, h)) words (with_next (small_number words) some_places)
    (next-told (λ n. decimal n ∷ []) is_small (flat_map place_words) keeps_places some_places places-told words (small_number words) (small-told words))

abbrev keeps_legs : List Leg → Bool
keeps_legs ls = has_member ls && list_all keeps_leg ls

legs-told : (words : List (List ℕ)) → IsWritten (flat_map leg_words) keeps_legs words (some_legs words)
legs-told words = any-told (flat_map leg_words) (list_all keeps_leg) words (legs words) (parts-told (codes "l") leg after_mark keeps_leg leg-told (length words) words)

-- ---- the bound

after-told : (words : List (List ℕ)) (o : Option (Requirement × List (List ℕ))) → IsWritten requirement_words keeps_requirement words o → IsWritten bound_line_words keeps_bound words (bound_after o)
after-told words None told = none-told bound_line_words keeps_bound words
after-told words (Some (q, left)) told =
    let t = told (q, left) refl in
    behind-told (bound_by q) (requirement_words q) (λ p. origin_words p.0 ++ flat_map leg_words p.1) (λ p. keeps_origin q p.0 && keeps_legs p.1) bound_line_words keeps_bound (λ p. refl)
    (λ p h. both (keeps_requirement q) (keeps_origin q p.0 && keeps_legs p.1) t.1 h) words left (with_next (origin q left) some_legs) t.0
    (next-told origin_words (keeps_origin q) (flat_map leg_words) keeps_legs some_legs legs-told left (origin q left) (origin-told q left))

pub bound-told : (words : List (List ℕ)) → IsWritten bound_line_words keeps_bound words (bound words)
bound-told words = after-told words (requirement words) (requirement-told words)
