-- Words that are joined by spaces.
use Rattle.std.proofs.Common.{◌≡◌, ℕ, List, [], ◌∷◌, ◌++◌, append_assoc, append-nil, refl, sym, ap, ◌∙◌, map, flat_map, codes, decimal}
use Rattle.std.specs.List.{join_with_byte}
use Rattle.sat_clause.specs.declared.lit.Lit.{Lit}
use Rattle.rail_base.specs.declared.route.RouteNo.{RouteNo}
use Rattle.cone_spec.specs.declared.Cone.{Cone}
use Rattle.bound_spec.specs.declared.Origin.TheVariants as origins
use Rattle.bound_spec.specs.declared.Place.TheVariants as place
use Rattle.bound_spec.specs.declared.Leg.{Leg}
use Rattle.bound_spec.specs.declared.Bound.{Bound}
use Rattle.proof_log.specs.declared.line.Line.TheVariants.{Derive, Forget}
use Rattle.proof_log.specs.ConeText.{literal_word, route_word, list_words, train_words, pair_words, violation_words, cone_line_words}
use Rattle.proof_log.specs.BoundText.{requirement_words, origin_words, place_words, leg_words, bound_line_words}
use Rattle.proof_log.specs.Text.{text_of_line}
use Rattle.proof_log.specs.Writing.{spaced}

pub join-spaced : (word : List ℕ) (more : List (List ℕ)) → join_with_byte 32 (word ∷ more) ≡ word ++ spaced more
join-spaced word [] = sym (append-nil word)
join-spaced word (next ∷ more) = ap (λ t. word ++ (32 ∷ t)) (join-spaced next more)

pub spaced-append : (words more : List (List ℕ)) → spaced (words ++ more) ≡ spaced words ++ spaced more
spaced-append [] more = refl
spaced-append (word ∷ words) more = ap (λ t. 32 ∷ t) (ap (λ t. word ++ t) (spaced-append words more) ∙ sym (append_assoc word (spaced words) (spaced more)))

-- the text of a list that `0` ends
pub spaced-list : {X : Type 0} (word_of : X → List ℕ) (xs : List X) → spaced (list_words word_of xs) ≡ spaced (map word_of xs) ++ codes " 0"
spaced-list word_of xs = spaced-append (map word_of xs) (codes "0" ∷ [])

pub spaced-parts : {X : Type 0} (line_words : X → List (List ℕ)) (xs : List X) → spaced (flat_map line_words xs) ≡ flat_map (λ x. spaced (line_words x)) xs
spaced-parts line_words [] = refl
spaced-parts line_words (x ∷ xs) = spaced-append (line_words x) (flat_map line_words xs) ∙ ap (λ t. spaced (line_words x) ++ t) (spaced-parts line_words xs)

-- the text of a derive line, by its parts
pub text-parts : (clause : List Lit) (hints : List ℕ) → text_of_line (Derive clause hints) ≡ codes "d" ++ spaced (map literal_word clause) ++ codes " 0" ++ spaced (map decimal hints) ++ codes " 0"
text-parts clause hints =
    let literals : List (List ℕ) = map literal_word clause in
    let numbers : List (List ℕ) = map decimal hints in
    let end : List ℕ = codes " 0" in
    let from_literals : spaced (literals ++ codes "0" ∷ (numbers ++ codes "0" ∷ [])) ≡ spaced literals ++ (end ++ (spaced numbers ++ end)) =
    spaced-append literals _ ∙ ap (λ t. spaced literals ++ (end ++ t)) (spaced-append numbers (codes "0" ∷ [])) in
    let grouped : spaced literals ++ end ++ spaced numbers ++ end ≡ spaced literals ++ (end ++ (spaced numbers ++ end)) =
    append_assoc (spaced literals ++ end) (spaced numbers) end ∙ append_assoc (spaced literals) end (spaced numbers ++ end) in
    join-spaced (codes "d") _ ∙ ap (λ t. 100 ∷ t) (from_literals ∙ sym grouped)

-- the text of a forget line, by its parts
pub forget-parts : (clauses : List ℕ) → text_of_line (Forget clauses) ≡ codes "x" ++ spaced (map decimal clauses) ++ codes " 0"
forget-parts clauses = join-spaced (codes "x") _ ∙ ap (λ t. 120 ∷ t) (spaced-list decimal clauses)

-- the text of a cone, by its parts
pub cone-parts : (k : Cone) → spaced (cone_line_words k) ≡ spaced (violation_words k.violation) ++ flat_map (λ c. spaced (train_words c)) k.trains ++ flat_map (λ p. spaced (pair_words p)) k.pairs
cone-parts k =
    let violation : List ℕ = spaced (violation_words k.violation) in
    let trains : List ℕ = flat_map (λ c. spaced (train_words c)) k.trains in
    let pairs : List ℕ = flat_map (λ p. spaced (pair_words p)) k.pairs in
    let after : spaced (flat_map train_words k.trains ++ flat_map pair_words k.pairs) ≡ trains ++ pairs =
    spaced-append (flat_map train_words k.trains) (flat_map pair_words k.pairs) ∙ rw (spaced-parts train_words k.trains, spaced-parts pair_words k.pairs) refl in
    spaced-append (violation_words k.violation) _ ∙ ap (λ t. violation ++ t) after ∙ sym (append_assoc violation trains pairs)

-- the text of a place of some routes, by its parts
pub among-parts : (routes without : List RouteNo) → spaced (place_words (place.Among routes without)) ≡ codes " a" ++ spaced (list_words route_word routes) ++ spaced (list_words route_word without)
among-parts routes without = ap (λ t. codes " a" ++ t) (spaced-append (list_words route_word routes) (list_words route_word without))

-- the text of a leg, by its parts
pub leg-parts : (l : Leg) → spaced (leg_words l) ≡ spaced (codes "l" ∷ decimal l.train.0 ∷ []) ++ flat_map (λ p. spaced (place_words p)) l.places
leg-parts l = spaced-append (codes "l" ∷ decimal l.train.0 ∷ []) (flat_map place_words l.places) ∙ ap (λ t. spaced (codes "l" ∷ decimal l.train.0 ∷ []) ++ t) (spaced-parts place_words l.places)

-- the text of an origin with a cone, by its parts
pub origin-parts : (tick : ℕ) (k : Cone) → spaced (origin_words (origins.Cone tick k)) ≡ spaced (codes "cone" ∷ decimal tick ∷ []) ++ flat_map (λ c. spaced (train_words c)) k.trains ++ flat_map (λ p. spaced (pair_words p)) k.pairs
origin-parts tick k =
    let prefix : List (List ℕ) = codes "cone" ∷ decimal tick ∷ [] in
    let trains : List ℕ = flat_map (λ c. spaced (train_words c)) k.trains in
    let pairs : List ℕ = flat_map (λ p. spaced (pair_words p)) k.pairs in
    let after : spaced (flat_map train_words k.trains ++ flat_map pair_words k.pairs) ≡ trains ++ pairs =
    spaced-append (flat_map train_words k.trains) (flat_map pair_words k.pairs) ∙ rw (spaced-parts train_words k.trains, spaced-parts pair_words k.pairs) refl in
    spaced-append prefix (flat_map train_words k.trains ++ flat_map pair_words k.pairs) ∙ ap (λ t. spaced prefix ++ t) after ∙ sym (append_assoc (spaced prefix) trains pairs)

-- the text of a bound, by its parts
pub bound-parts : (b : Bound) → spaced (bound_line_words b) ≡ spaced (requirement_words b.requirement) ++ spaced (origin_words b.origin) ++ flat_map (λ l. spaced (leg_words l)) b.legs
bound-parts b =
    let wanted : List ℕ = spaced (requirement_words b.requirement) in
    let from : List ℕ = spaced (origin_words b.origin) in
    let legs : List ℕ = flat_map (λ l. spaced (leg_words l)) b.legs in
    let after : spaced (origin_words b.origin ++ flat_map leg_words b.legs) ≡ from ++ legs = spaced-append (origin_words b.origin) (flat_map leg_words b.legs) ∙ ap (λ t. from ++ t) (spaced-parts leg_words b.legs) in
    spaced-append (requirement_words b.requirement) _ ∙ ap (λ t. wanted ++ t) after ∙ sym (append_assoc wanted from legs)
