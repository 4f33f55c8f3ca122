-- The lines of a text that is written line by line.
use Rattle.std.proofs.Common.{◌≡◌, ℕ, ◌+◌, ◌<◌, ◌^◌, Bool, true, false, not, ◌&&◌, List, [], ◌∷◌, ◌++◌, length, map, flat_map, nat_le, Option, Some, None, codes, decimal, refl, ap, ◌∙◌, arith, lit<, append_assoc}
use Rattle.std.specs.List.{list_all, slice_split, onto_first, join_with_byte}
use Rattle.std.specs.Char.{is_ascii_digit}
use Rattle.std.proofs.lemmas.Fmt.{digits_decimal}
use Rattle.std.proofs.lemmas.List.Folds.{list_all-append}
use Rattle.std.proofs.lemmas.List.Splits.{length-slice_split}
use Rattle.std.proofs.lemmas.Bool.Decides.{nat_tests}
use Rattle.rail_text.specs.Pieces.{is_lf, pieces_of_parts, pieces_from}
use Rattle.rail_base.specs.declared.plan.Command.{Command}
use Rattle.rail_base.specs.declared.plan.Violation.{Violation}
use Rattle.rail_base.specs.declared.plan.Violation.TheVariants.{Path, Within, Order, Grant, Visit}
use Rattle.cone_spec.specs.declared.Cone.{Cone}
use Rattle.cone_spec.specs.declared.ConeTrain.{ConeTrain}
use Rattle.sat_clause.specs.declared.lit.Lit.{Lit}
use Rattle.rail_base.specs.declared.route.RouteNo.{RouteNo}
use Rattle.bound_spec.specs.declared.Requirement.{Requirement}
use Rattle.bound_spec.specs.declared.Requirement.TheVariants as requirements
use Rattle.bound_spec.specs.declared.Origin.{Origin}
use Rattle.bound_spec.specs.declared.Origin.TheVariants as origins
use Rattle.bound_spec.specs.declared.Place.{Place}
use Rattle.bound_spec.specs.declared.Place.TheVariants as places
use Rattle.bound_spec.specs.declared.Leg.{Leg}
use Rattle.bound_spec.specs.declared.Bound.{Bound}
use Rattle.bound_spec.specs.declared.Evidence.{Evidence}
use Rattle.bound_spec.specs.declared.Evidence.TheVariants as evidence
use Rattle.proof_log.specs.declared.head.Head.{Head}
use Rattle.proof_log.specs.declared.head.Head.TheVariants as heads
use Rattle.clause_spec.specs.declared.question.BaseKind.{BaseKind}
use Rattle.clause_spec.specs.declared.question.BaseKind.TheVariants.{Plain, Sorted, Normal, Live}
use Rattle.clause_spec.specs.declared.question.Turns.TheVariants.{All, Beside}
use Rattle.proof_log.specs.Heads.{asked_by, head_text, keeps_head}
use Rattle.proof_log.specs.BoundText.{requirement_words, origin_words, place_words, leg_words, bound_line_words, is_of, keeps_route, keeps_requirement, keeps_origin, keeps_place, keeps_leg, keeps_bound}
use Rattle.sat_core.specs.Texts.{ended}
use Rattle.proof_log.specs.declared.line.Line.TheVariants.{Derive, Refute, Forget}
use Rattle.proof_log.specs.Words.{greatest_variable, greatest_clause_number, is_from_1_to, is_small, is_plain}
use Rattle.proof_log.specs.Parts.{has_member, is_nothing}
use Rattle.proof_log.specs.Lines.{is_increasing}
use Rattle.proof_log.specs.ConeText.{literal_word, route_word, list_words, command_words, violation_words, holder_words, train_words, pair_words, cone_line_words, keeps_command, keeps_violation, keeps_holder, keeps_path, keeps_train, keeps_pair, keeps_cone}
use Rattle.proof_log.specs.Text.{text_of_line, keeps_grammar}
use Rattle.sat_clause.proofs.Sound.{both}
use Rattle.rail_text.proofs.Numerals.{own}
use Rattle.proof_log.proofs.Back.{not-true}

-- no LF is in the bytes
abbrev pub is_one_line : List ℕ → Bool
is_one_line bytes = list_all (λ byte. not (is_lf byte)) bytes

split-at : (line rest : List ℕ) → is_one_line line ≡ true → slice_split is_lf (line ++ 10 ∷ rest) ≡ line ∷ slice_split is_lf rest
split-at [] rest h = refl
split-at (x ∷ xs) rest h =
    let p = both (not (is_lf x)) (is_one_line xs) h in
    rw (not-true (is_lf x) p.0) (ap (onto_first x) (split-at xs rest p.1))

part-first : (place : ℕ) (part : List ℕ) (parts : List (List ℕ)) → 0 < length parts → pieces_of_parts place (part ∷ parts) ≡ record { line = place; ended = true; bytes = part } ∷ pieces_of_parts (place + 1) parts
part-first place part [] some = absurd (omega arith)
part-first place part (next ∷ more) some = refl

-- a line with its end is the first piece of what begins with it
pub first-piece : (place : ℕ) (line rest : List ℕ) → is_one_line line ≡ true
    → pieces_from place (ended line ++ rest) ≡ record { line = place; ended = true; bytes = line } ∷ pieces_from (place + 1) rest
first-piece place line rest h =
    let some : 0 < length (slice_split is_lf rest) = omega (arith, length-slice_split is_lf rest) in
    ap (pieces_from place) (append_assoc line (10 ∷ []) rest)
    ∙ ap (pieces_of_parts place) (split-at line rest h)
    ∙ part-first place line (slice_split is_lf rest) some

-- ---- the line of a derived clause is one line

digit-apart : (byte : ℕ) → is_ascii_digit byte ≡ true → not (is_lf byte) ≡ true
digit-apart byte h = grind (arith, nat_tests)

digits-apart : (digits : List ℕ) → list_all is_ascii_digit digits ≡ true → is_one_line digits ≡ true
digits-apart [] h = refl
digits-apart (x ∷ xs) h =
    let p = both (is_ascii_digit x) (list_all is_ascii_digit xs) h in
    rw (digit-apart x p.0, digits-apart xs p.1) refl

decimal-apart : (number : ℕ) → number < 2 ^ 64 → is_one_line (decimal number) ≡ true
decimal-apart number fits = digits-apart (decimal number) (digits_decimal own number fits)

up-to : (greatest number : ℕ) → greatest < 2 ^ 64 → nat_le number greatest ≡ true → is_one_line (decimal number) ≡ true
up-to greatest number most h = decimal-apart number (below greatest number most h)
  where
    below : (greatest number : ℕ) → greatest < 2 ^ 64 → nat_le number greatest ≡ true → number < 2 ^ 64
    below greatest number most h = grind (arith, nat_tests)

from-1 : (greatest number : ℕ) → greatest < 2 ^ 64 → is_from_1_to greatest number ≡ true → is_one_line (decimal number) ≡ true
from-1 greatest number most h = up-to greatest number most (both (nat_le 1 number) (nat_le number greatest) h).1

small-apart : (number : ℕ) → is_small number ≡ true → is_one_line (decimal number) ≡ true
small-apart number h = up-to greatest_variable number (lit< tt) h

plain-apart : (number : ℕ) → is_plain number ≡ true → is_one_line (decimal number) ≡ true
plain-apart number h = up-to greatest_clause_number number (lit< tt) h

literal-apart : (var : ℕ) (negated : Bool) → is_from_1_to greatest_variable var ≡ true → is_one_line (literal_word (record { var = var; negated = negated })) ≡ true
literal-apart var true h = from-1 greatest_variable var (lit< tt) h
literal-apart var false h = from-1 greatest_variable var (lit< tt) h

all-words : {X : Type 0} (word_of : X → List ℕ) (good : X → Bool) → ((x : X) → good x ≡ true → is_one_line (word_of x) ≡ true) → (xs : List X) → list_all good xs ≡ true → list_all is_one_line (map word_of xs) ≡ true
all-words word_of good each [] h = refl
all-words word_of good each (x ∷ xs) h =
    let p = both (good x) (list_all good xs) h in
    rw (each x p.0, all-words word_of good each xs p.1) refl

append-apart : (words more : List (List ℕ)) → list_all is_one_line words ≡ true → list_all is_one_line more ≡ true → list_all is_one_line (words ++ more) ≡ true
append-apart words more h g = list_all-append is_one_line words more ∙ rw (h, g) refl

list-apart : {X : Type 0} (word_of : X → List ℕ) (good : X → Bool) → ((x : X) → good x ≡ true → is_one_line (word_of x) ≡ true) → (xs : List X) → list_all good xs ≡ true → list_all is_one_line (list_words word_of xs) ≡ true
list-apart word_of good each xs h = append-apart (map word_of xs) (codes "0" ∷ []) (all-words word_of good each xs h) refl

parts-apart : {X : Type 0} (write : X → List (List ℕ)) (good : X → Bool) → ((x : X) → good x ≡ true → list_all is_one_line (write x) ≡ true) → (xs : List X) → list_all good xs ≡ true → list_all is_one_line (flat_map write xs) ≡ true
parts-apart write good each [] h = refl
parts-apart write good each (x ∷ xs) h =
    let p = both (good x) (list_all good xs) h in
    append-apart (write x) (flat_map write xs) (each x p.0) (parts-apart write good each xs p.1)

joined : (word : List ℕ) (more : List (List ℕ)) → is_one_line word ≡ true → list_all is_one_line more ≡ true → is_one_line (join_with_byte 32 (word ∷ more)) ≡ true
joined word [] h rest = h
joined word (next ∷ more) h rest =
    let p = both (is_one_line next) (list_all is_one_line more) rest in
    list_all-append (λ byte. not (is_lf byte)) word (32 ∷ join_with_byte 32 (next ∷ more)) ∙ rw (h, joined next more p.0 p.1) refl

pub line-apart : (clause : List Lit) (hints : List ℕ) → keeps_grammar (Derive clause hints) ≡ true → is_one_line (text_of_line (Derive clause hints)) ≡ true
line-apart clause hints h =
    let p = both (is_increasing clause && list_all (λ l. is_from_1_to greatest_variable l.var) clause) (list_all (is_from_1_to greatest_clause_number) hints) h in
    let q = both (is_increasing clause) (list_all (λ l. is_from_1_to greatest_variable l.var) clause) p.0 in
    let literals : list_all is_one_line (map literal_word clause) ≡ true = all-words literal_word (λ l. is_from_1_to greatest_variable l.var) (λ l g. literal-apart l.var l.negated g) clause q.1 in
    let numbers : list_all is_one_line (list_words decimal hints) ≡ true = list-apart decimal (is_from_1_to greatest_clause_number) (λ n g. from-1 greatest_clause_number n (lit< tt) g) hints p.1 in
    joined (codes "d") (map literal_word clause ++ codes "0" ∷ list_words decimal hints) refl (append-apart (map literal_word clause) (codes "0" ∷ list_words decimal hints) literals numbers)

-- ---- the line of forgotten clauses is one line

pub forget-apart : (ids : List ℕ) → keeps_grammar (Forget ids) ≡ true → is_one_line (text_of_line (Forget ids)) ≡ true
forget-apart ids h =
    let p = both (has_member ids) (list_all (is_from_1_to greatest_clause_number) ids) h in
    joined (codes "x") (list_words decimal ids) refl (list-apart decimal (is_from_1_to greatest_clause_number) (λ n g. from-1 greatest_clause_number n (lit< tt) g) ids p.1)

-- ---- the line of a cone is one line

two-apart : (m n : ℕ) → (is_small m && is_small n) ≡ true → list_all is_one_line (decimal m ∷ decimal n ∷ []) ≡ true
two-apart m n h = let p = both (is_small m) (is_small n) h in rw (small-apart m p.0, small-apart n p.1) refl

violation-apart : (v : Violation) → keeps_violation v ≡ true → list_all is_one_line (violation_words v) ≡ true
violation-apart (Path train visit) h = two-apart train.0 visit h
violation-apart (Within within) h = rw (small-apart within h) refl
violation-apart (Order order) h = rw (small-apart order h) refl
violation-apart (Grant train command) h = two-apart train.0 command h
violation-apart (Visit train visit) h = two-apart train.0 visit h

holder-apart : (o : Option Command) → keeps_holder o ≡ true → list_all is_one_line (holder_words o) ≡ true
holder-apart None h = refl
holder-apart (Some c) h = two-apart c.train.0 c.route.0 (both (keeps_command c) (not (is_nothing c)) h).0

train-apart : (c : ConeTrain) → keeps_train c ≡ true → list_all is_one_line (train_words c) ≡ true
train-apart c h =
    let prefix : Bool = is_small c.train.0 && (nat_le c.horizon greatest_clause_number && is_small c.free) in
    let a = both prefix (keeps_path c.path && keeps_holder c.holder) h in
    let b = both (keeps_path c.path) (keeps_holder c.holder) a.1 in
    let f = both (is_small c.train.0) (nat_le c.horizon greatest_clause_number && is_small c.free) a.0 in
    let g = both (nat_le c.horizon greatest_clause_number) (is_small c.free) f.1 in
    let r = both (has_member c.path) (list_all (λ r. is_from_1_to greatest_variable r.0) c.path) b.0 in
    let path : list_all is_one_line (list_words route_word c.path) ≡ true = list-apart route_word (λ r. is_from_1_to greatest_variable r.0) (λ r k. from-1 greatest_variable r.0 (lit< tt) k) c.path r.1 in
    rw (small-apart c.train.0 f.0, up-to greatest_clause_number c.horizon (lit< tt) g.0, small-apart c.free g.1) (append-apart (list_words route_word c.path) (holder_words c.holder) path (holder-apart c.holder b.1))

pair-apart : (p : Command × Command) → keeps_pair p ≡ true → list_all is_one_line (pair_words p) ≡ true
pair-apart p h =
    let a = both (keeps_command p.0) (keeps_command p.1) h in
    append-apart (command_words p.0) (command_words p.1) (two-apart p.0.train.0 p.0.route.0 a.0) (two-apart p.1.train.0 p.1.route.0 a.1)

cone-apart : (k : Cone) → keeps_cone k ≡ true → is_one_line (text_of_line (Refute (evidence.Cone k))) ≡ true
cone-apart k h =
    let a = both (keeps_violation k.violation) ((has_member k.trains && list_all keeps_train k.trains) && list_all keeps_pair k.pairs) h in
    let b = both (has_member k.trains && list_all keeps_train k.trains) (list_all keeps_pair k.pairs) a.1 in
    let c = both (has_member k.trains) (list_all keeps_train k.trains) b.0 in
    let trains : list_all is_one_line (flat_map train_words k.trains) ≡ true = parts-apart train_words keeps_train train-apart k.trains c.1 in
    let pairs : list_all is_one_line (flat_map pair_words k.pairs) ≡ true = parts-apart pair_words keeps_pair pair-apart k.pairs b.1 in
    joined (codes "r") (cone_line_words k) refl
    (append-apart (violation_words k.violation) _ (violation-apart k.violation a.0) (append-apart (flat_map train_words k.trains) (flat_map pair_words k.pairs) trains pairs))

-- ---- the line of a bound is one line

route-apart : (r : RouteNo) → keeps_route r ≡ true → is_one_line (route_word r) ≡ true
route-apart r h = from-1 greatest_variable r.0 (lit< tt) h

requirement-apart : (q : Requirement) → keeps_requirement q ≡ true → list_all is_one_line (requirement_words q) ≡ true
requirement-apart (requirements.Within within) h = rw (small-apart within h) refl
requirement-apart (requirements.Order order) h = rw (small-apart order h) refl
requirement-apart (requirements.Visit train visit) h = two-apart train.0 visit h
requirement-apart (requirements.Grant c) h = let p = both (is_small c.train.0) (keeps_route c.route) h in rw (small-apart c.train.0 p.0, route-apart c.route p.1) refl

origin-apart : (q : Requirement) (o : Origin) → keeps_origin q o ≡ true → list_all is_one_line (origin_words o) ≡ true
origin-apart q origins.Visit h = refl
origin-apart q origins.Start h = refl
origin-apart q origins.FirstTick h = refl
origin-apart q (origins.Cone tick k) h =
    let cone : Bool = (has_member k.trains && list_all keeps_train k.trains) && list_all keeps_pair k.pairs in
    let a = both (nat_le tick greatest_clause_number) (is_of q k.violation && cone) h in
    let b = both (is_of q k.violation) cone a.1 in
    let c = both (has_member k.trains && list_all keeps_train k.trains) (list_all keeps_pair k.pairs) b.1 in
    let d = both (has_member k.trains) (list_all keeps_train k.trains) c.0 in
    let trains : list_all is_one_line (flat_map train_words k.trains) ≡ true = parts-apart train_words keeps_train train-apart k.trains d.1 in
    let pairs : list_all is_one_line (flat_map pair_words k.pairs) ≡ true = parts-apart pair_words keeps_pair pair-apart k.pairs c.1 in
    rw (up-to greatest_clause_number tick (lit< tt) a.0) (append-apart (flat_map train_words k.trains) (flat_map pair_words k.pairs) trains pairs)

place-apart : (p : Place) → keeps_place p ≡ true → list_all is_one_line (place_words p) ≡ true
place-apart (places.Named r) h = rw (route-apart r h) refl
place-apart (places.Among rs without) h =
    let a = both (keeps_path rs) (list_all keeps_route without) h in
    let b = both (has_member rs) (list_all keeps_route rs) a.0 in
    append-apart (list_words route_word rs) (list_words route_word without) (list-apart route_word keeps_route route-apart rs b.1) (list-apart route_word keeps_route route-apart without a.1)

leg-apart : (l : Leg) → keeps_leg l ≡ true → list_all is_one_line (leg_words l) ≡ true
leg-apart l h =
    let a = both (is_small l.train.0) (has_member l.places && list_all keeps_place l.places) h in
    let b = both (has_member l.places) (list_all keeps_place l.places) a.1 in
    rw (small-apart l.train.0 a.0) (parts-apart place_words keeps_place place-apart l.places b.1)

bound-apart : (b : Bound) → keeps_bound b ≡ true → is_one_line (text_of_line (Refute (evidence.Bound b))) ≡ true
bound-apart b h =
    let p = both (keeps_requirement b.requirement) (keeps_origin b.requirement b.origin && (has_member b.legs && list_all keeps_leg b.legs)) h in
    let q = both (keeps_origin b.requirement b.origin) (has_member b.legs && list_all keeps_leg b.legs) p.1 in
    let r = both (has_member b.legs) (list_all keeps_leg b.legs) q.1 in
    joined (codes "b") (bound_line_words b) refl
    (append-apart (requirement_words b.requirement) _ (requirement-apart b.requirement p.0)
    (append-apart (origin_words b.origin) _ (origin-apart b.requirement b.origin q.0) (parts-apart leg_words keeps_leg leg-apart b.legs r.1)))

pub evidence-apart : (e : Evidence) → keeps_grammar (Refute e) ≡ true → is_one_line (text_of_line (Refute e)) ≡ true
evidence-apart (evidence.Cone k) h = cone-apart k h
evidence-apart (evidence.Bound b) h = bound-apart b h

-- ---- a head is one line

-- the words of two numbers, and of three
two_plain-apart : (version steps : ℕ) → (is_plain version && is_plain steps && true) ≡ true → list_all is_one_line (decimal version ∷ decimal steps ∷ []) ≡ true
two_plain-apart version steps h =
    let q = both (is_plain version && is_plain steps) true h in
    let p = both (is_plain version) (is_plain steps) q.0 in
    rw (plain-apart version p.0, plain-apart steps p.1) refl

three_plain-apart : (version steps within : ℕ) → (is_plain version && is_plain steps && is_plain within) ≡ true → list_all is_one_line (decimal version ∷ decimal steps ∷ decimal within ∷ []) ≡ true
three_plain-apart version steps within h =
    let q = both (is_plain version && is_plain steps) (is_plain within) h in
    let p = both (is_plain version) (is_plain steps) q.0 in
    rw (plain-apart version p.0, plain-apart steps p.1, plain-apart within q.1) refl

question-apart : (base : BaseKind) (version steps : ℕ) → keeps_head (asked_by base (version, steps)) ≡ true → is_one_line (head_text (asked_by base (version, steps))) ≡ true
question-apart Plain version steps h = joined (codes "rcvlog") (codes "2" ∷ decimal version ∷ decimal steps ∷ []) refl (two_plain-apart version steps h)
question-apart Sorted version steps h = joined (codes "rcvlog") (codes "4" ∷ decimal version ∷ decimal steps ∷ []) refl (two_plain-apart version steps h)
question-apart Normal version steps h = joined (codes "rcvlog") (codes "3" ∷ decimal version ∷ decimal steps ∷ []) refl (two_plain-apart version steps h)
question-apart (Live All) version steps h = joined (codes "rcvlog") (codes "5" ∷ decimal version ∷ decimal steps ∷ []) refl (two_plain-apart version steps h)
question-apart (Live (Beside w)) version steps h = joined (codes "rcvlog") (codes "6" ∷ decimal version ∷ decimal steps ∷ decimal w ∷ []) refl (three_plain-apart version steps w h)

pub head-apart : (head : Head) → keeps_head head ≡ true → is_one_line (head_text head) ≡ true
head-apart heads.Unnamed h = refl
head-apart (heads.Of q) h = question-apart q.base q.version q.steps h
