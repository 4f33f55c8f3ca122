-- The text of a cone and of its parts is read as what it was written for.
use Rattle.std.proofs.Common.{◌≡◌, ◌≢◌, ℕ, zero, suc, ◌<◌, ◌≤◌, ◌^◌, ◌+◌, Bool, true, false, not, cond, ◌&&◌, ◌||◌, nat_le, nat_eq, List, [], ◌∷◌, ◌++◌, length, get_or, map, flat_map, option_map, codes, decimal, Option, Some, None, refl, sym, ap, ◌∙◌, arith, ne_eqb, lit<, append_assoc, append-nil, length-append}
use Rattle.std.specs.List.{list_all, slice_split, onto_first, join_with_byte}
use Rattle.std.specs.Char.{is_ascii_digit}
use Rattle.std.proofs.lemmas.Fmt.{digits_decimal, decimal_nonempty, length-decimal-le, first_decimal}
use Rattle.std.proofs.lemmas.List.Folds.{list_all-append}
use Rattle.std.proofs.lemmas.Slice.Eq.{bytes_eq-Decides}
use Rattle.std.proofs.lemmas.Bool.Decides.{nat_tests}
use Rattle.rail_text.specs.Numbers.{number_of}
use Rattle.rail_text.specs.Laws.{NumbersReadBack}
use Rattle.rail_base.specs.declared.plan.Command.{Command}
use Rattle.rail_base.specs.declared.plan.Violation.{Violation}
use Rattle.rail_base.specs.declared.plan.Violation.TheVariants.{Path, Within, Order, Grant, Visit}
use Rattle.rail_base.specs.declared.route.RouteNo.{RouteNo}
use Rattle.cone_spec.specs.declared.Cone.{Cone}
use Rattle.cone_spec.specs.declared.ConeTrain.{ConeTrain}
use Rattle.sat_clause.specs.declared.lit.Lit.{Lit}
use Rattle.proof_log.specs.Words.{greatest_variable, greatest_clause_number, is_from_1_to, is_small, is_plain, is_space, line_words, plain_number_of, if_small, small_number_of, if_from_1_to, variable_of, route_of, clause_number_of, literal_of, is_end, member_before, members_of}
use Rattle.proof_log.specs.Parts.{WithRest, made, with_next, first_of, has_member, if_any, parts_of, all_parts, small_number, two_numbers, plain_number, three_plain_numbers, two_plain_numbers, command_by, command, violation, is_nothing, written_holder, train_prefix, train_path, train_by, cone_train, pair, cone}
use Rattle.proof_log.specs.ConeText.{literal_word, route_word, list_words, command_words, violation_words, holder_words, train_words, pair_words, cone_line_words, keeps_command, keeps_violation, keeps_holder, keeps_path, keeps_train, keeps_pair, keeps_cone}
use Rattle.proof_log.proofs.Written.{stops, none-back, marked, after_mark, zero-word}
use Rattle.sat_clause.proofs.Sound.{both}
use Rattle.rail_text.proofs.Numerals.{own}

-- ---- numbers and literals

short : (size first : ℕ) (found : Option ℕ) → size ≤ 18 → 48 < first → cond (nat_le size 18 && (nat_le size 1 || not (nat_eq first 48))) found None ≡ found
short size first found le up = grind (arith, nat_tests)

bounds : (greatest number : ℕ) → is_from_1_to greatest number ≡ true → (0 < number) × (number ≤ greatest)
bounds greatest number h = grind (arith, nat_tests)

pick : (greatest number : ℕ) (found : Option ℕ) → found ≡ Some number → is_from_1_to greatest number ≡ true → if_from_1_to greatest found ≡ Some number
pick greatest number found e h = rw e (rw h refl)

plain-back : NumbersReadBack → (number : ℕ) → 0 < number → number ≤ greatest_clause_number → plain_number_of (decimal number) ≡ Some number
plain-back back number some le =
    let fits : number < 2 ^ 64 = omega arith in
    short (length (decimal number)) (get_or (decimal number) 0 0) (number_of (decimal number)) (length-decimal-le 18 number (lit< tt) (omega arith) fits) (first_decimal number some fits) ∙ back number fits

up-to : (greatest number : ℕ) → nat_le number greatest ≡ true → number ≤ greatest
up-to greatest number h = grind (arith, nat_tests)

pub number-back : NumbersReadBack → (number : ℕ) → nat_le number greatest_clause_number ≡ true → plain_number_of (decimal number) ≡ Some number
number-back back zero h = ap plain_number_of zero-word
number-back back (suc n) h = plain-back back (suc n) (omega arith) (up-to greatest_clause_number (suc n) h)

small-pick : (number : ℕ) (found : Option ℕ) → found ≡ Some number → is_small number ≡ true → if_small found ≡ Some number
small-pick number found e h = rw e (rw h refl)

wider : (number : ℕ) → nat_le number greatest_variable ≡ true → nat_le number greatest_clause_number ≡ true
wider number h = grind (arith, nat_tests)

pub small-back : NumbersReadBack → (number : ℕ) → is_small number ≡ true → small_number_of (decimal number) ≡ Some number
small-back back number h = small-pick number (plain_number_of (decimal number)) (number-back back number (wider number h)) h

pub clause_number-back : NumbersReadBack → (number : ℕ) → is_from_1_to greatest_clause_number number ≡ true → clause_number_of (decimal number) ≡ Some number
clause_number-back back number h = let b = bounds greatest_clause_number number h in pick greatest_clause_number number _ (plain-back back number b.0 b.1) h

variable-back : NumbersReadBack → (number : ℕ) → is_from_1_to greatest_variable number ≡ true → variable_of (decimal number) ≡ Some number
variable-back back number h = let b = bounds greatest_variable number h in pick greatest_variable number _ (plain-back back number b.0 (omega (arith, b.1))) h

route-case : (r : RouteNo) (found : Option ℕ) → found ≡ Some r.0 → option_map (λ n. record { 0 = n }) found ≡ Some r
route-case r found e = rw e refl

pub route-back : NumbersReadBack → (r : RouteNo) → is_from_1_to greatest_variable r.0 ≡ true → route_of (route_word r) ≡ Some r
route-back back r h = route-case r (variable_of (decimal r.0)) (variable-back back r.0 h)

unsigned : (word : List ℕ) → get_or word 0 0 ≢ 45 → 0 < length word → literal_of word ≡ option_map (λ v. record { var = v; negated = false }) (variable_of word)
unsigned [] first some = absurd (omega arith)
unsigned (byte ∷ more) first some = rw (ne_eqb byte 45 first) refl

literal-case : NumbersReadBack → (var : ℕ) (negated : Bool) → is_from_1_to greatest_variable var ≡ true → literal_of (literal_word (record { var = var; negated = negated })) ≡ Some (record { var = var; negated = negated })
literal-case back var true h = rw (variable-back back var h) refl
literal-case back var false h =
    let b = bounds greatest_variable var h in
    let fits : var < 2 ^ 64 = omega (arith, b.1) in
    let first : get_or (decimal var) 0 0 ≢ 45 = λ e. let up : 48 < get_or (decimal var) 0 0 = first_decimal var b.0 fits in omega arith in
    unsigned (decimal var) first (decimal_nonempty var fits) ∙ rw (variable-back back var h) refl

pub literal-back : NumbersReadBack → (l : Lit) → is_from_1_to greatest_variable l.var ≡ true → literal_of (literal_word l) ≡ Some l
literal-back back l h = literal-case back l.var l.negated h

-- ---- lists

not_end-step : {X : Type 0} (member : List ℕ → Option X) (word : List ℕ) (x : X) (b : Bool) → b ≡ is_end word → member (codes "0") ≡ None → member word ≡ Some x → b ≡ false
not_end-step member word x true is none e =
    let end : word ≡ codes "0" = (bytes_eq-Decides word (codes "0")).0 (sym is) in
    let found : member (codes "0") ≡ Some x = rw end at e in
    absurd (cc)
not_end-step member word x false is none e = refl

members-step : {X : Type 0} (x : X) (xs : List X) (more words : List (List ℕ)) (b : Bool) (o : Option X) (rest : Option (List X × List (List ℕ))) → b ≡ false → o ≡ Some x → rest ≡ Some (xs, more)
    → cond b (Some ([], words)) (member_before o rest) ≡ Some (x ∷ xs, more)
members-step x xs more words b o rest e is step = rw (e, is, step) refl

pub members-found : {X : Type 0} (member : List ℕ → Option X) (word_of : X → List ℕ) (good : X → Bool) → member (codes "0") ≡ None → ((x : X) → good x ≡ true → member (word_of x) ≡ Some x)
    → (xs : List X) (more : List (List ℕ)) → list_all good xs ≡ true → members_of member (map word_of xs ++ codes "0" ∷ more) ≡ Some (xs, more)
members-found member word_of good none back [] more h = refl
members-found member word_of good none back (x ∷ xs) more h =
    let p = both (good x) (list_all good xs) h in
    let found : member (word_of x) ≡ Some x = back x p.0 in
    members-step x xs more _ (is_end (word_of x)) (member (word_of x)) (members_of member (map word_of xs ++ codes "0" ∷ more)) (not_end-step member (word_of x) x (is_end (word_of x)) refl none found) found (members-found member word_of good none back xs more p.1)

pub members-back : {X : Type 0} (member : List ℕ → Option X) (word_of : X → List ℕ) (good : X → Bool) → member (codes "0") ≡ None → ((x : X) → good x ≡ true → member (word_of x) ≡ Some x)
    → (xs : List X) (rest : List (List ℕ)) → list_all good xs ≡ true → members_of member (list_words word_of xs ++ rest) ≡ Some (xs, rest)
members-back member word_of good none back xs rest h = ap (members_of member) (append_assoc (map word_of xs) (codes "0" ∷ []) rest) ∙ members-found member word_of good none back xs rest h

-- ---- parts of parts

-- the words of what is in range are read back, whatever stands after them
abbrev pub Back : {X : Type 0} → (X → List (List ℕ)) → (X → Bool) → WithRest X → Type 0
Back {X} write good read = (x : X) (rest : List (List ℕ)) → good x ≡ true → read (write x ++ rest) ≡ Some (x, rest)

pub first-back : {X : Type 0} (read : List ℕ → Option X) (word_of : X → List ℕ) (good : X → Bool) → ((x : X) → good x ≡ true → read (word_of x) ≡ Some x) → Back (λ x. word_of x ∷ []) good (first_of read)
first-back read word_of good back x rest h = rw (back x h) refl

pub next-back : {X Y : Type 0} (write : X → List (List ℕ)) (good : X → Bool) (read : WithRest X) (writes : Y → List (List ℕ)) (goods : Y → Bool) (next : WithRest Y) → Back write good read → Back writes goods next
    → Back (λ p. write p.0 ++ writes p.1) (λ p. good p.0 && goods p.1) (λ w. with_next (read w) next)
next-back write good read writes goods next here later (x, y) rest h =
    let p = both (good x) (goods y) h in
    let found : read ((write x ++ writes y) ++ rest) ≡ Some (x, writes y ++ rest) = ap read (append_assoc (write x) (writes y) rest) ∙ here x (writes y ++ rest) p.0 in
    rw found (rw (later y rest p.1) refl)

any-back : {X : Type 0} (write : List X → List (List ℕ)) (good : List X → Bool) (read : WithRest (List X)) → Back write good read → Back write (λ xs. has_member xs && good xs) (λ w. if_any (read w))
any-back write good read back xs rest h =
    let p = both (has_member xs) (good xs) h in
    rw (back xs rest p.1) (rw p.0 refl)

made-back : {X Y : Type 0} (make : X → Y) (parts : Y → X) (write : X → List (List ℕ)) (good : X → Bool) (writes : Y → List (List ℕ)) (goods : Y → Bool) (read : WithRest X)
    → ((y : Y) → goods y ≡ true → (make (parts y) ≡ y) × (writes y ≡ write (parts y)) × (good (parts y) ≡ true)) → Back write good read → Back writes goods (λ w. made make (read w))
made-back make parts write good writes goods read same back y rest h =
    let s = same y h in
    let found : read (writes y ++ rest) ≡ Some (parts y, rest) = ap (λ w. read (w ++ rest)) s.1 ∙ back (parts y) rest s.2 in
    rw found (rw s.0 refl)

pub not-true : (b : Bool) → not b ≡ true → b ≡ false
not-true true h = absurd (cc)
not-true false h = refl

parts-back : {X : Type 0} (mark : List ℕ) (part : WithRest X) (write : X → List (List ℕ)) (good : X → Bool) → Back write good part
    → (n : ℕ) (xs : List X) (rest : List (List ℕ)) → length xs ≤ n → stops mark rest ≡ true → list_all good xs ≡ true → parts_of mark part n (flat_map (λ x. mark ∷ write x) xs ++ rest) ≡ Some (xs, rest)
parts-back mark part write good back n [] rest le s h = none-back mark part n rest s
parts-back mark part write good back zero (x ∷ xs) rest le s h = absurd (omega arith)
parts-back {X} mark part write good back (suc n) (x ∷ xs) rest le s h =
    let p = both (good x) (list_all good xs) h in
    let after : List (List ℕ) = flat_map (λ x. mark ∷ write x) xs in
    let found : part ((write x ++ after) ++ rest) ≡ Some (x, after ++ rest) = ap part (append_assoc (write x) after rest) ∙ back x (after ++ rest) p.0 in
    let later : parts_of mark part n (after ++ rest) ≡ Some (xs, rest) = parts-back mark part write good back n xs rest (omega (arith, le)) s p.1 in
    rw (marked mark) (rw found (rw later refl))

enough : {X : Type 0} (mark : List ℕ) (write : X → List (List ℕ)) (xs : List X) (rest : List (List ℕ)) → length xs ≤ length (flat_map (λ x. mark ∷ write x) xs ++ rest)
enough mark write [] rest = omega arith
enough mark write (x ∷ xs) rest =
    let after : List (List ℕ) = flat_map (λ x. mark ∷ write x) xs in
    let one : length (write x ++ (after ++ rest)) ≡ length (write x) + length (after ++ rest) = length-append (write x) (after ++ rest) in
    let same : length ((write x ++ after) ++ rest) ≡ length (write x ++ (after ++ rest)) = ap length (append_assoc (write x) after rest) in
    omega (arith, one, same, enough mark write xs rest)

pub all-back : {X : Type 0} (mark : List ℕ) (part : WithRest X) (write : X → List (List ℕ)) (good : X → Bool) → Back write good part
    → (xs : List X) (rest : List (List ℕ)) → stops mark rest ≡ true → list_all good xs ≡ true → all_parts mark part (flat_map (λ x. mark ∷ write x) xs ++ rest) ≡ Some (xs, rest)
all-back mark part write good back xs rest s h = parts-back mark part write good back (length (flat_map (λ x. mark ∷ write x) xs ++ rest)) xs rest (enough mark write xs rest) s h

-- ---- parts of a cone

module _ (back : NumbersReadBack) where
  pub small-read : Back (λ n. decimal n ∷ []) is_small small_number
  small-read = first-back small_number_of decimal is_small (small-back back)

  pub numbers-read : Back (λ n. decimal n.0 ∷ decimal n.1 ∷ []) (λ n. is_small n.0 && is_small n.1) two_numbers
  numbers-read = next-back (λ n. decimal n ∷ []) is_small small_number (λ n. decimal n ∷ []) is_small small_number small-read small-read

  plain-read : Back (λ n. decimal n ∷ []) is_plain plain_number
  plain-read = first-back plain_number_of decimal is_plain (number-back back)

  pub plain_numbers-read : Back (λ n. decimal n.0 ∷ decimal n.1 ∷ []) (λ n. is_plain n.0 && is_plain n.1) two_plain_numbers
  plain_numbers-read = next-back (λ n. decimal n ∷ []) is_plain plain_number (λ n. decimal n ∷ []) is_plain plain_number plain-read plain-read

  pub three_plain_numbers-read : Back (λ n. (decimal n.0.0 ∷ decimal n.0.1 ∷ []) ++ decimal n.1 ∷ []) (λ n. is_plain n.0.0 && is_plain n.0.1 && is_plain n.1) three_plain_numbers
  three_plain_numbers-read = next-back (λ n. decimal n.0 ∷ decimal n.1 ∷ []) (λ n. is_plain n.0 && is_plain n.1) two_plain_numbers (λ n. decimal n ∷ []) is_plain plain_number plain_numbers-read plain-read

  command-read : Back command_words keeps_command command
  command-read = made-back command_by (λ c. (c.train.0, c.route.0)) (λ n. decimal n.0 ∷ decimal n.1 ∷ []) (λ n. is_small n.0 && is_small n.1) command_words keeps_command two_numbers (λ c h. (refl, refl, h)) numbers-read

  pub pair-read : Back (λ p. command_words p.0 ++ command_words p.1) keeps_pair pair
  pair-read = next-back command_words keeps_command command command_words keeps_command command command-read command-read

  violation-read : Back violation_words keeps_violation violation
  violation-read (Path train visit) rest h = rw (numbers-read (train.0, visit) rest h) refl
  violation-read (Within within) rest h = rw (small-read within rest h) refl
  violation-read (Order order) rest h = rw (small-read order rest h) refl
  violation-read (Grant train command) rest h = rw (numbers-read (train.0, command) rest h) refl
  violation-read (Visit train visit) rest h = rw (numbers-read (train.0, visit) rest h) refl

  prefix-read : Back (λ p. (decimal p.0 ∷ []) ++ ((decimal p.1.0 ∷ []) ++ (decimal p.1.1 ∷ []))) (λ p. is_small p.0 && (nat_le p.1.0 greatest_clause_number && is_small p.1.1)) train_prefix
  prefix-read =
      next-back (λ n. decimal n ∷ []) is_small small_number (λ p. (decimal p.0 ∷ []) ++ (decimal p.1 ∷ [])) (λ p. nat_le p.0 greatest_clause_number && is_small p.1) (λ w. with_next (first_of plain_number_of w) small_number) small-read
      (next-back (λ n. decimal n ∷ []) (λ n. nat_le n greatest_clause_number) (first_of plain_number_of) (λ n. decimal n ∷ []) is_small small_number (first-back plain_number_of decimal (λ n. nat_le n greatest_clause_number) (number-back back)) small-read)

  pub path-read : Back (list_words route_word) keeps_path train_path
  path-read = any-back (list_words route_word) (λ xs. list_all (λ r. is_from_1_to greatest_variable r.0) xs) (members_of route_of) (members-back route_of route_word (λ r. is_from_1_to greatest_variable r.0) refl (route-back back))

  -- a holder as a command
  abbrev as_command : Option Command → Command
  as_command None = record { train = record { 0 = 0 }; route = record { 0 = 0 } }
  as_command (Some c) = c

  holder-parts : (o : Option Command) → keeps_holder o ≡ true → (written_holder (as_command o) ≡ o) × (holder_words o ≡ command_words (as_command o)) × (keeps_command (as_command o) ≡ true)
  holder-parts None h = (refl, rw zero-word refl, refl)
  holder-parts (Some c) h =
      let p = both (keeps_command c) (not (is_nothing c)) h in
      (rw (not-true (is_nothing c) p.1) refl, refl, p.0)

  abbrev parts_of_train : ConeTrain → (ℕ × (ℕ × ℕ)) × (List RouteNo × Command)
  parts_of_train c = ((c.train.0, (c.horizon, c.free)), (c.path, as_command c.holder))

  abbrev parts_words : (ℕ × (ℕ × ℕ)) × (List RouteNo × Command) → List (List ℕ)
  parts_words p = ((decimal p.0.0 ∷ []) ++ ((decimal p.0.1.0 ∷ []) ++ (decimal p.0.1.1 ∷ []))) ++ (list_words route_word p.1.0 ++ command_words p.1.1)

  abbrev keeps_parts : (ℕ × (ℕ × ℕ)) × (List RouteNo × Command) → Bool
  keeps_parts p = (is_small p.0.0 && (nat_le p.0.1.0 greatest_clause_number && is_small p.0.1.1)) && (keeps_path p.1.0 && keeps_command p.1.1)

  train-parts : (c : ConeTrain) → keeps_train c ≡ true → (train_by (parts_of_train c) ≡ c) × (after_mark c ≡ parts_words (parts_of_train c)) × (keeps_parts (parts_of_train c) ≡ true)
  train-parts c h =
      let a = both (is_small c.train.0 && (nat_le c.horizon greatest_clause_number && is_small c.free)) (keeps_path c.path && keeps_holder c.holder) h in
      let b = both (keeps_path c.path) (keeps_holder c.holder) a.1 in
      let holder = holder-parts c.holder b.1 in (
        ap (λ o. record { train = c.train; horizon = c.horizon; free = c.free; path = c.path; holder = o }) holder.0,
        ap (λ w. decimal c.train.0 ∷ decimal c.horizon ∷ decimal c.free ∷ (list_words route_word c.path ++ w)) holder.1,
        rw (a.0, b.0, holder.2) refl,
      )

  pub train-read : Back after_mark keeps_train cone_train
  train-read =
      made-back train_by parts_of_train parts_words keeps_parts after_mark keeps_train (λ w. with_next (train_prefix w) (λ v. with_next (train_path v) command)) train-parts
      (next-back (λ p. (decimal p.0 ∷ []) ++ ((decimal p.1.0 ∷ []) ++ (decimal p.1.1 ∷ []))) (λ p. is_small p.0 && (nat_le p.1.0 greatest_clause_number && is_small p.1.1)) train_prefix
      (λ p. list_words route_word p.0 ++ command_words p.1) (λ p. keeps_path p.0 && keeps_command p.1) (λ v. with_next (train_path v) command) prefix-read
      (next-back (list_words route_word) keeps_path train_path command_words keeps_command command path-read command-read))

  pairs-stop : (ps : List (Command × Command)) → stops (codes "t") (flat_map pair_words ps) ≡ true
  pairs-stop [] = refl
  pairs-stop (p ∷ ps) = refl

  pub cone-read : (k : Cone) → keeps_cone k ≡ true → cone (cone_line_words k) ≡ Some (k, [])
  cone-read k h =
      let a = both (keeps_violation k.violation) ((has_member k.trains && list_all keeps_train k.trains) && list_all keeps_pair k.pairs) h in
      let b = both (has_member k.trains && list_all keeps_train k.trains) (list_all keeps_pair k.pairs) a.1 in
      let c = both (has_member k.trains) (list_all keeps_train k.trains) b.0 in
      let pairs_words : List (List ℕ) = flat_map pair_words k.pairs in
      let first : violation (cone_line_words k) ≡ Some (k.violation, flat_map train_words k.trains ++ pairs_words) = violation-read k.violation (flat_map train_words k.trains ++ pairs_words) a.0 in
      let trains : all_parts (codes "t") cone_train (flat_map train_words k.trains ++ pairs_words) ≡ Some (k.trains, pairs_words) = all-back (codes "t") cone_train after_mark keeps_train train-read k.trains pairs_words (pairs-stop k.pairs) c.1 in
      let pairs : all_parts (codes "p") pair pairs_words ≡ Some (k.pairs, []) =
      ap (all_parts (codes "p") pair) (sym (append-nil pairs_words)) ∙ all-back (codes "p") pair (λ p. command_words p.0 ++ command_words p.1) keeps_pair pair-read k.pairs [] refl b.1 in
      rw first (rw trains (rw c.0 (rw pairs refl)))

-- ---- words between spaces

abbrev pub spaceless : List ℕ → Bool
spaceless word = list_all (λ byte. not (is_space byte)) word

split-at : (word rest : List ℕ) → spaceless word ≡ true → slice_split is_space (word ++ 32 ∷ rest) ≡ word ∷ slice_split is_space rest
split-at [] rest h = refl
split-at (x ∷ xs) rest h =
    let p = both (not (is_space x)) (spaceless xs) h in
    rw (not-true (is_space x) p.0) (ap (onto_first x) (split-at xs rest p.1))

split-all : (word : List ℕ) → spaceless word ≡ true → slice_split is_space word ≡ word ∷ []
split-all [] h = refl
split-all (x ∷ xs) h =
    let p = both (not (is_space x)) (spaceless xs) h in
    rw (not-true (is_space x) p.0) (ap (onto_first x) (split-all xs p.1))

pub split-back : (word : List ℕ) (more : List (List ℕ)) → spaceless word ≡ true → list_all spaceless more ≡ true → line_words (join_with_byte 32 (word ∷ more)) ≡ word ∷ more
split-back word [] h rest = split-all word h
split-back word (next ∷ more) h rest =
    let p = both (spaceless next) (list_all spaceless more) rest in
    split-at word (join_with_byte 32 (next ∷ more)) h ∙ ap (λ w. word ∷ w) (split-back next more p.0 p.1)

digit-spaceless : (byte : ℕ) → is_ascii_digit byte ≡ true → not (is_space byte) ≡ true
digit-spaceless byte h = grind (arith, nat_tests)

digits-spaceless : (digits : List ℕ) → list_all is_ascii_digit digits ≡ true → spaceless digits ≡ true
digits-spaceless [] h = refl
digits-spaceless (x ∷ xs) h =
    let p = both (is_ascii_digit x) (list_all is_ascii_digit xs) h in
    rw (digit-spaceless x p.0, digits-spaceless xs p.1) refl

fitting : (number : ℕ) → number < 2 ^ 64 → spaceless (decimal number) ≡ true
fitting number fits = digits-spaceless (decimal number) (digits_decimal own number fits)

pub decimal-spaceless : (greatest number : ℕ) → greatest < 2 ^ 64 → is_from_1_to greatest number ≡ true → spaceless (decimal number) ≡ true
decimal-spaceless greatest number fits h = fitting number (omega (arith, (bounds greatest number h).1, fits))

pub number-spaceless : (number : ℕ) → nat_le number greatest_clause_number ≡ true → spaceless (decimal number) ≡ true
number-spaceless number h = fitting number (omega (arith, up-to greatest_clause_number number h))

pub small-spaceless : (number : ℕ) → is_small number ≡ true → spaceless (decimal number) ≡ true
small-spaceless number h = number-spaceless number (wider number h)

pub literal-spaceless : (var : ℕ) (negated : Bool) → is_from_1_to greatest_variable var ≡ true → spaceless (literal_word (record { var = var; negated = negated })) ≡ true
literal-spaceless var true h = decimal-spaceless greatest_variable var (lit< tt) h
literal-spaceless var false h = decimal-spaceless greatest_variable var (lit< tt) h

pub all-spaceless : {X : Type 0} (word_of : X → List ℕ) (good : X → Bool) → ((x : X) → good x ≡ true → spaceless (word_of x) ≡ true) → (xs : List X) → list_all good xs ≡ true → list_all spaceless (map word_of xs) ≡ true
all-spaceless word_of good each [] h = refl
all-spaceless word_of good each (x ∷ xs) h =
    let p = both (good x) (list_all good xs) h in
    rw (each x p.0, all-spaceless word_of good each xs p.1) refl

pub list-spaceless : {X : Type 0} (word_of : X → List ℕ) (good : X → Bool) → ((x : X) → good x ≡ true → spaceless (word_of x) ≡ true) → (xs : List X) → list_all good xs ≡ true → list_all spaceless (list_words word_of xs) ≡ true
list-spaceless word_of good each xs h = list_all-append spaceless (map word_of xs) (codes "0" ∷ []) ∙ rw (all-spaceless word_of good each xs h) refl

pub append-spaceless : (words more : List (List ℕ)) → list_all spaceless words ≡ true → list_all spaceless more ≡ true → list_all spaceless (words ++ more) ≡ true
append-spaceless words more h g = list_all-append spaceless words more ∙ rw (h, g) refl

pub parts-spaceless : {X : Type 0} (write : X → List (List ℕ)) (good : X → Bool) → ((x : X) → good x ≡ true → list_all spaceless (write x) ≡ true) → (xs : List X) → list_all good xs ≡ true → list_all spaceless (flat_map write xs) ≡ true
parts-spaceless write good each [] h = refl
parts-spaceless write good each (x ∷ xs) h =
    let p = both (good x) (list_all good xs) h in
    append-spaceless (write x) (flat_map write xs) (each x p.0) (parts-spaceless write good each xs p.1)

pub numbers-spaceless : (m n : ℕ) → (is_small m && is_small n) ≡ true → list_all spaceless (decimal m ∷ decimal n ∷ []) ≡ true
numbers-spaceless m n h = let p = both (is_small m) (is_small n) h in rw (small-spaceless m p.0, small-spaceless n p.1) refl

pub plain_numbers-spaceless : (m n : ℕ) → (is_plain m && is_plain n) ≡ true → list_all spaceless (decimal m ∷ decimal n ∷ []) ≡ true
plain_numbers-spaceless m n h = let p = both (is_plain m) (is_plain n) h in rw (number-spaceless m p.0, number-spaceless n p.1) refl

pub three_plain_numbers-spaceless : (l m n : ℕ) → (is_plain l && is_plain m && is_plain n) ≡ true → list_all spaceless (decimal l ∷ decimal m ∷ decimal n ∷ []) ≡ true
three_plain_numbers-spaceless l m n h =
    let p = both (is_plain l && is_plain m) (is_plain n) h in
    let q = both (is_plain l) (is_plain m) p.0 in
    rw (number-spaceless l q.0, number-spaceless m q.1, number-spaceless n p.1) refl

violation-spaceless : (v : Violation) → keeps_violation v ≡ true → list_all spaceless (violation_words v) ≡ true
violation-spaceless (Path train visit) h = numbers-spaceless train.0 visit h
violation-spaceless (Within within) h = rw (small-spaceless within h) refl
violation-spaceless (Order order) h = rw (small-spaceless order h) refl
violation-spaceless (Grant train command) h = numbers-spaceless train.0 command h
violation-spaceless (Visit train visit) h = numbers-spaceless train.0 visit h

holder-spaceless : (o : Option Command) → keeps_holder o ≡ true → list_all spaceless (holder_words o) ≡ true
holder-spaceless None h = refl
holder-spaceless (Some c) h = numbers-spaceless c.train.0 c.route.0 (both (keeps_command c) (not (is_nothing c)) h).0

pub train-spaceless : (c : ConeTrain) → keeps_train c ≡ true → list_all spaceless (train_words c) ≡ true
train-spaceless c h =
    let prefix : Bool = is_small c.train.0 && (nat_le c.horizon greatest_clause_number && is_small c.free) in
    let a = both prefix (keeps_path c.path && keeps_holder c.holder) h in
    let b = both (keeps_path c.path) (keeps_holder c.holder) a.1 in
    let f = both (is_small c.train.0) (nat_le c.horizon greatest_clause_number && is_small c.free) a.0 in
    let g = both (nat_le c.horizon greatest_clause_number) (is_small c.free) f.1 in
    let r = both (has_member c.path) (list_all (λ r. is_from_1_to greatest_variable r.0) c.path) b.0 in
    let path : list_all spaceless (list_words route_word c.path) ≡ true = list-spaceless route_word (λ r. is_from_1_to greatest_variable r.0) (λ r k. decimal-spaceless greatest_variable r.0 (lit< tt) k) c.path r.1 in
    rw (small-spaceless c.train.0 f.0, number-spaceless c.horizon g.0, small-spaceless c.free g.1) (append-spaceless (list_words route_word c.path) (holder_words c.holder) path (holder-spaceless c.holder b.1))

pub pair-spaceless : (p : Command × Command) → keeps_pair p ≡ true → list_all spaceless (pair_words p) ≡ true
pair-spaceless p h =
    let a = both (keeps_command p.0) (keeps_command p.1) h in
    append-spaceless (command_words p.0) (command_words p.1) (numbers-spaceless p.0.train.0 p.0.route.0 a.0) (numbers-spaceless p.1.train.0 p.1.route.0 a.1)

pub cone-spaceless : (k : Cone) → keeps_cone k ≡ true → list_all spaceless (cone_line_words k) ≡ true
cone-spaceless k h =
    let a = both (keeps_violation k.violation) ((has_member k.trains && list_all keeps_train k.trains) && list_all keeps_pair k.pairs) h in
    let b = both (has_member k.trains && list_all keeps_train k.trains) (list_all keeps_pair k.pairs) a.1 in
    let c = both (has_member k.trains) (list_all keeps_train k.trains) b.0 in
    let trains : list_all spaceless (flat_map train_words k.trains) ≡ true = parts-spaceless train_words keeps_train train-spaceless k.trains c.1 in
    let pairs : list_all spaceless (flat_map pair_words k.pairs) ≡ true = parts-spaceless pair_words keeps_pair pair-spaceless k.pairs b.1 in
    append-spaceless (violation_words k.violation) _ (violation-spaceless k.violation a.0) (append-spaceless (flat_map train_words k.trains) (flat_map pair_words k.pairs) trains pairs)
