-- What is read from words on has those words as its text.
use Rattle.std.proofs.Common.{◌≡◌, ℕ, zero, suc, Bool, true, false, not, cond, ◌&&◌, nat_eq, eqb-true, List, [], ◌∷◌, ◌++◌, length, flat_map, codes, decimal, nat_le, Option, Some, None, option_map, refl, sym, ap, subst, ◌∙◌, append_assoc, append-nil}
use Rattle.std.specs.List.{list_all}
use Rattle.std.specs.Str.{bytes_eq}
use Rattle.std.proofs.lemmas.Slice.Eq.{bytes_eq-Decides}
use Rattle.rail_base.specs.declared.plan.Command.{Command}
use Rattle.rail_base.specs.declared.plan.Violation.{Violation}
use Rattle.rail_base.specs.declared.plan.Violation.TheVariants.{Within, Order}
use Rattle.rail_base.specs.declared.route.RouteNo.{RouteNo}
use Rattle.cone_spec.specs.declared.ConeTrain.{ConeTrain}
use Rattle.proof_log.specs.Words.{greatest_variable, greatest_clause_number, is_from_1_to, is_small, is_plain, plain_number_of, small_number_of, route_of, members_of}
use Rattle.proof_log.specs.Parts.{WithRest, made, with_next, first_of, has_member, if_any, part_before, parts_of, all_parts, small_number, two_numbers, plain_number, three_plain_numbers, two_plain_numbers, command_by, command, path_by, grant_by, visit_by, violation_of, violation, is_nothing, written_holder, train_prefix, train_path, train_by, cone_train, pair, cone_by, cone}
use Rattle.proof_log.specs.Lines.{if_all}
use Rattle.proof_log.specs.ConeText.{route_word, list_words, command_words, violation_words, holder_words, train_words, pair_words, cone_line_words, keeps_command, keeps_violation, keeps_holder, keeps_path, keeps_train, keeps_pair, keeps_cone}
use Rattle.proof_log.proofs.Parsed.{plain-parsed, small-parsed, route-parsed, members-parsed}

-- the words are those of what was found and those after it, and what was found is in range
abbrev pub IsWrittenBy : {X : Type 0} → (X → List (List ℕ)) → (X → Bool) → List (List ℕ) → X × List (List ℕ) → Type 0
IsWrittenBy write good words found = (words ≡ write found.0 ++ found.1) × (good found.0 ≡ true)

-- so it is wherever something is found
abbrev pub IsWritten : {X : Type 0} → (X → List (List ℕ)) → (X → Bool) → List (List ℕ) → Option (X × List (List ℕ)) → Type 0
IsWritten {X} write good words o = (found : X × List (List ℕ)) → o ≡ Some found → IsWrittenBy write good words found

pub some-told : {X : Type 0} (write : X → List (List ℕ)) (good : X → Bool) (words : List (List ℕ)) (x : X) (left : List (List ℕ)) → IsWrittenBy write good words (x, left) → IsWritten write good words (Some (x, left))
some-told {X} write good words x left told found e =
    let same : ◌≡◌ {A = X × List (List ℕ)} (x, left) found = cc in
    subst (IsWrittenBy write good words) same told

pub none-told : {X : Type 0} (write : X → List (List ℕ)) (good : X → Bool) (words : List (List ℕ)) → IsWritten write good words None
none-told write good words found e = absurd (cc)

pub both : (a b : Bool) → a ≡ true → b ≡ true → (a && b) ≡ true
both a b h g = rw (h, g) refl

-- ---- parts of parts

pub made-told : {X Y : Type 0} (make : X → Y) (write : X → List (List ℕ)) (good : X → Bool) (writes : Y → List (List ℕ)) (goods : Y → Bool) → ((x : X) → good x ≡ true → (writes (make x) ≡ write x) × (goods (make x) ≡ true))
    → (words : List (List ℕ)) (o : Option (X × List (List ℕ))) → IsWritten write good words o → IsWritten writes goods words (made make o)
made-told make write good writes goods same words None told = none-told writes goods words
made-told make write good writes goods same words (Some f) told =
    let t = told f refl in
    let s = same f.0 t.1 in
    some-told writes goods words (make f.0) f.1 (t.0 ∙ ap (λ w. w ++ f.1) (sym s.0), s.1)

-- what is made of a part after words that are known
pub behind-told : {X Y : Type 0} (make : X → Y) (prefix : List (List ℕ)) (write : X → List (List ℕ)) (good : X → Bool) (writes : Y → List (List ℕ)) (goods : Y → Bool) → ((x : X) → writes (make x) ≡ prefix ++ write x)
    → ((x : X) → good x ≡ true → goods (make x) ≡ true) → (words left : List (List ℕ)) (o : Option (X × List (List ℕ))) → words ≡ prefix ++ left → IsWritten write good left o → IsWritten writes goods words (made make o)
behind-told make prefix write good writes goods w g words left None e told = none-told writes goods words
behind-told make prefix write good writes goods w g words left (Some f) e told =
    let t = told f refl in
    some-told writes goods words (make f.0) f.1 (e ∙ ap (λ l. prefix ++ l) t.0 ∙ sym (append_assoc prefix (write f.0) f.1) ∙ ap (λ l. l ++ f.1) (sym (w f.0)), g f.0 t.1)

pub next-told : {X Y : Type 0} (write : X → List (List ℕ)) (good : X → Bool) (writes : Y → List (List ℕ)) (goods : Y → Bool) (next : WithRest Y) → ((w : List (List ℕ)) → IsWritten writes goods w (next w))
    → (words : List (List ℕ)) (o : Option (X × List (List ℕ))) → IsWritten write good words o → IsWritten (λ p. write p.0 ++ writes p.1) (λ p. good p.0 && goods p.1) words (with_next o next)
next-told write good writes goods next after words None told = none-told (λ p. write p.0 ++ writes p.1) (λ p. good p.0 && goods p.1) words
next-told write good writes goods next after words (Some f) told =
    let t = told f refl in
    behind-told (λ y. (f.0, y)) (write f.0) writes goods (λ p. write p.0 ++ writes p.1) (λ p. good p.0 && goods p.1) (λ y. refl) (λ y h. both (good f.0) (goods y) t.1 h) words f.1 (next f.1) t.0 (after f.1)

word-told : {X : Type 0} (word_of : X → List ℕ) (good : X → Bool) (word : List ℕ) (more : List (List ℕ)) (o : Option X) → ((x : X) → o ≡ Some x → (word_of x ≡ word) × (good x ≡ true))
    → IsWritten (λ x. word_of x ∷ []) good (word ∷ more) (option_map (λ x. (x, more)) o)
word-told word_of good word more None each = none-told (λ x. word_of x ∷ []) good (word ∷ more)
word-told word_of good word more (Some x) each = let s = each x refl in some-told (λ x. word_of x ∷ []) good (word ∷ more) x more (ap (λ w. w ∷ more) (sym s.0), s.1)

pub first-told : {X : Type 0} (read : List ℕ → Option X) (word_of : X → List ℕ) (good : X → Bool) → ((word : List ℕ) (x : X) → read word ≡ Some x → (word_of x ≡ word) × (good x ≡ true))
    → (words : List (List ℕ)) → IsWritten (λ x. word_of x ∷ []) good words (first_of read words)
first-told read word_of good each [] = none-told (λ x. word_of x ∷ []) good []
first-told read word_of good each (word ∷ more) = word-told word_of good word more (read word) (each word)

-- where a test of what was found passes
pub tested-told : {X : Type 0} (write : X → List (List ℕ)) (good : X → Bool) (words : List (List ℕ)) (f : X × List (List ℕ)) (b : Bool) (goods : X → Bool) → (b ≡ true → goods f.0 ≡ true)
    → IsWrittenBy write good words f → IsWritten write goods words (cond b (Some f) None)
tested-told write good words f true goods test told = some-told write goods words f.0 f.1 (told.0, test refl)
tested-told write good words f false goods test told = none-told write goods words

pub any-told : {X : Type 0} (write : List X → List (List ℕ)) (good : List X → Bool) (words : List (List ℕ)) (o : Option (List X × List (List ℕ))) → IsWritten write good words o
    → IsWritten write (λ xs. has_member xs && good xs) words (if_any o)
any-told write good words None told = none-told write (λ xs. has_member xs && good xs) words
any-told write good words (Some f) told =
    let t = told f refl in
    tested-told write good words f (has_member f.0) (λ xs. has_member xs && good xs) (λ h. both (has_member f.0) (good f.0) h t.1) t

before-told : {X : Type 0} (mark : List ℕ) (write : X → List (List ℕ)) (good : X → Bool) (words : List (List ℕ)) (o : Option (X × List (List ℕ))) (next : WithRest (List X)) → IsWritten write good words o
    → ((w : List (List ℕ)) → IsWritten (flat_map (λ x. mark ∷ write x)) (list_all good) w (next w)) → IsWritten (flat_map (λ x. mark ∷ write x)) (list_all good) (mark ∷ words) (part_before o next)
before-told mark write good words None next told after = none-told (flat_map (λ x. mark ∷ write x)) (list_all good) (mark ∷ words)
before-told {X} mark write good words (Some f) next told after = go (next f.1) (after f.1) where
  go : (o : Option (List X × List (List ℕ))) → IsWritten (flat_map (λ x. mark ∷ write x)) (list_all good) f.1 o → IsWritten (flat_map (λ x. mark ∷ write x)) (list_all good) (mark ∷ words) (made (λ xs. f.0 ∷ xs) o)
  go None later = none-told (flat_map (λ x. mark ∷ write x)) (list_all good) (mark ∷ words)
  go (Some g) later =
      let t = told f refl in
      let s = later g refl in
      some-told (flat_map (λ x. mark ∷ write x)) (list_all good) (mark ∷ words) (f.0 ∷ g.0) g.1
      (ap (λ w. mark ∷ w) (t.0 ∙ ap (λ l. write f.0 ++ l) s.0 ∙ sym (append_assoc (write f.0) (flat_map (λ x. mark ∷ write x) g.0) g.1)), both (good f.0) (list_all good g.0) t.1 s.1)

pub parts-told : {X : Type 0} (mark : List ℕ) (part : WithRest X) (write : X → List (List ℕ)) (good : X → Bool) → ((w : List (List ℕ)) → IsWritten write good w (part w))
    → (n : ℕ) (words : List (List ℕ)) → IsWritten (flat_map (λ x. mark ∷ write x)) (list_all good) words (parts_of mark part n words)
parts-told mark part write good each zero words = some-told (flat_map (λ x. mark ∷ write x)) (list_all good) words [] words (refl, refl)
parts-told mark part write good each (suc n) [] = some-told (flat_map (λ x. mark ∷ write x)) (list_all good) [] [] [] (refl, refl)
parts-told {X} mark part write good each (suc n) (word ∷ more) = go (λ w. parts-told mark part write good each n w) (bytes_eq word mark) refl where
  go : ((w : List (List ℕ)) → IsWritten (flat_map (λ x. mark ∷ write x)) (list_all good) w (parts_of mark part n w)) → (b : Bool) → b ≡ bytes_eq word mark → IsWritten (flat_map (λ x. mark ∷ write x)) (list_all good) (word ∷ more) (cond b (part_before (part more) (λ w. parts_of mark part n w)) (Some ([], word ∷ more)))
  go later true is =
      let same : word ≡ mark = (bytes_eq-Decides word mark).0 (sym is) in
      rw same (before-told mark write good more (part more) (λ w. parts_of mark part n w) (each more) later)
  go later false is = some-told (flat_map (λ x. mark ∷ write x)) (list_all good) (word ∷ more) [] (word ∷ more) (refl, refl)

-- no word is left, or the first is another one
abbrev pub stops : List ℕ → List (List ℕ) → Bool
stops mark [] = true
stops mark (word ∷ more) = not (bytes_eq word mark)

not-true : (b : Bool) → not b ≡ true → b ≡ false
not-true true h = absurd (cc)
not-true false h = refl

pub none-back : {X : Type 0} (mark : List ℕ) (part : WithRest X) (n : ℕ) (rest : List (List ℕ)) → stops mark rest ≡ true → parts_of mark part n rest ≡ Some ([], rest)
none-back mark part zero rest s = refl
none-back mark part (suc n) [] s = refl
none-back mark part (suc n) (word ∷ more) s = rw (not-true (bytes_eq word mark) s) refl

pub marked : (mark : List ℕ) → bytes_eq mark mark ≡ true
marked mark = (bytes_eq-Decides mark mark).1 refl

-- ---- parts of a cone

pub small-told : (words : List (List ℕ)) → IsWritten (λ n. decimal n ∷ []) is_small words (small_number words)
small-told words = first-told small_number_of decimal is_small small-parsed words

abbrev pub numbers_words : ℕ × ℕ → List (List ℕ)
numbers_words n = decimal n.0 ∷ decimal n.1 ∷ []

abbrev pub keeps_numbers : ℕ × ℕ → Bool
keeps_numbers n = is_small n.0 && is_small n.1

pub numbers-told : (words : List (List ℕ)) → IsWritten numbers_words keeps_numbers words (two_numbers words)
numbers-told words = next-told (λ n. decimal n ∷ []) is_small (λ n. decimal n ∷ []) is_small small_number small-told words (small_number words) (small-told words)

pub plain_number-told : (words : List (List ℕ)) → IsWritten (λ n. decimal n ∷ []) is_plain words (plain_number words)
plain_number-told words = first-told plain_number_of decimal is_plain plain-parsed words

abbrev pub keeps_plain_numbers : ℕ × ℕ → Bool
keeps_plain_numbers n = is_plain n.0 && is_plain n.1

pub plain_numbers-told : (words : List (List ℕ)) → IsWritten numbers_words keeps_plain_numbers words (two_plain_numbers words)
plain_numbers-told words = next-told (λ n. decimal n ∷ []) is_plain (λ n. decimal n ∷ []) is_plain plain_number plain_number-told words (plain_number words) (plain_number-told words)

pub three_plain_numbers-told : (words : List (List ℕ)) → IsWritten (λ n. numbers_words n.0 ++ decimal n.1 ∷ []) (λ n. keeps_plain_numbers n.0 && is_plain n.1) words (three_plain_numbers words)
three_plain_numbers-told words = next-told numbers_words keeps_plain_numbers (λ n. decimal n ∷ []) is_plain plain_number plain_number-told words (two_plain_numbers words) (plain_numbers-told words)

command-told : (words : List (List ℕ)) → IsWritten command_words keeps_command words (command words)
command-told words = made-told command_by numbers_words keeps_numbers command_words keeps_command (λ n h. (refl, h)) words (two_numbers words) (numbers-told words)

pub pair-told : (words : List (List ℕ)) → IsWritten (λ p. command_words p.0 ++ command_words p.1) keeps_pair words (pair words)
pair-told words = next-told command_words keeps_command command_words keeps_command command command-told words (command words) (command-told words)

-- a first word that is a name, or else another case
pub choose : {R : Type 0} {P : Type 0} (word name : List ℕ) (this that : Option R) (found : R) → (word ≡ name → this ≡ Some found → P) → (that ≡ Some found → P)
    → (b : Bool) → b ≡ bytes_eq word name → cond b this that ≡ Some found → P
choose word name this that found here further true is e = here ((bytes_eq-Decides word name).0 (sym is)) e
choose word name this that found here further false is e = further e

-- what is made of a part after the name
pub named-told : {X Y : Type 0} (name : List ℕ) (make : X → Y) (write : X → List (List ℕ)) (good : X → Bool) (writes : Y → List (List ℕ)) (goods : Y → Bool) → ((x : X) → writes (make x) ≡ name ∷ write x)
    → ((x : X) → good x ≡ true → goods (make x) ≡ true) → (kind : List ℕ) (more : List (List ℕ)) (o : Option (X × List (List ℕ))) → IsWritten write good more o → kind ≡ name → IsWritten writes goods (kind ∷ more) (made make o)
named-told name make write good writes goods w g kind more None told same = none-told writes goods (kind ∷ more)
named-told name make write good writes goods w g kind more (Some f) told same =
    let t = told f refl in
    some-told writes goods (kind ∷ more) (make f.0) f.1 (ap (λ k. k ∷ more) same ∙ ap (λ l. name ∷ l) t.0 ∙ ap (λ l. l ++ f.1) (sym (w f.0)), g f.0 t.1)

two-told : (name : List ℕ) (make : ℕ × ℕ → Violation) → ((n : ℕ × ℕ) → violation_words (make n) ≡ name ∷ numbers_words n) → ((n : ℕ × ℕ) → keeps_numbers n ≡ true → keeps_violation (make n) ≡ true)
    → (kind : List ℕ) (more : List (List ℕ)) → kind ≡ name → IsWritten violation_words keeps_violation (kind ∷ more) (made make (two_numbers more))
two-told name make w g kind more same = named-told name make numbers_words keeps_numbers violation_words keeps_violation w g kind more (two_numbers more) (numbers-told more) same

one-told : (name : List ℕ) (make : ℕ → Violation) → ((n : ℕ) → violation_words (make n) ≡ name ∷ decimal n ∷ []) → ((n : ℕ) → is_small n ≡ true → keeps_violation (make n) ≡ true)
    → (kind : List ℕ) (more : List (List ℕ)) → kind ≡ name → IsWritten violation_words keeps_violation (kind ∷ more) (made make (small_number more))
one-told name make w g kind more same = named-told name make (λ n. decimal n ∷ []) is_small violation_words keeps_violation w g kind more (small_number more) (small-told more) same

kind-told : (kind : List ℕ) (more : List (List ℕ)) → IsWritten violation_words keeps_violation (kind ∷ more) (violation_of kind more)
kind-told kind more found e =
    choose kind (codes "path") (made path_by (two_numbers more)) _ found (λ n. two-told (codes "path") path_by (λ x. refl) (λ x h. h) kind more n found)
    (choose kind (codes "within") (made Within (small_number more)) _ found (λ n. one-told (codes "within") Within (λ x. refl) (λ x h. h) kind more n found)
    (choose kind (codes "order") (made Order (small_number more)) _ found (λ n. one-told (codes "order") Order (λ x. refl) (λ x h. h) kind more n found)
    (choose kind (codes "grant") (made grant_by (two_numbers more)) _ found (λ n. two-told (codes "grant") grant_by (λ x. refl) (λ x h. h) kind more n found)
    (choose kind (codes "visit") (made visit_by (two_numbers more)) None found (λ n. two-told (codes "visit") visit_by (λ x. refl) (λ x h. h) kind more n found)
    (λ none. absurd (cc)) (bytes_eq kind (codes "visit")) refl)
    (bytes_eq kind (codes "grant")) refl)
    (bytes_eq kind (codes "order")) refl)
    (bytes_eq kind (codes "within")) refl)
    (bytes_eq kind (codes "path")) refl e

violation-told : (words : List (List ℕ)) → IsWritten violation_words keeps_violation words (violation words)
violation-told [] = none-told violation_words keeps_violation []
violation-told (kind ∷ more) = kind-told kind more

split : (a b : Bool) → (a && b) ≡ true → (a ≡ true) × (b ≡ true)
split true b h = (refl, h)
split false b h = absurd (cc)

pub zero-word : decimal 0 ≡ codes "0"
zero-word = (plain-parsed (codes "0") 0 refl).0

holder-case : (c : Command) (b : Bool) → b ≡ is_nothing c → keeps_command c ≡ true → (holder_words (cond b None (Some c)) ≡ command_words c) × (keeps_holder (cond b None (Some c)) ≡ true)
holder-case c true is keeps =
    let p = split (nat_eq c.train.0 0) (nat_eq c.route.0 0) (sym is) in
    let train : c.train.0 ≡ 0 = eqb-true c.train.0 0 p.0 in
    let route : c.route.0 ≡ 0 = eqb-true c.route.0 0 p.1 in
    (rw (train, route, zero-word) refl, refl)
holder-case c false is keeps = (refl, rw (keeps, ← is) refl)

prefix-told : (words : List (List ℕ)) → IsWritten (λ p. (decimal p.0 ∷ []) ++ ((decimal p.1.0 ∷ []) ++ (decimal p.1.1 ∷ []))) (λ p. is_small p.0 && (nat_le p.1.0 greatest_clause_number && is_small p.1.1)) words (train_prefix words)
prefix-told words =
    next-told (λ n. decimal n ∷ []) is_small (λ p. (decimal p.0 ∷ []) ++ (decimal p.1 ∷ [])) (λ p. nat_le p.0 greatest_clause_number && is_small p.1) (λ w. with_next (first_of plain_number_of w) small_number)
    (λ w. next-told (λ n. decimal n ∷ []) (λ n. nat_le n greatest_clause_number) (λ n. decimal n ∷ []) is_small small_number small-told w (first_of plain_number_of w) (first-told plain_number_of decimal (λ n. nat_le n greatest_clause_number) plain-parsed w))
    words (small_number words) (small-told words)

pub path-told : (words : List (List ℕ)) → IsWritten (list_words route_word) keeps_path words (train_path words)
path-told words = any-told (list_words route_word) (λ xs. list_all (λ r. is_from_1_to greatest_variable r.0) xs) words (members_of route_of words) (members-parsed route_of route_word (λ r. is_from_1_to greatest_variable r.0) route-parsed words)

abbrev Parts : Type 0
Parts = (ℕ × (ℕ × ℕ)) × (List RouteNo × Command)

abbrev parts_words : Parts → List (List ℕ)
parts_words p = ((decimal p.0.0 ∷ []) ++ ((decimal p.0.1.0 ∷ []) ++ (decimal p.0.1.1 ∷ []))) ++ (list_words route_word p.1.0 ++ command_words p.1.1)

abbrev keeps_parts : Parts → Bool
keeps_parts p = (is_small p.0.0 && (nat_le p.0.1.0 greatest_clause_number && is_small p.0.1.1)) && (keeps_path p.1.0 && keeps_command p.1.1)

-- the words of a train after the word `t`
abbrev pub after_mark : ConeTrain → List (List ℕ)
after_mark c = decimal c.train.0 ∷ decimal c.horizon ∷ decimal c.free ∷ (list_words route_word c.path ++ holder_words c.holder)

train-by : (p : Parts) → keeps_parts p ≡ true → (after_mark (train_by p) ≡ parts_words p) × (keeps_train (train_by p) ≡ true)
train-by p h =
    let prefix : Bool = is_small p.0.0 && (nat_le p.0.1.0 greatest_clause_number && is_small p.0.1.1) in
    let a = split prefix (keeps_path p.1.0 && keeps_command p.1.1) h in
    let b = split (keeps_path p.1.0) (keeps_command p.1.1) a.1 in
    let holder = holder-case p.1.1 (is_nothing p.1.1) refl b.1 in (
      ap (λ w. decimal p.0.0 ∷ decimal p.0.1.0 ∷ decimal p.0.1.1 ∷ (list_words route_word p.1.0 ++ w)) holder.0,
      both prefix (keeps_path p.1.0 && keeps_holder (written_holder p.1.1)) a.0 (both (keeps_path p.1.0) (keeps_holder (written_holder p.1.1)) b.0 holder.1),
    )

pub train-told : (words : List (List ℕ)) → IsWritten after_mark keeps_train words (cone_train words)
train-told words =
    made-told train_by parts_words keeps_parts after_mark keeps_train train-by words (with_next (train_prefix words) (λ w. with_next (train_path w) command))
    (next-told (λ p. (decimal p.0 ∷ []) ++ ((decimal p.1.0 ∷ []) ++ (decimal p.1.1 ∷ []))) (λ p. is_small p.0 && (nat_le p.1.0 greatest_clause_number && is_small p.1.1)) (λ p. list_words route_word p.0 ++ command_words p.1) (λ p. keeps_path p.0 && keeps_command p.1) (λ w. with_next (train_path w) command)
    (λ w. next-told (list_words route_word) keeps_path command_words keeps_command command command-told w (train_path w) (path-told w))
    words (train_prefix words) (prefix-told words))

pub trains-told : (words : List (List ℕ)) → IsWritten (flat_map train_words) (λ cs. has_member cs && list_all keeps_train cs) words (if_any (all_parts (codes "t") cone_train words))
trains-told words = any-told (flat_map train_words) (list_all keeps_train) words (all_parts (codes "t") cone_train words) (parts-told (codes "t") cone_train after_mark keeps_train train-told (length words) words)

pub pairs-told : (words : List (List ℕ)) → IsWritten (flat_map pair_words) (list_all keeps_pair) words (all_parts (codes "p") pair words)
pairs-told words = parts-told (codes "p") pair (λ p. command_words p.0 ++ command_words p.1) keeps_pair pair-told (length words) words

pub cone-told : (words : List (List ℕ)) → IsWritten cone_line_words keeps_cone words (cone words)
cone-told words =
    made-told cone_by (λ p. violation_words p.0 ++ (flat_map train_words p.1.0 ++ flat_map pair_words p.1.1)) (λ p. keeps_violation p.0 && ((has_member p.1.0 && list_all keeps_train p.1.0) && list_all keeps_pair p.1.1)) cone_line_words keeps_cone (λ p h. (refl, h)) words
    (with_next (violation words) (λ w. with_next (if_any (all_parts (codes "t") cone_train w)) (λ v. all_parts (codes "p") pair v)))
    (next-told violation_words keeps_violation (λ p. flat_map train_words p.0 ++ flat_map pair_words p.1) (λ p. (has_member p.0 && list_all keeps_train p.0) && list_all keeps_pair p.1) (λ w. with_next (if_any (all_parts (codes "t") cone_train w)) (λ v. all_parts (codes "p") pair v))
    (λ w. next-told (flat_map train_words) (λ cs. has_member cs && list_all keeps_train cs) (flat_map pair_words) (list_all keeps_pair) (λ v. all_parts (codes "p") pair v) pairs-told w (if_any (all_parts (codes "t") cone_train w)) (trains-told w))
    words (violation words) (violation-told words))

-- ---- all words

-- what takes all words
pub all-told : {X : Type 0} (write : X → List (List ℕ)) (good : X → Bool) (words : List (List ℕ)) (o : Option (X × List (List ℕ))) (x : X) → IsWritten write good words o → if_all o ≡ Some x → (words ≡ write x) × (good x ≡ true)
all-told write good words None x told e = absurd (cc)
all-told write good words (Some (found, [])) x told e =
    let same : found ≡ x = cc in
    let t = told (found, []) refl in
    (t.0 ∙ append-nil (write found) ∙ ap write same, ap good (sym same) ∙ t.1)
all-told write good words (Some (found, word ∷ more)) x told e = absurd (cc)
