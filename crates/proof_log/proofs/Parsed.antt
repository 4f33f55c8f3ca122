-- What is read of a word has that word as its text.
use Rattle.std.proofs.Common.{◌≡◌, ℕ, ◌<◌, ◌≤◌, ◌^◌, Bool, true, false, not, cond, ◌&&◌, ◌||◌, nat_le, nat_lt, nat_eq, List, [], ◌∷◌, ◌++◌, length, get_or, map, option_map, codes, decimal, Option, Some, None, refl, sym, ap, ◌∙◌, arith, eqb-true, suc, append_assoc}
use Rattle.std.specs.List.{list_all}
use Rattle.std.specs.Char.{is_ascii_digit}
use Rattle.std.specs.Str.Parse.{digits_value}
use Rattle.std.proofs.lemmas.Str.Parse.{digits_value_short}
use Rattle.std.proofs.lemmas.Fmt.{decimal-digits_value}
use Rattle.std.proofs.lemmas.Slice.Eq.{bytes_eq-Decides}
use Rattle.std.proofs.lemmas.Bool.Decides.{nat_tests}
use Rattle.rail_base.specs.declared.route.RouteNo.{RouteNo}
use Rattle.rail_text.specs.Numbers.{number_of}
use Rattle.sat_clause.specs.declared.lit.Lit.{Lit}
use Rattle.proof_log.specs.Words.{greatest_variable, greatest_clause_number, is_from_1_to, is_small, plain_number_of, if_small, small_number_of, if_from_1_to, variable_of, route_of, clause_number_of, literal_of, is_end, member_before, members_of}
use Rattle.proof_log.specs.ConeText.{literal_word, route_word, list_words}
use Rattle.rail_text.proofs.Numerals.{own}

-- ---- numbers

is-decimal : (size value : ℕ) (digits : Bool) (number : ℕ) → cond (nat_le 1 size && nat_le size 20 && digits && nat_lt value (2 ^ 64)) (Some value) None ≡ Some number
    → (0 < size) × (digits ≡ true) × (value < 2 ^ 64) × (value ≡ number)
is-decimal size value digits number e = grind (arith, nat_tests)

short-number : (size first : ℕ) (found : Option ℕ) (number : ℕ) → cond (nat_le size 18 && (nat_le size 1 || not (nat_eq first 48))) found None ≡ Some number
    → (found ≡ Some number) × (first ≡ 48 → size ≤ 1) × (size ≤ 18)
short-number size first found number e = grind (arith, nat_tests)

up-to : (greatest number : ℕ) → number < suc greatest → nat_le number greatest ≡ true
up-to greatest number h = grind (arith, nat_tests)

pub plain-parsed : (word : List ℕ) (number : ℕ) → plain_number_of word ≡ Some number → (decimal number ≡ word) × (nat_le number greatest_clause_number ≡ true)
plain-parsed word number e =
    let s = short-number (length word) (get_or word 0 0) (number_of word) number e in
    let d = is-decimal (length word) (digits_value 10 word) (list_all is_ascii_digit word) number s.0 in
    let below : digits_value 10 word < 10 ^ 18 = digits_value_short own word 18 d.1 s.2 in
    let most : digits_value 10 word ≤ greatest_clause_number = omega (arith, below) in
    (ap decimal (sym d.3) ∙ decimal-digits_value own word d.1 d.0 (λ h. let le : length word ≤ 1 = s.1 h in omega (arith, d.0)) d.2, up-to greatest_clause_number number (omega (arith, most, d.3)))

within-is : (greatest number : ℕ) (found : Option ℕ) → if_from_1_to greatest found ≡ Some number → (found ≡ Some number) × (is_from_1_to greatest number ≡ true)
within-is greatest number None e = absurd (cc)
within-is greatest number (Some n) e = chosen n (is_from_1_to greatest n) refl e where
  chosen : (n : ℕ) (b : Bool) → b ≡ is_from_1_to greatest n → cond b (Some n) None ≡ Some number → (Some n ≡ Some number) × (is_from_1_to greatest number ≡ true)
  chosen n true is e = (e, let same : n ≡ number = cc in rw (← same) (sym is))
  chosen n false is e = absurd (cc)

small-is : (number : ℕ) (found : Option ℕ) → if_small found ≡ Some number → (found ≡ Some number) × (is_small number ≡ true)
small-is number None e = absurd (cc)
small-is number (Some n) e = chosen n (is_small n) refl e where
  chosen : (n : ℕ) (b : Bool) → b ≡ is_small n → cond b (Some n) None ≡ Some number → (Some n ≡ Some number) × (is_small number ≡ true)
  chosen n true is e = (e, let same : n ≡ number = cc in rw (← same) (sym is))
  chosen n false is e = absurd (cc)

-- what is read of a word: its text, and that it is in range
pub small-parsed : (word : List ℕ) (number : ℕ) → small_number_of word ≡ Some number → (decimal number ≡ word) × (is_small number ≡ true)
small-parsed word number e = let w = small-is number (plain_number_of word) e in ((plain-parsed word number w.0).0, w.1)

pub clause_number-parsed : (word : List ℕ) (number : ℕ) → clause_number_of word ≡ Some number → (decimal number ≡ word) × (is_from_1_to greatest_clause_number number ≡ true)
clause_number-parsed word number e = let w = within-is greatest_clause_number number (plain_number_of word) e in ((plain-parsed word number w.0).0, w.1)

variable-parsed : (word : List ℕ) (number : ℕ) → variable_of word ≡ Some number → (decimal number ≡ word) × (is_from_1_to greatest_variable number ≡ true)
variable-parsed word number e = let w = within-is greatest_variable number (plain_number_of word) e in ((plain-parsed word number w.0).0, w.1)

route-case : (word : List ℕ) (found : Option ℕ) (r : RouteNo) → found ≡ variable_of word → option_map (λ n. record { 0 = n }) found ≡ Some r → (route_word r ≡ word) × (is_from_1_to greatest_variable r.0 ≡ true)
route-case word None r is e = absurd (cc)
route-case word (Some n) r is e =
    let same : ◌≡◌ {A = RouteNo} (record { 0 = n }) r = cc in
    let number : n ≡ r.0 = ap (λ q. q.0) same in
    let s = variable-parsed word n (sym is) in
    (rw (← number) s.0, rw (← number) s.1)

pub route-parsed : (word : List ℕ) (r : RouteNo) → route_of word ≡ Some r → (route_word r ≡ word) × (is_from_1_to greatest_variable r.0 ≡ true)
route-parsed word r e = route-case word (variable_of word) r refl e

signed : (negated : Bool) (digits : List ℕ) (found : Option ℕ) (l : Lit) → found ≡ variable_of digits → option_map (λ v. record { var = v; negated = negated }) found ≡ Some l
    → (l.negated ≡ negated) × (decimal l.var ≡ digits) × (is_from_1_to greatest_variable l.var ≡ true)
signed negated digits None l is e = absurd (cc)
signed negated digits (Some v) l is e =
    let same : record { var = v; negated = negated } ≡ l = cc in
    let var : v ≡ l.var = ap (λ k. k.var) same in
    let s = variable-parsed digits v (sym is) in
    (sym (ap (λ k. k.negated) same), rw (← var) s.0, rw (← var) s.1)

literal-case : (first : ℕ) (digits : List ℕ) (l : Lit) (b : Bool) → b ≡ nat_eq first 45
    → cond b (option_map (λ v. record { var = v; negated = true }) (variable_of digits)) (option_map (λ v. record { var = v; negated = false }) (variable_of (first ∷ digits))) ≡ Some l
    → (literal_word l ≡ first ∷ digits) × (is_from_1_to greatest_variable l.var ≡ true)
literal-case first digits l true is e =
    let s = signed true digits (variable_of digits) l refl e in
    let at : first ≡ 45 = eqb-true first 45 (sym is) in
    (rw (s.0, s.1, at) refl, s.2)
literal-case first digits l false is e =
    let s = signed false (first ∷ digits) (variable_of (first ∷ digits)) l refl e in
    (rw (s.0, s.1) refl, s.2)

pub literal-parsed : (word : List ℕ) (l : Lit) → literal_of word ≡ Some l → (literal_word l ≡ word) × (is_from_1_to greatest_variable l.var ≡ true)
literal-parsed [] l e = absurd (cc)
literal-parsed (first ∷ digits) l e = literal-case first digits l (nat_eq first 45) refl e

-- ---- lists

end-word : (word : List ℕ) → is_end word ≡ true → word ≡ codes "0"
end-word word h = (bytes_eq-Decides word (codes "0")).0 h

-- the words of a list that was found, with its end and the words after it; all members are in range
abbrev Found : {X : Type 0} → (X → List ℕ) → (X → Bool) → List (List ℕ) → List X × List (List ℕ) → Type 0
Found word_of good words found = (words ≡ map word_of found.0 ++ codes "0" ∷ found.1) × (list_all good found.0 ≡ true)

members-step : {X : Type 0} (word_of : X → List ℕ) (good : X → Bool) (word : List ℕ) (more : List (List ℕ)) (b : Bool) (o : Option X) (rest : Option (List X × List (List ℕ))) (found : List X × List (List ℕ))
    → b ≡ is_end word → ((x : X) → o ≡ Some x → (word_of x ≡ word) × (good x ≡ true)) → ((f : List X × List (List ℕ)) → rest ≡ Some f → Found word_of good more f)
    → cond b (Some ([], more)) (member_before o rest) ≡ Some found → Found word_of good (word ∷ more) found
members-step {X} word_of good word more true o rest found is each step e =
    let same : ◌≡◌ {A = List X × List (List ℕ)} ([], more) found = cc in
    let none : [] ≡ found.0 = ap (λ f. f.0) same in
    let left : more ≡ found.1 = ap (λ f. f.1) same in
    (rw (← none, ← left, end-word word (sym is)) refl, rw (← none) refl)
members-step word_of good word more false None rest found is each step e = absurd (cc)
members-step word_of good word more false (Some x) None found is each step e = absurd (cc)
members-step {X} word_of good word more false (Some x) (Some f) found is each step e =
    let same : ◌≡◌ {A = List X × List (List ℕ)} (x ∷ f.0, f.1) found = cc in
    let some : x ∷ f.0 ≡ found.0 = ap (λ g. g.0) same in
    let left : f.1 ≡ found.1 = ap (λ g. g.1) same in
    let s = step f refl in
    let p = each x refl in
    (rw (← some, ← left, p.0, s.0) refl, rw (← some, p.1, s.1) refl)

members-found : {X : Type 0} (member : List ℕ → Option X) (word_of : X → List ℕ) (good : X → Bool) → ((word : List ℕ) (x : X) → member word ≡ Some x → (word_of x ≡ word) × (good x ≡ true))
    → (words : List (List ℕ)) (found : List X × List (List ℕ)) → members_of member words ≡ Some found → Found word_of good words found
members-found member word_of good each [] found e = absurd (cc)
members-found member word_of good each (word ∷ more) found e =
    members-step word_of good word more (is_end word) (member word) (members_of member more) found refl (each word) (members-found member word_of good each more) e

-- the words of a list that was found
pub members-parsed : {X : Type 0} (member : List ℕ → Option X) (word_of : X → List ℕ) (good : X → Bool) → ((word : List ℕ) (x : X) → member word ≡ Some x → (word_of x ≡ word) × (good x ≡ true))
    → (words : List (List ℕ)) (found : List X × List (List ℕ)) → members_of member words ≡ Some found → (words ≡ list_words word_of found.0 ++ found.1) × (list_all good found.0 ≡ true)
members-parsed member word_of good each words found e =
    let f = members-found member word_of good each words found e in
    (f.0 ∙ sym (append_assoc (map word_of found.0) (codes "0" ∷ []) found.1), f.1)
