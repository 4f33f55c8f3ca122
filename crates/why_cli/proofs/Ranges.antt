-- What words give is in range.
use Rattle.std.proofs.Common.{◌≡◌, ℕ, ◌≤◌, ◌&&◌, Bool, true, false, nat_le, if◌then◌else◌, bytes_eq, codes, List, [], ◌∷◌, Option, Some, None, is_some, option_and_then, refl, ap, sym, ◌∙◌, subst, leb-true}
use Rattle.rail_base.proofs.Members.{and_left, and_right}
use Rattle.rail_text.specs.Numbers.{number_of}
use Rattle.rail_words.specs.declared.request.InTime.{InTime}
use Rattle.rail_words.specs.Laws.{is_plain}
use Rattle.rail_words.specs.Requests.{RequestSeen, simulate, routes, verify, tightest, check, trial, IsInTimeInRange, in_time, in_time_of, within_of, max_ms_of, request_of}
use Rattle.rail_words.specs.Requests as requests
use Rattle.rail_words.proofs.Ranges.{requests_in_range}
use Rattle.why_words.specs.Wanted.{Wanted, AreStepsInRange, both_named, names_alone, names_in_time, options_named, with_time, check_words, by_check, of_design, or_else, wanted_of, words_with_proof}

-- the steps and the time, where they are given, are in range
pub record IsInRange (w : Wanted) : Type 0 where
  pub steps : AreStepsInRange w.steps
  pub in_time : IsInTimeInRange w.in_time

abbrev asking : Option ℕ → Option InTime → List ℕ → Option (List ℕ) → Wanted
asking steps t design f = record { steps = steps; in_time = t; design = design; file = f }

-- ---- names alone

by_names : (plain : Bool) (design : List ℕ) (f : Option (List ℕ)) (w : Wanted) → (if plain then Some (asking None None design f) else None) ≡ Some w → IsInRange w
by_names true design f w e = let same : asking None None design f ≡ w = cc in subst IsInRange same (record { steps = tt; in_time = tt })
by_names false design f w e = absurd (cc)

names_in_range : (words : List (List ℕ)) (w : Wanted) → names_alone words ≡ Some w → IsInRange w
names_in_range [] w e = absurd (cc)
names_in_range (program ∷ []) w e = absurd (cc)
names_in_range (program ∷ design ∷ []) w e = by_names (is_plain design) design None w e
names_in_range (program ∷ design ∷ proof ∷ []) w e = by_names (is_plain design && is_plain proof) design (Some proof) w e
names_in_range (program ∷ design ∷ proof ∷ word ∷ words) w e = absurd (cc)

-- ---- names behind the options of a time

passing : (test : ℕ → Bool) (found : Option ℕ) (n : ℕ) → option_and_then (λ k. if test k then Some k else None) found ≡ Some n → test n ≡ true
passing test None n e = absurd (cc)
passing test (Some k) n e = go (test k) refl e
  where
    go : (b : Bool) → test k ≡ b → (if b then Some k else None) ≡ Some n → test n ≡ true
    go true is e = let same : k ≡ n = cc in ap test (sym same) ∙ is
    go false is e = absurd (cc)

time_made : (within max_ms : Option ℕ) → ((n : ℕ) → within ≡ Some n → (1 ≤ n) × (n ≤ 256)) → ((n : ℕ) → max_ms ≡ Some n → n ≤ 86400000) → IsInTimeInRange (in_time within max_ms)
time_made None max_ms h i = tt
time_made (Some w) None h i = tt
time_made (Some w) (Some m) h i = ((h w refl).0, (h w refl).1, i m refl)

time_in_range : (within max_ms : List ℕ) → IsInTimeInRange (in_time_of within max_ms)
time_in_range within max_ms =
    time_made (within_of within) (max_ms_of max_ms)
    (λ n e. let is = passing (λ k. nat_le 1 k && nat_le k 256) (number_of within) n e in (leb-true 1 n (and_left (nat_le 1 n) (nat_le n 256) is), leb-true n 256 (and_right (nat_le 1 n) (nat_le n 256) is)))
    (λ n e. leb-true n 86400000 (passing (λ k. nat_le k 86400000) (number_of max_ms) n e))

with_time_in_range : (t : Option InTime) (o : Option Wanted) (w : Wanted) → IsInTimeInRange t → ((x : Wanted) → o ≡ Some x → IsInRange x) → with_time t o ≡ Some w → IsInRange w
with_time_in_range None None w range f e = absurd (cc)
with_time_in_range None (Some x) w range f e = absurd (cc)
with_time_in_range (Some t) None w range f e = absurd (cc)
with_time_in_range (Some t) (Some x) w range f e =
    let same : asking x.steps (Some t) x.design x.file ≡ w = cc in
    subst IsInRange same (record { steps = (f x refl).steps; in_time = range })

both_in_range : (design file : List ℕ) (w : Wanted) → both_named design file ≡ Some w → IsInRange w
both_in_range design file w e = by_names (is_plain design && is_plain file) design (Some file) w e

options_in_range : (options : Bool) (within max_ms design file : List ℕ) (w : Wanted) → (if options then with_time (in_time_of within max_ms) (both_named design file) else None) ≡ Some w → IsInRange w
options_in_range true within max_ms design file w e = with_time_in_range (in_time_of within max_ms) (both_named design file) w (time_in_range within max_ms) (both_in_range design file) e
options_in_range false within max_ms design file w e = absurd (cc)

times_in_range : (words : List (List ℕ)) (w : Wanted) → names_in_time words ≡ Some w → IsInRange w
times_in_range [] w e = absurd (cc)
times_in_range (a ∷ []) w e = absurd (cc)
times_in_range (a ∷ b ∷ []) w e = absurd (cc)
times_in_range (a ∷ b ∷ c ∷ []) w e = absurd (cc)
times_in_range (a ∷ b ∷ c ∷ d ∷ []) w e = absurd (cc)
times_in_range (a ∷ b ∷ c ∷ d ∷ f ∷ []) w e = absurd (cc)
times_in_range (a ∷ b ∷ c ∷ d ∷ f ∷ g ∷ []) w e = absurd (cc)
times_in_range (program ∷ first ∷ within ∷ second ∷ max_ms ∷ design ∷ file ∷ []) w e =
    options_in_range (bytes_eq first (codes "--within") && bytes_eq second (codes "--max-ms")) within max_ms design file w e
times_in_range (a ∷ b ∷ c ∷ d ∷ f ∷ g ∷ h ∷ i ∷ words) w e = absurd (cc)

-- ---- what a check asks for

check_in_range : (asked : Option RequestSeen) (w : Wanted) → ((a : RequestSeen) → asked ≡ Some a → requests.IsRequestInRange a) → by_check asked ≡ Some w → IsInRange w
check_in_range None w range e = absurd (cc)
check_in_range (Some (check n t design proof)) w range e =
    let same : asking (Some n) t design (Some proof) ≡ w = cc in
    let r = range (check n t design proof) refl in
    subst IsInRange same (record { steps = (r.0, r.1); in_time = r.2 })
check_in_range (Some (simulate design plan)) w range e = absurd (cc)
check_in_range (Some (routes design)) w range e = absurd (cc)
check_in_range (Some (verify n conflicts ticks mode design proof)) w range e = absurd (cc)
check_in_range (Some (tightest n conflicts ticks within bounds design proof)) w range e = absurd (cc)
check_in_range (Some (trial seed size)) w range e = absurd (cc)

alone_in_range : (first : Option Wanted) (w : Wanted) → ((x : Wanted) → first ≡ Some x → IsInRange x) → of_design first ≡ Some w → IsInRange w
alone_in_range None w f e = absurd (cc)
alone_in_range (Some x) w f e = go (is_some x.in_time) e
  where
    go : (timed : Bool) → (if timed then None else Some (record x { file = None })) ≡ Some w → IsInRange w
    go true e = absurd (cc)
    go false e = let same : asking x.steps x.in_time x.design None ≡ w = cc in subst IsInRange same (record { steps = (f x refl).steps; in_time = (f x refl).in_time })

-- ---- what is wanted

either : (first second : Option Wanted) (w : Wanted) → ((x : Wanted) → first ≡ Some x → IsInRange x) → ((x : Wanted) → second ≡ Some x → IsInRange x) → or_else first second ≡ Some w → IsInRange w
either (Some x) second w f g e = f w e
either None second w f g e = g w e

pub wanted_in_range : (words : List (List ℕ)) (w : Wanted) → wanted_of words ≡ Some w → IsInRange w
wanted_in_range words w e =
    let checked = λ (ws : List (List ℕ)) (x : Wanted). check_in_range (request_of ws) x (requests_in_range ws) in
    let alone = of_design (by_check (request_of (words_with_proof words))) in
    either (names_alone words) (or_else (names_in_time words) (or_else (by_check (request_of (check_words words))) alone)) w (names_in_range words)
    (λ x. either (names_in_time words) (or_else (by_check (request_of (check_words words))) alone) x (times_in_range words)
    (λ y. either (by_check (request_of (check_words words))) alone y (checked (check_words words))
    (λ z. alone_in_range (by_check (request_of (words_with_proof words))) z (checked (words_with_proof words))))) e
