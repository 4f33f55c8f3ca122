-- Words ask for nothing exactly where the fixed command does not take them, or a number among them is out of range.
use Rattle.std.proofs.Common.{◌≡◌, ◌⊎◌, ◌∙◌, ◌<◌, ◌||◌, ℕ, Bool, true, false, List, [], ◌∷◌, length, Option, Some, None, IsSome, is_some, nat_eq, codes, refl, sym, subst, ap, arith, inl, inr, true≢false, slice_index_or}
use Rattle.std.specs.Prelude.{option_and_then, option_map}
use Rattle.std.specs.List.{list_all}
use Rattle.std.specs.Str.{bytes_eq}
use Rattle.std.proofs.lemmas.Bool.Decides.{nat_tests}
use Rattle.std.proofs.lemmas.Slice.Eq.{bytes_eq-Decides}
use Rattle.clap.specs.Kinds.{Kinds}
use Rattle.clap.specs.Simple.{Shape, argument_words, built, label_of}
use Rattle.clap.specs.Walk.{Row, Text, answers_to, first_of, rows_after}
use Rattle.clap.specs.Words.{fault_of}
use Rattle.rail_words.specs.FixedCommand.{rcv_app, is_taken, simulate_app, routes_app, verify_app, tightest_app, check_app, trial_app}
use Rattle.rail_words.specs.Requests.{asked_by, check_with, check_within, conflicts_of, in_time, in_time_with, is_given, max_ms_of, mode_of, request_of, seed_of, size_of, steps_of, ticks_of, tightest_with, tightest_within, trial_with, trial_within, verify_with, verify_within, within_of}
use Rattle.rail_words.specs.declared.request.InTime.{InTime}
use Rattle.rail_words.specs.declared.request.SearchMode.{SearchMode}
use Rattle.rail_words.specs.Laws.{IsLacking, IsFaulty, AsksForNothing, SilenceHasACause}
use Rattle.rail_words.proofs.Entered.{IsAmong, IsNotHelp, level_enters}
use Rattle.rail_words.proofs.Reading.{request_of-refused, request_of-taken}
use Rattle.rail_words.proofs.Values.{AreGiven, level_given, gives}

-- the value is there, but is no number in its range
abbrev IsOut : (Text → Option ℕ) → Option Text → Type 0
IsOut number_of_text value = (text : Text) × (value ≡ Some text) × (number_of_text text ≡ None)

-- ---- values that are there

verify_numbers : (steps conflicts ticks : Option ℕ) (mode : Option SearchMode) (design proof : Text) → IsSome (verify_within steps conflicts ticks mode design proof) ⊎ (steps ≡ None) ⊎ (conflicts ≡ None) ⊎ (ticks ≡ None) ⊎ (mode ≡ None)
verify_numbers None conflicts ticks mode design proof = inr (inl refl)
verify_numbers (Some n) None ticks mode design proof = inr (inr (inl refl))
verify_numbers (Some n) (Some c) None mode design proof = inr (inr (inr (inl refl)))
verify_numbers (Some n) (Some c) (Some t) None design proof = inr (inr (inr (inr refl)))
verify_numbers (Some n) (Some c) (Some t) (Some mode) design proof = inl refl

-- only any number of steps without bounds, and normal plans with them, are no way to look for a plan
no_mode : (bounds any normal : Bool) → mode_of bounds any normal ≡ None → ((bounds ≡ false) × (any ≡ true)) ⊎ ((bounds ≡ true) × (normal ≡ true))
no_mode false false false e = absurd (cc)
no_mode false false true e = absurd (cc)
no_mode false true normal e = inl (refl, refl)
no_mode true false false e = absurd (cc)
no_mode true true false e = absurd (cc)
no_mode true false true e = inr (refl, refl)
no_mode true true true e = inr (refl, refl)

-- nor are normal plans with bounds
normal_bounds : (any : Bool) → mode_of true any true ≡ None
normal_bounds false = refl
normal_bounds true = refl

verify_values : (a b c : Option Text) (mode : Option SearchMode) (d e : Option Text) (steps conflicts ticks design proof : Text) → a ≡ Some steps → b ≡ Some conflicts → c ≡ Some ticks → d ≡ Some design → e ≡ Some proof
    → IsSome (verify_with a b c mode d e) ⊎ (steps_of steps ≡ None) ⊎ (conflicts_of conflicts ≡ None) ⊎ (ticks_of ticks ≡ None) ⊎ (mode ≡ None)
verify_values a b c mode d e steps conflicts ticks design proof f g h i j = rw (f, g, h, i, j) (verify_numbers (steps_of steps) (conflicts_of conflicts) (ticks_of ticks) mode design proof)

tightest_numbers : (steps conflicts ticks within : Option ℕ) (bounds : Bool) (design proof : Text) → IsSome (tightest_within steps conflicts ticks within bounds design proof) ⊎ (steps ≡ None) ⊎ (conflicts ≡ None) ⊎ (ticks ≡ None) ⊎ (within ≡ None)
tightest_numbers None conflicts ticks within bounds design proof = inr (inl refl)
tightest_numbers (Some n) None ticks within bounds design proof = inr (inr (inl refl))
tightest_numbers (Some n) (Some c) None within bounds design proof = inr (inr (inr (inl refl)))
tightest_numbers (Some n) (Some c) (Some t) None bounds design proof = inr (inr (inr (inr refl)))
tightest_numbers (Some n) (Some c) (Some t) (Some w) bounds design proof = inl refl

tightest_values : (a b c d : Option Text) (bounds : Bool) (e f : Option Text) (steps conflicts ticks within design proof : Text) → a ≡ Some steps → b ≡ Some conflicts → c ≡ Some ticks → d ≡ Some within → e ≡ Some design → f ≡ Some proof
    → IsSome (tightest_with a b c d bounds e f) ⊎ (steps_of steps ≡ None) ⊎ (conflicts_of conflicts ≡ None) ⊎ (ticks_of ticks ≡ None) ⊎ (within_of within ≡ None)
tightest_values a b c d bounds e f steps conflicts ticks within design proof g h i j k l = rw (g, h, i, j, k, l) (tightest_numbers (steps_of steps) (conflicts_of conflicts) (ticks_of ticks) (within_of within) bounds design proof)

check_numbers : (steps : Option ℕ) (time : Option (Option InTime)) (design proof : Text) → IsSome (check_within steps time design proof) ⊎ (steps ≡ None) ⊎ (time ≡ None)
check_numbers None time design proof = inr (inl refl)
check_numbers (Some n) None design proof = inr (inr refl)
check_numbers (Some n) (Some time) design proof = inl refl

check_values : (a : Option Text) (time : Option (Option InTime)) (b c : Option Text) (steps design proof : Text) → a ≡ Some steps → b ≡ Some design → c ≡ Some proof → IsSome (check_with a time b c) ⊎ (steps_of steps ≡ None) ⊎ (time ≡ None)
check_values a time b c steps design proof f g h = rw (f, g, h) (check_numbers (steps_of steps) time design proof)

-- why two numbers put no time into a within
no_numbers : (within max_ms : Option ℕ) → option_map Some (in_time within max_ms) ≡ None → (within ≡ None) ⊎ (max_ms ≡ None)
no_numbers None max_ms e = inl refl
no_numbers (Some w) None e = inr refl
no_numbers (Some w) (Some m) e = absurd (cc)

-- why two options do not
no_time : (within max_ms : Option Text) → in_time_with within max_ms ≡ None
    → IsOut within_of within ⊎ IsOut max_ms_of max_ms ⊎ (IsSome within × (max_ms ≡ None)) ⊎ (IsSome max_ms × (within ≡ None))
no_time None None e = absurd (cc)
no_time None (Some m) e = inr (inr (inr (refl, refl)))
no_time (Some w) None e = inr (inr (inl (refl, refl)))
no_time (Some w) (Some m) e = elim (no_numbers (within_of w) (max_ms_of m) e) [
  | inl none ↦ inl (w, refl, none)
  | inr none ↦ inr (inl (m, refl, none))
]

trial_numbers : (seed size : Option ℕ) → IsSome (trial_within seed size) ⊎ (seed ≡ None) ⊎ (size ≡ None)
trial_numbers None size = inr (inl refl)
trial_numbers (Some s) None = inr (inr refl)
trial_numbers (Some s) (Some k) = inl refl

trial_values : (a b : Option Text) (seed size : Text) → a ≡ Some seed → b ≡ Some size → IsSome (trial_with a b) ⊎ (seed_of seed ≡ None) ⊎ (size_of size ≡ None)
trial_values a b seed size f g = rw (f, g) (trial_numbers (seed_of seed) (size_of size))

-- ---- the subcommands

-- the subcommand with its required arguments asks for something, or a number of it is out of range
abbrev Asks : Shape → Type 0
Asks s = (rows : List Row) → AreGiven s.rules rows → IsSome (asked_by (s.name, rows)) ⊎ IsLacking (s.name, rows)

simulate_asks : Asks (slice_index_or (built rcv_app).subs 0 simulate_app.top)
simulate_asks rows given =
    let design = given.0 refl in
    let plan = given.1.0 refl in
    inl (rw (design.1, plan.1) refl)

routes_asks : Asks (slice_index_or (built rcv_app).subs 1 routes_app.top)
routes_asks rows given = let design = given.0 refl in inl (rw design.1 refl)

verify_asks : Asks (slice_index_or (built rcv_app).subs 2 verify_app.top)
verify_asks rows given =
    let steps = given.0 refl in
    let conflicts = given.1.0 refl in
    let ticks = given.1.1.0 refl in
    let design = given.1.1.1.1.1.1.1.0 refl in
    let proof = given.1.1.1.1.1.1.1.1.0 refl in
    let flags = no_mode (is_given (codes "bounds") rows) (is_given (codes "any") rows) (is_given (codes "normal") rows) in
    elim (verify_values _ _ _ (mode_of (is_given (codes "bounds") rows) (is_given (codes "any") rows) (is_given (codes "normal") rows)) _ _ steps.0 conflicts.0 ticks.0 design.0 proof.0 steps.1 conflicts.1 ticks.1 design.1 proof.1) [
      | inl ok ↦ inl ok
      | inr (inl none) ↦ inr (inl (refl, inl (inl (steps.0, steps.1, none))))
      | inr (inr (inl none)) ↦ inr (inl (refl, inl (inr (inl (conflicts.0, conflicts.1, none)))))
      | inr (inr (inr (inl none))) ↦ inr (inl (refl, inl (inr (inr (ticks.0, ticks.1, none)))))
      | inr (inr (inr (inr none))) ↦ inr (inl (refl, inr (flags none)))
    ]

tightest_asks : Asks (slice_index_or (built rcv_app).subs 3 tightest_app.top)
tightest_asks rows given =
    let steps = given.0 refl in
    let conflicts = given.1.0 refl in
    let ticks = given.1.1.0 refl in
    let within = given.1.1.1.0 refl in
    let design = given.1.1.1.1.1.1.0 refl in
    let proof = given.1.1.1.1.1.1.1.0 refl in
    elim (tightest_values _ _ _ _ (is_given (codes "bounds") rows) _ _ steps.0 conflicts.0 ticks.0 within.0 design.0 proof.0 steps.1 conflicts.1 ticks.1 within.1 design.1 proof.1) [
      | inl ok ↦ inl ok
      | inr (inl none) ↦ inr (inr (inl (refl, inl (inl (steps.0, steps.1, none)))))
      | inr (inr (inl none)) ↦ inr (inr (inl (refl, inl (inr (inl (conflicts.0, conflicts.1, none))))))
      | inr (inr (inr (inl none))) ↦ inr (inr (inl (refl, inl (inr (inr (ticks.0, ticks.1, none))))))
      | inr (inr (inr (inr none))) ↦ inr (inr (inl (refl, inr (within.0, within.1, none))))
    ]

check_asks : Asks (slice_index_or (built rcv_app).subs 4 check_app.top)
check_asks rows given =
    let steps = given.1.1.0 refl in
    let design = given.1.1.1.0 refl in
    let proof = given.1.1.1.1.0 refl in
    elim (check_values _ (in_time_with (first_of (codes "within") rows) (first_of (codes "max-ms") rows)) _ _ steps.0 design.0 proof.0 steps.1 design.1 proof.1) [
      | inl ok ↦ inl ok
      | inr (inl none) ↦ inr (inr (inr (inl (refl, inl (steps.0, steps.1, none)))))
      | inr (inr none) ↦ inr (inr (inr (inl (refl, inr (no_time (first_of (codes "within") rows) (first_of (codes "max-ms") rows) none)))))
    ]

trial_asks : Asks (slice_index_or (built rcv_app).subs 5 trial_app.top)
trial_asks rows given =
    let seed = given.1.0 refl in
    let size = given.1.1.0 refl in
    elim (trial_values _ _ seed.0 size.0 seed.1 size.1) [
      | inl ok ↦ inl ok
      | inr (inl none) ↦ inr (inr (inr (inr (refl, inl (seed.0, seed.1, none)))))
      | inr (inr none) ↦ inr (inr (inr (inr (refl, inr (size.0, size.1, none)))))
    ]

left_holds : (b : Bool) → (b || false) ≡ true → b ≡ true
left_holds true e = refl
left_holds false e = e

-- the subcommand `help` is not entered
no_help : (word : Text) (s : Shape) → s.name ≡ codes "help" → s.aliases ≡ [] → answers_to word (label_of s) ≡ true → IsNotHelp word → ⊥
no_help word s name aliases answers not_help =
    let named : (bytes_eq (codes "help") word || false) ≡ true = rw (name, aliases) at answers in
    let is : codes "help" ≡ word = (bytes_eq-Decides (codes "help") word).0 (left_holds _ named) in
    true≢false (subst IsNotHelp (sym is) not_help)

abbrev GivesAndAsks : Shape → Type 0
GivesAndAsks s = (list_all gives s.rules ≡ true) × Asks s

each_asks : (word : Text) (s : Shape) → IsAmong s (built rcv_app).subs → answers_to word (label_of s) ≡ true → IsNotHelp word → GivesAndAsks s
each_asks word s (inl is) answers not_help = subst GivesAndAsks (sym is) (refl, simulate_asks)
each_asks word s (inr (inl is)) answers not_help = subst GivesAndAsks (sym is) (refl, routes_asks)
each_asks word s (inr (inr (inl is))) answers not_help = subst GivesAndAsks (sym is) (refl, verify_asks)
each_asks word s (inr (inr (inr (inl is)))) answers not_help = subst GivesAndAsks (sym is) (refl, tightest_asks)
each_asks word s (inr (inr (inr (inr (inl is))))) answers not_help = subst GivesAndAsks (sym is) (refl, check_asks)
each_asks word s (inr (inr (inr (inr (inr (inl is)))))) answers not_help = subst GivesAndAsks (sym is) (refl, trial_asks)
each_asks word s (inr (inr (inr (inr (inr (inr (inl is))))))) answers not_help = absurd (no_help word s (ap (λ (x : Shape). x.name) is) (ap (λ (x : Shape). x.aliases) is) answers not_help)
each_asks word s (inr (inr (inr (inr (inr (inr (inr none))))))) answers not_help = absurd none

-- ---- the words

no_kinds : (kinds : Kinds) → nat_eq (length kinds) 0 ≡ true → kinds ≡ []
no_kinds [] e = refl
no_kinds (k ∷ ks) e = let more : 0 < length (k ∷ ks) = omega arith in absurd (grind (arith, nat_tests))

-- words that the fixed command takes ask for something, or a number among them is out of range
taken_words_ask : (words : List Text) → is_taken words ≡ true → IsSome (request_of words) ⊎ IsFaulty words
taken_words_ask words taken =
    let in_sub = level_enters (built rcv_app) (argument_words rcv_app words) refl refl (no_kinds (fault_of rcv_app words) taken) in
    let parts = each_asks in_sub.word in_sub.command in_sub.among in_sub.answers in_sub.not_help in
    let rows = rows_after in_sub.command.rules [] in_sub.rest in
    let read : request_of words ≡ asked_by (in_sub.command.name, rows) = request_of-taken words taken ∙ ap (option_and_then asked_by) in_sub.is in
    elim (parts.1 rows (level_given in_sub.command in_sub.rest parts.0 in_sub.takes)) [
      | inl asked ↦ inl (subst IsSome (sym read) asked)
      | inr out ↦ inr ((in_sub.command.name, rows), in_sub.is, out)
    ]

-- words that ask for nothing are not taken, or a number among them is out of range
pub asks_nothing : (words : List Text) → request_of words ≡ None → AsksForNothing words
asks_nothing words none = go (is_taken words) refl
  where
    go : (b : Bool) → is_taken words ≡ b → (is_taken words ≡ false) ⊎ IsFaulty words
    go false e = inl e
    go true e = elim (taken_words_ask words e) [
      | inl asked ↦ absurd (true≢false (sym asked ∙ ap is_some none))
      | inr out ↦ inr out
    ]

-- ---- a number out of range

verify_lacks : (steps conflicts ticks : Option ℕ) (mode : Option SearchMode) (design proof : Text) → (steps ≡ None) ⊎ (conflicts ≡ None) ⊎ (ticks ≡ None) → verify_within steps conflicts ticks mode design proof ≡ None
verify_lacks None conflicts ticks mode design proof out = refl
verify_lacks (Some n) None ticks mode design proof out = refl
verify_lacks (Some n) (Some c) None mode design proof out = refl
verify_lacks (Some n) (Some c) (Some t) mode design proof out = grind arith

-- in no way
nothing_within : (steps conflicts ticks : Option ℕ) (design proof : Text) → verify_within steps conflicts ticks None design proof ≡ None
nothing_within None conflicts ticks design proof = refl
nothing_within (Some n) None ticks design proof = refl
nothing_within (Some n) (Some c) None design proof = refl
nothing_within (Some n) (Some c) (Some t) design proof = refl

nothing_with : (a b c d e : Option Text) → verify_with a b c None d e ≡ None
nothing_with None b c d e = refl
nothing_with (Some steps) None c d e = refl
nothing_with (Some steps) (Some conflicts) None d e = refl
nothing_with (Some steps) (Some conflicts) (Some ticks) None e = refl
nothing_with (Some steps) (Some conflicts) (Some ticks) (Some design) None = refl
nothing_with (Some steps) (Some conflicts) (Some ticks) (Some design) (Some proof) = nothing_within (steps_of steps) (conflicts_of conflicts) (ticks_of ticks) design proof

unread : (number_of_text : Text → Option ℕ) (text : Text) → IsOut number_of_text (Some text) → number_of_text text ≡ None
unread number_of_text text (other, is, none) = let same : text ≡ other = cc in ap number_of_text same ∙ none

verify_unread : (a b c : Option Text) (mode : Option SearchMode) (d e : Option Text) → IsOut steps_of a ⊎ IsOut conflicts_of b ⊎ IsOut ticks_of c → verify_with a b c mode d e ≡ None
verify_unread None b c mode d e out = refl
verify_unread (Some steps) None c mode d e out = refl
verify_unread (Some steps) (Some conflicts) None mode d e out = refl
verify_unread (Some steps) (Some conflicts) (Some ticks) mode None e out = refl
verify_unread (Some steps) (Some conflicts) (Some ticks) mode (Some design) None out = refl
verify_unread (Some steps) (Some conflicts) (Some ticks) mode (Some design) (Some proof) (inl out) = verify_lacks _ _ _ mode design proof (inl (unread steps_of steps out))
verify_unread (Some steps) (Some conflicts) (Some ticks) mode (Some design) (Some proof) (inr (inl out)) = verify_lacks _ _ _ mode design proof (inr (inl (unread conflicts_of conflicts out)))
verify_unread (Some steps) (Some conflicts) (Some ticks) mode (Some design) (Some proof) (inr (inr out)) = verify_lacks _ _ _ mode design proof (inr (inr (unread ticks_of ticks out)))

tightest_lacks : (steps conflicts ticks within : Option ℕ) (bounds : Bool) (design proof : Text) → ((steps ≡ None) ⊎ (conflicts ≡ None) ⊎ (ticks ≡ None)) ⊎ (within ≡ None) → tightest_within steps conflicts ticks within bounds design proof ≡ None
tightest_lacks None conflicts ticks within bounds design proof out = refl
tightest_lacks (Some n) None ticks within bounds design proof out = refl
tightest_lacks (Some n) (Some c) None within bounds design proof out = refl
tightest_lacks (Some n) (Some c) (Some t) None bounds design proof out = refl
tightest_lacks (Some n) (Some c) (Some t) (Some w) bounds design proof out = grind arith

tightest_unread : (a b c d : Option Text) (bounds : Bool) (e f : Option Text) → (IsOut steps_of a ⊎ IsOut conflicts_of b ⊎ IsOut ticks_of c) ⊎ IsOut within_of d → tightest_with a b c d bounds e f ≡ None
tightest_unread None b c d bounds e f out = refl
tightest_unread (Some steps) None c d bounds e f out = refl
tightest_unread (Some steps) (Some conflicts) None d bounds e f out = refl
tightest_unread (Some steps) (Some conflicts) (Some ticks) None bounds e f out = refl
tightest_unread (Some steps) (Some conflicts) (Some ticks) (Some within) bounds None f out = refl
tightest_unread (Some steps) (Some conflicts) (Some ticks) (Some within) bounds (Some design) None out = refl
tightest_unread (Some steps) (Some conflicts) (Some ticks) (Some within) bounds (Some design) (Some proof) (inl (inl out)) = tightest_lacks _ _ _ _ bounds design proof (inl (inl (unread steps_of steps out)))
tightest_unread (Some steps) (Some conflicts) (Some ticks) (Some within) bounds (Some design) (Some proof) (inl (inr (inl out))) = tightest_lacks _ _ _ _ bounds design proof (inl (inr (inl (unread conflicts_of conflicts out))))
tightest_unread (Some steps) (Some conflicts) (Some ticks) (Some within) bounds (Some design) (Some proof) (inl (inr (inr out))) = tightest_lacks _ _ _ _ bounds design proof (inl (inr (inr (unread ticks_of ticks out))))
tightest_unread (Some steps) (Some conflicts) (Some ticks) (Some within) bounds (Some design) (Some proof) (inr out) = tightest_lacks _ _ _ _ bounds design proof (inr (unread within_of within out))

-- numbers of which one is missing put no time into a within
time_lacks : (within max_ms : Option ℕ) → (within ≡ None) ⊎ (max_ms ≡ None) → option_map Some (in_time within max_ms) ≡ None
time_lacks None max_ms out = refl
time_lacks (Some w) None out = refl
time_lacks (Some w) (Some m) out = grind arith

time_unread : (within max_ms : Option Text) → IsOut within_of within ⊎ IsOut max_ms_of max_ms ⊎ (IsSome within × (max_ms ≡ None)) ⊎ (IsSome max_ms × (within ≡ None)) → in_time_with within max_ms ≡ None
time_unread None None (inl (text, is, none)) = absurd (cc)
time_unread None None (inr (inl (text, is, none))) = absurd (cc)
time_unread None None (inr (inr (inl (some, none)))) = absurd (cc)
time_unread None None (inr (inr (inr (some, none)))) = absurd (cc)
time_unread None (Some m) out = refl
time_unread (Some w) None out = refl
time_unread (Some w) (Some m) (inl out) = time_lacks _ _ (inl (unread within_of w out))
time_unread (Some w) (Some m) (inr (inl out)) = time_lacks _ _ (inr (unread max_ms_of m out))
time_unread (Some w) (Some m) (inr (inr (inl (some, none)))) = absurd (cc)
time_unread (Some w) (Some m) (inr (inr (inr (some, none)))) = absurd (cc)

-- a check of no number of steps, or of no time
timeless : (steps : Option ℕ) (design proof : Text) → check_within steps None design proof ≡ None
timeless None design proof = refl
timeless (Some n) design proof = refl

check_unread : (a : Option Text) (time : Option (Option InTime)) (b c : Option Text) → IsOut steps_of a ⊎ (time ≡ None) → check_with a time b c ≡ None
check_unread None time b c out = refl
check_unread (Some steps) time None c out = refl
check_unread (Some steps) time (Some design) None out = refl
check_unread (Some steps) time (Some design) (Some proof) (inl out) = ap (λ n. check_within n time design proof) (unread steps_of steps out)
check_unread (Some steps) time (Some design) (Some proof) (inr none) = ap (λ t. check_within (steps_of steps) t design proof) none ∙ timeless (steps_of steps) design proof

trial_lacks : (seed size : Option ℕ) → (seed ≡ None) ⊎ (size ≡ None) → trial_within seed size ≡ None
trial_lacks None size out = refl
trial_lacks (Some s) None out = refl
trial_lacks (Some s) (Some k) out = grind arith

trial_unread : (a b : Option Text) → IsOut seed_of a ⊎ IsOut size_of b → trial_with a b ≡ None
trial_unread None b out = refl
trial_unread (Some seed) None out = refl
trial_unread (Some seed) (Some size) (inl out) = trial_lacks _ _ (inl (unread seed_of seed out))
trial_unread (Some seed) (Some size) (inr out) = trial_lacks _ _ (inr (unread size_of size out))

-- a subcommand with a number out of range asks for nothing
lacking : (name : Text) (rows : List Row) → IsLacking (name, rows) → asked_by (name, rows) ≡ None
lacking name rows (inl (is, inl out)) = rw is (verify_unread (first_of (codes "steps") rows) (first_of (codes "conflicts") rows) (first_of (codes "ticks") rows) (mode_of (is_given (codes "bounds") rows) (is_given (codes "any") rows) (is_given (codes "normal") rows)) (first_of (codes "DESIGN") rows) (first_of (codes "PROOF") rows) out)
lacking name rows (inl (is, inr (inr flags))) =
    rw (is, flags.0, flags.1, normal_bounds (is_given (codes "any") rows)) (nothing_with (first_of (codes "steps") rows) (first_of (codes "conflicts") rows) (first_of (codes "ticks") rows) (first_of (codes "DESIGN") rows) (first_of (codes "PROOF") rows))
lacking name rows (inl (is, inr (inl flags))) = rw (is, flags.0, flags.1) (nothing_with (first_of (codes "steps") rows) (first_of (codes "conflicts") rows) (first_of (codes "ticks") rows) (first_of (codes "DESIGN") rows) (first_of (codes "PROOF") rows))
lacking name rows (inr (inl (is, out))) =
    rw is (tightest_unread (first_of (codes "steps") rows) (first_of (codes "conflicts") rows) (first_of (codes "ticks") rows) (first_of (codes "within") rows) (is_given (codes "bounds") rows) (first_of (codes "DESIGN") rows) (first_of (codes "PROOF") rows) out)
lacking name rows (inr (inr (inl (is, inl out)))) =
    rw is (check_unread (first_of (codes "steps") rows) (in_time_with (first_of (codes "within") rows) (first_of (codes "max-ms") rows)) (first_of (codes "DESIGN") rows) (first_of (codes "PROOF") rows) (inl out))
lacking name rows (inr (inr (inl (is, inr out)))) =
    rw is (check_unread (first_of (codes "steps") rows) (in_time_with (first_of (codes "within") rows) (first_of (codes "max-ms") rows)) (first_of (codes "DESIGN") rows) (first_of (codes "PROOF") rows)
    (inr (time_unread (first_of (codes "within") rows) (first_of (codes "max-ms") rows) out)))
lacking name rows (inr (inr (inr (is, out)))) = rw is (trial_unread (first_of (codes "SEED") rows) (first_of (codes "SIZE") rows) out)

-- words that are not taken, or with a number out of range, ask for nothing
pub nothing_asked : (words : List Text) → AsksForNothing words → request_of words ≡ None
nothing_asked words (inl refused) = request_of-refused words refused
nothing_asked words (inr (in_sub, is, lacks)) = go (is_taken words) refl
  where
    go : (b : Bool) → is_taken words ≡ b → request_of words ≡ None
    go false e = request_of-refused words e
    go true e = request_of-taken words e ∙ ap (option_and_then asked_by) is ∙ lacking in_sub.0 in_sub.1 lacks

pub silence_has_a_cause : SilenceHasACause
silence_has_a_cause words = (asks_nothing words, nothing_asked words)
