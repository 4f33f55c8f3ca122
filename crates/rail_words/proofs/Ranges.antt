-- The numbers that are asked for are in range.
use Rattle.std.proofs.Common.{◌≡◌, ℕ, ◌≤◌, ◌^◌, ◌&&◌, Bool, true, false, List, Option, Some, None, Result, Ok, Err, IfOk, nat_le, nat_lt, if◌then◌else◌, option_map, option_and_then, bytes_eq, codes, refl, subst, leb-true, ltb-true, arith}
use Rattle.clap.specs.Words.{Row, Text, first_of, subcommand_of}
use Rattle.std.specs.Str.Parse.{digits_value}
use Rattle.rail_text.specs.Numbers.{is_numeral, number_of}
use Rattle.rail_words.specs.FixedCommand.{rcv_app, is_taken}
use Rattle.rail_words.specs.declared.request.SearchMode.{SearchMode}
use Rattle.rail_words.specs.declared.request.InTime.{InTime}
use Rattle.rail_words.specs.Requests.{RequestSeen, simulate, routes, verify, tightest, check, trial, IsInTimeInRange, IsRequestInRange, simulate_with, routes_with, verify_within, verify_with, tightest_within, tightest_with, in_time, in_time_of, in_time_with, check_within, check_with, trial_within, trial_with}
use Rattle.rail_words.specs.Requests.{steps_of, conflicts_of, ticks_of, within_of, max_ms_of, seed_of, size_of, simulate_by, routes_by, verify_by, tightest_by, check_by, trial_by, asked_by, is_given, mode_of, request_of}
use Rattle.rail_words.specs.Laws.{RequestsAreInRange}
use Rattle.rail_words.specs.Words.{request_seen}
use Rattle.rail_words.specs.declared.request.Request.{Request}
use Rattle.rail_words.specs.declared.request.WordsFault.{WordsFault}

both : (a b : Bool) → (a && b) ≡ true → (a ≡ true) × (b ≡ true)
both true b h = (refl, h)
both false b h = absurd (cc)

kept : (greatest : ℕ) (found : Option ℕ) (n : ℕ) → option_and_then (λ k. if nat_le 1 k && nat_le k greatest then Some k else None) found ≡ Some n → (1 ≤ n) × (n ≤ greatest)
kept greatest None n e = absurd (cc)
kept greatest (Some k) n e = go (nat_le 1 k && nat_le k greatest) refl e
  where
    go : (b : Bool) → (nat_le 1 k && nat_le k greatest) ≡ b → (if b then Some k else None) ≡ Some n → (1 ≤ n) × (n ≤ greatest)
    go true h e = (let same : k ≡ n = cc in let p = both (nat_le 1 k) (nat_le k greatest) h in subst (λ m. (1 ≤ m) × (m ≤ greatest)) same (leb-true 1 k p.0, leb-true k greatest p.1))
    go false h e = absurd (cc)

-- a number fits 64 bits
fits : (numeral : Bool) (value n : ℕ) → (if numeral && nat_lt value (2 ^ 64) then Some value else None) ≡ Some n → n ≤ 18446744073709551615
fits numeral value n e = go (numeral && nat_lt value (2 ^ 64)) refl e
  where
    go : (b : Bool) → (numeral && nat_lt value (2 ^ 64)) ≡ b → (if b then Some value else None) ≡ Some n → n ≤ 18446744073709551615
    go true h e = (let same : value ≡ n = cc in let below = ltb-true value (2 ^ 64) (both numeral (nat_lt value (2 ^ 64)) h).1 in subst (λ m. m ≤ 18446744073709551615) same (omega arith))
    go false h e = absurd (cc)

seed_fits : (text : Text) (n : ℕ) → seed_of text ≡ Some n → n ≤ 18446744073709551615
seed_fits text n e = fits (is_numeral text) (digits_value 10 text) n e

-- a greatest time is in range
time_fits : (found : Option ℕ) (n : ℕ) → option_and_then (λ k. if nat_le k 86400000 then Some k else None) found ≡ Some n → n ≤ 86400000
time_fits None n e = absurd (cc)
time_fits (Some k) n e = go (nat_le k 86400000) refl e
  where
    go : (b : Bool) → nat_le k 86400000 ≡ b → (if b then Some k else None) ≡ Some n → n ≤ 86400000
    go true h e = (let same : k ≡ n = cc in subst (λ m. m ≤ 86400000) same (leb-true k 86400000 h))
    go false h e = absurd (cc)

in_time_made : (within max_ms : Option ℕ) → ((n : ℕ) → within ≡ Some n → (1 ≤ n) × (n ≤ 256)) → ((n : ℕ) → max_ms ≡ Some n → n ≤ 86400000) → IsInTimeInRange (in_time within max_ms)
in_time_made None max_ms h i = tt
in_time_made (Some w) None h i = tt
in_time_made (Some w) (Some m) h i = ((h w refl).0, (h w refl).1, i m refl)

in_time_so : (within max_ms : Text) → IsInTimeInRange (in_time_of within max_ms)
in_time_so within max_ms = in_time_made (within_of within) (max_ms_of max_ms) (λ n h. kept 256 (number_of within) n h) (λ n h. time_fits (number_of max_ms) n h)

timed_so : (within max_ms : Option Text) (time : Option InTime) → in_time_with within max_ms ≡ Some time → IsInTimeInRange time
timed_so None None time e = let same : None ≡ time = cc in subst IsInTimeInRange same tt
timed_so None (Some m) time e = absurd (cc)
timed_so (Some w) None time e = absurd (cc)
timed_so (Some w) (Some m) time e = go (in_time_of w m) (in_time_so w m) e
  where
    go : (found : Option InTime) → IsInTimeInRange found → option_map Some found ≡ Some time → IsInTimeInRange time
    go None h e = absurd (cc)
    go (Some t) h e = let same : Some t ≡ time = cc in subst IsInTimeInRange same h

check_made : (steps : Option ℕ) (time : Option (Option InTime)) (design proof : Text) (a : RequestSeen) → ((n : ℕ) → steps ≡ Some n → (1 ≤ n) × (n ≤ 256)) → ((t : Option InTime) → time ≡ Some t → IsInTimeInRange t) → check_within steps time design proof ≡ Some a → IsRequestInRange a
check_made None time design proof a h i e = absurd (cc)
check_made (Some n) None design proof a h i e = absurd (cc)
check_made (Some n) (Some time) design proof a h i e = let same : check n time design proof ≡ a = cc in subst IsRequestInRange same ((h n refl).0, (h n refl).1, i time refl)

checked_so : (steps : Option Text) (time : Option (Option InTime)) (design proof : Option Text) (a : RequestSeen) → ((t : Option InTime) → time ≡ Some t → IsInTimeInRange t) → check_with steps time design proof ≡ Some a → IsRequestInRange a
checked_so None time design proof a i e = absurd (cc)
checked_so (Some steps) time None proof a i e = absurd (cc)
checked_so (Some steps) time (Some design) None a i e = absurd (cc)
checked_so (Some steps) time (Some design) (Some proof) a i e = check_made (steps_of steps) time design proof a (λ n h. kept 256 (number_of steps) n h) i e

tightest_made : (steps conflicts ticks within : Option ℕ) (bounds : Bool) (design proof : Text) (a : RequestSeen) → ((n : ℕ) → steps ≡ Some n → (1 ≤ n) × (n ≤ 256)) → ((n : ℕ) → within ≡ Some n → (1 ≤ n) × (n ≤ 256)) → tightest_within steps conflicts ticks within bounds design proof ≡ Some a → IsRequestInRange a
tightest_made None conflicts ticks within bounds design proof a h i e = absurd (cc)
tightest_made (Some n) None ticks within bounds design proof a h i e = absurd (cc)
tightest_made (Some n) (Some c) None within bounds design proof a h i e = absurd (cc)
tightest_made (Some n) (Some c) (Some t) None bounds design proof a h i e = absurd (cc)
tightest_made (Some n) (Some c) (Some t) (Some w) bounds design proof a h i e =
    let same : tightest n c t w bounds design proof ≡ a = cc in
    subst IsRequestInRange same ((h n refl).0, (h n refl).1, (i w refl).0, (i w refl).1)

tightened_so : (steps conflicts ticks within : Option Text) (bounds : Bool) (design proof : Option Text) (a : RequestSeen) → tightest_with steps conflicts ticks within bounds design proof ≡ Some a → IsRequestInRange a
tightened_so None conflicts ticks within bounds design proof a e = absurd (cc)
tightened_so (Some s) None ticks within bounds design proof a e = absurd (cc)
tightened_so (Some s) (Some c) None within bounds design proof a e = absurd (cc)
tightened_so (Some s) (Some c) (Some t) None bounds design proof a e = absurd (cc)
tightened_so (Some s) (Some c) (Some t) (Some w) bounds None proof a e = absurd (cc)
tightened_so (Some s) (Some c) (Some t) (Some w) bounds (Some design) None a e = absurd (cc)
tightened_so (Some s) (Some c) (Some t) (Some w) bounds (Some design) (Some proof) a e =
    tightest_made (steps_of s) (conflicts_of c) (ticks_of t) (within_of w) bounds design proof a (λ n h. kept 256 (number_of s) n h) (λ n h. kept 256 (number_of w) n h) e

verify_made : (steps conflicts ticks : Option ℕ) (mode : Option SearchMode) (design proof : Text) (a : RequestSeen) → ((n : ℕ) → steps ≡ Some n → (1 ≤ n) × (n ≤ 256)) → verify_within steps conflicts ticks mode design proof ≡ Some a → IsRequestInRange a
verify_made None conflicts ticks mode design proof a h e = absurd (cc)
verify_made (Some n) None ticks mode design proof a h e = absurd (cc)
verify_made (Some n) (Some c) None mode design proof a h e = absurd (cc)
verify_made (Some n) (Some c) (Some t) None design proof a h e = absurd (cc)
verify_made (Some n) (Some c) (Some t) (Some mode) design proof a h e = let same : verify n c t mode design proof ≡ a = cc in subst IsRequestInRange same (h n refl)

verified_so : (steps conflicts ticks : Option Text) (mode : Option SearchMode) (design proof : Option Text) (a : RequestSeen) → verify_with steps conflicts ticks mode design proof ≡ Some a → IsRequestInRange a
verified_so None conflicts ticks mode design proof a e = absurd (cc)
verified_so (Some s) None ticks mode design proof a e = absurd (cc)
verified_so (Some s) (Some c) None mode design proof a e = absurd (cc)
verified_so (Some s) (Some c) (Some t) mode None proof a e = absurd (cc)
verified_so (Some s) (Some c) (Some t) mode (Some design) None a e = absurd (cc)
verified_so (Some s) (Some c) (Some t) mode (Some design) (Some proof) a e = verify_made (steps_of s) (conflicts_of c) (ticks_of t) mode design proof a (λ n h. kept 256 (number_of s) n h) e

simulated_so : (design plan : Option Text) (a : RequestSeen) → simulate_with design plan ≡ Some a → IsRequestInRange a
simulated_so None plan a e = absurd (cc)
simulated_so (Some design) None a e = absurd (cc)
simulated_so (Some design) (Some plan) a e = let same : simulate design plan ≡ a = cc in subst IsRequestInRange same tt

routed_so : (design : Option Text) (a : RequestSeen) → routes_with design ≡ Some a → IsRequestInRange a
routed_so None a e = absurd (cc)
routed_so (Some design) a e = let same : routes design ≡ a = cc in subst IsRequestInRange same tt

trial_made : (seed size : Option ℕ) (a : RequestSeen) → ((n : ℕ) → seed ≡ Some n → n ≤ 18446744073709551615) → ((n : ℕ) → size ≡ Some n → (1 ≤ n) × (n ≤ 6)) → trial_within seed size ≡ Some a → IsRequestInRange a
trial_made None size a h i e = absurd (cc)
trial_made (Some s) None a h i e = absurd (cc)
trial_made (Some s) (Some k) a h i e = let same : trial s k ≡ a = cc in subst IsRequestInRange same (h s refl, (i k refl).0, (i k refl).1)

tried_so : (seed size : Option Text) (a : RequestSeen) → trial_with seed size ≡ Some a → IsRequestInRange a
tried_so None size a e = absurd (cc)
tried_so (Some seed) None a e = absurd (cc)
tried_so (Some seed) (Some size) a e = trial_made (seed_of seed) (size_of size) a (seed_fits seed) (λ n h. kept 6 (number_of size) n h) e

-- what each subcommand asks for is in range
by_simulate : (rows : List Row) (a : RequestSeen) → simulate_by rows ≡ Some a → IsRequestInRange a
by_simulate rows a e = simulated_so (first_of (codes "DESIGN") rows) (first_of (codes "PLAN") rows) a e

by_verify : (rows : List Row) (a : RequestSeen) → verify_by rows ≡ Some a → IsRequestInRange a
by_verify rows a e =
    verified_so (first_of (codes "steps") rows) (first_of (codes "conflicts") rows) (first_of (codes "ticks") rows)
    (mode_of (is_given (codes "bounds") rows) (is_given (codes "any") rows) (is_given (codes "normal") rows)) (first_of (codes "DESIGN") rows) (first_of (codes "PROOF") rows) a e

by_tightest : (rows : List Row) (a : RequestSeen) → tightest_by rows ≡ Some a → IsRequestInRange a
by_tightest rows a e =
    tightened_so (first_of (codes "steps") rows) (first_of (codes "conflicts") rows) (first_of (codes "ticks") rows)
    (first_of (codes "within") rows) (is_given (codes "bounds") rows) (first_of (codes "DESIGN") rows) (first_of (codes "PROOF") rows) a e

by_check : (rows : List Row) (a : RequestSeen) → check_by rows ≡ Some a → IsRequestInRange a
by_check rows a e =
    checked_so (first_of (codes "steps") rows) (in_time_with (first_of (codes "within") rows) (first_of (codes "max-ms") rows)) (first_of (codes "DESIGN") rows) (first_of (codes "PROOF") rows) a
    (timed_so (first_of (codes "within") rows) (first_of (codes "max-ms") rows)) e

by_trial : (rows : List Row) (a : RequestSeen) → trial_by rows ≡ Some a → IsRequestInRange a
by_trial rows a e = tried_so (first_of (codes "SEED") rows) (first_of (codes "SIZE") rows) a e

chosen : (first second third fourth fifth sixth : Bool) (rows : List Row) (a : RequestSeen)
    → (if first then simulate_by rows else if second then routes_by rows else if third then verify_by rows else if fourth then tightest_by rows else if fifth then check_by rows else if sixth then trial_by rows else None) ≡ Some a → IsRequestInRange a
chosen true second third fourth fifth sixth rows a e = by_simulate rows a e
chosen false true third fourth fifth sixth rows a e = routed_so (first_of (codes "DESIGN") rows) a e
chosen false false true fourth fifth sixth rows a e = by_verify rows a e
chosen false false false true fifth sixth rows a e = by_tightest rows a e
chosen false false false false true sixth rows a e = by_check rows a e
chosen false false false false false true rows a e = by_trial rows a e
chosen false false false false false false rows a e = absurd (cc)

named : (entered : Option (Text × List Row)) (a : RequestSeen) → option_and_then asked_by entered ≡ Some a → IsRequestInRange a
named None a e = absurd (cc)
named (Some entered) a e =
    chosen (bytes_eq entered.0 (codes "simulate")) (bytes_eq entered.0 (codes "routes")) (bytes_eq entered.0 (codes "verify")) (bytes_eq entered.0 (codes "tightest")) (bytes_eq entered.0 (codes "check")) (bytes_eq entered.0 (codes "trial"))
    entered.1 a e

taken_so : (taken : Bool) (entered : Option (Text × List Row)) (a : RequestSeen) → (if taken then option_and_then asked_by entered else None) ≡ Some a → IsRequestInRange a
taken_so true entered a e = named entered a e
taken_so false entered a e = absurd (cc)

pub requests_in_range : RequestsAreInRange
unfolding request_of
requests_in_range words a e = taken_so (is_taken words) (subcommand_of rcv_app words) a e

pub answer_in_range : (words : List Text) (answer : Result Request WordsFault) → IfOk answer (λ request. request_of words ≡ Some (request_seen request)) → IfOk answer (λ request. IsRequestInRange (request_seen request))
answer_in_range words (Ok request) h = requests_in_range words (request_seen request) h
answer_in_range words (Err fault) h = tt
