-- Words in the order of a line are taken, and read as they stand.
use Rattle.std.proofs.Common.{◌≡◌, ◌==◌, ◌&&◌, ℕ, Bool, true, false, not, List, [], ◌∷◌, Some, None, codes, refl, ◌∙◌}
use Rattle.std.proofs.lemmas.Bool.{false≢true, eqb-true}
use Rattle.std.specs.Char.{is_ascii_digit}
use Rattle.std.specs.List.{list_all}
use Rattle.rail_text.specs.Numbers.{is_numeral, number_of}
use Rattle.clap.proofs.OnLiterals.{clap_on_literals}
use Rattle.clap.specs.Words.{Row, Text, first_of, subcommand_of, fault_of}
use Rattle.rail_words.specs.FixedCommand.{rcv_app}
use Rattle.rail_words.specs.Requests.{request_of, number_to, steps_of, conflicts_of, ticks_of, seed_of, size_of, is_given, is_watched, mode_of, verify, check, trial}
use Rattle.rail_words.proofs.Walks.{level, steps_read, no_within, no_max_ms, design_read, proof_read, check_rows, check_top}
use Rattle.rail_words.proofs.Searches as search
use Rattle.rail_words.proofs.Bounded as bounded
use Rattle.rail_words.proofs.Freely as freely
use Rattle.rail_words.proofs.Normally as normally
use Rattle.rail_words.proofs.Watched as watched
use Rattle.rail_words.proofs.Trials as trials
use Rattle.rail_words.specs.declared.request.SearchMode.{SearchMode}
use Rattle.rail_words.specs.declared.request.SearchMode.TheVariants.{Plain, Bounds, Any, Normal}
use Rattle.rail_words.specs.Laws.{is_plain, verify_words, bounds_words, any_words, normal_words, progress_words, SimulateIsRead, RoutesIsRead, VerifyIsRead, BoundsAreRead, AnyIsRead, NormalIsRead, ProgressIsRead, OthersAreQuiet, CheckIsRead, TrialIsRead}

pub off : (b : Bool) → not b ≡ true → b ≡ false
off true h = absurd (false≢true h)
off false h = refl

pub simulate_read : SimulateIsRead
unfolding clap_on_literals request_of
simulate_read program [] plan h i = absurd (false≢true h)
simulate_read program (x ∷ xs) [] h i = absurd (false≢true i)
simulate_read program (x ∷ xs) (y ∷ ys) h i =
    let e : (x == 45) ≡ false = off (x == 45) h in
    let f : (y == 45) ≡ false = off (y == 45) i in
    simp (e, f)

pub routes_read : RoutesIsRead
unfolding clap_on_literals request_of
routes_read program [] h = absurd (false≢true h)
routes_read program (x ∷ xs) h = let e : (x == 45) ≡ false = off (x == 45) h in simp e

and_off : (a b : Bool) → b ≡ false → (a && b) ≡ false
and_off true b h = h
and_off false b h = refl

-- text that begins with a hyphen is no number
hyphen : (x : ℕ) (xs : Text) → (x == 45) ≡ true → number_of (x ∷ xs) ≡ None
hyphen x xs h =
    let is : x ≡ 45 = eqb-true x 45 h in
    let no_digit : list_all is_ascii_digit (x ∷ xs) ≡ false = rw is refl in
    let no_numeral : is_numeral (x ∷ xs) ≡ false = and_off _ _ no_digit in
    rw no_numeral refl

-- a number does not
pub number_plain : (text : Text) (n : ℕ) → number_of text ≡ Some n → is_plain text ≡ true
number_plain [] n e = absurd (cc)
number_plain (x ∷ xs) n e = go (x == 45) refl
  where
    go : (b : Bool) → (x == 45) ≡ b → not b ≡ true
    go true h = (let f = hyphen x xs h in absurd (cc))
    go false h = refl

pub digits_plain : (greatest : ℕ) (text : Text) (n : ℕ) → number_to greatest text ≡ Some n → is_plain text ≡ true
digits_plain greatest [] n e = absurd (cc)
digits_plain greatest (x ∷ xs) n e = go (x == 45) refl
  where
    go : (b : Bool) → (x == 45) ≡ b → not b ≡ true
    go true h = (let no = hyphen x xs h in let f : number_to greatest (x ∷ xs) ≡ None = rw no refl in absurd (cc))
    go false h = refl

-- what is read of the rows
read_rows : (words : List Text) (rows : List Row) (steps design proof : Text) (n : ℕ) → fault_of rcv_app words ≡ [] → subcommand_of rcv_app words ≡ Some (codes "check", rows)
    → first_of (codes "steps") rows ≡ Some steps → first_of (codes "within") rows ≡ None → first_of (codes "max-ms") rows ≡ None → first_of (codes "DESIGN") rows ≡ Some design → first_of (codes "PROOF") rows ≡ Some proof
    → steps_of steps ≡ Some n → request_of words ≡ Some (check n None design proof)
unfolding request_of
read_rows words rows steps design proof n taken named a no_within no_max_ms b c e = rw (taken, named, a, no_within, no_max_ms, b, c, e) refl

pub check_read : CheckIsRead
check_read program [] design proof n e i j = absurd (cc)
check_read program (x ∷ xs) [] proof n h i j = absurd (false≢true i)
check_read program (x ∷ xs) (y ∷ ys) [] n h i j = absurd (false≢true j)
check_read program (x ∷ xs) (y ∷ ys) (z ∷ zs) n h i j =
    let e : (x == 45) ≡ false = off (x == 45) (digits_plain 256 (x ∷ xs) n h) in
    let f : (y == 45) ≡ false = off (y == 45) i in
    let g : (z == 45) ≡ false = off (z == 45) j in
    read_rows (program ∷ codes "check" ∷ codes "--steps" ∷ (x ∷ xs) ∷ (y ∷ ys) ∷ (z ∷ zs) ∷ []) _ (x ∷ xs) (y ∷ ys) (z ∷ zs) n
    (check_top program _ _ _ _ ∙ rw (level x xs y ys z zs e f g) refl) (check_rows program _ _ _ _)
    (steps_read x xs y ys z zs e f g) (no_within x xs y ys z zs e f g) (no_max_ms x xs y ys z zs e f g) (design_read x xs y ys z zs e f g) (proof_read x xs y ys z zs e f g) h

-- what is read of the rows of a search
search_rows : (words : List Text) (rows : List Row) (steps conflicts ticks design proof : Text) (n c t : ℕ) (bounds any normal : Bool) (mode : SearchMode) → fault_of rcv_app words ≡ [] → subcommand_of rcv_app words ≡ Some (codes "verify", rows)
    → first_of (codes "steps") rows ≡ Some steps → first_of (codes "conflicts") rows ≡ Some conflicts → first_of (codes "ticks") rows ≡ Some ticks → is_given (codes "bounds") rows ≡ bounds → is_given (codes "any") rows ≡ any → is_given (codes "normal") rows ≡ normal → mode_of bounds any normal ≡ Some mode
    → first_of (codes "DESIGN") rows ≡ Some design → first_of (codes "PROOF") rows ≡ Some proof
    → steps_of steps ≡ Some n → conflicts_of conflicts ≡ Some c → ticks_of ticks ≡ Some t → request_of words ≡ Some (verify n c t mode design proof)
unfolding request_of
search_rows words rows steps conflicts ticks design proof n c t bounds any normal mode taken named a b e flag other third way f g h i j = rw (taken, named, a, b, e, flag, other, third, way, f, g, h, i, j) refl

-- whether the rows of a subcommand ask to be told
pub told : (words : List Text) (name : Text) (rows : List Row) (given : Bool) → fault_of rcv_app words ≡ [] → subcommand_of rcv_app words ≡ Some (name, rows) → is_given (codes "progress") rows ≡ given → is_watched words ≡ given
unfolding is_watched
told words name rows given taken named is = rw (taken, named) is

pub verify_read : VerifyIsRead
verify_read program [] conflicts ticks design proof n c t p q r i j = absurd (cc)
verify_read program (x ∷ xs) [] ticks design proof n c t p q r i j = absurd (cc)
verify_read program (x ∷ xs) (u ∷ us) [] design proof n c t p q r i j = absurd (cc)
verify_read program (x ∷ xs) (u ∷ us) (v ∷ vs) [] proof n c t p q r i j = absurd (false≢true i)
verify_read program (x ∷ xs) (u ∷ us) (v ∷ vs) (y ∷ ys) [] n c t p q r i j = absurd (false≢true j)
verify_read program (x ∷ xs) (u ∷ us) (v ∷ vs) (y ∷ ys) (z ∷ zs) n c t p q r i j =
    let a : (x == 45) ≡ false = off (x == 45) (digits_plain 256 (x ∷ xs) n p) in
    let b : (u == 45) ≡ false = off (u == 45) (digits_plain 10000000 (u ∷ us) c q) in
    let d : (v == 45) ≡ false = off (v == 45) (digits_plain 1000000000000 (v ∷ vs) t r) in
    let f : (y == 45) ≡ false = off (y == 45) i in
    let g : (z == 45) ≡ false = off (z == 45) j in
    search_rows (verify_words program (x ∷ xs) (u ∷ us) (v ∷ vs) (y ∷ ys) (z ∷ zs)) _ (x ∷ xs) (u ∷ us) (v ∷ vs) (y ∷ ys) (z ∷ zs) n c t false false false Plain
    (search.verify_top program _ _ _ _ _ _ _ _ ∙ rw (search.level x xs u us v vs y ys z zs a b d f g) refl) (search.verify_rows program _ _ _ _ _ _ _ _)
    (search.steps_read x xs u us v vs y ys z zs a b d f g) (search.conflicts_read x xs u us v vs y ys z zs a b d f g) (search.ticks_read x xs u us v vs y ys z zs a b d f g)
    (search.no_bounds x xs u us v vs y ys z zs a b d f g) (search.not_any x xs u us v vs y ys z zs a b d f g) (search.not_normal x xs u us v vs y ys z zs a b d f g) refl (search.design_read x xs u us v vs y ys z zs a b d f g) (search.proof_read x xs u us v vs y ys z zs a b d f g) p q r

pub bounds_read : BoundsAreRead
bounds_read program [] conflicts ticks design proof n c t p q r i j = absurd (cc)
bounds_read program (x ∷ xs) [] ticks design proof n c t p q r i j = absurd (cc)
bounds_read program (x ∷ xs) (u ∷ us) [] design proof n c t p q r i j = absurd (cc)
bounds_read program (x ∷ xs) (u ∷ us) (v ∷ vs) [] proof n c t p q r i j = absurd (false≢true i)
bounds_read program (x ∷ xs) (u ∷ us) (v ∷ vs) (y ∷ ys) [] n c t p q r i j = absurd (false≢true j)
bounds_read program (x ∷ xs) (u ∷ us) (v ∷ vs) (y ∷ ys) (z ∷ zs) n c t p q r i j =
    let a : (x == 45) ≡ false = off (x == 45) (digits_plain 256 (x ∷ xs) n p) in
    let b : (u == 45) ≡ false = off (u == 45) (digits_plain 10000000 (u ∷ us) c q) in
    let d : (v == 45) ≡ false = off (v == 45) (digits_plain 1000000000000 (v ∷ vs) t r) in
    let f : (y == 45) ≡ false = off (y == 45) i in
    let g : (z == 45) ≡ false = off (z == 45) j in
    search_rows (bounds_words program (x ∷ xs) (u ∷ us) (v ∷ vs) (y ∷ ys) (z ∷ zs)) _ (x ∷ xs) (u ∷ us) (v ∷ vs) (y ∷ ys) (z ∷ zs) n c t true false false Bounds
    (bounded.bounds_top program _ _ _ _ _ _ _ _ _ ∙ rw (bounded.level x xs u us v vs y ys z zs a b d f g) refl) (bounded.bounds_rows program _ _ _ _ _ _ _ _ _)
    (bounded.steps_read x xs u us v vs y ys z zs a b d f g) (bounded.conflicts_read x xs u us v vs y ys z zs a b d f g) (bounded.ticks_read x xs u us v vs y ys z zs a b d f g)
    (bounded.with_bounds x xs u us v vs y ys z zs a b d f g) (bounded.not_any x xs u us v vs y ys z zs a b d f g) (bounded.not_normal x xs u us v vs y ys z zs a b d f g) refl (bounded.design_read x xs u us v vs y ys z zs a b d f g) (bounded.proof_read x xs u us v vs y ys z zs a b d f g) p q r

pub normal_read : NormalIsRead
normal_read program [] conflicts ticks design proof n c t p q r i j = absurd (cc)
normal_read program (x ∷ xs) [] ticks design proof n c t p q r i j = absurd (cc)
normal_read program (x ∷ xs) (u ∷ us) [] design proof n c t p q r i j = absurd (cc)
normal_read program (x ∷ xs) (u ∷ us) (v ∷ vs) [] proof n c t p q r i j = absurd (false≢true i)
normal_read program (x ∷ xs) (u ∷ us) (v ∷ vs) (y ∷ ys) [] n c t p q r i j = absurd (false≢true j)
normal_read program (x ∷ xs) (u ∷ us) (v ∷ vs) (y ∷ ys) (z ∷ zs) n c t p q r i j =
    let a : (x == 45) ≡ false = off (x == 45) (digits_plain 256 (x ∷ xs) n p) in
    let b : (u == 45) ≡ false = off (u == 45) (digits_plain 10000000 (u ∷ us) c q) in
    let d : (v == 45) ≡ false = off (v == 45) (digits_plain 1000000000000 (v ∷ vs) t r) in
    let f : (y == 45) ≡ false = off (y == 45) i in
    let g : (z == 45) ≡ false = off (z == 45) j in
    search_rows (normal_words program (x ∷ xs) (u ∷ us) (v ∷ vs) (y ∷ ys) (z ∷ zs)) _ (x ∷ xs) (u ∷ us) (v ∷ vs) (y ∷ ys) (z ∷ zs) n c t false false true Normal
    (normally.normal_top program _ _ _ _ _ _ _ _ _ ∙ rw (normally.level x xs u us v vs y ys z zs a b d f g) refl) (normally.normal_rows program _ _ _ _ _ _ _ _ _)
    (normally.steps_read x xs u us v vs y ys z zs a b d f g) (normally.conflicts_read x xs u us v vs y ys z zs a b d f g) (normally.ticks_read x xs u us v vs y ys z zs a b d f g)
    (normally.no_bounds x xs u us v vs y ys z zs a b d f g) (normally.not_any x xs u us v vs y ys z zs a b d f g) (normally.with_normal x xs u us v vs y ys z zs a b d f g) refl (normally.design_read x xs u us v vs y ys z zs a b d f g) (normally.proof_read x xs u us v vs y ys z zs a b d f g) p q r

pub progress_read : ProgressIsRead
progress_read program [] conflicts ticks design proof n c t p q r i j = absurd (cc)
progress_read program (x ∷ xs) [] ticks design proof n c t p q r i j = absurd (cc)
progress_read program (x ∷ xs) (u ∷ us) [] design proof n c t p q r i j = absurd (cc)
progress_read program (x ∷ xs) (u ∷ us) (v ∷ vs) [] proof n c t p q r i j = absurd (false≢true i)
progress_read program (x ∷ xs) (u ∷ us) (v ∷ vs) (y ∷ ys) [] n c t p q r i j = absurd (false≢true j)
progress_read program (x ∷ xs) (u ∷ us) (v ∷ vs) (y ∷ ys) (z ∷ zs) n c t p q r i j =
    let a : (x == 45) ≡ false = off (x == 45) (digits_plain 256 (x ∷ xs) n p) in
    let b : (u == 45) ≡ false = off (u == 45) (digits_plain 10000000 (u ∷ us) c q) in
    let d : (v == 45) ≡ false = off (v == 45) (digits_plain 1000000000000 (v ∷ vs) t r) in
    let f : (y == 45) ≡ false = off (y == 45) i in
    let g : (z == 45) ≡ false = off (z == 45) j in (
      search_rows (progress_words program (x ∷ xs) (u ∷ us) (v ∷ vs) (y ∷ ys) (z ∷ zs)) _ (x ∷ xs) (u ∷ us) (v ∷ vs) (y ∷ ys) (z ∷ zs) n c t false false false Plain
          (watched.progress_top program _ _ _ _ _ _ _ _ _ ∙ rw (watched.level x xs u us v vs y ys z zs a b d f g) refl) (watched.progress_rows program _ _ _ _ _ _ _ _ _)
          (watched.steps_read x xs u us v vs y ys z zs a b d f g) (watched.conflicts_read x xs u us v vs y ys z zs a b d f g) (watched.ticks_read x xs u us v vs y ys z zs a b d f g)
          (watched.no_bounds x xs u us v vs y ys z zs a b d f g) (watched.not_any x xs u us v vs y ys z zs a b d f g) (watched.not_normal x xs u us v vs y ys z zs a b d f g) refl (watched.design_read x xs u us v vs y ys z zs a b d f g) (watched.proof_read x xs u us v vs y ys z zs a b d f g) p q r,
      told (progress_words program (x ∷ xs) (u ∷ us) (v ∷ vs) (y ∷ ys) (z ∷ zs)) (codes "verify") _ true
          (watched.progress_top program _ _ _ _ _ _ _ _ _ ∙ rw (watched.level x xs u us v vs y ys z zs a b d f g) refl) (watched.progress_rows program _ _ _ _ _ _ _ _ _)
          (watched.with_progress x xs u us v vs y ys z zs a b d f g),
    )

pub others_quiet : OthersAreQuiet
others_quiet program [] conflicts ticks design proof n c t p q r i j = absurd (cc)
others_quiet program (x ∷ xs) [] ticks design proof n c t p q r i j = absurd (cc)
others_quiet program (x ∷ xs) (u ∷ us) [] design proof n c t p q r i j = absurd (cc)
others_quiet program (x ∷ xs) (u ∷ us) (v ∷ vs) [] proof n c t p q r i j = absurd (false≢true i)
others_quiet program (x ∷ xs) (u ∷ us) (v ∷ vs) (y ∷ ys) [] n c t p q r i j = absurd (false≢true j)
others_quiet program (x ∷ xs) (u ∷ us) (v ∷ vs) (y ∷ ys) (z ∷ zs) n c t p q r i j =
    let a : (x == 45) ≡ false = off (x == 45) (digits_plain 256 (x ∷ xs) n p) in
    let b : (u == 45) ≡ false = off (u == 45) (digits_plain 10000000 (u ∷ us) c q) in
    let d : (v == 45) ≡ false = off (v == 45) (digits_plain 1000000000000 (v ∷ vs) t r) in
    let f : (y == 45) ≡ false = off (y == 45) i in
    let g : (z == 45) ≡ false = off (z == 45) j in (
      told (verify_words program (x ∷ xs) (u ∷ us) (v ∷ vs) (y ∷ ys) (z ∷ zs)) (codes "verify") _ false
          (search.verify_top program _ _ _ _ _ _ _ _ ∙ rw (search.level x xs u us v vs y ys z zs a b d f g) refl) (search.verify_rows program _ _ _ _ _ _ _ _)
          (search.no_progress x xs u us v vs y ys z zs a b d f g),
      told (bounds_words program (x ∷ xs) (u ∷ us) (v ∷ vs) (y ∷ ys) (z ∷ zs)) (codes "verify") _ false
          (bounded.bounds_top program _ _ _ _ _ _ _ _ _ ∙ rw (bounded.level x xs u us v vs y ys z zs a b d f g) refl) (bounded.bounds_rows program _ _ _ _ _ _ _ _ _)
          (bounded.no_progress x xs u us v vs y ys z zs a b d f g),
      told (any_words program (x ∷ xs) (u ∷ us) (v ∷ vs) (y ∷ ys) (z ∷ zs)) (codes "verify") _ false
          (freely.any_top program _ _ _ _ _ _ _ _ _ _ ∙ rw (freely.level x xs u us v vs y ys z zs a b d f g) refl) (freely.any_rows program _ _ _ _ _ _ _ _ _ _)
          (freely.no_progress x xs u us v vs y ys z zs a b d f g),
      told (normal_words program (x ∷ xs) (u ∷ us) (v ∷ vs) (y ∷ ys) (z ∷ zs)) (codes "verify") _ false
          (normally.normal_top program _ _ _ _ _ _ _ _ _ ∙ rw (normally.level x xs u us v vs y ys z zs a b d f g) refl) (normally.normal_rows program _ _ _ _ _ _ _ _ _)
          (normally.no_progress x xs u us v vs y ys z zs a b d f g),
    )

pub any_read : AnyIsRead
any_read program [] conflicts ticks design proof n c t p q r i j = absurd (cc)
any_read program (x ∷ xs) [] ticks design proof n c t p q r i j = absurd (cc)
any_read program (x ∷ xs) (u ∷ us) [] design proof n c t p q r i j = absurd (cc)
any_read program (x ∷ xs) (u ∷ us) (v ∷ vs) [] proof n c t p q r i j = absurd (false≢true i)
any_read program (x ∷ xs) (u ∷ us) (v ∷ vs) (y ∷ ys) [] n c t p q r i j = absurd (false≢true j)
any_read program (x ∷ xs) (u ∷ us) (v ∷ vs) (y ∷ ys) (z ∷ zs) n c t p q r i j =
    let a : (x == 45) ≡ false = off (x == 45) (digits_plain 256 (x ∷ xs) n p) in
    let b : (u == 45) ≡ false = off (u == 45) (digits_plain 10000000 (u ∷ us) c q) in
    let d : (v == 45) ≡ false = off (v == 45) (digits_plain 1000000000000 (v ∷ vs) t r) in
    let f : (y == 45) ≡ false = off (y == 45) i in
    let g : (z == 45) ≡ false = off (z == 45) j in
    search_rows (any_words program (x ∷ xs) (u ∷ us) (v ∷ vs) (y ∷ ys) (z ∷ zs)) _ (x ∷ xs) (u ∷ us) (v ∷ vs) (y ∷ ys) (z ∷ zs) n c t true true false Any
    (freely.any_top program _ _ _ _ _ _ _ _ _ _ ∙ rw (freely.level x xs u us v vs y ys z zs a b d f g) refl) (freely.any_rows program _ _ _ _ _ _ _ _ _ _)
    (freely.steps_read x xs u us v vs y ys z zs a b d f g) (freely.conflicts_read x xs u us v vs y ys z zs a b d f g) (freely.ticks_read x xs u us v vs y ys z zs a b d f g)
    (freely.with_bounds x xs u us v vs y ys z zs a b d f g) (freely.with_any x xs u us v vs y ys z zs a b d f g) (freely.not_normal x xs u us v vs y ys z zs a b d f g) refl (freely.design_read x xs u us v vs y ys z zs a b d f g) (freely.proof_read x xs u us v vs y ys z zs a b d f g) p q r

-- what is read of the rows of a trial
trial_rows : (words : List Text) (rows : List Row) (seed size : Text) (s k : ℕ) → fault_of rcv_app words ≡ [] → subcommand_of rcv_app words ≡ Some (codes "trial", rows)
    → first_of (codes "SEED") rows ≡ Some seed → first_of (codes "SIZE") rows ≡ Some size → seed_of seed ≡ Some s → size_of size ≡ Some k → request_of words ≡ Some (trial s k)
unfolding request_of
trial_rows words rows seed size s k taken named a b p q = rw (taken, named, a, b, p, q) refl

pub trial_read : TrialIsRead
trial_read program [] size s k p q = absurd (cc)
trial_read program (x ∷ xs) [] s k p q = absurd (cc)
trial_read program (x ∷ xs) (y ∷ ys) s k p q =
    let e : (x == 45) ≡ false = off (x == 45) (number_plain (x ∷ xs) s p) in
    let f : (y == 45) ≡ false = off (y == 45) (digits_plain 6 (y ∷ ys) k q) in
    trial_rows (program ∷ codes "trial" ∷ (x ∷ xs) ∷ (y ∷ ys) ∷ []) _ (x ∷ xs) (y ∷ ys) s k
    (trials.trial_top program _ _ ∙ rw (trials.level x xs y ys e f) refl) (trials.trial_rows program _ _)
    (trials.seed_read x xs y ys e f) (trials.size_read x xs y ys e f) p q
