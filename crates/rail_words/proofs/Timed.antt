-- Words in the order of a line of `tightest`, and of `check` with a time that is put into a within, are taken, and read as they stand.
use Rattle.std.proofs.Common.{◌≡◌, ◌==◌, ℕ, Bool, true, false, List, [], ◌∷◌, Some, None, Option, nat_le, option_and_then, if◌then◌else◌, codes, refl, ◌∙◌}
use Rattle.std.proofs.lemmas.Bool.{false≢true}
use Rattle.rail_text.specs.Numbers.{number_of}
use Rattle.clap.specs.Words.{Row, Text, first_of, subcommand_of, fault_of}
use Rattle.rail_words.specs.FixedCommand.{rcv_app}
use Rattle.rail_words.specs.Requests.{request_of, number_up_to, steps_of, conflicts_of, ticks_of, within_of, max_ms_of, is_given, tightest, check}
use Rattle.rail_words.proofs.Tightest as plainly
use Rattle.rail_words.proofs.TightestBounded as bounded
use Rattle.rail_words.proofs.TightestWatched as watched
use Rattle.rail_words.proofs.CheckedInTime as timed
use Rattle.rail_words.proofs.Taken.{off, number_plain, digits_plain, told}
use Rattle.rail_words.specs.Laws.{is_plain, in_time_words, tightest_words, TightestIsRead, TightestBoundsAreRead, TightestProgressIsRead, CheckInTimeIsRead}

-- ---- `tightest`

-- what is read of the rows
tightest_rows : (words : List Text) (rows : List Row) (steps conflicts ticks within design proof : Text) (n c t w : ℕ) (bounds : Bool) → fault_of rcv_app words ≡ [] → subcommand_of rcv_app words ≡ Some (codes "tightest", rows)
    → first_of (codes "steps") rows ≡ Some steps → first_of (codes "conflicts") rows ≡ Some conflicts → first_of (codes "ticks") rows ≡ Some ticks → first_of (codes "within") rows ≡ Some within → is_given (codes "bounds") rows ≡ bounds
    → first_of (codes "DESIGN") rows ≡ Some design → first_of (codes "PROOF") rows ≡ Some proof
    → steps_of steps ≡ Some n → conflicts_of conflicts ≡ Some c → ticks_of ticks ≡ Some t → within_of within ≡ Some w → request_of words ≡ Some (tightest n c t w bounds design proof)
unfolding request_of
tightest_rows words rows steps conflicts ticks within design proof n c t w bounds taken named a b d e flag f g h i j k = rw (taken, named, a, b, d, e, flag, f, g, h, i, j, k) refl

pub tightest_read : TightestIsRead
tightest_read program [] conflicts ticks within design proof n c i w p q r s j k = absurd (cc)
tightest_read program (x ∷ xs) [] ticks within design proof n c i w p q r s j k = absurd (cc)
tightest_read program (x ∷ xs) (u ∷ us) [] within design proof n c i w p q r s j k = absurd (cc)
tightest_read program (x ∷ xs) (u ∷ us) (v ∷ vs) [] design proof n c i w p q r s j k = absurd (cc)
tightest_read program (x ∷ xs) (u ∷ us) (v ∷ vs) (t ∷ ts) [] proof n c i w p q r s j k = absurd (false≢true j)
tightest_read program (x ∷ xs) (u ∷ us) (v ∷ vs) (t ∷ ts) (y ∷ ys) [] n c i w p q r s j k = absurd (false≢true k)
tightest_read program (x ∷ xs) (u ∷ us) (v ∷ vs) (t ∷ ts) (y ∷ ys) (z ∷ zs) n c i w p q r s j k =
    let a : (x == 45) ≡ false = off (x == 45) (digits_plain 256 (x ∷ xs) n p) in
    let b : (u == 45) ≡ false = off (u == 45) (digits_plain 10000000 (u ∷ us) c q) in
    let d : (v == 45) ≡ false = off (v == 45) (digits_plain 1000000000000 (v ∷ vs) i r) in
    let e : (t == 45) ≡ false = off (t == 45) (digits_plain 256 (t ∷ ts) w s) in
    let f : (y == 45) ≡ false = off (y == 45) j in
    let g : (z == 45) ≡ false = off (z == 45) k in
    let words : List Text = tightest_words program (x ∷ xs) (u ∷ us) (v ∷ vs) (t ∷ ts) [] (y ∷ ys) (z ∷ zs) in
    let taken : fault_of rcv_app words ≡ [] = plainly.tightest_top program _ _ _ _ _ _ _ _ _ _ ∙ rw (plainly.level x xs u us v vs t ts y ys z zs a b d e f g) refl in (
      tightest_rows words _ (x ∷ xs) (u ∷ us) (v ∷ vs) (t ∷ ts) (y ∷ ys) (z ∷ zs) n c i w false taken (plainly.tightest_rows program _ _ _ _ _ _ _ _ _ _)
          (plainly.steps_read x xs u us v vs t ts y ys z zs a b d e f g) (plainly.conflicts_read x xs u us v vs t ts y ys z zs a b d e f g) (plainly.ticks_read x xs u us v vs t ts y ys z zs a b d e f g)
          (plainly.within_read x xs u us v vs t ts y ys z zs a b d e f g) (plainly.no_bounds x xs u us v vs t ts y ys z zs a b d e f g) (plainly.design_read x xs u us v vs t ts y ys z zs a b d e f g) (plainly.proof_read x xs u us v vs t ts y ys z zs a b d e f g) p q r s,
      told words (codes "tightest") _ false taken (plainly.tightest_rows program _ _ _ _ _ _ _ _ _ _) (plainly.no_progress x xs u us v vs t ts y ys z zs a b d e f g),
    )

pub tightest_bounds_read : TightestBoundsAreRead
tightest_bounds_read program [] conflicts ticks within design proof n c i w p q r s j k = absurd (cc)
tightest_bounds_read program (x ∷ xs) [] ticks within design proof n c i w p q r s j k = absurd (cc)
tightest_bounds_read program (x ∷ xs) (u ∷ us) [] within design proof n c i w p q r s j k = absurd (cc)
tightest_bounds_read program (x ∷ xs) (u ∷ us) (v ∷ vs) [] design proof n c i w p q r s j k = absurd (cc)
tightest_bounds_read program (x ∷ xs) (u ∷ us) (v ∷ vs) (t ∷ ts) [] proof n c i w p q r s j k = absurd (false≢true j)
tightest_bounds_read program (x ∷ xs) (u ∷ us) (v ∷ vs) (t ∷ ts) (y ∷ ys) [] n c i w p q r s j k = absurd (false≢true k)
tightest_bounds_read program (x ∷ xs) (u ∷ us) (v ∷ vs) (t ∷ ts) (y ∷ ys) (z ∷ zs) n c i w p q r s j k =
    let a : (x == 45) ≡ false = off (x == 45) (digits_plain 256 (x ∷ xs) n p) in
    let b : (u == 45) ≡ false = off (u == 45) (digits_plain 10000000 (u ∷ us) c q) in
    let d : (v == 45) ≡ false = off (v == 45) (digits_plain 1000000000000 (v ∷ vs) i r) in
    let e : (t == 45) ≡ false = off (t == 45) (digits_plain 256 (t ∷ ts) w s) in
    let f : (y == 45) ≡ false = off (y == 45) j in
    let g : (z == 45) ≡ false = off (z == 45) k in
    let words : List Text = tightest_words program (x ∷ xs) (u ∷ us) (v ∷ vs) (t ∷ ts) (codes "--bounds" ∷ []) (y ∷ ys) (z ∷ zs) in
    let taken : fault_of rcv_app words ≡ [] = bounded.bounds_top program _ _ _ _ _ _ _ _ _ _ _ ∙ rw (bounded.level x xs u us v vs t ts y ys z zs a b d e f g) refl in (
      tightest_rows words _ (x ∷ xs) (u ∷ us) (v ∷ vs) (t ∷ ts) (y ∷ ys) (z ∷ zs) n c i w true taken (bounded.bounds_rows program _ _ _ _ _ _ _ _ _ _ _)
          (bounded.steps_read x xs u us v vs t ts y ys z zs a b d e f g) (bounded.conflicts_read x xs u us v vs t ts y ys z zs a b d e f g) (bounded.ticks_read x xs u us v vs t ts y ys z zs a b d e f g)
          (bounded.within_read x xs u us v vs t ts y ys z zs a b d e f g) (bounded.with_bounds x xs u us v vs t ts y ys z zs a b d e f g) (bounded.design_read x xs u us v vs t ts y ys z zs a b d e f g) (bounded.proof_read x xs u us v vs t ts y ys z zs a b d e f g) p q r s,
      told words (codes "tightest") _ false taken (bounded.bounds_rows program _ _ _ _ _ _ _ _ _ _ _) (bounded.no_progress x xs u us v vs t ts y ys z zs a b d e f g),
    )

pub tightest_progress_read : TightestProgressIsRead
tightest_progress_read program [] conflicts ticks within design proof n c i w p q r s j k = absurd (cc)
tightest_progress_read program (x ∷ xs) [] ticks within design proof n c i w p q r s j k = absurd (cc)
tightest_progress_read program (x ∷ xs) (u ∷ us) [] within design proof n c i w p q r s j k = absurd (cc)
tightest_progress_read program (x ∷ xs) (u ∷ us) (v ∷ vs) [] design proof n c i w p q r s j k = absurd (cc)
tightest_progress_read program (x ∷ xs) (u ∷ us) (v ∷ vs) (t ∷ ts) [] proof n c i w p q r s j k = absurd (false≢true j)
tightest_progress_read program (x ∷ xs) (u ∷ us) (v ∷ vs) (t ∷ ts) (y ∷ ys) [] n c i w p q r s j k = absurd (false≢true k)
tightest_progress_read program (x ∷ xs) (u ∷ us) (v ∷ vs) (t ∷ ts) (y ∷ ys) (z ∷ zs) n c i w p q r s j k =
    let a : (x == 45) ≡ false = off (x == 45) (digits_plain 256 (x ∷ xs) n p) in
    let b : (u == 45) ≡ false = off (u == 45) (digits_plain 10000000 (u ∷ us) c q) in
    let d : (v == 45) ≡ false = off (v == 45) (digits_plain 1000000000000 (v ∷ vs) i r) in
    let e : (t == 45) ≡ false = off (t == 45) (digits_plain 256 (t ∷ ts) w s) in
    let f : (y == 45) ≡ false = off (y == 45) j in
    let g : (z == 45) ≡ false = off (z == 45) k in
    let words : List Text = tightest_words program (x ∷ xs) (u ∷ us) (v ∷ vs) (t ∷ ts) (codes "--progress" ∷ []) (y ∷ ys) (z ∷ zs) in
    let taken : fault_of rcv_app words ≡ [] = watched.progress_top program _ _ _ _ _ _ _ _ _ _ _ ∙ rw (watched.level x xs u us v vs t ts y ys z zs a b d e f g) refl in (
      tightest_rows words _ (x ∷ xs) (u ∷ us) (v ∷ vs) (t ∷ ts) (y ∷ ys) (z ∷ zs) n c i w false taken (watched.progress_rows program _ _ _ _ _ _ _ _ _ _ _)
          (watched.steps_read x xs u us v vs t ts y ys z zs a b d e f g) (watched.conflicts_read x xs u us v vs t ts y ys z zs a b d e f g) (watched.ticks_read x xs u us v vs t ts y ys z zs a b d e f g)
          (watched.within_read x xs u us v vs t ts y ys z zs a b d e f g) (watched.no_bounds x xs u us v vs t ts y ys z zs a b d e f g) (watched.design_read x xs u us v vs t ts y ys z zs a b d e f g) (watched.proof_read x xs u us v vs t ts y ys z zs a b d e f g) p q r s,
      told words (codes "tightest") _ true taken (watched.progress_rows program _ _ _ _ _ _ _ _ _ _ _) (watched.with_progress x xs u us v vs t ts y ys z zs a b d e f g),
    )

-- ---- `check` with a time

number_is : (greatest : ℕ) (found : Option ℕ) (n : ℕ) → option_and_then (λ k. if nat_le k greatest then Some k else None) found ≡ Some n → found ≡ Some n
number_is greatest None n e = absurd (cc)
number_is greatest (Some k) n e = go (nat_le k greatest) e
  where
    go : (b : Bool) → (if b then Some k else None) ≡ Some n → Some k ≡ Some n
    go true e = e
    go false e = absurd (cc)

-- a number up to a greatest does not begin with a hyphen
small_plain : (greatest : ℕ) (text : Text) (n : ℕ) → number_up_to greatest text ≡ Some n → is_plain text ≡ true
small_plain greatest text n e = number_plain text n (number_is greatest (number_of text) n e)

-- what is read of the rows
in_time_rows : (words : List Text) (rows : List Row) (within max_ms steps design proof : Text) (w x n : ℕ) → fault_of rcv_app words ≡ [] → subcommand_of rcv_app words ≡ Some (codes "check", rows)
    → first_of (codes "within") rows ≡ Some within → first_of (codes "max-ms") rows ≡ Some max_ms → first_of (codes "steps") rows ≡ Some steps → first_of (codes "DESIGN") rows ≡ Some design → first_of (codes "PROOF") rows ≡ Some proof
    → within_of within ≡ Some w → max_ms_of max_ms ≡ Some x → steps_of steps ≡ Some n → request_of words ≡ Some (check n (Some (record { within = w; max_ms = x })) design proof)
unfolding request_of
in_time_rows words rows within max_ms steps design proof w x n taken named a b d e f g h i = rw (taken, named, a, b, d, e, f, g, h, i) refl

pub in_time_read : CheckInTimeIsRead
in_time_read program [] max_ms steps design proof w k n p q r i j = absurd (cc)
in_time_read program (u ∷ us) [] steps design proof w k n p q r i j = absurd (cc)
in_time_read program (u ∷ us) (v ∷ vs) [] design proof w k n p q r i j = absurd (cc)
in_time_read program (u ∷ us) (v ∷ vs) (x ∷ xs) [] proof w k n p q r i j = absurd (false≢true i)
in_time_read program (u ∷ us) (v ∷ vs) (x ∷ xs) (y ∷ ys) [] w k n p q r i j = absurd (false≢true j)
in_time_read program (u ∷ us) (v ∷ vs) (x ∷ xs) (y ∷ ys) (z ∷ zs) w k n p q r i j =
    let a : (u == 45) ≡ false = off (u == 45) (digits_plain 256 (u ∷ us) w p) in
    let b : (v == 45) ≡ false = off (v == 45) (small_plain 86400000 (v ∷ vs) k q) in
    let e : (x == 45) ≡ false = off (x == 45) (digits_plain 256 (x ∷ xs) n r) in
    let f : (y == 45) ≡ false = off (y == 45) i in
    let g : (z == 45) ≡ false = off (z == 45) j in
    in_time_rows (in_time_words program (u ∷ us) (v ∷ vs) (x ∷ xs) (y ∷ ys) (z ∷ zs)) _ (u ∷ us) (v ∷ vs) (x ∷ xs) (y ∷ ys) (z ∷ zs) w k n
    (timed.in_time_top program _ _ _ _ _ _ _ _ ∙ rw (timed.level u us v vs x xs y ys z zs a b e f g) refl) (timed.in_time_rows program _ _ _ _ _ _ _ _)
    (timed.within_read u us v vs x xs y ys z zs a b e f g) (timed.max_ms_read u us v vs x xs y ys z zs a b e f g) (timed.steps_read u us v vs x xs y ys z zs a b e f g)
    (timed.design_read u us v vs x xs y ys z zs a b e f g) (timed.proof_read u us v vs x xs y ys z zs a b e f g) p q r
