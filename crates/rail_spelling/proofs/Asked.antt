-- Plain lines ask for what they say.
use Rattle.std.proofs.Common.{◌≡◌, ℕ, Bool, true, false, not, ◌&&◌, ◌==◌, nat_le, ◌≤◌, [], ◌∷◌, ◌++◌, Some, None, option_and_then, if◌then◌else◌, codes, refl, ap, ap₂, ◌∙◌, le-leb, eqb-true}
use Rattle.rail_text.specs.Numbers.{number_of}
use Rattle.rail_words.specs.Laws.{is_plain, tightest_words}
use Rattle.rail_words.specs.Requests.{number_to, number_up_to, request_of, tightest, verify}
use Rattle.rail_words.proofs.Taken.{simulate_read, verify_read, bounds_read, any_read, normal_read, check_read, trial_read}
use Rattle.rail_words.proofs.Timed.{in_time_read, tightest_bounds_read, tightest_read}
use Rattle.rail_spelling.specs.Lines.{Word, IsNumber, IsName, bounds_flag, flags_of}
use Rattle.rail_words.specs.declared.request.SearchMode.{SearchMode}
use Rattle.rail_words.specs.declared.request.SearchMode.TheVariants.{Plain, Bounds, Any, Normal}
use Rattle.rail_spelling.specs.Laws.{SimulateLinesAsk, VerifyLinesAsk, TightestLinesAsk, CheckLinesAsk, CheckInTimeLinesAsk, TrialLinesAsk}

plain : (word : Word) → IsName word → is_plain word ≡ true
plain [] h = absurd h
plain (byte ∷ bytes) h = go (byte == 45) refl
  where
    go : (b : Bool) → (byte == 45) ≡ b → not b ≡ true
    go false e = refl
    go true e = absurd (h (eqb-true byte 45 e))

numbered : (word : Word) (n greatest : ℕ) → IsNumber word n greatest → number_to greatest word ≡ Some n
numbered word n greatest h =
    ap (option_and_then (λ n. if nat_le 1 n && nat_le n greatest then Some n else None)) h.0
    ∙ ap₂ (λ a b. if a && b then Some n else None) (le-leb 1 n h.1) (le-leb n greatest h.2)

pub simulate_asked : SimulateLinesAsk
simulate_asked words design plan l = ap request_of l.line ∙ simulate_read l.program design plan (plain design l.names.0) (plain plan l.names.1)

pub check_asked : CheckLinesAsk
check_asked words n design proof l =
    ap request_of l.line ∙ check_read l.program l.steps_word design proof n (numbered l.steps_word n 256 l.number) (plain design l.names.0) (plain proof l.names.1)

pub verify_asked : VerifyLinesAsk
verify_asked words n design proof l = ap request_of l.line ∙ go l.mode
  where
    steps : number_to 256 l.steps_word ≡ Some n
    steps = numbered l.steps_word n 256 l.numbers.0

    conflicts : number_to 10_000_000 l.conflicts_word ≡ Some l.conflicts
    conflicts = numbered l.conflicts_word l.conflicts 10_000_000 l.numbers.1

    ticks : number_to 1_000_000_000_000 l.ticks_word ≡ Some l.ticks
    ticks = numbered l.ticks_word l.ticks 1_000_000_000_000 l.numbers.2

    go : (mode : SearchMode) → request_of (l.program ∷ codes "verify" ∷ codes "--steps" ∷ l.steps_word ∷ codes "--conflicts" ∷ l.conflicts_word ∷ codes "--ticks" ∷ l.ticks_word ∷ (flags_of mode ++ design ∷ proof ∷ []))
        ≡ Some (verify n l.conflicts l.ticks mode design proof)
    go Bounds = bounds_read l.program l.steps_word l.conflicts_word l.ticks_word design proof n l.conflicts l.ticks steps conflicts ticks (plain design l.names.0) (plain proof l.names.1)
    go Any = any_read l.program l.steps_word l.conflicts_word l.ticks_word design proof n l.conflicts l.ticks steps conflicts ticks (plain design l.names.0) (plain proof l.names.1)
    go Normal = normal_read l.program l.steps_word l.conflicts_word l.ticks_word design proof n l.conflicts l.ticks steps conflicts ticks (plain design l.names.0) (plain proof l.names.1)
    go Plain = verify_read l.program l.steps_word l.conflicts_word l.ticks_word design proof n l.conflicts l.ticks steps conflicts ticks (plain design l.names.0) (plain proof l.names.1)

pub tightest_asked : TightestLinesAsk
tightest_asked words n within design proof l = ap request_of l.line ∙ go l.bounds
  where
    steps : number_to 256 l.steps_word ≡ Some n
    steps = numbered l.steps_word n 256 l.numbers.0

    conflicts : number_to 10_000_000 l.conflicts_word ≡ Some l.conflicts
    conflicts = numbered l.conflicts_word l.conflicts 10_000_000 l.numbers.1

    ticks : number_to 1_000_000_000_000 l.ticks_word ≡ Some l.ticks
    ticks = numbered l.ticks_word l.ticks 1_000_000_000_000 l.numbers.2

    which : number_to 256 l.within_word ≡ Some within
    which = numbered l.within_word within 256 l.numbers.3

    go : (bounds : Bool) → request_of (tightest_words l.program l.steps_word l.conflicts_word l.ticks_word l.within_word (bounds_flag bounds) design proof)
        ≡ Some (tightest n l.conflicts l.ticks within bounds design proof)
    go true = (tightest_bounds_read l.program l.steps_word l.conflicts_word l.ticks_word l.within_word design proof n l.conflicts l.ticks within steps conflicts ticks which (plain design l.names.0) (plain proof l.names.1)).0
    go false = (tightest_read l.program l.steps_word l.conflicts_word l.ticks_word l.within_word design proof n l.conflicts l.ticks within steps conflicts ticks which (plain design l.names.0) (plain proof l.names.1)).0

small : (word : Word) (n greatest : ℕ) → number_of word ≡ Some n → n ≤ greatest → number_up_to greatest word ≡ Some n
small word n greatest h le =
    ap (option_and_then (λ n. if nat_le n greatest then Some n else None)) h
    ∙ ap (λ b. if b then Some n else None) (le-leb n greatest le)

pub check_in_time_asked : CheckInTimeLinesAsk
check_in_time_asked words n within max_ms design proof l =
    ap request_of l.line
    ∙ in_time_read l.program l.within_word l.max_ms_word l.steps_word design proof within max_ms n
    (numbered l.within_word within 256 l.numbers.0) (small l.max_ms_word max_ms 86400000 l.numbers.1 l.numbers.2) (numbered l.steps_word n 256 l.numbers.3)
    (plain design l.names.0) (plain proof l.names.1)

pub trial_asked : TrialLinesAsk
trial_asked words seed size l = ap request_of l.line ∙ trial_read l.program l.seed_word l.size_word seed size l.numbers.0 (numbered l.size_word size 6 l.numbers.1)
