-- Checks of proofs that a search for the least time has stored.
use Rattle.std.proofs.Common.{◌≡◌, ◌≤◌, ◌-◌, true, false, ℕ, Bool, List, Some, ap, sym, ◌∙◌, subst}
use Rattle.rail_base.specs.Stations.{horizon}
use Rattle.rail_outside.specs.Files.{Files, updated}
use Rattle.rail_spelling.specs.Lines.{bounds_flag}
use Rattle.rail_words.specs.Laws.{is_plain, tightest_words}
use Rattle.rail_words.specs.Requests.{tightest, request_of, steps_of, conflicts_of, ticks_of, within_of}
use Rattle.rail_words.proofs.Timed.{tightest_read, tightest_bounds_read, in_time_read}
use Rattle.proof_shell.specs.Answers.{check_reply}
use Rattle.rail_cli.specs.Answers.{answer_to}
use Rattle.rail_cli.specs.TimePasses.{StoredTimesPass, TightestPassesCheck}
use Rattle.rail_cli.specs.Times.{HoldsPassing, TimeSearches, ticks_put}
use Rattle.rail_cli.proofs.Stored.{stored_there, stored_apart}

pub times_asked : StoredTimesPass
times_asked files left design proof n w d ticks holds differ found words asked =
    let log = holds.stored in
    let known_files : Some left ≡ Some (updated files proof log.log) = log.holds in
    let now : left ≡ updated files proof log.log = cc in
    ap (answer_to left found) asked
    ∙ (ap (λ (bytes : List ℕ). check_reply n (ticks_put d w ticks) bytes (left proof)) (ap (λ (f : Files). f design) now ∙ stored_apart files proof log.log design differ)
    ∙ (ap (check_reply n (ticks_put d w ticks) (files design)) (ap (λ (f : Files). f proof) now ∙ stored_there files proof log.log) ∙ holds.passes))

-- the words of `tightest`, with bounds or without, ask for just what they say
words_asked : (bounds : Bool) (program steps conflicts ticks within design proof : List ℕ) (n c t w : ℕ) → steps_of steps ≡ Some n → conflicts_of conflicts ≡ Some c → ticks_of ticks ≡ Some t → within_of within ≡ Some w
    → is_plain design ≡ true → is_plain proof ≡ true → request_of (tightest_words program steps conflicts ticks within (bounds_flag bounds) design proof) ≡ Some (tightest n c t w bounds design proof)
words_asked false program steps conflicts ticks within design proof n c t w a b e f g h = (tightest_read program steps conflicts ticks within design proof n c t w a b e f g h).0
words_asked true program steps conflicts ticks within design proof n c t w a b e f g h = (tightest_bounds_read program steps conflicts ticks within design proof n c t w a b e f g h).0

pub times_words : TightestPassesCheck
times_words files left program steps conflicts ticks within max_ms design proof bounds n c t w d old new = (
  λ least some are tells found.
      (let asked = words_asked bounds program steps conflicts ticks within design proof n c t w are.steps_is are.conflicts_is are.ticks_is are.within_is are.plain_design are.plain_proof in
      let search : TimeSearches files (tightest_words program steps conflicts ticks within (bounds_flag bounds) design proof) n w d = record { conflicts = c; ticks = t; bounds = bounds; design_name = design; proof_name = proof; asked = asked; parses_design = are.spelled } in
      let r = tells search in
      let holds : HoldsPassing files design proof n w d (least - 1) (Some left) = subst (λ k. HoldsPassing files design proof n w d (k - 1) (Some left)) r.1 (r.0.shown (subst (λ k. 1 ≤ k) (sym r.1) some)) in
      times_asked files left design proof n w d (least - 1) holds are.differ found _ (in_time_read program within max_ms steps design proof w _ n are.within_is are.time_is are.steps_is are.plain_design are.plain_proof)),
  λ are tells found.
      (let asked = words_asked bounds program steps conflicts ticks within design proof n c t w are.steps_is are.conflicts_is are.ticks_is are.within_is are.plain_design are.plain_proof in
      let search : TimeSearches files (tightest_words program steps conflicts ticks within (bounds_flag bounds) design proof) n w d = record { conflicts = c; ticks = t; bounds = bounds; design_name = design; proof_name = proof; asked = asked; parses_design = are.spelled } in
      times_asked files left design proof n w d (horizon d) (tells search).shown are.differ found _ (in_time_read program within max_ms steps design proof w _ n are.within_is are.time_is are.steps_is are.plain_design are.plain_proof)),
)
