-- A proof that a search for the least time has stored passes a check.
use Rattle.std.specs.Prelude.{◌≡◌, ◌≢◌, ◌≤◌, ◌-◌, ◌*◌, true, ℕ, Bool, List, Option, Some, Ok}
use Rattle.infra_reader.specs.Design.{design_of}
use Rattle.rail_base.specs.declared.station.Station.{Station}
use Rattle.rail_base.specs.Stations.{horizon}
use Rattle.rail_outside.specs.Files.{Files}
use Rattle.rail_spelling.specs.Lines.{bounds_flag}
use Rattle.rail_words.specs.Laws.{in_time_words, is_plain, tightest_words}
use Rattle.rail_words.specs.Requests.{check, request_of, steps_of, conflicts_of, ticks_of, within_of, max_ms_of}
use Rattle.rail_cli.specs.Ended.{Ended}
use Rattle.rail_cli.specs.Passes.{Passes}
use Rattle.rail_cli.specs.Times.{HoldsPassing, ReportsLeast, ReportsNoTime, TimeSearches, ticks_put}

-- where a search for the least time has left these files with a proof that so many ticks are too few, all words that ask for a
-- check of n steps with the same two names and so many ticks put into the within pass
abbrev pub StoredTimesPass : Type 0
StoredTimesPass = (files left : Files) (design proof : List ℕ) (n w : ℕ) (d : Station) (ticks : ℕ)
    → HoldsPassing files design proof n w d ticks (Some left) → design ≢ proof
    → (found : Ended) (words : List (List ℕ)) → request_of words ≡ Some (check n (ticks_put d w ticks) design proof)
    → Passes left found n words

-- where the words of `tightest`, with bounds or without, have given a least time and have left these files, the words of `check`
-- with the same N, W, DESIGN and PROOF and a tick less, or where they have said that there is no time, with as many ticks as are
-- run, pass; the numbers are in range, and the names differ and are plain
module _ (files left : Files) (program steps conflicts ticks within max_ms design proof : List ℕ) (bounds : Bool)
    (n c t w : ℕ) (d : Station) (old new : Option (List ℕ)) where
  -- what is so of each search for the least time that the words ask for
  abbrev pub OfSearches : (List ℕ → List ℕ → Type 0) → Type 0
  OfSearches Is = (s : TimeSearches files (tightest_words program steps conflicts ticks within (bounds_flag bounds) design proof) n w d)
      → Is s.design_name s.proof_name

  -- the words are such, and the time is so many ticks
  pub record AreSuchWords (k : ℕ) : Type 0 where
    pub steps_is : steps_of steps ≡ Some n
    pub conflicts_is : conflicts_of conflicts ≡ Some c
    pub ticks_is : ticks_of ticks ≡ Some t
    pub within_is : within_of within ≡ Some w
    pub time_is : max_ms_of max_ms ≡ Some (k * d.tick_ms)
    pub plain_design : is_plain design ≡ true
    pub plain_proof : is_plain proof ≡ true
    pub differ : design ≢ proof
    pub spelled : design_of (files design) ≡ Ok d

  -- the check passes
  abbrev pub CheckPasses : Type 0
  CheckPasses = (found : Ended) → Passes left found n (in_time_words program within max_ms steps design proof)

  abbrev pub LeastPasses : Type 0
  LeastPasses = (least : ℕ) → 1 ≤ least → AreSuchWords (least - 1)
      → OfSearches (λ a b. (r : ReportsLeast files a b n w d old new (Some left)) × (r.least ≡ least)) → CheckPasses

  abbrev pub NoTimePasses : Type 0
  NoTimePasses = AreSuchWords (horizon d)
      → OfSearches (λ a b. ReportsNoTime files a b n w d old new (Some left)) → CheckPasses

-- so it is with all words
abbrev pub TightestPassesCheck : Type 0
TightestPassesCheck =
    (files left : Files) (program steps conflicts ticks within max_ms design proof : List ℕ) (bounds : Bool)
    (n c t w : ℕ) (d : Station) (old new : Option (List ℕ))
    → LeastPasses files left program steps conflicts ticks within max_ms design proof bounds n c t w d old new
    × NoTimePasses files left program steps conflicts ticks within max_ms design proof bounds n c t w d old new
