-- What is told while a request is done.
use Rattle.std.proofs.Common.{◌≡◌, ℕ, ◌*◌, Bool, List, Option, None, Some, Ok, refl, sym, subst}
use Rattle.rail_base.specs.declared.station.Station.{Station}
use Rattle.rail_outside.specs.Files.{Files}
use Rattle.rail_words.specs.Requests.{RequestSeen, simulate, routes, verify, tightest, check, trial}
use Rattle.rail_words.specs.declared.request.SearchMode.{SearchMode}
use Rattle.rail_words.specs.declared.request.SearchMode.TheVariants as by
use Rattle.verify_loop.specs.declared.outcome.Aim.{Aim}
use Rattle.verify_loop.specs.Telling.{TellsHowFar, TellsProgress}
use Rattle.verify_loop.specs.Quests.{by_itself}
use Rattle.verify_loop.specs.Lessening.{untimed}
use Rattle.verify_loop.specs.Tightening.{TellsAttempts, TellsTightest, base_for}
use Rattle.verify_loop.proofs.Told.{none_told}
use Rattle.workload.specs.Made.{made}
use Rattle.cli_shell.specs.Answers.{design_in}
use Rattle.rail_cli.specs.Answers.{aim_of}
use Rattle.rail_cli.specs.Searches.{Tells}
use Rattle.rail_cli.specs.Times.{TellsTime}

-- nothing is, of a search
pub none_of : (m : Aim) (d : Station) (n : ℕ) (puts : Option (List (List ℕ))) → TellsHowFar m d n puts puts
none_of m d n puts = none_told (TellsProgress (by_itself m d n) d n) puts

-- of one for the least time
pub none_timed : (bounds : Bool) (w : ℕ) (d : Station) (n : ℕ) (puts : Option (List (List ℕ))) → TellsTightest (base_for bounds w) (untimed d w) w n puts puts
none_timed bounds w d n puts = none_told (TellsAttempts (base_for bounds w) (untimed d w) w n) puts

-- of any request
pub nothing_told : (files : Files) (asked : Option RequestSeen) (puts : Option (List (List ℕ))) → Tells files asked puts puts
nothing_told files None puts = refl
nothing_told files (Some (simulate design plan)) puts = refl
nothing_told files (Some (routes design)) puts = refl
nothing_told files (Some (verify n conflicts ticks mode design proof)) puts = λ d read. none_of (aim_of mode) d n puts
nothing_told files (Some (tightest n conflicts ticks w bounds design proof)) puts = λ d read. none_timed bounds w d n puts
nothing_told files (Some (check n in_time design proof)) puts = refl
nothing_told files (Some (trial seed size)) puts = none_of (aim_of by.Plain) (made seed size) (2 * size) puts

-- of a search
pub search_tells : (files : Files) (r : RequestSeen) (n conflicts ticks : ℕ) (mode : SearchMode) (design proof : List ℕ) (old new : Option (List (List ℕ))) → r ≡ verify n conflicts ticks mode design proof
    → ((d : Station) → design_in (files design) ≡ Ok d → TellsHowFar (aim_of mode) d n old new) → Tells files (Some r) old new
search_tells files r n conflicts ticks mode design proof old new is told = subst (λ (z : RequestSeen). Tells files (Some z) old new) (sym is) told

-- of one for the least time
pub time_tells : (files : Files) (r : RequestSeen) (n conflicts ticks w : ℕ) (bounds : Bool) (design proof : List ℕ) (old new : Option (List (List ℕ))) → r ≡ tightest n conflicts ticks w bounds design proof
    → TellsTime bounds w (files design) n old new → Tells files (Some r) old new
time_tells files r n conflicts ticks w bounds design proof old new is told = subst (λ (z : RequestSeen). Tells files (Some z) old new) (sym is) told

-- of a trial
pub trial_tells : (files : Files) (r : RequestSeen) (seed size : ℕ) (old new : Option (List (List ℕ))) → r ≡ trial seed size → TellsHowFar (aim_of by.Plain) (made seed size) (2 * size) old new → Tells files (Some r) old new
trial_tells files r seed size old new is told = subst (λ (z : RequestSeen). Tells files (Some z) old new) (sym is) told

-- of what words ask for
pub asked_tells : (files : Files) (asked : Option RequestSeen) (r : RequestSeen) (old new : Option (List (List ℕ))) → asked ≡ Some r → Tells files (Some r) old new → Tells files asked old new
asked_tells files asked r old new is told = subst (λ z. Tells files z old new) (sym is) told

-- the design that is read is the one
pub design_tells : (m : Aim) (bytes : List ℕ) (e : Station) (n : ℕ) (old new : Option (List (List ℕ))) → design_in bytes ≡ Ok e → TellsHowFar m e n old new → (d : Station) → design_in bytes ≡ Ok d → TellsHowFar m d n old new
design_tells m bytes e n old new read told d also = (let same : e ≡ d = cc in subst (λ (z : Station). TellsHowFar m z n old new) same told)

pub design_timed : (bounds : Bool) (w : ℕ) (bytes : List ℕ) (e : Station) (n : ℕ) (old new : Option (List (List ℕ))) → design_in bytes ≡ Ok e → TellsTightest (base_for bounds w) (untimed e w) w n old new → TellsTime bounds w bytes n old new
design_timed bounds w bytes e n old new read told d also = (let same : e ≡ d = cc in subst (λ (z : Station). TellsTightest (base_for bounds w) (untimed z w) w n old new) same told)
