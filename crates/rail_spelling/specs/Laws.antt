-- What is read is what is spelled, and nothing else is.
use Rattle.std.specs.Prelude.{◌≡◌, ℕ, List, Some, None, Ok}
use Rattle.rail_base.specs.declared.station.Station.{Station}
use Rattle.rail_base.specs.declared.route.Route.{Route}
use Rattle.rail_base.specs.declared.plan.Command.{Command}
use Rattle.infra_reader.specs.Design.{design_of}
use Rattle.rail_plan.specs.Reading.{plan_of}
use Rattle.rail_words.specs.Requests.{request_of, simulate, verify, tightest, check, trial}
use Rattle.rail_spelling.specs.Designs.{Spells}
use Rattle.rail_spelling.specs.Lines.{Word, SimulateLine, VerifyLine, TightestLine, CheckLine, CheckInTimeLine, TrialLine}
use Rattle.rail_spelling.specs.Plans.{SpellsPlan}

-- bytes spell the design that is read from them
abbrev pub DesignsAreSpelled : Type 0
DesignsAreSpelled = (bytes : List ℕ) (d : Station) → design_of bytes ≡ Ok d → Spells bytes d

-- and no other
abbrev pub SpelledDesignsAreOne : Type 0
SpelledDesignsAreOne = (bytes : List ℕ) (d e : Station) → design_of bytes ≡ Ok d → Spells bytes e → e ≡ d

-- bytes spell the plan that is read from them
abbrev pub PlansAreSpelled : Type 0
PlansAreSpelled = (d : Station) (routes : List Route) (bytes : List ℕ) (plan : List (List Command))
    → plan_of d routes bytes ≡ Ok plan → SpellsPlan d bytes plan

-- and no other, where the design is read too
abbrev pub SpelledPlansAreOne : Type 0
SpelledPlansAreOne = (file : List ℕ) (d : Station) → design_of file ≡ Ok d
    → (routes : List Route) (bytes : List ℕ) (plan other : List (List Command))
    → plan_of d routes bytes ≡ Ok plan → SpellsPlan d bytes other → other ≡ plan

-- ---- what plain lines ask for

abbrev pub SimulateLinesAsk : Type 0
SimulateLinesAsk = (words : List Word) (design plan : Word) → SimulateLine words design plan
    → request_of words ≡ Some (simulate design plan)

abbrev pub VerifyLinesAsk : Type 0
VerifyLinesAsk = (words : List Word) (n : ℕ) (design proof : Word) → (l : VerifyLine words n design proof)
    → request_of words ≡ Some (verify n l.conflicts l.ticks l.mode design proof)

abbrev pub TightestLinesAsk : Type 0
TightestLinesAsk = (words : List Word) (n within : ℕ) (design proof : Word) → (l : TightestLine words n within design proof)
    → request_of words ≡ Some (tightest n l.conflicts l.ticks within l.bounds design proof)

abbrev pub CheckLinesAsk : Type 0
CheckLinesAsk = (words : List Word) (n : ℕ) (design proof : Word) → CheckLine words n design proof
    → request_of words ≡ Some (check n None design proof)

abbrev pub CheckInTimeLinesAsk : Type 0
CheckInTimeLinesAsk = (words : List Word) (n within max_ms : ℕ) (design proof : Word)
    → CheckInTimeLine words n within max_ms design proof
    → request_of words ≡ Some (check n (Some (record { within = within; max_ms = max_ms })) design proof)

abbrev pub TrialLinesAsk : Type 0
TrialLinesAsk = (words : List Word) (seed size : ℕ) → TrialLine words seed size
    → request_of words ≡ Some (trial seed size)
