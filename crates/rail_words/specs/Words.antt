-- Words and requests by their bytes.
use Rattle.std.specs.Prelude.{List, map, String, string_bytes}
use Rattle.std.specs.declared.alloc.Global.{Global}
use Rattle.clap.specs.Words.{Text}
use Rattle.rail_words.specs.declared.request.Request.{Request}
use Rattle.rail_words.specs.declared.request.Request.TheVariants.{Simulate, Routes, Verify, Tightest, Check, Trial}
use Rattle.rail_words.specs.Requests.{RequestSeen, simulate, routes, verify, tightest, check, trial}

-- the words as texts
abbrev pub texts_of : List (String Global) → List Text
texts_of words = map (λ word. string_bytes word) words

-- a request by its texts
abbrev pub request_seen : Request → RequestSeen
request_seen (Simulate design plan) = simulate design.now plan.now
request_seen (Routes design) = routes design.now
request_seen (Verify steps conflicts ticks mode design proof) =
    verify steps conflicts ticks mode design.now proof.now
request_seen (Tightest steps conflicts ticks within bounds design proof) =
    tightest steps conflicts ticks within bounds design.now proof.now
request_seen (Check steps in_time design proof) = check steps in_time design.now proof.now
request_seen (Trial seed size) = trial seed size
