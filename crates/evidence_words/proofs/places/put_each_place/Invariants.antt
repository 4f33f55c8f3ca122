use Rattle.std.proofs.Common.{◌≡◌, ◌++◌, take, codes}
use Rattle.cone_words.specs.Phrases.{each_after}
use Rattle.evidence_words.specs.Bounds.{place_text}
use Rattle.evidence_words.proofs.places.put_each_place.Given as goal

abbrev pub invariant-loop-place : goal.invariant-loop-place
invariant-loop-place l = l.text.items ≡ l.initial.text.items ++ each_after (codes ", then ") (place_text l.interlocking.design.station l.interlocking.routes) (take l.place-index l.places)
