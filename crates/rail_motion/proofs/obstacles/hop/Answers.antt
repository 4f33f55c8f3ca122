use Rattle.std.proofs.Common.{◌≡◌, ◌≤ℤ◌, inr, slice_index_or, sym, ap, subst, ◌∙◌, arith}
use Rattle.std.proofs.lemmas.Int.{ints}
use Rattle.rail_motion.specs.declared.Span.{Span}
use Rattle.rail_motion.proofs.Marking.{any_other}
use Rattle.rail_motion.proofs.obstacles.hop.Goals as goal

pub returns-then-speed-limit-clause-none : goal.returns-then-speed-limit-clause-none
returns-then-speed-limit-clause-none c = λ j d past near within.
    let spans = c.args.spans.now in
    let m = c.saturating_add-least.result in
    let least = c.index-spans-least.result in
    let sum = c.saturating_add-least.ensures in
    let here = any_other spans c.args.index d c.index-spans-index.result c.requires.within in
    let count : (slice_index_or spans c.args.index d).least_in ≡ c.index-spans-index.result.least_in = ap (λ (t : Span). t.least_in) (here ∙ sym c.index-spans-index.is) in
    let inside = c.if-least-spans.true in
    let lowest : (slice_index_or spans m d).limit ≤ℤ (slice_index_or spans j d).limit = c.requires.least c.args.index j m d past (omega arith) (omega arith) (omega arith) in
    let there : slice_index_or spans m d ≡ least = any_other spans m d least (omega arith) ∙ sym c.index-spans-least.is in
    let lower : least.limit ≤ℤ (slice_index_or spans j d).limit = subst (λ r. r.limit ≤ℤ (slice_index_or spans j d).limit) there lowest in
    let positive = least.limit_range.at_least in
    let allows = c.if-speed-limit.true in
    let limit = c.limit.ensures in
    inr (omega (arith, ints))
