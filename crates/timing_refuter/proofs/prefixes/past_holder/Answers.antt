use Rattle.std.proofs.Common.{ℕ, ◌+◌, Bool, drop, get_or, if◌then◌else◌, ap, sym, ◌∙◌}
use Rattle.std.proofs.lemmas.List.{drop_more}
use Rattle.rail_base.specs.declared.route.RouteNo.{RouteNo}
use Rattle.slice_spec.specs.Slices.{past_last}
use Rattle.timing_refuter.specs.Prefixes.{holds_one}
use Rattle.timing_refuter.proofs.Prefixing.{or_last, or_last_next}
use Rattle.timing_refuter.proofs.prefixes.past_holder.Goals as goal
use Rattle.timing_refuter.proofs.prefixes.past_holder.Goals.{then-holds_one, else-holds_one}

pub loop-place-preserved : goal.loop-place-preserved
loop-place-preserved c =
    let i = c.loop-place.place in
    let past = c.loop-place.past in
    let items = c.as_slice-route-items.result.now in
    let test : RouteNo → Bool = λ r. holds_one c.args.trains.now (record { train = c.args.train.now.train; route = r }) in
    let x : RouteNo = get_or items i (record { 0 = 0 }) in
    let cut = drop_more items i (record { 0 = 0 }) c.loop-place-test.true in
    let rest = ap (λ rs. or_last past i (past_last test rs)) (sym cut) ∙ c.loop-place.invariant in
    let found : Bool → ℕ = λ b. if b then i + 1 else past in
    elim c.if-holds_one.branch [
      | then-holds_one w ↦ ap (λ p. or_last p (i + 1) (past_last test (drop (i + 1) items))) (w.past-is ∙ sym (ap found (sym c.holds_one.ensures ∙ w.if-holds_one.true))) ∙ or_last_next test past i x (drop (i + 1) items) ∙ rest
      | else-holds_one w ↦ ap (λ p. or_last p (i + 1) (past_last test (drop (i + 1) items))) (w.past-is ∙ sym (ap found (sym c.holds_one.ensures ∙ w.if-holds_one.false))) ∙ or_last_next test past i x (drop (i + 1) items) ∙ rest
    ]
