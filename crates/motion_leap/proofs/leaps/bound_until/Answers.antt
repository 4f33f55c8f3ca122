use Rattle.std.proofs.Common.{◌≡◌, ℕ, ◌<◌, Option, nat_abs, to_z, of_z, w64, subst, sym, ◌∙◌, ap, arith}
use Rattle.std.specs.Option.{ForSome}
use Rattle.std.proofs.lemmas.Int.{ints}
use Rattle.rail_motion.specs.Track.{stretches_of}
use Rattle.rail_spec.specs.Motion.{limit_at}
use Rattle.rail_motion.proofs.Rising.{limit_at_past}
use Rattle.motion_leap.specs.Steps.{IsBound}
use Rattle.motion_leap.proofs.Leaping.{bound_at, later_still}
use Rattle.motion_leap.proofs.leaps.bound_until.Goals as goal
use Rattle.motion_leap.proofs.leaps.bound_until.Goals.{then-start-end+then-span-limit, else-start-end}

pub loop-span-init : goal.loop-span-init
loop-span-init c = record {
  by_tail = omega arith;
  by_head = omega arith;
  later = λ top p past.
      sym (ap (λ spans. limit_at top (stretches_of spans) p) c.spans_past-spans.ensures ∙ limit_at_past top c.saturating_sub-start.result c.args.ahead.now.spans.now p past);
  bound = λ b none. cc;
}

pub returns-then-x-end : goal.returns-then-x-end
returns-then-x-end c =
    let item = c.span-item.result in
    let end_range = item.end_range in
    let limit_range = item.limit_range in
    let spans = c.args.ahead.now.spans.now in
    let end : nat_abs (to_z w64 (of_z w64 item.end)) ≡ nat_abs item.end = omega (arith, ints) in
    let limit : nat_abs (to_z w64 (of_z w64 item.limit)) ≡ nat_abs item.limit = omega (arith, ints) in
    let P : Option ℕ → Type 0 = λ border. ForSome border (λ b. (c.args.x < b) × IsBound c.args.tail (stretches_of spans) c.args.x b c.args.limit) in
    let bound : P c.if-start-end.border = elim c.if-start-end.branch [
      | then-start-end+then-span-limit w ↦
          bound_at c.args.tail c.loop-span.start c.args.x c.args.limit c.loop-span.span-index _ _ (stretches_of spans) _ item c.if-start-end.border c.span-item.is c.loop-span-test.true c.loop-span.invariant.by_head
          c.loop-span.invariant.by_tail c.loop-span.invariant.later end limit w.if-start-end.true w.if-span-limit.true w.border-is
      | else-start-end w ↦ subst P (sym w.border-is) c.loop-span.invariant.bound
    ] in
    bound

pub loop-span-preserved : goal.loop-span-preserved
loop-span-preserved c =
    let item = c.span-item.result in
    let end_range = item.end_range in
    let limit_range = item.limit_range in
    let spans = c.args.ahead.now.spans.now in
    let end : nat_abs (to_z w64 (of_z w64 item.end)) ≡ nat_abs item.end = omega (arith, ints) in
    let limit : nat_abs (to_z w64 (of_z w64 item.limit)) ≡ nat_abs item.limit = omega (arith, ints) in
    let P : Option ℕ → Type 0 = λ border. ForSome border (λ b. (c.args.x < b) × IsBound c.args.tail (stretches_of spans) c.args.x b c.args.limit) in
    let bound : P c.if-start-end.border = elim c.if-start-end.branch [
      | then-start-end+then-span-limit w ↦
          bound_at c.args.tail c.loop-span.start c.args.x c.args.limit c.loop-span.span-index _ _ (stretches_of spans) _ item c.if-start-end.border c.span-item.is c.loop-span-test.true c.loop-span.invariant.by_head
          c.loop-span.invariant.by_tail c.loop-span.invariant.later end limit w.if-start-end.true w.if-span-limit.true w.border-is
      | else-start-end w ↦ subst P (sym w.border-is) c.loop-span.invariant.bound
    ] in
    record {
      by_tail = omega arith;
      by_head = omega arith;
      later = λ top p past.
          later_still top c.loop-span.start p c.loop-span.span-index _ _ (stretches_of spans) _ item c.span-item.is c.loop-span-test.true (c.loop-span.invariant.later top p) end c.max-start.ensures past;
      bound = bound;
    }
