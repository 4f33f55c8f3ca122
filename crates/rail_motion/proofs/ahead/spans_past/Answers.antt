use Rattle.std.proofs.Common.{◌∙◌, sym, subst, arith, rules, nat_abs, nat_lt, nat_le, leb-true, leb-false, length-drop}
use Rattle.std.proofs.lemmas.Bool.{lt-ltb, le-ltb}
use Rattle.std.proofs.lemmas.List.{take_all}
use Rattle.std.proofs.lemmas.List.Sorted.{IsPartitionPoint-from_clause, IsPartitionedBy-leb}
use Rattle.rail_motion.specs.Track.{LeastAhead, NoneSlower}
use Rattle.rail_motion.proofs.Skipping.{least_from, none_slower_from}
use Rattle.rail_motion.proofs.Rising.{ends_rise, filter_from}
use Rattle.rail_motion.proofs.ahead.spans_past.Goals as goal

pub returns-clause-past : goal.returns-clause-past
returns-clause-past c =
    let spans = c.args.spans.now in
    let x = c.args.place in
    let parted = IsPartitionedBy-leb (λ s. nat_abs s.end) spans x (ends_rise spans c.requires.rising) in
    let point = IsPartitionPoint-from_clause (λ s. nat_le (nat_abs s.end) x) spans _ c.partition_point-first.ensures.partitioned parted (λ a r q k. search rules) in
    take_all _ _ (simp length-drop (omega arith))
    ∙ sym (filter_from (λ s. nat_lt x (nat_abs s.end)) spans c.partition_point-first.result
    (λ k d l m. le-ltb x _ (leb-true _ x (point.0 k d l m)))
    (λ k d l m. lt-ltb x _ (leb-false _ x (point.1 k d l m))))

pub returns-clause-none_slower : goal.returns-clause-none_slower
returns-clause-none_slower c =
    subst NoneSlower (sym (take_all _ _ (simp length-drop (omega arith)))) (none_slower_from c.args.spans.now c.partition_point-first.result c.requires.none_slower)

pub returns-clause-least : goal.returns-clause-least
returns-clause-least c =
    subst LeastAhead (sym (take_all _ _ (simp length-drop (omega arith)))) (least_from c.args.spans.now c.partition_point-first.result c.requires.least)
