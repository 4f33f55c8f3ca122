use Rattle.std.proofs.Common.{◌≡◌, ℕ, ◌≤◌, List, Option, ◌+◌, ◌-◌, ◌++◌, ◌∷◌, [], length, sym, ap, ap₂, subst, ◌∙◌, arith}
use Rattle.rail_base.specs.Numbering.{entry}
use Rattle.command_set.specs.Blocks.{member_count}
use Rattle.command_set.specs.Commands.{AreRising}
use Rattle.command_set.specs.Rows.{places_in}
use Rattle.command_set.proofs.Blocks.{counted_more}
use Rattle.command_set.proofs.Lists.{entry_next, more_cells}
use Rattle.command_set.proofs.Standing.{few_before}
use Rattle.command_set.proofs.places.places_of.Goals as goal

pub places_in-requires-clause-rising : goal.places_in-requires-clause-rising
places_in-requires-clause-rising c =
    subst AreRising (entry_next [] c.args.rows.now c.loop-row.row-index c.row-item.result c.row-item.is c.loop-row-test.true ∙ sym c.as_slice.ensures) (c.requires.rising (c.loop-row.row-index + 1))

pub places_in-requires-clause-short : goal.places_in-requires-clause-short
places_in-requires-clause-short c =
    subst (λ xs. length xs ≤ 2000) (entry_next [] c.args.rows.now c.loop-row.row-index c.row-item.result c.row-item.is c.loop-row-test.true ∙ sym c.as_slice.ensures) (c.requires.short (c.loop-row.row-index + 1))

pub places_in-requires-clause-before : goal.places_in-requires-clause-before
places_in-requires-clause-before c =
    let few = c.requires.at_most_128 in
    let below = c.loop-row-test.true in
    let low = few_before c.args.routes c.args.rows.now c.requires c.loop-row.row-index (omega arith) in
    let e = c.loop-row.invariant.sum in
    omega arith

pub overflow_cast-before : goal.overflow_cast-before
overflow_cast-before c =
    let own = entry_next [] c.args.rows.now c.loop-row.row-index c.row-item.result c.row-item.is c.loop-row-test.true in
    let short = subst (λ xs. length xs ≤ 2000) own (c.requires.short (c.loop-row.row-index + 1)) in
    let e = c.len.ensures in
    omega arith

pub overflow_add-before : goal.overflow_add-before
overflow_add-before c =
    let own = entry_next [] c.args.rows.now c.loop-row.row-index c.row-item.result c.row-item.is c.loop-row-test.true in
    let short = subst (λ xs. length xs ≤ 2000) own (c.requires.short (c.loop-row.row-index + 1)) in
    let few = c.requires.at_most_128 in
    let below = c.loop-row-test.true in
    let low = few_before c.args.routes c.args.rows.now c.requires c.loop-row.row-index (omega arith) in
    let s = c.loop-row.invariant.sum in
    let e = c.len.ensures in
    omega arith

pub loop-row-preserved : goal.loop-row-preserved
loop-row-preserved c =
    let i = c.loop-row.row-index in
    let rows = c.args.rows.now in
    let own = entry_next [] rows i c.row-item.result c.row-item.is c.loop-row-test.true in
    let line : ℕ → List (Option ℕ) = λ t. places_in c.args.routes (entry [] rows t) (member_count (entry [] rows) 1 (t - 1)) in
    record {
      placed = c.in_ok-push.ensures.items ∙ (ap₂ (λ xs x. xs ++ x ∷ []) c.loop-row.invariant.placed
          (c.in_ok-places_in.ensures ∙ ap₂ (places_in c.args.routes) (c.as_slice.ensures ∙ sym own) (c.loop-row.invariant.sum ∙ ap (member_count (entry [] rows) 1) (omega arith)))
          ∙ sym (more_cells line i));
      sum = (
          let more = counted_more (entry [] rows) 1 i in
          let size = ap length (ap (entry [] rows) (turned i) ∙ own) in
          let e = c.len.ensures in
          let s = c.loop-row.invariant.sum in
          omega arith);
    }
  where
    turned : (i : ℕ) → 1 + i ≡ i + 1
    turned i = omega arith
