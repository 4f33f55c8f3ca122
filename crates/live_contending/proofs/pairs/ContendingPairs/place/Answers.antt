use Rattle.std.proofs.Common.{◌≡◌, ℕ, ◌+◌, ◌-◌, ◌≤◌, ◌<◌, inl, inr, List, Some, None, get_or, length, take, subst, sym, ap, ap₂, ◌∙◌, arith}
use Rattle.rail_base.specs.declared.plan.Command.{Command}
use Rattle.rail_spec.specs.Plans.{is_route}
use Rattle.clause_spec.specs.Variables.{is_pair}
use Rattle.clause_spec.proofs.Lists.{Distinct}
use Rattle.command_set.specs.Blocks.{member_count}
use Rattle.command_set.specs.Commands.{first_place}
use Rattle.command_set.proofs.Standing.{place_low}
use Rattle.live_contending.specs.declared.rows.TrainRows.{TrainRows}
use Rattle.live_contending.specs.Pairs.{ArePairs, Contending, pairs_by_rows, rivals_of_train}
use Rattle.live_contending.specs.Rows.{row_at, train_count}
use Rattle.live_contending.proofs.Distinct.{distinct_pairs, place_index, to_distinct}
use Rattle.live_contending.proofs.Placing.{place_absent, place_apart, place_present}
use Rattle.live_contending.proofs.Sized.{few_pairs, few_rivals, start_is, take_short}
use Rattle.live_contending.proofs.Tabled.{has_rows}
use Rattle.live_contending.proofs.pairs.ContendingPairs.place.Goals as goal

pub returns-in-None-clause-place : goal.returns-in-None-clause-place
returns-in-None-clause-place c =
    let rows = c.self.inside.rows in
    sym (place_absent (train_count rows) (row_at rows) c.self.inside.commands c.args.first c.args.second (sym c.number.ensures.place ∙ c.in-None.is))
    ∙ ap (λ (p : Contending). first_place (is_pair c.args.first c.args.second) p.pairs) c.self.view_is

pub returns-then-first-second-clause-place : goal.returns-then-first-second-clause-place
returns-then-first-second-clause-place c =
    let rows = c.self.inside.rows in
    sym (place_apart (train_count rows) (row_at rows) c.self.inside.commands c.args.first c.args.second (inl c.if-first-second.true))
    ∙ ap (λ (p : Contending). first_place (is_pair c.args.first c.args.second) p.pairs) c.self.view_is

pub returns-in-None-place_in_row-clause-place : goal.returns-in-None-place_in_row-clause-place
returns-in-None-place_in_row-clause-place c =
    let rows = c.self.inside.rows in
    sym (place_apart (train_count rows) (row_at rows) c.self.inside.commands c.args.first c.args.second
    (inr (ap (first_place (is_route c.args.second.route)) (sym c.row.ensures) ∙ (sym c.place_in_row.ensures.place ∙ c.in-None-place_in_row.is))))
    ∙ ap (λ (p : Contending). first_place (is_pair c.args.first c.args.second) p.pairs) c.self.view_is

-- how large a place is
size : (cs : List Command) (rows : TrainRows) (starts : List ℕ) → ArePairs cs rows starts → (e c : Command) (k x before w : ℕ) → k < length cs → x ≡ get_or starts k x
    → before ≡ member_count (rivals_of_train (row_at rows) e) 1 (c.train.0 - 1) → first_place (is_route c.route) (row_at rows c.train.0 e.route) ≡ Some w → w < length (row_at rows c.train.0 e.route) → x + before + w ≤ 66000000000
size cs rows starts are e c k x before w low is b second inside =
    let trains = has_rows rows c.train.0 w e.route c.route second in
    let first = trains.0 in
    let last = trains.1 in
    let at = start_is (train_count rows) (row_at rows) cs starts are.counted k x low is in
    let all = few_pairs (row_at rows) are.short (train_count rows) are.few (take k cs) in
    let take_ = take_short k cs (omega arith) in
    let passed = few_rivals (row_at rows) are.short e (c.train.0 - 1) in
    let few = are.few in
    let small = are.small in
    let short = are.short c.train.0 e.route in
    omega arith

pub overflow_add-result : goal.overflow_add-result
overflow_add-result c =
    let few = size c.self.inside.commands c.self.inside.rows c.self.inside.starts.items c.self.invariant c.args.first c.args.second c.in-Some.number c.index.result.now c.rivals_before-before.result c.in-Some-place_in_row.within
    c.in-Some.ensures.bound c.index.ensures c.rivals_before-before.ensures
    (ap (first_place (is_route c.args.second.route)) (sym c.row.ensures) ∙ (sym c.place_in_row.ensures.place ∙ c.in-Some-place_in_row.is))
    (subst (λ xs. c.in-Some-place_in_row.within < length xs) c.row.ensures c.in-Some-place_in_row.ensures.bound) in
    omega arith

pub overflow_add-result-in-Some-place_in_row : goal.overflow_add-result-in-Some-place_in_row
overflow_add-result-in-Some-place_in_row c =
    let few = size c.self.inside.commands c.self.inside.rows c.self.inside.starts.items c.self.invariant c.args.first c.args.second c.in-Some.number c.index.result.now c.rivals_before-before.result c.in-Some-place_in_row.within
    c.in-Some.ensures.bound c.index.ensures c.rivals_before-before.ensures
    (ap (first_place (is_route c.args.second.route)) (sym c.row.ensures) ∙ (sym c.place_in_row.ensures.place ∙ c.in-Some-place_in_row.is))
    (subst (λ xs. c.in-Some-place_in_row.within < length xs) c.row.ensures c.in-Some-place_in_row.ensures.bound) in
    omega arith

pub returns-in-Some-place_in_row-clause-place : goal.returns-in-Some-place_in_row-clause-place
returns-in-Some-place_in_row-clause-place c =
    let rows = c.self.inside.rows in
    let cs = c.self.inside.commands in
    let e = c.args.first in
    let s = c.args.second in
    let w = c.in-Some-place_in_row.within in
    let second = ap (first_place (is_route s.route)) (sym c.row.ensures) ∙ (sym c.place_in_row.ensures.place ∙ c.in-Some-place_in_row.is) in
    let trains = has_rows rows s.train.0 w e.route s.route second in
    let at = start_is (train_count rows) (row_at rows) cs c.self.inside.starts.items c.self.invariant.counted c.in-Some.number c.index.result.now c.in-Some.ensures.bound c.index.ensures in
    ap Some (ap₂ (λ x y. x + y + w) at c.rivals_before-before.ensures)
    ∙ (sym (place_present (train_count rows) (row_at rows) cs e s c.in-Some.number w (sym c.number.ensures.place ∙ c.in-Some.is) second trains.0 trains.1 c.if-first-second.false)
    ∙ ap (λ (p : Contending). first_place (is_pair e s) p.pairs) c.self.view_is)

pub returns-in-Some-place_in_row-clause-bound : goal.returns-in-Some-place_in_row-clause-bound
returns-in-Some-place_in_row-clause-bound c = place_low (is_pair c.args.first c.args.second) c.args.self.now.pairs (Some _) (returns-in-Some-place_in_row-clause-place c)

-- no pair stands twice
each_once : (cs : List Command) (rows : TrainRows) (starts : List ℕ) → ArePairs cs rows starts → (p : Contending) → pairs_by_rows (train_count rows) (row_at rows) cs ≡ p.pairs → Distinct p.pairs
each_once cs rows starts are p is = subst (λ (ps : List (Command × Command)). Distinct ps) is (distinct_pairs (train_count rows) (row_at rows) are.rising cs (to_distinct cs are.differ))

pub returns-in-None-clause-index : goal.returns-in-None-clause-index
returns-in-None-clause-index c = λ i h.
    place_index c.args.self.now.pairs (each_once c.self.inside.commands c.self.inside.rows c.self.inside.starts.items c.self.invariant c.args.self.now (ap (λ (p : Contending). p.pairs) c.self.view_is))
    c.args.first c.args.second None (returns-in-None-clause-place c) i h

pub returns-then-first-second-clause-index : goal.returns-then-first-second-clause-index
returns-then-first-second-clause-index c = λ i h.
    place_index c.args.self.now.pairs (each_once c.self.inside.commands c.self.inside.rows c.self.inside.starts.items c.self.invariant c.args.self.now (ap (λ (p : Contending). p.pairs) c.self.view_is))
    c.args.first c.args.second None (returns-then-first-second-clause-place c) i h

pub returns-in-Some-place_in_row-clause-index : goal.returns-in-Some-place_in_row-clause-index
returns-in-Some-place_in_row-clause-index c = λ i h.
    place_index c.args.self.now.pairs (each_once c.self.inside.commands c.self.inside.rows c.self.inside.starts.items c.self.invariant c.args.self.now (ap (λ (p : Contending). p.pairs) c.self.view_is))
    c.args.first c.args.second (Some _) (returns-in-Some-place_in_row-clause-place c) i h

pub returns-in-None-place_in_row-clause-index : goal.returns-in-None-place_in_row-clause-index
returns-in-None-place_in_row-clause-index c = λ i h.
    place_index c.args.self.now.pairs (each_once c.self.inside.commands c.self.inside.rows c.self.inside.starts.items c.self.invariant c.args.self.now (ap (λ (p : Contending). p.pairs) c.self.view_is))
    c.args.first c.args.second None (returns-in-None-place_in_row-clause-place c) i h
