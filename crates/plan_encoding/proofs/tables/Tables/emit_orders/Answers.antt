use Rattle.std.proofs.Common.{List, flat_map}
use Rattle.std.proofs.lemmas.Nat.{mul-le}
use Rattle.live_contending.proofs.Listed.{set_by_firsts}
use Rattle.plan_encoding.proofs.Counting.{row_few}
use Rattle.plan_encoding.proofs.Ordering.{own_few}
use Rattle.std.proofs.Common.{◌≡◌, ℕ, ◌+◌, ◌*◌, ◌≤◌, ◌<◌, length, filter, get_or, sym, ap, ◌∙◌, arith}
use Rattle.rail_base.specs.declared.plan.Command.{Command}
use Rattle.clause_spec.specs.Clauses.{in_order}
use Rattle.plan_encoding.proofs.Emission.{emitted_next, next_fails, handed_on}
use Rattle.rail_spec.specs.Plans.{contend}
use Rattle.command_set.proofs.Lists.{length-kept}
use Rattle.plan_encoding.proofs.Ordering.{pairs_all, pairs_more, pairs_to, number_is}
use Rattle.plan_encoding.proofs.Tabled.{each_pair, next_rivals, known_rivals}
use Rattle.plan_encoding.specs.Sinks.{emitted}
use Rattle.plan_encoding.specs.Encoders.{commands, over, numbered_clauses}
use Rattle.plan_encoding.proofs.Sequences.{parts_parts}
use Rattle.plan_encoding.proofs.tables.Tables.emit_orders.Goals as goal

pub returns-in_err-emit_orders_of-clause-err : goal.returns-in_err-emit_orders_of-clause-err
returns-in_err-emit_orders_of-clause-err c =
    handed_on _ c.from_residual-in_err-emit_orders_of.result c.in_err-emit_orders_of.field-0.0 c.from_residual-in_err-emit_orders_of.ensures.1 (next_fails c.args.self.now.encoder _ _ _ (next_rivals (in_order c.args.self.now.encoder.interlocking.now.design.station c.args.self.now.encoder.interlocking.now.routes c.args.self.now.encoder.steps.count) c.args.self.now.encoder.interlocking.now.routes (commands c.args.self.now.encoder) c.commands-commands.result.now c.loop-command.command-index _ c.loop-command-test.true c.deref.result.now (c.deref.ensures.value ∙ c.in_ok-rivals.ensures)) c.loop-command.sink _ _ c.in_err-emit_orders_of.ensures.err c.loop-command.invariant.left)

pub rivals-requires : goal.rivals-requires
rivals-requires c = record { command = c.commands-commands.ensures.known c.loop-command.command-index _ c.loop-command-test.true }

pub invariant_of-contenders : goal.invariant_of-contenders
invariant_of-contenders c = record {
  first_known = c.commands-commands.ensures.known c.loop-command.command-index _ c.loop-command-test.true;
  rivals_known = known_rivals c.args.self.now.encoder _ _ (c.deref.ensures.value ∙ c.in_ok-rivals.ensures);
  room =
      let few = c.commands-commands.ensures.bound in
      let own = own_few (length (commands c.args.self.now.encoder)) c.args.self.now.encoder.steps.count (let b = c.commands-commands.ensures.bound in let m = ap length c.commands-commands.ensures.value in omega arith) c.args.self.now.encoder.steps.at_most_256 in
      let counted = c.loop-command.invariant.counted in
      let many = ap length (c.commands-commands.ensures.value) in
      let within : c.loop-command.command-index < length (commands c.args.self.now.encoder) = (let t = c.loop-command-test.true in omega arith) in
      let same : get_or (commands c.args.self.now.encoder) c.loop-command.command-index (record { train = record { 0 = 0 }; route = record { 0 = 0 } }) ≡ (get_or c.commands-commands.result.now c.loop-command.command-index (record { train = record { 0 = 0 }; route = record { 0 = 0 } })) = ap (λ (cs : List Command). get_or cs c.loop-command.command-index (record { train = record { 0 = 0 }; route = record { 0 = 0 } })) (sym (c.commands-commands.ensures.value)) in
      let rivals : c.deref.result.now ≡ filter (contend c.args.self.now.encoder.interlocking.now.routes (get_or c.commands-commands.result.now c.loop-command.command-index (record { train = record { 0 = 0 }; route = record { 0 = 0 } }))) (commands c.args.self.now.encoder) = c.deref.ensures.value ∙ c.in_ok-rivals.ensures in
      let length-rivals = ap length rivals in
      let more = pairs_more (commands c.args.self.now.encoder) c.args.self.now.encoder.interlocking.now.design.station c.args.self.now.encoder.interlocking.now.routes c.args.self.now.encoder.of_design c.loop-command.command-index (record { train = record { 0 = 0 }; route = record { 0 = 0 } }) within in
      let length-same = ap (λ e. length (filter (contend c.args.self.now.encoder.interlocking.now.routes e) (commands c.args.self.now.encoder))) same in
      let fewer = c.loop-command.invariant.few in
      let kept = length-kept (contend c.args.self.now.encoder.interlocking.now.routes (get_or (commands c.args.self.now.encoder) c.loop-command.command-index (record { train = record { 0 = 0 }; route = record { 0 = 0 } }))) (commands c.args.self.now.encoder) in
      omega arith;
  numbers = λ i some l.
      let rivals : c.deref.result.now ≡ filter (contend c.args.self.now.encoder.interlocking.now.routes (get_or c.commands-commands.result.now c.loop-command.command-index (record { train = record { 0 = 0 }; route = record { 0 = 0 } }))) (commands c.args.self.now.encoder) = c.deref.ensures.value ∙ c.in_ok-rivals.ensures in
      let same : get_or (commands c.args.self.now.encoder) c.loop-command.command-index (record { train = record { 0 = 0 }; route = record { 0 = 0 } }) ≡ (get_or c.commands-commands.result.now c.loop-command.command-index (record { train = record { 0 = 0 }; route = record { 0 = 0 } })) = ap (λ (cs : List Command). get_or cs c.loop-command.command-index (record { train = record { 0 = 0 }; route = record { 0 = 0 } })) (sym (c.commands-commands.ensures.value)) in
      let many = ap length (c.commands-commands.ensures.value) in
      let within : c.loop-command.command-index < length (commands c.args.self.now.encoder) = (let t = c.loop-command-test.true in omega arith) in
      let length-rivals = ap length rivals in
      let one = number_is (commands c.args.self.now.encoder) c.args.self.now.encoder.interlocking.now.design.station c.args.self.now.encoder.interlocking.now.routes c.args.self.now.encoder.of_design c.loop-command.command-index i (get_or c.commands-commands.result.now c.loop-command.command-index (record { train = record { 0 = 0 }; route = record { 0 = 0 } })) (get_or c.deref.result.now i some) (record { train = record { 0 = 0 }; route = record { 0 = 0 } }) some same within (ap (λ (cs : List Command). get_or cs i some) (sym rivals)) (omega arith) c.args.self.now.encoder.steps.count in
      let counted = c.loop-command.invariant.counted in
      omega arith;
}

pub loop-command-preserved : goal.loop-command-preserved
loop-command-preserved c =
    let few = c.commands-commands.ensures.bound in
    let own = own_few (length (commands c.args.self.now.encoder)) c.args.self.now.encoder.steps.count (let b = c.commands-commands.ensures.bound in let m = ap length c.commands-commands.ensures.value in omega arith) c.args.self.now.encoder.steps.at_most_256 in
    let counted = c.loop-command.invariant.counted in
    let many = ap length (c.commands-commands.ensures.value) in
    let within : c.loop-command.command-index < length (commands c.args.self.now.encoder) = (let t = c.loop-command-test.true in omega arith) in
    let same : get_or (commands c.args.self.now.encoder) c.loop-command.command-index (record { train = record { 0 = 0 }; route = record { 0 = 0 } }) ≡ (get_or c.commands-commands.result.now c.loop-command.command-index (record { train = record { 0 = 0 }; route = record { 0 = 0 } })) = ap (λ (cs : List Command). get_or cs c.loop-command.command-index (record { train = record { 0 = 0 }; route = record { 0 = 0 } })) (sym (c.commands-commands.ensures.value)) in
    let rivals : c.deref.result.now ≡ filter (contend c.args.self.now.encoder.interlocking.now.routes (get_or c.commands-commands.result.now c.loop-command.command-index (record { train = record { 0 = 0 }; route = record { 0 = 0 } }))) (commands c.args.self.now.encoder) = c.deref.ensures.value ∙ c.in_ok-rivals.ensures in
    let length-rivals = ap length rivals in
    let more = pairs_more (commands c.args.self.now.encoder) c.args.self.now.encoder.interlocking.now.design.station c.args.self.now.encoder.interlocking.now.routes c.args.self.now.encoder.of_design c.loop-command.command-index (record { train = record { 0 = 0 }; route = record { 0 = 0 } }) within in
    let length-same = ap (λ e. length (filter (contend c.args.self.now.encoder.interlocking.now.routes e) (commands c.args.self.now.encoder))) same in
    let row = row_few c.args.self.now.encoder (get_or c.commands-commands.result.now c.loop-command.command-index (record { train = record { 0 = 0 }; route = record { 0 = 0 } })) c.deref.result.now c.loop-command.sink c.emit_orders_of.new.sink (length (pairs_to (commands c.args.self.now.encoder) c.args.self.now.encoder.interlocking.now.routes c.loop-command.command-index)) c.in_ok-emit_orders_of.ensures.ok c.loop-command.invariant.few c.loop-command.invariant.spent in
    let fewer = row.0 in
    let spent = row.1 in
    let value = ap length c.in_ok-rivals.ensures in
    record {
      counted = omega arith;
      few = omega arith;
      spent = omega arith;
      left = emitted_next c.args.self.now.encoder _ _ _ (next_rivals (in_order c.args.self.now.encoder.interlocking.now.design.station c.args.self.now.encoder.interlocking.now.routes c.args.self.now.encoder.steps.count) c.args.self.now.encoder.interlocking.now.routes (commands c.args.self.now.encoder) c.commands-commands.result.now c.loop-command.command-index _ c.loop-command-test.true c.deref.result.now (c.deref.ensures.value ∙ c.in_ok-rivals.ensures)) c.loop-command.sink c.emit_orders_of.new.sink _ c.in_ok-emit_orders_of.ensures.ok c.loop-command.invariant.left;
    }

pub overflow_cast-last : goal.overflow_cast-last
overflow_cast-last c =
    let few = c.commands-commands.ensures.bound in
    let many = ap length c.commands-commands.ensures.value in
    omega arith

pub overflow_mul-last : goal.overflow_mul-last
overflow_mul-last c =
    let few = c.commands-commands.ensures.bound in
    let many = ap length c.commands-commands.ensures.value in
    let all : (length c.commands-commands.result.now) * c.args.self.now.encoder.steps.count ≤ 256000 * 256 = mul-le (length c.commands-commands.result.now) c.args.self.now.encoder.steps.count 256000 256 (omega arith) c.args.self.now.encoder.steps.at_most_256 in
    omega arith

pub loop-command-init : goal.loop-command-init
loop-command-init c = record {
  counted =
      let many = ap length c.commands-commands.ensures.value in
      let all : (length c.commands-commands.result.now) ≡ length (commands c.args.self.now.encoder) = omega arith in
      ap (λ m. m * c.args.self.now.encoder.steps.count) all ∙ zero_more _;
  few = omega arith;
  spent = omega arith;
  left =
      ap (λ cs. emitted c.args.sink.now (numbered_clauses c.args.self.now.encoder cs))
      (ap (λ xs. flat_map (λ e. flat_map (over c.args.self.now.encoder in_order) (each_pair c.args.self.now.encoder.interlocking.now.routes (commands c.args.self.now.encoder) e)) xs) (c.commands-commands.ensures.value)
      ∙ (sym (parts_parts (over c.args.self.now.encoder in_order) (each_pair c.args.self.now.encoder.interlocking.now.routes (commands c.args.self.now.encoder)) (commands c.args.self.now.encoder))
      ∙ ap (flat_map (over c.args.self.now.encoder in_order)) (sym (c.args.self.now.encoder.paired ∙ set_by_firsts (commands c.args.self.now.encoder) c.args.self.now.encoder.interlocking.now.design.station c.args.self.now.encoder.interlocking.now.routes c.args.self.now.encoder.of_design))));
}
  where
    zero_more : (n : ℕ) → n ≡ n + 0
    zero_more n = omega arith

pub overflow_cast-last-in-loop-command : goal.overflow_cast-last-in-loop-command
overflow_cast-last-in-loop-command c =
    let few = c.commands-commands.ensures.bound in
    let own = own_few (length (commands c.args.self.now.encoder)) c.args.self.now.encoder.steps.count (let b = c.commands-commands.ensures.bound in let m = ap length c.commands-commands.ensures.value in omega arith) c.args.self.now.encoder.steps.at_most_256 in
    let counted = c.loop-command.invariant.counted in
    let many = ap length (c.commands-commands.ensures.value) in
    let within : c.loop-command.command-index < length (commands c.args.self.now.encoder) = (let t = c.loop-command-test.true in omega arith) in
    let same : get_or (commands c.args.self.now.encoder) c.loop-command.command-index (record { train = record { 0 = 0 }; route = record { 0 = 0 } }) ≡ (get_or c.commands-commands.result.now c.loop-command.command-index (record { train = record { 0 = 0 }; route = record { 0 = 0 } })) = ap (λ (cs : List Command). get_or cs c.loop-command.command-index (record { train = record { 0 = 0 }; route = record { 0 = 0 } })) (sym (c.commands-commands.ensures.value)) in
    let rivals : c.deref.result.now ≡ filter (contend c.args.self.now.encoder.interlocking.now.routes (get_or c.commands-commands.result.now c.loop-command.command-index (record { train = record { 0 = 0 }; route = record { 0 = 0 } }))) (commands c.args.self.now.encoder) = c.deref.ensures.value ∙ c.in_ok-rivals.ensures in
    let length-rivals = ap length rivals in
    let more = pairs_more (commands c.args.self.now.encoder) c.args.self.now.encoder.interlocking.now.design.station c.args.self.now.encoder.interlocking.now.routes c.args.self.now.encoder.of_design c.loop-command.command-index (record { train = record { 0 = 0 }; route = record { 0 = 0 } }) within in
    let length-same = ap (λ e. length (filter (contend c.args.self.now.encoder.interlocking.now.routes e) (commands c.args.self.now.encoder))) same in
    let row = row_few c.args.self.now.encoder (get_or c.commands-commands.result.now c.loop-command.command-index (record { train = record { 0 = 0 }; route = record { 0 = 0 } })) c.deref.result.now c.loop-command.sink c.emit_orders_of.new.sink (length (pairs_to (commands c.args.self.now.encoder) c.args.self.now.encoder.interlocking.now.routes c.loop-command.command-index)) c.in_ok-emit_orders_of.ensures.ok c.loop-command.invariant.few c.loop-command.invariant.spent in
    let fewer = row.0 in
    let spent = row.1 in
    let value = ap length c.in_ok-rivals.ensures in
    omega arith

pub overflow_add-last : goal.overflow_add-last
overflow_add-last c =
    let few = c.commands-commands.ensures.bound in
    let own = own_few (length (commands c.args.self.now.encoder)) c.args.self.now.encoder.steps.count (let b = c.commands-commands.ensures.bound in let m = ap length c.commands-commands.ensures.value in omega arith) c.args.self.now.encoder.steps.at_most_256 in
    let counted = c.loop-command.invariant.counted in
    let many = ap length (c.commands-commands.ensures.value) in
    let within : c.loop-command.command-index < length (commands c.args.self.now.encoder) = (let t = c.loop-command-test.true in omega arith) in
    let same : get_or (commands c.args.self.now.encoder) c.loop-command.command-index (record { train = record { 0 = 0 }; route = record { 0 = 0 } }) ≡ (get_or c.commands-commands.result.now c.loop-command.command-index (record { train = record { 0 = 0 }; route = record { 0 = 0 } })) = ap (λ (cs : List Command). get_or cs c.loop-command.command-index (record { train = record { 0 = 0 }; route = record { 0 = 0 } })) (sym (c.commands-commands.ensures.value)) in
    let rivals : c.deref.result.now ≡ filter (contend c.args.self.now.encoder.interlocking.now.routes (get_or c.commands-commands.result.now c.loop-command.command-index (record { train = record { 0 = 0 }; route = record { 0 = 0 } }))) (commands c.args.self.now.encoder) = c.deref.ensures.value ∙ c.in_ok-rivals.ensures in
    let length-rivals = ap length rivals in
    let more = pairs_more (commands c.args.self.now.encoder) c.args.self.now.encoder.interlocking.now.design.station c.args.self.now.encoder.interlocking.now.routes c.args.self.now.encoder.of_design c.loop-command.command-index (record { train = record { 0 = 0 }; route = record { 0 = 0 } }) within in
    let length-same = ap (λ e. length (filter (contend c.args.self.now.encoder.interlocking.now.routes e) (commands c.args.self.now.encoder))) same in
    let row = row_few c.args.self.now.encoder (get_or c.commands-commands.result.now c.loop-command.command-index (record { train = record { 0 = 0 }; route = record { 0 = 0 } })) c.deref.result.now c.loop-command.sink c.emit_orders_of.new.sink (length (pairs_to (commands c.args.self.now.encoder) c.args.self.now.encoder.interlocking.now.routes c.loop-command.command-index)) c.in_ok-emit_orders_of.ensures.ok c.loop-command.invariant.few c.loop-command.invariant.spent in
    let fewer = row.0 in
    let spent = row.1 in
    let value = ap length c.in_ok-rivals.ensures in
    omega arith

pub returns-clause-bound : goal.returns-clause-bound
returns-clause-bound c =
    let own = own_few (length (commands c.args.self.now.encoder)) c.args.self.now.encoder.steps.count (let b = c.commands-commands.ensures.bound in let m = ap length c.commands-commands.ensures.value in omega arith) c.args.self.now.encoder.steps.at_most_256 in
    let counted = c.loop-command.invariant.counted in
    let few = c.loop-command.invariant.few in
    omega arith

pub returns-clause-last_pair : goal.returns-clause-last_pair
returns-clause-last_pair c =
    let f = c.args.self.now.encoder in
    let done = c.loop-command-test.false in
    let many = ap length c.commands-commands.ensures.value in
    c.loop-command.invariant.counted ∙ ap (λ m. length (commands f) * f.steps.count + m) (pairs_all (commands f) f.interlocking.now.design.station f.interlocking.now.routes f.of_design c.loop-command.command-index (omega arith) ∙ ap length (sym f.paired))
