use Rattle.std.proofs.Common.{◌≡◌, ℕ, ◌+◌, ◌-◌, ◌<◌, [], map, length, ap, ◌∙◌, arith}
use Rattle.rail_base.specs.Numbering.{count_from, entry}
use Rattle.plan_encoding.specs.Sinks.{emitted}
use Rattle.plan_encoding.specs.Families.{visited_on}
use Rattle.plan_encoding.specs.Encoders.{numbered_clauses, written}
use Rattle.rail_base.specs.Stations.{train_of}
use Rattle.rail_base.specs.declared.station.Train.{Train}
use Rattle.rail_base.proofs.Admitting.{admitted}
use Rattle.plan_encoding.proofs.Emission.{next_one, next_one_fails, next_count_one, handed_on}
use Rattle.plan_encoding.proofs.Tabled.{visit_is}
use Rattle.plan_encoding.proofs.tables.Tables.emit_visits_of.Goals as goal

pub overflow_cast-number-end : goal.overflow_cast-number-end
overflow_cast-number-end c =
    let seen = ap length (c.as_slice-visits.ensures ∙ ap (λ (t : Train). t.visits) c.train.ensures) in
    let few = ((admitted c.args.self.now.encoder.interlocking.now.design.station c.args.self.now.encoder.interlocking.now.design.admitted).train c.args.train c.requires.train).visits in
    let low = few.0 in let high = few.1 in
    omega arith

pub overflow_add-number-end : goal.overflow_add-number-end
overflow_add-number-end c =
    let seen = ap length (c.as_slice-visits.ensures ∙ ap (λ (t : Train). t.visits) c.train.ensures) in
    let few = ((admitted c.args.self.now.encoder.interlocking.now.design.station c.args.self.now.encoder.interlocking.now.design.admitted).train c.args.train c.requires.train).visits in
    let low = few.0 in let high = few.1 in
    omega arith

pub loop-number-init : goal.loop-number-init
loop-number-init c = ap (λ m. emitted c.args.sink.now (numbered_clauses c.args.self.now.encoder (map (λ k. visited_on c.args.self.now.encoder c.args.train k (entry [] (train_of c.args.self.now.encoder.interlocking.now.design.station c.args.train).visits k)) (count_from 1 m)))) (less (length (train_of c.args.self.now.encoder.interlocking.now.design.station c.args.train).visits))
  where
    less : (n : ℕ) → n + 1 - 1 ≡ n
    less n = omega arith

pub loop-number-preserved : goal.loop-number-preserved
loop-number-preserved c =
    let low = c.loop-number.auto.number in
    let seen : c.as_slice-visits.result.now ≡ (train_of c.args.self.now.encoder.interlocking.now.design.station c.args.train).visits = c.as_slice-visits.ensures ∙ ap (λ (t : Train). t.visits) c.train.ensures in
    let many = ap length seen in
    let within : c.loop-number.number < length (train_of c.args.self.now.encoder.interlocking.now.design.station c.args.train).visits + 1 = (let t = c.loop-number-test.true in omega arith) in
    next_one c.args.self.now.encoder _ _ _ (next_count_one (λ k. visited_on c.args.self.now.encoder c.args.train k (entry [] (train_of c.args.self.now.encoder.interlocking.now.design.station c.args.train).visits k)) c.loop-number.number (length (train_of c.args.self.now.encoder.interlocking.now.design.station c.args.train).visits + 1) within) c.deref.result.now
    (c.deref.ensures.value ∙ (c.in_ok-clause.ensures ∙ ap (λ set. written c.args.self.now.encoder (visited_on c.args.self.now.encoder c.args.train c.loop-number.number set)) (visit_is c.loop-number.number c.index-visits-number.result c.as_slice-visits.result.now (train_of c.args.self.now.encoder.interlocking.now.design.station c.args.train).visits c.index-visits-number.result [] seen (omega arith) (omega arith) c.index-visits-number.is)))
    c.loop-number.sink c.emit.new.self _ c.in_ok-emit.ensures.ok c.loop-number.invariant

pub returns-in_err-emit-clause-err : goal.returns-in_err-emit-clause-err
returns-in_err-emit-clause-err c =
    let low = c.loop-number.auto.number in
    let seen : c.as_slice-visits.result.now ≡ (train_of c.args.self.now.encoder.interlocking.now.design.station c.args.train).visits = c.as_slice-visits.ensures ∙ ap (λ (t : Train). t.visits) c.train.ensures in
    let many = ap length seen in
    let within : c.loop-number.number < length (train_of c.args.self.now.encoder.interlocking.now.design.station c.args.train).visits + 1 = (let t = c.loop-number-test.true in omega arith) in
    handed_on _ c.from_residual-in_err-emit.result c.in_err-emit.field-0.0 c.from_residual-in_err-emit.ensures.1
    (next_one_fails c.args.self.now.encoder _ _ _ (next_count_one (λ k. visited_on c.args.self.now.encoder c.args.train k (entry [] (train_of c.args.self.now.encoder.interlocking.now.design.station c.args.train).visits k)) c.loop-number.number (length (train_of c.args.self.now.encoder.interlocking.now.design.station c.args.train).visits + 1) within) c.deref.result.now
    (c.deref.ensures.value ∙ (c.in_ok-clause.ensures ∙ ap (λ set. written c.args.self.now.encoder (visited_on c.args.self.now.encoder c.args.train c.loop-number.number set)) (visit_is c.loop-number.number c.index-visits-number.result c.as_slice-visits.result.now (train_of c.args.self.now.encoder.interlocking.now.design.station c.args.train).visits c.index-visits-number.result [] seen (omega arith) (omega arith) c.index-visits-number.is)))
    c.loop-number.sink _ _ c.in_err-emit.ensures.err c.loop-number.invariant)
