use Rattle.std.proofs.Common.{refl, ap}
use Rattle.std.proofs.lemmas.Result.{err_from_is_err_and}
use Rattle.design_table.specs.declared.fault.Code.TheVariants.{D04}
use Rattle.infra_reader.specs.Names.{is_among, number_in}
use Rattle.design_table.specs.Texts.{texts}
use Rattle.infra_reader.specs.Unknown.{unless_among}
use Rattle.infra_reader.proofs.AllOf.{one_fails, one_passes}
use Rattle.infra_reader.proofs.Walking.{entry_read}
use Rattle.infra_reader.proofs.resolve.overlap_sections.Goals as goal

pub returns-in_err-number_at : goal.returns-in_err-number_at
unfolding unless_among
returns-in_err-number_at c =
    let p = err_from_is_err_and c.from_residual.result c.from_residual.ensures.1 in
    rw (p.1, p.2) (one_fails (is_among (texts c.args.known.now.keys)) (λ name. name.now) c.args.sections.now c.loop-name.name-index _ _ refl c.args.place _ c.loop-name-test.true c.loop-name.invariant.among c.in_err-number_at.field-0.0 D04 c.in_err-number_at.ensures)

pub loop-name-preserved : goal.loop-name-preserved
unfolding unless_among
loop-name-preserved c = record {
  among = one_passes (is_among (texts c.args.known.now.keys)) (λ name. name.now) c.args.sections.now c.loop-name.name-index _ _ refl c.args.place _ c.loop-name-test.true c.loop-name.invariant.among c.in_ok-number_at.ensures.0;
  each = entry_read (λ name. name.now) (λ name. record { 0 = number_in (texts c.args.known.now.keys) name }) c.args.sections.now c.loop-name.name-index _ c.loop-name.numbers.items c.loop-name.invariant.each _ _ _ c.push.new.self.items c.loop-name-test.true refl (ap (λ n. record { 0 = n }) c.in_ok-number_at.ensures.1) c.in_ok-push.ensures.items;
}
