use Rattle.std.proofs.Common.{arith, map, refl}
use Rattle.std.proofs.lemmas.Result.{err_from_is_err_and}
use Rattle.design_table.specs.declared.fault.Code.TheVariants.{D02}
use Rattle.design_table.specs.Sheet.{members_of, value_of, wrong_entry}
use Rattle.design_table.proofs.EntryLists.{listed_view, entry_fails, entry_passes, entry_read, no_entry_left, all_read}
use Rattle.design_table.proofs.entry.read_entries.Goals as goal

pub loop-value-init : goal.loop-value-init
loop-value-init g c = record {
  number = refl;
  places = rw (listed_view c.args.values.now) refl;
  entries = rw (listed_view c.args.values.now, c.new-entries.ensures.items) refl;
}

pub returns-in_err-read_entry : goal.returns-in_err-read_entry
returns-in_err-read_entry g c =
    let p = err_from_is_err_and c.from_residual.result c.from_residual.ensures.1 in
    rw (p.1, p.2) (entry_fails (wrong_entry c.args.version g.E.Entry.kind) c.loop-value.number c.args.values.now c.loop-value.value-index c.value-item.result c.in_err-read_entry.field-0.0 D02 _ c.loop-value-test.true c.value-item.is c.loop-value.invariant.places c.in_err-read_entry.ensures)

pub loop-value-preserved : goal.loop-value-preserved
loop-value-preserved g c = record {
  number = omega arith;
  places = entry_passes (wrong_entry c.args.version g.E.Entry.kind) c.loop-value.number c.args.values.now c.loop-value.value-index c.value-item.result _ c.loop-value-test.true c.value-item.is c.loop-value.invariant.places c.in_ok-read_entry.ensures.0;
  entries = entry_read (λ entry. g.E.Entry.parsed (value_of c.args.version g.E.Entry.kind (members_of entry))) g.E.Entry.seen c.args.values.now c.loop-value.value-index c.value-item.result c.in_ok-read_entry.field-0 c.loop-value.entries.items c.push.new.self.items _ c.loop-value-test.true c.value-item.is c.loop-value.invariant.entries c.in_ok-read_entry.ensures.1 c.in_ok-push.ensures.items;
}

pub returns : goal.returns
returns g c = (
  no_entry_left (wrong_entry c.args.version g.E.Entry.kind) c.loop-value.number c.args.values.now c.loop-value.value-index _ c.loop-value-test.false c.loop-value.invariant.places,
  all_read (λ entry. g.E.Entry.parsed (value_of c.args.version g.E.Entry.kind (members_of entry))) (map g.E.Entry.seen c.loop-value.entries.items) _ c.args.values.now c.loop-value.value-index c.loop-value-test.false c.loop-value.invariant.entries,
)
