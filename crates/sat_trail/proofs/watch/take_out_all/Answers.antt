use Rattle.std.proofs.Common.{ap, sym, ◌∙◌, arith, set}
use Rattle.std.specs.Prelude.{nat_eq, not}
use Rattle.std.specs.List.{filter}
use Rattle.std.specs.Global.{Vec}
use Rattle.std.proofs.lemmas.List.{map-set, length-map, length-set, get_or-map}
use Rattle.std.proofs.lemmas.List.Edits.{map_over_more}
use Rattle.sat_trail.specs.declared.entry.Entry.{Entry}
use Rattle.sat_trail.specs.Watches.{entries}
use Rattle.sat_trail.proofs.watch.take_out_all.Goals as goal

pub loop-i-preserved : goal.loop-i-preserved
loop-i-preserved c =
    let d = c.index_mut.result.now in
    let lists = c.loop-i.lists.items in
    let n = length-map c.args.lists.now.items (λ (v : Vec Entry). v.items) in
    let size = c.loop-i.invariant.size in
    record {
      size = length-set lists c.loop-i.i c.take_out.new.list ∙ size;
      done =
          map-set (λ (v : Vec Entry). v.items) lists c.loop-i.i c.take_out.new.list ∙ ap (λ z. set (entries lists) c.loop-i.i z) c.take_out.ensures
          ∙ map_over_more (filter (λ (e : Entry). not (nat_eq e.id c.args.id))) (entries c.args.lists.now.items) (entries lists) c.loop-i.i d.items (omega arith) c.loop-i.invariant.done (ap (λ (v : Vec Entry). v.items) c.index_mut.ensures.value ∙ sym (get_or-map (λ (v : Vec Entry). v.items) lists c.loop-i.i d d.items (omega arith)));
    }
