use Rattle.std.proofs.Common.{ℕ, List, subst}
use Rattle.cone_spec.specs.declared.ConeTrain.{ConeTrain}
use Rattle.rail_base.proofs.Members.{In}
use Rattle.cone_clause.specs.Places.{Adds, IsPlaceBeforeFree}
use Rattle.cone_clause.proofs.Adding.{adds_none, adds_more, adds_all}
use Rattle.cone_clause.proofs.numbered.NumberedCone.add_all_free.Goals as goal

pub loop-entry-init : goal.loop-entry-init
loop-entry-init c = adds_none (λ (e : ConeTrain). IsPlaceBeforeFree c.args.self.now.contention.pairs.now.pairs c.args.self.now.cone.now e.train) c.as_slice-entry-items.result.now _

pub loop-entry-preserved : goal.loop-entry-preserved
loop-entry-preserved c =
    let free : ConeTrain → ℕ → Type 0 = λ e. IsPlaceBeforeFree c.args.self.now.contention.pairs.now.pairs c.args.self.now.cone.now e.train in
    adds_more free c.as_slice-entry-items.result.now c.loop-entry.entry-index c.entry-item.result c.args.places.now.items c.loop-entry.places.items c.add_free.new.places.items c.loop-entry-test.true c.loop-entry.invariant
    (subst (λ (e : ConeTrain). Adds (free e) c.loop-entry.places.items c.add_free.new.places.items) c.entry-item.is c.in_ok-add_free.ensures)

pub returns : goal.returns
returns c =
    let free : ConeTrain → ℕ → Type 0 = λ e. IsPlaceBeforeFree c.args.self.now.contention.pairs.now.pairs c.args.self.now.cone.now e.train in
    subst (λ (es : List ConeTrain). Adds (λ i. (e : ConeTrain) × In e es × free e i) c.args.places.now.items c.loop-entry.places.items) c.as_slice-entry-items.ensures
    (adds_all free _ c.loop-entry.entry-index _ _ c.loop-entry-test.false c.loop-entry.invariant)
