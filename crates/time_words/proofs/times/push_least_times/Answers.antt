use Rattle.std.proofs.Common.{◌≡◌, All, length, min, take, arith, sym, ap, subst, ◌∙◌}
use Rattle.interlocking.specs.declared.railway.Interlocking.{Interlocking}
use Rattle.time_words.specs.Numbers.{IsWithin}
use Rattle.time_words.specs.Times.{AreLinesOn, own_withins}
use Rattle.time_words.proofs.Numbering.{all_within, take_fewer}
use Rattle.time_words.proofs.times.push_least_times.Goals as goal

pub push_least_of-requires : goal.push_least_of-requires
push_least_of-requires c =
    let d = c.args.interlocking.now.design.station in
    subst (λ (i : Interlocking). All (IsWithin i.design.station) (take c.min-count.result c.deref.result.now)) (sym c.in_ok-onward.ensures)
    (subst (λ ns. All (IsWithin d) (take c.min-count.result ns)) (sym (c.deref.ensures.value ∙ c.in_ok-numbers.ensures)) (all_within d c.min-count.result))

pub returns : goal.returns
returns c =
    let i = c.args.interlocking.now in
    let d = i.design.station in
    let g = c.in_ok-push_least_of.ensures in
    let numbers : c.deref.result.now ≡ own_withins d = c.deref.ensures.value ∙ c.in_ok-numbers.ensures in
    let fewer : c.min-count.result ≡ min (length (own_withins d)) 16 = (let m = c.min-count.ensures in let n = c.len.ensures in let held = c.in_ok-numbers.numbers.ok.0 in let long = ap length c.in_ok-numbers.ensures in omega arith) in
    let are = subst (λ (j : Interlocking). AreLinesOn j.design.station j.routes (take c.min-count.result c.deref.result.now) g.0) c.in_ok-onward.ensures g.2 in
    (g.0, g.1, subst (λ ns. AreLinesOn d i.routes ns g.0) (ap (take c.min-count.result) numbers ∙ take_fewer (own_withins d) 16 c.min-count.result fewer) are)
