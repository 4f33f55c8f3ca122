use Rattle.std.proofs.Common.{◌≡◌, ◌+◌, ◌-◌, ◌≤◌, ◌<◌, ◌==◌, inl, inr, ◌++◌, All, IfSome, filter, flat_map, length, sum_by, sym, ap, subst, ◌∙◌, arith}
use Rattle.rail_base.specs.Routes.{IsRoute}
use Rattle.train_ways.proofs.Standing.{visits_in_range}
use Rattle.plan_ways.specs.Paths.{longer, makes_all, nodes_of}
use Rattle.plan_ways.proofs.Enumerating.{AreFound, all_found, longer_named, many_nodes, many_paths, many_ways, next_found, none_there}
use Rattle.plan_ways.proofs.ways.plan_ways.Goals as goal
use Rattle.plan_ways.proofs.ways.plan_ways.Goals.{then-len-gt-MOST_WAYS-via-then-len-gt-MOST_WAYS, then-len-gt-MOST_WAYS-via-else-len-gt-MOST_WAYS+then-have_more_nodes, then-longer-test+else-not-is_empty, else-longer-test}

pub returns-in_default : goal.returns-in_default
returns-in_default c =
    let i = c.args.onward.now.interlocking.now in
    let l = c.longer in
    let step = longer i.design.station i.routes c.args.train in
    let more = c.in_ok-longer.ensures.many c.in_default.is in
    let of_live = subst (λ rs. l.left < length (flat_map (step rs) c.deref-in-longer.result.now)) c.deref.ensures.value more in
    many_paths i.design.station i.routes c.args.train c.in_ok-live.live.items l.count l.left l.paths.items l.ways.items l.invariant c.longer-test.true c.in_ok-live.ensures
    (subst (λ ps. l.left < length (flat_map (step c.in_ok-live.live.items) ps)) c.deref-in-longer.ensures.value of_live)

pub push_ways-requires-clause-named : goal.push_ways-requires-clause-named
push_ways-requires-clause-named c =
    let i = c.args.onward.now.interlocking.now in
    let l = c.longer in
    let step = longer i.design.station i.routes c.args.train in
    let r = visits_in_range i.design.station i.design.admitted c.args.train c.requires in
    let are : c.in-Some.longer.items ≡ flat_map (step c.deref.result.now) c.deref-in-longer.result.now =
    subst (λ o. IfSome o (λ all. all.items ≡ flat_map (step c.deref.result.now) c.deref-in-longer.result.now)) c.in-Some.is c.in_ok-longer.ensures.are in
    let is : c.in-Some.longer.items ≡ flat_map (step c.in_ok-live.live.items) l.paths.items =
    are ∙ ap (λ rs. flat_map (step rs) c.deref-in-longer.result.now) c.deref.ensures.value ∙ ap (flat_map (step c.in_ok-live.live.items)) c.deref-in-longer.ensures.value in
    subst (All (λ rs. All (IsRoute i.routes) rs)) (sym c.deref-in-longer-2.ensures.value)
    (longer_named i.design.station i.routes c.args.train c.in_ok-live.live.items l.count l.left l.paths.items l.ways.items l.invariant c.in_ok-live.ensures r.0 c.in-Some.longer.items is)

pub returns-then-len-gt-MOST_WAYS : goal.returns-then-len-gt-MOST_WAYS
returns-then-len-gt-MOST_WAYS c =
    let i = c.args.onward.now.interlocking.now in
    let d = i.design.station in
    let t = c.args.train in
    let l = c.longer in
    let live = c.in_ok-live.live.items in
    let step = longer d i.routes t in
    let are : c.in-Some.longer.items ≡ flat_map (step c.deref.result.now) c.deref-in-longer.result.now =
    subst (λ o. IfSome o (λ all. all.items ≡ flat_map (step c.deref.result.now) c.deref-in-longer.result.now)) c.in-Some.is c.in_ok-longer.ensures.are in
    let is : c.in-Some.longer.items ≡ flat_map (step live) l.paths.items =
    are ∙ ap (λ rs. flat_map (step rs) c.deref-in-longer.result.now) c.deref.ensures.value ∙ ap (flat_map (step live)) c.deref-in-longer.ensures.value in
    let ways : c.push_ways.new.ways.items ≡ l.ways.items ++ filter (makes_all d i.routes t) c.in-Some.longer.items =
    c.in_ok-push_ways.ensures ∙ ap (λ ps. l.ways.items ++ filter (makes_all d i.routes t) ps) c.deref-in-longer-2.ensures.value in
    elim c.then-len-gt-MOST_WAYS.branch [
      | then-len-gt-MOST_WAYS-via-then-len-gt-MOST_WAYS w ↦ many_ways d i.routes t live l.count l.left l.paths.items l.ways.items l.invariant c.longer-test.true c.in_ok-live.ensures c.in-Some.longer.items c.push_ways.new.ways.items is ways
          (let held = c.push_ways.new.ways.ok.0 in let n = c.len.ensures in let h = w.if-len-gt-MOST_WAYS.true in omega arith)
      | then-len-gt-MOST_WAYS-via-else-len-gt-MOST_WAYS+then-have_more_nodes w ↦ many_nodes d i.routes t live l.count l.left l.paths.items l.ways.items l.invariant c.longer-test.true c.in_ok-live.ensures c.in-Some.longer.items c.push_ways.new.ways.items is ways
          (subst (λ ws. 50000 < sum_by (nodes_of i.routes) ws) w.deref-else-len-gt-MOST_WAYS.ensures.value (w.have_more_nodes.ensures w.if-have_more_nodes.true))
    ]

pub longer-preserved : goal.longer-preserved
longer-preserved c =
    let i = c.args.onward.now.interlocking.now in
    let d = i.design.station in
    let t = c.args.train in
    let l = c.longer in
    let live = c.in_ok-live.live.items in
    let step = longer d i.routes t in
    let are : c.in-Some.longer.items ≡ flat_map (step c.deref.result.now) c.deref-in-longer.result.now =
    subst (λ o. IfSome o (λ all. all.items ≡ flat_map (step c.deref.result.now) c.deref-in-longer.result.now)) c.in-Some.is c.in_ok-longer.ensures.are in
    let few : length c.in-Some.longer.items ≤ l.left = subst (λ o. IfSome o (λ all. length all.items ≤ l.left)) c.in-Some.is c.in_ok-longer.ensures.few in
    let is : c.in-Some.longer.items ≡ flat_map (step live) l.paths.items =
    are ∙ ap (λ rs. flat_map (step rs) c.deref-in-longer.result.now) c.deref.ensures.value ∙ ap (flat_map (step live)) c.deref-in-longer.ensures.value in
    let ways : c.push_ways.new.ways.items ≡ l.ways.items ++ filter (makes_all d i.routes t) c.in-Some.longer.items =
    c.in_ok-push_ways.ensures ∙ ap (λ ps. l.ways.items ++ filter (makes_all d i.routes t) ps) c.deref-in-longer-2.ensures.value in
    let few_ways : length c.push_ways.new.ways.items ≤ 1000 = (let held = c.push_ways.new.ways.ok.0 in let n = c.len.ensures in let h = c.if-len-gt-MOST_WAYS.false in omega arith) in
    subst (λ n. AreFound d i.routes t live (l.count + 1) c.in-Some.longer.items c.push_ways.new.ways.items (l.left - n)) (let held = c.in-Some.longer.ok.0 in let n = c.len-left.ensures in let same : length c.in-Some.longer.items ≡ c.len-left.result = omega arith in same)
    (next_found d i.routes t live l.count l.left l.paths.items l.ways.items l.invariant c.in-Some.longer.items c.push_ways.new.ways.items c.longer-test.true is few ways few_ways)

pub returns : goal.returns
returns c =
    let i = c.args.onward.now.interlocking.now in
    let d = i.design.station in
    let t = c.args.train in
    let l = c.longer in
    let r = visits_in_range d i.design.admitted t c.requires in
    all_found d i.routes t c.in_ok-live.live.items l.count l.left l.paths.items l.ways.items l.invariant c.in_ok-live.ensures r.0
    (elim c.longer-test.branch [
      | then-longer-test+else-not-is_empty w ↦ inr (none_there l.paths.items (ap (λ xs. length xs == 0) (sym w.as_slice.ensures.value) ∙ sym w.is_empty.ensures ∙ w.if-not-is_empty.false))
      | else-longer-test w ↦ inl (let h = w.longer-test.false in let within = l.invariant.within in omega arith)
    ])
