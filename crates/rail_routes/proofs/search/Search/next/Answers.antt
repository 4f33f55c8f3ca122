use Rattle.std.proofs.Common.{◌∙◌}
use Rattle.rail_routes.proofs.Searching.{levels_of, popped_fewer, popped_here, popped_some, popped_levels, popped_same}
use Rattle.rail_routes.proofs.search.Search.next.Goals as goal

pub shorten-requires : goal.shorten-requires
shorten-requires c =
    let s = c.args.self.now in
    popped_fewer s.track.now.design.now.station s.path.edges.items s.levels.items c.pop.new.self.items c.in-Some.level (levels_of s) c.in-Some.ensures.items

pub close-requires : goal.close-requires
close-requires c =
    let s = c.args.self.now in
    let d = s.track.now.design.now.station in
    let short = c.shorten.new.self.edges.items in
    let rest = c.pop.new.self.items in
    let l = c.in-Some.level in
    (popped_here d s.path.edges.items short s.levels.items rest l (levels_of s) c.in-Some.ensures.items c.shorten.ensures.shorter, popped_some d s.path.edges.items short s.levels.items rest l (levels_of s) c.in-Some.ensures.items c.shorten.ensures.shorter)

pub returns-clause-next : goal.returns-clause-next
returns-clause-next c =
    let s = c.args.self.now in
    c.in_ok-close.ensures.next ∙ popped_same s.track.now.design.now.station s.path.edges.items c.shorten.new.self.edges.items s.levels.items c.pop.new.self.items c.in-Some.level (levels_of s) c.in-Some.ensures.items c.shorten.ensures.shorter

pub invariant_of-self-2 : goal.invariant_of-self-2
invariant_of-self-2 c =
    let s = c.args.self.now in
    let levels = popped_levels s.track.now.design.now.station s.path.edges.items c.shorten.new.self.edges.items s.levels.items c.pop.new.self.items c.in-Some.level (levels_of s) c.in-Some.ensures.items c.shorten.ensures.shorter in
    record { marks = c.shorten.ensures.marks ∙ s.marks; tried = levels.tried; nested = levels.nested }
