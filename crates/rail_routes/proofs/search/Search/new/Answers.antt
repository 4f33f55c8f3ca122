use Rattle.std.proofs.Common.{◌≡◌, ◌++◌, [], ◌∷◌, List, sym, ap, ◌∙◌, rules}
use Rattle.std.specs.Global.{Vec}
use Rattle.rail_routes.specs.declared.track.AtEnd.{AtEnd}
use Rattle.rail_routes.specs.declared.search.Level.{Level}
use Rattle.rail_routes.proofs.Searching.{started, started_nowhere}
use Rattle.rail_routes.proofs.search.Search.new.Goals as goal
use Rattle.rail_routes.proofs.search.Search.new.Goals.{then-not-is_empty+in_ok-push, else-not-is_empty}

pub returns-clause-all : goal.returns-clause-all
returns-clause-all c =
    let d = c.args.track.now.design.now.station in
    let l : Level = record { after = 0; from = c.args.from; tried = 0 } in
    let path = c.in_ok-new.field-0.edges.items in
    let levels = c.if-not-is_empty.levels.items in
    elim c.if-not-is_empty.branch [
      | then-not-is_empty+in_ok-push w ↦
          let pushed : w.push.new.self.items ≡ c.new-levels.result.items ++ l ∷ [] = search rules in
          started d path levels c.args.from c.in_ok-new.ensures.empty (ap (λ (v : Vec Level). v.items) w.levels-is ∙ pushed ∙ ap (λ (ls : List Level). ls ++ l ∷ []) c.new-levels.ensures.items)
      | else-not-is_empty w ↦
          let none : c.at.result.now.edges ≡ [] = search rules in
          started_nowhere d path levels c.args.from c.in_ok-new.ensures.empty (ap (λ (v : Vec Level). v.items) w.levels-is ∙ c.new-levels.ensures.items) (ap (λ (a : AtEnd). a.edges) (sym c.at.ensures) ∙ none)
    ]
