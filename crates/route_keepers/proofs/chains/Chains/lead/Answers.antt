use Rattle.std.proofs.Common.{◌≡◌, ◌-◌, Bool, false, List, get_or, length, ap, ◌∙◌, arith}
use Rattle.normal_clause_spec.specs.Clauses.{leads_to}
use Rattle.route_keepers.specs.Chains.{chain_row}
use Rattle.route_keepers.proofs.Stepping.{entry_number, many_numbers}
use Rattle.route_keepers.proofs.chains.Chains.lead.Goals as goal

pub index-requires : goal.index-requires
index-requires c =
    let routes = c.args.self.now.interlocking.now.routes in
    let len = c.args.self.now.rows.ok.0 in
    let many : length c.args.self.now.rows.items ≡ length routes = ap length c.args.self.now.rows_of_routes ∙ many_numbers routes (chain_row routes) in
    let low = c.requires.first.0 in let high = c.requires.first.1 in
    omega arith

pub bounds-row-last : goal.bounds-row-last
bounds-row-last c =
    let routes = c.args.self.now.interlocking.now.routes in
    let first = c.args.first in
    let row : c.as_slice-row.result.now ≡ chain_row routes first =
    c.as_slice-row.ensures ∙ c.index.ensures ∙ ap (λ (rows : List (List Bool)). get_or rows (first.0 - 1) c.index.result.now) c.args.self.now.rows_of_routes ∙ entry_number routes (chain_row routes) first c.index.result.now c.requires.first in
    let many : length c.as_slice-row.result.now ≡ length routes = ap length row ∙ many_numbers routes (leads_to routes first) in
    let low = c.requires.last.0 in let high = c.requires.last.1 in
    omega arith

pub returns : goal.returns
returns c =
    let routes = c.args.self.now.interlocking.now.routes in
    let first = c.args.first in
    let last = c.args.last in
    let row : c.as_slice-row.result.now ≡ chain_row routes first =
    c.as_slice-row.ensures ∙ c.index.ensures ∙ ap (λ (rows : List (List Bool)). get_or rows (first.0 - 1) c.index.result.now) c.args.self.now.rows_of_routes ∙ entry_number routes (chain_row routes) first c.index.result.now c.requires.first in
    ap (λ bs. get_or bs (last.0 - 1) false) row ∙ entry_number routes (leads_to routes first) last false c.requires.last
