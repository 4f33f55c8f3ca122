-- The numbers of variables are small.
use Rattle.std.proofs.Common.{ℕ, suc, ◌≡◌, ◌+◌, ◌*◌, ◌≤◌, ◌<◌, List, length, map, filter, sym, ap, ◌∙◌, arith}
use Rattle.std.proofs.Math.Nat.{suc-mul}
use Rattle.std.proofs.lemmas.Nat.{mul-le}
use Rattle.rail_base.specs.declared.station.Station.{Station}
use Rattle.rail_base.specs.declared.route.Route.{Route}
use Rattle.rail_base.specs.declared.route.RouteNo.{RouteNo}
use Rattle.rail_base.specs.declared.plan.Command.{Command}
use Rattle.rail_base.specs.Numbering.{one_to}
use Rattle.rail_spec.specs.Plans.{route_numbers}
use Rattle.live_clause_spec.specs.Listed.{is_live_for}
use Rattle.command_set.specs.Commands.{AreCommandsOf, is_among}
use Rattle.command_set.specs.Rows.{commands_by_rows, train_no}
use Rattle.command_set.proofs.Lists.{live_by_trains, rows_commands, rows_good}
use Rattle.command_set.proofs.Standing.{few_commands}

-- up to 256,000 commands
pub set_few : (cs : List Command) (d : Station) (routes : List Route) → AreCommandsOf d routes cs → length d.trains ≤ 128 → length routes ≤ 2000 → length cs ≤ 256000
set_few cs d routes are few some =
    let rows : List (List RouteNo) = map (λ n. filter (is_live_for (is_among cs) (train_no n)) (route_numbers routes)) (one_to (length d.trains)) in
    let same : length (commands_by_rows rows) ≡ length cs =
    ap length (rows_commands d routes (is_live_for (is_among cs)) ∙ (sym (live_by_trains d routes (is_among cs)) ∙ are)) in
    let small : length (commands_by_rows rows) ≤ 256000 = few_commands (length routes) rows (rows_good d routes (is_live_for (is_among cs)) few some) in
    omega arith

-- of up to 256,000 commands and 256 steps
pub given_few : (many n : ℕ) → many ≤ 256000 → n ≤ 256 → many * n ≤ 65536000
given_few many n a b =
    let all : many * n ≤ 256000 * 256 = mul-le many n 256000 256 a b in
    omega arith

pub given_small : (place many n : ℕ) → place < many → many ≤ 256000 → n ≤ 256 → place * n + n ≤ 65536000
given_small place many n l a b =
    let all = given_few (suc place) n (omega arith) b in
    let s = suc-mul place n in
    omega arith
