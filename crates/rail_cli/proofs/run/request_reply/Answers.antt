use Rattle.std.proofs.Common.{rules, ap, Some}
use Rattle.rail_words.specs.Requests.{simulate, routes, verify, tightest, check, trial}
use Rattle.rail_words.specs.Words.{request_seen}
use Rattle.verify_loop.specs.declared.outcome.Budgets.{Budgets}
use Rattle.rail_cli.proofs.Deciding.{decides_named, decides_routes, decides_verify, decides_tightest, decides_check, decides_trial}
use Rattle.cli_shell.proofs.Asking.{none_of}
use Rattle.rail_cli.proofs.Finding.{simulate_so, routes_so, check_so, trial_so, verify_so, search_steps}
use Rattle.rail_cli.proofs.TimeFinding.{tightest_so, some_tightest, time_steps}
use Rattle.rail_cli.proofs.Judging.{asked_steps}
use Rattle.rail_cli.proofs.Leaving.{simulate_leaves, routes_leaves, check_leaves, trial_leaves, verify_leaves, tightest_leaves}
use Rattle.rail_cli.proofs.Trying.{tries_other, trial_size}
use Rattle.rail_cli.proofs.AnyShelf.{some_simulation, some_routes, some_check, asks_named, some_search, some_trial}
use Rattle.rail_cli.proofs.Telling.{nothing_told, search_tells, time_tells, trial_tells}
use Rattle.rail_cli.proofs.run.request_reply.Goals as goal

pub returns-in-Simulate-clause-replies : goal.returns-in-Simulate-clause-replies
returns-in-Simulate-clause-replies g c = λ files reply_for. simulate_so c.simulation_reply.result files (request_seen c.args.request) c.in-Simulate.design.now c.in-Simulate.plan.now (search rules) (c.simulation_reply.ensures.replies files reply_for)

pub returns-in-Simulate-clause-decides : goal.returns-in-Simulate-clause-decides
returns-in-Simulate-clause-decides g c = λ files reply_for. decides_named files (request_seen c.args.request) _ _ c.simulation_reply.result (c.simulation_reply.ensures.decides files reply_for) (search rules)

pub returns-in-Simulate-clause-stored : goal.returns-in-Simulate-clause-stored
returns-in-Simulate-clause-stored g c = simulate_leaves c.simulation_reply.result _ _ (request_seen c.args.request) c.in-Simulate.design.now c.in-Simulate.plan.now (search rules) c.simulation_reply.ensures.uses.files_stay

pub returns-in-Routes-clause-replies : goal.returns-in-Routes-clause-replies
returns-in-Routes-clause-replies g c = λ files reply_for. routes_so c.routes_reply.result files (request_seen c.args.request) c.in-Routes.design.now (search rules) (c.routes_reply.ensures.replies files reply_for)

pub returns-in-Routes-clause-decides : goal.returns-in-Routes-clause-decides
returns-in-Routes-clause-decides g c = λ files reply_for. decides_routes files (request_seen c.args.request) c.in-Routes.design.now c.routes_reply.result (search rules)

pub returns-in-Routes-clause-stored : goal.returns-in-Routes-clause-stored
returns-in-Routes-clause-stored g c = routes_leaves c.routes_reply.result _ _ (request_seen c.args.request) c.in-Routes.design.now (search rules) c.routes_reply.ensures.uses.files_stay

pub returns-in-Verify-clause-replies : goal.returns-in-Verify-clause-replies
returns-in-Verify-clause-replies g c = λ files reply_for.
    verify_so c.search_reply.result files (request_seen c.args.request) c.in-Verify.steps c.in-Verify.conflicts c.in-Verify.ticks c.in-Verify.mode c.budgets.result c.in-Verify.design.now c.in-Verify.proof.now c.budgets.ensures (search rules) (c.search_reply.ensures.replies files reply_for)

pub returns-in-Verify-clause-decides : goal.returns-in-Verify-clause-decides
returns-in-Verify-clause-decides g c = λ files reply_for. decides_verify files (request_seen c.args.request) c.in-Verify.steps c.in-Verify.conflicts c.in-Verify.ticks c.in-Verify.mode c.in-Verify.design.now c.in-Verify.proof.now c.search_reply.result (search rules)

pub returns-in-Verify-clause-stored : goal.returns-in-Verify-clause-stored
returns-in-Verify-clause-stored g c = verify_leaves c.search_reply.result (g.S.Shelf.known_files c.args.shelf.now) (g.S.Shelf.known_files c.search_reply.new.shelf) (request_seen c.args.request) c.in-Verify.steps c.in-Verify.conflicts c.in-Verify.ticks c.in-Verify.mode c.in-Verify.design.now c.in-Verify.proof.now (search rules) c.search_reply.ensures.stored

pub search_reply-requires : goal.search_reply-requires
search_reply-requires g c =
    let steps = search_steps (request_seen c.args.request) c.in-Verify.steps c.in-Verify.conflicts c.in-Verify.ticks c.in-Verify.mode c.in-Verify.design.now c.in-Verify.proof.now (search rules) c.requires.range in
    record { at_least_one = steps.0; at_most_256 = steps.1; room = ap (λ (b : Budgets). b.log_bytes) c.budgets.ensures }

pub returns-in-Check-clause-replies : goal.returns-in-Check-clause-replies
returns-in-Check-clause-replies g c = λ files reply_for. check_so c.check_reply.result files (request_seen c.args.request) c.in-Check.steps c.in-Check.in_time c.in-Check.design.now c.in-Check.proof.now (search rules) (c.check_reply.ensures.replies files reply_for)

pub returns-in-Check-clause-decides : goal.returns-in-Check-clause-decides
returns-in-Check-clause-decides g c = λ files reply_for. decides_check files (request_seen c.args.request) c.in-Check.steps c.in-Check.in_time c.in-Check.design.now c.in-Check.proof.now c.check_reply.result (search rules)

pub returns-in-Check-clause-stored : goal.returns-in-Check-clause-stored
returns-in-Check-clause-stored g c = check_leaves c.check_reply.result _ _ (request_seen c.args.request) c.in-Check.steps c.in-Check.in_time c.in-Check.design.now c.in-Check.proof.now (search rules) c.check_reply.ensures.uses.files_stay

pub check_reply-requires : goal.check_reply-requires
check_reply-requires g c =
    let steps = asked_steps (request_seen c.args.request) c.in-Check.steps c.in-Check.in_time c.in-Check.design.now c.in-Check.proof.now (search rules) c.requires.range in
    record { at_least_one = steps.0; at_most_256 = steps.1; in_range = steps.2 }

pub returns-in-Simulate-clause-tries : goal.returns-in-Simulate-clause-tries
returns-in-Simulate-clause-tries g c = tries_other c.simulation_reply.result (request_seen c.args.request) (simulate c.in-Simulate.design.now c.in-Simulate.plan.now) (search rules) tt

pub returns-in-Routes-clause-tries : goal.returns-in-Routes-clause-tries
returns-in-Routes-clause-tries g c = tries_other c.routes_reply.result (request_seen c.args.request) (routes c.in-Routes.design.now) (search rules) tt

pub returns-in-Verify-clause-tries : goal.returns-in-Verify-clause-tries
returns-in-Verify-clause-tries g c = tries_other c.search_reply.result (request_seen c.args.request) (verify c.in-Verify.steps c.in-Verify.conflicts c.in-Verify.ticks c.in-Verify.mode c.in-Verify.design.now c.in-Verify.proof.now) (search rules) tt

pub returns-in-Check-clause-tries : goal.returns-in-Check-clause-tries
returns-in-Check-clause-tries g c = tries_other c.check_reply.result (request_seen c.args.request) (check c.in-Check.steps c.in-Check.in_time c.in-Check.design.now c.in-Check.proof.now) (search rules) tt

pub returns-in-Trial-clause-replies : goal.returns-in-Trial-clause-replies
returns-in-Trial-clause-replies g c = λ files reply_for. trial_so c.trial_reply.result files (request_seen c.args.request) c.in-Trial.seed c.in-Trial.size (search rules) c.trial_reply.ensures.replies

pub returns-in-Trial-clause-tries : goal.returns-in-Trial-clause-tries
returns-in-Trial-clause-tries g c = tries_other c.trial_reply.result (request_seen c.args.request) (trial c.in-Trial.seed c.in-Trial.size) (search rules) c.trial_reply.ensures.replies

pub returns-in-Trial-clause-decides : goal.returns-in-Trial-clause-decides
returns-in-Trial-clause-decides g c = λ files reply_for. decides_trial files (request_seen c.args.request) c.in-Trial.seed c.in-Trial.size c.trial_reply.result (search rules)

pub returns-in-Trial-clause-stored : goal.returns-in-Trial-clause-stored
returns-in-Trial-clause-stored g c = trial_leaves c.trial_reply.result _ _ (request_seen c.args.request) c.in-Trial.seed c.in-Trial.size (search rules) (search rules)

pub returns-in-Trial-clause-uses : goal.returns-in-Trial-clause-uses
returns-in-Trial-clause-uses g c = record { cause = (search rules); never_falls = (search rules); asks = none_of _ _ }

pub trial_reply-requires : goal.trial_reply-requires
trial_reply-requires g c =
    let size = trial_size (request_seen c.args.request) c.in-Trial.seed c.in-Trial.size (search rules) c.requires.range in
    record { at_least_one = size.0; at_most_six = size.1 }

pub returns-in-Simulate-clause-for_some_files : goal.returns-in-Simulate-clause-for_some_files
returns-in-Simulate-clause-for_some_files g c = asks_named c.simulation_reply.result (request_seen c.args.request) (simulate c.in-Simulate.design.now c.in-Simulate.plan.now) (search rules) (some_simulation c.simulation_reply.result c.in-Simulate.design.now c.in-Simulate.plan.now c.simulation_reply.ensures.for_some_files)

pub returns-in-Routes-clause-for_some_files : goal.returns-in-Routes-clause-for_some_files
returns-in-Routes-clause-for_some_files g c = asks_named c.routes_reply.result (request_seen c.args.request) (routes c.in-Routes.design.now) (search rules) (some_routes c.routes_reply.result c.in-Routes.design.now c.routes_reply.ensures.for_some_files)

pub returns-in-Verify-clause-for_some_files : goal.returns-in-Verify-clause-for_some_files
returns-in-Verify-clause-for_some_files g c =
    asks_named c.search_reply.result (request_seen c.args.request) (verify c.in-Verify.steps c.in-Verify.conflicts c.in-Verify.ticks c.in-Verify.mode c.in-Verify.design.now c.in-Verify.proof.now) (search rules)
    (some_search c.search_reply.result c.in-Verify.steps c.in-Verify.conflicts c.in-Verify.ticks c.in-Verify.mode c.budgets.result c.in-Verify.design.now c.in-Verify.proof.now c.budgets.ensures c.search_reply.ensures.for_some_files)

pub returns-in-Check-clause-for_some_files : goal.returns-in-Check-clause-for_some_files
returns-in-Check-clause-for_some_files g c = asks_named c.check_reply.result (request_seen c.args.request) (check c.in-Check.steps c.in-Check.in_time c.in-Check.design.now c.in-Check.proof.now) (search rules) (some_check c.check_reply.result c.in-Check.steps c.in-Check.in_time c.in-Check.design.now c.in-Check.proof.now c.check_reply.ensures.for_some_files)

pub returns-in-Trial-clause-for_some_files : goal.returns-in-Trial-clause-for_some_files
returns-in-Trial-clause-for_some_files g c = asks_named c.trial_reply.result (request_seen c.args.request) (trial c.in-Trial.seed c.in-Trial.size) (search rules) (some_trial c.trial_reply.result c.in-Trial.seed c.in-Trial.size c.trial_reply.ensures.replies)

pub returns-in-Simulate-clause-tells : goal.returns-in-Simulate-clause-tells
returns-in-Simulate-clause-tells g c = λ files reply_for. nothing_told files (Some (request_seen c.args.request)) _

pub returns-in-Routes-clause-tells : goal.returns-in-Routes-clause-tells
returns-in-Routes-clause-tells g c = λ files reply_for. nothing_told files (Some (request_seen c.args.request)) _

pub returns-in-Check-clause-tells : goal.returns-in-Check-clause-tells
returns-in-Check-clause-tells g c = λ files reply_for. nothing_told files (Some (request_seen c.args.request)) _

pub returns-in-Verify-clause-tells : goal.returns-in-Verify-clause-tells
returns-in-Verify-clause-tells g c = λ files reply_for. search_tells files (request_seen c.args.request) c.in-Verify.steps c.in-Verify.conflicts c.in-Verify.ticks c.in-Verify.mode c.in-Verify.design.now c.in-Verify.proof.now _ _ (search rules) (c.search_reply.ensures.tells files reply_for)

pub returns-in-Trial-clause-tells : goal.returns-in-Trial-clause-tells
returns-in-Trial-clause-tells g c = λ files reply_for. trial_tells files (request_seen c.args.request) c.in-Trial.seed c.in-Trial.size _ _ (search rules) c.trial_reply.ensures.tells

pub returns-in-Tightest-clause-replies : goal.returns-in-Tightest-clause-replies
returns-in-Tightest-clause-replies g c = λ files reply_for. tightest_so c.time_reply.result files (request_seen c.args.request) c.in-Tightest.steps c.in-Tightest.conflicts c.in-Tightest.ticks c.in-Tightest.within c.in-Tightest.bounds c.budgets-in-Tightest.result c.in-Tightest.design.now c.in-Tightest.proof.now c.budgets-in-Tightest.ensures (search rules) (c.time_reply.ensures.replies files reply_for)

pub returns-in-Tightest-clause-decides : goal.returns-in-Tightest-clause-decides
returns-in-Tightest-clause-decides g c = λ files reply_for. decides_tightest files (request_seen c.args.request) c.in-Tightest.steps c.in-Tightest.conflicts c.in-Tightest.ticks c.in-Tightest.within c.in-Tightest.bounds c.in-Tightest.design.now c.in-Tightest.proof.now c.time_reply.result (search rules)

pub returns-in-Tightest-clause-stored : goal.returns-in-Tightest-clause-stored
returns-in-Tightest-clause-stored g c = tightest_leaves c.time_reply.result (g.S.Shelf.known_files c.args.shelf.now) (g.S.Shelf.known_files c.time_reply.new.shelf) (request_seen c.args.request) c.in-Tightest.steps c.in-Tightest.conflicts c.in-Tightest.ticks c.in-Tightest.within c.in-Tightest.bounds c.in-Tightest.design.now c.in-Tightest.proof.now (search rules) c.time_reply.ensures.stored

pub time_reply-requires : goal.time_reply-requires
time_reply-requires g c =
    let steps = time_steps (request_seen c.args.request) c.in-Tightest.steps c.in-Tightest.conflicts c.in-Tightest.ticks c.in-Tightest.within c.in-Tightest.bounds c.in-Tightest.design.now c.in-Tightest.proof.now (search rules) c.requires.range in
    record { at_least_one = steps.0; at_most_256 = steps.1; from_1 = steps.2; room = ap (λ (b : Budgets). b.log_bytes) c.budgets-in-Tightest.ensures }

pub returns-in-Tightest-clause-tries : goal.returns-in-Tightest-clause-tries
returns-in-Tightest-clause-tries g c = tries_other c.time_reply.result (request_seen c.args.request) (tightest c.in-Tightest.steps c.in-Tightest.conflicts c.in-Tightest.ticks c.in-Tightest.within c.in-Tightest.bounds c.in-Tightest.design.now c.in-Tightest.proof.now) (search rules) tt

pub returns-in-Tightest-clause-for_some_files : goal.returns-in-Tightest-clause-for_some_files
returns-in-Tightest-clause-for_some_files g c =
    asks_named c.time_reply.result (request_seen c.args.request) (tightest c.in-Tightest.steps c.in-Tightest.conflicts c.in-Tightest.ticks c.in-Tightest.within c.in-Tightest.bounds c.in-Tightest.design.now c.in-Tightest.proof.now) (search rules)
    (some_tightest c.time_reply.result c.in-Tightest.steps c.in-Tightest.conflicts c.in-Tightest.ticks c.in-Tightest.within c.in-Tightest.bounds c.budgets-in-Tightest.result c.in-Tightest.design.now c.in-Tightest.proof.now c.budgets-in-Tightest.ensures c.time_reply.ensures.for_some_files)

pub returns-in-Tightest-clause-tells : goal.returns-in-Tightest-clause-tells
returns-in-Tightest-clause-tells g c = λ files reply_for. time_tells files (request_seen c.args.request) c.in-Tightest.steps c.in-Tightest.conflicts c.in-Tightest.ticks c.in-Tightest.within c.in-Tightest.bounds c.in-Tightest.design.now c.in-Tightest.proof.now _ _ (search rules) (c.time_reply.ensures.tells files reply_for)
