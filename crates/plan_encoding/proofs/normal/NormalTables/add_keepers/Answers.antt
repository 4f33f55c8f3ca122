use Rattle.std.proofs.Common.{◌≡◌, ℕ, ◌+◌, ◌-◌, ◌<◌, ◌++◌, Global, Vec, flat_map, length, sym, ap, ◌∙◌, arith, append-nil}
use Rattle.rail_base.specs.declared.plan.Command.{Command}
use Rattle.rail_base.specs.Numbering.{count_from}
use Rattle.rail_base.proofs.Lists.{count_next}
use Rattle.command_set.proofs.Gathering.{part_next}
use Rattle.live_contending.proofs.Tabled.{length_rows, row_is}
use Rattle.route_keepers.specs.Keepers.{keepers_of}
use Rattle.plan_encoding.specs.Encoders.{station, table}
use Rattle.plan_encoding.proofs.Keeping.{keepers_by_trains, keepers_on, keepers_others, keepers_own}
use Rattle.plan_encoding.proofs.normal.NormalTables.add_keepers.Goals.{then-number-command+in_ok-add_commands, else-number-command}
use Rattle.plan_encoding.proofs.normal.NormalTables.add_keepers.Goals as goal

pub row_of-row-requires-clause-within : goal.row_of-row-requires-clause-within
row_of-row-requires-clause-within c =
    let e = length_rows (table c.args.self.now.normal.encoder) (keepers_of (table c.args.self.now.normal.encoder)) c.deref.result.now (c.deref.ensures.value ∙ c.args.self.now.kept) in
    let r = c.requires.command.route.1 in
    omega arith

pub loop-number-init : goal.loop-number-init
loop-number-init c =
    let f = c.args.self.now.normal.encoder in
    ap (λ m. c.args.commands.now.items ++ flat_map (keepers_on (table f) c.args.command c.row_of-row.result.now) (count_from 1 m)) (less (length (station f).trains))
    ∙ ap (λ cs. c.args.commands.now.items ++ cs) (sym (keepers_by_trains (table f) c.args.command (station f) f.steps.count c.row_of-row.result.now (c.row_of-row.ensures ∙ row_is (table f) (keepers_of (table f)) c.deref.result.now (c.deref.ensures.value ∙ c.args.self.now.kept) c.args.command.route c.requires.command.route)))
  where
    less : (n : ℕ) → n + 1 - 1 ≡ n
    less n = omega arith

pub loop-number-preserved : goal.loop-number-preserved
loop-number-preserved c =
    let f = c.args.self.now.normal.encoder in
    let old = c.loop-number.commands.items in
    let within : c.loop-number.number < length (station f).trains + 1 = (let e = c.len.ensures in let l = c.loop-number-test.true in omega arith) in
    let next = part_next old c.if-number-command.commands.items _ _ _ _ (count_next c.loop-number.number (length (station f).trains + 1) within) (keepers_on (table f) c.args.command c.row_of-row.result.now) in
    elim c.if-number-command.branch [
      | then-number-command+in_ok-add_commands w ↦
          next (ap (λ (v : Vec Command Global). v.items) w.commands-is ∙ (w.in_ok-add_commands.ensures
          ∙ ap (λ cs. old ++ cs) (sym (keepers_others (table f) c.args.command c.row_of-row.result.now c.loop-number.number w.if-number-command.true)))) c.loop-number.invariant
      | else-number-command w ↦
          next (ap (λ (v : Vec Command Global). v.items) w.commands-is
          ∙ sym (ap (λ cs. old ++ cs) (keepers_own (table f) c.args.command c.row_of-row.result.now c.loop-number.number w.if-number-command.false) ∙ append-nil old)) c.loop-number.invariant
    ]
