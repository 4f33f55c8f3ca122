use Rattle.std.proofs.Common.{◌≡◌, suc, ◌-◌, None, Some, sym, ap, ◌∙◌, arith}
use Rattle.std.specs.Option.{option_copied}
use Rattle.bound_chains.proofs.Visited.{entry_past, entry_there, unseen, visited}
use Rattle.bound_chains.proofs.search.ChainSearch.visit_tick.Goals as goal

pub returns-in_err-history : goal.returns-in_err-history
returns-in_err-history c =
    let train = sym (ap option_copied c.in_err-history.was) ∙ c.history_of.ensures in
    c.from_residual.ensures ∙ unseen c.args.self.now.history.now c.args.visit train

pub returns-in_err-made : goal.returns-in_err-made
returns-in_err-made c =
    let history = c.args.self.now.history.now in
    let n = c.args.visit.number in
    let visits = c.as_slice.result.now in
    let next : suc (n - 1) ≡ n = omega (arith, c.if-visit-eq0.false) in
    let train = sym (ap option_copied c.in_ok-history.was) ∙ c.history_of.ensures in
    let past = entry_past None visits (n - 1) n next c.in_err-made.ensures.lookup.3 in
    c.from_residual-in_err-made.ensures
    ∙ visited history c.args.visit c.in_ok-history.history.now visits None train c.as_slice.ensures past

pub returns-in-Some : goal.returns-in-Some
returns-in-Some c =
    let history = c.args.self.now.history.now in
    let n = c.args.visit.number in
    let visits = c.as_slice.result.now in
    let next : suc (n - 1) ≡ n = omega (arith, c.if-visit-eq0.false) in
    let train = sym (ap option_copied c.in_ok-history.was) ∙ c.history_of.ensures in
    let there = entry_there None visits (n - 1) n c.in_ok-made.field-0.now next c.in_ok-made.ensures.lookup.3.1 in
    visited history c.args.visit c.in_ok-history.history.now visits (Some c.in-Some.made) train c.as_slice.ensures
    (sym c.in-Some.is ∙ there)

pub returns-in-None : goal.returns-in-None
returns-in-None c =
    let history = c.args.self.now.history.now in
    let n = c.args.visit.number in
    let visits = c.as_slice.result.now in
    let next : suc (n - 1) ≡ n = omega (arith, c.if-visit-eq0.false) in
    let train = sym (ap option_copied c.in_ok-history.was) ∙ c.history_of.ensures in
    let there = entry_there None visits (n - 1) n c.in_ok-made.field-0.now next c.in_ok-made.ensures.lookup.3.1 in
    visited history c.args.visit c.in_ok-history.history.now visits None train c.as_slice.ensures
    (sym c.in-None.is ∙ there)
