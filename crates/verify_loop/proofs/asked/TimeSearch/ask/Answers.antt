use Rattle.std.proofs.Common.{List, sym, subst}
use Rattle.verify_loop.specs.declared.outcome.Tried.{Tried}
use Rattle.verify_loop.specs.Lessening.{base_station}
use Rattle.verify_loop.specs.Tightening.{IsPast}
use Rattle.verify_loop.proofs.Following.{tells_all}
use Rattle.verify_loop.proofs.asked.TimeSearch.ask.Goals as goal

pub after_end-requires : goal.after_end-requires
after_end-requires g c =
    let t = c.args.self.now in
    let a = c.args.asked in
    let h = c.in-Over.ensures.stops in
    let w = h.1 in
    (h.0, (c.requires.0, (w.0, w.1, subst (λ (tried : List Tried). IsPast t.base (base_station t a) t.within t.numbering.now.steps tried a.ticks w.0 w.1) c.as_slice.ensures.value w.2, w.3)))

pub returns-in-Met-clause-tells : goal.returns-in-Met-clause-tells
returns-in-Met-clause-tells g c = tells_all c.args.self.now c.args.asked c.requires.0 c.as_slice.result.now c.as_slice.ensures.value (g.P.Sink.puts c.args.progress.now) (g.P.Sink.puts c.run_rounds.new.progress) c.run_rounds.ensures.tells

pub returns-in-Over-clause-tells : goal.returns-in-Over-clause-tells
returns-in-Over-clause-tells g c = tells_all c.args.self.now c.args.asked c.requires.0 c.as_slice.result.now c.as_slice.ensures.value (g.P.Sink.puts c.args.progress.now) (g.P.Sink.puts c.run_rounds.new.progress) c.run_rounds.ensures.tells
