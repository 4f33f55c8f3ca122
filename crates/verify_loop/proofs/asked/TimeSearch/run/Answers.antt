use Rattle.std.proofs.Common.{refl, subst, ◌∙◌}
use Rattle.rail_base.specs.declared.station.Station.{Station}
use Rattle.verify_loop.specs.Lessening.{base_station}
use Rattle.verify_loop.specs.Tightening.{TellsAttempts, TellsTightest}
use Rattle.verify_loop.proofs.Told.{none_told, told_more}
use Rattle.verify_loop.proofs.asked.TimeSearch.run.Goals as goal

pub times-init : goal.times-init
times-init g c =
    let t = c.args.self.now in
    let a = c.args.asked in
    record { search = c.requires; same = refl; told = none_told (TellsAttempts t.base (base_station t a) t.within t.numbering.now.steps) _ }

pub times-preserved : goal.times-preserved
times-preserved g c =
    let t = c.args.self.now in
    let a = c.args.asked in
    let l = c.in-Ok.ensures.leads_on in
    record {
      search = l.0;
      same = l.1 ∙ c.times.invariant.same;
      told = told_more (TellsAttempts t.base (base_station t a) t.within t.numbering.now.steps) _ _ _ c.times.invariant.told
          (subst (λ (s : Station). TellsTightest t.base s t.within t.numbering.now.steps (g.P.Sink.puts c.times.progress) (g.P.Sink.puts c.ask.new.progress)) c.times.invariant.same c.ask.ensures.tells);
    }

pub returns-in-Err-clause-tells : goal.returns-in-Err-clause-tells
returns-in-Err-clause-tells g c =
    let t = c.args.self.now in
    let a = c.args.asked in
    told_more (TellsAttempts t.base (base_station t a) t.within t.numbering.now.steps) _ _ _ c.times.invariant.told
    (subst (λ (s : Station). TellsTightest t.base s t.within t.numbering.now.steps (g.P.Sink.puts c.times.progress) (g.P.Sink.puts c.ask.new.progress)) c.times.invariant.same c.ask.ensures.tells)
