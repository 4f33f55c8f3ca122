-- The answers to what is not refused.
use Rattle.std.proofs.Common.{◌≡◌, ℕ, List, Ok, refl, ap, ◌∙◌, inl, inr}
use Rattle.rail_base.specs.declared.history.Verdict.{Verdict}
use Rattle.rail_base.specs.declared.history.Verdict.TheVariants as verdict
use Rattle.rail_base.specs.declared.station.Station.{Station}
use Rattle.cli_shell.specs.declared.input.InputFile.TheVariants as file
use Rattle.cli_shell.specs.Answers.{within_limit, with_routes, design_in, plan_or_answer, plan_in, verdict_status, verdict_reply, unless_refused, simulation_reply, routes_answer, routes_reply}
use Rattle.cli_shell.specs.Shows.{verdict_at_horizon}
use Rattle.cli_shell.specs.Verdicts.{HasRoutes, IsDesignText, IsPlanText, IsVerdict}
use Rattle.cli_shell.proofs.Deciding.{answered_next, planned_so}
use Rattle.cli_shell.proofs.Refusing as refusing

pub routes_pass : (d : Station) → HasRoutes d → with_routes d ≡ Ok d
routes_pass d has = refusing.routes_can_be_listed d has.once has.at_most_2000

module _ (bytes : List ℕ) (d : Station) (s : IsDesignText bytes d) where
  pub fits : within_limit file.Design bytes ≡ Ok bytes
  fits = refusing.file_fits file.Design bytes s.within_limit

  pub reads : design_in bytes ≡ Ok d
  reads = refusing.design_read bytes d s.parses (routes_pass d s.routes)

  -- ---- the answers to what is not refused

  pub simulated_so : (plan_bytes : List ℕ) (p : IsPlanText d plan_bytes) → simulation_reply bytes plan_bytes ≡ verdict_reply d (verdict_at_horizon d p.plan)
  simulated_so plan_bytes p =
      planned_so bytes plan_bytes bytes fits d reads plan_bytes (refusing.file_fits file.Plan plan_bytes p.within_limit)
      ∙ answered_next (plan_in d plan_bytes) p.plan (λ plan. verdict_reply d (verdict_at_horizon d plan)) (ap (plan_or_answer d) p.parses)

  pub listed_so : routes_reply bytes ≡ routes_answer d
  listed_so = answered_next (within_limit file.Design bytes) bytes (λ text. unless_refused (design_in text) routes_answer) fits ∙ answered_next (design_in bytes) d routes_answer reads

-- ---- statuses

pub shown_verdict : (v : Verdict) → IsVerdict (verdict_status v)
shown_verdict (verdict.Met history tick) = inl refl
shown_verdict (verdict.Failed history tick violation) = inr refl
shown_verdict verdict.Undecided = inr refl
