use Rattle.std.proofs.Common.{not, refl, sym, ◌∙◌}
use Rattle.design_table.specs.declared.place.Place.TheVariants.{Field}
use Rattle.design_table.proofs.Walks.{found_first, found_none}
use Rattle.infra_reader.specs.declared.limits.Limit.{Limit}
use Rattle.infra_reader.specs.Limits.{is_kept}
use Rattle.infra_reader.specs.Seen.{limit_seen}
use Rattle.infra_reader.proofs.Ranges.{limits_seen}
use Rattle.infra_reader.proofs.limits.refuse_limits.Goals as goal

pub returns-in-Some : goal.returns-in-Some
returns-in-Some c =
    (refl, rw (limits_seen c.args.kind c.args.number c.args.limits.now) (found_first (λ (l : Limit). not (is_kept (limit_seen l))) (λ (l : Limit). Field c.args.kind c.args.number l.key) c.args.limits.now c.in-Some.limit (sym c.first_broken.ensures ∙ c.in-Some.is)))

pub returns-in-None : goal.returns-in-None
returns-in-None c =
    (limits_seen c.args.kind c.args.number c.args.limits.now ∙ found_none (λ (l : Limit). not (is_kept (limit_seen l))) (λ (l : Limit). Field c.args.kind c.args.number l.key) c.args.limits.now (sym c.first_broken.ensures ∙ c.in-None.is), refl)
