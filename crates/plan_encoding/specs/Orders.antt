-- What the variables of pairs say.
use Rattle.std.specs.Prelude.{ℕ, ◌-◌, List, [], ◌∷◌, map}
use Rattle.rail_base.specs.Numbering.{one_to}
use Rattle.clause_spec.specs.Variables.{Given, Before, yes, no, if_given}
use Rattle.clause_spec.specs.Clauses.{Clause, in_order}
use Rattle.plan_encoding.specs.declared.pair.Contenders.{Contenders}
use Rattle.plan_encoding.specs.declared.pair.Pair.{Pair}
use Rattle.plan_encoding.specs.Families.{each_with}
use Rattle.plan_encoding.specs.Encoders.{over}

-- where the first is before the second and that one is given by a step, the first is given by the step before
abbrev pub earlier : Pair → ℕ → Clause
earlier p i = no (Before p.first p.second) ∷ no (Given p.second i) ∷ if_given p.first (i - 1)

-- for each step
abbrev pub all_earlier : Pair → List Clause
all_earlier p = map (earlier p) (one_to p.encoder.steps.count)

-- where the first is given by a step, and the second only later, the first is before it
abbrev pub first_given : Pair → ℕ → Clause
first_given p i =
    yes (Before p.first p.second) ∷ no (Given p.first i) ∷ yes (Given p.second i)
    ∷ no (Given p.second p.encoder.steps.count) ∷ []

-- for each step but the last
abbrev pub all_first : Pair → List Clause
all_first p = map (first_given p) (one_to (p.encoder.steps.count - 1))

-- all that its variable says
abbrev pub said_by : Pair → List Clause
said_by p = over p.encoder in_order (p.first, p.second)

-- all that the variables of a command's pairs say
abbrev pub orders_of : Contenders → List Clause
orders_of c = each_with (over c.encoder in_order) c.first c.rivals.now
