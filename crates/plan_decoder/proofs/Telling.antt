-- What values say of the commands that a base speaks of.
use Rattle.std.proofs.Common.{◌≡◌, ℕ, zero, suc, ◌≤◌, ◌<◌, inl, inr, Bool, true, cond, List, [], ◌∷◌, length, Option, Some, None, refl, ap, subst, ◌∙◌, arith, get_or}
use Rattle.rail_base.specs.declared.station.Station.{Station}
use Rattle.rail_base.specs.declared.route.Route.{Route}
use Rattle.rail_base.specs.declared.plan.Command.{Command}
use Rattle.rail_base.proofs.Members.{In, list_any_from}
use Rattle.sat_clause.specs.declared.lit.Lit.{Lit}
use Rattle.sat_core.specs.Models.{value_in}
use Rattle.rail_spec.specs.Plans.{is_command}
use Rattle.clause_spec.specs.Variables.{Given, yes}
use Rattle.clause_spec.specs.Models.{given_by}
use Rattle.clause_spec.proofs.Steps.{is_command_self}
use Rattle.live_clause_spec.specs.Variables.{live_numbered}
use Rattle.command_set.specs.Commands.{is_among}
use Rattle.plan_encoding.specs.Numberings.{IsNumberingOf, Numbered, given_number}
use Rattle.plan_decoder.specs.Decoded.{says}

-- each of these is one of them
pub among_at : (cs all : List Command) (i : ℕ) (other : Command) → cs ≡ all → i < length cs → is_among all (get_or cs i other) ≡ true
among_at cs all i other same h =
    let x = get_or cs i other in
    subst (λ (ds : List Command). is_among ds x ≡ true) same (list_any_from (is_command x) cs x (at cs i h) (is_command_self x))
  where
    at : (ys : List Command) (j : ℕ) → j < length ys → In (get_or ys j other) ys
    at [] j l = absurd (omega arith)
    at (y ∷ ys) zero l = inl refl
    at (y ∷ ys) (suc j) l = inr (at ys j (omega arith))

module _ (live : Command → Bool) (d : Station) (routes : List Route) (n : ℕ) (b : Numbered) (is : IsNumberingOf live d routes n b) (c : Command) (i : ℕ) (known : is_among b.commands c ≡ true) where
  -- one of them has a literal
  pub given_some : given_number live d routes n c i ≡ Some (live_numbered live d routes n (yes (Given c i)))
  given_some = ap (λ e. cond e (Some (live_numbered live d routes n (yes (Given c i)))) None) (subst (λ (cs : List Command). is_among cs c ≡ true) is.commands known)

  -- its value says whether the command is given by the step
  pub value_given : (values : List Bool) (o : Option Lit) (l : Lit) → 1 ≤ i → o ≡ given_number live d routes n c i → Some l ≡ o → value_in values l.var ≡ given_by (says live d routes n values) c i
  value_given values o l some told found = ap (λ (m : Lit). value_in values m.var) (literal (found ∙ (told ∙ given_some))) ∙ by i some
    where
      literal : Some l ≡ Some (live_numbered live d routes n (yes (Given c i))) → l ≡ live_numbered live d routes n (yes (Given c i))
      literal e = cc

      by : (j : ℕ) → 1 ≤ j → says live d routes n values (Given c j) ≡ given_by (says live d routes n values) c j
      by zero h = absurd (omega arith)
      by (suc j) h = refl

  -- it isn't without one
  pub not_none : (o : Option Lit) → o ≡ given_number live d routes n c i → None ≡ o → ⊥
  not_none o told none = no_literal (none ∙ (told ∙ given_some))
    where
      no_literal : {m : Lit} → None ≡ Some m → ⊥
      no_literal e = cc
