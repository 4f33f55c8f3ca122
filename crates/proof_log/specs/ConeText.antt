-- The text of literals and of cones.
use Rattle.std.specs.Prelude.{ℕ, Bool, true, not, ◌&&◌, List, [], ◌∷◌, ◌++◌, map, flat_map, nat_le, Option, Some, None}
use Rattle.std.specs.Prelude.{codes, decimal, if◌then◌else◌}
use Rattle.std.specs.List.{list_all}
use Rattle.sat_clause.specs.declared.lit.Lit.{Lit}
use Rattle.rail_base.specs.declared.plan.Command.{Command}
use Rattle.rail_base.specs.declared.plan.Violation.{Violation}
use Rattle.rail_base.specs.declared.plan.Violation.TheVariants.{Path, Within, Order, Grant, Visit}
use Rattle.rail_base.specs.declared.route.RouteNo.{RouteNo}
use Rattle.cone_spec.specs.declared.Cone.{Cone}
use Rattle.cone_spec.specs.declared.ConeTrain.{ConeTrain}
use Rattle.proof_log.specs.Words.{greatest_variable, greatest_clause_number, is_from_1_to, is_small}
use Rattle.proof_log.specs.Parts.{has_member, is_nothing}

-- ---- words

-- the number of its variable, with `-` before it where it is negated
abbrev pub literal_word : Lit → List ℕ
literal_word l = (if l.negated then codes "-" else []) ++ decimal l.var

abbrev pub route_word : RouteNo → List ℕ
route_word r = decimal r.0

-- members of a list, and `0`
abbrev pub list_words : {X : Type 0} → (X → List ℕ) → List X → List (List ℕ)
list_words word_of members = map word_of members ++ codes "0" ∷ []

abbrev pub command_words : Command → List (List ℕ)
command_words c = decimal c.train.0 ∷ decimal c.route.0 ∷ []

-- the kind of the violation and its numbers
abbrev pub violation_words : Violation → List (List ℕ)
violation_words (Path train visit) = codes "path" ∷ decimal train.0 ∷ decimal visit ∷ []
violation_words (Within within) = codes "within" ∷ decimal within ∷ []
violation_words (Order order) = codes "order" ∷ decimal order ∷ []
violation_words (Grant train command) = codes "grant" ∷ decimal train.0 ∷ decimal command ∷ []
violation_words (Visit train visit) = codes "visit" ∷ decimal train.0 ∷ decimal visit ∷ []

-- `0 0` is none
abbrev pub holder_words : Option Command → List (List ℕ)
holder_words None = codes "0" ∷ codes "0" ∷ []
holder_words (Some c) = command_words c

-- `t`, the train, its horizon, and how many commands are free
abbrev pub train_prefix_words : ConeTrain → List (List ℕ)
train_prefix_words c = codes "t" ∷ decimal c.train.0 ∷ decimal c.horizon ∷ decimal c.free ∷ []

-- and then the routes, `0`, and the holder
abbrev pub train_words : ConeTrain → List (List ℕ)
train_words c = train_prefix_words c ++ (list_words route_word c.path ++ holder_words c.holder)

-- `p` and the two commands
abbrev pub pair_words : Command × Command → List (List ℕ)
pair_words p = codes "p" ∷ (command_words p.0 ++ command_words p.1)

-- the violation, the trains, the pairs
abbrev pub cone_line_words : Cone → List (List ℕ)
cone_line_words k = violation_words k.violation ++ (flat_map train_words k.trains ++ flat_map pair_words k.pairs)

-- ---- cones of the grammar

abbrev pub keeps_command : Command → Bool
keeps_command c = is_small c.train.0 && is_small c.route.0

abbrev pub keeps_violation : Violation → Bool
keeps_violation (Path train visit) = is_small train.0 && is_small visit
keeps_violation (Within within) = is_small within
keeps_violation (Order order) = is_small order
keeps_violation (Grant train command) = is_small train.0 && is_small command
keeps_violation (Visit train visit) = is_small train.0 && is_small visit

-- a holder isn't train 0 with route 0
abbrev pub keeps_holder : Option Command → Bool
keeps_holder None = true
keeps_holder (Some c) = keeps_command c && not (is_nothing c)

-- the path has a route, and none of its routes is 0
abbrev pub keeps_path : List RouteNo → Bool
keeps_path path = has_member path && list_all (λ r. is_from_1_to greatest_variable r.0) path

abbrev pub keeps_train : ConeTrain → Bool
keeps_train c =
    (is_small c.train.0 && (nat_le c.horizon greatest_clause_number && is_small c.free))
    && (keeps_path c.path && keeps_holder c.holder)

abbrev pub keeps_pair : Command × Command → Bool
keeps_pair p = keeps_command p.0 && keeps_command p.1

-- the cone has a train
abbrev pub keeps_cone : Cone → Bool
keeps_cone k =
    keeps_violation k.violation
    && ((has_member k.trains && list_all keeps_train k.trains) && list_all keeps_pair k.pairs)
