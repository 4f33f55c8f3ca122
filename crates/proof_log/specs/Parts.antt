-- The parts of lines, each read from the first of some words on, with the words after it.
use Rattle.std.specs.Prelude.{ℕ, zero, suc, Bool, true, false, List, [], ◌∷◌, length, Option, Some, None, option_map}
use Rattle.std.specs.Prelude.{codes, ◌==◌, ◌&&◌, if◌then◌else◌}
use Rattle.std.specs.Str.{bytes_eq}
use Rattle.rail_base.specs.declared.plan.Command.{Command}
use Rattle.rail_base.specs.declared.plan.Violation.{Violation}
use Rattle.rail_base.specs.declared.plan.Violation.TheVariants.{Path, Within, Order, Grant, Visit}
use Rattle.rail_base.specs.declared.route.RouteNo.{RouteNo}
use Rattle.cone_spec.specs.declared.Cone.{Cone}
use Rattle.cone_spec.specs.declared.ConeTrain.{ConeTrain}
use Rattle.proof_log.specs.Words.{plain_number_of, small_number_of, route_of, members_of}

-- ---- parts of parts

-- what is read from the first word on, and the words after it
abbrev pub WithRest : Type 0 → Type 0
WithRest X = List (List ℕ) → Option (X × List (List ℕ))

-- what a part that was found makes
abbrev pub made : {X Y W : Type 0} → (X → Y) → Option (X × W) → Option (Y × W)
made make None = None
made make (Some found) = Some (make found.0, found.1)

-- a part that was found, and the next one
abbrev pub with_next : {X Y W : Type 0} → Option (X × W) → (W → Option (Y × W)) → Option ((X × Y) × W)
with_next None next = None
with_next (Some found) next = made (λ y. (found.0, y)) (next found.1)

-- what the first word writes
abbrev pub first_of : {X : Type 0} → (List ℕ → Option X) → WithRest X
first_of of_word [] = None
first_of of_word (word ∷ more) = option_map (λ x. (x, more)) (of_word word)

abbrev pub has_member : {X : Type 0} → List X → Bool
has_member [] = false
has_member (x ∷ xs) = true

-- a list that was found, where it has a member
abbrev pub if_any : {X W : Type 0} → Option (List X × W) → Option (List X × W)
if_any None = None
if_any (Some found) = if has_member found.0 then Some found else None

-- a part before those that are found after it
abbrev pub part_before : {X W : Type 0} → Option (X × W) → (W → Option (List X × W)) → Option (List X × W)
part_before None next = None
part_before (Some found) next = made (λ xs. found.0 ∷ xs) (next found.1)

-- parts that begin with a mark, while there are more of them, n at most
abbrev pub parts_of : {X : Type 0} → List ℕ → WithRest X → ℕ → WithRest (List X)
parts_of mark part zero words = Some ([], words)
parts_of mark part (suc n) [] = Some ([], [])
parts_of mark part (suc n) (word ∷ more) =
    if bytes_eq word mark then part_before (part more) (λ words. parts_of mark part n words)
    else Some ([], word ∷ more)

-- all parts that begin with a mark: there are no more than words
abbrev pub all_parts : {X : Type 0} → List ℕ → WithRest X → WithRest (List X)
all_parts mark part words = parts_of mark part (length words) words

-- ---- parts of a cone

abbrev pub small_number : WithRest ℕ
small_number words = first_of small_number_of words

abbrev pub two_numbers : WithRest (ℕ × ℕ)
two_numbers words = with_next (small_number words) small_number

abbrev pub plain_number : WithRest ℕ
plain_number words = first_of plain_number_of words

-- of at most 18 digits each
abbrev pub two_plain_numbers : WithRest (ℕ × ℕ)
two_plain_numbers words = with_next (plain_number words) plain_number

abbrev pub three_plain_numbers : WithRest ((ℕ × ℕ) × ℕ)
three_plain_numbers words = with_next (two_plain_numbers words) plain_number

-- a command, by its train and its route
abbrev pub command_by : ℕ × ℕ → Command
command_by numbers = record { train = record { 0 = numbers.0 }; route = record { 0 = numbers.1 } }

abbrev pub command : WithRest Command
command words = made command_by (two_numbers words)

-- a visit that a train's path doesn't make, by the two numbers
abbrev pub path_by : ℕ × ℕ → Violation
path_by numbers = Path (record { 0 = numbers.0 }) numbers.1

-- a command that is not granted, by its train and its number
abbrev pub grant_by : ℕ × ℕ → Violation
grant_by numbers = Grant (record { 0 = numbers.0 }) numbers.1

-- a visit that is not made, by its train and its number
abbrev pub visit_by : ℕ × ℕ → Violation
visit_by numbers = Visit (record { 0 = numbers.0 }) numbers.1

-- a violation, by the word of its kind and the numbers after it
abbrev pub violation_of : List ℕ → WithRest Violation
violation_of kind words =
    if bytes_eq kind (codes "path") then made path_by (two_numbers words)
    else if bytes_eq kind (codes "within") then made Within (small_number words)
    else if bytes_eq kind (codes "order") then made Order (small_number words)
    else if bytes_eq kind (codes "grant") then made grant_by (two_numbers words)
    else if bytes_eq kind (codes "visit") then made visit_by (two_numbers words)
    else None

abbrev pub violation : WithRest Violation
violation [] = None
violation (kind ∷ more) = violation_of kind more

-- train 0 with route 0
abbrev pub is_nothing : Command → Bool
is_nothing c = c.train.0 == 0 && c.route.0 == 0

-- the holder that a command writes
abbrev pub written_holder : Command → Option Command
written_holder c = if is_nothing c then None else Some c

-- a train, its horizon, and how many of its commands are free
abbrev pub train_prefix : WithRest (ℕ × (ℕ × ℕ))
train_prefix words = with_next (small_number words) (λ w. with_next (first_of plain_number_of w) small_number)

-- the routes up to the word `0`, of which there is one
abbrev pub train_path : WithRest (List RouteNo)
train_path words = if_any (members_of route_of words)

-- what a cone says of a train, by the parts
abbrev pub train_by : (ℕ × (ℕ × ℕ)) × (List RouteNo × Command) → ConeTrain
train_by parts = record {
  train = record { 0 = parts.0.0 };
  horizon = parts.0.1.0;
  free = parts.0.1.1;
  path = parts.1.0;
  holder = written_holder parts.1.1;
}

-- what a cone says of a train, after the word `t`
abbrev pub cone_train : WithRest ConeTrain
cone_train words = made train_by (with_next (train_prefix words) (λ w. with_next (train_path w) command))

-- what a cone says of its trains, each after a word `t`
abbrev pub cone_trains : WithRest (List ConeTrain)
cone_trains words = all_parts (codes "t") cone_train words

-- the same, where there is a train
abbrev pub some_cone_trains : WithRest (List ConeTrain)
some_cone_trains words = if_any (cone_trains words)

-- a listed pair, after the word `p`
abbrev pub pair : WithRest (Command × Command)
pair words = with_next (command words) command

-- the listed pairs, each after a word `p`
abbrev pub cone_pairs : WithRest (List (Command × Command))
cone_pairs words = all_parts (codes "p") pair words

-- a cone, by the parts
abbrev pub cone_by : Violation × (List ConeTrain × List (Command × Command)) → Cone
cone_by parts = record { trains = parts.1.0; pairs = parts.1.1; violation = parts.0 }

-- a violation, one train or more, and pairs
abbrev pub cone : WithRest Cone
cone words = made cone_by (with_next (violation words) (λ w. with_next (some_cone_trains w) cone_pairs))
