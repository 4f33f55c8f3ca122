-- What the watches of a trail say of it.
use Rattle.std.specs.Prelude.{ℕ, List, length}
use Rattle.sat_clause.specs.declared.lit.Lit.{Lit}
use Rattle.sat_clause.specs.Clauses.{Store}
use Rattle.sat_trail.specs.declared.status.Visit.{Visit}
use Rattle.sat_trail.specs.declared.step.Step.{Step}
use Rattle.sat_trail.specs.declared.watch.Watches.{Watches}
use Rattle.sat_trail.specs.Attached.{Seen}
use Rattle.sat_trail.specs.Blockers.{AllBlocked}
use Rattle.sat_trail.specs.View.{View}
use Rattle.sat_trail.specs.Watches.{row_at, rows, IsLooseOrWatched, IsWatching, Pending, Looked}

-- the numbers in the list at a place
abbrev pub row_in : Watches → ℕ → List ℕ
row_in watches place = row_at (rows watches.lists.items) place

-- they watch the trail, when this many of its steps were looked at
abbrev pub IsWatchingIn : View → Watches → ℕ → Type 0
IsWatchingIn trail watches head =
    IsWatching trail watches.loose.items (rows watches.lists.items) watches.pairs.items head

-- each literal that stands beside a clause is one of it
abbrev pub AllBlockedIn : Seen → Watches → Type 0
AllBlockedIn seen watches = AllBlocked seen watches.loose.items (length watches.pairs.items) watches.lists.items

-- a clause of this number is loose, or watched where these steps were looked at
abbrev pub IsLooseOrWatchedIn : Watches → List Lit → ℕ → List Step → List Step → Type 0
IsLooseOrWatchedIn watches clause id done steps =
    IsLooseOrWatched clause id watches.loose.items (rows watches.lists.items) watches.pairs.items done steps

-- each clause that is watched by this literal is still to be looked at, or true
abbrev pub PendingIn : View → Watches → Lit → List ℕ → Type 0
PendingIn trail watches w left = Pending trail watches.loose.items watches.pairs.items w left

-- what the look at a clause of this number says
abbrev pub LookedIn : View → Watches → Store → Lit → ℕ → Visit → Type 0
LookedIn trail watches store w id visit = Looked trail watches.loose.items watches.pairs.items store w id visit
