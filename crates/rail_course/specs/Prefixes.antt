-- The prefixes of a path: its first routes, so many at a time.
use Rattle.std.specs.Prelude.{◌+◌, false, ◌||◌, List, [], ◌∷◌, length, flat_map, sum_by}
use Rattle.std.specs.List.{list_any}
use Rattle.rail_base.specs.declared.route.Route.{Route}
use Rattle.rail_base.specs.Routes.{length_mm, exits}
use Rattle.rail_course.specs.declared.prefixes.PathPrefix.{PathPrefix}

-- how many edges these routes have, how long they are, how many sections are held behind their ends, and whether one
-- exits
abbrev pub prefix_of : List Route → PathPrefix
prefix_of rs = record {
  spans = length (flat_map (λ r. r.edges) rs);
  length = sum_by length_mm rs;
  holds = length (flat_map (λ r. r.overlaps) rs);
  exits = list_any exits rs;
}

-- a prefix with one more route
abbrev pub longer : PathPrefix → Route → PathPrefix
longer f r = record {
  spans = f.spans + length r.edges;
  length = f.length + length_mm r;
  holds = f.holds + length r.overlaps;
  exits = f.exits || exits r;
}

-- a prefix, and those with one, two and more of these routes behind it
abbrev pub prefixes_from : PathPrefix → List Route → List PathPrefix
prefixes_from f [] = f ∷ []
prefixes_from f (r ∷ rs) = f ∷ prefixes_from (longer f r) rs

-- the prefix of no route
abbrev pub no_prefix : PathPrefix
no_prefix = record { spans = 0; length = 0; holds = 0; exits = false }
