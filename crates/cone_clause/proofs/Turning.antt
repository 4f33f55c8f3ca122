-- What is known of the contending pairs of commands that a base speaks of.
use Rattle.std.proofs.Common.{Bool, List, sym, subst}
use Rattle.rail_base.specs.declared.station.Station.{Station}
use Rattle.rail_base.specs.declared.route.Route.{Route}
use Rattle.rail_base.specs.declared.plan.Command.{Command}
use Rattle.rail_base.specs.Members.{In}
use Rattle.rail_base.proofs.Lists.{in_filter_back}
use Rattle.rail_base.proofs.Members.{and_both, and_left, and_right, in_filter, list_any_from}
use Rattle.clause_spec.specs.Variables.{pairs}
use Rattle.clause_spec.proofs.Facts.{contend_sym}
use Rattle.clause_spec.proofs.Places.{pair_from, pair_of}
use Rattle.live_clause_spec.specs.Variables.{both_live, live_pairs}
use Rattle.cone_spec.specs.Cones.{is_pair}
use Rattle.cone_spec.proofs.Naming.{listed_is, of_design}
use Rattle.cone_form.proofs.Contending.{listed_contend, listed_known}
use Rattle.cone_form.proofs.Placed.{pair_itself}
use Rattle.cone_clause.specs.declared.contention.Contention.{Contention}
use Rattle.cone_clause.specs.declared.numbered.NumberedCone.{NumberedCone}
use Rattle.cone_clause.specs.Contentions.{among}
use Rattle.cone_clause.proofs.Left.{named_live}
use Rattle.cone_clause.proofs.Said.{IsMirrored}

-- each of them is there the other way round too
pub mirrored : (live : Command → Bool) (d : Station) (routes : List Route) → IsMirrored (live_pairs live d routes)
mirrored live d routes e c m =
    let f = in_filter_back (both_live live) (pairs d routes) (e, c) m in
    let p = pair_of d routes (e, c) f.0 in
    in_filter (both_live live) (pairs d routes) (c, e) (pair_from d routes c e p.other p.one (contend_sym routes e c p.contend))
    (and_both (live c) (live e) (and_right (live e) (live c) f.1) (and_left (live e) (live c) f.1))

pub turned : (c : Contention) → IsMirrored c.pairs.now.pairs
turned c = subst IsMirrored (sym c.paired) (mirrored (among c) c.interlocking.now.design.station c.interlocking.now.routes)

-- the pairs of a cone are among them
pub listed_among : (c : NumberedCone) (p : Command × Command) → In p c.cone.now.pairs → In p c.contention.pairs.now.pairs
listed_among c p m =
    let d = c.contention.interlocking.now.design.station in
    let routes = c.contention.interlocking.now.routes in
    let k = c.cone.now in
    let live : Command → Bool = among c.contention in
    let known = listed_known d routes k c.known p m in
    let names = listed_is d routes k (of_design d routes k c.known) p.0 p.1 (list_any_from (is_pair p.0 p.1) k.pairs p m (pair_itself p.0 p.1)) in
    subst (λ (ps : List (Command × Command)). In p ps) (sym c.contention.paired)
    (in_filter (both_live live) (pairs d routes) p (pair_from d routes p.0 p.1 known.0 known.1 (listed_contend d routes k c.known p m))
    (and_both (live p.0) (live p.1) (named_live live k c.live p.0 names.first) (named_live live k c.live p.1 names.second)))
