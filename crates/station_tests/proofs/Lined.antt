-- The station of the tests is admitted, and these are its routes.
use Rattle.std.proofs.Common.{◌≡◌, true, length, refl}
use Rattle.rail_base.specs.Admission.{is_admitted}
use Rattle.rail_spec.specs.Track.{routes_of}
use Rattle.station_tests.specs.Line.{line_station, line_routes}

pub line_admitted : is_admitted line_station ≡ true
unfolding line_station
line_admitted = refl

pub routes_of_line : routes_of line_station ≡ line_routes
unfolding line_station line_routes
routes_of_line = refl

pub one_train : length line_station.trains ≡ 1
unfolding line_station
one_train = refl

pub three_routes : length line_routes ≡ 3
unfolding line_routes
three_routes = refl
