use Rattle.rail_laws.proofs.Keeping.{keeps_authority, keeps_all_limits}
use Rattle.rail_laws.proofs.laws.trains_keep_to_their_track.Goals as goal

pub returns : goal.returns
returns c = λ d adm n plan formed. record { in_authority = keeps_authority d adm n plan formed; in_limits = keeps_all_limits d adm n plan formed }
