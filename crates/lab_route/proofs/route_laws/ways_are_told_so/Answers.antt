use Rattle.std.proofs.Common.{refl}
use Rattle.std.specs.Fmt.{digits}
use Rattle.lab_route.specs.RouteLines.{way_chips_text, delivery_line, undelivered_line, referrals_text, stand_line, target_text}
use Rattle.lab_route.proofs.route_laws.ways_are_told_so.Goals as goal

pub returns : goal.returns
unfolding stand_line way_chips_text referrals_text delivery_line undelivered_line target_text digits
returns c = record {
  crossed = refl;
  referred = refl;
  stayed = refl;
  behind = refl;
  cut = refl;
  unfetched = refl;
  second = refl;
  delivered = refl;
  stands = refl;
}
