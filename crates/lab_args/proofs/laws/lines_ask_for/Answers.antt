use Rattle.std.proofs.Common.{refl}
use Rattle.lab_args.proofs.laws.lines_ask_for.Goals as goal

pub returns : goal.returns
returns c = record {
  get = refl;
  rows = refl;
  put = refl;
  put_rows = refl;
  picture = refl;
  plain_picture = refl;
  png = refl;
  picture_for_a_slide = refl;
  last_format = refl;
  paint = refl;
  study = refl;
  study_messages = refl;
  route = refl;
  study_repeats = refl;
  study_room = refl;
  route_part = refl;
  front = refl;
  front_out = refl;
  front_out_first = refl;
  expand = refl;
  fresh = refl;
  fresh_with_cuts = refl;
  load = refl;
  load_with_options = refl;
  load_with_places = refl;
  plot = refl;
  plot_part = refl;
  plot_file = refl;
}
