use Rattle.std.proofs.Common.{refl}
use Rattle.lab_args.proofs.laws.lines_are_refused.Goals as goal

pub returns : goal.returns
returns c = record {
  no_words = refl;
  name_alone = refl;
  unknown = refl;
  help = refl;
  short_help = refl;
  version = refl;
  version_of_a_command = refl;
  help_and_more = refl;
  few = refl;
  option_for_a_file = refl;
  option_for_an_image = refl;
  rows_without_image = refl;
  messages_without_program = refl;
  address_first = refl;
  length = refl;
  wide = refl;
  range = refl;
  flag = refl;
  wide_picture = refl;
  no_scale = refl;
  scale = refl;
  palette = refl;
  palette_alone = refl;
  chip_first = refl;
  proc = refl;
  n_first = refl;
  dim = refl;
  wire_of_a_load = refl;
  drawn = refl;
  rate = refl;
  no_rate = refl;
  pattern = refl;
  background = refl;
  pattern_and_places = refl;
  table = refl;
  option_alone = refl;
  no_command = refl;
  no_command_of_help = refl;
  known_options = refl;
  unknown_option = refl;
  rule_twice = refl;
  cut_twice = refl;
}
