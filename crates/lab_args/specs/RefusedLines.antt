-- Command lines as one types them, and why they ask for nothing. Ours.
use Rattle.std.specs.Prelude.{◌≡◌, [], codes, false, None, Some, Err}
use Rattle.cm_bits.specs.declared.field.FieldFault.TheVariants as range
use Rattle.lab_args.specs.declared.operands.Operand.TheVariants as operand
use Rattle.lab_args.specs.Refusals.{Field, Help, Version, Wanted, Words}
use Rattle.lab_args.specs.Commands.{given_twice, is_command, unknown_option}
use Rattle.cm_bits.specs.Text.{words_in}
use Rattle.lab_args.specs.AskingLines.{typed_request}

-- these lines ask for nothing, and for these faults
pub record LinesAreRefused : Type 0 where
  pub no_words : typed_request "" ≡ Err Words
  pub name_alone : typed_request "cm1lab" ≡ Err Words
  pub unknown : typed_request "cm1lab pictur a.image" ≡ Err Words
  pub help : typed_request "cm1lab --help" ≡ Err Help
  pub short_help : typed_request "cm1lab -h" ≡ Err Help
  pub version : typed_request "cm1lab --version" ≡ Err Version
  pub version_of_a_command : typed_request "cm1lab --version get" ≡ Err Version
  pub help_and_more : typed_request "cm1lab help get" ≡ Err Help
  pub few : typed_request "cm1lab get a.image 0" ≡ Err Words
  pub option_for_a_file : typed_request "cm1lab fresh 4 7 --rule" ≡ Err Words
  pub option_for_an_image : typed_request "cm1lab put a.image 0 8 --rows" ≡ Err Words
  pub rows_without_image : typed_request "cm1lab put --rows 0 8 b.image" ≡ Err Words
  pub messages_without_program : typed_request "cm1lab study --messages a.image" ≡ Err Words
  pub address_first : typed_request "cm1lab get a.image x 0x8" ≡ Err (Wanted operand.Address (codes "x"))
  pub length : typed_request "cm1lab get a.image 0 0x8" ≡ Err (Wanted operand.Length (codes "0x8"))
  pub wide : typed_request "cm1lab get a.image 0 65" ≡ Err (Field range.Width)
  pub range : typed_request "cm1lab get a.image 4090 8" ≡ Err (Field range.Range)
  pub flag : typed_request "cm1lab rows a.image flag 16" ≡ Err (Wanted operand.Flag (codes "16"))
  pub wide_picture : typed_request "cm1lab picture a.image 0 17" ≡ Err (Wanted operand.Depth (codes "17"))
  pub no_scale : typed_request "cm1lab picture --scale 0 a.image buffers" ≡ Err (Wanted operand.Scale (codes "0"))
  pub scale : typed_request "cm1lab picture --png --scale 65 a.image buffers" ≡ Err (Wanted operand.Scale (codes "65"))
  pub palette : typed_request "cm1lab picture --palette red a.image buffers"
      ≡ Err (Wanted operand.Palette (codes "red"))
  pub palette_alone : typed_request "cm1lab picture a.image buffers --palette heat" ≡ Err Words
  pub chip_first : typed_request "cm1lab route a.image p.txt c 16 -1" ≡ Err (Wanted operand.Chip (codes "c"))
  pub proc : typed_request "cm1lab route a.image p.txt 0 16 -1" ≡ Err (Wanted operand.Proc (codes "16"))
  pub n_first : typed_request "cm1lab fresh n x a.image" ≡ Err (Wanted operand.N (codes "n"))
  pub dim : typed_request "cm1lab fresh 4 7 --cut 0 d a.image" ≡ Err (Wanted operand.Dim (codes "d"))
  pub wire_of_a_load : typed_request "cm1lab load 4 7 1 10 --cut 0" ≡ Err Words
  pub drawn : typed_request "cm1lab fresh 4 7 --cut-random a.image" ≡ Err (Wanted operand.Count (codes "a.image"))
  pub rate : typed_request "cm1lab load 4 7 1,0.125 x" ≡ Err (Wanted operand.Rate (codes "0.125"))
  pub no_rate : typed_request "cm1lab load 4 7 1,,2 10" ≡ Err (Wanted operand.Rate [])
  pub pattern : typed_request "cm1lab load 4 7 1 10 --pattern spots" ≡ Err (Wanted operand.Pattern (codes "spots"))
  pub background : typed_request "cm1lab load 4 7 1 10 --background x" ≡ Err (Wanted operand.Background (codes "x"))
  pub pattern_and_places : typed_request "cm1lab load 4 7 1 10 --places own.txt --pattern uniform" ≡ Err Words
  pub table : typed_request "cm1lab load 4 7 1 10 --table plain" ≡ Err (Wanted operand.Table (codes "plain"))
  pub option_alone : typed_request "cm1lab load 4 7 1 10 --seed" ≡ Err Words
  pub no_command : is_command (codes "pictur") ≡ false
  pub no_command_of_help : is_command (codes "help") ≡ false
  pub known_options : unknown_option (codes "load") (words_in (codes "4 --until --seed")) ≡ None
  pub unknown_option : unknown_option (codes "put") (words_in (codes "--rows --row a.image --png"))
      ≡ Some (codes "--row")
  pub rule_twice : given_twice (words_in (codes "cm1lab fresh 4 7 --rule 0 --rule 1 a.image")) ≡ Some (codes "--rule")
  pub cut_twice : given_twice (words_in (codes "cm1lab fresh 4 7 --cut 0 1 --cut 0 1 a.image")) ≡ None
