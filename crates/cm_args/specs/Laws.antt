-- Lines as one types them: what each of some asks for, and that others ask for nothing. Ours.
use Rattle.std.specs.Prelude.{◌≡◌, ◌==◌, List, [], codes, Some, None, String, string_bytes}
use Rattle.std.specs.List.{slice_split}
use Rattle.std.specs.declared.alloc.Global.{Global}
use Rattle.clap.specs.Walk.{Text}
use Rattle.cm_args.specs.declared.line.Line.TheVariants as line
use Rattle.cm_args.specs.Lines.{AsksFor, IsBadLine}
use Prim.Native.String.{String as Typed}

-- the words of a line in which one space stands between two words
abbrev pub typed : Typed → List Text
typed line = slice_split (λ byte. byte == 32) (codes line)

-- each text of these characters is so
abbrev pub EachText : Typed → (String Global → Type 0) → Type 0
EachText characters IsSo = (text : String Global) → string_bytes text ≡ codes characters → IsSo text

-- these lines ask for these things
pub record LinesAskFor : Type 0 where
  pub chip : AsksFor (typed "cm1 chip") line.Chip
  pub lone_dashes : AsksFor (typed "cm1 chip --") line.Chip
  pub list : EachText "sums.txt" (λ program. AsksFor (typed "cm1 list sums.txt") (line.List program))
  pub fresh : EachText "blank.image" (λ file. AsksFor (typed "cm1 fresh 12 7 blank.image") (line.Fresh 12 7 file))
  pub run : EachText "a.image" (λ image. EachText "sums.txt" (λ program.
      AsksFor (typed "cm1 run a.image sums.txt") (line.Run image program 0 1 None)))
  pub run_with_out : EachText "a.image" (λ image. EachText "sums.txt" (λ program. EachText "b.image" (λ out.
      AsksFor (typed "cm1 run a.image sums.txt --out b.image") (line.Run image program 0 1 (Some out)))))
  pub run_with_out_first : EachText "a.image" (λ image. EachText "sums.txt" (λ program. EachText "b.image" (λ out.
      AsksFor (typed "cm1 run --out=b.image a.image sums.txt") (line.Run image program 0 1 (Some out)))))
  pub run_with_split : EachText "a.image" (λ image. EachText "sums.txt" (λ program.
      AsksFor (typed "cm1 run a.image sums.txt --split 6") (line.Run image program 6 1 None)))
  pub run_with_workers : EachText "a.image" (λ image. EachText "sums.txt" (λ program.
      AsksFor (typed "cm1 run --split=2 --workers 64 a.image sums.txt") (line.Run image program 2 64 None)))
  pub weave : EachText "a.image" (λ image. EachText "sums.txt" (λ program.
      AsksFor (typed "cm1 weave a.image sums.txt") (line.Weave image program None 0 None)))
  pub weave_with_steps : EachText "a.image" (λ image. EachText "sums.txt" (λ program. EachText "steps.txt" (λ steps.
      EachText "b.image" (λ out. AsksFor (typed "cm1 weave a.image sums.txt --split 1 steps.txt --out=b.image")
      (line.Weave image program (Some steps) 1 (Some out))))))

-- these lines ask for nothing
pub record BadLinesAskForNothing : Type 0 where
  pub help : IsBadLine (typed "cm1 help")
  pub help_flag : IsBadLine (typed "cm1 --help")
  pub short_help_flag : IsBadLine (typed "cm1 -h")
  pub help_of_chip : IsBadLine (typed "cm1 chip --help")
  pub version_flag : IsBadLine (typed "cm1 --version")
  pub short_version_flag : IsBadLine (typed "cm1 -V")
  pub name_alone : IsBadLine (typed "cm1")
  pub no_words : IsBadLine []
  pub unknown : IsBadLine (typed "cm1 ship")
  pub operand : IsBadLine (typed "cm1 chip 3")
  pub option : IsBadLine (typed "cm1 chip --out")
  pub no_program : IsBadLine (typed "cm1 list")
  pub two_programs : IsBadLine (typed "cm1 list sums.txt more.txt")
  pub option_of_list : IsBadLine (typed "cm1 list sums.txt --out")
  pub run_without_program : IsBadLine (typed "cm1 run a.image")
  pub run_of_three : IsBadLine (typed "cm1 run a.image sums.txt more.txt")
  pub unknown_option_of_run : IsBadLine (typed "cm1 run a.image sums.txt --steps 4")
  pub out_without_file : IsBadLine (typed "cm1 run a.image sums.txt --out")
  pub out_twice : IsBadLine (typed "cm1 run a.image sums.txt --out=b --out=c")
  pub split_above_6 : IsBadLine (typed "cm1 run a.image sums.txt --split 7")
  pub split_that_is_no_number : IsBadLine (typed "cm1 run a.image sums.txt --split two")
  pub split_without_number : IsBadLine (typed "cm1 run a.image sums.txt --split")
  pub split_twice : IsBadLine (typed "cm1 run a.image sums.txt --split=1 --split=2")
  pub no_workers : IsBadLine (typed "cm1 run a.image sums.txt --workers 0")
  pub workers_above_64 : IsBadLine (typed "cm1 run a.image sums.txt --workers 65")
  pub workers_twice : IsBadLine (typed "cm1 run a.image sums.txt --workers=1 --workers=2")
  pub weave_without_program : IsBadLine (typed "cm1 weave a.image")
  pub weave_of_four : IsBadLine (typed "cm1 weave a.image sums.txt steps.txt more.txt")
  pub weave_with_workers : IsBadLine (typed "cm1 weave a.image sums.txt --workers 1")
  pub weave_cut_seven_times : IsBadLine (typed "cm1 weave a.image sums.txt --split 7")
