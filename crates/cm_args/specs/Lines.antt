-- The command line, as clap reads it: the program's name, a subcommand, its arguments; ours.
use Rattle.std.specs.Prelude.{◌≡◌, ℕ, ◌≤◌, ◌⊎◌, List, [], ◌∷◌, ◌++◌, map, Option, Some, None, option_map, IsSomeAnd}
use Rattle.std.specs.Prelude.{codes, string_bytes, true, false}
use Rattle.std.specs.Str.Parse.{IsNumeral, digits_value, without_leading_plus}
use Rattle.clap.specs.Walk.{Row, Rule, Text, first_of}
use Rattle.clap.specs.Simple.{App, Shape, new_app, new_rule, on_top, subcommand_of, subcommand_rows_of}
use Rattle.clap.specs.Simple.{with_rule, with_subcommand}
use Rattle.clap.specs.Faults.{fault_of}
use Rattle.clap.specs.declared.builder.arg.Arg.{Arg}
use Rattle.clap.specs.declared.builder.command.Command.{Command}
use Rattle.clap.specs.declared.parser.matches.ArgMatches.{ArgMatches}
use Rattle.clap.specs.declared.builder.command.Command.TheViews.{out-Command as fields_of}
use Rattle.cm_args.specs.declared.app.ArgKind.{ArgKind}
use Rattle.cm_args.specs.declared.app.ArgKind.TheVariants as kind
use Rattle.cm_args.specs.declared.line.Line.{Line}
use Rattle.cm_args.specs.declared.line.Line.TheVariants as line

-- the command with no flag for help
abbrev pub without_help_flag : App → App
without_help_flag = on_top (λ (s : Shape). record s { disable_help_flag = true })

-- an operand that must stand there
abbrev pub required_operand : Text → Rule
required_operand name = record (new_rule name) { required = true }

-- an operand that may stand there
abbrev pub optional_operand : Text → Rule
optional_operand name = new_rule name

-- an option `--name VALUE` or `--name=VALUE`, which may stand there, once
abbrev pub option_with_value : Text → Rule
option_with_value name = record (new_rule name) { long = Some name }

-- the argument of this kind and this name
abbrev pub rule_of_kind : ArgKind → Text → Rule
rule_of_kind kind.Operand = required_operand
rule_of_kind kind.Further = optional_operand
rule_of_kind kind.Valued = option_with_value

-- these operands, these that may stand behind them, and these options
abbrev pub rules_of_leaf : List Text → List Text → List Text → List Rule
rules_of_leaf operands further options =
    (map required_operand operands ++ map optional_operand further) ++ map option_with_value options

-- the command with these arguments more, in turn
abbrev pub with_rules : App → List Rule → App
with_rules app [] = app
with_rules app (rule ∷ rules) = with_rules (with_rule app rule) rules

-- a subcommand of this name, with these operands, these that may stand behind them, and these options
abbrev pub leaf_app : Text → List Text → List Text → List Text → App
leaf_app name operands further options =
    with_rules (without_help_flag (new_app name)) (rules_of_leaf operands further options)

-- the subcommand `chip`, which has no operands and no options
abbrev pub chip_app : App
chip_app = leaf_app (codes "chip") [] [] []

-- the subcommand `list`, whose one operand is a program's file
abbrev pub list_app : App
list_app = leaf_app (codes "list") (codes "program" ∷ []) [] []

-- the subcommand `fresh`, whose operands are a dimension, a room and a file
abbrev pub fresh_app : App
fresh_app = leaf_app (codes "fresh") (codes "n" ∷ codes "cap" ∷ codes "file" ∷ []) [] []

-- the subcommand `run`, whose operands are the files of an image and of a program, and whose options are two numbers
-- and a file
abbrev pub run_app : App
run_app =
    leaf_app (codes "run") (codes "image" ∷ codes "program" ∷ []) []
    (codes "split" ∷ codes "workers" ∷ codes "out" ∷ [])

-- the subcommand `weave`, whose operands are the files of an image, of a program and, if it is there, of steps, and
-- whose options are a number and a file
abbrev pub weave_app : App
weave_app =
    leaf_app (codes "weave") (codes "image" ∷ codes "program" ∷ []) (codes "steps" ∷ [])
    (codes "split" ∷ codes "out" ∷ [])

-- the program before it has a subcommand: it asks for one, and has none for help
abbrev pub bare_app : App
bare_app = on_top
    (λ (s : Shape). record s { disable_help_subcommand = true; subcommand_required = true })
    (without_help_flag (new_app (codes "cm1")))

-- the command with these subcommands more, in turn
abbrev pub with_subcommands : App → List Shape → App
with_subcommands app [] = app
with_subcommands app (leaf ∷ leaves) = with_subcommands (with_subcommand app leaf) leaves

-- the program, with each of its subcommands
abbrev pub program_app : App
program_app =
    with_subcommands bare_app (chip_app.top ∷ list_app.top ∷ fresh_app.top ∷ run_app.top ∷ weave_app.top ∷ [])

-- a command with no argument that counts for its subcommands too
abbrev pub IsLocal : Command → Type 0
IsLocal command = (fields_of command).has_globals ≡ false

-- an argument that counts for its own command alone
abbrev pub IsLocalArg : Arg → Type 0
IsLocalArg argument = argument.global ≡ false

-- clap finds no fault in the words, of which the first is the program's name
abbrev pub IsTaken : List Text → Type 0
IsTaken words = fault_of program_app words ≡ []

-- clap finds no fault in the words, and this in them
pub record IsRead (words : List Text) (found : ArgMatches) : Type 0 where
  pub taken : IsTaken words
  pub subcommand : subcommand_rows_of found ≡ subcommand_of program_app words

-- the number that stands for an operand, in plain decimal and within its range; a plus may stand before its digits
pub record IsNumberOperand (name : Text) (found : List Row) (least most number : ℕ) : Type 0 where
  pub text : Text
  pub given : first_of name found ≡ Some text
  pub digits : IsNumeral 10 (without_leading_plus text)
  pub value : digits_value 10 (without_leading_plus text) ≡ number
  pub not_less : least ≤ number
  pub not_more : number ≤ most

-- the number that an option gives, or that it stands for where it is left out
abbrev pub IsNumberOption : Text → List Row → ℕ → ℕ → ℕ → ℕ → Type 0
IsNumberOption name found least most usual number =
    ((first_of name found ≡ None) × (number ≡ usual)) ⊎ IsNumberOperand name found least most number

-- a dimension, a room and a file's name stand for the operands of `fresh`
pub record IsFreshLine (n cap : ℕ) (file : Text) (found : List Row) : Type 0 where
  pub dimension : IsNumberOperand (codes "n") found 0 12 n
  pub room : IsNumberOperand (codes "cap") found 1 15 cap
  pub named : first_of (codes "file") found ≡ Some file

-- the names of an image's file and of a program's file stand for the operands of `run`; two numbers, and this name, if
-- any, for its options
pub record IsRunLine (image program : List ℕ) (split workers : ℕ) (out : Option (List ℕ)) (found : List Row)
    : Type 0 where
  pub start : first_of (codes "image") found ≡ Some image
  pub text : first_of (codes "program") found ≡ Some program
  pub cuts : IsNumberOption (codes "split") found 0 6 0 split
  pub crew : IsNumberOption (codes "workers") found 1 64 1 workers
  pub left : first_of (codes "out") found ≡ out

-- the names of an image's file, of a program's file and, if it is there, of a file of steps stand for the operands of
-- `weave`; a number, and this name, if any, for its options
pub record IsWeaveLine (image program : List ℕ) (steps : Option (List ℕ)) (split : ℕ) (out : Option (List ℕ))
    (found : List Row) : Type 0 where
  pub start : first_of (codes "image") found ≡ Some image
  pub text : first_of (codes "program") found ≡ Some program
  pub moves : first_of (codes "steps") found ≡ steps
  pub cuts : IsNumberOption (codes "split") found 0 6 0 split
  pub left : first_of (codes "out") found ≡ out

-- the line is the subcommand of this name, with what was found for its arguments
abbrev pub IsLine : Line → Text × List Row → Type 0
IsLine line.Chip found = found.0 ≡ codes "chip"
IsLine (line.List program) found =
    (found.0 ≡ codes "list") × (first_of (codes "program") found.1 ≡ Some (string_bytes program))
IsLine (line.Fresh n cap file) found = (found.0 ≡ codes "fresh") × IsFreshLine n cap (string_bytes file) found.1
IsLine (line.Run image program split workers out) found =
    (found.0 ≡ codes "run")
    × IsRunLine (string_bytes image) (string_bytes program) split workers (option_map string_bytes out) found.1
IsLine (line.Weave image program steps split out) found =
    (found.0 ≡ codes "weave")
    × IsWeaveLine (string_bytes image) (string_bytes program) (option_map string_bytes steps) split
    (option_map string_bytes out) found.1

-- the words are taken, and the line is the subcommand that clap reads in them
pub record AsksFor (words : List Text) (line : Line) : Type 0 where
  pub taken : IsTaken words
  pub subcommand : IsSomeAnd (subcommand_of program_app words) (IsLine line)

-- the words ask for no line
abbrev pub IsBadLine : List Text → Type 0
IsBadLine words = (line : Line) → ¬ AsksFor words line
