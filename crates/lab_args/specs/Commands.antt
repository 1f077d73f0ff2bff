-- What the words of a command line ask for: ours.
use Rattle.std.specs.Prelude.{◌≡◌, ◌≢◌, ◌⊎◌, ◌-◌, ◌^◌, ◌&&◌, ◌||◌, Bool, false, not, MatchOption, if◌then◌else◌, Option}
use Rattle.std.specs.Prelude.{Some, None, Result, Ok, Err}
use Rattle.std.specs.Prelude.{List, [], ◌∷◌, ◌++◌, codes, bytes_eq}
use Rattle.std.specs.List.{list_any}
use Rattle.std.specs.Bool.{MatchBool}
use Rattle.lab_args.specs.Refusals.{Text, Refusal, Help, Memory, Twice, UnknownCommand, UnknownOption, Usage}
use Rattle.lab_args.specs.Refusals.{Version, Words, ◌>>=◌}
use Rattle.lab_args.specs.Requests.{Do, Expand, Fresh, Front, Load, Plot, Request}
use Rattle.lab_route_plot.specs.declared.legs.Cycles.{Cycles}
use Rattle.lab_args.specs.declared.operands.Operand.TheVariants as operand
use Rattle.lab_args.specs.Operands.{file_named, is_option, operand_below}
use Rattle.lab_args.specs.Tasks.{is_route_setting, is_setting, is_sign, is_table_option, task_of}
use Rattle.lab_args.specs.Blanks.{blank}
use Rattle.lab_args.specs.Loads.{load}
use Rattle.lab_args.specs.Usage.{usage_of}

-- `front`: IMAGE, before or behind which `--out FILE` may stand
abbrev pub fronting : List Text → Result Request Refusal
fronting (image ∷ []) = Ok (Front image None)
fronting (first ∷ second ∷ third ∷ []) =
    if bytes_eq second (codes "--out") then file_named third >>= (λ out. Ok (Front first (Some out)))
    else (if bytes_eq first (codes "--out") then file_named second >>= (λ out. Ok (Front third (Some out)))
    else Err Words)
fronting _ = Err Words

-- `expand`: SOURCE
abbrev pub expanding : List Text → Result Request Refusal
expanding (source ∷ []) = Ok (Expand source)
expanding _ = Err Words

-- `fresh`: N CAP, and what is behind
abbrev pub freshening : List Text → Result Request Refusal
freshening (n ∷ room ∷ rest) = blank n room rest >>= λ machine. Ok (Fresh machine)
freshening _ = Err Words

-- `load`: N CAP RATE,.. CYCLES, and what is behind
abbrev pub loading : List Text → Result Request Refusal
loading (n ∷ room ∷ rates ∷ cycles ∷ options) = load n room rates cycles options >>= λ loads. Ok (Load loads)
loading _ = Err Words

-- the petit cycles with what an option says, by the word behind it
abbrev pub with_bound : Cycles → Text → Text → Result Cycles Refusal
with_bound cycles option word =
    if bytes_eq option (codes "--from")
    then operand_below (2 ^ 64) operand.Bound word >>= (λ from. Ok (record cycles { from = from }))
    else (if bytes_eq option (codes "--to")
    then operand_below (2 ^ 64) operand.Bound word >>= (λ to. Ok (record cycles { to = to }))
    else Err Words)

-- FILE, or nothing, before which options may stand
abbrev pub plotting_of : Cycles → List Text → Result Request Refusal
plotting_of cycles [] = Ok (Plot None cycles)
plotting_of cycles (file ∷ []) = Ok (Plot (Some file) cycles)
plotting_of cycles (option ∷ word ∷ rest) = with_bound cycles option word >>= λ changed. plotting_of changed rest

-- `plot`: the same, of all petit cycles where nothing else is said
abbrev pub plotting : List Text → Result Request Refusal
plotting words = plotting_of (record { from = 0; to = 2 ^ 64 - 1 }) words

-- what the words behind a command's name ask for; behind a call for help or the version they do not matter
abbrev pub request_named : Text → List Text → Result Request Refusal
request_named command words =
    if bytes_eq command (codes "front") then fronting words
    else (if bytes_eq command (codes "expand") then expanding words
    else (if bytes_eq command (codes "fresh") then freshening words
    else (if bytes_eq command (codes "load") then loading words
    else (if bytes_eq command (codes "plot") then plotting words
    else (if bytes_eq command (codes "--help") then Err Help
    else (if bytes_eq command (codes "-h") then Err Help
    else (if bytes_eq command (codes "help") then Err Help
    else (if bytes_eq command (codes "--version") then Err Version
    else task_of command words >>= (λ asked. Ok (Do asked))))))))))

-- what all words ask for, of which the first is the program's name
abbrev pub request_of : List Text → Result Request Refusal
request_of (program ∷ command ∷ words) = request_named command words
request_of _ = Err Words

-- an option that may be given once: wires that are cut may be several
abbrev pub is_single : Text → Bool
is_single word = is_option word && not (bytes_eq word (codes "--cut"))

-- the first of these words that is a single option and stands before it already
abbrev pub repeated : List Text → List Text → Option Text
repeated before [] = None
repeated before (word ∷ words) =
    if is_single word && list_any (λ other. bytes_eq other word) before then Some word
    else repeated (before ++ word ∷ []) words

-- the first option that is given twice
abbrev pub given_twice : List Text → Option Text
given_twice words = repeated [] words

-- the name of a command
abbrev pub is_command : Text → Bool
is_command name =
    list_any (bytes_eq name) (
    codes "get" ∷ codes "rows" ∷ codes "put" ∷ codes "picture" ∷ codes "paint" ∷ codes "study" ∷ codes "route"
    ∷ codes "front" ∷ codes "expand" ∷ codes "fresh" ∷ codes "load" ∷ codes "plot" ∷ [])

-- an option that says of a blank machine which it is
abbrev pub is_fresh_option : Text → Bool
is_fresh_option word =
    bytes_eq word (codes "--cut") || (bytes_eq word (codes "--cut-random") || (bytes_eq word (codes "--seed")
    || bytes_eq word (codes "--rule")))

-- an option of `load`
abbrev pub is_load_option : Text → Bool
is_load_option word =
    is_fresh_option word || (bytes_eq word (codes "--pattern") || (bytes_eq word (codes "--background")
    || (bytes_eq word (codes "--until") || (bytes_eq word (codes "--skip") || (bytes_eq word (codes "--seeds")
    || (bytes_eq word (codes "--table") || bytes_eq word (codes "--places")))))))

-- an option of the command of this name
abbrev pub is_option_of : Text → Text → Bool
is_option_of command word =
    if bytes_eq command (codes "put") then bytes_eq word (codes "--rows")
    else (if bytes_eq command (codes "picture") then is_sign word || is_setting word
    else (if bytes_eq command (codes "study") then is_table_option word || bytes_eq word (codes "--room")
    else (if bytes_eq command (codes "route") then bytes_eq word (codes "--why") || is_route_setting word
    else (if bytes_eq command (codes "front") then bytes_eq word (codes "--out")
    else (if bytes_eq command (codes "fresh") then is_fresh_option word
    else (if bytes_eq command (codes "load") then is_load_option word
    else (if bytes_eq command (codes "plot") then bytes_eq word (codes "--from") || bytes_eq word (codes "--to")
    else false)))))))

-- the first option that a command has not
abbrev pub unknown_option : Text → List Text → Option Text
unknown_option command [] = None
unknown_option command (word ∷ words) =
    if is_option word && not (is_option_of command word) then Some word else unknown_option command words

-- what is told of words that a command does not take: that there is none of its name, or which words it takes, with
-- the first option that it has not
abbrev pub IsExplained : Text → List Text → Refusal → Type 0
IsExplained command words refusal =
    MatchBool (is_command command)
    (MatchOption (unknown_option command words) (refusal ≡ Usage (usage_of command))
    (λ word. refusal ≡ UnknownOption word (usage_of command)))
    (refusal ≡ UnknownCommand command)

-- what is told of words that ask for nothing: they may ask for help beside
abbrev pub Explains : List Text → Refusal → Type 0
Explains (program ∷ command ∷ words) refusal =
    MatchBool (list_any (λ word. bytes_eq word (codes "--help")) words) (refusal ≡ Help)
    (IsExplained command words refusal)
Explains _ refusal = refusal ≡ Words

-- what is told of words that are not read, want of memory apart: an option that is given twice, or else why
abbrev pub Refuses : List Text → Refusal → Type 0
Refuses words refusal =
    (refusal ≡ Memory) ⊎ MatchOption (given_twice words)
    (((request_of words ≡ Err refusal) × (refusal ≢ Words)) ⊎ ((request_of words ≡ Err Words) × Explains words refusal))
    (λ option. refusal ≡ Twice option)
