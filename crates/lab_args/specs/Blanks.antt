-- What the words behind `fresh` ask for: ours.
use Rattle.std.specs.Prelude.{◌^◌, if◌then◌else◌, Result, Ok, Err, List, [], ◌∷◌, ◌++◌, codes, bytes_eq}
use Rattle.lab_fresh.specs.declared.blanks.WireEnd.{WireEnd}
use Rattle.lab_args.specs.declared.operands.Operand.TheVariants as operand
use Rattle.lab_args.specs.Refusals.{Text, Refusal, Words, ◌>>=◌}
use Rattle.lab_args.specs.Operands.{file_named, operand_below}
use Rattle.lab_args.specs.Requests.{BlankAsked}

-- a wire by the words for its chip and its dimension
abbrev pub wire_named : Text → Text → Result WireEnd Refusal
wire_named chip dim =
    operand_below (2 ^ 16) operand.Chip chip >>= λ chip'. operand_below (2 ^ 16) operand.Dim dim >>= λ dim'.
    Ok (record { chip = chip'; dim = dim' })

-- the machine after an option `--cut`, whose wire is added to those that are cut
abbrev pub blank_with_cut : BlankAsked → Text → Text → Result BlankAsked Refusal
blank_with_cut machine chip dim =
    wire_named chip dim >>= λ wire. Ok (record machine { cuts = machine.cuts ++ wire ∷ [] })

-- the machine with what an option says, by the word behind it
abbrev pub with_choice : BlankAsked → Text → Text → Result BlankAsked Refusal
with_choice machine option word =
    if bytes_eq option (codes "--rule")
    then operand_below (2 ^ 16) operand.Rule word >>= (λ rule. Ok (record machine { rule = rule }))
    else (if bytes_eq option (codes "--cut-random")
    then operand_below (2 ^ 16) operand.Count word >>= (λ count. Ok (record machine { drawn = count }))
    else (if bytes_eq option (codes "--seed")
    then operand_below (2 ^ 64) operand.Seed word >>= (λ seed. Ok (record machine { seed = seed }))
    else Err Words))

-- the machine with what the options say, `--cut CHIP DIM` and others with a word each, and the file behind them
abbrev pub with_ends : BlankAsked → List Text → Result BlankAsked Refusal
with_ends machine [] = Err Words
with_ends machine (out ∷ []) = file_named out >>= λ file. Ok (record machine { out = file })
with_ends machine (option ∷ word ∷ []) =
    if bytes_eq option (codes "--cut") then Err Words else with_choice machine option word >>= (λ changed. Err Words)
with_ends machine (option ∷ word ∷ next ∷ after) =
    if bytes_eq option (codes "--cut") then blank_with_cut machine word next >>= (λ cut. with_ends cut after)
    else with_choice machine option word >>= (λ changed. with_ends changed (next ∷ after))

-- `fresh`: N CAP, options, and the file
abbrev pub blank : Text → Text → List Text → Result BlankAsked Refusal
blank n room words =
    operand_below (2 ^ 16) operand.N n >>= λ n'. operand_below (2 ^ 16) operand.Cap room >>= λ room'.
    with_ends (record { n = n'; room = room'; cuts = []; drawn = 0; seed = 1; rule = 0; out = [] }) words
