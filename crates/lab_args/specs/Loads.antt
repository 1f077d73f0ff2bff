-- What the words behind `load` ask for: ours.
use Rattle.std.specs.Prelude.{◌^◌, ◌&&◌, Bool, if◌then◌else◌, Some, None, Result, Ok, Err, List, [], ◌∷◌, ◌++◌, codes}
use Rattle.std.specs.Prelude.{bytes_eq}
use Rattle.std.specs.List.{list_any}
use Rattle.lab_load.specs.declared.trials.Trial.{Trial}
use Rattle.lab_load.specs.declared.offers.Pattern.TheVariants as pattern
use Rattle.lab_load.specs.declared.trials.LoadTable.TheVariants as load_table
use Rattle.lab_args.specs.declared.operands.Operand.TheVariants as operand
use Rattle.lab_args.specs.Refusals.{Text, Refusal, Words, ◌>>=◌}
use Rattle.lab_args.specs.Operands.{operand_below, pattern_named, table_named}
use Rattle.lab_args.specs.Rates.{rates}
use Rattle.lab_args.specs.Requests.{LoadsAsked}
use Rattle.lab_args.specs.Blanks.{wire_named}

-- the load with what an option says, by the word behind it
abbrev pub with_option : Trial → Text → Text → Result Trial Refusal
with_option trial option word =
    if bytes_eq option (codes "--rule")
    then operand_below (2 ^ 16) operand.Rule word >>= (λ rule. Ok (record trial { rule = rule }))
    else (if bytes_eq option (codes "--pattern")
    then pattern_named word >>= (λ pattern. Ok (record trial { pattern = pattern }))
    else (if bytes_eq option (codes "--background")
    then operand_below (2 ^ 16) operand.Background word >>= (λ share. Ok (record trial { background = share }))
    else (if bytes_eq option (codes "--until")
    then operand_below (2 ^ 32) operand.Until word >>= (λ until. Ok (record trial { until = until }))
    else (if bytes_eq option (codes "--skip")
    then operand_below (2 ^ 32) operand.Skip word >>= (λ skip. Ok (record trial { skip = skip }))
    else (if bytes_eq option (codes "--seeds")
    then operand_below (2 ^ 16) operand.Seeds word >>= (λ seeds. Ok (record trial { seeds = seeds }))
    else (if bytes_eq option (codes "--table")
    then table_named word >>= (λ table. Ok (record trial { table = table }))
    else (if bytes_eq option (codes "--seed")
    then operand_below (2 ^ 64) operand.Seed word >>= (λ seed. Ok (record trial { seed = seed }))
    else Err Words)))))))

-- the same, or so many wires that are to be drawn, or the file with the places to which messages go
abbrev pub with_choice : LoadsAsked → Text → Text → Result LoadsAsked Refusal
with_choice loads option word =
    if bytes_eq option (codes "--cut-random")
    then operand_below (2 ^ 16) operand.Count word >>= (λ count. Ok (record loads { drawn = count }))
    else (if bytes_eq option (codes "--places")
    then Ok (record loads { trial = record loads.trial { pattern = pattern.Own }; places = Some word })
    else with_option loads.trial option word >>= (λ trial. Ok (record loads { trial = trial })))

-- the loads after an option `--cut`, whose wire is added to those that are cut
abbrev pub load_with_cut : LoadsAsked → Text → Text → Result LoadsAsked Refusal
load_with_cut loads chip dim =
    wire_named chip dim >>= λ wire. Ok (record loads { cuts = loads.cuts ++ wire ∷ [] })

-- the loads with what all options say, `--cut CHIP DIM` and others with a word each
abbrev pub with_options : LoadsAsked → List Text → Result LoadsAsked Refusal
with_options loads [] = Ok loads
with_options loads (option ∷ []) = Err Words
with_options loads (option ∷ word ∷ []) =
    if bytes_eq option (codes "--cut") then Err Words else with_choice loads option word
with_options loads (option ∷ word ∷ next ∷ after) =
    if bytes_eq option (codes "--cut") then load_with_cut loads word next >>= (λ cut. with_options cut after)
    else with_choice loads option word >>= (λ changed. with_options changed (next ∷ after))

-- a pattern is said, and places too
abbrev pub says_both : List Text → Bool
says_both options =
    list_any (λ other. bytes_eq other (codes "--pattern")) options
    && list_any (λ other. bytes_eq other (codes "--places")) options

-- `load`: N CAP RATE,.. CYCLES, and options, with a pattern or with places
abbrev pub load : Text → Text → Text → Text → List Text → Result LoadsAsked Refusal
load n room rates' cycles options =
    if says_both options then Err Words
    else operand_below (2 ^ 16) operand.N n >>= λ n'. operand_below (2 ^ 16) operand.Cap room >>= λ room'.
    rates rates' >>= λ offered. operand_below (2 ^ 32) operand.Cycles cycles >>= λ cycles'.
    with_options (record {
      trial = record {
        n = n';
        room = room';
        rule = 0;
        pattern = pattern.Uniform;
        background = 0;
        until = cycles';
        seed = 1;
        cycles = cycles';
        skip = 0;
        seeds = 1;
        table = load_table.Plain;
      };
      cuts = [];
      drawn = 0;
      rates = offered;
      places = None;
    }) options
