-- The chips of a machine of one, instruction after instruction.
use Rattle.std.proofs.Common.{◌≡◌, ℕ, ◌+◌, ◌<◌, List, [], ◌∷◌, ◌++◌, length, map, take, get_or, sym, ap, ◌∙◌}
use Rattle.std.proofs.lemmas.List.{map-append, take_more}
use Rattle.cm_model.specs.declared.act.Nano.{Nano as Instruction}
use Rattle.cm_model.specs.declared.act.Act.TheVariants.{Nano}
use Rattle.cm_model.specs.Each.{tabulate}
use Rattle.cm_model.specs.Chip.{blank_chip}
use Rattle.cm_model.specs.Array.{Chips, chip_at, after_nano}
use Rattle.cm_model.specs.Machine.{Machine, blank_machine, run_of, opened, closed}
use Rattle.cm_model.proofs.Runs.{run_of_more}
use Rattle.cm_tools.specs.Session.{chip_left}

-- the chips of the machine after the first so many instructions
abbrev pub chips_after : List Instruction → ℕ → Chips
chips_after nanos count = (run_of 0 7 (blank_machine 0) (map Nano (take count nanos))).chips

pub run-begun : (run : Chips) (nanos : List Instruction) → run ≡ tabulate 0 1 (λ c. blank_chip)
    → run ≡ chips_after nanos 0
unfolding run_of blank_machine tabulate opened closed
run-begun run nanos blank = blank

-- one instruction more
pub run-more : (run next : Chips) (nanos : List Instruction) (count : ℕ) (nano : Instruction) → count < length nanos
    → nano ≡ get_or nanos count nano → run ≡ chips_after nanos count → next ≡ after_nano 0 nano run
    → next ≡ chips_after nanos (count + 1)
run-more run next nanos count nano below is before step =
    let more : map Nano (take (count + 1) nanos) ≡ map Nano (take count nanos) ++ Nano nano ∷ [] =
    ap (map Nano) (take_more nanos count nano below ∙ ap (λ (v : Instruction). take count nanos ++ v ∷ []) (sym is))
    ∙ map-append Nano (take count nanos) (nano ∷ []) in
    step ∙ ap (after_nano 0 nano) before
    ∙ sym (ap (λ (m : Machine). m.chips) (ap (run_of 0 7 (blank_machine 0)) more
    ∙ run_of_more 0 7 (blank_machine 0) (map Nano (take count nanos)) (Nano nano)))

-- there is one
pub one_more : (next run : Chips) (nano : Instruction) → next ≡ after_nano 0 nano run → length next ≡ 1
unfolding after_nano tabulate
one_more next run nano is = ap length is

-- after all of them
pub run-ended : (run : Chips) (nanos : List Instruction) (count : ℕ) → take count nanos ≡ nanos
    → run ≡ chips_after nanos count → chip_at run 0 ≡ chip_left nanos
unfolding chip_left
run-ended run nanos count all is =
    ap (λ (chips : Chips). chip_at chips 0)
    (is ∙ ap (λ (xs : List Instruction). (run_of 0 7 (blank_machine 0) (map Nano xs)).chips) all)
