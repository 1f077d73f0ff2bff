-- What is counted in one petit cycle, and in many.
use Rattle.std.proofs.Common.{◌≡◌, ℕ, suc, ◌+◌, ◌-◌, ◌≤◌, ap, ◌∙◌, arith}
use Rattle.cm_model.specs.Machine.{Machine}
use Rattle.lab_counts.specs.declared.counts.Counts.{Counts}
use Rattle.lab_load.specs.declared.offers.Load.{Load}
use Rattle.lab_load.specs.Loaded.{Loaded, after_one, after_cycles, untold}
use Rattle.lab_counts.specs.Counts.{with_crossed}
use Rattle.lab_load.specs.Counted.{asked_machine, is_quiet, with_quiet, counts_after, counts_after_cycles}

-- one petit cycle: its crossings, and whether it left nothing
pub counted_once : (n cap : ℕ) (load : Load) (before after : Loaded) (machine : Machine) (was now last : Counts)
    → n ≡ load.dims → machine ≡ asked_machine load before → after ≡ after_one cap load before
    → now ≡ with_crossed n cap machine was
    → last ≡ with_quiet (is_quiet after.machine.chips after.machine.buffers after.sources) now
    → last ≡ counts_after cap load before was
counted_once n cap load before after machine was now last dims asks goes crosses quiets =
    quiets
    ∙ ((λ i. with_quiet (is_quiet (goes i).machine.chips (goes i).machine.buffers (goes i).sources) (crosses i))
    ∙ (λ i. with_quiet
    (is_quiet (after_one cap load before).machine.chips (after_one cap load before).machine.buffers
    (after_one cap load before).sources)
    (with_crossed (dims i) cap (asks i) was)))

pub none_counted : (cap : ℕ) (load : Load) (first : Loaded) (counts : Counts) (t : ℕ)
    → counts ≡ counts_after_cycles cap load first counts (t - t)
unfolding counts_after_cycles
none_counted cap load first counts t =
    let none : 0 ≡ t - t = omega arith in ap (λ (k : ℕ). counts_after_cycles cap load first counts k) none

pub one_more_counted : (cap : ℕ) (load : Load) (first now : Loaded) (counts was next : Counts) (from t : ℕ) → from ≤ t
    → now ≡ after_cycles cap load first (t - from) → was ≡ counts_after_cycles cap load first counts (t - from)
    → next ≡ counts_after cap load now was → next ≡ counts_after_cycles cap load first counts (t + 1 - from)
unfolding counts_after_cycles
one_more_counted cap load first now counts was next from t order before counted is =
    let count : suc (t - from) ≡ t + 1 - from = omega (arith, order) in
    is
    ∙ ((λ i. counts_after cap load (before i) (counted i))
    ∙ ap (λ (k : ℕ). counts_after_cycles cap load first counts k) count)

-- a machine that goes on, of which what was told is left out, and that goes on and is counted
pub counted_anew : (cap : ℕ) (load : Load) (skip cycles : ℕ) (blank begun first anew : Loaded) (none counts last : Counts)
    → begun ≡ blank → first ≡ after_cycles cap load begun (skip - 0) → anew ≡ untold first → counts ≡ none
    → last ≡ counts_after_cycles cap load anew counts (cycles - skip)
    → last ≡ counts_after_cycles cap load (untold (after_cycles cap load blank skip)) none (cycles - skip)
counted_anew cap load skip cycles blank begun first anew none counts last begins goes forgets starts ends =
    let all : skip - 0 ≡ skip = omega arith in
    ends
    ∙ (λ i. counts_after_cycles cap load
    ((forgets ∙ ap untold (goes ∙ (λ j. after_cycles cap load (begins j) (all j)))) i) (starts i) (cycles - skip))
