-- What is counted by chip, in one petit cycle and in many; and that it is the same together as what is counted by dimension.
use Rattle.std.proofs.Common.{◌≡◌, ℕ, zero, suc, ◌+◌, ◌-◌, ◌^◌, ◌≤◌, Bool, true, false, ◌&&◌, min, List, length, refl, sym, ap}
use Rattle.std.proofs.Common.{◌∙◌, if◌then◌else◌, arith}
use Rattle.cm_model.specs.Machine.{Machine}
use Rattle.lab_counts.specs.declared.counts.Counts.{Counts}
use Rattle.lab_counts.specs.declared.crossings.Crossings.{Crossings}
use Rattle.lab_counts.specs.Counts.{with_crossed, chips_crossed}
use Rattle.lab_counts.specs.Crossings.{in_all, crossings_through}
use Rattle.lab_counts.proofs.Together.{chips_through-together, length-chips_through, length-crossings_through}
use Rattle.lab_load.specs.declared.offers.Load.{Load}
use Rattle.lab_load.specs.Loaded.{Loaded, after_one, after_cycles, untold}
use Rattle.lab_load.specs.Counted.{asked_machine, is_quiet, with_quiet, counts_after, counts_after_cycles}
use Rattle.lab_load.specs.Counted.{chips_after_one, chips_after_cycles}

-- ---- one petit cycle and many

-- one petit cycle that is lent what was known
pub chips_once : (n cap : ℕ) (load : Load) (before : Loaded) (machine : Machine) (is_on : Bool)
    (was lent now : List Crossings)
    → n ≡ load.dims → machine ≡ asked_machine load before → lent ≡ was → now ≡ chips_crossed is_on n cap machine lent
    → now ≡ chips_after_one is_on cap load before was
chips_once n cap load before machine is_on was lent now dims asks lends crosses =
    crosses ∙ (λ i. chips_crossed is_on (dims i) cap (asks i) (lends i))

pub no_chips : (is_on : Bool) (cap : ℕ) (load : Load) (first : Loaded) (chips : List Crossings) (t : ℕ)
    → chips ≡ chips_after_cycles is_on cap load first chips (t - t)
unfolding chips_after_cycles
no_chips is_on cap load first chips t =
    let none : 0 ≡ t - t = omega arith in ap (λ (k : ℕ). chips_after_cycles is_on cap load first chips k) none

pub one_more_by_chip : (is_on still_on : Bool) (cap : ℕ) (load : Load) (first now : Loaded)
    (chips was next : List Crossings) (from t : ℕ) → from ≤ t → still_on ≡ is_on
    → now ≡ after_cycles cap load first (t - from) → was ≡ chips_after_cycles is_on cap load first chips (t - from)
    → next ≡ chips_after_one still_on cap load now was → next ≡ chips_after_cycles is_on cap load first chips (t + 1 - from)
unfolding chips_after_cycles
one_more_by_chip is_on still_on cap load first now chips was next from t order on before counted is =
    let count : suc (t - from) ≡ t + 1 - from = omega (arith, order) in
    is
    ∙ ((λ i. chips_after_one (on i) cap load (before i) (counted i))
    ∙ ap (λ (k : ℕ). chips_after_cycles is_on cap load first chips k) count)

-- a machine that goes on, of which what was told is left out, and that goes on and is counted
pub chips_anew : (is_on counting : Bool) (cap : ℕ) (load : Load) (skip cycles : ℕ) (blank begun first anew : Loaded)
    (none chips last : List Crossings)
    → begun ≡ blank → first ≡ after_cycles cap load begun (skip - 0) → anew ≡ untold first → is_on ≡ counting
    → chips ≡ none → last ≡ chips_after_cycles is_on cap load anew chips (cycles - skip)
    → last ≡ chips_after_cycles counting cap load (untold (after_cycles cap load blank skip)) none (cycles - skip)
chips_anew is_on counting cap load skip cycles blank begun first anew none chips last begins goes forgets on starts ends =
    let all : skip - 0 ≡ skip = omega arith in
    ends
    ∙ (λ i. chips_after_cycles (on i) cap load
    ((forgets ∙ ap untold (goes ∙ (λ j. after_cycles cap load (begins j) (all j)))) i) (starts i) (cycles - skip))

-- ---- what one petit cycle leaves of the counts

either : {X : Type 0} (g : Counts → X) (b : Bool) (x y : Counts) (z : X) → g x ≡ z → g y ≡ z → g (if b then x else y) ≡ z
either g true x y z is other = is
either g false x y z is other = other

-- all but the number of quiet petit cycles
quiet_keeps : {X : Type 0} (g : Counts → X) (quiet : Bool) (counts : Counts)
    → g (record counts { quiet = min (counts.quiet + 1) (2 ^ 32 - 1) }) ≡ g counts
    → g (with_quiet quiet counts) ≡ g counts
quiet_keeps g quiet counts same =
    either g (counts.is_on && quiet) (record counts { quiet = min (counts.quiet + 1) (2 ^ 32 - 1) }) counts (g counts) same
    refl

is_on-after : (cap : ℕ) (load : Load) (now : Loaded) (counts : Counts)
    → (counts_after cap load now counts).is_on ≡ counts.is_on
is_on-after cap load now counts =
    let machine = asked_machine load now in
    let after = after_one cap load now in
    quiet_keeps (λ c. c.is_on) (is_quiet after.machine.chips after.machine.buffers after.sources)
    (with_crossed load.dims cap machine counts) refl
    ∙ either (λ c. c.is_on) counts.is_on
    (record counts { dims = crossings_through load.dims cap machine counts.dims load.dims }) counts counts.is_on refl refl

dims-after : (cap : ℕ) (load : Load) (now : Loaded) (counts : Counts) → counts.is_on ≡ true
    → (counts_after cap load now counts).dims
    ≡ crossings_through load.dims cap (asked_machine load now) counts.dims load.dims
dims-after cap load now counts on =
    let machine = asked_machine load now in
    let after = after_one cap load now in
    quiet_keeps (λ c. c.dims) (is_quiet after.machine.chips after.machine.buffers after.sources)
    (with_crossed load.dims cap machine counts) refl
    ∙ ap (λ (b : Bool). (if b then record counts { dims = crossings_through load.dims cap machine counts.dims load.dims }
    else counts).dims) on

-- ---- and many

pub is_on-after_cycles : (cap : ℕ) (load : Load) (first : Loaded) (counts : Counts) (k : ℕ)
    → (counts_after_cycles cap load first counts k).is_on ≡ counts.is_on
unfolding counts_after_cycles
is_on-after_cycles cap load first counts zero = refl
is_on-after_cycles cap load first counts (suc k) =
    is_on-after cap load (after_cycles cap load first k) (counts_after_cycles cap load first counts k)
    ∙ is_on-after_cycles cap load first counts k

length-dims : (cap : ℕ) (load : Load) (first : Loaded) (counts : Counts) (k : ℕ) → counts.is_on ≡ true
    → length (counts_after_cycles cap load first counts k).dims ≡ length counts.dims
unfolding counts_after_cycles
length-dims cap load first counts zero on = refl
length-dims cap load first counts (suc k) on =
    let now = after_cycles cap load first k in
    let was = counts_after_cycles cap load first counts k in
    ap length (dims-after cap load now was (is_on-after_cycles cap load first counts k ∙ on))
    ∙ (length-crossings_through load.dims cap (asked_machine load now) was.dims load.dims
    ∙ length-dims cap load first counts k on)

length-chips : (cap : ℕ) (load : Load) (first : Loaded) (chips : List Crossings) (k : ℕ)
    → length (chips_after_cycles true cap load first chips k) ≡ length chips
unfolding chips_after_cycles
length-chips cap load first chips zero = refl
length-chips cap load first chips (suc k) =
    length-chips_through load.dims cap (asked_machine load (after_cycles cap load first k))
    (chips_after_cycles true cap load first chips k) load.dims
    ∙ length-chips cap load first chips k

-- by chip and by dimension the same is counted together
pub counted_together : (cap : ℕ) (load : Load) (first : Loaded) (counts : Counts) (chips : List Crossings) (k : ℕ)
    → counts.is_on ≡ true → load.dims ≤ length counts.dims → 2 ^ load.dims ≤ length chips
    → in_all chips ≡ in_all counts.dims
    → in_all (chips_after_cycles true cap load first chips k) ≡ in_all (counts_after_cycles cap load first counts k).dims
unfolding chips_after_cycles counts_after_cycles
counted_together cap load first counts chips zero on within all same = same
counted_together cap load first counts chips (suc k) on within all same =
    let now = after_cycles cap load first k in
    let was = counts_after_cycles cap load first counts k in
    let so_far = chips_after_cycles true cap load first chips k in
    chips_through-together load.dims cap (asked_machine load now) was.dims so_far load.dims
    (omega (arith, within, length-dims cap load first counts k on))
    (omega (arith, all, length-chips cap load first chips k))
    (counted_together cap load first counts chips k on within all same)
    ∙ sym (ap in_all (dims-after cap load now was (is_on-after_cycles cap load first counts k ∙ on)))
