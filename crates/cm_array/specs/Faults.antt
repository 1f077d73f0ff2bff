-- Why a machine of given sizes cannot be, why what was built is none,
-- and whether acts were refused for want of a thread: ours.
use Rattle.std.specs.Prelude.{◌≢◌, ℕ, ◌+◌, ◌%◌, ◌^◌, Bool, true, false, ◌==◌, ◌||◌, ltb}
use Rattle.std.specs.Prelude.{Option, Some, None, if◌then◌else◌, ◌≡◌, cond, Result, MatchResult}
use Rattle.cm_model.specs.Machine.{Machine}
use Rattle.cm_model.specs.Unlogged.{standing_messages, has_tag_twice}
use Rattle.cm_array.specs.declared.machine.MachineFault.{MachineFault}
use Rattle.cm_array.specs.declared.machine.MachineFault.TheVariants.{Dim, Cap}
use Rattle.cm_array.specs.declared.builder.BuildFault.{BuildFault}
use Rattle.cm_array.specs.declared.builder.BuildFault.TheVariants.{TagTwice}
use Rattle.cm_array.specs.declared.runner.Plain.{Plain}
use Rattle.cm_array.specs.declared.runner.RunFault.{RunFault}
use Rattle.cm_array.specs.declared.runner.RunFault.TheVariants.{Long, Clock, Memory, NoThread}

-- the dimension is looked at first
abbrev pub size_fault : ℕ → ℕ → Option MachineFault
size_fault n cap = if ltb 12 n then Some Dim else if cap == 0 || ltb 15 cap then Some Cap else None

-- two messages that were put into it have one tag
abbrev pub build_fault : Machine → Option BuildFault
build_fault machine = if has_tag_twice (standing_messages machine) then Some TagTwice else None

-- a thread was wanting
abbrev pub is_no_thread : RunFault → Bool
is_no_thread Long = false
is_no_thread Clock = false
is_no_thread Memory = false
is_no_thread NoThread = true

-- how often one was wanting, once more: counted modulo 2^64
abbrev pub one_more_lacked : ℕ → ℕ
one_more_lacked count = (count + 1) % 2 ^ 64

-- how often behind an end: once more where a thread was wanting
abbrev pub lacked_after : Bool → ℕ → ℕ
lacked_after is_wanting count = cond is_wanting (one_more_lacked count) count

-- a fault that tells a want of a thread is counted, and nothing else is
abbrev pub CountsLacks : {A E : Type 0} → (E → Bool) → ℕ → ℕ → Result A E → Type 0
CountsLacks tells_want before after result =
    MatchResult result (λ _. after ≡ before) (λ fault. after ≡ lacked_after (tells_want fault) before)

-- one more is never the count that it was
abbrev pub WantsChangeTheirCount : Type 0
WantsChangeTheirCount = (count : ℕ) → one_more_lacked count ≢ count

-- how often one was wanting so far, of the runner that starts none
abbrev pub plain_threads_lacked : Plain → ℕ
plain_threads_lacked runner = 0
