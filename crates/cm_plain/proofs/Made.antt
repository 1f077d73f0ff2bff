-- Lists that a loop makes by pushes, and one element that is replaced, as the plain program does.
use Rattle.std.proofs.Common.{◌≡◌, ℕ, ◌+◌, ◌<◌, ◌==◌, Bool, true, false, not, List, [], ◌∷◌, ◌++◌, length, get_or, set}
use Rattle.std.proofs.Common.{refl, sym, ap, ◌∙◌, arith, if◌then◌else◌}
use Rattle.std.specs.Bool.{beq}
use Rattle.std.proofs.lemmas.List.FromFn.{map-range_with_len_more}
use Rattle.std.proofs.lemmas.Bool.{not-true, not-false}
use Rattle.std.proofs.lemmas.List.{get_or_read}
use Rattle.cm_model.specs.declared.act.Nano.{Nano}
use Rattle.cm_model.specs.Each.{tabulate}
use Rattle.cm_model.specs.Processor.{Processor, ZERO, flag}
use Rattle.cm_model.specs.Instruction.{memory_output, flag_output, takes_incoming, processor_after}
use Rattle.cm_model.specs.Chip.{processor_at, no_processor}

pub tabulate-zero : {X : Type 0} (f : ℕ → X) → tabulate 0 0 f ≡ []
unfolding tabulate
tabulate-zero f = refl

-- one more element
tabulate-more : {X : Type 0} (n : ℕ) (f : ℕ → X) → tabulate 0 (n + 1) f ≡ tabulate 0 n f ++ f n ∷ []
unfolding tabulate
tabulate-more n f = map-range_with_len_more f 0 n n (omega arith)

-- the list so far and the next element
pub pushed : {X : Type 0} (n : ℕ) (f : ℕ → X) (before after : List X) (x : X) → before ≡ tabulate 0 n f
    → after ≡ before ++ x ∷ [] → x ≡ f n → after ≡ tabulate 0 (n + 1) f
pushed n f before after x is grown last = grown ∙ (λ i. is i ++ last i ∷ []) ∙ sym (tabulate-more n f)

-- a processor that was read at an index
pub processor_read : (chip : List Processor) (p index : ℕ) (processor : Processor) → index ≡ p → index < length chip
    → processor ≡ get_or chip index processor → processor ≡ processor_at chip p
processor_read chip p index processor index_is inside read =
    get_or_read chip index processor inside read no_processor ∙ ap (λ (i : ℕ). get_or chip i no_processor) index_is

-- ---- one processor

-- where the condition fails nothing changes
pub processor_after-kept : (nano : Nano) (incoming tested : Bool) (processor : Processor)
    → tested ≡ flag processor nano.cond → not (beq tested nano.sense) ≡ true
    → processor_after nano incoming processor ≡ processor
unfolding processor_after
processor_after-kept nano incoming tested processor is other =
    rw (ap (λ (v : Bool). beq v nano.sense) (sym is) ∙ not-true (beq tested nano.sense) other) refl

-- where it holds both outputs are stored, but none into flag ZERO
pub processor_after-stored : (nano : Nano) (incoming tested : Bool) (processor : Processor)
    → tested ≡ flag processor nano.cond → not (beq tested nano.sense) ≡ false → (nano.write == ZERO) ≡ false
    → processor_after nano incoming processor ≡ record {
      memory = set processor.memory nano.a (memory_output nano processor);
      flags = set processor.flags nano.write (if takes_incoming nano then incoming else flag_output nano processor);
    }
unfolding processor_after
processor_after-stored nano incoming tested processor is same other =
    rw (ap (λ (v : Bool). beq v nano.sense) (sym is) ∙ not-false (beq tested nano.sense) same, other) refl

pub processor_after-dropped : (nano : Nano) (incoming tested : Bool) (processor : Processor)
    → tested ≡ flag processor nano.cond → not (beq tested nano.sense) ≡ false → (nano.write == ZERO) ≡ true
    → processor_after nano incoming processor ≡ record {
      memory =
          set processor.memory nano.a (memory_output nano processor);
      flags = processor.flags;
    }
unfolding processor_after
processor_after-dropped nano incoming tested processor is same zero_flag =
    rw (ap (λ (v : Bool). beq v nano.sense) (sym is) ∙ not-false (beq tested nano.sense) same, zero_flag) refl
