-- A poke keeps a chip whole, and so does a plane that is put there.
use Rattle.std.proofs.Common.{◌≡◌, ◌≢◌, ℕ, ◌<◌, Bool, false, List, set, sym, ◌∙◌, subst, arith}
use Rattle.std.proofs.Common.{⊎_elim, get_or-set_other, ◌≤◌}
use Rattle.std.proofs.lemmas.Bool.{cases_lt}
use Rattle.std.proofs.lemmas.List.{length-set, set_past}
use Rattle.cm_model.specs.Processor.{Processor}
use Rattle.cm_model.specs.Chip.{each_processor, processor_at, no_processor, with_memory_bit, with_flag}
use Rattle.cm_model.specs.Whole.{IsProcessor, IsChip}
use Rattle.cm_model.proofs.Each.{length-tabulate, get_or-each_below}
use Rattle.cm_element.specs.Wide.{with_memory_plane, with_flag_plane}
use Rattle.cm_array.proofs.Lists.{each_after_set}

-- a chip in which one processor is another whole one
with_processor : (chip : List Processor) (p : ℕ) (processor : Processor) → IsChip chip
    → (p < 16 → IsProcessor processor) → IsChip (set chip p processor)
with_processor chip p processor h new =
    ⊎_elim
    (λ (below : p < 16). record {
      count = length-set chip p processor ∙ h.count;
      each = each_after_set (λ (q : Processor). IsProcessor q)
          chip no_processor p processor 16 h.count h.each (new below);
    })
    (λ (past : 16 ≤ p). subst (λ (c : List Processor). IsChip c)
    (sym (set_past chip p processor (omega (arith, h.count)))) h)
    (cases_lt p 16)

-- a chip with another memory bit
pub IsChip-with_memory_bit : (chip : List Processor) (p at : ℕ) (b : Bool) → IsChip chip
    → IsChip (with_memory_bit chip p at b)
unfolding with_memory_bit
IsChip-with_memory_bit chip p at b h =
    with_processor chip p (record (processor_at chip p) { memory = set (processor_at chip p).memory at b }) h
    (λ l. record {
      memory = length-set (processor_at chip p).memory at b ∙ (h.each p l).memory;
      flags = (h.each p l).flags;
      zero = (h.each p l).zero;
    })

-- a chip with another flag, but not flag 8
pub IsChip-with_flag : (chip : List Processor) (p number : ℕ) (b : Bool) → (number ≡ 8 → ⊥) → IsChip chip
    → IsChip (with_flag chip p number b)
unfolding with_flag
IsChip-with_flag chip p number b other h =
    with_processor chip p (record (processor_at chip p) { flags = set (processor_at chip p).flags number b }) h
    (λ l. record {
      memory = (h.each p l).memory;
      flags = length-set (processor_at chip p).flags number b ∙ (h.each p l).flags;
      zero = get_or-set_other (processor_at chip p).flags number 8 b false (λ e. other (sym e)) ∙ (h.each p l).zero;
    })

-- ---- planes

-- a chip of whole processors
IsChip-each : (f : ℕ → Processor) → ((p : ℕ) → p < 16 → IsProcessor (f p)) → IsChip (each_processor f)
IsChip-each f whole = record {
  count = length-tabulate 0 16 f;
  each = λ p l. subst (λ (q : Processor). IsProcessor q) (sym (get_or-each_below 16 f p no_processor l)) (whole p l);
}

-- a chip with another plane at an address
pub IsChip-with_memory_plane : (chip : List Processor) (at : ℕ) (plane : ℕ → Bool) → IsChip chip
    → IsChip (with_memory_plane chip at plane)
unfolding with_memory_plane
IsChip-with_memory_plane chip at plane h =
    IsChip-each (λ p. record (processor_at chip p) { memory = set (processor_at chip p).memory at (plane p) })
    (λ p l. record {
      memory = length-set (processor_at chip p).memory at (plane p) ∙ (h.each p l).memory;
      flags = (h.each p l).flags;
      zero = (h.each p l).zero;
    })

-- a chip with another plane in a flag, but not in flag 8
pub IsChip-with_flag_plane : (chip : List Processor) (number : ℕ) (plane : ℕ → Bool) → number ≢ 8 → IsChip chip
    → IsChip (with_flag_plane chip number plane)
unfolding with_flag_plane
IsChip-with_flag_plane chip number plane other h =
    IsChip-each (λ p. record (processor_at chip p) { flags = set (processor_at chip p).flags number (plane p) })
    (λ p l. record {
      memory = (h.each p l).memory;
      flags = length-set (processor_at chip p).flags number (plane p) ∙ (h.each p l).flags;
      zero = get_or-set_other (processor_at chip p).flags number 8 (plane p) false (λ e. other (sym e))
          ∙ (h.each p l).zero;
    })
