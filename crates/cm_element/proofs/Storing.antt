-- A chip of planes after a store is the chip of the definition.
use Rattle.std.proofs.Common.{◌≡◌, ℕ, ◌<◌, ◌==◌, Bool, true, false, cond, List, map, get_or, set, refl, sym}
use Rattle.std.proofs.Common.{ap, ◌∙◌, if◌then◌else◌}
use Rattle.std.proofs.Math.Seq.{map-set_same}
use Rattle.std.proofs.lemmas.List.{map-set, set-get_or}
use Rattle.cm_bits.specs.Bit.{bit}
use Rattle.cm_model.specs.declared.act.Nano.{Nano}
use Rattle.cm_model.specs.Processor.{Processor, memory_bit, flag}
use Rattle.cm_model.specs.Instruction.{holds, memory_output, flag_output, flags_after, takes_incoming, processor_after}
use Rattle.cm_model.specs.Chip.{chip_after, processor_at, no_processor}
use Rattle.cm_model.proofs.Each.{same_each_below, get_or-each_below}
use Rattle.cm_element.specs.declared.outputs.Outputs.{Outputs}
use Rattle.cm_element.specs.Outputs.{AreOutputs}
use Rattle.cm_element.specs.Planes.{processor_in, chip_of}
use Rattle.cm_element.specs.Wide.{with_memory_plane, with_flag_plane}
use Rattle.cm_element.proofs.Planes.{processor_at-chip_of}

-- a row in which one plane was replaced, bit by bit, where a bit was chosen and where it was not
pub row-set : (planes : List ℕ) (i word p : ℕ) (stored chosen : Bool)
    → bit word p ≡ cond chosen stored (bit (get_or planes i 0) p)
    → map (λ plane. bit plane p) (set planes i word)
    ≡ cond chosen (set (map (λ plane. bit plane p) planes) i stored) (map (λ plane. bit plane p) planes)
row-set planes i word p stored true is = map-set (λ plane. bit plane p) planes i word
    ∙ ap (set (map (λ plane. bit plane p) planes) i) is
row-set planes i word p stored false is = map-set_same (λ plane. bit plane p) planes i word 0 is

-- where the condition holds a processor has what was stored, else what it had
pub both_rows : (nano : Nano) (incoming holds_here : Bool) (old : Processor) (memory flags : List Bool)
    → holds nano old ≡ holds_here
    → memory ≡ cond holds_here (set old.memory nano.a (memory_output nano old)) old.memory
    → flags ≡ cond holds_here (flags_after nano (if takes_incoming nano then incoming
    else flag_output nano old) old.flags) old.flags
    → record { memory = memory; flags = flags } ≡ processor_after nano incoming old
unfolding processor_after
both_rows nano incoming true old memory flags h m f = rw h (λ i. record { memory = m i; flags = f i })
both_rows nano incoming false old memory flags h m f = rw h (λ i. record { memory = m i; flags = f i })

-- the row of a processor's flags after a store into any flag but ZERO
pub flags-set : (nano : Nano) (flags : List ℕ) (word p : ℕ) (stored chosen : Bool)
    → (nano.write == 8) ≡ false
    → bit word p ≡ cond chosen stored (bit (get_or flags nano.write 0) p)
    → map (λ plane. bit plane p) (set flags nano.write word)
    ≡ cond chosen (flags_after nano stored (map (λ plane. bit plane p) flags)) (map (λ plane. bit plane p) flags)
flags-set nano flags word p stored chosen other is = rw other (row-set flags nano.write word p stored chosen is)

-- the same after a store into flag ZERO, which is dropped
pub flags-kept : (nano : Nano) (row : List Bool) (stored chosen : Bool) → (nano.write == 8) ≡ true
    → row ≡ cond chosen (flags_after nano stored row) row
flags-kept nano row stored true zero_flag = rw zero_flag refl
flags-kept nano row stored false zero_flag = refl

pub bit-choice : (c : Bool) (x y p : ℕ) → bit (if c then x else y) p ≡ (if c then bit x p else bit y p)
bit-choice true x y p = refl
bit-choice false x y p = refl

-- the planes after a store are the chip after the instruction
pub stored_planes : (nano : Nano) (memory flags flags_new : List ℕ) (outputs : Outputs) (incoming word : ℕ)
    → AreOutputs nano (chip_of memory flags) outputs
    → ((p : ℕ) → bit word p ≡ cond (bit outputs.holds p) (bit outputs.mem p) (bit (get_or memory nano.a 0) p))
    → ((p : ℕ) → p < 16 → map (λ plane. bit plane p) flags_new ≡ cond (bit outputs.holds p)
    (flags_after nano (if takes_incoming nano then bit incoming p else bit outputs.flag p)
    (map (λ plane. bit plane p) flags))
    (map (λ plane. bit plane p) flags))
    → chip_of (set memory nano.a word) flags_new ≡ chip_after nano (bit incoming) (chip_of memory flags)
unfolding chip_of chip_after
stored_planes nano memory flags flags_new outputs incoming word are memory_is flags_are =
    same_each_below no_processor 16 (processor_in (set memory nano.a word) flags_new)
    (λ p. processor_after nano (bit incoming p) (processor_at (chip_of memory flags) p))
    (λ p h. let here = processor_at-chip_of memory flags p h in
    rw here (both_rows nano (bit incoming p) (bit outputs.holds p) (processor_in memory flags p)
    (map (λ plane. bit plane p) (set memory nano.a word)) (map (λ plane. bit plane p) flags_new)
    (sym (are.holds p h ∙ ap (holds nano) here))
    (row-set memory nano.a word p (memory_output nano (processor_in memory flags p)) (bit outputs.holds p)
    (memory_is p ∙ ap (λ (v : Bool). cond (bit outputs.holds p) v (bit (get_or memory nano.a 0) p)) (are.mem p h
    ∙ ap (memory_output nano) here)))
    (flags_are p h ∙ ap (λ (v : Bool). cond (bit outputs.holds p) (flags_after nano (if takes_incoming nano
    then bit incoming p else v) (map (λ plane. bit plane p) flags)) (map (λ plane. bit plane p) flags))
    (are.flag p h ∙ ap (flag_output nano) here))))

-- bits of which one was set, where it was chosen and where it is what was there
kept_set : (bits : List Bool) (i : ℕ) (b stored chosen : Bool) → b ≡ cond chosen stored (get_or bits i false)
    → set bits i b ≡ cond chosen (set bits i stored) bits
kept_set bits i b stored true is = ap (set bits i) is
kept_set bits i b stored false is = ap (set bits i) is ∙ set-get_or bits i false

-- the plane of memory that a store leaves
abbrev pub IsMemoryStored : Nano → List Processor → Outputs → ℕ → Type 0
IsMemoryStored nano chip outputs word =
    (p : ℕ) → p < 16 → bit word p
    ≡ cond (bit outputs.holds p) (bit outputs.mem p) (memory_bit (processor_at chip p) nano.a)

-- and that of the flag
abbrev pub IsFlagStored : Nano → List Processor → Outputs → ℕ → ℕ → Type 0
IsFlagStored nano chip outputs incoming word =
    (p : ℕ) → p < 16 → bit word p ≡ cond (bit outputs.holds p)
    (if takes_incoming nano then bit incoming p else bit outputs.flag p) (flag (processor_at chip p) nano.write)

-- the bits of a processor's memory after it
memory_stored : (nano : Nano) (chip : List Processor) (outputs : Outputs) (word p : ℕ) → AreOutputs nano chip outputs
    → IsMemoryStored nano chip outputs word → p < 16
    → set (processor_at chip p).memory nano.a (bit word p)
    ≡ cond (bit outputs.holds p) (set (processor_at chip p).memory nano.a (memory_output nano (processor_at chip p)))
    (processor_at chip p).memory
memory_stored nano chip outputs word p are is h =
    kept_set (processor_at chip p).memory nano.a (bit word p)
    (memory_output nano (processor_at chip p)) (bit outputs.holds p)
    (is p h ∙ ap (λ (v : Bool). cond (bit outputs.holds p) v (memory_bit (processor_at chip p) nano.a)) (are.mem p h))

-- a chip into which both planes were put
pub both_put : (nano : Nano) (chip : List Processor) (outputs : Outputs) (incoming word flag_word : ℕ)
    → AreOutputs nano chip outputs
    → (nano.write == 8) ≡ false → IsMemoryStored nano chip outputs word
    → IsFlagStored nano chip outputs incoming flag_word
    → with_flag_plane (with_memory_plane chip nano.a (bit word)) nano.write (bit flag_word)
    ≡ chip_after nano (bit incoming) chip
unfolding with_flag_plane with_memory_plane chip_after
both_put nano chip outputs incoming word flag_word are other memory_is flag_is =
    same_each_below no_processor 16
    (λ p. record (processor_at (with_memory_plane chip nano.a (bit word)) p)
    { flags = set (processor_at (with_memory_plane chip nano.a (bit word)) p).flags nano.write (bit flag_word p) })
    (λ p. processor_after nano (bit incoming p) (processor_at chip p))
    (λ p h. let old : Processor = processor_at chip p in
    let here : processor_at (with_memory_plane chip nano.a (bit word)) p
    ≡ record old { memory = set old.memory nano.a (bit word p) } =
    get_or-each_below 16 (λ q. record (processor_at chip q) {
      memory = set (processor_at chip q).memory nano.a (bit word q);
    }) p no_processor h in
    rw here (both_rows nano (bit incoming p) (bit outputs.holds p) old (set old.memory nano.a (bit word p))
    (set old.flags nano.write (bit flag_word p))
    (sym (are.holds p h)) (memory_stored nano chip outputs word p are memory_is h)
    (rw other (kept_set old.flags nano.write (bit flag_word p)
    (if takes_incoming nano then bit incoming p else flag_output nano old) (bit outputs.holds p)
    (flag_is p h ∙ ap (λ (v : Bool). cond (bit outputs.holds p) (if takes_incoming nano then bit incoming p
    else v) (flag old nano.write)) (are.flag p h))))))

-- and one into which only that of memory was put
pub memory_put : (nano : Nano) (chip : List Processor) (outputs : Outputs) (incoming word : ℕ)
    → AreOutputs nano chip outputs
    → (nano.write == 8) ≡ true → IsMemoryStored nano chip outputs word
    → with_memory_plane chip nano.a (bit word) ≡ chip_after nano (bit incoming) chip
unfolding with_memory_plane chip_after
memory_put nano chip outputs incoming word are zero_flag memory_is =
    same_each_below no_processor 16
    (λ p. record (processor_at chip p) { memory = set (processor_at chip p).memory nano.a (bit word p) })
    (λ p. processor_after nano (bit incoming p) (processor_at chip p))
    (λ p h. let old : Processor = processor_at chip p in
    both_rows nano (bit incoming p) (bit outputs.holds p) old (set old.memory nano.a (bit word p)) old.flags
    (sym (are.holds p h)) (memory_stored nano chip outputs word p are memory_is h)
    (flags-kept nano old.flags (if takes_incoming nano then bit incoming p else flag_output nano old)
    (bit outputs.holds p) zero_flag))
