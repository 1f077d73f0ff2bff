-- An instruction in two halves over rows: what was computed, stored, as each chip has it.
use Rattle.std.proofs.Common.{◌≡◌, ℕ, ◌+◌, ◌*◌, ◌<◌, ◌==◌, Bool, true, false, cond, List, map, length, get_or, sym, ap}
use Rattle.std.proofs.Common.{subst, ◌∙◌, arith, if◌then◌else◌}
use Rattle.cm_bits.specs.Bit.{bit}
use Rattle.cm_model.specs.declared.act.Nano.{Nano}
use Rattle.cm_model.specs.Instruction.{flags_after, takes_incoming}
use Rattle.cm_model.specs.Chip.{chip_after}
use Rattle.cm_rows.specs.declared.places.Places.{Places}
use Rattle.cm_element.specs.declared.outputs.Outputs.{Outputs}
use Rattle.cm_element.specs.declared.wide_outputs.WideOutputs.{WideOutputs}
use Rattle.cm_element.specs.Outputs.{AreOutputs}
use Rattle.cm_element.specs.WideOutputs.{HaveRoomFor, AreWideOutputs}
use Rattle.cm_element.specs.Planes.{chip_of}
use Rattle.cm_element.specs.Runs.{chip_column, chip_of_rows, chips_of, AreRows}
use Rattle.cm_element.specs.Steps.{ArePlaces, IsStored}
use Rattle.cm_element.proofs.Storing.{stored_planes, flags-set, flags-kept}
use Rattle.cm_element.proofs.Columns.{get_or-chip_column, chip_column-changed, chip_at-chips_of, length-chips_of, IsRowChanged}

-- a row into which planes were stored
pub row_stored_into : (first row stride chips : ℕ) (holds planes old new : List ℕ)
    → first ≡ row * stride → length planes ≡ chips
    → IsStored first holds planes old new → IsRowChanged row stride chips old new
row_stored_into first row stride chips holds planes old new first_is long stored = record {
  below = λ i h. stored.below i (omega arith);
  above = λ i h. stored.above i (omega arith);
}

-- a chip's word of it
word_stored_into : (first row stride count c : ℕ) (holds planes old new : List ℕ) → first ≡ row * stride
    → row < count → c < length planes
    → IsStored first holds planes old new
    → (p : ℕ) → bit (get_or new (row * stride + c) 0) p
    ≡ cond (bit (get_or holds c 0) p) (bit (get_or planes c 0) p) (bit (get_or (chip_column old stride count c) row 0) p)
word_stored_into first row stride count c holds planes old new first_is inside here stored p =
    let place : first + c ≡ row * stride + c = omega (arith, first_is) in
    ap (λ (i : ℕ). bit (get_or new i 0) p) (sym place) ∙ stored.each c here p
    ∙ ap (λ (w : ℕ). cond (bit (get_or holds c 0) p) (bit (get_or planes c 0) p) (bit w p))
    (ap (λ (i : ℕ). get_or old i 0) place ∙ sym (get_or-chip_column old stride count c row inside))

-- what the chips computed, and their memory after it was stored
pub record IsHalfStored (nano : Nano) (memory flags memory_new : List ℕ) (outputs : WideOutputs) (stride chips : ℕ)
    (at : Places) : Type 0 where
  pub rows : AreRows memory flags stride chips
  pub places : ArePlaces nano stride at
  pub room : HaveRoomFor chips outputs
  pub are : AreWideOutputs nano (chips_of memory flags stride chips) outputs
  pub stored : IsStored at.a outputs.holds.items outputs.mem.items memory memory_new

-- the outputs of one chip
abbrev outputs_of : WideOutputs → ℕ → Outputs
outputs_of outputs c = record {
  mem = get_or outputs.mem.items c 0;
  flag = get_or outputs.flag.items c 0;
  holds = get_or outputs.holds.items c 0;
}

-- one chip, where its flags were stored as they are to be
chip_stored : (nano : Nano) (memory flags memory_new flags_new : List ℕ) (outputs : WideOutputs) (stride chips : ℕ)
    (at : Places) (incoming c : ℕ)
    → IsHalfStored nano memory flags memory_new outputs stride chips at → c < chips
    → ((p : ℕ) → p < 16 → map (λ plane. bit plane p) (chip_column flags_new stride 16 c)
    ≡ cond (bit (get_or outputs.holds.items c 0) p)
    (flags_after nano (if takes_incoming nano then bit incoming p else bit (get_or outputs.flag.items c 0) p)
    (map (λ plane. bit plane p) (chip_column flags stride 16 c)))
    (map (λ plane. bit plane p) (chip_column flags stride 16 c)))
    → chip_of_rows memory_new flags_new stride c ≡ chip_after nano (bit incoming) (chip_of_rows memory flags stride c)
chip_stored nano memory flags memory_new flags_new outputs stride chips at incoming c half here flags_are =
    let word : ℕ = get_or memory_new (nano.a * stride + c) 0 in
    let computed : AreOutputs nano (chip_of_rows memory flags stride c) (outputs_of outputs c) =
    subst (λ chip. AreOutputs nano chip (outputs_of outputs c)) (chip_at-chips_of memory flags stride chips c here)
    (half.are.each c (omega (arith, here, length-chips_of memory flags stride chips))) in
    ap (λ planes. chip_of planes (chip_column flags_new stride 16 c))
    (chip_column-changed nano.a stride chips 4096 c memory memory_new half.rows.within here half.places.a_below
    (row_stored_into at.a nano.a stride chips outputs.holds.items outputs.mem.items memory memory_new half.places.a
    half.room.mem half.stored))
    ∙ stored_planes nano (chip_column memory stride 4096 c) (chip_column flags stride 16 c) (chip_column flags_new stride 16 c)
    (outputs_of outputs c) incoming word computed
    (word_stored_into at.a nano.a stride 4096 c outputs.holds.items outputs.mem.items memory memory_new half.places.a
    half.places.a_below (omega (arith, here, half.room.mem)) half.stored)
    flags_are

-- where a flag was written
pub chip_flag_stored : (nano : Nano) (memory flags memory_new flags_new : List ℕ) (outputs : WideOutputs)
    (stride chips : ℕ) (at : Places) (incoming c : ℕ) (planes : List ℕ)
    → IsHalfStored nano memory flags memory_new outputs stride chips at → c < chips → (nano.write == 8) ≡ false
    → length planes ≡ chips
    → ((p : ℕ) → bit (get_or planes c 0) p
    ≡ (if takes_incoming nano then bit incoming p else bit (get_or outputs.flag.items c 0) p))
    → IsStored at.write outputs.holds.items planes flags flags_new
    → chip_of_rows memory_new flags_new stride c ≡ chip_after nano (bit incoming) (chip_of_rows memory flags stride c)
chip_flag_stored nano memory flags memory_new flags_new outputs stride chips at incoming c planes half
    here other long are stored =
    chip_stored nano memory flags memory_new flags_new outputs stride chips at incoming c half here
    (λ p h. ap (λ ps. map (λ plane. bit plane p) ps)
    (chip_column-changed nano.write stride chips 16 c flags flags_new half.rows.within here half.places.write_below
    (row_stored_into at.write nano.write stride chips outputs.holds.items planes flags flags_new
    half.places.write long stored))
    ∙ flags-set nano (chip_column flags stride 16 c) (get_or flags_new (nano.write * stride + c) 0) p
    (if takes_incoming nano then bit incoming p else bit (get_or outputs.flag.items c 0) p)
    (bit (get_or outputs.holds.items c 0) p) other
    (word_stored_into at.write nano.write stride 16 c outputs.holds.items planes flags flags_new half.places.write
    half.places.write_below (omega (arith, here, long)) stored p
    ∙ ap (λ (v : Bool). cond (bit (get_or outputs.holds.items c 0) p) v
    (bit (get_or (chip_column flags stride 16 c) nano.write 0) p)) (are p)))

-- where none was
pub chip_flags_kept : (nano : Nano) (memory flags memory_new : List ℕ) (outputs : WideOutputs) (stride chips : ℕ)
    (at : Places) (incoming c : ℕ)
    → IsHalfStored nano memory flags memory_new outputs stride chips at → c < chips → (nano.write == 8) ≡ true
    → chip_of_rows memory_new flags stride c ≡ chip_after nano (bit incoming) (chip_of_rows memory flags stride c)
chip_flags_kept nano memory flags memory_new outputs stride chips at incoming c half here zero_flag =
    chip_stored nano memory flags memory_new flags outputs stride chips at incoming c half here
    (λ p h. flags-kept nano (map (λ plane. bit plane p) (chip_column flags stride 16 c))
    (if takes_incoming nano then bit incoming p else bit (get_or outputs.flag.items c 0) p)
    (bit (get_or outputs.holds.items c 0) p) zero_flag)
