-- An instruction over rows, as each chip has it.
use Rattle.std.proofs.Common.{◌≡◌, ◌≢◌, [], ℕ, ◌+◌, ◌-◌, ◌*◌, ◌<◌, ◌≤◌, ◌==◌, ◌||◌, Bool, true, false, cond, List, map}
use Rattle.std.proofs.Common.{length, get_or, set, refl, sym, ap, ◌∙◌, ⊎_elim, arith, ne_eqb, if◌then◌else◌}
use Rattle.std.specs.Bool.{beq}
use Rattle.std.proofs.lemmas.Bool.{cases_lt, cases_Bool, eqb-true, true≢false}
use Rattle.cm_bits.specs.Bit.{bit}
use Rattle.cm_model.specs.declared.act.Nano.{Nano}
use Rattle.cm_model.specs.Processor.{memory_bit, flag, entry}
use Rattle.cm_model.specs.Instruction.{holds, memory_output, flag_output, flags_after, takes_incoming, processor_after}
use Rattle.cm_model.specs.Chip.{chip_after, processor_at, no_processor}
use Rattle.cm_model.proofs.Bits.{bit-zero}
use Rattle.cm_model.specs.Each.{tabulate}
use Rattle.cm_model.specs.Array.{Chips, chip_at}
use Rattle.cm_model.proofs.Each.{same_each_below}
use Rattle.cm_model.proofs.Incoming.{same_chip}
use Rattle.cm_rows.specs.declared.places.Places.{Places}
use Rattle.cm_rows.specs.Rows.{stores, plane_output, IsComputed}
use Rattle.cm_element.specs.Planes.{processor_in, chip_of}
use Rattle.cm_element.specs.Runs.{chip_column, chip_of_rows, chips_of, AreRows}
use Rattle.cm_element.specs.Steps.{ArePlaces, AreMerged, along_chain}
use Rattle.cm_element.proofs.Planes.{processor_at-chip_of, bit_in_row, memory_bit-chip_of, flag-chip_of}
use Rattle.cm_element.proofs.Storing.{both_rows, row-set, flags-set, flags-kept}
use Rattle.cm_element.proofs.Columns.{get_or-chip_column, chip_column-changed, chip_at-chips_of, next_row, IsRowChanged}

-- where the condition holds, by the bits of the chip
stores_where : (always sense asked b : Bool) → (always ≡ true → beq b sense ≡ true)
    → always || beq b sense ≡ beq b sense
stores_where true sense asked b all = sym (all refl)
stores_where false sense asked b all = refl

-- a word of a row that was computed, where the chip's own condition holds
word_stored : (table : ℕ) (chained : Bool) (nano : Nano) (always : Bool) (memory flags : List ℕ)
    (p a b f c old word : ℕ)
    → a ≡ get_or memory nano.a 0 → b ≡ get_or memory nano.b 0 → f ≡ get_or flags nano.read 0
    → c ≡ get_or flags nano.cond 0
    → (always ≡ true → beq (bit (get_or flags nano.cond 0) p) nano.sense ≡ true)
    → bit word p ≡ cond (stores always nano.sense (bit c p)) (plane_output table chained a b f p) (bit old p)
    → bit word p ≡ cond (holds nano (processor_in memory flags p))
    (plane_output table chained (get_or memory nano.a 0) (get_or memory nano.b 0) (get_or flags nano.read 0) p) (bit old p)
word_stored table chained nano always memory flags p a b f c old word a_is b_is f_is c_is all is =
    let a_now : ℕ = get_or memory nano.a 0 in
    let b_now : ℕ = get_or memory nano.b 0 in
    let f_now : ℕ = get_or flags nano.read 0 in
    is
    ∙ (λ j. cond (stores always nano.sense (bit (c_is j) p))
    (plane_output table chained (a_is j) (b_is j) (f_is j) p) (bit old p))
    ∙ ap (λ v. cond v (plane_output table chained a_now b_now f_now p) (bit old p))
    (stores_where always nano.sense false (bit (get_or flags nano.cond 0) p) all)
    ∙ ap (λ v. cond (beq v nano.sense) (plane_output table chained a_now b_now f_now p) (bit old p))
    (sym (bit_in_row flags nano.cond p))

-- what a table gives a processor of the chip's planes
own_output : (table : ℕ) (nano : Nano) (memory flags : List ℕ) (p : ℕ)
    → plane_output table false (get_or memory nano.a 0) (get_or memory nano.b 0) (get_or flags nano.read 0) p
    ≡ entry table (memory_bit (processor_in memory flags p) nano.a) (memory_bit (processor_in memory flags p) nano.b)
    (flag (processor_in memory flags p) nano.read)
own_output table nano memory flags p =
    λ j. entry table (sym (bit_in_row memory nano.a p) j) (sym (bit_in_row memory nano.b p) j)
    (sym (bit_in_row flags nano.read p) j)

-- and along the chain
chained_output : (nano : Nano) (memory flags : List ℕ) (p : ℕ) → p < 16
    → plane_output nano.flag_table true (get_or memory nano.a 0) (get_or memory nano.b 0) (get_or flags nano.read 0) p
    ≡ along_chain nano (chip_of memory flags) p
chained_output nano memory flags p h = ⊎_elim
    (λ (e : (p == 0) ≡ true). rw e refl)
    (λ (e : (p == 0) ≡ false). rw e (own_output nano.flag_table nano memory flags (p - 1)
    ∙ sym (ap (flag_output nano) (processor_at-chip_of memory flags (p - 1) (omega arith)))))
    (cases_Bool (p == 0))

-- what a store into a flag takes, if nothing comes in over NEWS
flag_taken : (nano : Nano) (chained : Bool) (memory flags : List ℕ) (p : ℕ) → takes_incoming nano ≡ chained → p < 16
    → plane_output nano.flag_table chained (get_or memory nano.a 0) (get_or memory nano.b 0) (get_or flags nano.read 0) p
    ≡ (if takes_incoming nano then along_chain nano (chip_of memory flags) p
    else flag_output nano (processor_in memory flags p))
flag_taken nano true memory flags p is h = rw is (chained_output nano memory flags p h)
flag_taken nano false memory flags p is h = rw is (own_output nano.flag_table nano memory flags p)

-- a chip whose planes were stored bit by bit
stored_bits : (nano : Nano) (memory flags memory_new flags_new : List ℕ) (incoming : ℕ → Bool)
    → ((p : ℕ) → p < 16 → map (λ plane. bit plane p) memory_new ≡ cond (holds nano (processor_in memory flags p))
    (set (map (λ plane. bit plane p) memory) nano.a (memory_output nano (processor_in memory flags p)))
    (map (λ plane. bit plane p) memory))
    → ((p : ℕ) → p < 16 → map (λ plane. bit plane p) flags_new ≡ cond (holds nano (processor_in memory flags p))
    (flags_after nano (if takes_incoming nano then incoming p else flag_output nano (processor_in memory flags p))
    (map (λ plane. bit plane p) flags))
    (map (λ plane. bit plane p) flags))
    → chip_of memory_new flags_new ≡ chip_after nano incoming (chip_of memory flags)
unfolding chip_of chip_after
stored_bits nano memory flags memory_new flags_new incoming memory_is flags_is =
    same_each_below no_processor 16 (processor_in memory_new flags_new)
    (λ p. processor_after nano (incoming p) (processor_at (chip_of memory flags) p))
    (λ p h. rw (processor_at-chip_of memory flags p h)
    (both_rows nano (incoming p) (holds nano (processor_in memory flags p)) (processor_in memory flags p)
    (map (λ plane. bit plane p) memory_new) (map (λ plane. bit plane p) flags_new) refl (memory_is p h) (flags_is p h)))

-- what the rows say of one chip
pub record IsChipStep (nano : Nano) (always : Bool) (memory flags memory_new : List ℕ) (stride chips c : ℕ)
    (at : Places) : Type 0 where
  pub rows : AreRows memory flags stride chips
  pub places : ArePlaces nano stride at
  pub here : c < chips
  pub everywhere : always ≡ true → (nano.cond ≡ 8) × (nano.sense ≡ false)
  pub stored : IsComputed nano.mem_table false always nano.sense at at.a 0 chips memory flags memory memory_new

pub row_changed : (table : ℕ) (chained always sense : Bool) (at : Places) (first row stride chips : ℕ)
    (memory flags old new : List ℕ) → first ≡ row * stride
    → IsComputed table chained always sense at first 0 chips memory flags old new
    → IsRowChanged row stride chips old new
row_changed table chained always sense at first row stride chips memory flags old new is computed = record {
  below = λ i h. computed.below i (omega arith);
  above = λ i h. computed.above i (omega arith);
}

all_hold : (nano : Nano) (always : Bool) (memory flags memory_new : List ℕ) (stride chips c : ℕ) (at : Places)
    → IsChipStep nano always memory flags memory_new stride chips c at
    → (p : ℕ) → always ≡ true → beq (bit (get_or (chip_column flags stride 16 c) nano.cond 0) p) nano.sense ≡ true
all_hold nano always memory flags memory_new stride chips c at step p all =
    let both = step.everywhere all in
    let zero : get_or (chip_column flags stride 16 c) nano.cond 0 ≡ 0 =
    get_or-chip_column flags stride 16 c nano.cond step.places.cond_below
    ∙ ap (λ (i : ℕ). get_or flags (i * stride + c) 0) both.0 ∙ step.rows.zero c step.here in
    (λ j. beq (bit (zero j) p) (both.1 j)) ∙ ap (λ v. beq v false) (bit-zero p)

-- one row of the chip, where its processors are to store this
row_stored : (nano : Nano) (always : Bool) (memory flags memory_new : List ℕ) (stride chips c : ℕ) (at : Places)
    → IsChipStep nano always memory flags memory_new stride chips c at
    → (table : ℕ) (chained what : Bool) (first row count : ℕ) (old new : List ℕ) → first ≡ row * stride → row < count
    → IsComputed table chained always nano.sense at first 0 chips memory flags old new
    → (p : ℕ) → p < 16
    → plane_output table chained (get_or (chip_column memory stride 4096 c) nano.a 0)
    (get_or (chip_column memory stride 4096 c) nano.b 0) (get_or (chip_column flags stride 16 c) nano.read 0) p ≡ what
    → bit (get_or new (row * stride + c) 0) p
    ≡ cond (holds nano (processor_in (chip_column memory stride 4096 c) (chip_column flags stride 16 c) p)) what
    (bit (get_or (chip_column old stride count c) row 0) p)
row_stored nano always memory flags memory_new stride chips c at step table chained what first row count old new
    first_is inside computed p h is =
    let places = step.places in
    let planes : List ℕ = chip_column memory stride 4096 c in
    let flag_planes : List ℕ = chip_column flags stride 16 c in
    let first_word : first + c ≡ row * stride + c = omega (arith, first_is) in
    ap (λ (i : ℕ). bit (get_or new i 0) p) (sym first_word)
    ∙ word_stored table chained nano always planes flag_planes p
    (get_or memory (at.a + c) 0) (get_or memory (at.b + c) 0) (get_or flags (at.read + c) 0)
    (get_or flags (at.cond + c) 0) (get_or old (first + c) 0) (get_or new (first + c) 0)
    (ap (λ (i : ℕ). get_or memory (i + c) 0) places.a ∙ sym (get_or-chip_column memory stride 4096 c nano.a places.a_below))
    (ap (λ (i : ℕ). get_or memory (i + c) 0) places.b ∙ sym (get_or-chip_column memory stride 4096 c nano.b places.b_below))
    (ap (λ (i : ℕ). get_or flags (i + c) 0) places.read
    ∙ sym (get_or-chip_column flags stride 16 c nano.read places.read_below))
    (ap (λ (i : ℕ). get_or flags (i + c) 0) places.cond
    ∙ sym (get_or-chip_column flags stride 16 c nano.cond places.cond_below))
    (all_hold nano always memory flags memory_new stride chips c at step p)
    (computed.each c (omega arith) step.here p h)
    ∙ (λ j. cond (holds nano (processor_in planes flag_planes p)) (is j)
    (bit ((ap (λ (i : ℕ). get_or old i 0) first_word ∙ sym (get_or-chip_column old stride count c row inside)) j) p))

memory_stored : (nano : Nano) (always : Bool) (memory flags memory_new : List ℕ) (stride chips c : ℕ) (at : Places)
    → IsChipStep nano always memory flags memory_new stride chips c at
    → (p : ℕ) → p < 16 → map (λ plane. bit plane p) (chip_column memory_new stride 4096 c)
    ≡ cond (holds nano (processor_in (chip_column memory stride 4096 c) (chip_column flags stride 16 c) p))
    (set (map (λ plane. bit plane p) (chip_column memory stride 4096 c))
    nano.a (memory_output nano (processor_in (chip_column memory stride 4096 c) (chip_column flags stride 16 c) p)))
    (map (λ plane. bit plane p) (chip_column memory stride 4096 c))
memory_stored nano always memory flags memory_new stride chips c at step p h =
    let places = step.places in
    ap (λ planes. map (λ plane. bit plane p) planes)
    (chip_column-changed nano.a stride chips 4096 c memory memory_new step.rows.within step.here places.a_below
    (row_changed nano.mem_table false always nano.sense at at.a nano.a stride chips memory flags memory
    memory_new places.a step.stored))
    ∙ row-set (chip_column memory stride 4096 c) nano.a (get_or memory_new (nano.a * stride + c) 0) p
    (memory_output nano (processor_in (chip_column memory stride 4096 c) (chip_column flags stride 16 c) p))
    (holds nano (processor_in (chip_column memory stride 4096 c) (chip_column flags stride 16 c) p))
    (row_stored nano always memory flags memory_new stride chips c at step nano.mem_table false
    (memory_output nano (processor_in (chip_column memory stride 4096 c) (chip_column flags stride 16 c) p))
    at.a nano.a 4096 memory memory_new places.a places.a_below step.stored p h
    (own_output nano.mem_table nano (chip_column memory stride 4096 c) (chip_column flags stride 16 c) p))

-- where a flag is written
pub chip_stepped : (nano : Nano) (always chained : Bool) (memory flags memory_new flags_new : List ℕ)
    (stride chips c : ℕ) (at : Places)
    → IsChipStep nano always memory flags memory_new stride chips c at → takes_incoming nano ≡ chained
    → (nano.write == 8) ≡ false
    → IsComputed nano.flag_table chained always nano.sense at at.write 0 chips memory flags flags flags_new
    → chip_of_rows memory_new flags_new stride c
    ≡ chip_after nano (along_chain nano (chip_of_rows memory flags stride c)) (chip_of_rows memory flags stride c)
chip_stepped nano always chained memory flags memory_new flags_new stride chips c at step taken other computed =
    let planes : List ℕ = chip_column memory stride 4096 c in
    let flag_planes : List ℕ = chip_column flags stride 16 c in
    stored_bits nano planes flag_planes (chip_column memory_new stride 4096 c) (chip_column flags_new stride 16 c)
    (along_chain nano (chip_of_rows memory flags stride c))
    (memory_stored nano always memory flags memory_new stride chips c at step)
    (λ p h. let what : Bool = if takes_incoming nano then along_chain nano (chip_of planes flag_planes) p
    else flag_output nano (processor_in planes flag_planes p) in
    ap (λ ws. map (λ plane. bit plane p) ws)
    (chip_column-changed nano.write stride chips 16 c flags flags_new step.rows.within step.here step.places.write_below
    (row_changed nano.flag_table chained always nano.sense at at.write nano.write stride chips memory flags flags
    flags_new step.places.write computed))
    ∙ flags-set nano flag_planes (get_or flags_new (nano.write * stride + c) 0) p what
    (holds nano (processor_in planes flag_planes p)) other
    (row_stored nano always memory flags memory_new stride chips c at step nano.flag_table chained what at.write
    nano.write 16 flags flags_new
    step.places.write step.places.write_below computed p h (flag_taken nano chained planes flag_planes p taken h)))

-- where none is
pub chip_stepped_alone : (nano : Nano) (always : Bool) (memory flags memory_new : List ℕ) (stride chips c : ℕ)
    (at : Places) (incoming : ℕ → Bool)
    → IsChipStep nano always memory flags memory_new stride chips c at → (nano.write == 8) ≡ true
    → chip_of_rows memory_new flags stride c ≡ chip_after nano incoming (chip_of_rows memory flags stride c)
chip_stepped_alone nano always memory flags memory_new stride chips c at incoming step zero_flag =
    let planes : List ℕ = chip_column memory stride 4096 c in
    let flag_planes : List ℕ = chip_column flags stride 16 c in
    stored_bits nano planes flag_planes (chip_column memory_new stride 4096 c) flag_planes incoming
    (memory_stored nano always memory flags memory_new stride chips c at step)
    (λ p h. flags-kept nano (map (λ plane. bit plane p) flag_planes)
    (if takes_incoming nano then incoming p else flag_output nano (processor_in planes flag_planes p))
    (holds nano (processor_in planes flag_planes p)) zero_flag)

-- and so each chip
pub rows_stepped : (nano : Nano) (memory flags memory_new flags_new : List ℕ) (stride chips : ℕ)
    (incoming : ℕ → ℕ → Bool)
    → ((c : ℕ) → c < chips → chip_of_rows memory_new flags_new stride c
    ≡ chip_after nano (incoming c) (chip_of_rows memory flags stride c))
    → chips_of memory_new flags_new stride chips
    ≡ tabulate 0 chips (λ c. chip_after nano (incoming c) (get_or (chips_of memory flags stride chips) c []))
unfolding chips_of
rows_stepped nano memory flags memory_new flags_new stride chips incoming each =
    same_each_below [] chips (chip_of_rows memory_new flags_new stride)
    (λ c. chip_after nano (incoming c) (get_or (chips_of memory flags stride chips) c []))
    (λ c h. each c h ∙ ap (chip_after nano (incoming c)) (sym (chip_at-chips_of memory flags stride chips c h)))

-- each with what comes in along its own chain
pub rows_stepped_along : (nano : Nano) (memory flags memory_new flags_new : List ℕ) (stride chips : ℕ)
    → ((c : ℕ) → c < chips → chip_of_rows memory_new flags_new stride c
    ≡ chip_after nano (along_chain nano (chip_of_rows memory flags stride c)) (chip_of_rows memory flags stride c))
    → chips_of memory_new flags_new stride chips
    ≡ tabulate 0 chips (λ c. chip_after nano (along_chain nano (get_or (chips_of memory flags stride chips) c []))
    (get_or (chips_of memory flags stride chips) c []))
rows_stepped_along nano memory flags memory_new flags_new stride chips each =
    rows_stepped nano memory flags memory_new flags_new stride chips
    (λ c. along_chain nano (get_or (chips_of memory flags stride chips) c []))
    (λ c h. each c h ∙ ap (λ v. chip_after nano (along_chain nano v) (chip_of_rows memory flags stride c))
    (sym (chip_at-chips_of memory flags stride chips c h)))

-- what comes in counts for nothing where it is not taken
pub whatever_comes_in : (nano : Nano) (chips : Chips) (incoming : ℕ → ℕ → Bool) → takes_incoming nano ≡ false
    → tabulate 0 (length chips) (λ c. chip_after nano (along_chain nano (chip_at chips c)) (chip_at chips c))
    ≡ tabulate 0 (length chips) (λ c. chip_after nano (incoming c) (chip_at chips c))
whatever_comes_in nano chips incoming alone =
    same_each_below [] (length chips) (λ c. chip_after nano (along_chain nano (chip_at chips c)) (chip_at chips c))
    (λ c. chip_after nano (incoming c) (chip_at chips c))
    (λ c h. same_chip nano (along_chain nano (chip_at chips c)) (incoming c) (chip_at chips c)
    (λ p k takes. absurd (true≢false (sym takes ∙ alone))))

-- a store into another flag leaves flag ZERO
pub zero_kept : (nano : Nano) (stride chips : ℕ) (memory flags flags_new : List ℕ)
    → AreRows memory flags stride chips → nano.write ≢ 8 → IsRowChanged nano.write stride chips flags flags_new
    → (c : ℕ) → c < chips → get_or flags_new (8 * stride + c) 0 ≡ 0
zero_kept nano stride chips memory flags flags_new rows other changed c h = ⊎_elim
    (λ (before : nano.write < 8). let far : nano.write * stride + stride ≤ 8 * stride =
    next_row nano.write 8 stride before in
    let few : chips ≤ stride = rows.within in
    changed.above (8 * stride + c) (omega arith) ∙ rows.zero c h)
    (λ (from : 8 ≤ nano.write). let after : 8 < nano.write = omega arith in
    let far : 8 * stride + stride ≤ nano.write * stride = next_row 8 nano.write stride after in
    let few : chips ≤ stride = rows.within in
    changed.below (8 * stride + c) (omega arith) ∙ rows.zero c h)
    (cases_lt nano.write 8)

-- flag ZERO takes nothing in
pub taker_is_not_zero : (nano : Nano) → takes_incoming nano ≡ true → nano.write ≢ 8
taker_is_not_zero nano taken e =
    let wrong : (8 == 10) ≡ true = sym (ap (λ (w : ℕ). w == 10 || w == 11) e) ∙ taken in
    let same : 8 ≡ 10 = eqb-true 8 10 wrong in
    omega (arith, same)

-- where a flag takes in
pub chip_taken : (nano : Nano) (always : Bool) (memory flags memory_new flags_new merged : List ℕ) (stride chips c : ℕ)
    (at : Places) (incoming : List ℕ)
    → IsChipStep nano always memory flags memory_new stride chips c at → takes_incoming nano ≡ true
    → length incoming ≡ chips
    → AreMerged nano.sense at flags incoming merged → get_or flags_new (at.write + c) 0 ≡ get_or merged c 0
    → IsRowChanged nano.write stride chips flags flags_new
    → chip_of_rows memory_new flags_new stride c
    ≡ chip_after nano (bit (get_or incoming c 0)) (chip_of_rows memory flags stride c)
chip_taken nano always memory flags memory_new flags_new merged stride chips c at incoming step
    taken long are put changed =
    stored_bits nano (chip_column memory stride 4096 c) (chip_column flags stride 16 c) (chip_column memory_new stride 4096 c)
    (chip_column flags_new stride 16 c) (bit (get_or incoming c 0))
    (memory_stored nano always memory flags memory_new stride chips c at step)
    (λ p h. ap (λ planes. map (λ plane. bit plane p) planes) (chip_column-changed nano.write stride chips 16 c flags
    flags_new step.rows.within step.here step.places.write_below changed)
    ∙ flags-set nano (chip_column flags stride 16 c) (get_or flags_new (nano.write * stride + c) 0) p
    (if takes_incoming nano then bit (get_or incoming c 0) p else own p)
    (holds nano (processor_in (chip_column memory stride 4096 c) (chip_column flags stride 16 c) p)) other
    (word p h
    ∙ ap (λ (t : Bool). cond (holds nano (processor_in (chip_column memory stride 4096 c) (chip_column flags stride 16 c) p))
    (if t then bit (get_or incoming c 0) p else own p) (bit (get_or (chip_column flags stride 16 c) nano.write 0) p))
    (sym taken))) where
      own : ℕ → Bool
      own p = flag_output nano (processor_in (chip_column memory stride 4096 c) (chip_column flags stride 16 c) p)

      other : (nano.write == 8) ≡ false
      other = ne_eqb nano.write 8 (taker_is_not_zero nano taken)

      here : c < length incoming
      here = omega (arith, long, step.here)

      cond_is : get_or flags (at.cond + c) 0 ≡ get_or (chip_column flags stride 16 c) nano.cond 0
      cond_is = ap (λ (i : ℕ). get_or flags (i + c) 0) step.places.cond
          ∙ sym (get_or-chip_column flags stride 16 c nano.cond step.places.cond_below)

      old_is : get_or flags (at.write + c) 0 ≡ get_or (chip_column flags stride 16 c) nano.write 0
      old_is = ap (λ (i : ℕ). get_or flags (i + c) 0) step.places.write
          ∙ sym (get_or-chip_column flags stride 16 c nano.write step.places.write_below)

      word : (p : ℕ) → p < 16 → bit (get_or flags_new (nano.write * stride + c) 0) p
          ≡ cond (holds nano (processor_in (chip_column memory stride 4096 c) (chip_column flags stride 16 c) p))
          (bit (get_or incoming c 0) p) (bit (get_or (chip_column flags stride 16 c) nano.write 0) p)
      word p h =
          ap (λ (w : ℕ). bit w p) (ap (λ (i : ℕ). get_or flags_new (i + c) 0) (sym step.places.write) ∙ put)
          ∙ are.each c here p h
          ∙ (λ j. cond (beq (bit (cond_is j) p) nano.sense) (bit (get_or incoming c 0) p) (bit (old_is j) p))
          ∙ ap (λ b. cond (beq b nano.sense) (bit (get_or incoming c 0) p) (bit (get_or (chip_column flags stride 16 c)
          nano.write 0) p)) (sym (bit_in_row (chip_column flags stride 16 c) nano.cond p))

-- what a table gives a chip
pub chip_looked_up : (table : ℕ) (nano : Nano) (memory flags : List ℕ) (stride chips c : ℕ) (at : Places) (word p : ℕ)
    → ArePlaces nano stride at → c < chips → p < 16
    → bit word p ≡ entry table (bit (get_or memory (at.a + c) 0) p) (bit (get_or memory (at.b + c) 0) p)
    (bit (get_or flags (at.read + c) 0) p)
    → bit word p ≡ entry table (memory_bit (processor_at (get_or (chips_of memory flags stride chips) c []) p) nano.a)
    (memory_bit (processor_at (get_or (chips_of memory flags stride chips) c []) p) nano.b)
    (flag (processor_at (get_or (chips_of memory flags stride chips) c []) p) nano.read)
chip_looked_up table nano memory flags stride chips c at word p places here h is =
    is
    ∙ (λ j. entry table (bit (a_is j) p) (bit (b_is j) p) (bit (f_is j) p))
    ∙ (λ j. entry table (sym (memory_bit-chip_of (chip_column memory stride 4096 c) (chip_column flags stride 16 c) p nano.a h) j)
    (sym (memory_bit-chip_of (chip_column memory stride 4096 c) (chip_column flags stride 16 c) p nano.b h) j)
    (sym (flag-chip_of (chip_column memory stride 4096 c) (chip_column flags stride 16 c) p nano.read h) j))
    ∙ ap (λ chip. entry table (memory_bit (processor_at chip p) nano.a) (memory_bit (processor_at chip p) nano.b)
    (flag (processor_at chip p) nano.read)) (sym (chip_at-chips_of memory flags stride chips c here)) where
      a_is : get_or memory (at.a + c) 0 ≡ get_or (chip_column memory stride 4096 c) nano.a 0
      a_is = ap (λ (i : ℕ). get_or memory (i + c) 0) places.a
          ∙ sym (get_or-chip_column memory stride 4096 c nano.a places.a_below)

      b_is : get_or memory (at.b + c) 0 ≡ get_or (chip_column memory stride 4096 c) nano.b 0
      b_is = ap (λ (i : ℕ). get_or memory (i + c) 0) places.b
          ∙ sym (get_or-chip_column memory stride 4096 c nano.b places.b_below)

      f_is : get_or flags (at.read + c) 0 ≡ get_or (chip_column flags stride 16 c) nano.read 0
      f_is = ap (λ (i : ℕ). get_or flags (i + c) 0) places.read
          ∙ sym (get_or-chip_column flags stride 16 c nano.read places.read_below)

-- where the condition of a chip's processors holds
pub chip_holds : (nano : Nano) (memory flags : List ℕ) (stride chips c : ℕ) (at : Places) (word p : ℕ)
    → ArePlaces nano stride at → c < chips → p < 16
    → bit word p ≡ beq (bit (get_or flags (at.cond + c) 0) p) nano.sense
    → bit word p ≡ holds nano (processor_at (get_or (chips_of memory flags stride chips) c []) p)
chip_holds nano memory flags stride chips c at word p places here h is =
    is
    ∙ ap (λ (w : ℕ). beq (bit w p) nano.sense) (ap (λ (i : ℕ). get_or flags (i + c) 0) places.cond
    ∙ sym (get_or-chip_column flags stride 16 c nano.cond places.cond_below))
    ∙ ap (λ b. beq b nano.sense)
    (sym (flag-chip_of (chip_column memory stride 4096 c) (chip_column flags stride 16 c) p nano.cond h))
    ∙ ap (λ chip. holds nano (processor_at chip p)) (sym (chip_at-chips_of memory flags stride chips c here))
