-- Every step keeps a chip whole: sixteen processors with all their bits and flags, and flag ZERO at 0.
use Rattle.std.proofs.Common.{◌≡◌, ℕ, ◌+◌, ◌<◌, ◌≤◌, Bool, true, false, eqb, List, ◌++◌, length, get_or, set, take}
use Rattle.std.proofs.Common.{drop, Option, Some, None, refl, sym, ◌∙◌, subst, arith}
use Rattle.std.proofs.lemmas.Bool.{cond_both, eqb-false}
use Rattle.std.proofs.lemmas.List.{length-set, length-append, length-take, length-drop, get_or-set_other}
use Rattle.std.proofs.lemmas.List.FromFn.{length-map-range_with_len}
use Rattle.std.specs.Prelude.{slice_set, if◌then◌else◌}
use Rattle.std.specs.List.{find}
use Rattle.cm_bits.specs.Bit.{bit}
use Rattle.cm_model.specs.declared.letters.TheConstants.{RECEIVED_PAYLOAD}
use Rattle.cm_model.specs.declared.act.Nano.{Nano}
use Rattle.cm_model.specs.declared.message.Message.{Message}
use Rattle.cm_model.specs.Processor.{Processor, ZERO, SEND, ACK, RECV}
use Rattle.cm_model.specs.Each.{tabulate}
use Rattle.cm_model.specs.Instruction.{holds, memory_output, flag_output, takes_incoming, flags_after, processor_after}
use Rattle.cm_model.specs.Chip.{processor_at, no_processor, chip_after}
use Rattle.cm_model.specs.Whole.{IsProcessor, IsChip}
use Rattle.cm_model.specs.Letters.{is_among, is_for, bits_of, with_field, processor_after_injection}
use Rattle.cm_model.specs.Letters.{chip_after_injection, processor_after_delivery, chip_after_delivery}
use Rattle.cm_model.proofs.Each.{length-tabulate, get_or-each_below}

-- ---- flags

-- a store into another flag than ZERO
zero_stays : (flags : List Bool) (number : ℕ) (stored : Bool) → (8 ≡ number → ⊥) → get_or flags 8 false ≡ false
    → get_or (set flags number stored) 8 false ≡ false
zero_stays flags number stored other h = get_or-set_other flags number 8 stored false other ∙ h

length-flags_after : (nano : Nano) (stored : Bool) (flags : List Bool)
    → length (flags_after nano stored flags) ≡ length flags
length-flags_after nano stored flags =
    cond_both (eqb nano.write ZERO) flags (slice_set flags nano.write stored) (λ fs. length fs ≡ length flags)
    (λ e. refl) (λ e. length-set flags nano.write stored)

zero-flags_after : (nano : Nano) (stored : Bool) (flags : List Bool) → get_or flags 8 false ≡ false
    → get_or (flags_after nano stored flags) 8 false ≡ false
zero-flags_after nano stored flags h =
    cond_both (eqb nano.write ZERO) flags (slice_set flags nano.write stored) (λ fs. get_or fs 8 false ≡ false) (λ e. h)
    (λ e. zero_stays flags nano.write stored (λ same. eqb-false nano.write ZERO e (sym same)) h)

-- ---- one processor

pub IsProcessor-after : (nano : Nano) (incoming : Bool) (processor : Processor) → IsProcessor processor
    → IsProcessor (processor_after nano incoming processor)
unfolding processor_after
IsProcessor-after nano incoming processor h =
    let stored : Bool = if takes_incoming nano then incoming else flag_output nano processor in
    let next : Processor = record {
      memory = slice_set processor.memory nano.a (memory_output nano processor);
      flags =
          flags_after nano stored processor.flags;
    } in
    let kept : IsProcessor next = record {
      memory = length-set processor.memory nano.a (memory_output nano processor) ∙ h.memory;
      flags = length-flags_after nano stored processor.flags ∙ h.flags;
      zero = zero-flags_after nano stored processor.flags h.zero;
    } in
    cond_both (holds nano processor) next processor (λ (q : Processor). IsProcessor q) (λ e. kept) (λ e. h)

pub IsProcessor-after_injection : (was_taken : Bool) (processor : Processor) → IsProcessor processor
    → IsProcessor (processor_after_injection was_taken processor)
IsProcessor-after_injection true processor h = record {
  memory = h.memory;
  flags = length-set (slice_set processor.flags SEND false) ACK true
      ∙ (length-set processor.flags SEND false ∙ h.flags);
  zero = zero_stays (slice_set processor.flags SEND false) ACK true (λ e. omega (arith, e))
      (zero_stays processor.flags SEND false (λ e. omega (arith, e)) h.zero);
}
IsProcessor-after_injection false processor h = record {
  memory = h.memory;
  flags = length-set processor.flags ACK false ∙ h.flags;
  zero = zero_stays processor.flags ACK false (λ e. omega (arith, e)) h.zero;
}

pub length-bits_of : (count number : ℕ) → length (bits_of count number) ≡ count
length-bits_of count number = length-map-range_with_len (bit number) 0 count

pub length-with_field : (memory : List Bool) (at len number : ℕ) → at + len ≤ length memory
    → length (with_field memory at len number) ≡ length memory
unfolding with_field
length-with_field memory at len number h =
    omega (
      arith,
      length-append (take at memory) (bits_of len number ++ drop (at + len) memory),
      length-append (bits_of len number) (drop (at + len) memory),
      length-take at memory,
      length-bits_of len number,
      length-drop (at + len) memory,
    )

pub IsProcessor-after_delivery : (delivered : Option Message) (processor : Processor) → IsProcessor processor
    → IsProcessor (processor_after_delivery delivered processor)
IsProcessor-after_delivery None processor h = h
IsProcessor-after_delivery (Some m) processor h =
    let long : length processor.memory ≡ 4096 = h.memory in
    record {
      memory = length-with_field processor.memory RECEIVED_PAYLOAD 32 m.payload (omega arith) ∙ long;
      flags = length-set processor.flags RECV true ∙ h.flags;
      zero = zero_stays processor.flags RECV true (λ e. omega (arith, e)) h.zero;
    }

-- ---- one chip

-- a chip that is made processor by processor
made_chip : (f : ℕ → Processor) → ((p : ℕ) → p < 16 → IsProcessor (f p)) → IsChip (tabulate 0 16 f)
made_chip f h = record {
  count = length-tabulate 0 16 f;
  each = λ p l. subst (λ (q : Processor). IsProcessor q) (sym (get_or-each_below 16 f p no_processor l)) (h p l);
}

pub IsChip-after : (nano : Nano) (incoming : ℕ → Bool) (chip : List Processor) → IsChip chip
    → IsChip (chip_after nano incoming chip)
unfolding chip_after
IsChip-after nano incoming chip h =
    made_chip (λ p. processor_after nano (incoming p) (processor_at chip p))
    (λ p l. IsProcessor-after nano (incoming p) (processor_at chip p) (h.each p l))

pub IsChip-after_injection : (ps : List ℕ) (chip : List Processor) → IsChip chip → IsChip (chip_after_injection ps chip)
unfolding chip_after_injection
IsChip-after_injection ps chip h =
    made_chip (λ p. processor_after_injection (is_among p ps) (processor_at chip p))
    (λ p l. IsProcessor-after_injection (is_among p ps) (processor_at chip p) (h.each p l))

pub IsChip-after_delivery : (ms : List Message) (chip : List Processor) → IsChip chip
    → IsChip (chip_after_delivery ms chip)
unfolding chip_after_delivery
IsChip-after_delivery ms chip h =
    made_chip (λ p. processor_after_delivery (find (is_for p) ms) (processor_at chip p))
    (λ p l. IsProcessor-after_delivery (find (is_for p) ms) (processor_at chip p) (h.each p l))
