-- What is delivered to a processor reads back from its memory.
use Rattle.std.proofs.Common.{◌≡◌, ℕ, ◌+◌, ◌%◌, ◌<◌, ◌≤◌, ◌^◌, Bool, true, false, List, ◌++◌, length, take, drop}
use Rattle.std.proofs.Common.{Option, Some, sym, ◌∙◌, ap, subst, arith}
use Rattle.std.proofs.lemmas.List.{length-take-le, drop_at, take_at, get_or-set_same}
use Rattle.std.proofs.Math.Nat.{mod-eq_of_lt, div-one}
use Rattle.std.specs.List.{find}
use Rattle.cm_model.specs.declared.letters.TheConstants.{RECEIVED_PAYLOAD}
use Rattle.cm_model.specs.declared.message.Message.{Message}
use Rattle.cm_model.specs.Processor.{Processor, RECV, value, field_value}
use Rattle.cm_model.specs.Chip.{processor_at, no_processor}
use Rattle.cm_model.specs.Whole.{IsProcessor, IsChip}
use Rattle.cm_model.specs.Letters.{is_for, bits_of, with_field, processor_after_delivery}
use Rattle.cm_model.specs.Letters.{chip_after_delivery, HasReceived}
use Rattle.cm_model.proofs.Each.{get_or-each_below}
use Rattle.cm_model.proofs.Values.{value-bits}
use Rattle.cm_model.proofs.Wholes.{length-bits_of}

-- a field that was written reads as its lowest bits
pub value-with_field : (memory : List Bool) (at len number : ℕ) → at + len ≤ length memory
    → value (take len (drop at (with_field memory at len number))) ≡ number % 2 ^ len
unfolding with_field
value-with_field memory at len number h =
    let long : length (take at memory) ≡ at = length-take-le at memory (omega arith) in
    ap (λ bs. value (take len bs)) (drop_at (take at memory) (bits_of len number ++ drop (at + len) memory) at long)
    ∙ (ap value (take_at (bits_of len number) (drop (at + len) memory) len (length-bits_of len number))
    ∙ (value-bits len 0 number ∙ ap (λ (q : ℕ). q % 2 ^ len) (div-one number)))

received : (m : Message) (processor : Processor) → IsProcessor processor → m.payload < 2 ^ 32
    → HasReceived m (processor_after_delivery (Some m) processor)
unfolding field_value
received m processor h small =
    let long : length processor.memory ≡ 4096 = h.memory in
    let flags : length processor.flags ≡ 16 = h.flags in
    record {
      payload = value-with_field processor.memory RECEIVED_PAYLOAD 32 m.payload (omega arith) ∙ mod-eq_of_lt small;
      flag = get_or-set_same processor.flags RECV true false (omega arith);
    }

-- each message that is delivered is received by the processor that it is for
pub payloads_are_received : (chip : List Processor) (delivered : List Message) (p : ℕ) (m : Message) → IsChip chip
    → p < 16 → m.payload < 2 ^ 32 →
    find (is_for p) delivered ≡ Some m → HasReceived m (processor_at (chip_after_delivery delivered chip) p)
unfolding chip_after_delivery
payloads_are_received chip delivered p m h l small e =
    subst (λ (q : Processor). HasReceived m q)
    (sym (get_or-each_below 16 (λ k. processor_after_delivery (find (is_for k) delivered) (processor_at chip k)) p
    no_processor l
    ∙ ap (λ (o : Option Message). processor_after_delivery o (processor_at chip p)) e))
    (received m (processor_at chip p) (h.each p l) small)
