-- Injection and delivery at a part are those of the whole there.
use Rattle.std.proofs.Common.{◌≡◌, ℕ, ◌+◌, ◌<◌, ◌≤◌, ◌^◌, [], ◌++◌, length, map, sym, arith}
use Rattle.cm_model.specs.declared.message.Event.TheVariants.{Injected, Delivered}
use Rattle.cm_model.specs.Array.{chip_at, nth_or_nil}
use Rattle.cm_model.specs.Letters.{senders_taken, messages_sent, chip_after_injection, can_receive, chip_after_delivery}
use Rattle.cm_model.specs.Machine.{Machine}
use Rattle.cm_model.specs.Steps.{Inject, Deliver}
use Rattle.cm_model.specs.Buffers.{taken_in, sent_in, machine_after_injection}
use Rattle.cm_model.specs.OneChip.{delivered}
use Rattle.cm_model.specs.Buffers.{delivered_in, machine_after_delivery}
use Rattle.cm_model.specs.OneChip.{kept}
use Rattle.cm_blocks.specs.Parts.{Part, part, chip_in, buffer_in, log_in}
use Rattle.cm_blocks.specs.Parcels.{Parcel}
use Rattle.cm_blocks.specs.Steps.{taken_of, sent_of, delivered_of, part_after}
use Rattle.cm_blocks.proofs.Cutting.{read-sliced, sliced-same}

-- what a part reads of a chip of its own is what the whole has there
pub read-chip : (first count : ℕ) (machine : Machine) (c : ℕ) → first ≤ c → c < first + count
    → chip_in (part first count machine) c ≡ chip_at machine.chips c
unfolding part
read-chip first count machine c from below = read-sliced first count machine.chips c [] from below

pub read-buffer : (first count : ℕ) (machine : Machine) (c : ℕ) → first ≤ c → c < first + count
    → buffer_in (part first count machine) c ≡ nth_or_nil machine.buffers c
unfolding part
read-buffer first count machine c from below = read-sliced first count machine.buffers c [] from below

pub read-log : (first count : ℕ) (machine : Machine) (c : ℕ) → first ≤ c → c < first + count
    → log_in (part first count machine) c ≡ nth_or_nil machine.logs c
unfolding part
read-log first count machine c from below = read-sliced first count machine.logs c [] from below

pub part-injection : (n cap first count : ℕ) (machine : Machine) (parcel : Parcel) → first + count ≤ 2 ^ n
    → part first count (machine_after_injection n cap machine)
    ≡ part_after n cap Inject parcel (part first count machine)
unfolding part machine_after_injection part_after
part-injection n cap first count machine parcel h =
    let s : Part = part first count machine in
    let chip : (i : ℕ) → i < count → chip_in s (first + i) ≡ chip_at machine.chips (first + i) =
    λ i l. read-chip first count machine (first + i) (omega arith) (omega arith) in
    let here : (i : ℕ) → i < count → buffer_in s (first + i) ≡ nth_or_nil machine.buffers (first + i) =
    λ i l. read-buffer first count machine (first + i) (omega arith) (omega arith) in
    let told : (i : ℕ) → i < count → log_in s (first + i) ≡ nth_or_nil machine.logs (first + i) =
    λ i l. read-log first count machine (first + i) (omega arith) (omega arith) in
    let chips = sliced-same [] first count (2 ^ n)
    (λ c. chip_after_injection (taken_in cap machine c) (chip_at machine.chips c))
    (λ c. chip_after_injection (taken_of cap s c) (chip_in s c)) h
    (λ i l. λ j. chip_after_injection (senders_taken cap (length (sym (here i l) j)) (sym (chip i l) j))
    (sym (chip i l) j)) in
    let buffers = sliced-same [] first count (2 ^ n)
    (λ c. nth_or_nil machine.buffers c ++ sent_in n cap machine c)
    (λ c. buffer_in s c ++ sent_of n cap s c) h
    (λ i l. λ j. sym (here i l) j ++ messages_sent n machine.clock (first + i) (sym (chip i l) j)
    (senders_taken cap (length (sym (here i l) j)) (sym (chip i l) j))) in
    let logs = sliced-same [] first count (2 ^ n)
    (λ c. nth_or_nil machine.logs c ++ map Injected (sent_in n cap machine c))
    (λ c. log_in s c ++ map Injected (sent_of n cap s c)) h
    (λ i l. λ j. sym (told i l) j ++ map Injected (messages_sent n machine.clock (first + i) (sym (chip i l) j)
    (senders_taken cap (length (sym (here i l) j)) (sym (chip i l) j)))) in
    λ j. record {
      first = first;
      count = count;
      chips = chips j;
      buffers = buffers j;
      logs = logs j;
      clock = machine.clock;
      routing = machine.routing;
    }

pub part-delivery : (n cap first count : ℕ) (machine : Machine) (parcel : Parcel) → first + count ≤ 2 ^ n
    → part first count (machine_after_delivery n machine) ≡ part_after n cap Deliver parcel (part first count machine)
unfolding part machine_after_delivery part_after
part-delivery n cap first count machine parcel h =
    let s : Part = part first count machine in
    let chip : (i : ℕ) → i < count → chip_in s (first + i) ≡ chip_at machine.chips (first + i) =
    λ i l. read-chip first count machine (first + i) (omega arith) (omega arith) in
    let here : (i : ℕ) → i < count → buffer_in s (first + i) ≡ nth_or_nil machine.buffers (first + i) =
    λ i l. read-buffer first count machine (first + i) (omega arith) (omega arith) in
    let told : (i : ℕ) → i < count → log_in s (first + i) ≡ nth_or_nil machine.logs (first + i) =
    λ i l. read-log first count machine (first + i) (omega arith) (omega arith) in
    let chips = sliced-same [] first count (2 ^ n)
    (λ c. chip_after_delivery (delivered_in machine c) (chip_at machine.chips c))
    (λ c. chip_after_delivery (delivered_of s c) (chip_in s c)) h
    (λ i l. λ j. chip_after_delivery (delivered (can_receive (sym (chip i l) j)) [] (sym (here i l) j))
    (sym (chip i l) j)) in
    let buffers = sliced-same [] first count (2 ^ n)
    (λ c. kept (can_receive (chip_at machine.chips c)) [] (nth_or_nil machine.buffers c))
    (λ c. kept (can_receive (chip_in s c)) [] (buffer_in s c)) h
    (λ i l. λ j. kept (can_receive (sym (chip i l) j)) [] (sym (here i l) j)) in
    let logs = sliced-same [] first count (2 ^ n)
    (λ c. nth_or_nil machine.logs c ++ map (λ m. Delivered c m) (delivered_in machine c))
    (λ c. log_in s c ++ map (λ m. Delivered c m) (delivered_of s c)) h
    (λ i l. λ j. sym (told i l) j ++ map (λ m. Delivered (first + i) m)
    (delivered (can_receive (sym (chip i l) j)) [] (sym (here i l) j))) in
    λ j. record {
      first = first;
      count = count;
      chips = chips j;
      buffers = buffers j;
      logs = logs j;
      clock = machine.clock + 1;
      routing = machine.routing;
    }
