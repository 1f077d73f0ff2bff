-- The messages of a chip: a turn of the loop, a fault, and the end.
use Rattle.std.proofs.Common.{◌≡◌, ℕ, ◌+◌, ◌-◌, ◌<◌, ◌≤◌, ◌^◌, List, [], ◌∷◌, ◌++◌, length, fold}
use Rattle.std.proofs.Common.{None, Ok, Err, refl, sym, ap, ◌∙◌, subst, arith, nat_le}
use Rattle.std.specs.Int.{w8}
use Rattle.std.proofs.lemmas.Bool.{le-leb}
use Rattle.std.proofs.lemmas.List.{length-set, length_push, get_or-set_same}
use Rattle.cm_model.specs.declared.message.Message.{Message}
use Rattle.cm_model.specs.Array.{nth_or_nil}
use Rattle.cm_model.specs.Machine.{Machine}
use Rattle.cm_array.specs.Pokes.{machine_with_message}
use Rattle.cm_image_format.specs.declared.fault.ImageFault.{ImageFault}
use Rattle.cm_image_format.specs.declared.fault.ImageFault.TheVariants.{Count}
use Rattle.cm_image_format.specs.Reading.{must, number_at, made}
use Rattle.cm_image_format.specs.Image.{message_part, messages_part}
use Rattle.cm_image_fields.proofs.Filling.{fill, fill_on, counted_err, counted_all}
use Rattle.cm_image_load.specs.Chips.{with_message}

abbrev pub same_place : ℕ → Message → ℕ
same_place i m = i

-- the loop from here on, with this machine, gives what it gave at the start, and so many messages stand at the chip
pub record IsStanding (n c clock count i : ℕ) (machine : Machine) (rest : List ℕ) (first : Machine)
    (bytes : List ℕ) : Type 0 where
  pub same : fill same_place (λ k. message_part n clock) (with_message c) (count - i) 0 machine rest
      ≡ fill same_place (λ k. message_part n clock) (with_message c) count 0 first bytes
  pub buffer_count : length machine.buffers ≡ 2 ^ n
  pub standing : length (nth_or_nil machine.buffers c) ≡ i
  pub counter : machine.clock ≡ clock

pub no_more : (cap count : ℕ) → count ≤ cap → must Count (λ k. nat_le k cap) count ≡ None
no_more cap count h = rw (le-leb count cap h) refl

pub messages_on : (n c clock count i : ℕ) (m : Message) (machine after_one first : Machine)
    (rest after bytes : List ℕ) → c < 2 ^ n → i < count → IsStanding n c clock count i machine rest first bytes
    → message_part n clock rest ≡ Ok (m, after) → after_one ≡ machine_with_message machine c m
    → IsStanding n c clock count (i + 1) after_one after first bytes
messages_on n c clock count i m machine after_one first rest after bytes below h standing is put =
    let buffer : List Message = nth_or_nil machine.buffers c in
    subst (λ (z : Machine). IsStanding n c clock count (i + 1) z after first bytes) (sym put) (record {
      same = sym (fill_on same_place (λ k. message_part n clock) (with_message c) count i 0 machine rest after m h is)
          ∙ standing.same;
      buffer_count = length-set machine.buffers c (buffer ++ m ∷ []) ∙ standing.buffer_count;
      standing = ap length (get_or-set_same machine.buffers c (buffer ++ m ∷ []) []
          (omega (arith, standing.buffer_count))) ∙ (length_push buffer m ∙ ap (λ (k : ℕ). k + 1) standing.standing);
      counter = standing.counter;
    })

pub messages_err : (n cap c clock count i : ℕ) (machine first : Machine) (rest after bytes : List ℕ)
    (fault : ImageFault) → i < count → count ≤ cap → number_at w8 bytes ≡ Ok (count, after)
    → IsStanding n c clock count i machine rest first after → message_part n clock rest ≡ Err fault
    → messages_part n cap clock bytes ≡ Err fault
messages_err n cap c clock count i machine first rest after bytes fault h most is standing wrong =
    counted_err w8 (must Count (λ k. nat_le k cap)) same_place (λ k. message_part n clock)
    (with_message c) count i 0 0 machine first rest after bytes fault h (no_more cap count most) is standing.same wrong

pub messages_all : (n cap c clock count i : ℕ) (machine first : Machine) (rest after bytes : List ℕ) → count ≤ i
    → count ≤ cap → number_at w8 bytes ≡ Ok (count, after)
    → IsStanding n c clock count i machine rest first after
    → made (λ messages. fold (with_message c) first messages) (messages_part n cap clock) bytes ≡ Ok (machine, rest)
messages_all n cap c clock count i machine first rest after bytes h most is standing =
    counted_all w8 (must Count (λ k. nat_le k cap)) same_place (λ k. message_part n clock)
    (with_message c) count i 0 0 machine first rest after bytes h (no_more cap count most) is standing.same
