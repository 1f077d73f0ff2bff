-- Every act keeps a machine what it is.
use Rattle.std.proofs.Common.{◌≡◌, ℕ, ◌<◌, ◌^◌, List, [], ◌∷◌, ◌++◌, length, map, sym, subst}
use Rattle.std.proofs.lemmas.List.Elements.{All-append}
use Rattle.std.specs.Prelude.{bit_xor}
use Rattle.std.specs.List.{All}
use Rattle.cm_model.specs.declared.act.Nano.{Nano}
use Rattle.cm_model.specs.declared.act.Act.{Act}
use Rattle.cm_model.specs.declared.message.Message.{Message}
use Rattle.cm_model.specs.declared.message.Event.{Event}
use Rattle.cm_model.specs.declared.message.Event.TheVariants.{Injected, Delivered}
use Rattle.cm_model.specs.Processor.{Processor}
use Rattle.cm_model.specs.Chip.{chip_after}
use Rattle.cm_model.specs.Whole.{IsChip}
use Rattle.cm_model.specs.Array.{each_chip, chip_at, incoming, after_nano, nth_or_nil}
use Rattle.cm_model.specs.Letters.{chip_after_injection, chip_after_delivery, can_receive}
use Rattle.cm_model.specs.Steps.{Step, Instruct, Look, Inject, Cross, Deliver, IsStep, steps_of}
use Rattle.cm_model.specs.Machine.{Machine, run_of}
use Rattle.cm_model.specs.Wiring.{way_of}
use Rattle.cm_model.specs.Buffers.{taken_in, sent_in, machine_after_injection, sent_across, buffer_after_dimension}
use Rattle.cm_model.specs.Buffers.{machine_after_dimension, delivered_in, machine_after_delivery, after_step}
use Rattle.cm_model.specs.OneChip.{kept}
use Rattle.cm_model.specs.Buffers.{after_steps, after_act, after_acts}
use Rattle.cm_model.specs.Account.{account, all_injected, HasLines}
use Rattle.cm_model.specs.Keeping.{IsMessage, IsEventOf, BornBefore, HasTagsOnce, IsSound, IsMachine}
use Rattle.cm_model.proofs.Each.{length-tabulate, get_or-each_below}
use Rattle.cm_model.proofs.Flips.{across_below}
use Rattle.cm_model.proofs.Injecting.{AllBelow-taken}
use Rattle.cm_model.proofs.Runs.{run_of-one, run_of-acted}
use Rattle.cm_model.proofs.Rooms.{HasRoom-after_injection, HasRoom-after_dimension, HasRoom-after_delivery}
use Rattle.cm_model.proofs.Accounting.{AreSteps, AreSteps-act, injected_stand_in_the_account}
use Rattle.cm_model.proofs.Tags.{tags_stay_once, births_stay_before}
use Rattle.cm_model.proofs.Wholes.{IsChip-after, IsChip-after_injection, IsChip-after_delivery}
use Rattle.cm_model.proofs.Messages.{AllMessages-sent, AllMessages-after_dimension, AllMessages-kept}
use Rattle.cm_model.proofs.Messages.{AllEvents-sent, AllEvents-delivered}

-- chips that are made one by one
made_whole : (n : ℕ) (f : ℕ → List Processor) → ((c : ℕ) → c < 2 ^ n → IsChip (f c)) → (c : ℕ) → c < 2 ^ n
    → IsChip (chip_at (each_chip n f) c)
made_whole n f h c l = subst (λ (chip : List Processor). IsChip chip) (sym (get_or-each_below (2 ^ n) f c [] l)) (h c l)

made_messages : (n : ℕ) (f : ℕ → List Message) → ((c : ℕ) → c < 2 ^ n → All (IsMessage n) (f c)) → (c : ℕ) → c < 2 ^ n
    → All (IsMessage n) (nth_or_nil (each_chip n f) c)
made_messages n f h c l =
    subst (λ (ms : List Message). All (IsMessage n) ms) (sym (get_or-each_below (2 ^ n) f c [] l)) (h c l)

made_events : (n : ℕ) (f : ℕ → List Event) → ((c : ℕ) → c < 2 ^ n → All (IsEventOf n c) (f c)) → (c : ℕ) → c < 2 ^ n
    → All (IsEventOf n c) (nth_or_nil (each_chip n f) c)
made_events n f h c l = subst (λ (es : List Event). All (IsEventOf n c) es) (sym (get_or-each_below (2 ^ n) f c [] l))
    (h c l)

sound-nano : (n cap : ℕ) (machine : Machine) (nano : Nano) → IsSound n cap machine
    → IsSound n cap (record machine { chips = after_nano n nano machine.chips })
unfolding after_nano
sound-nano n cap machine nano h =
    let f : ℕ → List Processor = λ c. chip_after nano (incoming n nano machine.chips c) (chip_at machine.chips c) in
    record {
      chip_count = length-tabulate 0 (2 ^ n) f;
      buffer_count = h.buffer_count;
      log_count = h.log_count;
      whole = made_whole n f
          (λ c l. IsChip-after nano (incoming n nano machine.chips c) (chip_at machine.chips c) (h.whole c l));
      room = h.room;
      messages = h.messages;
      events = h.events;
      routing = h.routing;
    }

sound-injection : (n cap : ℕ) (machine : Machine) → IsSound n cap machine
    → IsSound n cap (machine_after_injection n cap machine)
unfolding machine_after_injection
sound-injection n cap machine h =
    let chips : ℕ → List Processor = λ c. chip_after_injection (taken_in cap machine c) (chip_at machine.chips c) in
    let buffers : ℕ → List Message = λ c. nth_or_nil machine.buffers c ++ sent_in n cap machine c in
    let logs : ℕ → List Event = λ c. nth_or_nil machine.logs c ++ map Injected (sent_in n cap machine c) in
    record {
      chip_count = length-tabulate 0 (2 ^ n) chips;
      buffer_count = length-tabulate 0 (2 ^ n) buffers;
      log_count = length-tabulate 0 (2 ^ n) logs;
      whole = made_whole n chips
          (λ c l. IsChip-after_injection (taken_in cap machine c) (chip_at machine.chips c) (h.whole c l));
      room = HasRoom-after_injection n cap machine h.room;
      messages = made_messages n buffers
          (λ c l. All-append (IsMessage n) (nth_or_nil machine.buffers c) (sent_in n cap machine c) (h.messages c l)
          (AllMessages-sent n machine.clock c (chip_at machine.chips c) (taken_in cap machine c) l
          (AllBelow-taken cap (length (nth_or_nil machine.buffers c)) (chip_at machine.chips c))));
      routing = h.routing;
      events = made_events n logs
          (λ c l. All-append (IsEventOf n c) (nth_or_nil machine.logs c) (map Injected (sent_in n cap machine c))
          (h.events c l)
          (AllEvents-sent n machine.clock c (chip_at machine.chips c) (taken_in cap machine c) l
          (AllBelow-taken cap (length (nth_or_nil machine.buffers c)) (chip_at machine.chips c))));
    }

sound-dimension : (n cap d : ℕ) (machine : Machine) → d < n → IsSound n cap machine
    → IsSound n cap (machine_after_dimension n cap d machine)
unfolding machine_after_dimension
sound-dimension n cap d machine below h =
    let buffers : ℕ → List Message =
    λ c. buffer_after_dimension (way_of machine.routing c d) cap d (nth_or_nil machine.buffers c)
    (sent_across machine.routing cap d machine.buffers (bit_xor c (2 ^ d))) in
    record {
      chip_count = h.chip_count;
      buffer_count = length-tabulate 0 (2 ^ n) buffers;
      log_count = h.log_count;
      whole = h.whole;
      room = HasRoom-after_dimension n cap d machine below h.room;
      messages = made_messages n buffers
          (λ c l. AllMessages-after_dimension (way_of machine.routing c d) (way_of machine.routing (bit_xor c (2 ^ d)) d) n cap d
          (nth_or_nil machine.buffers c)
          (nth_or_nil machine.buffers (bit_xor c (2 ^ d))) below
          (h.messages c l) (h.messages (bit_xor c (2 ^ d)) (across_below n d c below l)));
      events = h.events;
      routing = h.routing;
    }

sound-delivery : (n cap : ℕ) (machine : Machine) → IsSound n cap machine
    → IsSound n cap (machine_after_delivery n machine)
unfolding machine_after_delivery
sound-delivery n cap machine h =
    let chips : ℕ → List Processor = λ c. chip_after_delivery (delivered_in machine c) (chip_at machine.chips c) in
    let buffers : ℕ → List Message =
    λ c. kept (can_receive (chip_at machine.chips c)) [] (nth_or_nil machine.buffers c) in
    let logs : ℕ → List Event = λ c. nth_or_nil machine.logs c ++ map (λ m. Delivered c m) (delivered_in machine c) in
    record {
      chip_count = length-tabulate 0 (2 ^ n) chips;
      buffer_count = length-tabulate 0 (2 ^ n) buffers;
      log_count = length-tabulate 0 (2 ^ n) logs;
      whole = made_whole n chips
          (λ c l. IsChip-after_delivery (delivered_in machine c) (chip_at machine.chips c) (h.whole c l));
      room = HasRoom-after_delivery n cap machine h.room;
      messages = made_messages n buffers
          (λ c l. AllMessages-kept n (can_receive (chip_at machine.chips c)) [] (nth_or_nil machine.buffers c)
          (h.messages c l));
      routing = h.routing;
      events = made_events n logs
          (λ c l. All-append (IsEventOf n c) (nth_or_nil machine.logs c)
          (map (λ m. Delivered c m) (delivered_in machine c)) (h.events c l)
          (AllEvents-delivered n c (can_receive (chip_at machine.chips c)) [] (nth_or_nil machine.buffers c)
          (h.messages c l)));
    }

pub sound-step : (n cap : ℕ) (machine : Machine) (step : Step) → IsStep n step → IsSound n cap machine
    → IsSound n cap (after_step n cap machine step)
sound-step n cap machine (Instruct nano) s h = sound-nano n cap machine nano h
sound-step n cap machine Look s h = h
sound-step n cap machine Inject s h = sound-injection n cap machine h
sound-step n cap machine (Cross d) s h = sound-dimension n cap d machine s h
sound-step n cap machine Deliver s h = sound-delivery n cap machine h

pub sound-steps : (n cap : ℕ) (machine : Machine) (steps : List Step) → AreSteps n steps → IsSound n cap machine
    → IsSound n cap (after_steps n cap machine steps)
sound-steps n cap machine [] s h = h
sound-steps n cap machine (step ∷ steps) s h =
    sound-steps n cap (after_step n cap machine step) steps s.1 (sound-step n cap machine step s.0 h)

-- a machine is sound
pub sound-machine : (n cap : ℕ) (machine : Machine) → IsMachine n cap machine → IsSound n cap machine
sound-machine n cap machine h = record {
  chip_count = h.chip_count;
  buffer_count = h.buffer_count;
  log_count = h.log_count;
  whole = h.whole;
  room = h.room;
  messages = h.messages;
  events = h.events;
  routing = h.routing;
}

-- an act keeps a machine what it is
pub IsMachine-after_act : (n cap : ℕ) (machine : Machine) (a : Act) → IsMachine n cap machine
    → IsMachine n cap (after_act n cap machine a)
IsMachine-after_act n cap machine a h =
    let sound : IsSound n cap (after_act n cap machine a) = sound-steps n cap machine (steps_of n a) (AreSteps-act n a)
    (sound-machine n cap machine h) in
    let same : run_of n cap machine (a ∷ []) ≡ after_act n cap machine a = run_of-one n cap machine a h.buffer_count in
    record {
      chip_count = sound.chip_count;
      buffer_count = sound.buffer_count;
      log_count = sound.log_count;
      whole = sound.whole;
      room = sound.room;
      messages = sound.messages;
      events = sound.events;
      routing = sound.routing;
      births = subst (λ (m : Machine). BornBefore n m) same (births_stay_before n cap machine (a ∷ []) h.tags h.births);
      tags = subst (λ (m : Machine). HasTagsOnce n m) same (tags_stay_once n cap machine (a ∷ []) h.tags h.births);
      injected = subst (λ (m : Machine). HasLines (all_injected n m) (account n m)) same
          (injected_stand_in_the_account n cap machine (a ∷ []) h.injected);
    }

IsMachine-after_acts : (n cap : ℕ) (machine : Machine) (acts : List Act) → IsMachine n cap machine
    → IsMachine n cap (after_acts n cap machine acts)
IsMachine-after_acts n cap machine [] h = h
IsMachine-after_acts n cap machine (a ∷ acts) h =
    IsMachine-after_acts n cap (after_act n cap machine a) acts (IsMachine-after_act n cap machine a h)

-- so does a run
pub IsMachine-run_of : (n cap : ℕ) (machine : Machine) (acts : List Act) → IsMachine n cap machine
    → IsMachine n cap (run_of n cap machine acts)
IsMachine-run_of n cap machine acts h =
    subst (λ (m : Machine). IsMachine n cap m) (sym (run_of-acted n cap machine acts h.buffer_count))
    (IsMachine-after_acts n cap machine acts h)
