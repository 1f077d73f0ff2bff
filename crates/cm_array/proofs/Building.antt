-- A machine that is being built stays one.
use Rattle.std.proofs.Common.{◌≡◌, ℕ, ◌^◌, ◌+◌, ◌<◌, ◌≤◌, List, [], ◌∷◌, ◌++◌, false, length, set, refl, sym, ap}
use Rattle.std.proofs.Common.{◌∙◌, subst, arith, ◌-◌, take, drop, length-drop, ⊎_elim}
use Rattle.std.proofs.lemmas.Bool.{cases_lt}
use Rattle.std.proofs.lemmas.List.{length-set, length-append, length-take-le, get_or-take, get_or-drop}
use Rattle.std.proofs.lemmas.List.{get_or_append_left, get_or-append_right}
use Rattle.std.proofs.lemmas.List.Elements.{All-nil, All-cons, All-append}
use Rattle.std.specs.List.{All}
use Rattle.std.specs.Prelude.{IsTrue}
use Rattle.cm_model.specs.declared.message.Message.{Message}
use Rattle.cm_model.specs.declared.message.Event.{Event}
use Rattle.cm_model.specs.Processor.{Processor}
use Rattle.cm_model.specs.Whole.{IsChip}
use Rattle.cm_model.specs.Array.{Chips, chip_at, nth_or_nil}
use Rattle.cm_model.specs.Machine.{Machine, blank_machine}
use Rattle.cm_model.specs.Keeping.{IsMachine, IsMessage, IsEventOf}
use Rattle.cm_model.specs.Unlogged.{IsUnlogged, standing_messages, has_tag_twice}
use Rattle.cm_model.proofs.Each.{length-tabulate, get_or-each_below}
use Rattle.cm_model.proofs.Unlogged.{standing-all, none_injected, HasTagsOnce-standing, BornBefore-buffers}
use Rattle.cm_model.proofs.Blanks.{IsMachine-blank_at}
use Rattle.cm_element.specs.Near.{with_near}
use Rattle.cm_router.specs.Routes.{routing_of}
use Rattle.cm_router_engine.specs.Standing.{InFlight}
use Rattle.cm_array.specs.declared.chip_state.ChipState.{ChipState}
use Rattle.cm_array.specs.Parts.{machine_of, AreParts}
use Rattle.cm_array.specs.Pokes.{machine_with_message}
use Rattle.cm_array.specs.Building.{IsUnfinished, AreUnfinished}
use Rattle.cm_array.proofs.Lists.{each_after_set}
use Rattle.cm_array.proofs.Machines.{machine_of-gathered}

-- ---- blank

no_buffer : (n clock c : ℕ) → c < 2 ^ n → nth_or_nil (record (blank_machine n) { clock = clock }).buffers c ≡ []
unfolding blank_machine
no_buffer n clock c h = get_or-each_below {X = List Message} (2 ^ n) (λ b. []) c [] h

IsUnlogged-blank : (n clock : ℕ) → IsUnlogged n (record (blank_machine n) { clock = clock })
unfolding blank_machine
IsUnlogged-blank n clock = refl

IsUnfinished-blank : (n cap clock : ℕ) → IsUnfinished n cap (record (blank_machine n) { clock = clock })
IsUnfinished-blank n cap clock =
    let h = IsMachine-blank_at n cap clock in
    record {
      chip_count = h.chip_count;
      buffer_count = h.buffer_count;
      whole = h.whole;
      room = h.room;
      messages = h.messages;
      born = λ c l. subst (λ (ms : List Message). All (λ m. m.tag.birth < clock) ms) (sym (no_buffer n clock c l))
          (All-nil (λ (m : Message). m.tag.birth < clock));
      unlogged = IsUnlogged-blank n clock;
      routing = h.routing;
    }

pub AreUnfinished-blank : (n cap clock : ℕ) (parts : ChipState) → AreParts n cap parts
    → machine_of parts ≡ record (blank_machine n) { clock = clock } → AreUnfinished n cap parts
AreUnfinished-blank n cap clock parts h is = record {
  sized = h.sized;
  machine = subst (λ (m : Machine). IsUnfinished n cap m) (sym is) (IsUnfinished-blank n cap clock);
}

-- ---- another chip

-- with another whole chip in its place
pub AreUnfinished-with_chip : (n cap : ℕ) (parts : ChipState) (run : Chips) (i : ℕ) (chip : List Processor) → IsChip chip
    → run ≡ set parts.run i chip → AreUnfinished n cap parts → AreUnfinished n cap (record parts { run = run })
AreUnfinished-with_chip n cap parts run i chip whole is h = record {
  sized = h.sized;
  machine = record {
    chip_count = ap length is ∙ length-set parts.run i chip ∙ h.machine.chip_count;
    buffer_count = h.machine.buffer_count;
    whole = subst (λ (chips : Chips). (c : ℕ) → c < 2 ^ n → IsChip (chip_at chips c)) (sym is)
        (each_after_set (λ (c : List Processor). IsChip c) parts.run [] i chip
        (2 ^ n) h.machine.chip_count h.machine.whole whole);
    room = h.machine.room;
    messages = h.machine.messages;
    born = h.machine.born;
    unlogged = h.machine.unlogged;
    routing = h.machine.routing;
  };
}

-- with other whole chips in their places from the first on
pub AreUnfinished-with_chips : (n cap : ℕ) (parts : ChipState) (run from : Chips) (first : ℕ)
    → first + length from ≤ 2 ^ n → ((c : ℕ) → c < length from → IsChip (chip_at from c))
    → run ≡ with_near parts.run from first → AreUnfinished n cap parts → AreUnfinished n cap (record parts { run = run })
unfolding with_near
AreUnfinished-with_chips n cap parts run from first inside whole is h =
    let old : Chips = parts.run in
    let rest : Chips = drop (first + length from) old in
    let front : length (take first old) ≡ first = length-take-le first old (omega (arith, inside, h.machine.chip_count)) in
    let long : length (take first old ++ (from ++ rest)) ≡ length old =
    omega (
      arith,
      length-append (take first old) (from ++ rest),
      length-append from rest,
      length-drop (first + length from) old,
      front,
      inside,
      h.machine.chip_count,
    ) in
    record {
      sized = h.sized;
      machine = record {
        chip_count = ap length is ∙ long ∙ h.machine.chip_count;
        buffer_count = h.machine.buffer_count;
        whole = subst (λ (chips : Chips). (c : ℕ) → c < 2 ^ n → IsChip (chip_at chips c)) (sym is)
            (λ c l. ⊎_elim
            (λ (b : c < first). rw (
              get_or_append_left (take first old) (from ++ rest) [] c (omega (arith, b, front)),
              get_or-take first old c [] b,
            ) (h.machine.whole c l))
            (λ (a : first ≤ c). rw (get_or-append_right (take first old) (from ++ rest) first c [] front a)
            (⊎_elim
            (λ (m : c - first < length from). rw (get_or_append_left from rest [] (c - first) m)
            (whole (c - first) m))
            (λ (m : length from ≤ c - first). rw (
              get_or-append_right from rest (length from) (c - first) [] refl m,
              get_or-drop (first + length from) old (c - first - length from) [],
            )
            (h.machine.whole (first + length from + (c - first - length from)) (omega (arith, l, m, a))))
            (cases_lt (c - first) (length from))))
            (cases_lt c first));
        room = h.machine.room;
        messages = h.machine.messages;
        born = h.machine.born;
        unlogged = h.machine.unlogged;
        routing = h.machine.routing;
      };
    }

-- ---- a message more

-- with a message more that fits there
IsUnfinished-with_message : (n cap : ℕ) (machine : Machine) (c : ℕ) (m : Message) → IsUnfinished n cap machine
    → c < 2 ^ n → length (nth_or_nil machine.buffers c) < cap
    → IsMessage n m → m.tag.birth < machine.clock → IsUnfinished n cap (machine_with_message machine c m)
IsUnfinished-with_message n cap machine c m h below room message born =
    let more : List Message = nth_or_nil machine.buffers c ++ m ∷ [] in
    let long : length more ≡ length (nth_or_nil machine.buffers c) + 1 =
    length-append (nth_or_nil machine.buffers c) (m ∷ []) in
    record {
      chip_count = h.chip_count;
      buffer_count = length-set machine.buffers c more ∙ h.buffer_count;
      whole = h.whole;
      room = each_after_set (λ (ms : List Message). length ms ≤ cap) machine.buffers [] c more
          (2 ^ n) h.buffer_count h.room (omega (arith, long));
      messages = each_after_set (λ (ms : List Message). All (IsMessage n) ms) machine.buffers [] c more
          (2 ^ n) h.buffer_count h.messages
          (All-append (IsMessage n) (nth_or_nil machine.buffers c) (m ∷ []) (h.messages c below)
          (All-cons (IsMessage n) m [] message (All-nil (IsMessage n))));
      born = each_after_set (λ (ms : List Message). All (λ q. q.tag.birth < machine.clock) ms) machine.buffers [] c
          more (2 ^ n) h.buffer_count h.born
          (All-append (λ (q : Message). q.tag.birth < machine.clock) (nth_or_nil machine.buffers c) (m ∷ [])
          (h.born c below)
          (All-cons (λ (q : Message). q.tag.birth < machine.clock) m [] born
          (All-nil (λ (q : Message). q.tag.birth < machine.clock))));
      unlogged = h.unlogged;
      routing = h.routing;
    }

-- the machine of the parts with such a buffer
pub machine_of-with_message : (parts : ChipState) (i : ℕ) (crossing : InFlight) (m : Message)
    → crossing.buffers ≡ set parts.crossing.buffers i (nth_or_nil parts.crossing.buffers i ++ m ∷ [])
    → machine_of (record parts { crossing = crossing }) ≡ machine_with_message (machine_of parts) i m
machine_of-with_message parts i crossing m is =
    λ j. record {
      chips = parts.run;
      buffers = is j;
      logs = (machine_of parts).logs;
      clock = parts.clock;
      routing = routing_of parts.routing;
    }

pub AreUnfinished-with_message : (n cap : ℕ) (parts : ChipState) (i : ℕ) (crossing : InFlight) (m : Message)
    → AreUnfinished n cap parts → i < 2 ^ n
    → crossing.buffers ≡ set parts.crossing.buffers i (nth_or_nil parts.crossing.buffers i ++ m ∷ [])
    → length (nth_or_nil (machine_of parts).buffers i) < cap
    → IsMessage n m → m.tag.birth < parts.clock
    → AreUnfinished n cap (record parts { crossing = crossing })
AreUnfinished-with_message n cap parts i crossing m h below is room message born = record {
  sized = h.sized;
  machine = subst (λ (machine : Machine). IsUnfinished n cap machine)
      (sym (machine_of-with_message parts i crossing m is))
      (IsUnfinished-with_message n cap (machine_of parts) i m h.machine below room message born);
}

-- ---- done

-- one of which no tag stands twice is a machine
IsMachine-finished : (n cap : ℕ) (machine : Machine) → IsUnfinished n cap machine
    → has_tag_twice (standing_messages machine) ≡ false → IsMachine n cap machine
IsMachine-finished n cap machine h apart = record {
  chip_count = h.chip_count;
  buffer_count = h.buffer_count;
  log_count = ap (λ (logs : List (List Event)). length logs) h.unlogged
      ∙ length-tabulate {X = List Event} 0 (2 ^ n) (λ c. []);
  whole = h.whole;
  room = h.room;
  messages = h.messages;
  events = λ c below. subst (λ (log : List Event). All (IsEventOf n c) log)
      (sym (ap (λ (logs : List (List Event)). nth_or_nil logs c) h.unlogged
      ∙ get_or-each_below (2 ^ n) (λ b. []) c [] below)) (All-nil (IsEventOf n c));
  routing = h.routing;
  births = BornBefore-buffers n machine h.unlogged h.born;
  tags = HasTagsOnce-standing n machine h.unlogged (ap has_tag_twice (sym (standing-all n machine h.buffer_count))
      ∙ apart);
  injected = none_injected n machine h.unlogged;
}

-- its messages gathered
pub AreParts-finished : (n cap : ℕ) (parts : ChipState) (crossing : InFlight) → AreUnfinished n cap parts
    → crossing.buffers ≡ parts.crossing.buffers → IsTrue crossing.gathered
    → has_tag_twice (standing_messages (machine_of parts)) ≡ false
    → AreParts n cap (record parts { crossing = crossing })
AreParts-finished n cap parts crossing h same gathered apart = record {
  sized = h.sized;
  gathered = gathered;
  machine = subst (λ (m : Machine). IsMachine n cap m) (sym (machine_of-gathered parts crossing same))
      (IsMachine-finished n cap (machine_of parts) h.machine apart);
}
