-- Worked values of the router's definitions, which the checker computes: a wrong rule does not check.
use Rattle.std.proofs.Common.{◌≡◌, ℕ, Bool, true, false, List, [], ◌∷◌, replicate, map, refl}
use Rattle.std.specs.Prelude.{nat_lt, ◌==◌, slice_set, if◌then◌else◌}
use Rattle.cm_model.specs.declared.act.Act.{Act}
use Rattle.cm_model.specs.declared.act.Act.TheVariants as act
use Rattle.cm_model.specs.declared.message.Tag.{Tag}
use Rattle.cm_model.specs.declared.message.Message.{Message}
use Rattle.cm_model.specs.declared.message.Event.TheVariants.{Injected, Delivered}
use Rattle.cm_model.specs.declared.found.Found.TheVariants as found
use Rattle.cm_model.specs.Each.{tabulate}
use Rattle.cm_model.specs.Processor.{Processor, SEND, ACK, RECV, flag, field_value}
use Rattle.cm_model.specs.Chip.{each_processor, processor_at}
use Rattle.cm_model.specs.Array.{chip_at}
use Rattle.cm_model.specs.Wiring.{plain_routing}
use Rattle.cm_model.specs.Router.{leaver, after_dimension}
use Rattle.cm_model.specs.Order.{queue}
use Rattle.cm_model.specs.Letters.{senders, chip_after_injection, with_field, chip_after_delivery}
use Rattle.cm_model.specs.Cycle.{after_injection, delivered_at, after_delivery}
use Rattle.cm_model.specs.Machine.{Machine, opened, closed, run_of}
use Rattle.cm_model.specs.Found.{found_in}

-- ---- what the machines are made of

abbrev no_flags : List Bool
no_flags = replicate 16 false

-- a chip whose processors send nothing, and of whose memory nothing is read
unfoldable pub quiet_chip : List Processor
unfolding tabulate
quiet_chip = each_processor (λ p. record { memory = []; flags = no_flags })

-- a processor that sends
unfoldable sender : ℕ → ℕ → ℕ → Processor
unfolding with_field
sender rel proc payload = record {
  memory = with_field (with_field (with_field (replicate 4096 false) 3968 16 rel) 3984 4 proc) 3988 32 payload;
  flags = slice_set no_flags SEND true;
}

-- a chip whose first so many processors send their numbers to one processor
unfoldable sending_chip : ℕ → ℕ → ℕ → List Processor
unfolding tabulate sender
sending_chip count rel proc =
    each_processor (λ p. if nat_lt p count then sender rel proc p else record {
      memory = replicate 4096 false;
      flags =
          no_flags;
    })

abbrev pub tag_of : ℕ → ℕ → ℕ → Tag
tag_of c p birth = record { chip = c; proc = p; birth = birth }

abbrev pub message_to : ℕ → ℕ → ℕ → Tag → Message
message_to rel proc payload tag = record { rel = rel; proc = proc; payload = payload; tag = tag }

abbrev pub cycles : ℕ → List Act
cycles count = replicate count act.Cycle

-- ---- two full nodes refer to each other, and deliver in the second cycle

abbrev full_nodes : Machine
full_nodes = record {
  chips = quiet_chip ∷ (quiet_chip ∷ []);
  buffers = (message_to 0 0 1 (tag_of 0 0 0) ∷ []) ∷ ((message_to 0 0 2 (tag_of 1 0 0) ∷ []) ∷ []);
  logs = [] ∷ ([] ∷ []);
  clock = 1;
  routing = plain_routing;
}

full_nodes_refer : (run_of 1 1 full_nodes (cycles 1)).buffers ≡ (message_to 1 0 2 (tag_of 1 0 0) ∷ [])
    ∷ ((message_to 1 0 1 (tag_of 0 0 0) ∷ []) ∷ [])
unfolding tabulate leaver after_dimension queue senders chip_after_injection with_field chip_after_delivery
    after_injection delivered_at after_delivery opened closed run_of quiet_chip
full_nodes_refer = refl

full_nodes_deliver : (run_of 1 1 full_nodes (cycles 2)).logs ≡ (Delivered 0 (message_to 0 0 1 (tag_of 0 0 0)) ∷ [])
    ∷ ((Delivered 1 (message_to 0 0 2 (tag_of 1 0 0)) ∷ []) ∷ [])
unfolding tabulate leaver after_dimension queue senders chip_after_injection with_field chip_after_delivery
    after_injection delivered_at after_delivery opened closed run_of quiet_chip
full_nodes_deliver = refl

full_nodes_are_empty : (run_of 1 1 full_nodes (cycles 2)).buffers ≡ [] ∷ ([] ∷ [])
unfolding tabulate leaver after_dimension queue senders chip_after_injection with_field chip_after_delivery
    after_injection delivered_at after_delivery opened closed run_of quiet_chip
full_nodes_are_empty = refl

-- ---- a full node refers the last of its messages

abbrev two_at_home : Machine
two_at_home = record {
  chips = quiet_chip ∷ (quiet_chip ∷ []);
  buffers = (message_to 0 0 1 (tag_of 0 0 0) ∷ (message_to 0 0 2 (tag_of 0 1 0) ∷ [])) ∷ ([] ∷ []);
  logs = [] ∷ ([] ∷ []);
  clock = 1;
  routing = plain_routing;
}

last_is_referred : (run_of 1 2 two_at_home (cycles 1)).buffers ≡ [] ∷ ((message_to 1 0 2 (tag_of 0 1 0) ∷ []) ∷ [])
unfolding tabulate leaver after_dimension queue senders chip_after_injection with_field chip_after_delivery
    after_injection delivered_at after_delivery opened closed run_of quiet_chip
last_is_referred = refl

-- the first that has to cross goes first, here the second of three
abbrev three_to_cross : Machine
three_to_cross = record {
  chips = quiet_chip ∷ (quiet_chip ∷ []);
  buffers = (message_to 0 0 1 (tag_of 0 0 0)
      ∷ (message_to 1 0 2 (tag_of 0 1 0) ∷ (message_to 1 0 3 (tag_of 0 2 0) ∷ []))) ∷ ([] ∷ []);
  logs = [] ∷ ([] ∷ []);
  clock = 1;
  routing = plain_routing;
}

first_crosses : (run_of 1 4 three_to_cross (cycles 1)).buffers ≡ (message_to 1 0 3 (tag_of 0 2 0) ∷ []) ∷ ([] ∷ [])
unfolding tabulate leaver after_dimension queue senders chip_after_injection with_field chip_after_delivery
    after_injection delivered_at after_delivery opened closed run_of quiet_chip
first_crosses = refl

-- ---- a delivery goes from the front, and whoever is still on its way keeps nobody out

abbrev two_for_two : Machine
two_for_two = record {
  chips = quiet_chip ∷ (quiet_chip ∷ []);
  buffers = (message_to 0 5 1 (tag_of 0 7 0) ∷ (message_to 0 3 2 (tag_of 0 2 0) ∷ [])) ∷ ([] ∷ []);
  logs = [] ∷ ([] ∷ []);
  clock = 1;
  routing = plain_routing;
}

both_are_told_in_order : (run_of 1 4 two_for_two (cycles 1)).logs ≡ (Delivered 0 (message_to 0 5 1 (tag_of 0 7 0))
    ∷ (Delivered 0 (message_to 0 3 2 (tag_of 0 2 0)) ∷ [])) ∷ ([] ∷ [])
unfolding tabulate leaver after_dimension queue senders chip_after_injection with_field chip_after_delivery
    after_injection delivered_at after_delivery opened closed run_of quiet_chip
both_are_told_in_order = refl

-- of three for processors of one number the second is on its way still, when the third is delivered
abbrev two_to_cross : Machine
two_to_cross = record {
  chips = quiet_chip ∷ (quiet_chip ∷ []);
  buffers = (message_to 1 6 1 (tag_of 0 0 0)
      ∷ (message_to 1 6 2 (tag_of 0 1 0) ∷ (message_to 0 6 3 (tag_of 0 2 0) ∷ []))) ∷ ([] ∷ []);
  logs = [] ∷ ([] ∷ []);
  clock = 1;
  routing = plain_routing;
}

one_behind_is_delivered : (run_of 1 4 two_to_cross (cycles 1)).buffers ≡ (message_to 1 6 2 (tag_of 0 1 0) ∷ [])
    ∷ ([] ∷ [])
unfolding tabulate leaver after_dimension queue senders chip_after_injection with_field chip_after_delivery
    after_injection delivered_at after_delivery opened closed run_of quiet_chip
one_behind_is_delivered = refl

-- ---- with room for one message it never arrives; with room for two it does in the first cycle

abbrev one_sender : ℕ → ℕ → Machine
one_sender count rel = record {
  chips = sending_chip count rel 3 ∷ (quiet_chip ∷ (quiet_chip ∷ (quiet_chip ∷ [])));
  buffers = [] ∷ ([] ∷ ([] ∷ ([] ∷ [])));
  logs = [] ∷ ([] ∷ ([] ∷ ([] ∷ [])));
  clock = 0;
  routing = plain_routing;
}

one_wanders : (run_of 2 1 (one_sender 1 2) (cycles 1)).buffers
    ≡ [] ∷ ([] ∷ ([] ∷ ((message_to 1 3 0 (tag_of 0 0 0) ∷ []) ∷ [])))
unfolding tabulate leaver after_dimension queue senders field_value sender sending_chip chip_after_injection
    with_field chip_after_delivery after_injection delivered_at after_delivery opened closed run_of quiet_chip
one_wanders = refl

one_comes_back : (run_of 2 1 (one_sender 1 2) (cycles 2)).buffers ≡ (message_to 2 3 0 (tag_of 0 0 0) ∷ [])
    ∷ ([] ∷ ([] ∷ ([] ∷ [])))
unfolding tabulate leaver after_dimension queue senders field_value sender sending_chip chip_after_injection
    with_field chip_after_delivery after_injection delivered_at after_delivery opened closed run_of quiet_chip
one_comes_back = refl

two_have_room : found_in 2 (run_of 2 2 (one_sender 1 2) (cycles 1)) (tag_of 0 0 0) ≡ found.Delivered 2 3
unfolding tabulate leaver after_dimension queue senders field_value sender sending_chip chip_after_injection
    with_field chip_after_delivery after_injection delivered_at after_delivery opened closed run_of quiet_chip found_in
two_have_room = refl

first_of_two_arrives : found_in 2 (run_of 2 7 (one_sender 2 3) (cycles 1)) (tag_of 0 0 0) ≡ found.Delivered 3 3
unfolding tabulate leaver after_dimension queue senders field_value sender sending_chip chip_after_injection
    with_field chip_after_delivery after_injection delivered_at after_delivery opened closed run_of quiet_chip found_in
first_of_two_arrives = refl

second_of_two_waits : found_in 2 (run_of 2 7 (one_sender 2 3) (cycles 1)) (tag_of 0 1 0) ≡ found.Router 2
unfolding tabulate leaver after_dimension queue senders field_value sender sending_chip chip_after_injection
    with_field chip_after_delivery after_injection delivered_at after_delivery opened closed run_of quiet_chip found_in
second_of_two_waits = refl

-- ---- one message crosses a cube of two chips and is delivered

unfoldable one_letter : List Processor
unfolding tabulate sender
one_letter = each_processor
    (λ p. if nat_lt p 1 then sender 1 5 3735928559 else record { memory = replicate 4096 false; flags = no_flags })

abbrev letter_box : Machine
letter_box = record {
  chips = one_letter ∷ (sending_chip 0 0 0 ∷ []);
  buffers = [] ∷ ([] ∷ []);
  logs =
      [] ∷ ([] ∷ []);
  clock = 0;
  routing = plain_routing;
}

letter_is_logged : (run_of 1 1 letter_box (cycles 1)).logs
    ≡ (Injected (message_to 1 5 3735928559 (tag_of 0 0 0)) ∷ [])
    ∷ ((Delivered 1 (message_to 0 5 3735928559 (tag_of 0 0 0)) ∷ []) ∷ [])
unfolding tabulate leaver after_dimension queue senders field_value sender sending_chip one_letter
    chip_after_injection with_field chip_after_delivery after_injection delivered_at after_delivery opened closed run_of
letter_is_logged = refl

letter_is_read : field_value (processor_at (chip_at (run_of 1 1 letter_box (cycles 1)).chips 1) 5) 4032 32 ≡ 3735928559
unfolding tabulate leaver after_dimension queue senders field_value sender sending_chip one_letter
    chip_after_injection with_field chip_after_delivery after_injection delivered_at after_delivery opened closed run_of
letter_is_read = refl

letter_is_received : flag (processor_at (chip_at (run_of 1 1 letter_box (cycles 1)).chips 1) 5) RECV ≡ true
unfolding tabulate leaver after_dimension queue senders field_value sender sending_chip one_letter
    chip_after_injection with_field chip_after_delivery after_injection delivered_at after_delivery opened closed run_of
letter_is_received = refl

sender_is_told : flag (processor_at (chip_at (run_of 1 1 letter_box (cycles 1)).chips 0) 0) ACK ≡ true
unfolding tabulate leaver after_dimension queue senders field_value sender sending_chip one_letter
    chip_after_injection with_field chip_after_delivery after_injection delivered_at after_delivery opened closed run_of
sender_is_told = refl

-- ---- six senders on one chip: four are taken, one is delivered, two wait

abbrev many_senders : ℕ → Machine
many_senders count = record {
  chips = sending_chip count 0 9 ∷ [];
  buffers = [] ∷ [];
  logs = [] ∷ [];
  clock = 0;
  routing = plain_routing;
}

-- the numbers of the processors of a machine of one chip with this flag
abbrev with_flag : ℕ → Machine → List Bool
with_flag number machine = map (λ processor. flag processor number) (chip_at machine.chips 0)

abbrev yes_and_no : List ℕ → List Bool
yes_and_no numbers = map (λ k. k == 1) numbers

four_are_taken : (run_of 0 7 (many_senders 6) (cycles 1)).buffers
    ≡ (message_to 0 9 1 (tag_of 0 1 0) ∷ (message_to 0 9 2 (tag_of 0 2 0) ∷ (message_to 0 9 3 (tag_of 0 3 0) ∷ [])))
    ∷ []
unfolding tabulate leaver after_dimension queue senders field_value sender sending_chip chip_after_injection
    with_field chip_after_delivery after_injection delivered_at after_delivery opened closed run_of
four_are_taken = refl

four_are_acknowledged : with_flag ACK (run_of 0 7 (many_senders 6) (cycles 1))
    ≡ yes_and_no (1 ∷ (1 ∷ (1 ∷ (1 ∷ replicate 12 0))))
unfolding tabulate leaver after_dimension queue senders field_value sender sending_chip chip_after_injection
    with_field chip_after_delivery after_injection delivered_at after_delivery opened closed run_of
four_are_acknowledged = refl

two_wait_to_send : with_flag SEND (run_of 0 7 (many_senders 6) (cycles 1))
    ≡ yes_and_no (0 ∷ (0 ∷ (0 ∷ (0 ∷ (1 ∷ (1 ∷ replicate 10 0))))))
unfolding tabulate leaver after_dimension queue senders field_value sender sending_chip chip_after_injection
    with_field chip_after_delivery after_injection delivered_at after_delivery opened closed run_of
two_wait_to_send = refl

-- in the next cycle the last two are taken, and the first four are no longer acknowledged
last_are_acknowledged : with_flag ACK (run_of 0 7 (many_senders 6) (cycles 2))
    ≡ yes_and_no (0 ∷ (0 ∷ (0 ∷ (0 ∷ (1 ∷ (1 ∷ replicate 10 0))))))
unfolding tabulate leaver after_dimension queue senders field_value sender sending_chip chip_after_injection
    with_field chip_after_delivery after_injection delivered_at after_delivery opened closed run_of
last_are_acknowledged = refl

-- where there is room for two, two are taken
room_for_two : (run_of 0 2 (many_senders 6) (cycles 1)).logs
    ≡ (Injected (message_to 0 9 0 (tag_of 0 0 0))
    ∷ (Injected (message_to 0 9 1 (tag_of 0 1 0)) ∷ (Delivered 0 (message_to 0 9 0 (tag_of 0 0 0)) ∷ []))) ∷ []
unfolding tabulate leaver after_dimension queue senders field_value sender sending_chip chip_after_injection
    with_field chip_after_delivery after_injection delivered_at after_delivery opened closed run_of
room_for_two = refl

-- ---- two senders to one processor: the second waits for RECV

the_first_is_received : field_value (processor_at (chip_at (run_of 0 7 (many_senders 2) (cycles 3)).chips 0) 9) 4032
    32 ≡ 0
unfolding tabulate leaver after_dimension queue senders field_value sender sending_chip chip_after_injection
    with_field chip_after_delivery after_injection delivered_at after_delivery opened closed run_of
the_first_is_received = refl

the_second_waits : found_in 0 (run_of 0 7 (many_senders 2) (cycles 3)) (tag_of 0 1 0) ≡ found.Router 0
unfolding tabulate leaver after_dimension queue senders field_value sender sending_chip chip_after_injection
    with_field chip_after_delivery after_injection delivered_at after_delivery opened closed run_of found_in
the_second_waits = refl

-- RECV of all processors falls
abbrev ready_again : Processor → Processor
ready_again processor = record processor { flags = slice_set processor.flags RECV false }

abbrev received_again : Machine → Machine
received_again machine = record machine { chips = map (map ready_again) machine.chips }

the_second_comes : field_value
    (processor_at (chip_at (run_of 0 7 (received_again (run_of 0 7 (many_senders 2) (cycles 1))) (cycles 1)).chips 0)
    9) 4032 32 ≡ 1
unfolding tabulate leaver after_dimension queue senders field_value sender sending_chip chip_after_injection
    with_field chip_after_delivery after_injection delivered_at after_delivery opened closed run_of
the_second_comes = refl
