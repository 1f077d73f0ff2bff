-- Worked values of cut wires and of the second rule, which the checker computes: a wrong rule does not check.
use Rattle.std.proofs.Common.{◌≡◌, ℕ, List, [], ◌∷◌, refl}
use Rattle.cm_model.specs.declared.rule.Rule.{Rule}
use Rattle.cm_model.specs.declared.rule.Rule.TheVariants.{First, Oldest}
use Rattle.cm_model.specs.declared.message.Tag.{Tag}
use Rattle.cm_model.specs.declared.message.Message.{Message}
use Rattle.cm_model.specs.declared.message.Event.TheVariants.{Delivered}
use Rattle.cm_model.specs.declared.found.Found.TheVariants as found
use Rattle.cm_model.specs.Each.{tabulate}
use Rattle.cm_model.specs.Wiring.{Routing}
use Rattle.cm_model.specs.Router.{leaver, after_dimension}
use Rattle.cm_model.specs.Order.{queue}
use Rattle.cm_model.specs.Letters.{senders, chip_after_injection, with_field, chip_after_delivery}
use Rattle.cm_model.specs.Cycle.{after_injection, delivered_at, after_delivery}
use Rattle.cm_model.specs.Machine.{Machine, opened, closed, run_of}
use Rattle.cm_model.specs.Found.{found_in}
use Rattle.cm_model.proofs.RouterFacts.{quiet_chip, tag_of, message_to, cycles}

-- ---- what the machines are made of

abbrev two_chips : Routing → List Message → List Message → Machine
two_chips routing here there = record {
  chips = quiet_chip ∷ (quiet_chip ∷ []);
  buffers = here ∷ (there ∷ []);
  logs = [] ∷ ([] ∷ []);
  clock = 5;
  routing = routing;
}

abbrev one_cut : ℕ → Routing
one_cut d = record { cuts = record { chip = 0; dim = d } ∷ []; rule = First }

abbrev by : Rule → Routing
by rule = record { cuts = []; rule = rule }

-- two messages of these tags that have to go this way
abbrev two : ℕ → Tag → Tag → List Message
two rel s t = message_to rel 1 1 s ∷ (message_to rel 2 2 t ∷ [])

-- ---- over a cut wire nobody goes, in either direction, and a full router keeps what it has

nobody_goes : (run_of 1 1 (two_chips (one_cut 0) (message_to 1 5 1 (tag_of 0 0 0) ∷ [])
    (message_to 1 5 2 (tag_of 1 0 0) ∷ [])) (cycles 1)).buffers
    ≡ (message_to 1 5 1 (tag_of 0 0 0) ∷ []) ∷ ((message_to 1 5 2 (tag_of 1 0 0) ∷ []) ∷ [])
unfolding tabulate leaver after_dimension queue senders chip_after_injection with_field chip_after_delivery
    after_injection delivered_at after_delivery opened closed run_of quiet_chip
nobody_goes = refl

nobody_is_referred : (run_of 1 1 (two_chips (one_cut 0) (message_to 0 5 1 (tag_of 0 0 0) ∷ []) []) (cycles 1)).logs
    ≡ (Delivered 0 (message_to 0 5 1 (tag_of 0 0 0)) ∷ []) ∷ ([] ∷ [])
unfolding tabulate leaver after_dimension queue senders chip_after_injection with_field chip_after_delivery
    after_injection delivered_at after_delivery opened closed run_of quiet_chip
nobody_is_referred = refl

-- a message goes round a wire over dimension 1 that is cut between chips 0 and 2
abbrev four_chips : Machine
four_chips = record {
  chips = quiet_chip ∷ (quiet_chip ∷ (quiet_chip ∷ (quiet_chip ∷ [])));
  buffers = (message_to 2 3 7 (tag_of 0 0 0) ∷ []) ∷ ([] ∷ ([] ∷ ([] ∷ [])));
  logs = [] ∷ ([] ∷ ([] ∷ ([] ∷ [])));
  clock = 1;
  routing = one_cut 1;
}

it_goes_round : (run_of 2 1 four_chips (cycles 1)).buffers
    ≡ [] ∷ ([] ∷ ([] ∷ ((message_to 1 3 7 (tag_of 0 0 0) ∷ []) ∷ [])))
unfolding tabulate leaver after_dimension queue senders chip_after_injection with_field chip_after_delivery
    after_injection delivered_at after_delivery opened closed run_of quiet_chip
it_goes_round = refl

it_arrives : found_in 2 (run_of 2 1 four_chips (cycles 2)) (tag_of 0 0 0) ≡ found.Delivered 2 3
unfolding tabulate leaver after_dimension queue senders chip_after_injection with_field chip_after_delivery
    after_injection delivered_at after_delivery opened closed run_of quiet_chip found_in
it_arrives = refl

-- ---- by the first rule who came first goes, by the second who was born first

the_first_goes : (run_of 1 7 (two_chips (by First) (two 1 (tag_of 0 0 4) (tag_of 0 1 2)) []) (cycles 1)).buffers
    ≡ (message_to 1 2 2 (tag_of 0 1 2) ∷ []) ∷ ([] ∷ [])
unfolding tabulate leaver after_dimension queue senders chip_after_injection with_field chip_after_delivery
    after_injection delivered_at after_delivery opened closed run_of quiet_chip
the_first_goes = refl

the_oldest_goes : (run_of 1 7 (two_chips (by Oldest) (two 1 (tag_of 0 0 4) (tag_of 1 1 2)) []) (cycles 1)).buffers
    ≡ (message_to 1 1 1 (tag_of 0 0 4) ∷ []) ∷ ([] ∷ [])
unfolding tabulate leaver after_dimension queue senders chip_after_injection with_field chip_after_delivery
    after_injection delivered_at after_delivery opened closed run_of quiet_chip
the_oldest_goes = refl

-- of one birth that of the lower chip, of one chip that of the lower processor, of one tag who came first
the_lower_chip_goes : (run_of 1 7 (two_chips (by Oldest) (two 1 (tag_of 1 0 2) (tag_of 0 3 2)) []) (cycles 1)).buffers
    ≡ (message_to 1 1 1 (tag_of 1 0 2) ∷ []) ∷ ([] ∷ [])
unfolding tabulate leaver after_dimension queue senders chip_after_injection with_field chip_after_delivery
    after_injection delivered_at after_delivery opened closed run_of quiet_chip
the_lower_chip_goes = refl

the_lower_processor_goes : (run_of 1 7 (two_chips (by Oldest) (two 1 (tag_of 0 1 2) (tag_of 0 0 2)) [])
    (cycles 1)).buffers ≡ (message_to 1 1 1 (tag_of 0 1 2) ∷ []) ∷ ([] ∷ [])
unfolding tabulate leaver after_dimension queue senders chip_after_injection with_field chip_after_delivery
    after_injection delivered_at after_delivery opened closed run_of quiet_chip
the_lower_processor_goes = refl

the_first_of_one_tag_goes : (run_of 1 7 (two_chips (by Oldest) (two 1 (tag_of 0 0 2) (tag_of 0 0 2)) [])
    (cycles 1)).buffers ≡ (message_to 1 2 2 (tag_of 0 0 2) ∷ []) ∷ ([] ∷ [])
unfolding tabulate leaver after_dimension queue senders chip_after_injection with_field chip_after_delivery
    after_injection delivered_at after_delivery opened closed run_of quiet_chip
the_first_of_one_tag_goes = refl

-- who does not have to cross stays, though none is older
the_oldest_at_home_stays : (run_of 1 7 (two_chips (by Oldest)
    (message_to 0 1 1 (tag_of 0 0 1) ∷ (message_to 1 2 2 (tag_of 0 1 4) ∷ [])) []) (cycles 1)).logs
    ≡ (Delivered 0 (message_to 0 1 1 (tag_of 0 0 1)) ∷ []) ∷ ((Delivered 1 (message_to 0 2 2 (tag_of 0 1 4)) ∷ []) ∷ [])
unfolding tabulate leaver after_dimension queue senders chip_after_injection with_field chip_after_delivery
    after_injection delivered_at after_delivery opened closed run_of quiet_chip
the_oldest_at_home_stays = refl

-- ---- where none has to cross, a full router refers the last by the first rule, by the second the youngest

the_last_is_referred : (run_of 1 2 (two_chips (by First) (two 0 (tag_of 0 0 4) (tag_of 0 1 2)) []) (cycles 1)).buffers
    ≡ [] ∷ ((message_to 1 2 2 (tag_of 0 1 2) ∷ []) ∷ [])
unfolding tabulate leaver after_dimension queue senders chip_after_injection with_field chip_after_delivery
    after_injection delivered_at after_delivery opened closed run_of quiet_chip
the_last_is_referred = refl

the_youngest_is_referred : (run_of 1 2 (two_chips (by Oldest) (two 0 (tag_of 0 0 4) (tag_of 1 1 2)) [])
    (cycles 1)).buffers ≡ [] ∷ ((message_to 1 1 1 (tag_of 0 0 4) ∷ []) ∷ [])
unfolding tabulate leaver after_dimension queue senders chip_after_injection with_field chip_after_delivery
    after_injection delivered_at after_delivery opened closed run_of quiet_chip
the_youngest_is_referred = refl

-- of one birth that of the higher origin, of one tag who came last
the_higher_origin_is_referred : (run_of 1 2 (two_chips (by Oldest) (two 0 (tag_of 1 0 2) (tag_of 0 3 2)) [])
    (cycles 1)).buffers ≡ [] ∷ ((message_to 1 1 1 (tag_of 1 0 2) ∷ []) ∷ [])
unfolding tabulate leaver after_dimension queue senders chip_after_injection with_field chip_after_delivery
    after_injection delivered_at after_delivery opened closed run_of quiet_chip
the_higher_origin_is_referred = refl

the_last_of_one_tag_is_referred : (run_of 1 2 (two_chips (by Oldest) (two 0 (tag_of 0 0 2) (tag_of 0 0 2)) [])
    (cycles 1)).buffers ≡ [] ∷ ((message_to 1 2 2 (tag_of 0 0 2) ∷ []) ∷ [])
unfolding tabulate leaver after_dimension queue senders chip_after_injection with_field chip_after_delivery
    after_injection delivered_at after_delivery opened closed run_of quiet_chip
the_last_of_one_tag_is_referred = refl
