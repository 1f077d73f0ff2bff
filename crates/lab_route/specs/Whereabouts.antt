-- Where the message of a tag stands in a machine, and where it was delivered since an earlier one. Ours.
use Rattle.std.specs.Prelude.{ℕ, ◌+◌, ◌^◌, Option, List, [], ◌∷◌, length, slice_get, if◌then◌else◌}
use Rattle.std.specs.List.{filter_map, flat_map, range_with_len}
use Rattle.cm_bits.specs.declared.place.Place.{Place}
use Rattle.cm_model.specs.declared.message.Message.{Message}
use Rattle.cm_model.specs.declared.message.Tag.{Tag}
use Rattle.cm_model.specs.Array.{nth_or_nil}
use Rattle.cm_model.specs.Machine.{Machine}
use Rattle.cm_model.specs.Found.{same_tag, delivery_place}
use Rattle.lab_route.specs.declared.whereabouts.Stand.{Stand}
use Rattle.lab_study.specs.Counts.{events_behind}

-- of the messages that stand at chip c, so many in all, from this place of its buffer on those of a tag
abbrev pub stands_from : Tag → ℕ → ℕ → ℕ → List Message → List Stand
stands_from tag c count place [] = []
stands_from tag c count place (m ∷ ms) =
    if same_tag m.tag tag
    then record { chip = c; place = place; count = count; message = m } ∷ stands_from tag c count (place + 1) ms
    else stands_from tag c count (place + 1) ms

-- those that stand at chip c; places are counted from 1
abbrev pub stands_among : Tag → ℕ → List Message → List Stand
stands_among tag c messages = stands_from tag c (length messages) 1 messages

-- the message of a tag that stands in a router
unfoldable pub stand_in : ℕ → Tag → Machine → Option Stand
stand_in n tag machine =
    slice_get (flat_map (λ c. stands_among tag c (nth_or_nil machine.buffers c)) (range_with_len 0 (2 ^ n))) 0

-- where a message of a tag was delivered, where by chip so many events were there before
unfoldable pub delivery_in : ℕ → Tag → List ℕ → Machine → Option Place
delivery_in n tag before machine =
    slice_get (flat_map (λ c. filter_map (delivery_place tag) (events_behind before machine c)) (range_with_len 0 (2 ^ n))) 0
