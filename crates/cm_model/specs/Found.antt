-- Where the message of a tag is: ours.
use Rattle.std.specs.Prelude.{◌≡◌, ℕ, ◌<◌, true, false, ◌^◌, ◌==◌, ◌&&◌, Bool, List, [], ◌∷◌}
use Rattle.std.specs.Prelude.{Option, Some, None, if◌then◌else◌}
use Rattle.std.specs.List.{All, Any, flat_map, filter_map, find, list_any, range_with_len}
use Rattle.cm_bits.specs.declared.place.Place.{Place}
use Rattle.cm_model.specs.declared.message.Tag.{Tag}
use Rattle.cm_model.specs.declared.message.Event.{Event}
use Rattle.cm_model.specs.declared.message.Event.TheVariants.{Injected, Delivered}
use Rattle.cm_model.specs.declared.found.Found.{Found}
use Rattle.cm_model.specs.declared.found.Found.TheVariants as found
use Rattle.cm_model.specs.Array.{nth_or_nil}
use Rattle.cm_model.specs.Machine.{Machine}

-- two tags are one
abbrev pub same_tag : Tag → Tag → Bool
same_tag s t = s.chip == t.chip && (s.proc == t.proc && s.birth == t.birth)

-- the chip in whose router a message of this tag stands
abbrev pub router_of : ℕ → Machine → Tag → Option ℕ
router_of n machine tag =
    find (λ c. list_any (λ m. same_tag m.tag tag) (nth_or_nil machine.buffers c)) (range_with_len 0 (2 ^ n))

-- the place of an event, if it tells that a message of this tag was delivered
abbrev pub delivery_place : Tag → Event → Option Place
delivery_place tag (Injected m) = None
delivery_place tag (Delivered c m) = if same_tag m.tag tag then Some (record { chip = c; proc = m.proc }) else None

-- where messages of this tag were delivered
abbrev pub delivery_places : ℕ → Machine → Tag → List Place
delivery_places n machine tag =
    flat_map (λ c. filter_map (delivery_place tag) (nth_or_nil machine.logs c)) (range_with_len 0 (2 ^ n))

-- where a tag is: a router comes before a place of delivery
abbrev pub found_from : Option ℕ → List Place → Found
found_from (Some c) places = found.Router c
found_from None (place ∷ places) = found.Delivered place.chip place.proc
found_from None [] = found.Unknown

-- where the message of a tag is: in a router, or else delivered, or else nowhere
unfoldable pub found_in : ℕ → Machine → Tag → Found
found_in n machine tag = found_from (router_of n machine tag) (delivery_places n machine tag)

-- a message of this tag stands at a chip
abbrev pub StandsAt : Machine → Tag → ℕ → Type 0
StandsAt machine tag c = Any (λ m. same_tag m.tag tag ≡ true) (nth_or_nil machine.buffers c)

-- a message of this tag was delivered at a chip, and to this place
abbrev pub WasDelivered : Machine → Tag → ℕ → Place → Type 0
WasDelivered machine tag c place = Any (λ event. delivery_place tag event ≡ Some place) (nth_or_nil machine.logs c)

-- no message of this tag stands at a chip or was delivered there
pub record IsNowhereAt (machine : Machine) (tag : Tag) (c : ℕ) : Type 0 where
  pub stands : All (λ m. same_tag m.tag tag ≡ false) (nth_or_nil machine.buffers c)
  pub delivered : All (λ event. delivery_place tag event ≡ None) (nth_or_nil machine.logs c)

-- the answer tells where the message is
abbrev pub IsWhereabouts : ℕ → Machine → Tag → Found → Type 0
IsWhereabouts n machine tag (found.Router c) = (c < 2 ^ n) × StandsAt machine tag c
IsWhereabouts n machine tag (found.Delivered c p) =
    (b : ℕ) × (b < 2 ^ n) × WasDelivered machine tag b (record { chip = c; proc = p })
IsWhereabouts n machine tag found.Unknown = (c : ℕ) → c < 2 ^ n → IsNowhereAt machine tag c
