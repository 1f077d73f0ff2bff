-- Whether events tell that the message of a tag was delivered. Ours.
use Rattle.std.specs.Prelude.{◌≡◌, ℕ, ◌<◌, List, Some, None, length}
use Rattle.std.specs.List.{All, Any}
use Rattle.cm_bits.specs.declared.place.Place.{Place}
use Rattle.cm_model.specs.declared.message.Tag.{Tag}
use Rattle.cm_model.specs.declared.message.Event.{Event}
use Rattle.cm_model.specs.Array.{nth_or_nil}
use Rattle.cm_model.specs.Found.{delivery_place}

-- some event tells that it was, to this place
abbrev pub TellOf : Tag → Place → List Event → Type 0
TellOf tag place events = Any (λ event. delivery_place tag event ≡ Some place) events

-- none tells that it was
abbrev pub TellNone : Tag → List Event → Type 0
TellNone tag events = All (λ event. delivery_place tag event ≡ None) events

-- some log tells that it was, to this place
pub record IsLoggedIn (tag : Tag) (place : Place) (logs : List (List Event)) : Type 0 where
  pub chip : ℕ
  pub is_chip : chip < length logs
  pub tells : TellOf tag place (nth_or_nil logs chip)
