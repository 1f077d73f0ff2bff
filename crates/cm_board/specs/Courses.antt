-- Courses of lanes: what contracts see of an end. Ours.
use Rattle.std.specs.Prelude.{ℕ, ◌+◌, ◌<◌, List, length, slice_index_or}

-- a lane's parcels, as one of its ends has gone through them
pub record Course (T : Type 0) : Type 0 where
  pub due : List T  -- one for each use
  pub blank : T  -- what lies in the cell between two uses
  pub uses : ℕ  -- how many uses the end has finished

-- at the beginning
abbrev pub unused : {T : Type 0} → List T → T → Course T
unused due blank = record { due = due; blank = blank; uses = 0 }

-- a use is left
abbrev pub HasMore : {T : Type 0} → Course T → Type 0
HasMore course = course.uses < length course.due

-- the parcel of the use that is next, or that goes on
abbrev pub due_now : {T : Type 0} → Course T → T
due_now course = slice_index_or course.due course.uses course.blank

-- after that use
abbrev pub one_use_more : {T : Type 0} → Course T → Course T
one_use_more course = record course { uses = course.uses + 1 }
