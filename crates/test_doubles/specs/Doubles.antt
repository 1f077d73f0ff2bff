-- What a clause reads of the ends that tests use in place of files: ours.
use Rattle.std.specs.Prelude.{◌≡◌, ℕ, ◌-◌, ◌<◌, Bool, false, Option, List, length, take, min, max}
use Rattle.std.specs.Option.{unwrap_or}
use Rattle.test_doubles.specs.declared.bytes.Bytes.{Bytes}
use Rattle.test_doubles.specs.declared.room.Room.{Room}

-- the bytes that are left
abbrev pub bytes_left : Bytes → List ℕ
bytes_left s = s.rest.now

-- at most as many bytes come from one call
abbrev pub bytes_step : Bytes → ℕ
bytes_step s = max s.step 1

-- how many bytes come before it fails, where it does
abbrev pub bytes_good : Bytes → Option ℕ
bytes_good s = s.good

-- at most as many bytes come from the next call
abbrev pub bytes_most : Bytes → ℕ
bytes_most s = min (bytes_step s) (unwrap_or (bytes_good s) (bytes_step s))

-- a call of it has failed
abbrev pub bytes_has_failed : Bytes → Bool
bytes_has_failed s = s.failed

-- the bytes that it took
abbrev pub room_taken : Room → List ℕ
room_taken s = take s.used s.space.items

-- how many more bytes it takes
abbrev pub room_left : Room → ℕ
room_left s = length s.space.items - s.used

-- at most as many bytes go into one call
abbrev pub room_step : Room → ℕ
room_step s = max s.step 1

-- once it is full it takes 0 bytes in place of failing
abbrev pub room_takes_nothing : Room → Bool
room_takes_nothing s = s.takes_nothing

-- a call of it has failed
abbrev pub room_has_failed : Room → Bool
room_has_failed s = s.failed

-- the sink fails at these bytes: it is full and does not say so by taking none
pub record IsOverflow (s : Room) (buf : List ℕ) : Type 0 where
  pub some : 0 < length buf
  pub full : room_left s ≡ 0
  pub fails : room_takes_nothing s ≡ false
