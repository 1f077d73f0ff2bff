-- A chip that is read or changes, in its slots, in its tile and in all tiles.
use Rattle.std.proofs.Common.{◌≡◌, ◌≢◌, ℕ, zero, suc, ◌+◌, ◌-◌, ◌<◌, ◌≤◌, ◌++◌, true, List, [], ◌∷◌, length, set, remove}
use Rattle.std.proofs.Common.{sym, ◌∙◌, ⊎_elim, arith, ◌/◌, ◌%◌, map, refl, ap}
use Rattle.std.proofs.lemmas.Bool.{cases_eq, cases_lt}
use Rattle.std.proofs.lemmas.List.{length-append, length-set, get_or-set_same, get_or-set_other, get_or_past}
use Rattle.std.proofs.lemmas.List.{get_or_append_left, get_or_push}
use Rattle.std.proofs.lemmas.List.Edits.{length-remove, get_or-remove_below, get_or-remove_above}
use Rattle.std.specs.List.{All, slice_get}
use Rattle.std.proofs.lemmas.List.Elements.{All-set}
use Rattle.std.proofs.lemmas.Option.{slice_get-map, slice_get-get_or, slice_get_past}
use Rattle.cm_slots.specs.declared.tile.Tile.{Tile}
use Rattle.cm_slots.specs.Slots.{is_taken, AreSlots}
use Rattle.cm_slots.specs.Tiles.{slots_of, numbers_standing_at, IsShaped, IsQuiet, IsTile, IsPut, HasChanged}
use Rattle.cm_slots.specs.Runs.{no_tile, tile_at, tickets_of}
use Rattle.cm_slots.specs.declared.ticket.Ticket.{Ticket}
use Rattle.cm_slots.specs.Tickets.{ticket_of, ticket_in}
use Rattle.cm_slots.proofs.Standing.{standing_is, stands, ends_at}

pub counted : (len : ℕ) (slots : ℕ → ℕ) (xs : List ℕ) → AreSlots slots xs → ((j : ℕ) → j < len → slots j ≢ 0)
    → slots len ≡ 0 → len ≡ length xs
counted len slots xs are some none = grind (arith, are.taken len, get_or_past, some (length xs))

-- ---- the slots of the chip

pub arrived : (number len : ℕ) (old new : ℕ → ℕ) (xs : List ℕ) → AreSlots old xs → length xs < 15
    → is_taken number ≡ true → len ≡ length xs → new len ≡ number → ((j : ℕ) → j ≢ len → new j ≡ old j)
    → AreSlots new (xs ++ number ∷ [])
arrived number len old new xs are space taken last here same =
    grind (arith, length-append, get_or_append_left, get_or_push, get_or_past)

pub replaced : (number slot : ℕ) (old new : ℕ → ℕ) (xs : List ℕ) → AreSlots old xs → slot < length xs
    → is_taken number ≡ true → new slot ≡ number → ((j : ℕ) → j ≢ slot → new j ≡ old j)
    → AreSlots new (set xs slot number)
replaced number slot old new xs are there taken here same =
    grind (arith, length-set, get_or-set_same, get_or-set_other)

-- the slots from one on have closed up, up to another
pub record IsClosing (slot at : ℕ) (old new : ℕ → ℕ) : Type 0 where
  pub earlier : (j : ℕ) → j < slot → new j ≡ old j
  pub closed : (j : ℕ) → slot ≤ j → suc j < at → new j ≡ old (suc j)
  pub ahead : (j : ℕ) → at ≤ suc j → new j ≡ old j

pub one_more_closed : (slot later : ℕ) (old now new : ℕ → ℕ) → slot < later → new (later - 1) ≡ now later
    → ((j : ℕ) → j ≢ later - 1 → new j ≡ now j) → IsClosing slot later old now → IsClosing slot (later + 1) old new
one_more_closed slot later old now new order here same was = grind arith

removed : (slot later : ℕ) (old new : ℕ → ℕ) (xs : List ℕ) → AreSlots old xs → slot < length xs → length xs ≤ later
    → IsClosing slot (later + 1) old new → AreSlots new (remove xs slot)
removed slot later old new xs are there behind closing =
    grind (arith, length-remove, get_or-remove_below, get_or-remove_above, get_or_past)

-- ---- the tile

pub changed : (place : ℕ) (numbers : List ℕ) (old new : Tile) → IsTile old → IsShaped new → new.awake ≡ true
    → AreSlots (slots_of new place) numbers → ((i j : ℕ) → i ≢ place → slots_of new i j ≡ slots_of old i j)
    → HasChanged place numbers old new
changed place numbers old new whole shape awake here others =
    let kept : (i : ℕ) → i < 64 → i ≢ place → AreSlots (slots_of new i) (numbers_standing_at old i) = λ i h e.
    let was = whole.queues i h in
    record { fits = was.fits; each = λ j. others i j e ∙ was.each j; taken = was.taken } in
    record {
      whole = record {
        shape = shape;
        queues = λ i h. ⊎_elim (λ (e : i ≡ place). rw e (stands new place numbers here))
            (λ (e : i ≢ place). stands new i (numbers_standing_at old i) (kept i h e)) (cases_eq i place);
        quiet = λ asleep. absurd (cc (awake, asleep));
      };
      here = standing_is new place numbers here;
      others = λ i h e. standing_is new i (numbers_standing_at old i) (kept i h e);
    }

-- the last that closes up is nobody
pub taken_out : (place slot later : ℕ) (old now new : Tile) → place < 64 → IsTile old
    → slot < length (numbers_standing_at old place) → slot < later → slots_of old place later ≡ 0
    → IsPut place (later - 1) 0 now new → IsClosing slot later (slots_of old place) (slots_of now place)
    → ((i j : ℕ) → i ≢ place → slots_of now i j ≡ slots_of old i j)
    → HasChanged place (remove (numbers_standing_at old place) slot) old new
taken_out place slot later old now new inside whole there order none put closing others =
    let are = whole.queues place inside in
    changed place (remove (numbers_standing_at old place) slot) old new whole put.shape put.awake
    (removed slot later (slots_of old place) (slots_of new place) (numbers_standing_at old place) are there
    ((ends_at later (slots_of old place) (numbers_standing_at old place) are).0 none)
    (one_more_closed slot later (slots_of old place) (slots_of now place) (slots_of new place) order
    (put.here ∙ sym (closing.ahead later (omega arith) ∙ none)) put.same closing))
    (λ i j e. put.others i j e ∙ others i j e)

-- these tickets stand at one chip now, and at the others those that stood there
pub record IsChanged (chip : ℕ) (tickets : List Ticket) (old new : List Tile) : Type 0 where
  pub whole : All IsTile new
  pub here : tickets_of new chip ≡ tickets
  pub others : (c : ℕ) → c / 64 < length old → c ≢ chip → tickets_of new c ≡ tickets_of old c

-- what is told of a tile's chip is told of the chip
pub chip_changed : (chip : ℕ) (numbers : List ℕ) (tickets : List Ticket) (old : List Tile) (tile : Tile)
    → chip / 64 < length old → All IsTile old → HasChanged (chip % 64) numbers (tile_at old (chip / 64)) tile
    → map ticket_of numbers ≡ tickets → IsChanged chip tickets old (set old (chip / 64) tile)
chip_changed chip numbers tickets old tile inside whole step told =
    let t : ℕ = chip / 64 in
    let here : tile_at (set old t tile) t ≡ tile = get_or-set_same old t tile no_tile inside in
    record {
      whole = All-set IsTile old t tile step.whole whole;
      here = rw here (ap (map ticket_of) step.here ∙ told);
      others = λ c l e. ⊎_elim
          (λ (same : c / 64 ≡ t).
          rw (same, here) (ap (map ticket_of) (step.others (c % 64) (omega arith) (λ s. e (omega (arith, same, s))))))
          (λ (other : c / 64 ≢ t). rw (get_or-set_other old t (c / 64) tile no_tile other) refl)
          (cases_eq (c / 64) t);
    }

-- ---- what is read of a chip

pub taken_in : (slots : ℕ → ℕ) (xs : List ℕ) → AreSlots slots xs → (j : ℕ) → slots j ≢ 0 → is_taken (slots j) ≡ true
taken_in slots xs are j some = grind (arith, are.taken j, get_or_past)

pub ticket_of_slot : (slots : ℕ → ℕ) (xs : List ℕ) → AreSlots slots xs → (j : ℕ)
    → ticket_in (slots j) ≡ slice_get (map ticket_of xs) j
ticket_of_slot slots xs are j =
    grind (arith, are.taken j, slice_get-map, slice_get-get_or, slice_get_past, get_or_past)

-- ---- where nobody stands

-- no ticket stands at any chip of a quiet tile
pub quiet_tickets : (c : ℕ) (tiles : List Tile) → IsQuiet (tile_at tiles (c / 64)) → tickets_of tiles c ≡ []
quiet_tickets c tiles quiet =
    ap (map ticket_of) (standing_is (tile_at tiles (c / 64)) (c % 64) [] (quiet (c % 64) (omega arith)))

-- nor behind the last tile
no_tile_quiet : IsQuiet no_tile
no_tile_quiet i l = record { fits = omega arith; each = blank; taken = λ j m. absurd (omega arith) }
  where
    blank : (j : ℕ) → slots_of no_tile i j ≡ 0
    blank zero = refl
    blank (suc j) = refl

pub nobody_past : (tiles : List Tile) (c : ℕ) → length tiles ≤ c / 64 → tickets_of tiles c ≡ []
nobody_past tiles c past = quiet_tickets c tiles (rw (get_or_past tiles (c / 64) no_tile past) no_tile_quiet)

-- where somebody stands there is a tile
pub tile_there : (tiles : List Tile) (c place : ℕ) → place < length (tickets_of tiles c) → c / 64 < length tiles
tile_there tiles c place stands = ⊎_elim (λ (l : c / 64 < length tiles). l)
    (λ (l : length tiles ≤ c / 64). absurd (omega (arith, stands, ap length (nobody_past tiles c l))))
    (cases_lt (c / 64) (length tiles))
