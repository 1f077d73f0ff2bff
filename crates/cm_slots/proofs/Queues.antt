-- What a contract sees of the queues of a run of chips: where the tickets of a chip stand, and what becomes of them.
use Rattle.std.proofs.Common.{◌≡◌, ℕ, ◌+◌, ◌/◌, ◌%◌, ◌<◌, ◌≤◌, ◌==◌, Bool, true, false, List, [], ◌∷◌, ◌++◌, length}
use Rattle.std.proofs.Common.{map, get_or, set, remove, Option, Some, refl, sym, ◌∙◌, ap, arith, slice_set, vec_len}
use Rattle.std.proofs.Common.{⊎_elim}
use Rattle.std.specs.List.{All, list_any, slice_get}
use Rattle.std.specs.Option.{option_map}
use Rattle.std.proofs.lemmas.Bool.{cases_lt}
use Rattle.std.proofs.lemmas.Option.{slice_get-map}
use Rattle.std.specs.Prelude.{bit_xor}
use Rattle.std.specs.Int.Bits.{xor_zero_r}
use Rattle.std.specs.Global.{Vec}
use Rattle.std.proofs.lemmas.List.{get_or_read, length-map, length-set, map-append, map-set, with_items_is}
use Rattle.cm_model.specs.Array.{nth_or_nil}
use Rattle.cm_model.proofs.Leaving.{map-without}
use Rattle.cm_model.proofs.Each.{length-tabulate, get_or-each_below}
use Rattle.cm_slots.specs.declared.ticket.Ticket.{Ticket}
use Rattle.cm_slots.specs.declared.tile.Tile.{Tile}
use Rattle.cm_slots.specs.Tickets.{ticket_of, has_come}
use Rattle.cm_slots.specs.Tiles.{numbers_standing_at, IsTile, HasChanged}
use Rattle.cm_slots.specs.Runs.{no_tile, tile_at, tickets_of, queues_in, AreTiles, AreKept, AreWithin}
use Rattle.cm_slots.specs.Moves.{ticket_over, queues_over, AreQueues, AreSettled}
use Rattle.cm_slots.proofs.Changing.{IsChanged, chip_changed, nobody_past}
use Rattle.cm_slots.proofs.Views.{as_many, ticket_list, nobody_yet, tiles_kept, changed_queues, within_view}
use Rattle.cm_slots.proofs.Views.{within_everywhere}
use Rattle.cm_slots.proofs.Moves.{length-over, nth_or_nil-over, queues_over-none, as_long, queue_at, within_is}

-- what is read of a list that a function makes
pub ruleset seen = (length-over, nth_or_nil-over, queues_over-none, length-tabulate, get_or-each_below, with_items_is)

-- ---- whether there are tiles

module _ (tiles : Vec Tile) (empty : Bool) (is : empty ≡ (vec_len tiles == 0)) where
  pub no_tiles_yet : empty ≡ true → length tiles.items ≡ 0
  no_tiles_yet so = grind (arith, tiles.ok.0)

  pub some_tiles : empty ≡ false → 0 < length tiles.items
  some_tiles so = grind (arith, tiles.ok.0)

-- ---- where nothing is noted

pub none_noted : {noted chips : ℕ} {tiles : Vec Tile} {leaving : Vec (Option (List ℕ))} → noted ≡ 0
    → AreKept chips tiles leaving → AreQueues noted chips tiles leaving
none_noted none kept = record {
  kept = kept;
  movable = rw none (record { inside = λ c h. rw (xor_zero_r c) h; few = λ some. absurd (some refl) });
}

pub over_none_noted : {noted : ℕ} (queues : List (List Ticket)) {q : List (List Ticket)} → noted ≡ 0 → queues ≡ q
    → queues_over noted queues ≡ q
over_none_noted queues none view = rw none (queues_over-none queues ∙ view)

-- each ticket of these queues stands at its chip
pub record AreStanding (chips : ℕ) (q : List (List Ticket)) (tiles : Vec Tile) (leaving : Vec (Option (List ℕ)))
    : Type 0 where
  pub kept : AreKept chips tiles leaving
  pub view : queues_in chips tiles.items ≡ q

pub settled_stand : {noted chips : ℕ} {old new : Vec Tile} {leaving : Vec (Option (List ℕ))} {q : List (List Ticket)}
    → AreSettled noted chips old new leaving → queues_over noted (queues_in chips old.items) ≡ q
    → AreStanding chips q new leaving
settled_stand settled view = record { kept = settled.kept; view = settled.value ∙ view }

module _ {chips : ℕ} {tiles : Vec Tile} {leaving : Vec (Option (List ℕ))} {q : List (List Ticket)}
    (stand : AreStanding chips q tiles leaving) where
  pub made_stand : {made : Vec Tile} {left : Vec (Option (List ℕ))} → AreKept chips made left
      → queues_in chips made.items ≡ queues_in chips tiles.items → AreStanding chips q made left
  made_stand kept same = record { kept = kept; view = same ∙ stand.view }

  pub made_there : length tiles.items ≡ (chips + 63) / 64 → (c : ℕ) → c < length q → c / 64 < length tiles.items
  made_there count c h = omega (arith, count, h, as_many stand.kept.are stand.view)

-- ---- a chip that is read

module _ {noted chips : ℕ} {tiles : Vec Tile} {leaving : Vec (Option (List ℕ))} {q : List (List Ticket)}
    (queues : AreQueues noted chips tiles leaving) (view : queues_over noted (queues_in chips tiles.items) ≡ q) where
  abbrev were : List (List Ticket)
  were = queues_in chips tiles.items

  are : AreTiles chips tiles.items leaving.items
  are = queues.kept.are

  pub chip_count : length q ≡ chips
  chip_count = sym (as_long noted were view) ∙ as_many are refl

  -- where the tickets of a chip stand
  pub stand_inside : (c : ℕ) → c < length q → bit_xor c noted < chips
  stand_inside c h =
      let many = as_long noted were view in
      omega (arith, as_many are (refl {a = were}), queues.movable.inside c (omega arith))

  -- nobody stands anywhere as long as there are no tiles
  pub none_stand : length tiles.items ≡ 0 → (c : ℕ) → c < length q → nth_or_nil q c ≡ []
  none_stand none c h = sym (queue_at noted were view c h)
      ∙ ap (map (ticket_over noted)) (nobody_yet are refl none (bit_xor c noted) (stand_inside c h))

  -- where nothing is noted they stand at the chip itself
  pub unmoved : noted ≡ 0 → (c : ℕ) → c < length q → nth_or_nil q c ≡ tickets_of tiles.items c
  unmoved none c h = ap (λ (qs : List (List Ticket)). nth_or_nil qs c) (sym view ∙ over_none_noted were none refl)
      ∙ sym (ticket_list are refl c (omega (arith, h, chip_count)))

  module _ (c : ℕ) (h : c < length q) where
    standing : map (ticket_over noted) (tickets_of tiles.items (bit_xor c noted)) ≡ nth_or_nil q c
    standing = ap (map (ticket_over noted)) (ticket_list are refl (bit_xor c noted) (stand_inside c h))
        ∙ queue_at noted were view c h

    -- no ticket of the chip has arrived if that is so of the chip where they stand
    pub none_at : ((k : ℕ) → k / 64 < length tiles.items
        → list_any has_come (map (ticket_over noted) (tickets_of tiles.items k)) ≡ false)
        → list_any has_come (nth_or_nil q c) ≡ false
    none_at none = rw (← standing) (⊎_elim (λ (l : bit_xor c noted / 64 < length tiles.items). none (bit_xor c noted) l)
        (λ (l : length tiles.items ≤ bit_xor c noted / 64). rw (nobody_past tiles.items (bit_xor c noted) l) refl)
        (cases_lt (bit_xor c noted / 64) (length tiles.items)))

    module _ (some : 0 < length tiles.items) where
      pub tile_made : bit_xor c noted / 64 < length tiles.items
      tile_made = omega (arith, are.count some, stand_inside c h)

      module _ (tile : Tile) (read : tile ≡ get_or tiles.items (bit_xor c noted / 64) tile) where
        tile_is : tile ≡ tile_at tiles.items (bit_xor c noted / 64)
        tile_is = get_or_read tiles.items (bit_xor c noted / 64) tile tile_made read no_tile

        pub whole_at : IsTile tile
        whole_at = rw tile_is (are.whole (bit_xor c noted / 64) no_tile tile_made)

        abbrev numbers : List ℕ
        numbers = numbers_standing_at tile (bit_xor c noted % 64)

        tickets_at : map (ticket_over noted) (map ticket_of numbers) ≡ nth_or_nil q c
        tickets_at = ap (λ (there : Tile). map (ticket_over noted)
            (map ticket_of (numbers_standing_at there (bit_xor c noted % 64)))) tile_is ∙ standing

        pub length_at : length numbers ≡ length (nth_or_nil q c)
        length_at = sym (length-map (map ticket_of numbers) (ticket_over noted) ∙ length-map numbers ticket_of)
            ∙ ap length tickets_at

        pub place_at : (place : ℕ)
            → option_map (ticket_over noted) (slice_get (map ticket_of numbers) place)
            ≡ slice_get (nth_or_nil q c) place
        place_at place = sym (slice_get-map (ticket_over noted) (map ticket_of numbers) place)
            ∙ ap (λ (ts : List Ticket). slice_get ts place) tickets_at

  module _ (room : ℕ) where
    pub within_tiles : All (λ ts. length ts ≤ room) q → AreWithin room tiles.items
    within_tiles few =
        within_everywhere are refl room ((within_is noted were view room queues.movable.inside).1 few)

    pub within_queues : AreWithin room tiles.items → All (λ ts. length ts ≤ room) q
    within_queues few =
        (within_is noted were view room queues.movable.inside).0 (within_view chips tiles.items room few)

-- ---- a chip that changes, where nothing is noted

module _ {chips chip : ℕ} {tiles : Vec Tile} {leaving : Vec (Option (List ℕ))} {q : List (List Ticket)}
    (stand : AreStanding chips q tiles leaving) (h : chip < length q)
    (there : chip / 64 < length tiles.items) (tile : Tile) (read : tile ≡ get_or tiles.items (chip / 64) tile) where
  read_is : tile ≡ tile_at tiles.items (chip / 64)
  read_is = get_or_read tiles.items (chip / 64) tile there read no_tile

  low : chip < chips
  low = omega (arith, as_many stand.kept.are stand.view)

  pub whole_here : IsTile tile
  whole_here = rw read_is (stand.kept.are.whole (chip / 64) no_tile there)

  tickets_here : map ticket_of (numbers_standing_at tile (chip % 64)) ≡ nth_or_nil q chip
  tickets_here = ap (λ (here : Tile). map ticket_of (numbers_standing_at here (chip % 64))) read_is
      ∙ ticket_list stand.kept.are stand.view chip low

  abbrev stand_here : List ℕ
  stand_here = numbers_standing_at tile (chip % 64)

  pub length_here : length stand_here ≡ length (nth_or_nil q chip)
  length_here = sym (length-map stand_here ticket_of) ∙ ap length tickets_here

  module _ (now : Tile) where
    abbrev new : List Tile
    new = set tiles.items (chip / 64) now

    long : length new ≡ length tiles.items
    long = length-set tiles.items (chip / 64) now

    put : (numbers : List ℕ) (tickets : List Ticket) → HasChanged (chip % 64) numbers tile now
        → map ticket_of numbers ≡ tickets → AreTiles chips new leaving.items
        × (queues_in chips new ≡ slice_set q chip tickets)
    put numbers tickets step told =
        let changed : IsChanged chip tickets tiles.items new =
        chip_changed chip numbers tickets tiles.items now there stand.kept.are.whole (rw read_is at step) told in (
          tiles_kept stand.kept.are stand.view new long refl changed.whole
              (λ c past l. changed.others c l (λ e. absurd (omega (arith, e, low))) ∙ stand.kept.are.past c past l),
          changed_queues stand.kept.are stand.view new long chip tickets low there changed,
        )

    module _ (slot : ℕ) (ticket : Ticket) (is : ticket_of slot ≡ ticket) where
      pub after_arrival : HasChanged (chip % 64) (stand_here ++ slot ∷ []) tile now → AreTiles chips new leaving.items
          × (queues_in chips new ≡ slice_set q chip (nth_or_nil q chip ++ ticket ∷ []))
      after_arrival step = put (stand_here ++ slot ∷ []) (nth_or_nil q chip ++ ticket ∷ []) step
          (map-append ticket_of stand_here (slot ∷ []) ∙ rw (tickets_here, is) refl)

      pub after_replacement : (place : ℕ) → HasChanged (chip % 64) (slice_set stand_here place slot) tile now
          → AreTiles chips new leaving.items
          × (queues_in chips new ≡ slice_set q chip (slice_set (nth_or_nil q chip) place ticket))
      after_replacement place step =
          put (slice_set stand_here place slot) (slice_set (nth_or_nil q chip) place ticket) step
          (map-set ticket_of stand_here place slot ∙ rw (tickets_here, is) refl)

    pub after_removal : (place : ℕ) → HasChanged (chip % 64) (remove stand_here place) tile now
        → AreTiles chips new leaving.items
        × (queues_in chips new ≡ slice_set q chip (remove (nth_or_nil q chip) place))
    after_removal place step = put (remove stand_here place) (remove (nth_or_nil q chip) place) step
        (map-without ticket_of stand_here (Some place) ∙ ap (λ (ts : List Ticket). remove ts place) tickets_here)
