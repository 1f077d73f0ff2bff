-- The tickets of each chip in the tiles: where nobody stands, and before and after they change.
use Rattle.std.proofs.Common.{◌≡◌, ℕ, zero, suc, ◌+◌, ◌/◌, ◌%◌, ◌<◌, ◌≤◌, List, [], length, map, replicate, false}
use Rattle.std.proofs.Common.{refl, ap, ⊎_elim, arith, ◌-◌, ◌*◌, ◌^◌, Option, None, Bool, slice_set, set, sym, ◌∙◌}
use Rattle.std.specs.List.{All}
use Rattle.std.proofs.lemmas.Bool.{cases_lt, ne_eqb}
use Rattle.std.proofs.lemmas.List.{get_or-replicate, get_or_past, length-map, length-set, get_or-set_same}
use Rattle.std.proofs.lemmas.List.{get_or-set_other, with_items_is}
use Rattle.std.proofs.lemmas.List.Elements.{All-from_get_or}
use Rattle.std.specs.Prelude.{bit_xor}
use Rattle.std.specs.Global.{Vec}
use Rattle.std.specs.Vec.{with_items}
use Rattle.std.proofs.lemmas.Nat.{xor_shr}
use Rattle.cm_model.specs.Each.{tabulate}
use Rattle.cm_model.proofs.Each.{same_each_below, is_each, length-tabulate, get_or-each_below, map-tabulate}
use Rattle.cm_model.specs.Array.{each_chip, nth_or_nil}
use Rattle.cm_model.proofs.Flips.{across_below, xor_twice}
use Rattle.cm_slots.specs.declared.tile.Tile.{Tile}
use Rattle.cm_slots.specs.declared.order.Order.{Order}
use Rattle.cm_slots.specs.Tickets.{ticket_of}
use Rattle.cm_slots.specs.Choice.{exchanged_by}
use Rattle.cm_slots.specs.Tiles.{slots_of, IsTile, IsQuiet}
use Rattle.cm_slots.specs.Runs.{no_tile, tile_at, tickets_of, queues_in, AreEmptyTiles, tile_across, numbers_at}
use Rattle.cm_slots.specs.Runs.{AreTiles, AreWithin}
use Rattle.cm_slots.specs.declared.ticket.Ticket.{Ticket}
use Rattle.cm_slots.specs.Queues.{place_of_leaver}
use Rattle.cm_slots.proofs.Standing.{get_or-zeros, stands}
use Rattle.cm_slots.proofs.Choosing.{place_by-nobody}
use Rattle.cm_slots.proofs.Runs.{tiles_of_cube, across_in}
use Rattle.cm_slots.proofs.Changing.{IsChanged, quiet_tickets, nobody_past, tile_there}

-- a new tile
abbrev pub blank_row : List ℕ
blank_row = replicate 64 0

abbrev pub new_tile : Tile
new_tile = record { first = blank_row; rest = replicate 14 blank_row; awake = false }

pub new_is_blank : (i j : ℕ) → slots_of new_tile i j ≡ 0
new_is_blank i zero = get_or-zeros 64 i
new_is_blank i (suc j) =
    ⊎_elim (λ (l : j < 14). rw (get_or-replicate 14 j blank_row [] l) (get_or-zeros 64 i))
    (λ (l : 14 ≤ j). rw (get_or_past (replicate 14 blank_row) j [] l) (get_or_past [] i 0 (omega arith)))
    (cases_lt j 14)

module _ {count : ℕ} {tiles : List Tile} (empty : AreEmptyTiles count tiles) where
  pub empty_quiet : (t : ℕ) → t < count → IsQuiet (tile_at tiles t)
  empty_quiet t h i l =
      record { fits = omega arith; each = λ j. empty.blank t i j h; taken = λ j m. absurd (omega arith) }

  pub empty_whole : All IsTile tiles
  empty_whole = All-from_get_or IsTile tiles no_tile (λ t h.
      let quiet = empty_quiet t (omega (arith, empty.long)) in
      record {
        shape = empty.shape t no_tile h;
        queues = λ i l. stands (tile_at tiles t) i [] (quiet i l);
        quiet = λ asleep. quiet;
      })

pub empty_queues : (chips count : ℕ) (tiles : List Tile) → AreEmptyTiles count tiles
    → queues_in chips tiles ≡ tabulate 0 chips (λ c. [])
empty_queues chips count tiles empty = same_each_below [] chips (tickets_of tiles) (λ c. [])
    (λ c h. ⊎_elim (λ (l : c / 64 < count). quiet_tickets c tiles (empty_quiet empty (c / 64) l))
    (λ (l : count ≤ c / 64). nobody_past tiles c (omega (arith, empty.long))) (cases_lt (c / 64) count))

-- as long as there are no tiles, nobody stands anywhere
pub no_queues : (chips : ℕ) (tiles : List Tile) → length tiles ≡ 0 → queues_in chips tiles ≡ tabulate 0 chips (λ c. [])
no_queues chips tiles none = same_each_below [] chips (tickets_of tiles) (λ c. [])
    (λ c h. nobody_past tiles c (omega (arith, none)))

-- which is what is kept at first
pub no_tiles : (chips : ℕ) (tiles : List Tile) (leaving : List (Option (List ℕ))) → chips ≤ 4096 → length tiles ≡ 0
    → length leaving ≡ 0 → AreTiles chips tiles leaving
no_tiles chips tiles leaving few none rows = record {
  few = few;
  count = λ some. absurd (omega (arith, some, none));
  rows = rows ∙ sym none;
  whole = All-from_get_or IsTile tiles no_tile (λ t h. absurd (omega (arith, h, none)));
  past = λ c h l. absurd (omega (arith, l, none));
}

-- and after they have been made
pub tiles_made : (chips : ℕ) (tiles : List Tile) (leaving : List (Option (List ℕ))) → chips ≤ 4096
    → AreEmptyTiles ((chips + 63) / 64) tiles → length leaving ≡ (chips + 63) / 64 → AreTiles chips tiles leaving
tiles_made chips tiles leaving few empty rows = record {
  few = few;
  count = λ some. empty.long;
  rows = rows ∙ sym empty.long;
  whole = empty_whole empty;
  past = λ c h l. quiet_tickets c tiles (empty_quiet empty (c / 64) (omega (arith, empty.long)));
}

-- what was lent as a slice has what was written to the slice
pub items-lent : {X : Type 0} (row : Vec X) (now : List X) → length now ≡ length row.items
    → (with_items row now).items ≡ now
items-lent row now same = with_items_is row now (same ∙ sym row.ok.0)

-- nobody leaves where nobody stands
pub place_of_leaver-nobody : {X : Type 0} (test : X → Bool) (room : ℕ) → 0 < room → place_of_leaver test room [] ≡ None
unfolding place_of_leaver
place_of_leaver-nobody test room some = rw (ne_eqb 0 room (λ e. absurd (omega (arith, e)))) refl

module _ {chips : ℕ} {tiles : List Tile} {leaving : List (Option (List ℕ))} {q : List (List Ticket)}
    (are : AreTiles chips tiles leaving) (view : queues_in chips tiles ≡ q) where
  pub as_many : length q ≡ chips
  as_many = sym (ap length view) ∙ length-tabulate 0 chips (tickets_of tiles)

  pub ticket_list : (c : ℕ) → c < chips → tickets_of tiles c ≡ nth_or_nil q c
  ticket_list c h =
      sym (get_or-each_below chips (tickets_of tiles) c [] h) ∙ ap (λ (r : List (List Ticket)). nth_or_nil r c) view

  -- nobody stands at any chip as long as there are no tiles; where somebody stands there is one
  pub nobody_yet : length tiles ≡ 0 → (c : ℕ) → c < chips → nth_or_nil q c ≡ []
  nobody_yet none c h = sym (ticket_list c h) ∙ nobody_past tiles c (omega (arith, none))

  pub stands_there : (c place : ℕ) → c < length q → place < length (nth_or_nil q c) → c / 64 < length tiles
  stands_there c place h stands =
      tile_there tiles c place (omega (arith, stands, ap length (ticket_list c (omega (arith, h, as_many)))))

  -- no more than so many stand anywhere, also behind the last chip
  pub within_everywhere : (room : ℕ) → All (λ ts. length ts ≤ room) q → AreWithin room tiles
  within_everywhere room within t i h l =
      let c : ℕ = t * 64 + i in
      let tile : c / 64 ≡ t = omega arith in
      let place : c % 64 ≡ i = omega arith in
      let few : length (numbers_at tiles c) ≤ room =
      grind (arith, length-map, ticket_list c, are.past c, within c [], as_many) in
      rw (tile, place) at few

  -- what is made of each chip's tickets, by chip
  pub mapped : {Y : Type 0} (none : Y) (made : ℕ → Y) (f : List Ticket → Y)
      → ((c : ℕ) → c / 64 < length tiles → made c ≡ f (tickets_of tiles c))
      → ((c : ℕ) → length tiles ≤ c / 64 → made c ≡ f []) → tabulate 0 chips made ≡ map f q
  mapped none made f each past =
      same_each_below none chips made (λ c. f (tickets_of tiles c)) (λ c h. ⊎_elim
      (λ (l : c / 64 < length tiles). each c l)
      (λ (l : length tiles ≤ c / 64). past c l ∙ ap f (sym (nobody_past tiles c l)))
      (cases_lt (c / 64) (length tiles)))
      ∙ sym (map-tabulate f 0 chips (tickets_of tiles)) ∙ ap (map f) view

  -- where there is no tile for a chip, there is none at all
  pub none_made : (c : ℕ) → c < chips → length tiles ≤ c / 64 → length tiles ≡ 0
  none_made c h past = ⊎_elim (λ (l : 0 < length tiles). absurd (omega (arith, h, past, are.count l)))
      (λ (l : length tiles ≤ 0). omega (arith, l)) (cases_lt 0 (length tiles))

  pub across_inside : {dims d : ℕ} → length q ≡ 2 ^ dims → d < dims → (t : ℕ) → t < length tiles
      → tile_across d t < length tiles
  across_inside {dims = dims} {d = d} count below t h =
      let many : length tiles ≡ 2 ^ (dims - 6) =
      are.count (omega (arith, h)) ∙ ap (λ (n : ℕ). (n + 63) / 64) (sym as_many ∙ count) ∙ tiles_of_cube dims in
      rw many (across_in dims d t below (omega (arith, many)))

  -- ---- other tiles in their place

  module _ (new : List Tile) (long : length new ≡ length tiles) where
    pub tiles_kept : {rows : List (Option (List ℕ))} → length rows ≡ length leaving → All IsTile new
        → ((c : ℕ) → chips ≤ c → c / 64 < length tiles → tickets_of new c ≡ []) → AreTiles chips new rows
    tiles_kept rows whole past = record {
      few = are.few;
      count = λ some. long ∙ are.count (omega (arith, some, long));
      rows = rows ∙ are.rows ∙ sym long;
      whole = whole;
      past = λ c h l. past c h (omega (arith, long));
    }

    pub changed_queues : (chip : ℕ) (tickets : List Ticket) → chip < chips → chip / 64 < length tiles
        → IsChanged chip tickets tiles new → queues_in chips new ≡ slice_set q chip tickets
    changed_queues chip tickets inside there step =
        let count : length tiles ≡ (chips + 63) / 64 = are.count (omega (arith, there)) in
        sym (is_each [] chips (tickets_of new) (set q chip tickets) (length-set q chip tickets ∙ as_many)
        (λ c h. grind (
          arith,
          get_or-set_same,
          get_or-set_other,
          step.here,
          step.others c,
          ticket_list c,
          as_many,
          count,
        )))

    -- a dimension of a cube
    module _ {dims d : ℕ} (count : length q ≡ 2 ^ dims) (below : d < dims) (order : Order) (room : ℕ) (each : (c : ℕ)
        → c / 64 < length tiles
        → tickets_of new c ≡ exchanged_by order room d (tickets_of tiles c) (tickets_of tiles (bit_xor c (2 ^ d)))) where
      -- also where there are no tiles
      each_exchanged : 0 < room → (c : ℕ) → c < chips
          → tickets_of new c ≡ exchanged_by order room d (tickets_of tiles c) (tickets_of tiles (bit_xor c (2 ^ d)))
      each_exchanged some c h = ⊎_elim (λ (l : c / 64 < length tiles). each c l)
          (λ (l : length tiles ≤ c / 64).
          let none : length tiles ≡ 0 = none_made c h l in
          nobody_past new c (omega (arith, long, l)) ∙ rw (
            nobody_past tiles c l,
            nobody_past tiles (bit_xor c (2 ^ d)) (omega (arith, none)),
            place_by-nobody order d room some,
          ) refl)
          (cases_lt (c / 64) (length tiles))

      pub queues_after : 0 < room → queues_in chips new
          ≡ each_chip dims (λ c. exchanged_by order room d (nth_or_nil q c) (nth_or_nil q (bit_xor c (2 ^ d))))
      queues_after some = same_each_below [] chips (tickets_of new)
          (λ c. exchanged_by order room d (nth_or_nil q c) (nth_or_nil q (bit_xor c (2 ^ d))))
          (λ c h. each_exchanged some c h ∙ rw (
            ticket_list c h,
            ticket_list (bit_xor c (2 ^ d)) (omega (arith, as_many, across_below dims d c below)),
          ) refl)
          ∙ ap (λ (n : ℕ). tabulate 0 n (λ c. exchanged_by order room d (nth_or_nil q c) (nth_or_nil q (bit_xor c (2 ^ d)))))
          (sym as_many ∙ count)

      -- behind the last chip, where nobody stood, nobody comes
      pub crossed_past : 0 < room → (c : ℕ) → chips ≤ c → c / 64 < length tiles → tickets_of new c ≡ []
      crossed_past some c past h =
          let other : ℕ = bit_xor c (2 ^ d) in
          let there : other / 64 < length tiles =
          omega (arith, xor_shr c (2 ^ d) 6, across_inside count below (c / 64) h) in
          let past_too : chips ≤ other =
          grind (arith, xor_twice c (2 ^ d), as_many, across_below dims d other below) in
          each c h ∙ rw (
            are.past c past h,
            are.past other past_too there,
            place_by-nobody order d room some,
          ) refl

pub within_view : (chips : ℕ) (tiles : List Tile) (room : ℕ) → AreWithin room tiles
    → All (λ ts. length ts ≤ room) (queues_in chips tiles)
within_view chips tiles room few k d h =
    let low : k < chips = omega (arith, length-tabulate 0 chips (tickets_of tiles)) in
    let read = ap length (get_or-each_below chips (tickets_of tiles) k d low) in
    ⊎_elim
    (λ (l : k / 64 < length tiles).
    omega (arith, read, few (k / 64) (k % 64) l (omega arith), length-map (numbers_at tiles k) ticket_of))
    (λ (l : length tiles ≤ k / 64). omega (arith, read, ap length (nobody_past tiles k l)))
    (cases_lt (k / 64) (length tiles))
