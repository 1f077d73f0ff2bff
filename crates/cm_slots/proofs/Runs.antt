-- All tiles of a run, one after the other, and after both passes.
use Rattle.std.proofs.Common.{◌≡◌, ◌≢◌, ℕ, ◌+◌, ◌<◌, ◌≤◌, ◌++◌, List, length, set, ◌∙◌, ⊎_elim, arith}
use Rattle.std.proofs.Common.{◌-◌, ◌*◌, ◌/◌, ◌%◌, ◌^◌, ◌⊎◌, inl, inr, Option, None, ap, sym, refl, slice_index}
use Rattle.std.proofs.lemmas.Bool.{cases_eq, cases_lt}
use Rattle.std.proofs.lemmas.List.{length-set, get_or-set_same, get_or-set_other, append-nil}
use Rattle.std.proofs.lemmas.List.{length-append}
use Rattle.std.specs.Prelude.{bit_xor, IfSome}
use Rattle.std.specs.Int.Bits.{xor_zero_r}
use Rattle.std.specs.List.{All}
use Rattle.std.proofs.lemmas.List.Elements.{All-from_get_or}
use Rattle.std.proofs.lemmas.Nat.{pow-add, pow_below, pow_pos, xor_lt, xor_shr, xor_mod}
use Rattle.cm_slots.specs.declared.tile.Tile.{Tile}
use Rattle.cm_slots.specs.declared.order.Order.{Order}
use Rattle.cm_model.proofs.Flips.{xor_twice}
use Rattle.cm_slots.specs.declared.order.Order.TheVariants.{Arrival}
use Rattle.cm_slots.specs.Slots.{comers, AreSlots, slot_across, leaver_at}
use Rattle.cm_slots.specs.Tiles.{slots_of, IsShaped, IsQuiet, HasLeft, HasTakenIn, numbers_standing_at, IsTile, stayers_by}
use Rattle.cm_slots.specs.Choice.{exchanged_by}
use Rattle.cm_slots.specs.Runs.{no_tile, tile_at, leavers_at, tickets_of, tile_across, place_across, HasCrossed}
use Rattle.cm_slots.specs.Runs.{HasDeparted, AreLeavers, AreWithin}
use Rattle.cm_slots.proofs.Standing.{nobody_comes, standing_is, stands}
use Rattle.cm_slots.proofs.Numbers.{stayers-tickets, exchanged-tickets}

-- this has been done with the first so many tiles, and the others are as they were
pub record AreDone (step : ℕ → Tile → Tile → Type 0) (old now : List Tile) (count : ℕ) : Type 0 where
  pub long : length now ≡ length old
  pub done : (t : ℕ) → t < count → step t (tile_at old t) (tile_at now t)
  pub ahead : (t : ℕ) → count ≤ t → tile_at now t ≡ tile_at old t

pub one_more_done : (step then : ℕ → Tile → Tile → Type 0) (old now : List Tile) (count : ℕ) (tile : Tile)
    → count < length old → ((t : ℕ) (before after : Tile) → t < count → step t before after → then t before after)
    → then count (tile_at now count) tile → AreDone step old now count
    → AreDone then old (set now count tile) (count + 1)
one_more_done step then old now count tile inside keeps here was = record {
  long = length-set now count tile ∙ was.long;
  done = λ t h. ⊎_elim
      (λ (e : t ≡ count). rw (e, get_or-set_same now count tile no_tile (omega (arith, was.long)))
      (rw (was.ahead count (omega arith)) at here))
      (λ (e : t ≢ count). rw (get_or-set_other now count t tile no_tile e)
      (keeps t (tile_at old t) (tile_at now t) (omega (arith, e)) (was.done t (omega (arith, e)))))
      (cases_eq t count);
  ahead = λ t h. get_or-set_other now count t tile no_tile (omega arith) ∙ was.ahead t (omega arith);
}

-- the tiles before this one, and those across dimension d from them, have crossed it, each with the tile across, and the
-- others are as they were
pub record ArePaired (d : ℕ) (step : Tile → Tile → Tile → Type 0) (old now : List Tile) (count : ℕ) : Type 0 where
  pub long : length now ≡ length old
  pub done : (t : ℕ) → t < length old → (t < count) ⊎ (tile_across d t < count)
      → step (tile_at old t) (tile_at old (tile_across d t)) (tile_at now t)
  pub ahead : (t : ℕ) → count ≤ t → count ≤ tile_across d t → tile_at now t ≡ tile_at old t

module _ (d : ℕ) (step : Tile → Tile → Tile → Type 0) (old now : List Tile) (count : ℕ)
    (was : ArePaired d step old now count) where
  -- the tile across was before this one
  pub one_more_passed : tile_across d count < count → ArePaired d step old now (count + 1)
  one_more_passed low = record {
    long = was.long;
    done = λ t h which. was.done t h (⊎_elim
        (λ (l : t < count + 1). ⊎_elim (λ (e : t ≡ count). inr (rw e low))
        (λ (e : t ≢ count). inl (omega (arith, e))) (cases_eq t count))
        (λ (l : tile_across d t < count + 1). ⊎_elim
        (λ (e : tile_across d t ≡ count). inl (omega (arith, ap (tile_across d) e, xor_twice t (2 ^ d / 64), low)))
        (λ (e : tile_across d t ≢ count). inr (omega (arith, e))) (cases_eq (tile_across d t) count))
        which);
    ahead = λ t l m. was.ahead t (omega (arith, l)) (omega (arith, m));
  }

  -- this tile and the one across have crossed
  pub one_more_pair : (new : List Tile) → length new ≡ length now → count ≤ tile_across d count
      → step (tile_at now count) (tile_at now (tile_across d count)) (tile_at new count)
      → step (tile_at now (tile_across d count)) (tile_at now count) (tile_at new (tile_across d count))
      → ((t : ℕ) → t ≢ count → t ≢ tile_across d count → tile_at new t ≡ tile_at now t)
      → ArePaired d step old new (count + 1)
  one_more_pair new long low first second others =
      let across : ℕ = tile_across d count in
      let back : tile_across d across ≡ count = xor_twice count (2 ^ d / 64) in
      let here : tile_at now count ≡ tile_at old count = was.ahead count (omega arith) low in
      let there : tile_at now across ≡ tile_at old across = was.ahead across low (omega (arith, back)) in
      let from : (t : ℕ) → tile_across d t ≡ count → t ≡ across = λ t e. sym (xor_twice t (2 ^ d / 64)) ∙ ap (tile_across d) e in
      record {
        long = long ∙ was.long;
        done = λ t h which. ⊎_elim
            (λ (e : t ≡ count). rw e (rw (here, there) at first))
            (λ (e : t ≢ count). ⊎_elim
            (λ (f : t ≡ across). rw (f, back) (rw (here, there) at second))
            (λ (f : t ≢ across). rw (others t e f) (was.done t h (⊎_elim
            (λ (l : t < count + 1). inl (omega (arith, e)))
            (λ (l : tile_across d t < count + 1). ⊎_elim
            (λ (g : tile_across d t ≡ count). absurd (f (from t g)))
            (λ (g : tile_across d t ≢ count). inr (omega (arith, g))) (cases_eq (tile_across d t) count))
            which)))
            (cases_eq t across))
            (cases_eq t count);
        ahead = λ t l m. others t (λ e. absurd (omega (arith, e, l)))
            (λ f. absurd (omega (arith, ap (tile_across d) f, back, m)))
            ∙ was.ahead t (omega (arith, l)) (omega (arith, m));
      }

  -- this tile, which is the one across from itself, has crossed
  pub one_more_alone : (tile : Tile) → count < length old → tile_across d count ≡ count
      → step (tile_at now count) (tile_at now count) tile → ArePaired d step old (set now count tile) (count + 1)
  one_more_alone tile inside same has =
      let put : tile_at (set now count tile) count ≡ tile =
      get_or-set_same now count tile no_tile (omega (arith, inside, was.long)) in
      one_more_pair (set now count tile) (length-set now count tile) (omega (arith, same)) (rw (same, put) has)
      (rw (same, put) has) (λ t e f. get_or-set_other now count t tile no_tile e)

-- ---- which tile and which place

-- a bit beyond the width of a tile
module _ (d : ℕ) (far : 6 ≤ d) where
  power_far : 2 ^ d ≡ 2 ^ (d - 6) * 2 ^ 6
  power_far = ap (λ (n : ℕ). 2 ^ n) (omega arith) ∙ pow-add 2 (d - 6) 6

  -- the place is the same
  pub place-far : (i : ℕ) → place_across d i ≡ i
  place-far i = let none : 2 ^ d % 64 ≡ 0 = omega (arith, power_far) in ap (bit_xor i) none ∙ xor_zero_r i

-- a bit within the width of a tile: the tile is the same
pub tile-near : (d : ℕ) → d < 6 → (t : ℕ) → tile_across d t ≡ t
tile-near d near t =
    let none : 2 ^ d / 64 ≡ 0 = omega (arith, pow_below d 6 near) in ap (bit_xor t) none ∙ xor_zero_r t

-- as many tiles as a cube of chips fills
pub tiles_of_cube : (dims : ℕ) → (2 ^ dims + 63) / 64 ≡ 2 ^ (dims - 6)
tiles_of_cube dims =
    ⊎_elim
    (λ (l : dims < 6). let one : dims - 6 ≡ 0 = omega arith in
    rw one (omega (arith, pow_below dims 6 l, pow_pos dims)))
    (λ (l : 6 ≤ dims). omega (arith, power_far dims l)) (cases_lt dims 6)

pub across_in : (dims d t : ℕ) → d < dims → t < 2 ^ (dims - 6) → tile_across d t < 2 ^ (dims - 6)
across_in dims d t h l =
    xor_lt (dims - 6) t (2 ^ d / 64) l
    (⊎_elim
    (λ (s : d < 6). omega (arith, pow_below d 6 s, pow_pos (dims - 6)))
    (λ (s : 6 ≤ d). omega (arith, power_far d s, pow_below (d - 6) (dims - 6) (omega arith)))
    (cases_lt d 6))

-- ---- both passes

-- where nobody stood and nobody comes, a tile stays as it is
pub quiet_stays : (most : ℕ) (coming : ℕ → ℕ) (tile : Tile) → IsShaped tile → IsQuiet tile
    → ((i : ℕ) → i < 64 → coming i ≡ 0) → HasTakenIn most coming tile tile
quiet_stays most coming tile shape quiet none = record {
  shape = shape;
  came = λ i numbers h few are. nobody_comes (slots_of tile i) numbers (coming i) are
      ((quiet i h).each 0) ((quiet i h).each 1) (none i h);
  quiet = λ asleep. quiet;
}

-- what the first slots held before who comes was put down there does not matter
pub come_behind : {most : ℕ} {coming : ℕ → ℕ} {put left new : Tile} → put.rest ≡ left.rest
    → HasTakenIn most coming put new → HasTakenIn most coming left new
come_behind same come = record {
  shape = come.shape;
  came = λ i numbers h few are. come.came i numbers h few (rw same are);
  quiet = come.quiet;
}

-- who comes, by place, is taken in behind who stays
module _ {order : Order} {room d most : ℕ} {old left : Tile} (gone : HasLeft order room d most old left)
    {coming : ℕ → ℕ} {new : Tile} (come : HasTakenIn most coming left new) where
  slots_after : (i : ℕ) → i < 64 → AreSlots (slots_of new i)
      (stayers_by order room d (numbers_standing_at old i) ++ comers (coming i))
  slots_after i l = come.came i _ l (gone.few i l) (gone.gone i l).stay

  standing_after : (i : ℕ) → i < 64 → numbers_standing_at new i
      ≡ stayers_by order room d (numbers_standing_at old i) ++ comers (coming i)
  standing_after i l = standing_is new i _ (slots_after i l)

  whole_after : IsTile new
  whole_after = record {
    shape = come.shape;
    queues = λ i l. stands new i _ (slots_after i l);
    quiet = come.quiet;
  }

  -- who comes to a chip is who leaves the chip across
  pub has_crossed : (across : ℕ) (there there_left : Tile) → HasLeft order room d across there there_left
      → ((i : ℕ) → i < 64 → coming i ≡ slot_across d (slice_index there_left.first (place_across d i)))
      → HasCrossed order room d old there new
  has_crossed across there there_left other comes = record {
    whole = whole_after;
    within = λ i l.
        let few = (gone.gone i l).few in
        rw (
          standing_after i l,
          length-append (stayers_by order room d (numbers_standing_at old i)) (comers (coming i)),
        ) (grind (arith, few));
    each = λ i l.
        let low = xor_lt 6 i (2 ^ d % 64) l (omega arith) in
        rw (standing_after i l, comes i l) (exchanged-tickets order d room (numbers_standing_at old i)
        (numbers_standing_at there (place_across d i)) _ (other.gone (place_across d i) low).going);
  }

  -- nobody comes
  closed_at : ((i : ℕ) → coming i ≡ 0) → (i : ℕ) → i < 64
      → numbers_standing_at new i ≡ stayers_by order room d (numbers_standing_at old i)
  closed_at nobody i l = standing_after i l ∙ rw (nobody i) (append-nil _)

-- nothing comes from a tile at which nobody stands
pub none_from : (d : ℕ) (left : Tile) → IsQuiet left → (i : ℕ) → i < 64 → slot_across d (slice_index left.first i) ≡ 0
none_from d left quiet i h = ap (slot_across d) ((quiet i h).each 0)

-- where nobody stood at either of two tiles, both stay as they are
pub none_crossed : (order : Order) (room d most across : ℕ) (here left there there_left : Tile)
    → HasLeft order room d most here left → HasLeft order room d across there there_left → IsQuiet left
    → IsQuiet there_left → HasCrossed order room d here there left
none_crossed order room d most across here left there there_left gone other quiet none =
    has_crossed gone (quiet_stays most (λ i. slot_across d (slice_index there_left.first (place_across d i))) left
    gone.shape quiet
    (λ i l. none_from d there_left none (place_across d i) (xor_lt 6 i (2 ^ d % 64) l (omega arith))))
    across there there_left other (λ i l. refl)

-- the first half by itself
pub has_departed : (room d most : ℕ) (old left new : Tile) (leavers : Option (List ℕ)) → HasLeft Arrival room d most old left
    → HasTakenIn most (λ i. 0) left new → IfSome leavers (λ row. length row ≡ 64)
    → ((i : ℕ) → i < 64 → leaver_at leavers i ≡ slot_across d (slice_index left.first i))
    → HasDeparted room d old new leavers
has_departed room d most old left new leavers gone come long is = record {
  whole = whole_after gone come;
  long = long;
  going = λ i l. rw (is i l) (gone.gone i l).going;
  taken = λ i l. rw (is i l) (gone.gone i l).taken;
  stay = λ i l. rw (closed_at gone come (λ j. refl) i l) (stayers-tickets Arrival d room (numbers_standing_at old i));
  space = λ i l. rw (closed_at gone come (λ j. refl) i l) (gone.gone i l).few;
}

module _ (room d : ℕ) (old new : List Tile) (leaving : List (Option (List ℕ))) (long : length new ≡ length old)
    (rows : length leaving ≡ length old)
    (all : (t : ℕ) → t < length old → HasDeparted room d (tile_at old t) (tile_at new t) (leavers_at leaving t)) where
  pub leavers_are : AreLeavers leaving
  leavers_are = record {
    long = All-from_get_or (λ leavers. IfSome leavers (λ row. length row ≡ 64)) leaving None
        (λ t h. (all t (omega (arith, rows, h))).long);
    taken = λ c h. (all (c / 64) (omega (arith, rows, h))).taken (c % 64) (omega arith);
  }

  pub whole_departed : All IsTile new
  whole_departed = All-from_get_or IsTile new no_tile (λ t h. (all t (omega (arith, long, h))).whole)

-- all tiles have crossed
module _ (order : Order) (room d : ℕ) (old new : List Tile) (long : length new ≡ length old)
    (all : (t : ℕ) → t < length old
    → HasCrossed order room d (tile_at old t) (tile_at old (tile_across d t)) (tile_at new t)) where
  pub chips_crossed : (c : ℕ) → c / 64 < length old
      → tickets_of new c ≡ exchanged_by order room d (tickets_of old c) (tickets_of old (bit_xor c (2 ^ d)))
  chips_crossed c h =
      let tile = xor_shr c (2 ^ d) 6 in
      let place = xor_mod c (2 ^ d) 6 in
      rw (tile, place) ((all (c / 64) h).each (c % 64) (omega arith))

  pub whole_crossed : All IsTile new
  whole_crossed = All-from_get_or IsTile new no_tile (λ t h. (all t (omega (arith, long, h))).whole)

  pub within_crossed : AreWithin room new
  within_crossed t i h = (all t (omega (arith, long, h))).within i
