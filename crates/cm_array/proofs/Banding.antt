-- An instruction in a band of whole rows of chips: what comes in at each is what the step of a part names.
use Rattle.std.proofs.Common.{◌≡◌, ◌≢◌, ℕ, zero, suc, ◌+◌, ◌-◌, ◌*◌, ◌/◌, ◌%◌, ◌^◌, ◌<◌, ◌≤◌, ◌==◌, ◌&&◌, nat_le, nat_lt}
use Rattle.std.proofs.Common.{Bool, true, false}
use Rattle.std.proofs.Common.{if◌then◌else◌, List, [], length, get_or, refl, sym, ap, ◌∙◌, subst}
use Rattle.std.proofs.Common.{⊎_elim, arith, ext_get_or}
use Rattle.std.proofs.lemmas.Bool.{cases_Bool, eq-eqb, ne_eqb}
use Rattle.std.proofs.Math.Nat.{mul-div_cancel}
use Rattle.std.specs.Global.{Vec}
use Rattle.cm_bits.specs.Bit.{bit}
use Rattle.cm_bits.specs.declared.place.Place.{Place}
use Rattle.cm_bits.specs.declared.plane.Dir.{Dir}
use Rattle.cm_bits.specs.declared.plane.Dir.TheVariants.{North, East, West, South}
use Rattle.cm_model.specs.declared.act.Nano.{Nano}
use Rattle.cm_model.specs.declared.message.Message.{Message}
use Rattle.cm_model.specs.Each.{tabulate}
use Rattle.cm_model.specs.Laws.{IsPlace}
use Rattle.cm_model.specs.Place.{chip_columns, source, opposite, predecessor, column_of, place_at}
use Rattle.cm_model.specs.Chip.{IsPlane, chip_after, processor_at}
use Rattle.cm_model.specs.Instruction.{flag_output}
use Rattle.cm_model.specs.Array.{Chips, chip_at, output, chain_output, incoming, after_nano}
use Rattle.cm_model.specs.Wiring.{Routing, plain_routing}
use Rattle.cm_model.specs.Steps.{Instruct}
use Rattle.cm_model.proofs.Each.{length-tabulate, get_or-tabulate, get_or-each_below, same_each_below}
use Rattle.cm_model.proofs.Incoming.{same_chip}
use Rattle.cm_model.proofs.Torus.{columns_some, neighbours_lead_back}
use Rattle.cm_element.specs.Steps.{AreSent, along_chain}
use Rattle.cm_blocks.specs.Parts.{Part, is_within, chip_in}
use Rattle.cm_blocks.specs.Parcels.{Parcel, Edge, bit_in, edge_row, due}
use Rattle.cm_blocks.specs.Rounds.{is_vertical}
use Rattle.cm_blocks.specs.Steps.{part_after, incoming_in, news_in}
use Rattle.cm_blocks.proofs.Bands.{band as rows_in, block_size-band}
use Rattle.cm_blocks.proofs.Cutting.{within-part, within-from, within-below}
use Rattle.cm_news.specs.Bands.{AreWholeRows, edge_bits, bit_for}
use Rattle.cm_news.specs.Moves.{at_edge}
use Rattle.cm_router.specs.Logs.{Log}
use Rattle.cm_router.specs.Routes.{routing_of}
use Rattle.cm_petit.specs.Routers.{part_from_logs}
use Rattle.cm_array.specs.declared.chip_state.ChipState.{ChipState}
use Rattle.cm_array.specs.Cuts.{PartView, part_view, IsPart}
use Rattle.cm_array.specs.Bands.{IsBand, IsStepped, edge_from, IsEdgeOf}

from_0 : (c : ℕ) → c - 0 ≡ c
from_0 c = omega arith

-- a list that is made from 0 on is made from another number on, by a function that agrees there
pub each-from_other : {X : Type 0} (d : X) (first count : ℕ) (f g : ℕ → X) → ((i : ℕ) → i < count → f i ≡ g (first + i))
    → tabulate 0 count f ≡ tabulate first count g
each-from_other d first count f g same =
    ext_get_or d (tabulate 0 count f) (tabulate first count g)
    (length-tabulate 0 count f ∙ sym (length-tabulate first count g))
    (λ i l. let below : i < count = omega (arith, l, length-tabulate 0 count f) in
    get_or-each_below count f i d below ∙ same i below ∙ sym (get_or-tabulate first count g i d below))

-- a band after an instruction, where each chip takes in one bit or another for each processor
stepped : (routing : Routing) (n cap first clock : ℕ) (nano : Nano) (parcel : Parcel) (old new : Chips)
    (buffers : List (List Message)) (logs : List Log) (coming : ℕ → ℕ → Bool)
    → new ≡ tabulate 0 (length old) (λ i. chip_after nano (coming i) (chip_at old i))
    → ((i p : ℕ) → i < length old → p < 16
    → coming i p ≡ incoming_in n nano parcel (part_from_logs routing first (length old) old buffers logs clock) (first + i) p)
    → part_from_logs routing first (length old) new buffers logs clock
    ≡ part_after n cap (Instruct nano) parcel (part_from_logs routing first (length old) old buffers logs clock)
unfolding part_after
stepped routing n cap first clock nano parcel old new buffers logs coming is same =
    let s : Part = part_from_logs routing first (length old) old buffers logs clock in
    let own : (i : ℕ) → chip_at old i ≡ chip_in s (first + i) =
    λ i. ap (chip_at old) (let e : i ≡ first + i - first = omega arith in e) in
    let chips : new ≡ tabulate first (length old) (λ c.
    chip_after nano (incoming_in n nano parcel s c) (chip_in s c)) =
    is ∙ each-from_other [] first (length old) (λ i. chip_after nano (coming i) (chip_at old i))
    (λ c. chip_after nano (incoming_in n nano parcel s c) (chip_in s c))
    (λ i l. same_chip nano (coming i) (incoming_in n nano parcel s (first + i)) (chip_at old i)
    (λ p h takes. same i p l h)
    ∙ ap (chip_after nano (incoming_in n nano parcel s (first + i))) (own i)) in
    λ t. part_from_logs routing first (length old) (chips t) buffers logs clock

-- over NEWS: the bit that comes in at a place of the band
over_news : (n first : ℕ) (nano : Nano) (s : Part) (sent edge : List ℕ) (c p : ℕ) → s.first ≡ first
    → length sent ≡ s.count → c < 2 ^ n → p < 16
    → ((i q : ℕ) → i < s.count → q < 16
    → bit (get_or sent i 0) q ≡ flag_output nano (processor_at (chip_at s.chips i) q))
    → bit_for n nano.dir s.first sent edge (record { chip = c; proc = p }) ≡ news_in n nano (Edge (edge_bits edge)) s c p
over_news n first nano s sent edge c p begin long there h are =
    let place : Place = record { chip = c; proc = p } in
    let from : Place = source n nano.dir place in
    let within : IsPlace n from =
    (neighbours_lead_back n (opposite nano.dir) place (record { chip = there; proc = h })).within in
    ap (λ (count : ℕ). if nat_le s.first from.chip && nat_lt from.chip (s.first + count)
    then bit (get_or sent (from.chip - s.first) 0) from.proc else bit_in (Edge (edge_bits edge)) (column_of n place)) long
    ∙ ⊎_elim
    (λ (e : is_within s from.chip ≡ true). rw e (are (from.chip - s.first) from.proc
    (let low = within-from s from.chip e in let high = within-below s from.chip e in
    omega (arith, low, high)) within.proc))
    (λ (e : is_within s from.chip ≡ false). rw e refl)
    (cases_Bool (is_within s from.chip))

-- what is named as coming in, over NEWS and not
over_news_in : (n : ℕ) (nano : Nano) (parcel : Parcel) (s : Part) (c p : ℕ) → nano.write ≡ 10
    → news_in n nano parcel s c p ≡ incoming_in n nano parcel s c p
unfolding incoming_in
over_news_in n nano parcel s c p news = rw (eq-eqb nano.write 10 news) refl

along_chain_in : (n : ℕ) (nano : Nano) (parcel : Parcel) (s : Part) (c p : ℕ) → nano.write ≢ 10
    → along_chain nano (chip_in s c) p ≡ incoming_in n nano parcel s c p
unfolding incoming_in
along_chain_in n nano parcel s c p apart = rw (ne_eqb nano.write 10 apart) refl

-- the bits that the code takes in over NEWS
pub stepped_over_grid : (n : ℕ) (nano : Nano) (old new : Chips) (sent planes edge : List ℕ) → nano.write ≡ 10
    → length sent ≡ length old → AreSent nano old sent
    → ((first i : ℕ) → AreWholeRows n first → first + length sent ≤ 2 ^ n → i < length sent
    → IsPlane (get_or planes i 0) (λ p. bit_for n nano.dir first sent edge (record { chip = first + i; proc = p })))
    → new ≡ tabulate 0 (length old) (λ c. chip_after nano (bit (get_or planes c 0)) (chip_at old c))
    → IsStepped n nano edge old new
stepped_over_grid n nano old new sent planes edge news long are came is routing cap first clock buffers logs rows fit =
    let s : Part = part_from_logs routing first (length old) old buffers logs clock in
    stepped routing n cap first clock nano (Edge (edge_bits edge)) old new buffers logs (λ i. bit (get_or planes i 0)) is
    (λ i p l h. came first i rows (omega (arith, long, fit)) (omega (arith, long, l)) p h
    ∙ over_news n first nano s sent edge (first + i) p refl long (omega (arith, fit, l)) h
    (λ k q below small. are.each k below q small)
    ∙ over_news_in n nano (Edge (edge_bits edge)) s (first + i) p news)

-- and along the chains
pub stepped_apart : (n : ℕ) (nano : Nano) (old new : Chips) (edge : List ℕ) → nano.write ≢ 10
    → new ≡ tabulate 0 (length old) (λ c. chip_after nano (along_chain nano (chip_at old c)) (chip_at old c))
    → IsStepped n nano edge old new
stepped_apart n nano old new edge apart is routing cap first clock buffers logs rows fit =
    let s : Part = part_from_logs routing first (length old) old buffers logs clock in
    stepped routing n cap first clock nano (Edge (edge_bits edge)) old new buffers logs
    (λ i. along_chain nano (chip_at old i)) is
    (λ i p l h. ap (λ (k : ℕ). along_chain nano (chip_at old k) p) (let e : i ≡ first + i - first = omega arith in e)
    ∙ along_chain_in n nano (Edge (edge_bits edge)) s (first + i) p apart)

-- ---- where the band is all chips

-- these are whole rows
pub all_rows : (n count : ℕ) → count ≡ 2 ^ n → AreWholeRows n count
all_rows n count all = (
  rows_in n 0,
  all ∙ ap (λ (k : ℕ). 2 ^ k) (let e : n ≡ n - 0 = omega arith in e) ∙ block_size-band n 0 (omega arith),
)

-- what comes in at a place is what comes in there in all chips
incoming_in_all : (n count : ℕ) (nano : Nano) (parcel : Parcel) (chips : Chips) (c p : ℕ) → count ≡ 2 ^ n → c < 2 ^ n
    → p < 16
    → incoming_in n nano parcel (part_from_logs plain_routing 0 count chips [] [] 0) c p ≡ incoming n nano chips c p
unfolding incoming_in incoming
incoming_in_all n count nano parcel chips c p all there h =
    let s : Part = part_from_logs plain_routing 0 count chips [] [] 0 in
    let place : Place = record { chip = c; proc = p } in
    let from : Place = source n nano.dir place in
    let within : IsPlace n from =
    (neighbours_lead_back n (opposite nano.dir) place (record { chip = there; proc = h })).within in
    let inside : is_within s from.chip ≡ true =
    within-part s from.chip (omega arith) (omega (arith, within.chip, all)) in
    rw inside (λ t. if nano.write == 10 then output nano (λ k. chip_at chips (from_0 k t)) from
    else chain_output nano (chip_at chips (from_0 c t)) (predecessor p))

-- so an instruction is one in all chips
pub all_stepped : (n : ℕ) (nano : Nano) (edge : List ℕ) (old new : Chips) → length old ≡ 2 ^ n
    → IsStepped n nano edge old new → new ≡ after_nano n nano old
unfolding part_after after_nano
all_stepped n nano edge old new all is =
    let s : Part = part_from_logs plain_routing 0 (length old) old [] [] 0 in
    let parcel : Parcel = Edge (edge_bits edge) in
    ap (λ (after : Part). after.chips) (is plain_routing 0 0 0 [] [] (0, omega arith) (omega (arith, all)))
    ∙ ap (λ (k : ℕ). tabulate 0 k (λ c. chip_after nano (incoming_in n nano parcel s c) (chip_in s c))) all
    ∙ same_each_below [] (2 ^ n) (λ c. chip_after nano (incoming_in n nano parcel s c) (chip_in s c))
    (λ c. chip_after nano (incoming n nano old c) (chip_at old c))
    (λ c l. same_chip nano (incoming_in n nano parcel s c) (incoming n nano old c) (chip_in s c)
    (λ p h takes. incoming_in_all n (length old) nano parcel old c p all l h)
    ∙ ap (λ (k : ℕ). chip_after nano (incoming n nano old c) (chip_at old k)) (from_0 c))

-- ---- the part that is kept

-- there are as many chips as before
pub chips_stay : (n : ℕ) (nano : Nano) (edge : List ℕ) (old new : Chips) (first : ℕ) → IsStepped n nano edge old new
    → AreWholeRows n first → first + length old ≤ 2 ^ n → length new ≡ length old
unfolding part_after
chips_stay n nano edge old new first is rows fit =
    let s : Part = part_from_logs plain_routing first (length old) old [] [] 0 in
    ap (λ (after : Part). length after.chips) (is plain_routing 0 first 0 [] [] rows fit)
    ∙ length-tabulate first (length old)
    (λ c. chip_after nano (incoming_in n nano (Edge (edge_bits edge)) s c) (chip_in s c))

module _ (first : ℕ) (parts : ChipState) (old : PartView) (nano : Nano) (edge : List ℕ) (run : Chips)
    (sent incoming : Vec ℕ) (view : part_view first parts ≡ old) (was : IsPart first parts)
    (band : IsBand old.dims old.part) (is : IsStepped parts.shape.dims nano edge parts.run run) where
  here : IsBand parts.shape.dims (part_view first parts).part
  here = subst (λ (k : PartView). IsBand k.dims k.part) (sym view) band

  pub as_many : length run ≡ length parts.run
  as_many = chips_stay parts.shape.dims nano edge parts.run run first is here.first was.there

  pub kept_instructed : part_view first (record parts { run = run; sent = sent; incoming = incoming })
      ≡ record old { part = part_after old.dims old.room (Instruct nano) (Edge (edge_bits edge)) old.part }
  kept_instructed =
      let before = part_view first parts in
      subst (λ (k : PartView). part_view first (record parts { run = run; sent = sent; incoming = incoming })
      ≡ record k { part = part_after k.dims k.room (Instruct nano) (Edge (edge_bits edge)) k.part }) view
      (λ t. record {
        dims = parts.shape.dims;
        room = parts.shape.room;
        part = (ap (λ (n : ℕ). part_from_logs (routing_of parts.routing) first n run parts.crossing.buffers parts.logs.items
            parts.clock) as_many
            ∙ is (routing_of parts.routing) parts.shape.room first parts.clock parts.crossing.buffers parts.logs.items here.first
            was.there) t;
        log_rooms = before.log_rooms;
        gathered = before.gathered;
      })

  pub IsPart-instructed : length sent.items ≡ length parts.run → length incoming.items ≡ length parts.run
      → IsPart first (record parts { run = run; sent = sent; incoming = incoming })
  IsPart-instructed sent_count incoming_count =
      let many = as_many in
      record {
        sized = record {
          sizes = was.sized.sizes;
          dims = was.sized.dims;
          room = was.sized.room;
          sent_count = sent_count ∙ sym many;
          incoming_count = incoming_count ∙ sym many;
          clock = was.sized.clock;
          cube = was.sized.cube;
        };
        there = omega (arith, was.there, many);
        buffer_count = was.buffer_count ∙ sym many;
        log_count = was.log_count ∙ sym many;
        within = was.within;
      }

-- ---- what goes out over an edge

-- how many rows so many chips are
rows_counted : (count rows w : ℕ) → count ≡ rows * w → 0 < w → count / w ≡ rows
rows_counted count rows w size some = ap (λ (c : ℕ). c / w) size ∙ mul-div_cancel rows some

-- the place in a column of a band's edge row
edge_place : (n : ℕ) (dir : Dir) (s : Part) (column : ℕ) → is_vertical dir ≡ true → IsBand n s
    → place_at n (edge_row n dir s) column
    ≡ record { chip = s.first + (edge_from dir s.count (chip_columns n) + column / 4); proc = at_edge dir (column % 4) }
edge_place n North s column vertical band = by band.first where
  by : AreWholeRows n s.first → place_at n (edge_row n North s) column
      ≡ record {
        chip = s.first + (edge_from North s.count (chip_columns n) + column / 4);
        proc = at_edge North (column % 4);
      }
  by (above, begin) =
      let row : s.first / chip_columns n ≡ above = rows_counted s.first above (chip_columns n) begin (columns_some n) in
      λ t. record {
        chip = (ap (λ (y : ℕ). 4 * y / 4 * chip_columns n + column / 4) row
            ∙ ap (λ (y : ℕ). y * chip_columns n + column / 4) (let e : 4 * above / 4 ≡ above = omega arith in e)
            ∙ (let e : above * chip_columns n + column / 4 ≡ s.first + (0 + column / 4) = omega (arith, begin) in e)) t;
        proc = (let e : 4 * (4 * (s.first / chip_columns n) % 4) + column % 4
            ≡ 4 * 0 + column % 4 = omega arith in e) t;
      }
edge_place n South s column vertical band = by band.first band.count where
  w : ℕ
  w = chip_columns n

  by : AreWholeRows n s.first → AreWholeRows n s.count → place_at n (edge_row n South s) column
      ≡ record { chip = s.first + (edge_from South s.count w + column / 4); proc = at_edge South (column % 4) }
  by (above, begin) (zero, size) = absurd (omega (arith, band.some, size))
  by (above, begin) (suc rows, size) =
      let row : s.first / w ≡ above = rows_counted s.first above w begin (columns_some n) in
      let many : s.count / w ≡ suc rows = rows_counted s.count (suc rows) w size (columns_some n) in
      let last : (4 * (s.first / w) + 4 * (s.count / w) - 1) / 4 ≡ above + rows = omega (arith, row, many) in
      let more : suc rows * w ≡ rows * w + w = omega arith in
      let both : (above + rows) * w ≡ above * w + rows * w = omega arith in
      λ t. record {
        chip = (ap (λ (y : ℕ). y * w + column / 4) last
            ∙ (let e : (above + rows) * w + column / 4 ≡ s.first + (s.count - w + column / 4) =
            omega (arith, both, more, begin, size) in e)) t;
        proc = (let e : 4 * ((4 * (s.first / w) + 4 * (s.count / w) - 1) % 4) + column % 4 ≡ 4 * 3 + column % 4 =
            omega (arith, row, many) in e) t;
      }
edge_place n East s column vertical band = cc
edge_place n West s column vertical band = cc

at_edge-lt : (dir : Dir) (i : ℕ) → i < 4 → at_edge dir i < 16
at_edge-lt North i h = omega arith
at_edge-lt South i h = omega arith
at_edge-lt West i h = omega arith
at_edge-lt East i h = omega arith

-- the edge of planes that were sent is what a part owes
pub edge_due : (n cap : ℕ) (nano : Nano) (s : Part) (planes edge : List ℕ) → is_vertical nano.dir ≡ true → IsBand n s
    → length s.chips ≡ s.count → length planes ≡ s.count → length edge ≡ chip_columns n → AreSent nano s.chips planes
    → IsEdgeOf nano.dir planes edge → edge_from nano.dir s.count (chip_columns n) + chip_columns n ≤ s.count
    → Edge (edge_bits edge) ≡ due n cap (Instruct nano) s
unfolding due
edge_due n cap nano s planes edge vertical band chips long wide sent is fit =
    let w : ℕ = chip_columns n in
    ap Edge
    (ap (λ (k : ℕ). tabulate 0 (4 * k) (λ column. bit (get_or edge (column / 4) 0) (column % 4))) wide
    ∙ same_each_below false (4 * w) (λ column. bit (get_or edge (column / 4) 0) (column % 4))
    (λ column. output nano (chip_in s) (place_at n (edge_row n nano.dir s) column))
    (λ column inside.
    let at : ℕ = edge_from nano.dir s.count w + column / 4 in
    let proc : ℕ = at_edge nano.dir (column % 4) in
    let here : edge_from nano.dir (length planes) (length edge) + column / 4 ≡ at =
    (λ t. edge_from nano.dir (long t) (wide t) + column / 4) in
    is (column / 4) (column % 4) (omega (arith, inside, wide)) (omega arith)
    ∙ ap (λ (k : ℕ). bit (get_or planes k 0) proc) here
    ∙ sent.each at (omega (arith, inside, fit, chips)) proc (at_edge-lt nano.dir (column % 4) (omega arith))
    ∙ ap (λ (k : ℕ). flag_output nano (processor_at (chip_at s.chips k) proc))
    (let e : at ≡ s.first + at - s.first = omega arith in e)
    ∙ ap (output nano (chip_in s)) (sym (edge_place n nano.dir s column vertical band))))

-- a row of chips lies within a band
pub edge_inside : (n : ℕ) (dir : Dir) (s : Part) → IsBand n s
    → (chip_columns n ≤ s.count) × (edge_from dir s.count (chip_columns n) + chip_columns n ≤ s.count)
edge_inside n dir s band = by band.count dir where
  by : AreWholeRows n s.count → (dir : Dir)
      → (chip_columns n ≤ s.count) × (edge_from dir s.count (chip_columns n) + chip_columns n ≤ s.count)
  by (zero, size) dir = absurd (omega (arith, band.some, size))
  by (suc rows, size) dir =
      let is : suc rows * chip_columns n ≡ rows * chip_columns n + chip_columns n = omega arith in
      (omega (arith, is, size), within dir (omega (arith, is, size))) where
        within : (dir : Dir) → chip_columns n ≤ s.count
            → edge_from dir s.count (chip_columns n) + chip_columns n ≤ s.count
        within North h = omega arith
        within South h = omega arith
        within West h = omega arith
        within East h = omega arith
