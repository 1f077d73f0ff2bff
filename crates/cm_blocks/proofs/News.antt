-- An instruction at a block: over NEWS from within, or from the sender's edge row in the same column.
use Rattle.std.proofs.Common.{◌≡◌, ℕ, ◌+◌, ◌-◌, ◌*◌, ◌/◌, ◌%◌, ◌^◌, ◌<◌, ◌≤◌, ◌==◌, Bool, true, false, List, [], sym}
use Rattle.std.proofs.Common.{◌∙◌, ap, ⊎_elim, inl, inr, ◌⊎◌, arith}
use Rattle.std.proofs.lemmas.Bool.{cases_Bool, both_ways}
use Rattle.std.proofs.lemmas.Nat.{pow_pos}
use Rattle.std.proofs.Math.Nat.{mod-lt, mul-div_cancel}
use Rattle.cm_bits.specs.declared.place.Place.{Place}
use Rattle.cm_bits.specs.declared.plane.Dir.{Dir}
use Rattle.cm_bits.specs.declared.plane.Dir.TheVariants.{North, East, West, South}
use Rattle.cm_model.specs.declared.act.Nano.{Nano}
use Rattle.cm_model.specs.Place.{chip_columns, rows, columns, row_of, column_of, place_at}
use Rattle.cm_model.specs.Place.{neighbour, source, predecessor}
use Rattle.cm_model.specs.Processor.{Processor, NEWS}
use Rattle.cm_model.specs.Instruction.{flag_output}
use Rattle.cm_model.specs.Chip.{processor_at, chip_after}
use Rattle.cm_model.specs.Array.{chip_at, processor_of, chain_output, incoming, after_nano, output}
use Rattle.cm_model.specs.Machine.{Machine}
use Rattle.cm_model.specs.Steps.{Instruct}
use Rattle.cm_model.proofs.Each.{get_or-each_below}
use Rattle.cm_model.proofs.Incoming.{same_chip}
use Rattle.cm_model.proofs.Torus.{columns_some, column_of-lt}
use Rattle.cm_blocks.specs.Parts.{Part, part, block, block_size, is_within, chip_in}
use Rattle.cm_blocks.specs.Parcels.{Parcel, edge_row, due, sender_over, sender}
use Rattle.cm_blocks.specs.Steps.{news_in, incoming_in, part_after}
use Rattle.cm_blocks.proofs.Bands.{band, block_size-band, rows-band, block-row, row-from, row-below, its_row-from}
use Rattle.cm_blocks.proofs.Bands.{its_row-below, row_back, row_on}
use Rattle.cm_blocks.proofs.Cutting.{sliced-same, within-part, within-from, within-below}
use Rattle.cm_blocks.proofs.Local.{read-chip}
use Rattle.cm_blocks.proofs.Mailing.{block-fits}

-- the chip of a place in a row of band b is one of block b
from-row : (n k b y x : ℕ) → k ≤ n - n / 2 → 4 * (b * band n k) ≤ y → b * block_size n k ≤ (place_at n y x).chip
from-row n k b y x h from =
    let lower : b * band n k * chip_columns n ≤ y / 4 * chip_columns n + x / 4 =
    row-from (b * band n k) (chip_columns n) (y / 4) (x / 4) (omega arith) in
    omega (arith, block-row n k b h, lower)

below-row : (n k b y x : ℕ) → k ≤ n - n / 2 → y < 4 * (b * band n k + band n k) → x < columns n
    → (place_at n y x).chip < b * block_size n k + block_size n k
below-row n k b y x h below inside =
    let upper : y / 4 * chip_columns n + x / 4 < b * band n k * chip_columns n + band n k * chip_columns n =
    row-below (b * band n k) (chip_columns n) (band n k) (y / 4) (x / 4) (omega arith) (omega arith) in
    omega (arith, block-row n k b h, block_size-band n k h, upper)

-- a place of block b stands in a row of band b
row-of-block : (n k b : ℕ) (place : Place) → k ≤ n - n / 2 → b * block_size n k ≤ place.chip
    → 4 * (b * band n k) ≤ row_of n place
row-of-block n k b place h from =
    let lower : b * band n k ≤ place.chip / chip_columns n =
    its_row-from (b * band n k) (chip_columns n) place.chip (columns_some n) (omega (arith, block-row n k b h, from)) in
    omega arith

row-in-block : (n k b : ℕ) (place : Place) → k ≤ n - n / 2 → place.chip < b * block_size n k + block_size n k → place.proc < 16
    → row_of n place < 4 * (b * band n k + band n k)
row-in-block n k b place h below proc =
    let upper : place.chip / chip_columns n < b * band n k + band n k =
    its_row-below (b * band n k) (chip_columns n) (band n k) place.chip (columns_some n)
    (omega (arith, block-row n k b h, block_size-band n k h, below)) in
    omega arith

-- the edge rows of a block
first_row : (n k b : ℕ) → k ≤ n - n / 2 → 4 * (b * block_size n k / chip_columns n) ≡ 4 * (b * band n k)
first_row n k b h =
    ap (λ (z : ℕ). 4 * z) (ap (λ (z : ℕ). z / chip_columns n) (block-row n k b h)
    ∙ mul-div_cancel (b * band n k) (columns_some n))

band_rows : (n k : ℕ) → k ≤ n - n / 2 → block_size n k / chip_columns n ≡ band n k
band_rows n k h = ap (λ (z : ℕ). z / chip_columns n) (block_size-band n k h) ∙ mul-div_cancel (band n k) (columns_some n)

-- a source out of a block: it stands at the sender's edge, in the same column
pub record IsOver (n k b : ℕ) (dir : Dir) (machine : Machine) (place : Place) : Type 0 where
  pub same : source n dir place
      ≡ place_at n (edge_row n dir (block n k (sender_over k dir b) machine)) (column_of n place)
  pub from : sender_over k dir b * block_size n k ≤ (source n dir place).chip
  pub below : (source n dir place).chip < sender_over k dir b * block_size n k + block_size n k

pub over : (n k b : ℕ) (dir : Dir) (machine : Machine) (place : Place) → k ≤ n - n / 2 → b < 2 ^ k
    → b * block_size n k ≤ place.chip → place.chip < b * block_size n k + block_size n k → place.proc < 16
    → is_within (block n k b machine) (source n dir place).chip ≡ false → IsOver n k b dir machine place
unfolding neighbour part
over n k b East machine place h l from below proc out =
    let column : (column_of n place + columns n - 1) % columns n < columns n =
    mod-lt (column_of n place + columns n - 1) (omega (arith, column_of-lt n place proc)) in
    let q : Place = place_at n (row_of n place) ((column_of n place + columns n - 1) % columns n) in
    absurd (both_ways (is_within (block n k b machine) q.chip) out
    (within-part (block n k b machine) q.chip
    (from-row n k b (row_of n place) ((column_of n place + columns n - 1) % columns n) h
    (row-of-block n k b place h from))
    (below-row n k b (row_of n place) ((column_of n place + columns n - 1) % columns n) h
    (row-in-block n k b place h below proc) column)))
over n k b West machine place h l from below proc out =
    let column : (column_of n place + 1) % columns n < columns n =
    mod-lt (column_of n place + 1) (omega (arith, column_of-lt n place proc)) in
    let q : Place = place_at n (row_of n place) ((column_of n place + 1) % columns n) in
    absurd (both_ways (is_within (block n k b machine) q.chip) out
    (within-part (block n k b machine) q.chip
    (from-row n k b (row_of n place) ((column_of n place + 1) % columns n) h (row-of-block n k b place h from))
    (below-row n k b (row_of n place) ((column_of n place + 1) % columns n) h
    (row-in-block n k b place h below proc) column)))
over n k b South machine place h l from below proc out =
    by_edge (row_back (2 ^ k) (band n k) b (row_of n place) (pow_pos (n - k - n / 2)) l
    (row-of-block n k b place h from)
    (row-in-block n k b place h below proc))
  where
    wide : column_of n place < columns n
    wide = column_of-lt n place proc

    back : ℕ
    back = (row_of n place + rows n - 1) % rows n

    back-is : back ≡ (row_of n place + 4 * (2 ^ k * band n k) - 1) % (4 * (2 ^ k * band n k))
    back-is = ap (λ (w : ℕ). (row_of n place + w - 1) % w) (rows-band n k h)

    other : ℕ
    other = (b + 2 ^ k - 1) % 2 ^ k

    by_edge : ((row_of n place + 4 * (2 ^ k * band n k) - 1) % (4 * (2 ^ k * band n k)) ≡ row_of n place - 1)
        × (4 * (b * band n k) < row_of n place)
        ⊎ ((row_of n place + 4 * (2 ^ k * band n k) - 1) % (4 * (2 ^ k * band n k))
        ≡ 4 * (other * band n k) + 4 * band n k - 1)
        → IsOver n k b South machine place
    by_edge (inl (inside, after)) =
        let is : back ≡ row_of n place - 1 = back-is ∙ inside in
        let upper : row_of n place < 4 * (b * band n k + band n k) = row-in-block n k b place h below proc in
        absurd (both_ways (is_within (block n k b machine) (place_at n back (column_of n place)).chip) out
        (within-part (block n k b machine) (place_at n back (column_of n place)).chip
        (from-row n k b back (column_of n place) h (omega (arith, is, after)))
        (below-row n k b back (column_of n place) h (omega (arith, is, after, upper)) wide)))
    by_edge (inr edge) =
        let is : back ≡ 4 * (other * band n k) + 4 * band n k - 1 = back-is ∙ edge in
        let some : 0 < band n k = pow_pos (n - k - n / 2) in
        record {
          same = ap (λ (z : ℕ). place_at n z (column_of n place))
              (is ∙ λ i. sym (first_row n k other h) i + 4 * sym (band_rows n k h) i - 1);
          from = from-row n k other back (column_of n place) h (omega (arith, is, some));
          below = below-row n k other back (column_of n place) h (omega (arith, is, some)) wide;
        }
over n k b North machine place h l from below proc out =
    by_edge (row_on (2 ^ k) (band n k) b (row_of n place) (pow_pos (n - k - n / 2)) l (row-of-block n k b place h from)
    (row-in-block n k b place h below proc))
  where
    wide : column_of n place < columns n
    wide = column_of-lt n place proc

    on : ℕ
    on = (row_of n place + 1) % rows n

    on-is : on ≡ (row_of n place + 1) % (4 * (2 ^ k * band n k))
    on-is = ap (λ (w : ℕ). (row_of n place + 1) % w) (rows-band n k h)

    other : ℕ
    other = (b + 1) % 2 ^ k

    by_edge : ((row_of n place + 1) % (4 * (2 ^ k * band n k)) ≡ row_of n place + 1)
        × (row_of n place + 1 < 4 * (b * band n k + band n k))
        ⊎ ((row_of n place + 1) % (4 * (2 ^ k * band n k)) ≡ 4 * (other * band n k))
        → IsOver n k b North machine place
    by_edge (inl (inside, before)) =
        let is : on ≡ row_of n place + 1 = on-is ∙ inside in
        let lower : 4 * (b * band n k) ≤ row_of n place = row-of-block n k b place h from in
        absurd (both_ways (is_within (block n k b machine) (place_at n on (column_of n place)).chip) out
        (within-part (block n k b machine) (place_at n on (column_of n place)).chip
        (from-row n k b on (column_of n place) h (omega (arith, is, lower)))
        (below-row n k b on (column_of n place) h (omega (arith, is, before)) wide)))
    by_edge (inr edge) =
        let is : on ≡ 4 * (other * band n k) = on-is ∙ edge in
        let some : 0 < band n k = pow_pos (n - k - n / 2) in
        record {
          same = ap (λ (z : ℕ). place_at n z (column_of n place)) (is ∙ sym (first_row n k other h));
          from = from-row n k other on (column_of n place) h (omega (arith, is));
          below = below-row n k other on (column_of n place) h (omega (arith, is, some)) wide;
        }

-- what comes in over NEWS at a place of a block
news_is : (n cap k b : ℕ) (nano : Nano) (machine : Machine) (c p : ℕ) → k ≤ n - n / 2 → b < 2 ^ k
    → b * block_size n k ≤ c → c < b * block_size n k + block_size n k → p < 16 →
    news_in n nano (due n cap (Instruct nano) (block n k (sender_over k nano.dir b) machine)) (block n k b machine) c p
    ≡ flag_output nano (processor_of machine.chips (source n nano.dir (record { chip = c; proc = p })))
unfolding part due
news_is n cap k b nano machine c p h l from below proc =
    let place : Place = record { chip = c; proc = p } in
    let s : Part = block n k b machine in
    let sent : Part = block n k (sender_over k nano.dir b) machine in
    let q : Place = source n nano.dir place in
    let row : ℕ → Bool = λ column. output nano (chip_in sent) (place_at n (edge_row n nano.dir sent) column) in
    let reads : (chip : List Processor) → chip ≡ chip_at machine.chips q.chip
    → flag_output nano (processor_at chip q.proc)
    ≡ flag_output nano (processor_of machine.chips q) =
    λ chip same. ap (λ (z : List Processor). flag_output nano (processor_at z q.proc)) same in
    ⊎_elim
    (λ (e : is_within s q.chip ≡ true). rw e (reads (chip_in s q.chip)
    (read-chip (b * block_size n k) (block_size n k) machine q.chip (within-from s q.chip e) (within-below s q.chip e))))
    (λ (e : is_within s q.chip ≡ false).
    let far : IsOver n k b nano.dir machine place = over n k b nano.dir machine place h l from below proc e in
    rw e (get_or-each_below (columns n) row (column_of n place) false (column_of-lt n place proc)
    ∙ (ap (λ (z : Place). output nano (chip_in sent) z) (sym far.same)
    ∙ reads (chip_in sent q.chip)
    (read-chip (sender_over k nano.dir b * block_size n k) (block_size n k) machine q.chip far.from far.below))))
    (cases_Bool (is_within s q.chip))

-- what comes in at a place of a block
incoming_is : (n cap k b : ℕ) (nano : Nano) (machine : Machine) (c p : ℕ) → k ≤ n - n / 2 → b < 2 ^ k
    → b * block_size n k ≤ c → c < b * block_size n k + block_size n k → p < 16 →
    incoming n nano machine.chips c p
    ≡ incoming_in n nano (due n cap (Instruct nano) (block n k (sender_over k nano.dir b) machine))
    (block n k b machine) c p
unfolding incoming incoming_in
incoming_is n cap k b nano machine c p h l from below proc =
    ⊎_elim
    (λ (e : (nano.write == NEWS) ≡ true). rw e (sym (news_is n cap k b nano machine c p h l from below proc)))
    (λ (e : (nano.write == NEWS) ≡ false). rw e
    (ap (λ (z : List Processor). chain_output nano z (predecessor p))
    (sym (read-chip (b * block_size n k) (block_size n k) machine c from below))))
    (cases_Bool (nano.write == NEWS))

pub block-instruct : (n cap k b : ℕ) (nano : Nano) (machine : Machine) → k ≤ n - n / 2 → b < 2 ^ k →
    block n k b (record machine { chips = after_nano n nano machine.chips })
    ≡ part_after n cap (Instruct nano)
    (due n cap (Instruct nano) (block n k (sender n k (Instruct nano) b) machine)) (block n k b machine)
unfolding part after_nano part_after
block-instruct n cap k b nano machine h l =
    let first : ℕ = b * block_size n k in
    let s : Part = block n k b machine in
    let parcel : Parcel = due n cap (Instruct nano) (block n k (sender n k (Instruct nano) b) machine) in
    let chips = sliced-same [] first (block_size n k) (2 ^ n)
    (λ c. chip_after nano (incoming n nano machine.chips c) (chip_at machine.chips c))
    (λ c. chip_after nano (incoming_in n nano parcel s c) (chip_in s c)) (block-fits n k b (omega arith) l)
    (λ i inside.
    same_chip nano (incoming n nano machine.chips (first + i)) (incoming_in n nano parcel s (first + i))
    (chip_at machine.chips (first + i))
    (λ p proc takes. incoming_is n cap k b nano machine (first + i) p h l (omega arith) (omega arith) proc)
    ∙ ap (chip_after nano (incoming_in n nano parcel s (first + i)))
    (sym (read-chip first (block_size n k) machine (first + i) (omega arith) (omega arith)))) in
    λ j. record {
      first = first;
      count = block_size n k;
      chips = chips j;
      buffers = s.buffers;
      logs = s.logs;
      clock = machine.clock;
      routing = machine.routing;
    }
