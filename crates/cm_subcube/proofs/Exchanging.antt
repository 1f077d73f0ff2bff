-- Blocks and parcels in a round.
use Rattle.std.proofs.Common.{◌≡◌, ◌<◌, ◌↔◌, ◌-◌, ◌*◌, ◌/◌, ◌%◌, ◌==◌, ℕ, Bool, false, List, [], length, get_or, ap}
use Rattle.std.proofs.Common.{sym, ◌∙◌, subst}
use Rattle.std.proofs.Common.{arith, Ok, Err}
use Rattle.std.specs.Prelude.{Option, None, replicate}
use Rattle.std.specs.List.{All}
use Rattle.std.proofs.lemmas.List.{get_or-replicate, length-replicate}
use Rattle.std.proofs.lemmas.List.Elements.{All-from_get_or}
use Rattle.std.proofs.lemmas.Nat.{pow_pos}
use Rattle.std.proofs.lemmas.Nat.Bits.{bit_at-zero}
use Rattle.cm_bits.specs.Bit.{bit}
use Rattle.cm_model.specs.declared.act.Act.{Act}
use Rattle.cm_model.specs.declared.act.Act.TheVariants as acts
use Rattle.cm_model.specs.declared.act.Nano.{Nano}
use Rattle.cm_model.specs.declared.message.Message.{Message}
use Rattle.cm_model.specs.Steps.{Step, Instruct, Cross}
use Rattle.cm_model.specs.Each.{tabulate}
use Rattle.cm_model.specs.Place.{chip_columns, columns}
use Rattle.cm_model.proofs.Each.{is_each, length-tabulate, same_each_below}
use Rattle.cm_news.specs.Bands.{edge_bits}
use Rattle.cm_blocks.specs.Parts.{Part, block_size}
use Rattle.cm_blocks.specs.Parcels.{Parcel, Blank, Mail, Edge}
use Rattle.cm_blocks.specs.Steps.{part_after, less, absorbed}
use Rattle.cm_blocks.proofs.Bands.{band, block_size-band, block-row}
use Rattle.cm_array.specs.Bands.{IsBand}
use Rattle.cm_array.specs.Cuts.{PartView}
use Rattle.cm_subcube.specs.declared.round.Kind.{Kind}
use Rattle.cm_subcube.specs.declared.round.Kind.TheVariants as kind
use Rattle.cm_subcube.specs.Blocks.{BlockView, IsBlock}
use Rattle.cm_subcube.specs.Parcels.{blank_parcel, IsOfKind}
use Rattle.cm_subcube.specs.Rounds.{step_in, step_over_news}

-- a block stays a block when messages leave it
pub IsBlock-left : (k d : ℕ) (old : PartView) (gathered : Bool) → IsBlock k old
    → IsBlock k (record old { part = less old.room (Cross d) old.part; gathered = gathered })
unfolding less
IsBlock-left k d old gathered was = record { within = was.within; count = was.count; band = was.band }

-- and when messages come
pub IsBlock-taken : (k d : ℕ) (old : PartView) (gathered : Bool) (parcel : Parcel) → IsBlock k old
    → IsBlock k (record old { part = absorbed old.dims old.room (Cross d) parcel old.part; gathered = gathered })
unfolding absorbed
IsBlock-taken k d old gathered parcel was = record { within = was.within; count = was.count; band = was.band }

-- the lane of mail
lane_of : Parcel → List (Option Message)
lane_of Blank = []
lane_of (Mail lane) = lane
lane_of (Edge row) = []

-- in a blank parcel of a dimension there is a place for each chip
pub lanes_of_blank : (n k d : ℕ) (lane : List (Option Message)) → Mail lane ≡ blank_parcel n k (kind.Dim d)
    → length lane ≡ block_size n k
unfolding lane_of
lanes_of_blank n k d lane is = ap (λ (p : Parcel). length (lane_of p)) is
    ∙ length-tabulate {X = Option Message} 0 (block_size n k) (λ c. None)

-- where no message is left in it, it is blank
pub blank_again : (n k d : ℕ) (lane : List (Option Message)) → length lane ≡ block_size n k
    → All (λ leaver. leaver ≡ None) lane
    → Mail lane ≡ blank_parcel n k (kind.Dim d)
blank_again n k d lane long none =
    ap Mail (is_each None (block_size n k) (λ place. None) lane long (λ i l. none i None (omega (arith, l, long))))

-- ---- edges

-- a block is a band of whole rows of chips
pub IsBand-block : (k : ℕ) (kept : PartView) → IsBlock k kept → IsBand kept.dims kept.part
IsBand-block k kept is = record {
  first = (is.band.0 * band kept.dims k, is.band.1.0 ∙ block-row kept.dims k is.band.0 is.within);
  count = (band kept.dims k, is.count ∙ block_size-band kept.dims k is.within);
  some = subst (λ (count : ℕ). 0 < count) (sym is.count) (pow_pos (kept.dims - k));
}

-- a block stays a block over an instruction
pub IsBlock-instructed : (k : ℕ) (nano : Nano) (parcel : Parcel) (old : PartView) → IsBlock k old
    → IsBlock k (record old { part = part_after old.dims old.room (Instruct nano) parcel old.part })
unfolding part_after
IsBlock-instructed k nano parcel old was = record { within = was.within; count = was.count; band = was.band }

-- an edge has a byte for each column of chips
as_wide : (n : ℕ) (edge : List ℕ) → length (edge_bits edge) ≡ columns n → length edge ≡ chip_columns n
as_wide n edge long =
    let bits = length-tabulate 0 (4 * length edge) (λ column. bit (get_or edge (column / 4) 0) (column % 4)) in
    omega (arith, bits, long)

pub edge_as_wide : (n k : ℕ) (one : Kind) (edge : List ℕ) → IsOfKind n k one (Edge (edge_bits edge))
    → length edge ≡ chip_columns n
edge_as_wide n k kind.North edge long = as_wide n edge long
edge_as_wide n k kind.South edge long = as_wide n edge long
edge_as_wide n k (kind.Dim d) edge long = absurd long

-- the bits of an edge
row_of : Parcel → List Bool
row_of Blank = []
row_of (Mail lane) = []
row_of (Edge row) = row

blank_as_wide : (n : ℕ) (edge : List ℕ) → Edge (edge_bits edge) ≡ Edge (tabulate 0 (columns n) (λ column. false))
    → length edge ≡ chip_columns n
unfolding row_of
blank_as_wide n edge is =
    as_wide n edge (ap (λ (p : Parcel). length (row_of p)) is ∙ length-tabulate 0 (columns n) (λ column. false))

pub edge_of_blank : (n k : ℕ) (one : Kind) (edge : List ℕ) → Edge (edge_bits edge) ≡ blank_parcel n k one
    → length edge ≡ chip_columns n
edge_of_blank n k kind.North edge is = blank_as_wide n edge is
edge_of_blank n k kind.South edge is = blank_as_wide n edge is
edge_of_blank n k (kind.Dim d) edge is = cc

-- where each byte is 0, no bit is left in it
no_bits : (n : ℕ) (edge : List ℕ) → length edge ≡ chip_columns n → All (λ four. four ≡ 0) edge
    → edge_bits edge ≡ tabulate 0 (columns n) (λ column. false)
no_bits n edge wide none =
    ap (λ (k : ℕ). tabulate 0 (4 * k) (λ column. bit (get_or edge (column / 4) 0) (column % 4))) wide
    ∙ same_each_below false (columns n) (λ column. bit (get_or edge (column / 4) 0) (column % 4)) (λ column. false)
    (λ column inside.
    ap (λ (four : ℕ). bit four (column % 4)) (none (column / 4) 0 (omega (arith, inside, wide)))
    ∙ ap (λ (v : ℕ). v == 1) (bit_at-zero (column % 4)))

pub blank_edge : (n k : ℕ) (one : Kind) (before now : List ℕ) → IsOfKind n k one (Edge (edge_bits before))
    → length now ≡ length before → All (λ four. four ≡ 0) now → Edge (edge_bits now) ≡ blank_parcel n k one
blank_edge n k kind.North before now was same none = ap Edge (no_bits n now (same ∙ as_wide n before was) none)
blank_edge n k kind.South before now was same none = ap Edge (no_bits n now (same ∙ as_wide n before was) none)
blank_edge n k (kind.Dim d) before now was same none = absurd was

pub blank_mail : (n k : ℕ) (one : Kind) (before now : List (Option Message)) → IsOfKind n k one (Mail before)
    → length now ≡ length before → All (λ leaver. leaver ≡ None) now → Mail now ≡ blank_parcel n k one
blank_mail n k kind.North before now was same none = absurd was
blank_mail n k kind.South before now was same none = absurd was
blank_mail n k (kind.Dim d) before now was same none = blank_again n k d now (same ∙ was) none

-- bytes that were all written as 0
pub all_zero : (count : ℕ) (edge : List ℕ) → edge ≡ replicate count 0 → All (λ four. four ≡ 0) edge
all_zero count edge is =
    All-from_get_or (λ (four : ℕ). four ≡ 0) edge 0
    (λ i l. ap (λ (row : List ℕ). get_or row i 0) is
    ∙ get_or-replicate count i 0 0 (omega (arith, l, ap length is, length-replicate {A = ℕ} count 0)))

-- nothing leaves a part over its edge
pub less-edge : (n k cap : ℕ) (one : Kind) (act : Act) (nano : Nano) (edge : List Bool) (s : Part)
    → Edge edge ≡ blank_parcel n k one
    → act ≡ acts.Nano nano → less cap (step_in act one) s ≡ s
unfolding less
less-edge n k cap kind.North act nano edge s is one = ap (λ (a : Act). less cap (step_in a kind.North) s) one
less-edge n k cap kind.South act nano edge s is one = ap (λ (a : Act). less cap (step_in a kind.South) s) one
less-edge n k cap (kind.Dim d) act nano edge s is one = cc

-- ---- what a block keeps then

-- where messages have left its part
pub block_left : (k d : ℕ) (act : Act) (one : Kind) (new part : PartView) (old now : BlockView) → one ≡ kind.Dim d
    → record { k = k; kept = part } ≡ old → now ≡ record { k = k; kept = new }
    → new ≡ record part { part = less part.room (Cross d) part.part; gathered = new.gathered }
    → now.kept ≡ record old.kept {
      part = less old.kept.room (step_in act one) old.kept.part;
      gathered = now.kept.gathered;
    }
block_left k d act one new part old now over view self is =
    subst (λ (b : BlockView). b.kept ≡ record old.kept {
      part = less old.kept.room (step_in act one) old.kept.part;
      gathered = b.kept.gathered;
    }) (sym self)
    (subst (λ (b : BlockView). new ≡ record b.kept {
      part = less b.kept.room (step_in act one) b.kept.part;
      gathered = new.gathered;
    }) view
    (subst (λ (o : Kind). new ≡ record part {
      part = less part.room (step_in act o) part.part;
      gathered = new.gathered;
    }) (sym over) is))

-- where its part has taken in a parcel
pub block_absorbed : (k : ℕ) (step : Step) (given parcel : Parcel) (new part : PartView) (old now : BlockView)
    → given ≡ parcel → record { k = k; kept = part } ≡ old → now ≡ record { k = k; kept = new }
    → new ≡ record part { part = absorbed part.dims part.room step given part.part; gathered = new.gathered }
    → now.kept ≡ record old.kept {
      part = absorbed old.kept.dims old.kept.room step parcel old.kept.part;
      gathered = now.kept.gathered;
    }
block_absorbed k step given parcel new part old now same view self is =
    subst (λ (b : BlockView). b.kept ≡ record old.kept {
      part = absorbed old.kept.dims old.kept.room step parcel old.kept.part;
      gathered = b.kept.gathered;
    }) (sym self)
    (subst (λ (b : BlockView). new ≡ record b.kept {
      part = absorbed b.kept.dims b.kept.room step parcel b.kept.part;
      gathered = new.gathered;
    }) view
    (subst (λ (p : Parcel). new ≡ record part {
      part = absorbed part.dims part.room step p part.part;
      gathered = new.gathered;
    }) same is))

-- where an instruction has taken in an edge
over_news : (act : Act) (nano : Nano) (row : List Bool) (new old : PartView) → act ≡ acts.Nano nano
    → new ≡ record old { part = part_after old.dims old.room (Instruct nano) (Edge row) old.part }
    → new ≡ record old {
      part = absorbed old.dims old.room (step_over_news act) (Edge row) old.part;
      gathered = new.gathered;
    }
unfolding absorbed
over_news act nano row new old over is =
    subst (λ (a : Act). new ≡ record old {
      part = absorbed old.dims old.room (step_over_news a) (Edge row) old.part;
      gathered = new.gathered;
    }) (sym over)
    (is ∙ (λ t. record old {
      part = part_after old.dims old.room (Instruct nano) (Edge row) old.part;
      gathered = sym (ap (λ (p : PartView). p.gathered) is) t;
    }))

-- mail is taken in over a dimension alone
pub taken_over : (n k : ℕ) (act : Act) (one : Kind) (lane : List (Option Message)) (new old : PartView)
    → IsOfKind n k one (Mail lane)
    → ((d : ℕ) → new ≡ record old {
      part = absorbed old.dims old.room (Cross d) (Mail lane) old.part;
      gathered = new.gathered;
    })
    → new ≡ record old {
      part = absorbed old.dims old.room (step_in act one) (Mail lane) old.part;
      gathered = new.gathered;
    }
taken_over n k act kind.North lane new old was is = absurd was
taken_over n k act kind.South lane new old was is = absurd was
taken_over n k act (kind.Dim d) lane new old was is = is d

-- and an edge by an instruction alone
pub instructed_over : (n k : ℕ) (act : Act) (one : Kind) (nano : Nano) (row : List Bool) (new old : PartView)
    → IsOfKind n k one (Edge row) → act ≡ acts.Nano nano
    → new ≡ record old { part = part_after old.dims old.room (Instruct nano) (Edge row) old.part }
    → new ≡ record old {
      part = absorbed old.dims old.room (step_in act one) (Edge row) old.part;
      gathered = new.gathered;
    }
instructed_over n k act kind.North nano row new old was over is = over_news act nano row new old over is
instructed_over n k act kind.South nano row new old was over is = over_news act nano row new old over is
instructed_over n k act (kind.Dim d) nano row new old was over is = absurd was

-- ---- results

no_error : {T U E : Type 0} (x : T) (y : U) (e : E) → Ok x ≡ Err e → Ok y ≡ Err e
no_error x y e h = cc

-- ---- a lane without messages

pub no_lane : (lane : List (Option Message)) (count : ℕ) → length lane ≡ count
    → ((k : ℕ) (d : Option Message) → k < length lane → get_or lane k d ≡ None)
    → lane ≡ tabulate 0 count (λ place. None)
no_lane lane count long none =
    is_each None count (λ place. None) lane long (λ i l. none i None (omega (arith, l, long)))

-- what is Ok of one type is no more an error than of another
pub still_no_error : {T U E : Type 0} (x : T) (y : U) (e : E) (P : Type 0) → (Ok x ≡ Err e) ↔ P → (Ok y ≡ Err e) ↔ P
still_no_error x y e P was = (λ h. was.0 (no_error y x e h), λ p. no_error x y e (was.1 p))
