-- Counters of parts, and what is due in a round.
use Rattle.std.proofs.Common.{◌≡◌, ℕ, ◌+◌, Bool, true, false, List, [], ◌∷◌, cond, length, refl, ◌∙◌, arith}
use Rattle.std.proofs.lemmas.List.Sums.{sum_by-cons}
use Rattle.cm_bits.specs.declared.plane.Dir.{Dir}
use Rattle.cm_bits.specs.declared.plane.Dir.TheVariants as dir
use Rattle.cm_model.specs.Steps.{Step, Instruct, Look, Inject, Cross, Deliver}
use Rattle.cm_model.specs.Place.{columns, place_at}
use Rattle.cm_model.specs.Array.{output}
use Rattle.cm_model.specs.Wiring.{way_of}
use Rattle.cm_model.specs.Buffers.{outgoing}
use Rattle.cm_model.proofs.Each.{length-tabulate}
use Rattle.cm_blocks.specs.Counts.{is_delivery, deliveries}
use Rattle.cm_blocks.specs.Parts.{Part, block_size, chip_in, buffer_in}
use Rattle.cm_blocks.specs.Parcels.{Parcel, Blank, Edge, due, edge_row}
use Rattle.cm_blocks.specs.Rounds.{is_round}
use Rattle.cm_blocks.specs.Steps.{part_after, part_after_all, less}
use Rattle.cm_subcube.specs.Rounds.{kind_of, kind_over}
use Rattle.cm_subcube.specs.Parcels.{IsOfKind}

pub clock_after : (n room : ℕ) (step : Step) (parcel : Parcel) (s : Part)
    → (part_after n room step parcel s).clock ≡ s.clock + deliveries (step ∷ [])
unfolding part_after
clock_after n room (Instruct nano) parcel s = let e : s.clock ≡ s.clock + 0 = omega arith in e
clock_after n room Look parcel s = let e : s.clock ≡ s.clock + 0 = omega arith in e
clock_after n room Inject parcel s = let e : s.clock ≡ s.clock + 0 = omega arith in e
clock_after n room (Cross d) parcel s = let e : s.clock ≡ s.clock + 0 = omega arith in e
clock_after n room Deliver parcel s = refl

-- the deliveries of steps, one step more
deliveries-cons : (step : Step) (steps : List Step)
    → deliveries (step ∷ steps) ≡ deliveries (step ∷ []) + deliveries steps
deliveries-cons (Instruct nano) steps = sum_by-cons (λ y. cond (is_delivery y) 1 0) (Instruct nano) steps
deliveries-cons Look steps = sum_by-cons (λ y. cond (is_delivery y) 1 0) Look steps
deliveries-cons Inject steps = sum_by-cons (λ y. cond (is_delivery y) 1 0) Inject steps
deliveries-cons (Cross d) steps = sum_by-cons (λ y. cond (is_delivery y) 1 0) (Cross d) steps
deliveries-cons Deliver steps = sum_by-cons (λ y. cond (is_delivery y) 1 0) Deliver steps

pub clock_after_all : (n room : ℕ) (steps : List Step) (s : Part)
    → (part_after_all n room steps s).clock ≡ s.clock + deliveries steps
clock_after_all n room [] s = let e : s.clock ≡ s.clock + 0 = omega arith in e
clock_after_all n room (step ∷ steps) s =
    let more = clock_after_all n room steps (part_after n room step Blank s) in
    let one = clock_after n room step Blank s in
    let split = deliveries-cons step steps in
    omega (arith, more, one, split)

pub clock_left : (room : ℕ) (step : Step) (s : Part) → (less room step s).clock ≡ s.clock
unfolding less
clock_left room (Instruct nano) s = refl
clock_left room Look s = refl
clock_left room Inject s = refl
clock_left room (Cross d) s = refl
clock_left room Deliver s = refl

over_columns : (n k : ℕ) (over : Dir) (row : List Bool) → length row ≡ columns n
    → IsOfKind n k (kind_over over) (Edge row)
over_columns n k dir.North row long = long
over_columns n k dir.East row long = long
over_columns n k dir.West row long = long
over_columns n k dir.South row long = long

-- what is due is of the round's kind
pub due_of_kind : (n k room : ℕ) (step : Step) (s : Part) → is_round n k step ≡ true → s.count ≡ block_size n k
    → IsOfKind n k (kind_of step) (due n room step s)
unfolding due
due_of_kind n k room (Instruct nano) s round count =
    over_columns n k nano.dir _
    (length-tabulate 0 (columns n) (λ column. output nano (chip_in s) (place_at n (edge_row n nano.dir s) column)))
due_of_kind n k room Look s round count = absurd (let wrong : false ≡ true = round in cc)
due_of_kind n k room Inject s round count = absurd (let wrong : false ≡ true = round in cc)
due_of_kind n k room (Cross d) s round count =
    length-tabulate s.first s.count (λ c. outgoing (way_of s.routing c d) room d (buffer_in s c)) ∙ count
due_of_kind n k room Deliver s round count = absurd (let wrong : false ≡ true = round in cc)
