-- What comes to a block has nothing for a chip whose wire is cut.
use Rattle.std.proofs.Common.{◌≡◌, ℕ, ◌+◌, ◌-◌, ◌*◌, ◌≤◌, ◌^◌, true, List, None}
use Rattle.std.proofs.Common.{Option, refl, sym, ap, ◌∙◌, ⊎_elim, inl, inr, arith}
use Rattle.std.specs.Prelude.{bit_xor}
use Rattle.std.proofs.lemmas.Bool.{cases_Bool}
use Rattle.std.proofs.lemmas.Bool.Decides.{nat_tests}
use Rattle.cm_bits.specs.declared.plane.Dir.{Dir}
use Rattle.cm_bits.specs.declared.plane.Dir.TheVariants.{North, East, South, West}
use Rattle.cm_model.specs.declared.message.Message.{Message}
use Rattle.cm_model.specs.Machine.{Machine}
use Rattle.cm_model.specs.Steps.{Step, Instruct, Look, Inject, Cross, Deliver}
use Rattle.cm_model.specs.Wiring.{Way, is_cut, way_of}
use Rattle.cm_model.specs.Buffers.{leaving_place, outgoing}
use Rattle.cm_model.proofs.Each.{get_or-tabulate}
use Rattle.cm_model.proofs.Wires.{is_cut-across}
use Rattle.cm_blocks.specs.Parts.{Part, part, block, block_size, buffer_in}
use Rattle.cm_blocks.specs.Parcels.{Parcel, mail_in, due, sender}
use Rattle.cm_blocks.specs.Rounds.{is_round}
use Rattle.cm_blocks.specs.Steps.{less}
use Rattle.cm_blocks.proofs.Mailing.{high_across}
use Rattle.cm_subcube.specs.declared.round.Kind.{Kind}
use Rattle.cm_subcube.specs.declared.round.Kind.TheVariants as kind
use Rattle.cm_subcube.specs.Rounds.{kind_over, kind_of}
use Rattle.cm_subcube.specs.Parcels.{HaveSpaceOver, HaveSpaceFor, HaveRoomOver, HasRoomFor, SparesCuts, SparesCutsOver}

nobody_leaves : (way : Way) (cap d : ℕ) (ms : List Message) → way.cut ≡ true → outgoing way cap d ms ≡ None
unfolding leaving_place
nobody_leaves way cap d ms cut = rw cut refl

spared_over : (n cap k b d : ℕ) (machine : Machine) → n - k ≤ d
    → SparesCutsOver d (less cap (Cross d) (block n k b machine))
    (mail_in (due n cap (Cross d) (block n k (sender n k (Cross d) b) machine)))
unfolding part less due
spared_over n cap k b d machine high c l cut =
    let from : ℕ = sender n k (Cross d) b in
    let sent : Part = block n k from machine in
    let here : ℕ = b * block_size n k + c in
    let there : bit_xor here (2 ^ d) ≡ from * block_size n k + c = high_across (n - k) b c d high l in
    let joined : is_cut machine.routing (from * block_size n k + c) d ≡ true =
    ap (λ (e : ℕ). is_cut machine.routing e d) (sym there) ∙ (is_cut-across machine.routing here d ∙ cut) in
    get_or-tabulate (from * block_size n k) (block_size n k)
    (λ e. outgoing (way_of machine.routing e d) cap d (buffer_in sent e)) c None l
    ∙ nobody_leaves (way_of machine.routing (from * block_size n k + c) d) cap d (buffer_in sent (from * block_size n k + c)) joined

-- over NEWS no message comes
over_news : (to : Dir) (s : Part) (parcel : Parcel) → SparesCuts (kind_over to) s parcel
over_news North s parcel = tt
over_news East s parcel = tt
over_news South s parcel = tt
over_news West s parcel = tt

pub cuts_are_spared : (n cap k b : ℕ) (machine : Machine) (step : Step) → is_round n k step ≡ true
    → SparesCuts (kind_of step) (less cap step (block n k b machine))
    (due n cap step (block n k (sender n k step b) machine))
cuts_are_spared n cap k b machine (Instruct nano) round = over_news nano.dir (less cap (Instruct nano) (block n k b machine))
    (due n cap (Instruct nano) (block n k (sender n k (Instruct nano) b) machine))
cuts_are_spared n cap k b machine Look round = tt
cuts_are_spared n cap k b machine Inject round = tt
cuts_are_spared n cap k b machine (Cross d) round =
    let high : n - k ≤ d = grind (arith, nat_tests) in spared_over n cap k b d machine high
cuts_are_spared n cap k b machine Deliver round = tt

-- there is room for each message that comes, where there is at each chip whose wire is not cut
room_over : (d room : ℕ) (s : Part) (lane : ℕ → Option Message) → HaveSpaceOver d room s → SparesCutsOver d s lane
    → HaveRoomOver room s lane
room_over d room s lane space spared c l =
    ⊎_elim (λ cut. inl (spared c l cut)) (λ whole. inr (space c l whole)) (cases_Bool (is_cut s.routing (s.first + c) d))

pub room_for : (kind : Kind) (room : ℕ) (s : Part) (parcel : Parcel) → HaveSpaceFor kind room s
    → SparesCuts kind s parcel → HasRoomFor kind room s parcel
room_for kind.North room s parcel space spared = tt
room_for kind.South room s parcel space spared = tt
room_for (kind.Dim d) room s parcel space spared = room_over d room s (mail_in parcel) space spared
