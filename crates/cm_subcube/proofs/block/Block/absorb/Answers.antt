use Rattle.std.proofs.Common.{◌≡◌, ℕ, List, length, inr, ap, sym, ◌∙◌, subst}
use Rattle.std.specs.Prelude.{Option}
use Rattle.std.proofs.lemmas.List.{with_items_is}
use Rattle.cm_model.specs.declared.message.Message.{Message}
use Rattle.cm_model.specs.Place.{chip_columns}
use Rattle.cm_blocks.specs.Parcels.{Parcel, Mail, Edge}
use Rattle.cm_news.specs.Bands.{edge_bits}
use Rattle.cm_subcube.specs.declared.parcel.Load.{Load}
use Rattle.cm_subcube.specs.declared.parcel.Load.TheVariants as load
use Rattle.cm_subcube.specs.declared.round.Kind.{Kind}
use Rattle.cm_subcube.specs.declared.round.Round.{Round}
use Rattle.cm_subcube.specs.Blocks.{BlockView}
use Rattle.cm_subcube.specs.Rounds.{step_of}
use Rattle.cm_subcube.specs.Parcels.{parcel_of, blank_parcel, IsOfKind}
use Rattle.cm_subcube.proofs.Exchanging.{edge_as_wide, blank_edge, blank_mail, all_zero, IsBand-block, IsBlock-taken}
use Rattle.cm_subcube.proofs.Exchanging.{IsBlock-instructed, block_absorbed, taken_over, instructed_over}
use Rattle.cm_subcube.proofs.block.Block.absorb.Goals as goal
use Rattle.cm_subcube.proofs.block.Block.absorb.Goals.{in-Mail, in-Edge+in-Nano}

pub invariant_of-self : goal.invariant_of-self
invariant_of-self c = rw (c.take_in.ensures.value 0) (IsBlock-taken _ _ _ _ _ c.self.invariant)

pub instruct-requires-clause-band : goal.instruct-requires-clause-band
instruct-requires-clause-band c = IsBand-block c.self.inside.k c.self.inside.part c.self.invariant

pub instruct-requires-clause-lanes : goal.instruct-requires-clause-lanes
instruct-requires-clause-lanes c =
    let n = c.args.self.now.kept.dims in
    let k = c.args.self.now.k in
    let one = c.args.round.now.kind in
    inr (ap length c.deref.ensures.value
    ∙ edge_as_wide n k one c.in-Edge.edge.items
    (subst (λ (p : Parcel). IsOfKind n k one p)
    (sym (ap parcel_of (sym c.in-Edge.is) ∙ c.parcel.view_is)) c.requires.lanes)
    ∙ sym (ap (λ (b : BlockView). chip_columns b.kept.dims) c.self.view_is))

pub invariant_of-self-in-Edge : goal.invariant_of-self-in-Edge
invariant_of-self-in-Edge c = rw c.instruct.ensures.value (IsBlock-instructed _ _ _ _ c.self.invariant)

pub returns-clause-value : goal.returns-clause-value
returns-clause-value c =
    let now : BlockView = c.args.self.now in
    let round : Round = c.args.round.now in
    let n = now.kept.dims in
    let of_kind : (p : Parcel) → p ≡ c.args.parcel.now → IsOfKind n now.k round.kind p =
    λ p is. subst (IsOfKind n now.k round.kind) (sym is) c.requires.lanes in
    elim c.match-parcel.branch [
      | in-Mail w ↦
          let lane = w.deref_mut.result.now in
          let given = ap Mail w.deref_mut.ensures.value ∙ ap parcel_of (sym w.in-Mail.is) ∙ c.parcel.view_is in
          block_absorbed c.self.inside.k (step_of round) (Mail lane) c.args.parcel.now w.take_in.new.self
          c.self.inside.part now c.match-parcel.self given c.self.view_is w.self-is
          (taken_over n now.k round.act round.kind lane w.take_in.new.self c.self.inside.part
          (of_kind (Mail lane) given) w.take_in.ensures.value)
      | in-Edge+in-Nano w ↦
          let row = edge_bits w.deref.result.now in
          let given = ap (λ (edge : List ℕ). Edge (edge_bits edge)) w.deref.ensures.value
          ∙ ap parcel_of (sym w.in-Edge.is) ∙ c.parcel.view_is in
          block_absorbed c.self.inside.k (step_of round) (Edge row) c.args.parcel.now w.instruct.new.self
          c.self.inside.part now c.match-parcel.self given c.self.view_is w.self-is
          (instructed_over n now.k round.act round.kind w.in-Nano.nano row w.instruct.new.self c.self.inside.part
          (of_kind (Edge row) given) w.in-Nano.is w.instruct.ensures.value)
    ]

pub returns-clause-blank : goal.returns-clause-blank
returns-clause-blank c =
    let n = c.args.self.now.kept.dims in
    let k = c.args.self.now.k in
    let one : Kind = c.args.round.now.kind in
    let of_kind : (held : Load) → c.parcel.inside.load ≡ held → IsOfKind n k one (parcel_of held) =
    λ held is. subst (IsOfKind n k one) (sym (ap parcel_of (sym is) ∙ c.parcel.view_is)) c.requires.lanes in
    elim c.match-parcel.branch [
      | in-Mail w ↦
          let before = w.in-Mail.mail in
          let now = w.take_in.new.leavers in
          let same = w.take_in.auto.leavers ∙ ap length w.deref_mut.ensures.value in
          let lent = with_items_is before now (same ∙ sym before.ok.0) in
          rw w.parcel-inside-is (subst (λ (lane : List (Option Message)). Mail lane ≡ blank_parcel n k one) (sym lent)
          (blank_mail n k one before.items now (of_kind (load.Mail before) w.in-Mail.is) same w.take_in.ensures.blank))
      | in-Edge+in-Nano w ↦
          let before = w.in-Edge.edge in
          let now = w.fill.new.self in
          let same = sym now.ok.0 ∙ w.fill.ensures.len ∙ before.ok.0 in
          rw w.parcel-inside-is (blank_edge n k one before.items now.items (of_kind (load.Edge before) w.in-Edge.is)
          same (all_zero before.len now.items (w.fill.ensures.items (λ y h. h))))
    ]
