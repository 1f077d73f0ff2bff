use Rattle.std.proofs.Common.{◌≡◌, length, ap, sym, ◌∙◌, subst}
use Rattle.cm_blocks.specs.Parts.{block_size}
use Rattle.cm_blocks.specs.Steps.{less}
use Rattle.cm_model.specs.Place.{chip_columns}
use Rattle.cm_news.specs.Bands.{edge_bits}
use Rattle.cm_array.specs.Cuts.{PartView}
use Rattle.cm_subcube.specs.declared.round.Round.{Round}
use Rattle.cm_subcube.specs.Blocks.{BlockView}
use Rattle.cm_subcube.specs.Rounds.{step_of}
use Rattle.cm_subcube.specs.Parcels.{parcel_of, blank_parcel}
use Rattle.cm_subcube.proofs.Exchanging.{IsBand-block, IsBlock-left, lanes_of_blank, edge_of_blank, less-edge, block_left}
use Rattle.cm_subcube.proofs.block.Block.fill.Goals as goal
use Rattle.cm_subcube.proofs.block.Block.fill.Goals.{in-Mail+in-Dim, in-Edge+in-Nano}

pub leave-requires-clause-lanes : goal.leave-requires-clause-lanes
leave-requires-clause-lanes c =
    let n = c.args.self.now.kept.dims in
    let k = c.args.self.now.k in
    ap length c.deref_mut.ensures.value
    ∙ lanes_of_blank n k c.in-Dim.dim c.in-Mail.mail.items
    (ap parcel_of (sym c.in-Mail.is) ∙ c.parcel.view_is ∙ c.requires.blank
    ∙ ap (blank_parcel n k) c.in-Dim.is)
    ∙ sym (c.self.invariant.count ∙ ap (λ (b : BlockView). block_size b.kept.dims b.k) c.self.view_is)

pub edge-requires-clause-band : goal.edge-requires-clause-band
edge-requires-clause-band c = IsBand-block c.self.inside.k c.self.inside.part c.self.invariant

pub edge-requires-clause-lanes : goal.edge-requires-clause-lanes
edge-requires-clause-lanes c =
    let n = c.args.self.now.kept.dims in
    let k = c.args.self.now.k in
    ap length c.deref_mut-in-Edge.ensures.value
    ∙ edge_of_blank n k c.args.round.now.kind c.in-Edge.edge.items
    (ap parcel_of (sym c.in-Edge.is) ∙ c.parcel.view_is ∙ c.requires.blank)
    ∙ sym (ap (λ (b : BlockView). chip_columns b.kept.dims) c.self.view_is)

pub invariant_of-self : goal.invariant_of-self
invariant_of-self c = rw c.leave.ensures.value (IsBlock-left _ _ _ _ c.self.invariant)

pub returns-clause-rest : goal.returns-clause-rest
returns-clause-rest c =
    let now : BlockView = c.args.self.now in
    let old : PartView = now.kept in
    let round : Round = c.args.round.now in
    let rest : BlockView → Type 0 =
    λ b. b.kept ≡ record old { part = less old.room (step_of round) old.part; gathered = b.kept.gathered } in
    elim c.match-parcel.branch [
      | in-Mail+in-Dim w ↦ block_left c.self.inside.k w.in-Dim.dim round.act round.kind w.leave.new.self c.self.inside.part now
          c.match-parcel.self w.in-Dim.is c.self.view_is w.self-is w.leave.ensures.value
      | in-Edge+in-Nano w ↦
          let blank = ap parcel_of (sym w.in-Edge.is) ∙ c.parcel.view_is ∙ c.requires.blank in
          let same : record { k = c.self.inside.k; kept = w.edge.new.self } ≡ now =
          (λ t. record { k = c.self.inside.k; kept = w.edge.ensures.others t }) ∙ c.self.view_is in
          subst rest (sym (w.self-is ∙ same)) (λ t. record old {
            part = sym (less-edge old.dims now.k old.room round.kind round.act w.in-Nano.nano
                (edge_bits w.in-Edge.edge.items) old.part
                blank w.in-Nano.is) t;
          })
    ]
