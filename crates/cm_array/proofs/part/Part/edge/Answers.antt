use Rattle.std.proofs.Common.{◌≡◌, ℕ, List, length, refl, sym, ap, ◌∙◌, subst}
use Rattle.cm_model.specs.Place.{chip_columns}
use Rattle.cm_model.specs.Steps.{Instruct}
use Rattle.cm_blocks.specs.Parcels.{Edge, due}
use Rattle.cm_news.specs.Bands.{edge_bits}
use Rattle.cm_array.specs.Bands.{IsBand, IsEdgeOf}
use Rattle.cm_array.specs.Cuts.{PartView, part_view}
use Rattle.cm_array.proofs.Banding.{edge_due, edge_inside}
use Rattle.cm_array.proofs.Lists.{items-lent}
use Rattle.cm_array.proofs.part.Part.edge.Goals as goal

pub returns-clause-value : goal.returns-clause-value
returns-clause-value c =
    let inside = c.self.inside in
    let nano = c.args.nano.now in
    let sent = c.send.new.sent in
    let out = c.write_edge.new.out in
    let before : PartView = part_view inside.first inside.state in
    let band : IsBand inside.state.shape.dims before.part =
    subst (λ (k : PartView). IsBand k.dims k.part) (sym c.self.view_is) c.requires.band in
    let as_many = c.send.auto.sent ∙ ap length c.deref_mut.ensures.value in
    subst (λ (k : PartView). Edge (edge_bits out) ≡ due k.dims k.room (Instruct nano) k.part) c.self.view_is
    (edge_due inside.state.shape.dims inside.state.shape.room nano before.part sent out c.requires.vertical band refl
    (as_many ∙ c.self.invariant.sized.sent_count)
    (c.write_edge.auto.out ∙ c.requires.lanes ∙ ap (λ (k : PartView). chip_columns k.dims) (sym c.self.view_is))
    c.send.ensures.value
    (subst (λ (planes : List ℕ). IsEdgeOf nano.dir planes out)
    (c.deref.ensures.value ∙ items-lent inside.state.sent sent as_many) c.write_edge.ensures.value)
    (edge_inside inside.state.shape.dims nano.dir before.part band).1)
