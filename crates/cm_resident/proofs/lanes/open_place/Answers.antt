use Rattle.std.proofs.Common.{rules, ◌≡◌, ℕ, ◌^◌, ◌∙◌, List, subst, sym, ap, arith}
use Rattle.cm_blocks.specs.Parcels.{Parcel}
use Rattle.cm_subcube.specs.declared.round.Kind.{Kind}
use Rattle.cm_board.specs.Courses.{Course}
use Rattle.cm_gates.specs.Handing.{AreHandedOver}
use Rattle.cm_turns.specs.Lanes.{Run, kind_of_index, own, givers}
use Rattle.cm_resident.specs.Gathering.{AreAll, AreFrom}
use Rattle.cm_resident.specs.Teams.{IsEnd}
use Rattle.cm_resident.proofs.Opening.{can_be_over, handed_over, written_back}
use Rattle.cm_resident.proofs.lanes.open_place.Goals as goal

pub returns-clause-gets : goal.returns-clause-gets
returns-clause-gets g c =
    let run : Run =
    record {
      n = g.S.Sizes.n;
      k = c.args.k;
      room = g.S.Sizes.cap;
      machine = c.args.machine.now.machine;
      acts = c.args.acts.now;
    } in
    let n : c.dims-dims.result ≡ run.n = c.dims-dims.ensures.value in
    let kind : c.kind_at-kind.result ≡ kind_of_index run.n run.k c.args.place =
    c.kind_at-kind.ensures.value ∙ ap (λ (d : ℕ). kind_of_index d run.k c.args.place) n in
    let ended : c.loop-block.block ≡ 2 ^ run.k = search rules in
    let opened : AreAll (IsEnd run own c.args.place) (2 ^ run.k) c.loop-block.tos.items =
    subst (λ (m : ℕ). AreAll (IsEnd run own c.args.place) m c.loop-block.tos.items) ended c.loop-block.invariant.tos_are in
    let over : AreHandedOver run.n run.k (kind_of_index run.n run.k c.args.place) c.loop-block.tos.items c.hand_over.new.things =
    subst (λ (ends : List (Course Parcel)). AreHandedOver run.n run.k (kind_of_index run.n run.k c.args.place) ends
    c.hand_over.new.things) c.deref_mut.ensures.value
    (subst (λ (one : Kind). AreHandedOver run.n run.k one c.deref_mut.result.now c.hand_over.new.things) kind
    (subst (λ (d : ℕ). AreHandedOver d run.k c.kind_at-kind.result c.deref_mut.result.now c.hand_over.new.things) n
    c.hand_over.ensures.value)) in
    let back = written_back c.loop-block.tos.len c.hand_over.new.things c.loop-block.tos.items
    (over.len ∙ sym c.loop-block.tos.ok.0) in
    subst (λ (ends : List (Course Parcel)). AreFrom (IsEnd run givers c.args.place) 0 (2 ^ run.k) ends) (sym back)
    (handed_over run c.args.place c.loop-block.tos.items c.hand_over.new.things
    (can_be_over run.n run.k c.args.place (omega (arith, c.requires.within)) c.requires.place) opened over)
