use Rattle.std.proofs.Common.{◌≡◌, ◌∙◌, length, ap, arith}
use Rattle.cm_model.specs.Wiring.{Routing}
use Rattle.cm_image_format.specs.Cuts.{cuts_text, version_of}
use Rattle.cm_image_dump.proofs.Lengths.{length-text_of}
use Rattle.cm_image_dump.proofs.Routed.{few_routed, version_told}
use Rattle.cm_image_dump.proofs.dumps.text_len.Goals as goal

pub cuts_len-requires : goal.cuts_len-requires
cuts_len-requires g c =
    let same : c.edges-cuts.result.now ≡ c.args.machine.now.machine.routing.cuts =
    c.edges-cuts.ensures.value ∙ ap (λ (r : Routing). r.cuts) c.routing-routing.ensures.value in
    record {
      few = few_routed g.S.Sizes.n c.args.machine.now.machine.routing c.edges-cuts.result.now c.sizes.ensures.dimension
          c.cuts_are_few.ensures c.routing-routing.ensures.whole.routing same;
    }

pub returns : goal.returns
returns g c =
    let routing : Routing = c.args.machine.now.machine.routing in
    let same : c.edges-cuts.result.now ≡ c.args.machine.now.machine.routing.cuts =
    c.edges-cuts.ensures.value ∙ ap (λ (r : Routing). r.cuts) c.routing-routing.ensures.value in
    let rule : c.routing-routing.result.now.rule ≡ c.args.machine.now.machine.routing.rule =
    ap (λ (r : Routing). r.rule) c.routing-routing.ensures.value in
    let version : c.version_of-version.result ≡ version_of routing =
    version_told routing c.routing-routing.result.now.rule c.edges-cuts.result.now c.version_of-version.result
    c.version_of-version.ensures.value rule same in
    let wires : length (cuts_text c.version_of-version.result c.edges-cuts.result.now)
    ≡ length (cuts_text (version_of routing) routing.cuts) =
    (λ i. length (cuts_text (version i) (same i))) in
    record {
      value = omega (
        arith,
        c.cuts_len.ensures.value,
        wires,
        c.chips_len.ensures.value,
        length-text_of g.S.Sizes.n g.S.Sizes.cap c.args.machine.now.machine,
      );
    }
