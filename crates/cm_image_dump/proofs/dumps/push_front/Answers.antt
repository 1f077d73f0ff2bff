use Rattle.std.proofs.Common.{◌≡◌, ◌≤◌, ◌∙◌, ◌++◌, ℕ, List, length, ap, append_assoc, arith}
use Rattle.std.specs.Int.{w64}
use Rattle.cm_model.specs.Wiring.{Routing, rule_number}
use Rattle.cm_message.specs.Bytes.{number_bytes}
use Rattle.cm_image_format.specs.Header.{head_text}
use Rattle.cm_image_format.specs.Cuts.{cuts_text, version_of, head_of, routing_text}
use Rattle.cm_image_dump.proofs.Dumping.{grown}
use Rattle.cm_image_dump.proofs.Leaving.{on_ok, on_error}
use Rattle.cm_image_dump.proofs.Routed.{few_routed, few_listed, version_told}
use Rattle.cm_image_dump.proofs.dumps.push_front.Goals as goal

pub push_head-requires : goal.push_head-requires
push_head-requires g c =
    let sizes = c.clock-cycles.ensures.sizes in
    record {
      dimension = omega (arith, sizes.dimension, c.from-n.ensures, c.dims.ensures.value);
      room = omega (arith, sizes.most_room, c.from-cap.ensures, c.room.ensures.value);
    }

pub push_cuts-requires : goal.push_cuts-requires
push_cuts-requires g c =
    let same : c.edges-cuts.result.now ≡ c.args.machine.now.machine.routing.cuts =
    c.edges-cuts.ensures.value ∙ ap (λ (r : Routing). r.cuts) c.routing-routing.ensures.value in
    record {
      few = few_routed g.S.Sizes.n c.args.machine.now.machine.routing c.edges-cuts.result.now
          c.clock-cycles.ensures.sizes.dimension c.cuts_are_few.ensures c.clock-cycles.ensures.whole.routing same;
    }

pub returns-clause-ok : goal.returns-clause-ok
returns-clause-ok g c =
    let routing : Routing = c.args.machine.now.machine.routing in
    let text : List ℕ = c.args.text.now.items in
    let same : c.edges-cuts.result.now ≡ c.args.machine.now.machine.routing.cuts =
    c.edges-cuts.ensures.value ∙ ap (λ (r : Routing). r.cuts) c.routing-routing.ensures.value in
    let rule : c.routing-routing.result.now.rule ≡ c.args.machine.now.machine.routing.rule =
    ap (λ (r : Routing). r.rule) c.routing-routing.ensures.value in
    let version : c.version_of-version.result ≡ version_of routing =
    version_told routing c.routing-routing.result.now.rule c.edges-cuts.result.now c.version_of-version.result
    c.version_of-version.ensures.value rule same in
    let n : c.from-n.result ≡ g.S.Sizes.n = c.from-n.ensures ∙ c.dims.ensures.value in
    let cap : c.from-cap.result ≡ g.S.Sizes.cap = c.from-cap.ensures ∙ c.room.ensures.value in
    let head : List ℕ = head_text (head_of g.S.Sizes.n g.S.Sizes.cap routing) in
    let first : c.push_head.new.text.items ≡ text ++ head =
    c.in_ok-push_head.ensures.ok
    ∙ (λ i. text ++ head_text (record {
      version = version i;
      dimension = n i;
      room = cap i;
      rule = rule_number (rule i);
    })) in
    let second : c.push_u64.new.text.items ≡ text ++ (head ++ number_bytes w64 c.args.machine.now.machine.clock) =
    grown text head (number_bytes w64 c.args.machine.now.machine.clock) c.push_head.new.text.items c.push_u64.new.text.items
    first
    (c.in_ok-push_u64.ensures.ok
    ∙ ap (λ (k : ℕ). c.push_head.new.text.items ++ number_bytes w64 k) c.clock-cycles.ensures.value) in
    on_ok c.push_cuts.result c.push_cuts.ensures.ok
    (λ wires. grown text (head ++ number_bytes w64 c.args.machine.now.machine.clock) (routing_text routing)
    c.push_u64.new.text.items c.push_cuts.new.text.items second
    (wires ∙ (λ i. c.push_u64.new.text.items ++ cuts_text (version i) (same i)))
    ∙ ap (λ (xs : List ℕ). text ++ xs)
    (append_assoc head (number_bytes w64 c.args.machine.now.machine.clock) (routing_text routing)))

pub returns-clause-grows : goal.returns-clause-grows
returns-clause-grows g c =
    let same : c.edges-cuts.result.now ≡ c.args.machine.now.machine.routing.cuts =
    c.edges-cuts.ensures.value ∙ ap (λ (r : Routing). r.cuts) c.routing-routing.ensures.value in
    let few : length c.edges-cuts.result.now ≤ 24576 =
    few_listed g.S.Sizes.n c.args.machine.now.machine.routing c.edges-cuts.result.now
    c.clock-cycles.ensures.sizes.dimension c.cuts_are_few.ensures c.clock-cycles.ensures.whole.routing same in
    on_ok c.push_cuts.result c.push_cuts.ensures.grows
    (λ grows. omega (arith, few, c.in_ok-push_head.ensures.grows, c.in_ok-push_u64.ensures.grows, grows))

pub returns-clause-full : goal.returns-clause-full
returns-clause-full g c =
    let same : c.edges-cuts.result.now ≡ c.args.machine.now.machine.routing.cuts =
    c.edges-cuts.ensures.value ∙ ap (λ (r : Routing). r.cuts) c.routing-routing.ensures.value in
    let few : length c.edges-cuts.result.now ≤ 24576 =
    few_listed g.S.Sizes.n c.args.machine.now.machine.routing c.edges-cuts.result.now
    c.clock-cycles.ensures.sizes.dimension c.cuts_are_few.ensures c.clock-cycles.ensures.whole.routing same in
    on_error c.push_cuts.result c.push_cuts.ensures.full
    (λ full. omega (
      arith,
      few,
      c.push_head.ensures.capacity,
      c.push_u64.ensures.capacity,
      c.in_ok-push_head.ensures.grows,
      c.in_ok-push_u64.ensures.grows,
      full,
    ))
