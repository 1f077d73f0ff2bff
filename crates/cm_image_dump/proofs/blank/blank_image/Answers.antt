use Rattle.std.proofs.Common.{◌≡◌, ◌∙◌, ◌*◌, ◌%◌, ◌^◌, ◌<◌, ◌≤◌, ◌++◌, ℕ, List, length, replicate, refl, sym, ap, arith}
use Rattle.std.proofs.Common.{lit<}
use Rattle.std.proofs.Math.Nat.{pow-le-pow_right, mod-eq_of_lt}
use Rattle.cm_model.specs.Wiring.{Routing, IsRouting, rule_number}
use Rattle.cm_model.specs.Machine.{Machine, blank_machine}
use Rattle.cm_router.specs.Routes.{routing_of}
use Rattle.cm_image_format.specs.Header.{head_text}
use Rattle.cm_image_format.specs.Cuts.{cuts_text, version_by, version_of, head_of, routing_text}
use Rattle.cm_image_dump.specs.Planes.{chips_text}
use Rattle.cm_image_dump.proofs.Blanks.{blank_chips_text}
use Rattle.cm_image_dump.proofs.Dumping.{all_written}
use Rattle.cm_image_dump.proofs.Lengths.{few_cuts}
use Rattle.cm_image_dump.proofs.blank.blank_image.Goals as goal

-- so many bytes are those of so many chips
all_chips : (n : ℕ) → n ≤ 12 → (35 * 2 ^ n) % 18446744073709551616 ≡ 2 ^ n * 35
all_chips n h =
    let most : 2 ^ n ≤ 2 ^ 12 = pow-le-pow_right (lit< tt) h in
    let below : 35 * 2 ^ n < 18446744073709551616 = omega arith in
    mod-eq_of_lt below ∙ omega arith

pub push_cuts-requires : goal.push_cuts-requires
push_cuts-requires c =
    let whole = c.edges-cuts.ensures.whole in
    let routing : Routing = routing_of c.args.routing.now in
    let is : IsRouting c.args.routing.now.cuts.dims routing =
    record { within = whole.within; rising = whole.rising } in
    let few = c.cuts_are_few.ensures c.args.routing.now.cuts.dims routing is in
    record {
      few = few_cuts c.args.routing.now.cuts.dims (length c.edges-cuts.result.now) whole.dimensions
          (omega (arith, few, ap length c.edges-cuts.ensures.value));
    }

pub push_zeros-requires : goal.push_zeros-requires
push_zeros-requires c =
    let most : 2 ^ c.args.n ≤ 2 ^ 12 = pow-le-pow_right (lit< tt) c.requires.sizes.dimension in
    let all = all_chips c.args.n c.requires.sizes.dimension in
    record { few = omega (arith, all, most) }

pub returns : goal.returns
unfolding blank_machine
returns c =
    let routing : Routing = routing_of c.args.routing.now in
    let machine : Machine = record (blank_machine c.args.n) { routing = routing } in
    let cuts = c.edges-cuts.ensures.value in
    let version : c.version_of-version.result ≡ version_of routing =
    c.version_of-version.ensures.value ∙ (λ i. version_by routing.rule (cuts i)) in
    let head : c.push_head.new.text.items ≡ c.new-text.result.items ++ head_text (head_of c.args.n c.args.room routing) =
    c.in_ok-push_head.ensures.ok
    ∙ (λ i. c.new-text.result.items ++ head_text (record {
      version = version i;
      dimension = c.from.ensures i;
      room = c.from-2.ensures i;
      rule = rule_number routing.rule;
    })) in
    let wires : c.push_cuts.new.text.items ≡ c.push_u64.new.text.items ++ routing_text routing =
    c.in_ok-push_cuts.ensures.ok ∙ (λ i. c.push_u64.new.text.items ++ cuts_text (version i) (cuts i)) in
    let chips : c.push_zeros.new.text.items ≡ c.push_cuts.new.text.items ++ chips_text machine 0 (2 ^ c.args.n) =
    c.in_ok-push_zeros.ensures.ok
    ∙ ap (λ (zeros : List ℕ). c.push_cuts.new.text.items ++ zeros)
    (ap (λ (k : ℕ). replicate k 0) (all_chips c.args.n c.requires.sizes.dimension) ∙ sym (blank_chips_text c.args.n)) in
    record {
      value = all_written c.args.n c.args.room 0 machine _ _ _ _ _ c.new-text.ensures.items head
          c.in_ok-push_u64.ensures.ok refl wires chips;
    }
