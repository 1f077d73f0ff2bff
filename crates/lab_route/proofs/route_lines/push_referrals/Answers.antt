use Rattle.std.proofs.Common.{◌≡◌, ◌++◌, ℕ, flat_map, ap, ◌∙◌, arith}
use Rattle.std.specs.List.{range_with_len}
use Rattle.lab_route.specs.RouteLines.{referral_text, referrals_text}
use Rattle.lab_study.proofs.Sums.{text-more}
use Rattle.lab_route.proofs.route_lines.push_referrals.Goals as goal

pub loop-dim-preserved : goal.loop-dim-preserved
loop-dim-preserved c =
    text-more (referral_text c.args.from c.args.to c.args.rel) c.args.text.now.items c.loop-dim.text.items
    c.push_referral.new.text.items c.loop-dim.dim c.loop-dim.invariant c.in_ok-push_referral.ensures.ok

pub returns : goal.returns
unfolding referrals_text
returns c =
    let all : c.loop-dim.dim ≡ c.args.dims = omega (arith, c.loop-dim-test.false, c.loop-dim.auto.dim-end) in
    record {
      ok = c.loop-dim.invariant
          ∙ ap (λ (k : ℕ). c.args.text.now.items
          ++ flat_map (referral_text c.args.from c.args.to c.args.rel) (range_with_len 0 k)) all;
    }
