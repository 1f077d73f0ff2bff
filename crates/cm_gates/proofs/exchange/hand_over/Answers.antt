use Rattle.std.proofs.Common.{ℕ, ◌^◌, subst, sym}
use Rattle.std.specs.List.{RotatedRight}
use Rattle.cm_subcube.specs.declared.round.Kind.{Kind}
use Rattle.cm_gates.specs.Handing.{AreHandedOver}
use Rattle.cm_gates.proofs.Across.{from_before}
use Rattle.cm_gates.proofs.exchange.hand_over.Goals as goal

pub returns-in-South : goal.returns-in-South
returns-in-South g c = record {
  value = subst (λ (one : Kind). AreHandedOver c.args.dims c.args.k one c.args.things.now c.rotate_right.new.self)
      (sym c.in-South.is)
      (record {
        len = c.rotate_right.ensures.len;
        each = λ b d below. from_before (2 ^ c.args.k) c.args.things.now c.rotate_right.new.self
            (subst (λ (n : ℕ). RotatedRight c.args.things.now c.rotate_right.new.self n 1)
            c.requires.blocks c.rotate_right.ensures.by_index) b d below;
      });
}
