use Rattle.std.proofs.Common.{sym, ap, ◌∙◌}
use Rattle.std.specs.List.{list_any}
use Rattle.cm_bits.specs.Wire.{Wire}
use Rattle.cm_model.specs.Wiring.{same_wire}
use Rattle.cm_model.proofs.Wires.{wire_across}
use Rattle.cm_router.proofs.cuts.Cuts.has.Goals as goal

pub returns : goal.returns
returns c =
    let value = c.has_bit.ensures.value ∙ c.row.ensures.value c.args.dim in
    record {
      value = value;
      both_ends = value
          ∙ sym (ap (λ (w : Wire). list_any (same_wire w) c.args.self.now.wires) (wire_across c.args.chip c.args.dim));
    }
