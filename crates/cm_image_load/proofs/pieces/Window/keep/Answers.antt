use Rattle.std.proofs.Common.{◌≤◌, ◌-◌, ℕ, List, length, drop, sym, ◌∙◌, subst}
use Rattle.cm_image_load.proofs.Coming.{between_keep}
use Rattle.cm_image_load.proofs.pieces.Window.keep.Goals as goal

pub returns : goal.returns
returns c =
    let few = subst (λ (xs : List ℕ). c.args.count ≤ length xs) (sym c.self.view_is) c.requires.within in
    record {
      value = between_keep c.self.inside.from c.self.inside.to c.args.count c.self.inside.bytes.items
          c.self.invariant.0 c.self.invariant.1 few
          ∙ (λ i. drop (length (c.self.view_is i) - c.args.count) (c.self.view_is i));
    }
