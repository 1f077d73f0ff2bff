use Rattle.std.proofs.Common.{◌≡◌, ℕ, true, sym, subst}
use Rattle.std.specs.List.{All}
use Rattle.lab_fresh.specs.Fresh.{is_end}
use Rattle.lab_fresh.proofs.WireEnds.{none_stray}
use Rattle.lab_fresh.proofs.blanks.routing_with.Goals as goal

pub cut-requires-clause-ends : goal.cut-requires-clause-ends
cut-requires-clause-ends c =
    subst (λ (n : ℕ). All (λ end. is_end n end ≡ true) c.args.ends.now) (sym c.in_ok-routing.ensures.dims)
    (none_stray c.args.n c.args.ends.now c.requires.ends)
