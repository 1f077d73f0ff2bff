use Rattle.std.proofs.Common.{ℕ, List, subst, sym}
use Rattle.cm_subcube.specs.Blocks.{BlockView}
use Rattle.cm_gates.specs.Gates.{ComesBy, gate_round_number}
use Rattle.cm_turns.proofs.Working.{still_comes}
use Rattle.cm_turns.proofs.worker.show.Goals as goal

pub come_by-requires-clause-own : goal.come_by-requires-clause-own
come_by-requires-clause-own g c =
    subst (λ (told : ℕ). ComesBy c.args.worker told c.deref.result.now) (sym c.as_told.ensures.value)
    (subst (λ (blocks : List BlockView). ComesBy c.args.worker (gate_round_number c.args.number) blocks)
    (sym c.deref.ensures.value)
    (still_comes c.args.worker (gate_round_number c.args.number) _ _ c.gather_all.ensures.shown c.requires.own))
