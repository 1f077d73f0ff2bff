use Rattle.std.proofs.Common.{rules, ◌∙◌}
use Rattle.cm_board.proofs.Steps.{draws, draw_won, in_hand}
use Rattle.cm_board.proofs.getting.ToEnd.draw.Goals as goal

pub compare_exchange-found-requires : goal.compare_exchange-found-requires
compare_exchange-found-requires g c =
    (search rules, search rules, draws _ _ _ _ _ _ (c.loop-try.invariant.1 ∙ c.self.invariant.5))

pub exchange-requires : goal.exchange-requires
exchange-requires g c =
    let won =
    draw_won _ _ _ _ _ _ (c.loop-try.invariant.1 ∙ c.self.invariant.5) c.compare_exchange-found.ensures.2
    c.if-found-uses.true in
    (search rules, in_hand _ _ _ won)
