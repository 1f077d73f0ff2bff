use Rattle.std.proofs.Common.{ap, sym, ◌∙◌, ◌∷◌, Some}
use Rattle.atomic_table.specs.Table.{rest}
use Rattle.cm_board.proofs.getting.Emptying.clear.Goals as goal

pub put_empty-requires-clause-emptied : goal.put_empty-requires-clause-emptied
put_empty-requires-clause-emptied g c =
    let was = c.end.invariant.5 in
    let is = c.requires.parcel ∙ ap (λ v. v.blank) (sym c.end.view_is) in
    (_, _, c.exchange.ensures.3 ∙ (λ i. ((was i).0, (0, Some (is i)) ∷ rest ((was i).1))))
