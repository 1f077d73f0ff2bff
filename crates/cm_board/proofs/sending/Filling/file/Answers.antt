use Rattle.std.proofs.Common.{ap, sym, ◌∙◌, ◌∷◌, Some}
use Rattle.atomic_table.specs.Table.{rest}
use Rattle.cm_board.specs.Courses.{due_now}
use Rattle.cm_board.proofs.sending.Filling.file.Goals as goal

pub put_full-requires-clause-filled : goal.put_full-requires-clause-filled
put_full-requires-clause-filled g c =
    let was = c.end.invariant.5 in
    let is = c.requires.parcel ∙ ap due_now (sym c.end.view_is) in
    (_, _, c.exchange.ensures.3 ∙ (λ i. ((was i).0, (0, Some (is i)) ∷ rest ((was i).1))))
