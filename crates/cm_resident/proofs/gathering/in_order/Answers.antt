use Rattle.std.proofs.Common.{rules, ◌≡◌, ◌+◌, ◌/◌, ℕ, length, subst}
use Rattle.cm_resident.proofs.Rows.{AreRowsTaken, rows_more, all_taken}
use Rattle.cm_resident.proofs.gathering.in_order.Goals as goal

pub loop-row-preserved : goal.loop-row-preserved
loop-row-preserved g c = record {
  room = c.take_row.ensures.room;
  taken = rows_more c.args.total c.loop-row._row c.args.hands.items c.loop-row.hands.items c.loop-row.things.items
      c.requires.shares c.loop-row.invariant.taken c.take_row.new.hands.items c.take_row.new.things.items
      c.take_row.ensures.value;
}

pub returns-clause-value : goal.returns-clause-value
returns-clause-value g c =
    let rows : c.loop-row._row ≡ c.args.total / length c.args.hands.items + 1 = search rules in
    (all_taken c.args.total c.args.hands.items c.loop-row.hands.items c.loop-row.things.items c.requires.some
    c.requires.shares
    (subst (λ (q : ℕ). AreRowsTaken c.args.total q c.args.hands.items c.loop-row.hands.items c.loop-row.things.items) rows
    c.loop-row.invariant.taken)).1
