use Rattle.std.proofs.Common.{◌≡◌, ◌++◌, flat_map}
use Rattle.std.specs.List.{range_with_len}
use Rattle.lab_study.specs.Tables.{delivered_text_at}
use Rattle.lab_study.proofs.tables.push_delivered.Given as goal

-- the lines of so many chips
abbrev pub invariant-loop-chip : goal.invariant-loop-chip
invariant-loop-chip l = l.text.items ≡ l.initial.text.items
    ++ flat_map (delivered_text_at l.clock l.before l.ways l.machine.machine) (range_with_len 0 l.chip)
