use Rattle.std.proofs.Common.{◌≡◌, ℕ, List, length, sym, ap, subst, arith}
use Rattle.std.proofs.lemmas.List.{with_items_is}
use Rattle.cm_model.specs.Processor.{Processor}
use Rattle.cm_element.specs.Laid.{AreLaid}
use Rattle.cm_element.specs.Runs.{chips_of, AreRows}
use Rattle.cm_element.proofs.Columns.{length-chips_of}
use Rattle.cm_element.proofs.Laying.{AreRunsLaid, chips_laid, rows_laid}
use Rattle.cm_element.proofs.run.Run.lay.Goals as goal

pub lay-requires-clause-here : goal.lay-requires-clause-here
lay-requires-clause-here c =
    let run = c.self.inside in
    let here = rw (← c.self.view_is, length-chips_of run.memory run.flags.items run.stride run.chips)
    at c.requires.here in
    omega (arith, here, c.from-count.ensures, c.from.ensures, c.self.invariant.within)

pub lay-requires-clause-there : goal.lay-requires-clause-there
lay-requires-clause-there c =
    let run = c.from-2.inside in
    let there = rw (← c.from-2.view_is, length-chips_of run.memory run.flags.items run.stride run.chips)
    at c.requires.there in
    omega (arith, there, c.from-count.ensures, c.from-3.ensures, c.from-2.invariant.within)

pub lay_rows-requires-clause-here : goal.lay_rows-requires-clause-here
lay_rows-requires-clause-here c =
    let run = c.self.inside in
    let here = rw (← c.self.view_is, length-chips_of run.memory run.flags.items run.stride run.chips)
    at c.requires.here in
    omega (arith, here, c.from-count.ensures, c.from.ensures, c.self.invariant.within)

pub lay_rows-requires-clause-there : goal.lay_rows-requires-clause-there
lay_rows-requires-clause-there c =
    let run = c.from-2.inside in
    let there = rw (← c.from-2.view_is, length-chips_of run.memory run.flags.items run.stride run.chips)
    at c.requires.there in
    omega (arith, there, c.from-count.ensures, c.from-3.ensures, c.from-2.invariant.within)

-- what was laid, over the rows of both runs
are_laid : (c : goal.After-self-1) → AreRunsLaid (record { stride = c.self.inside.stride; first = c.from.result })
    (record { stride = c.from-2.inside.stride; first = c.from-3.result }) c.from-count.result
    c.self.inside.memory c.self.inside.flags.items c.from-2.inside.memory c.from-2.inside.flags.items
    c.lay.new.self c.lay_rows.new.to c.self.inside.chips c.from-2.inside.chips
are_laid c =
    let run = c.self.inside in
    let other = c.from-2.inside in
    let here = rw (← c.self.view_is, length-chips_of run.memory run.flags.items run.stride run.chips)
    at c.requires.here in
    let there = rw (← c.from-2.view_is, length-chips_of other.memory other.flags.items other.stride other.chips)
    at c.requires.there in
    record {
      rows = c.self.invariant;
      rows_from = c.from-2.invariant;
      inside = omega (arith, here, c.from-count.ensures, c.from.ensures);
      inside_from = omega (arith, there, c.from-count.ensures, c.from-3.ensures);
      laid = c.lay.ensures.value;
      flags_laid = rw (c.deref.ensures.value, c.deref_mut.ensures.value) at c.lay_rows.ensures.value;
    }

pub invariant_of-self : goal.invariant_of-self
invariant_of-self c =
    let run = c.self.inside in
    let other = c.from-2.inside in
    let memory : List ℕ = c.lay.new.self in
    let flags : List ℕ = c.lay_rows.new.to in
    let lent_flags = c.deref_mut.ensures in
    let long : length memory ≡ length run.memory = c.lay.ensures.words in
    let flags_long : length flags ≡ length run.flags.items =
    omega (arith, c.lay_rows.auto.to, ap length lent_flags.value) in
    let flags_is = with_items_is run.flags flags
    (omega (arith, flags_long, ap length lent_flags.value, lent_flags.len)) in
    let rows : AreRows memory flags run.stride run.chips =
    rows_laid (record { stride = run.stride; first = c.from.result })
    (record { stride = other.stride; first = c.from-3.result }) c.from-count.result
    run.memory run.flags.items other.memory other.flags.items memory flags run.chips other.chips
    (are_laid c) long flags_long in
    subst (λ (fs : List ℕ). AreRows memory fs run.stride run.chips) (sym flags_is) rows

pub returns : goal.returns
returns c =
    let run = c.self.inside in
    let other = c.from-2.inside in
    let memory : List ℕ = c.lay.new.self in
    let flags : List ℕ = c.lay_rows.new.to in
    let lent_flags = c.deref_mut.ensures in
    let flags_is = with_items_is run.flags flags
    (omega (arith, c.lay_rows.auto.to, ap length lent_flags.value, lent_flags.len)) in
    let laid : AreLaid c.from.result c.from-3.result c.from-count.result
    (chips_of other.memory other.flags.items other.stride other.chips)
    (chips_of run.memory run.flags.items run.stride run.chips) (chips_of memory flags run.stride run.chips) =
    chips_laid (record { stride = run.stride; first = c.from.result })
    (record { stride = other.stride; first = c.from-3.result }) c.from-count.result
    run.memory run.flags.items other.memory other.flags.items memory flags run.chips
    other.chips (are_laid c) in
    record {
      value = rw (← c.self.view_is, ← c.from-2.view_is, ← c.from.ensures, ← c.from-3.ensures, ← c.from-count.ensures)
          (subst (λ (chips : List (List Processor)). AreLaid c.from.result c.from-3.result c.from-count.result
          (chips_of other.memory other.flags.items other.stride other.chips)
          (chips_of run.memory run.flags.items run.stride run.chips) chips)
          (sym (λ j. chips_of memory (flags_is j) run.stride run.chips)) laid);
    }
