use Rattle.std.proofs.Common.{◌≡◌, ℕ, ◌+◌, ◌*◌, List, length, get_or, sym, ap, subst, arith}
use Rattle.std.proofs.lemmas.List.{with_items_is}
use Rattle.cm_model.specs.Processor.{Processor}
use Rattle.cm_element.specs.Laid.{AreLaid}
use Rattle.cm_element.specs.Runs.{chips_of, chips_beside, AreRows}
use Rattle.cm_element.proofs.Columns.{length-chips_of}
use Rattle.cm_element.proofs.Laying.{AreWordsPut, chips_turned, rows_put}
use Rattle.cm_element.proofs.run.Run.lay_planes.Goals as goal

pub turn-requires-clause-here : goal.turn-requires-clause-here
turn-requires-clause-here c =
    let run = c.self.inside in
    let here = rw (← c.self.view_is, length-chips_of run.memory run.flags.items run.stride run.chips)
    at c.requires.here in
    omega (arith, here, c.from-some.ensures, c.from.ensures, c.self.invariant.within)

pub turn_flags-requires-clause-here : goal.turn_flags-requires-clause-here
turn_flags-requires-clause-here c =
    let run = c.self.inside in
    let here = rw (← c.self.view_is, length-chips_of run.memory run.flags.items run.stride run.chips)
    at c.requires.here in
    omega (arith, here, c.from-some.ensures, c.from.ensures, c.self.invariant.within)

-- what was put, over the rows
are_put : (c : goal.After-self-1) → AreWordsPut (record { stride = c.self.inside.stride; first = c.from.result })
    c.from-some.result c.self.inside.memory c.self.inside.flags.items c.turn.new.self c.turn_flags.new.rows
    c.self.inside.chips (λ i k. get_or c.args.memory.now (k * 4128 + i) 0)
    (λ i k. get_or c.args.flags.now (k * 16 + i) 0)
are_put c =
    let run = c.self.inside in
    let here = rw (← c.self.view_is, length-chips_of run.memory run.flags.items run.stride run.chips)
    at c.requires.here in
    record {
      rows = c.self.invariant;
      inside = omega (arith, here, c.from-some.ensures, c.from.ensures);
      zero = λ k h. c.requires.zero k (omega (arith, h, c.from-some.ensures));
      laid = c.turn.ensures.value;
      flags_laid = rw c.deref_mut.ensures.value at c.turn_flags.ensures.value;
    }

pub invariant_of-self : goal.invariant_of-self
invariant_of-self c =
    let run = c.self.inside in
    let memory : List ℕ = c.turn.new.self in
    let flags : List ℕ = c.turn_flags.new.rows in
    let lent_flags = c.deref_mut.ensures in
    let long : length memory ≡ length run.memory = c.turn.ensures.words in
    let flags_long : length flags ≡ length run.flags.items =
    omega (arith, c.turn_flags.auto.rows, ap length lent_flags.value) in
    let flags_is = with_items_is run.flags flags
    (omega (arith, flags_long, ap length lent_flags.value, lent_flags.len)) in
    let rows : AreRows memory flags run.stride run.chips =
    rows_put (record { stride = run.stride; first = c.from.result }) c.from-some.result
    run.memory run.flags.items memory flags run.chips (λ i k. get_or c.args.memory.now (k * 4128 + i) 0)
    (λ i k. get_or c.args.flags.now (k * 16 + i) 0) (are_put c) long flags_long in
    subst (λ (fs : List ℕ). AreRows memory fs run.stride run.chips) (sym flags_is) rows

pub returns : goal.returns
returns c =
    let run = c.self.inside in
    let memory : List ℕ = c.turn.new.self in
    let flags : List ℕ = c.turn_flags.new.rows in
    let lent_flags = c.deref_mut.ensures in
    let flags_is = with_items_is run.flags flags
    (omega (arith, c.turn_flags.auto.rows, ap length lent_flags.value, lent_flags.len)) in
    let laid : AreLaid c.from.result 0 c.from-some.result
    (chips_beside c.args.memory.now c.args.flags.now c.from-some.result)
    (chips_of run.memory run.flags.items run.stride run.chips) (chips_of memory flags run.stride run.chips) =
    chips_turned (record { stride = run.stride; first = c.from.result }) c.from-some.result
    run.memory run.flags.items c.args.memory.now c.args.flags.now memory flags run.chips (are_put c) in
    record {
      value = rw (← c.self.view_is, ← c.from.ensures, ← c.from-some.ensures)
          (subst (λ (chips : List (List Processor)). AreLaid c.from.result 0 c.from-some.result
          (chips_beside c.args.memory.now c.args.flags.now c.from-some.result)
          (chips_of run.memory run.flags.items run.stride run.chips) chips)
          (sym (λ j. chips_of memory (flags_is j) run.stride run.chips)) laid);
    }
