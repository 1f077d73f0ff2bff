use Rattle.std.proofs.Common.{ℕ, ◌+◌, ◌*◌, ◌-◌, List, length, get_or, sym, ap, ◌∙◌, arith}
use Rattle.cm_model.specs.Array.{Chips}
use Rattle.cm_element.specs.Runs.{chips_beside}
use Rattle.cm_array.specs.Pokes.{machine_with_chips}
use Rattle.cm_image_load.specs.WaitingChips.{with_waiting}
use Rattle.cm_image_load.proofs.Waiting.{no_chips, count_is, none_wait, nothing_waits}
use Rattle.cm_image_load.proofs.waiting_chips.WaitingChips.put.Goals as goal

pub returns-then-self-eq0-clause-value : goal.returns-then-self-eq0-clause-value
returns-then-self-eq0-clause-value g c =
    sym (nothing_waits c.args.end c.args.builder.now)
    ∙ ap (λ (chips : Chips). with_waiting c.args.end c.args.builder.now chips)
    (sym (none_wait c.self.inside.memory.items c.self.inside.flags.items c.self.inside.count
    c.args.self.now c.self.view_is c.if-self-eq0.true))

pub returns-then-self-eq0-clause-none : goal.returns-then-self-eq0-clause-none
returns-then-self-eq0-clause-none g c = none_wait c.self.inside.memory.items c.self.inside.flags.items c.self.inside.count
    c.args.self.now c.self.view_is c.if-self-eq0.true

pub overflow_sub-end : goal.overflow_sub-end
overflow_sub-end g c = omega (
  arith,
  c.requires.waiting,
  count_is c.self.inside.memory.items c.self.inside.flags.items c.self.inside.count
      c.args.self.now c.self.view_is,
)

pub chips-requires : goal.chips-requires
chips-requires g c =
    let waiting = count_is c.self.inside.memory.items c.self.inside.flags.items c.self.inside.count
    c.args.self.now c.self.view_is in record {
      chips = omega (arith, c.requires.waiting, c.requires.end, waiting);
      memory = omega (arith, c.self.invariant.memory, ap length c.deref.ensures.value);
      flags = omega (arith, c.self.invariant.flag_words, ap length c.deref-2.ensures.value);
      zero = λ k h. ap (λ (fs : List ℕ). get_or fs (k * 16 + 8) 0) c.deref-2.ensures.value ∙ c.self.invariant.zero k h;
    }

pub returns-clause-value : goal.returns-clause-value
returns-clause-value g c =
    let run = c.self.inside in
    c.chips.ensures.value
    ∙ (λ i. machine_with_chips c.args.builder.now (c.args.end - run.count)
    (chips_beside (c.deref.ensures.value i) (c.deref-2.ensures.value i) run.count))
    ∙ (λ i. machine_with_chips c.args.builder.now
    (c.args.end - sym (count_is c.self.inside.memory.items c.self.inside.flags.items c.self.inside.count
    c.args.self.now c.self.view_is) i)
    (c.self.view_is i))

pub returns-clause-none : goal.returns-clause-none
returns-clause-none g c = no_chips c.self.inside.memory.items c.self.inside.flags.items
