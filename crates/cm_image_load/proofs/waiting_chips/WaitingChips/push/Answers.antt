use Rattle.std.proofs.Common.{◌≡◌, ℕ, ◌+◌, ◌*◌, ◌<◌, ◌++◌, [], ◌∷◌, List, Ok, drop, length, get_or, refl, sym, ap, ◌∙◌}
use Rattle.std.proofs.Common.{arith, rules, subst}
use Rattle.std.specs.Prelude.{vec_capacity}
use Rattle.std.specs.Vec.{with_items}
use Rattle.std.proofs.lemmas.List.{with_items_is}
use Rattle.cm_model.specs.Each.{tabulate}
use Rattle.cm_model.specs.Array.{Chips}
use Rattle.cm_element.specs.Planes.{chip_of}
use Rattle.cm_element.specs.Runs.{chips_beside}
use Rattle.cm_image_format.specs.Image.{memory_part}
use Rattle.cm_image_format.specs.Whole.{planes_of}
use Rattle.cm_image_load.specs.WaitingChips.{AreWaitingPlanes}
use Rattle.cm_image_load.proofs.Loading.{made_of}
use Rattle.cm_image_load.proofs.Waiting.{length-chips_beside, chips_kept, chips_pushed, tile_pushed}
use Rattle.cm_image_load.proofs.waiting_chips.WaitingChips.push.Goals as goal

pub lengthen-requires : goal.lengthen-requires
lengthen-requires c =
    let run = c.self.inside in
    let few = rw (← c.self.view_is, length-chips_beside run.memory.items run.flags.items run.count) at c.requires.room in
    record { room = omega (arith, few, c.from-place.ensures, c.self.invariant.room) }

pub returns-then-not-take_full_memory-clause-other : goal.returns-then-not-take_full_memory-clause-other
returns-then-not-take_full_memory-clause-other c = λ none.
    let run = c.self.inside in
    let memory : List ℕ = c.take_full_memory.new.memory in
    let lent = c.deref_mut.ensures in
    let memory_is = with_items_is c.lengthen.new.words memory
    (omega (arith, c.take_full_memory.auto.memory, ap length lent.value, lent.len)) in
    ap (λ (ms : List ℕ). chips_beside ms run.flags.items run.count) memory_is
    ∙ chips_kept run.memory.items memory run.flags.items run.flags.items run.count
    (λ i h. c.take_full_memory.ensures.below i (omega (arith, h, c.from-place.ensures))
    ∙ ap (λ (ms : List ℕ). get_or ms i 0) lent.value
    ∙ c.lengthen.ensures.below i (omega (arith, h, c.self.invariant.memory))) (λ i h. refl)
    ∙ c.self.view_is

pub lengthen-requires-2 : goal.lengthen-requires-2
lengthen-requires-2 c =
    let run = c.self.inside in
    let few = rw (← c.self.view_is, length-chips_beside run.memory.items run.flags.items run.count) at c.requires.room in
    record {
      room = omega (
        arith,
        few,
        c.from.ensures,
        ap (λ (k : ℕ). c.from.result * k) c.from-2.ensures,
        c.from-3.ensures,
        c.self.invariant.flag_room,
      );
    }

pub put_planes-requires : goal.put_planes-requires
put_planes-requires c = record {
  room = omega (
    arith,
    c.from.ensures,
    ap (λ (k : ℕ). c.from.result * k) c.from-2.ensures,
    c.from-3.ensures,
    c.lengthen-2.ensures.long,
    ap length c.deref_mut-2.ensures.value,
  );
}

-- ---- the planes that were put

memory_is : (c : goal.After-self-3-1)
    → (with_items c.lengthen.new.words c.take_full_memory.new.memory).items ≡ c.take_full_memory.new.memory
memory_is c =
    let lent = c.deref_mut.ensures in
    with_items_is c.lengthen.new.words c.take_full_memory.new.memory
    (omega (arith, c.take_full_memory.auto.memory, ap length lent.value, lent.len))

flags_are : (c : goal.After-self-3-1)
    → (with_items c.lengthen-2.new.words c.put_planes.new.planes).items ≡ c.put_planes.new.planes
flags_are c =
    let lent = c.deref_mut-2.ensures in
    with_items_is c.lengthen-2.new.words c.put_planes.new.planes
    (omega (arith, c.put_planes.auto.planes, ap length lent.value, lent.len))

memory_below : (c : goal.After-self-3-1) (i : ℕ) → i < c.self.inside.count * 4128
    → get_or c.take_full_memory.new.memory i 0 ≡ get_or c.self.inside.memory.items i 0
memory_below c i h =
    c.take_full_memory.ensures.below i (omega (arith, h, c.from-place.ensures))
    ∙ ap (λ (ms : List ℕ). get_or ms i 0) c.deref_mut.ensures.value
    ∙ c.lengthen.ensures.below i (omega (arith, h, c.self.invariant.memory))

flags_below : (c : goal.After-self-3-1) (i : ℕ) → i < c.self.inside.count * 16
    → get_or c.put_planes.new.planes i 0 ≡ get_or c.self.inside.flags.items i 0
flags_below c i h =
    c.put_planes.ensures.below i (omega (arith, h, c.from.ensures, ap (λ (k : ℕ). c.from.result * k) c.from-2.ensures))
    ∙ ap (λ (fs : List ℕ). get_or fs i 0) c.deref_mut-2.ensures.value
    ∙ c.lengthen-2.ensures.below i (omega (arith, h, c.self.invariant.flag_words))

flags_here : (c : goal.After-self-3-1) (f : ℕ) → f < 16
    → get_or c.put_planes.new.planes (c.self.inside.count * 16 + f) 0 ≡ get_or c.args.flags.now f 0
flags_here c f h =
    ap (λ (k : ℕ). get_or c.put_planes.new.planes (k * 16 + f) 0) (sym c.from.ensures)
    ∙ ap (λ (k : ℕ). get_or c.put_planes.new.planes (c.from.result * k + f) 0) (sym c.from-2.ensures)
    ∙ c.put_planes.ensures.value f h

pub invariant_of-self-2 : goal.invariant_of-self-2
invariant_of-self-2 c =
    let run = c.self.inside in
    let memory : List ℕ = c.take_full_memory.new.memory in
    let flags : List ℕ = c.put_planes.new.planes in
    let few = rw (← c.self.view_is, length-chips_beside run.memory.items run.flags.items run.count) at c.requires.room in
    let room : ℕ = vec_capacity c.lengthen.new.words in
    let flag_room : ℕ = vec_capacity c.lengthen-2.new.words in
    let waiting : AreWaitingPlanes memory room flags flag_room (run.count + 1) =
    tile_pushed run.memory.items memory run.flags.items flags (vec_capacity run.memory) room (vec_capacity run.flags)
    flag_room run.count c.self.invariant few
    (omega (
      arith,
      c.lengthen.ensures.long,
      c.from-place.ensures,
      c.take_full_memory.auto.memory,
      ap length c.deref_mut.ensures.value,
    ))
    c.lengthen.ensures.capacity
    (omega (
      arith,
      c.lengthen-2.ensures.long,
      c.from.ensures,
      ap (λ (k : ℕ). c.from.result * k) c.from-2.ensures,
      c.from-3.ensures,
      c.put_planes.auto.planes,
      ap length c.deref_mut-2.ensures.value,
    ))
    c.lengthen-2.ensures.capacity (flags_below c)
    (flags_here c 8 (omega arith) ∙ c.requires.zero) in
    subst (λ (ms : List ℕ). AreWaitingPlanes ms room (with_items c.lengthen-2.new.words flags).items flag_room (run.count + 1))
    (sym (memory_is c))
    (subst (λ (fs : List ℕ). AreWaitingPlanes memory room fs flag_room (run.count + 1)) (sym (flags_are c)) waiting)

pub returns-clause-full : goal.returns-clause-full
returns-clause-full c = λ all.
    let run = c.self.inside in
    let memory : List ℕ = c.take_full_memory.new.memory in
    let flags : List ℕ = c.put_planes.new.planes in
    let one : List ℕ = c.args.flags.now in
    let rest : List ℕ = drop 16386 c.args.bytes.now in
    let told = made_of planes_of memory_part c.args.bytes.now rest _
    (c.take_full_memory.ensures.full c.if-not-take_full_memory.false) in
    let front : Chips = chips_beside run.memory.items run.flags.items run.count in
    let chips : c.args.self.now ++ chip_of (planes_of told.0) one ∷ []
    ≡ chips_beside (with_items c.lengthen.new.words memory).items (with_items c.lengthen-2.new.words flags).items (run.count + 1) =
    (λ i. sym c.self.view_is i ++ chip_of (told.2 i) one ∷ [])
    ∙ (λ i. front ++ chip_of (tabulate 0 4096 (λ a. get_or memory (c.from-place.ensures i * 4128 + a) 0)) one ∷ [])
    ∙ sym (chips_pushed run.memory.items memory run.flags.items flags one run.count (memory_below c) (flags_below c)
    (flags_here c) (search rules))
    ∙ sym (λ i. chips_beside (memory_is c i) (flags_are c i) (run.count + 1)) in
    rw told.1 (ap (λ (xs : Chips). Ok (xs, rest)) chips)
