use Rattle.std.proofs.Common.{◌≡◌, refl, ◌+◌, ◌*◌, ◌≤◌, sym, ◌∙◌, arith}
use Rattle.std.proofs.lemmas.List.{get_or_read}
use Rattle.std.proofs.lemmas.Nat.{mul-le}
use Rattle.cm_element.proofs.Spreading.{one_left, spread-added, slots_added, IsRowAdded}
use Rattle.cm_element.proofs.run.memory.own.Goals as goal

pub overflow_add-used : goal.overflow_add-used
overflow_add-used c =
    let few : c.args.used ≤ 4096 =
    one_left c.args.words.now.items c.args.slots.now.items _ c.args.used c.args.stride c.args.at c.requires.slots
    c.requires.at (sym (get_or_read c.args.slots.now.items c.args.at c.index.result.now
    (omega (arith, c.requires.slots.count, c.requires.at)) c.index.ensures 0) ∙ c.if-index-ne0.false) in
    record { fits = omega arith }

pub unwrap-requires : goal.unwrap-requires
unwrap-requires c =
    let few : c.args.used ≤ 4096 =
    one_left c.args.words.now.items c.args.slots.now.items _ c.args.used c.args.stride c.args.at c.requires.slots
    c.requires.at (sym (get_or_read c.args.slots.now.items c.args.at c.index.result.now
    (omega (arith, c.requires.slots.count, c.requires.at)) c.index.ensures 0) ∙ c.if-index-ne0.false) in
    let room : (c.args.used + 1) * c.args.stride ≤ 4097 * c.args.stride =
    mul-le (c.args.used + 1) c.args.stride 4097 c.args.stride (omega arith) (omega arith) in
    c.resize.ensures.succeeds (omega (arith, room, c.requires.slots.room))

pub overflow_cast-used : goal.overflow_cast-used
overflow_cast-used c =
    let few : c.args.used ≤ 4096 =
    one_left c.args.words.now.items c.args.slots.now.items _ c.args.used c.args.stride c.args.at c.requires.slots
    c.requires.at (sym (get_or_read c.args.slots.now.items c.args.at c.index.result.now
    (omega (arith, c.requires.slots.count, c.requires.at)) c.index.ensures 0) ∙ c.if-index-ne0.false) in
    record { fits = omega arith }

pub overflow_add-result : goal.overflow_add-result
overflow_add-result c =
    let few : c.args.used ≤ 4096 =
    one_left c.args.words.now.items c.args.slots.now.items _ c.args.used c.args.stride c.args.at c.requires.slots
    c.requires.at (sym (get_or_read c.args.slots.now.items c.args.at c.index.result.now
    (omega (arith, c.requires.slots.count, c.requires.at)) c.index.ensures 0) ∙ c.if-index-ne0.false) in
    record { fits = omega arith }

-- the row of zeros that was added
added : (c : goal.After-slots-1) → IsRowAdded c.args.used c.args.stride c.args.words.now.items c.resize.new.self.items
added c =
    let ok = c.unwrap.ensures in
    let filled = c.requires.slots.filled in
    let more : (c.args.used + 1) * c.args.stride ≡ c.args.used * c.args.stride + c.args.stride = omega arith in
    record {
      long = omega (arith, rw ok at c.resize.ensures.len);
      before = λ k h. c.resize.ensures.by_index.0 k 0 (omega (arith, more)) (omega (arith, filled));
      zeros = λ k from h. c.resize.ensures.by_index.1 k 0 (rw ok refl) (omega (arith, filled)) h;
    }

pub returns-clause-slots : goal.returns-clause-slots
returns-clause-slots c =
    slots_added c.args.words.now.items c.args.slots.now.items _ c.args.used c.args.stride c.args.at
    c.resize.new.self.items _ c.requires.slots c.requires.at (sym (get_or_read c.args.slots.now.items c.args.at
    c.index.result.now (omega (arith, c.requires.slots.count, c.requires.at)) c.index.ensures 0)
    ∙ c.if-index-ne0.false) (added c) c.resize.ensures.capacity

pub returns-clause-value : goal.returns-clause-value
returns-clause-value c =
    spread-added c.args.words.now.items c.args.slots.now.items _ c.args.used c.args.stride c.args.at
    c.resize.new.self.items c.requires.slots c.requires.at (sym (get_or_read c.args.slots.now.items c.args.at
    c.index.result.now (omega (arith, c.requires.slots.count, c.requires.at)) c.index.ensures 0)
    ∙ c.if-index-ne0.false) (added c)
