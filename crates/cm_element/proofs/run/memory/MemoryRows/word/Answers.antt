use Rattle.std.proofs.Common.{◌≡◌, ℕ, ◌+◌, ◌<◌, length, get_or, ap, sym, ◌∙◌, arith}
use Rattle.std.proofs.lemmas.List.{get_or_read}
use Rattle.cm_element.proofs.Spreading.{same_stride, get_or-row}
use Rattle.cm_element.proofs.run.memory.MemoryRows.word.Goals as goal

pub index-requires : goal.index-requires
index-requires c =
    let rows = c.self.inside in
    let same : rows.stride ≡ c.args.stride =
    same_stride rows.words.items rows.slots.items rows.stride c.args.stride (rw c.self.view_is c.requires.words) in
    omega (arith, same, c.start.ensures.within, c.from.ensures, c.requires.place, rows.words.ok.0)

pub returns : goal.returns
returns c =
    let rows = c.self.inside in
    let same : rows.stride ≡ c.args.stride =
    same_stride rows.words.items rows.slots.items rows.stride c.args.stride (rw c.self.view_is c.requires.words) in
    let inside : c.start.result + c.from.result < length rows.words.items =
    omega (arith, same, c.start.ensures.within, c.from.ensures, c.requires.place) in
    let number : c.from.result ≡ c.args.place = c.from.ensures in
    record {
      value = rw (← c.self.view_is)
          (get_or_read rows.words.items (c.start.result + c.from.result) c.index.result.now inside c.index.ensures 0
          ∙ ap (λ (n : ℕ). get_or rows.words.items (c.start.result + n) 0) number
          ∙ sym (get_or-row rows.words.items rows.slots.items rows.stride c.args.stride c.args.at c.args.place
          c.start.result c.requires.at (omega (arith, same, c.requires.place)) c.start.ensures.value same));
    }
