use Rattle.std.proofs.Common.{◌≡◌, ◌==◌, Bool, true, false, not, get_or, refl, sym, ◌∙◌, arith}
use Rattle.std.proofs.lemmas.Bool.{eqb-true}
use Rattle.std.proofs.lemmas.List.{get_or_read}
use Rattle.cm_element.proofs.Spreading.{same_stride, zero_read}
use Rattle.cm_element.proofs.run.memory.MemoryRows.is_in_use.Goals as goal

is_true : (b : Bool) → not b ≡ false → b ≡ true
is_true true h = refl
is_true false h = let wrong : ◌≡◌ {A = Bool} true false = h in absurd (cc)

pub returns : goal.returns
returns c =
    let rows = c.self.inside in
    let same : rows.stride ≡ c.args.stride =
    same_stride rows.words.items rows.slots.items rows.stride c.args.stride (rw c.self.view_is c.requires.words) in
    record {
      blank = λ unused k h.
          let none : get_or rows.slots.items c.args.at 0 ≡ 0 =
          sym (get_or_read rows.slots.items c.args.at c.index.result.now
          (omega (arith, c.self.invariant.count, c.requires.at)) c.index.ensures 0)
          ∙ eqb-true c.index.result.now 0 (is_true (c.index.result.now == 0) unused) in
          rw (← c.self.view_is) (zero_read rows.words.items rows.slots.items _ rows.used rows.stride c.args.stride
          c.args.at k c.self.invariant c.requires.at none (omega (arith, same, h)) same);
    }
