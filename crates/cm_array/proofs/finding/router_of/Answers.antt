use Rattle.std.proofs.Common.{◌≡◌, ◌<◌, ℕ, length, Bool, true, false, List, sym, ◌∙◌, ap, arith}
use Rattle.std.specs.List.{list_any}
use Rattle.cm_model.specs.declared.message.Message.{Message}
use Rattle.cm_model.specs.Array.{nth_or_nil}
use Rattle.cm_model.specs.Found.{same_tag}
use Rattle.cm_array.proofs.Searching.{find_here, find_next}
use Rattle.cm_array.proofs.finding.router_of.Goals as goal

pub returns-then-has_tag : goal.returns-then-has_tag
returns-then-has_tag c =
    let stands : List Message → Bool = λ ms. list_any (λ m. same_tag m.tag c.args.tag.now) ms in
    let buffers : List (List Message) = c.args.crossing.now.buffers in
    let inside : c.loop-c.c < length buffers = omega (arith, c.loop-c-test.true, c.chips-c-end.ensures.value) in
    let here : stands (nth_or_nil buffers c.loop-c.c) ≡ true =
    ap stands (sym c.buffer.ensures.value) ∙ sym c.has_tag.ensures.value ∙ c.if-has_tag.true in
    record {
      value = sym (c.loop-c.invariant
          ∙ find_here (λ (k : ℕ). stands (nth_or_nil buffers k)) c.loop-c.c (length buffers) inside here);
    }

pub loop-c-preserved : goal.loop-c-preserved
loop-c-preserved c =
    let stands : List Message → Bool = λ ms. list_any (λ m. same_tag m.tag c.args.tag.now) ms in
    let buffers : List (List Message) = c.args.crossing.now.buffers in
    let inside : c.loop-c.c < length buffers = omega (arith, c.loop-c-test.true, c.chips-c-end.ensures.value) in
    let here : stands (nth_or_nil buffers c.loop-c.c) ≡ false =
    ap stands (sym c.buffer.ensures.value) ∙ sym c.has_tag.ensures.value ∙ c.if-has_tag.false in
    c.loop-c.invariant ∙ find_next (λ (k : ℕ). stands (nth_or_nil buffers k)) c.loop-c.c (length buffers) inside here
