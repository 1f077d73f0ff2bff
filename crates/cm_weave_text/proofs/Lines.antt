-- Lines of steps in two parts, and the lines of a text that are answered.
use Rattle.std.proofs.Common.{◌≡◌, ℕ, ◌+◌, ◌-◌, ◌<◌, ◌≤◌, Bool, true, false, cond, nat_le, List, [], ◌∷◌, ◌++◌, length}
use Rattle.std.proofs.Common.{take, refl, ap, ◌∙◌, sym, arith, append_assoc, append-nil}
use Rattle.std.proofs.lemmas.Bool.{le-leb}
use Rattle.std.proofs.Math.Seq.{take-append-add}
use Rattle.cm_bits.specs.Text.{lines_of, without_empty_last}
use Rattle.cm_session.specs.Laws.{BeginsWith}
use Rattle.cm_session.specs.Ends.{ended_lines, open_line}
use Rattle.cm_session.proofs.Lines.{ended_lines-append, ended_lines-end, ended_after, lines_of-append, lines_of-open}
use Rattle.cm_session.proofs.Lines.{lines_after}
use Rattle.cm_exchange.specs.Lanes.{Exchange}
use Rattle.cm_exchange.specs.Worlds.{World}
use Rattle.cm_weave_text.specs.Session.{WorldAnswered, world_answered_with, world_preceded_by, world_after_line}
use Rattle.cm_weave_text.specs.Session.{world_after_lines, world_answers, world_left}
use Rattle.cm_weave_text.specs.Ends.{STEPS_LIMIT, processed_step_lines, last_line, closing, answer_text}

world_preceded_by-twice : (first second : List ℕ) (rest : WorldAnswered)
    → world_preceded_by first (world_preceded_by second rest) ≡ world_preceded_by (first ++ second) rest
world_preceded_by-twice first second rest = ap (world_answered_with rest.world) (sym (append_assoc first second rest.answer))

-- the second part is answered by the world that the first part leaves
pub world_after_lines-append : (exchange : Exchange) (world : World) (lines more : List (List ℕ))
    → world_after_lines exchange world (lines ++ more)
    ≡ world_preceded_by (world_after_lines exchange world lines).answer
    (world_after_lines exchange (world_after_lines exchange world lines).world more)
unfolding world_after_lines
world_after_lines-append exchange world [] more = refl
world_after_lines-append exchange world (line ∷ lines) more =
    let one : WorldAnswered = world_after_line exchange world line in
    ap (world_preceded_by one.answer) (world_after_lines-append exchange one.world lines more)
    ∙ world_preceded_by-twice one.answer (world_after_lines exchange one.world lines).answer _

-- ---- the lines that are answered

-- of a text within the limit, all
pub heard_whole : (text : List ℕ) → length text ≤ STEPS_LIMIT → processed_step_lines text ≡ lines_of text
heard_whole text within = ap (λ (b : Bool). cond b (lines_of text) (ended_lines (take STEPS_LIMIT text)))
    (le-leb (length text) STEPS_LIMIT within)

-- those that ended in a front within the limit come first
pub heard_first : (front more : List ℕ) → length front ≤ STEPS_LIMIT
    → BeginsWith (processed_step_lines (front ++ more)) (ended_lines front)
heard_first front more within = by (nat_le (length (front ++ more)) STEPS_LIMIT) where
  rest : ℕ
  rest = STEPS_LIMIT - length front

  long : STEPS_LIMIT ≡ length front + rest
  long = omega (arith, within)

  by : (b : Bool)
      → BeginsWith (cond b (lines_of (front ++ more)) (ended_lines (take STEPS_LIMIT (front ++ more)))) (ended_lines front)
  by true = record { more = lines_after front more; is = lines_of-append front more }
  by false = record {
    more = ended_after front (take rest more);
    is = ap (λ (k : ℕ). ended_lines (take k (front ++ more))) long
        ∙ ap ended_lines (take-append-add front more rest) ∙ ended_lines-append front (take rest more);
  }

-- behind them stands the last line
pub closing_whole : (exchange : Exchange) (start : World) (text : List ℕ) → length text ≤ STEPS_LIMIT
    → closing exchange start text ≡ last_line exchange (world_left exchange start (lines_of text))
closing_whole exchange start text within =
    ap (λ (b : Bool). cond b (last_line exchange (world_left exchange start (lines_of text))) [])
    (le-leb (length text) STEPS_LIMIT within)

-- what is told of a text begins with the answers to its first lines
pub record IsGoneOn (text first : List ℕ) : Type 0 where
  pub more : List ℕ
  pub is : text ≡ first ++ more

pub told_on : (exchange : Exchange) (start : World) (text : List ℕ) (first : List (List ℕ))
    → BeginsWith (processed_step_lines text) first
    → IsGoneOn (answer_text exchange start text) (world_answers exchange start first)
told_on exchange start text first begins =
    let last : List ℕ = closing exchange start text in
    let others : List ℕ = world_answers exchange (world_left exchange start first) begins.more in
    record {
      more = others ++ last;
      is = ap (λ (xs : List ℕ). xs ++ last)
          (ap (world_answers exchange start) begins.is
          ∙ ap (λ (a : WorldAnswered). a.answer) (world_after_lines-append exchange start first begins.more))
          ∙ append_assoc (world_answers exchange start first) others last;
    }

-- ---- the end of a text

-- no line is open
pub lines_closed : (text line : List ℕ) → line ≡ open_line text → line ≡ [] → lines_of text ≡ ended_lines text
lines_closed text line is none = lines_of-open text
    ∙ ap (λ (l : List ℕ). ended_lines text ++ without_empty_last (l ∷ [])) (sym is ∙ none)
    ∙ append-nil (ended_lines text)

-- a line is open, and the end of the text ends it
pub lines_at_last : (text line : List ℕ) → 0 < length line → line ≡ open_line text
    → lines_of text ≡ ended_lines (text ++ 10 ∷ [])
lines_at_last text [] some is = absurd (omega arith)
lines_at_last text (byte ∷ line) some is = lines_of-open text
    ∙ ap (λ (l : List ℕ). ended_lines text ++ without_empty_last (l ∷ [])) (sym is)
    ∙ ap (λ (l : List ℕ). ended_lines text ++ l ∷ []) is ∙ sym (ended_lines-end text)
