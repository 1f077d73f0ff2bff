-- Bytes of a line that is open, and lines answered one more.
use Rattle.std.proofs.Common.{◌≡◌, ℕ, suc, ◌≤◌, ◌<◌, List, [], ◌∷◌, ◌++◌, length, Option, Result}
use Rattle.std.proofs.Common.{ap, ◌∙◌, sym, arith, append_assoc, append-nil, length-append}
use Rattle.cm_bits.specs.Text.{lines_of, words_of, without_empty_last, IsUnended}
use Rattle.cm_model.specs.declared.act.Act.{Act}
use Rattle.cm_session.specs.declared.command.Command.{Command}
use Rattle.cm_session.specs.declared.command.Refusal.{Refusal}
use Rattle.cm_session.specs.Commands.{command_of}
use Rattle.cm_session.specs.Session.{Session, Answered, answered_with, preceded_by, opening, answered, after_line, after_lines}
use Rattle.cm_session.specs.Ends.{ended_lines, open_line}
use Rattle.cm_session.proofs.Lines.{after_lines-append, ended_lines-end, ended_lines-more, open_line-more, lines_of-open}
use Rattle.cm_debug.specs.Talk.{Setting, after_all}

-- ---- bytes that end no line

free_behind : (byte : ℕ) (part : List ℕ) → IsUnended (byte ∷ part) → IsUnended part
free_behind byte part free = λ k inside. free (suc k) (omega (arith, inside))

-- the lines that have ended are the same
pub ended_lines-part : (text part : List ℕ) → IsUnended part → ended_lines (text ++ part) ≡ ended_lines text
ended_lines-part text [] free = ap ended_lines (append-nil text)
ended_lines-part text (byte ∷ part) free =
    ap ended_lines (sym (append_assoc text (byte ∷ []) part))
    ∙ ended_lines-part (text ++ byte ∷ []) part (free_behind byte part free)
    ∙ ended_lines-more text byte (free 0 (omega arith))

-- the line that is open is longer by them
pub open_line-part : (text part : List ℕ) → IsUnended part → open_line (text ++ part) ≡ open_line text ++ part
open_line-part text [] free = ap open_line (append-nil text) ∙ sym (append-nil (open_line text))
open_line-part text (byte ∷ part) free =
    ap open_line (sym (append_assoc text (byte ∷ []) part))
    ∙ open_line-part (text ++ byte ∷ []) part (free_behind byte part free)
    ∙ ap (λ (l : List ℕ). l ++ part) (open_line-more text byte (free 0 (omega arith)))
    ∙ append_assoc (open_line text) (byte ∷ []) part

-- ---- one line more

after_one : (n cap : ℕ) (acts : List Act) (session : Session) (line : List ℕ)
    → after_lines n cap acts session (line ∷ []) ≡ after_line n cap acts session line
unfolding after_lines
after_one n cap acts session line =
    ap (answered_with (after_line n cap acts session line).session) (append-nil (after_line n cap acts session line).answer)

-- what a line is answered behind these
abbrev pub next : ℕ → ℕ → Setting → List (List ℕ) → List ℕ → Answered
next n cap first lines line = after_line n cap first.acts (after_all n cap first lines).session line

-- the answers to lines and one more
pub lines-more : (n cap : ℕ) (first : Setting) (lines : List (List ℕ)) (line : List ℕ)
    → after_all n cap first (lines ++ line ∷ [])
    ≡ preceded_by (after_all n cap first lines).answer (next n cap first lines line)
lines-more n cap first lines line =
    after_lines-append n cap first.acts (opening first.machine (length first.acts)) lines (line ∷ [])
    ∙ ap (preceded_by (after_all n cap first lines).answer)
    (after_one n cap first.acts (after_all n cap first lines).session line)

-- the answers to lines are a front of those to more
pub answers-append : (n cap : ℕ) (first : Setting) (lines more : List (List ℕ))
    → (after_all n cap first (lines ++ more)).answer ≡ (after_all n cap first lines).answer
    ++ (after_lines n cap first.acts (after_all n cap first lines).session more).answer
answers-append n cap first lines more =
    ap (λ (a : Answered). a.answer)
    (after_lines-append n cap first.acts (opening first.machine (length first.acts)) lines more)

-- and not longer
pub answers-longer : (n cap : ℕ) (first : Setting) (lines more : List (List ℕ))
    → length (after_all n cap first lines).answer ≤ length (after_all n cap first (lines ++ more)).answer
answers-longer n cap first lines more =
    omega (
      arith,
      ap length (answers-append n cap first lines more),
      length-append (after_all n cap first lines).answer
          (after_lines n cap first.acts (after_all n cap first lines).session more).answer,
    )

-- what is read of a line is answered as the line is
pub answered_line : (n cap : ℕ) (acts : List Act) (session : Session) (line : List ℕ)
    (asked : Result (Option Command) Refusal) → asked ≡ command_of n (length acts) (words_of line)
    → answered n cap acts session asked ≡ after_line n cap acts session line
unfolding after_line
answered_line n cap acts session line asked is = ap (answered n cap acts session) is

-- ---- the last line of a text

-- none is open
pub lines_of-closed : (text : List ℕ) → open_line text ≡ [] → lines_of text ≡ ended_lines text
lines_of-closed text none = lines_of-open text
    ∙ ap (λ (l : List ℕ). ended_lines text ++ without_empty_last (l ∷ [])) none ∙ append-nil (ended_lines text)

open_lines : (text line : List ℕ) → 0 < length line → line ≡ open_line text
    → lines_of text ≡ ended_lines text ++ line ∷ []
open_lines text [] some is = absurd (omega arith)
open_lines text (byte ∷ line) some is = lines_of-open text
    ∙ ap (λ (l : List ℕ). ended_lines text ++ without_empty_last (l ∷ [])) (sym is)

-- one is open, and the end of the text ends it
pub lines_at_last : (text line : List ℕ) → 0 < length line → line ≡ open_line text
    → lines_of text ≡ ended_lines (text ++ 10 ∷ [])
lines_at_last text line some is = open_lines text line some is
    ∙ ap (λ (l : List ℕ). ended_lines text ++ l ∷ []) is ∙ sym (ended_lines-end text)
