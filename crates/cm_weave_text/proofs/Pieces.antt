-- Bytes that are heard one after another are the lines of their text.
use Rattle.std.proofs.Common.{◌≡◌, ℕ, suc, ◌+◌, ◌-◌, ◌<◌, ◌==◌, Bool, true, false, cond, List, [], ◌∷◌, ◌++◌}
use Rattle.std.proofs.Common.{length, take, drop, take-add, get_or, refl, ap, ◌∙◌, sym, subst, arith}
use Rattle.std.proofs.Common.{append_assoc, append-nil}
use Rattle.std.proofs.lemmas.Grind.{common_steps}
use Rattle.cm_bits.specs.Text.{is_line_end, IsUnended}
use Rattle.cm_session.specs.Ends.{ended_lines, open_line}
use Rattle.cm_session.proofs.Lines.{ended_lines-end, ended_lines-more, open_line-end, open_line-more}
use Rattle.cm_exchange.specs.Lanes.{Exchange}
use Rattle.cm_exchange.specs.Worlds.{World}
use Rattle.cm_weave.specs.Woven.{Woven}
use Rattle.cm_weave_text.specs.Session.{world_answered_with, world_preceded_by, world_after_line, world_after_lines}
use Rattle.cm_weave_text.specs.Session.{world_answers, world_left}
use Rattle.cm_weave_text.specs.Hearing.{Hearing, processed, with_byte, with_line_ended, at_start, exchange_in, IsOfRun}
use Rattle.cm_weave_text.proofs.Lines.{world_after_lines-append}

-- a world of the same run has the same exchange
pub exchange_kept : (n cap : ℕ) (old new : Woven) → IsOfRun old new → exchange_in n cap new ≡ exchange_in n cap old
exchange_kept n cap old new same =
    (λ i. exchange_in n cap (record {
      k = same.blocks i;
      machine = same.machine i;
      acts = same.acts i;
      world = new.world;
      parts = new.parts;
    }))

pub processed-append : (exchange : Exchange) (at : Hearing) (bytes more : List ℕ)
    → processed exchange at (bytes ++ more) ≡ processed exchange (processed exchange at bytes) more
unfolding processed
processed-append exchange at [] more = refl
processed-append exchange at (byte ∷ bytes) more = processed-append exchange (with_byte exchange at byte) bytes more

-- ---- a line

-- its bytes are kept
pub processed-unended : (exchange : Exchange) (world : World) (line said part : List ℕ) → IsUnended part
    → processed exchange (record { world = world; line = line; answers = said }) part
    ≡ record { world = world; line = line ++ part; answers = said }
unfolding processed
processed-unended exchange world line said [] free =
    ap (λ (l : List ℕ). record { world = world; line = l; answers = said }) (sym (append-nil line))
processed-unended exchange world line said (byte ∷ part) free =
    ap (λ (b : Bool). processed exchange (cond b (with_line_ended exchange
    (record { world = world; line = line; answers = said }))
    (record { world = world; line = line ++ byte ∷ []; answers = said })) part) (free 0 (omega arith))
    ∙ processed-unended exchange world (line ++ byte ∷ []) said part (λ k inside. free (suc k) (omega (arith, inside)))
    ∙ ap (λ (l : List ℕ). record { world = world; line = l; answers = said }) (append_assoc line (byte ∷ []) part)

-- it ends
processed-end : (exchange : Exchange) (at : Hearing) → processed exchange at (10 ∷ []) ≡ with_line_ended exchange at
unfolding processed
processed-end exchange at = refl

-- the rest of a piece
pub heard_rest : (exchange : Exchange) (first : Hearing) (world : World) (line said piece rest part grown : List ℕ)
    (done len : ℕ) → rest ≡ take (length piece - done) (drop done piece) → part ≡ take len rest → len ≡ length rest
    → IsUnended (take len rest) → grown ≡ line ++ part
    → record { world = world; line = line; answers = said } ≡ processed exchange first (take done piece)
    → record { world = world; line = grown; answers = said } ≡ processed exchange first piece
heard_rest exchange first world line said piece rest part grown done len is front long free grows told' =
    ap (λ (l : List ℕ). record { world = world; line = l; answers = said }) grows
    ∙ sym (processed-unended exchange world line said part (subst IsUnended (sym front) free))
    ∙ ap (λ (at : Hearing). processed exchange at part) told'
    ∙ sym (processed-append exchange first (take done piece) part)
    ∙ ap (processed exchange first) (whole done len piece rest part is front long) where
      whole : (done len : ℕ) (piece rest part : List ℕ) → rest ≡ take (length piece - done) (drop done piece)
          → part ≡ take len rest → len ≡ length rest → take done piece ++ part ≡ piece
      whole done len piece rest part is front long = grind (arith, common_steps)

-- a line of it
pub heard_line : (exchange : Exchange) (first at : Hearing) (world : World)
    (line said piece rest part grown : List ℕ) (done len : ℕ)
    → rest ≡ take (length piece - done) (drop done piece) → part ≡ take len rest → len < length rest
    → get_or rest len 0 ≡ 10 → IsUnended (take len rest) → grown ≡ line ++ part
    → record { world = world; line = line; answers = said } ≡ processed exchange first (take done piece)
    → at ≡ with_line_ended exchange (record { world = world; line = grown; answers = said })
    → at ≡ processed exchange first (take (done + (len + 1)) piece)
heard_line exchange first at world line said piece rest part grown done len is front inside ends free grows told' ended =
    ended
    ∙ ap (λ (l : List ℕ). with_line_ended exchange (record { world = world; line = l; answers = said })) grows
    ∙ ap (with_line_ended exchange) (sym (processed-unended exchange world line said part (subst IsUnended (sym front) free))
    ∙ ap (λ (at : Hearing). processed exchange at part) told'
    ∙ sym (processed-append exchange first (take done piece) part))
    ∙ sym (processed-end exchange (processed exchange first (take done piece ++ part)))
    ∙ sym (processed-append exchange first (take done piece ++ part) (10 ∷ []))
    ∙ ap (processed exchange first) (whole done len piece rest part is front inside ends) where
      whole : (done len : ℕ) (piece rest part : List ℕ) → rest ≡ take (length piece - done) (drop done piece)
          → part ≡ take len rest → len < length rest → get_or rest len 0 ≡ 10
          → (take done piece ++ part) ++ 10 ∷ [] ≡ take (done + (len + 1)) piece
      whole done len piece rest part is front inside ends =
          let all : rest ≡ drop done piece = is ∙ whole_piece done piece in
          append_assoc (take done piece) part (10 ∷ [])
          ∙ ap (λ (xs : List ℕ). take done piece ++ (xs ++ 10 ∷ [])) front
          ∙ ap (λ (b : ℕ). take done piece ++ (take len rest ++ b ∷ [])) (sym ends)
          ∙ ap (λ (xs : List ℕ). take done piece ++ xs) (sym (take_one rest len inside) ∙ ap (take (len + 1)) all)
          ∙ sym (take-add done (len + 1) piece) where
            whole_piece : (k : ℕ) (xs : List ℕ) → take (length xs - k) (drop k xs) ≡ drop k xs
            whole_piece k xs = grind (arith, common_steps)

            take_one : (xs : List ℕ) (k : ℕ) → k < length xs → take (k + 1) xs ≡ take k xs ++ get_or xs k 0 ∷ []
            take_one xs k h = grind (arith, common_steps)

-- ---- a text

-- what was heard of a text: the lines that ended in it, and the one that is open
abbrev pub so_far : Exchange → World → List ℕ → Hearing
so_far exchange start text = record {
  world = world_left exchange start (ended_lines text);
  line = open_line text;
  answers = world_answers exchange start (ended_lines text);
}

after_one : (exchange : Exchange) (world : World) (line : List ℕ)
    → world_after_lines exchange world (line ∷ []) ≡ world_after_line exchange world line
unfolding world_after_lines
after_one exchange world line =
    ap (world_answered_with (world_after_line exchange world line).world) (append-nil (world_after_line exchange world line).answer)

lines-more : (exchange : Exchange) (start : World) (lines : List (List ℕ)) (line : List ℕ)
    → world_after_lines exchange start (lines ++ line ∷ [])
    ≡ world_preceded_by (world_answers exchange start lines) (world_after_line exchange (world_left exchange start lines) line)
lines-more exchange start lines line =
    world_after_lines-append exchange start lines (line ∷ [])
    ∙ ap (world_preceded_by (world_answers exchange start lines)) (after_one exchange (world_left exchange start lines) line)

so_far-end : (exchange : Exchange) (start : World) (text : List ℕ)
    → so_far exchange start (text ++ 10 ∷ []) ≡ with_line_ended exchange (so_far exchange start text)
so_far-end exchange start text =
    let all : world_after_lines exchange start (ended_lines (text ++ 10 ∷ []))
    ≡ world_preceded_by (world_answers exchange start (ended_lines text))
    (world_after_line exchange (world_left exchange start (ended_lines text)) (open_line text)) =
    ap (world_after_lines exchange start) (ended_lines-end text)
    ∙ lines-more exchange start (ended_lines text) (open_line text) in
    (λ i. record { world = (all i).world; line = open_line-end text i; answers = (all i).answer })

so_far-more : (exchange : Exchange) (start : World) (text : List ℕ) (byte : ℕ) → is_line_end byte ≡ false
    → so_far exchange start (text ++ byte ∷ [])
    ≡ record {
      world = world_left exchange start (ended_lines text);
      line = open_line text ++ byte ∷ [];
      answers = world_answers exchange start (ended_lines text);
    }
so_far-more exchange start text byte other =
    let same : ended_lines (text ++ byte ∷ []) ≡ ended_lines text = ended_lines-more text byte other in
    (λ i. record {
      world = world_left exchange start (same i);
      line = open_line-more text byte other i;
      answers = world_answers exchange start (same i);
    })

so_far-byte : (exchange : Exchange) (start : World) (text : List ℕ) (byte : ℕ)
    → so_far exchange start (text ++ byte ∷ []) ≡ with_byte exchange (so_far exchange start text) byte
so_far-byte exchange start text byte = by (is_line_end byte) refl where
  is_ten : (b : ℕ) → (b == 10) ≡ true → b ≡ 10
  is_ten b h = grind (arith, common_steps)

  by : (b : Bool) → is_line_end byte ≡ b → so_far exchange start (text ++ byte ∷ [])
      ≡ cond b (with_line_ended exchange (so_far exchange start text))
      (record {
        world = world_left exchange start (ended_lines text);
        line = open_line text ++ byte ∷ [];
        answers = world_answers exchange start (ended_lines text);
      })
  by true h = ap (λ (c : ℕ). so_far exchange start (text ++ c ∷ [])) (is_ten byte h) ∙ so_far-end exchange start text
  by false h = so_far-more exchange start text byte h

processed-so_far : (exchange : Exchange) (start : World) (text more : List ℕ)
    → processed exchange (so_far exchange start text) more ≡ so_far exchange start (text ++ more)
unfolding processed
processed-so_far exchange start text [] = ap (so_far exchange start) (sym (append-nil text))
processed-so_far exchange start text (byte ∷ more) =
    ap (λ (at : Hearing). processed exchange at more) (sym (so_far-byte exchange start text byte))
    ∙ processed-so_far exchange start (text ++ byte ∷ []) more
    ∙ ap (so_far exchange start) (append_assoc text (byte ∷ []) more)

nothing_heard : (exchange : Exchange) (start : World) → at_start start ≡ so_far exchange start []
unfolding world_after_lines ended_lines open_line
nothing_heard exchange start = refl

pub heard_so_far : (exchange : Exchange) (start : World) (text : List ℕ)
    → processed exchange (at_start start) text ≡ so_far exchange start text
heard_so_far exchange start text =
    ap (λ (at : Hearing). processed exchange at text) (nothing_heard exchange start) ∙ processed-so_far exchange start [] text

-- ---- a piece

-- behind other answers
abbrev behind : List ℕ → Hearing → Hearing
behind said at = record { world = at.world; line = at.line; answers = said ++ at.answers }

with_byte-behind : (exchange : Exchange) (said : List ℕ) (at : Hearing) (byte : ℕ)
    → with_byte exchange (behind said at) byte ≡ behind said (with_byte exchange at byte)
with_byte-behind exchange said at byte = by (is_line_end byte) where
  by : (b : Bool) → cond b (with_line_ended exchange (behind said at))
      (record { world = at.world; line = at.line ++ byte ∷ []; answers = said ++ at.answers })
      ≡ behind said (cond b (with_line_ended exchange at)
      (record { world = at.world; line = at.line ++ byte ∷ []; answers = at.answers }))
  by true = ap (λ (xs : List ℕ). record { world = (world_after_line exchange at.world at.line).world; line = []; answers = xs })
      (append_assoc said at.answers (world_after_line exchange at.world at.line).answer)
  by false = refl

processed-behind : (exchange : Exchange) (said : List ℕ) (at : Hearing) (piece : List ℕ)
    → processed exchange (behind said at) piece ≡ behind said (processed exchange at piece)
unfolding processed
processed-behind exchange said at [] = refl
processed-behind exchange said at (byte ∷ piece) =
    ap (λ (z : Hearing). processed exchange z piece) (with_byte-behind exchange said at byte)
    ∙ processed-behind exchange said (with_byte exchange at byte) piece

-- of a text and a piece behind it: the answers to the piece come behind those to the text
pub heard_piece : (exchange : Exchange) (start world : World) (text piece line said : List ℕ)
    → record { world = world; line = line; answers = said } ≡ processed exchange (at_start start) text
    → processed exchange (at_start start) (text ++ piece)
    ≡ behind said (processed exchange (record { world = world; line = line; answers = [] }) piece)
heard_piece exchange start world text piece line said is =
    processed-append exchange (at_start start) text piece
    ∙ ap (λ (at : Hearing). processed exchange at piece) (sym is
    ∙ ap (λ (xs : List ℕ). record { world = world; line = line; answers = xs }) (sym (append-nil said)))
    ∙ processed-behind exchange said (record { world = world; line = line; answers = [] }) piece

-- ---- runs

-- a world is of its own run, and of that of another
pub own_run : (woven : Woven) → IsOfRun woven woven
own_run woven = record { blocks = refl; machine = refl; acts = refl }

pub same_run : (first second third : Woven) → IsOfRun first second → IsOfRun second third → IsOfRun first third
same_run first second third one other = record {
  blocks = other.blocks ∙ one.blocks;
  machine = other.machine ∙ one.machine;
  acts = other.acts ∙ one.acts;
}
