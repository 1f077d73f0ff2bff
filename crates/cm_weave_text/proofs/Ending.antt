-- How a session of steps ends, by what was read and answered before.
use Rattle.std.proofs.Common.{◌≡◌, ℕ, ◌+◌, ◌-◌, ◌*◌, ◌^◌, ◌<◌, ◌≤◌, min, Bool, true, false, ◌==◌, List, [], ◌∷◌, ◌++◌}
use Rattle.std.proofs.Common.{length, take, drop, cond, Option, Some, None, IfSome, refl, ap, ◌∙◌, sym, subst, arith}
use Rattle.std.proofs.Common.{append_assoc, append-nil, length-append, length-drop, take-append-drop, take-take}
use Rattle.std.proofs.lemmas.Grind.{common_steps}
use Rattle.std.proofs.lemmas.Bool.{false≢true}
use Rattle.std.proofs.lemmas.List.Sums.{AllPass-from_list_all, list_all-from_AllPass}
use Rattle.std.proofs.KnownBytes.{Appends-trans, Appends-nil, Consumes-trans, Consumes-kept, Consumes-whole, Consumes-nil}
use Rattle.std.specs.Io.KnownBytes.{Appends, Consumes, Keeps, IsAtEnd}
use Rattle.std.specs.List.{list_all, All}
use Rattle.cm_bits.specs.Text.{lines_of}
use Rattle.cm_session.specs.Reading.{ConsumesAtMost, PIECE_LIMIT}
use Rattle.cm_session.specs.Ends.{ended_lines, open_line}
use Rattle.cm_exchange.specs.declared.stand.Stand.{Stand}
use Rattle.cm_exchange.specs.Lanes.{Exchange, round_count}
use Rattle.cm_exchange.specs.Worlds.{World, IsFinished}
use Rattle.cm_weave_text.specs.declared.fault.WeaveFault.{WeaveFault}
use Rattle.cm_weave_text.specs.declared.fault.WeaveFault.TheVariants.{Read, Write, TooMuch, Memory, Unfinished}
use Rattle.cm_weave_text.specs.Session.{world_answers, world_left}
use Rattle.cm_weave_text.specs.Ends.{STEPS_LIMIT, processed_step_lines, closing, answer_text, finished_line, unfinished_line, is_finished}
use Rattle.cm_weave_text.specs.Ends.{last_line, IsWrittenInPart, EndsBy, EndsByForSome, EndsFinished, EndsFinishedForSome}
use Rattle.cm_weave_text.specs.Hearing.{Hearing, processed, at_start, TextAborts, HasHeard, IsHeard, IsHeardForSome}
use Rattle.cm_weave_text.proofs.Lines.{heard_first, heard_whole, closing_whole, told_on, lines_closed, lines_at_last}
use Rattle.cm_weave_text.proofs.Pieces.{heard_piece, heard_so_far, so_far}
use Rattle.cm_weave_text.proofs.Going.{cut_text}

-- so much of the text was heard, and its answers are written
pub record IsMidway (exchange : Exchange) (start : World) (out_before before : Option (List ℕ)) (text : List ℕ)
    (world : World) (line : List ℕ) (out_after now : Option (List ℕ)) (sent taken : ℕ) : Type 0 where
  pub said : List ℕ
  pub consumed : Consumes before now text
  pub heard_is : record { world = world; line = line; answers = said } ≡ processed exchange (at_start start) text
  pub written : Appends out_before out_after said
  pub sent_is : sent ≡ length said
  pub taken_is : taken ≡ length text
  pub within : taken ≤ STEPS_LIMIT
  pub few : sent ≤ taken * 2 ^ 64

-- nothing of it
pub at_first_byte : (exchange : Exchange) (start : World) (out_before before : Option (List ℕ)) (line : List ℕ) → line ≡ []
    → IsMidway exchange start out_before before [] start line out_before before 0 0
unfolding processed
at_first_byte exchange start out_before before line none = record {
  said = [];
  consumed = Consumes-nil before;
  heard_is = ap (λ (l : List ℕ). record { world = start; line = l; answers = [] }) none;
  written = Appends-nil out_before;
  sent_is = refl;
  taken_is = refl;
  within = omega arith;
  few = omega arith;
}

-- if the text is known it begins with what was taken
known : (before after : Option (List ℕ)) (taken : List ℕ) (P : List ℕ → Type 0) → Consumes before after taken
    → ((rest : List ℕ) → P (taken ++ rest)) → IfSome before P
known None after taken P is each = tt
known (Some text) None taken P is each = absurd is
known (Some text) (Some rest) taken P is each = subst P (sym is) (each rest)

module _ (exchange : Exchange) (start : World) (out_before before : Option (List ℕ)) (text : List ℕ) (world : World)
    (line : List ℕ) (out_after now : Option (List ℕ)) (sent taken : ℕ)
    (mid : IsMidway exchange start out_before before text world line out_after now sent taken) where
  so : record { world = world; line = line; answers = mid.said } ≡ so_far exchange start text
  so = mid.heard_is ∙ heard_so_far exchange start text

  said_is : mid.said ≡ world_answers exchange start (ended_lines text)
  said_is = ap (λ (at : Hearing). at.answers) so

  line_is : line ≡ open_line text
  line_is = ap (λ (at : Hearing). at.line) so

  world_is : world ≡ world_left exchange start (ended_lines text)
  world_is = ap (λ (at : Hearing). at.world) so

  -- by a read
  pub ends_read : (after : Option (List ℕ)) → Keeps now after
      → IfSome before (λ text. EndsBy exchange text after start out_before out_after Read)
  ends_read after kept = by before mid.consumed where
    by : (b : Option (List ℕ)) → Consumes b now text
        → IfSome b (λ text. EndsBy exchange text after start out_before out_after Read)
    by None consumed = tt
    by (Some all) consumed = record {
      taken = text;
      consumed = Consumes-kept (Some all) now after text consumed kept;
      within = let w = mid.within in omega (arith, w, mid.taken_is);
      written = subst (Appends out_before out_after) said_is mid.written;
    }

  pub some_read : (after : Option (List ℕ)) → Keeps now after
      → EndsByForSome exchange before after start out_before out_after Read
  some_read after kept = record {
    text = text;
    read = Consumes-kept before now after text mid.consumed kept;
    ends = record {
      taken = text;
      consumed = sym (append-nil text);
      within = let w = mid.within in omega (arith, w, mid.taken_is);
      written = subst (Appends out_before out_after) said_is mid.written;
    };
    end = λ is. absurd (cc);
  }

  -- ---- what was taken

  -- where a read failed
  pub within_read : (after : Option (List ℕ)) → Keeps now after → ConsumesAtMost (STEPS_LIMIT + PIECE_LIMIT) before after
  within_read after kept = record {
    bytes = text;
    few = let w = mid.within in omega (arith, w, mid.taken_is);
    consumed = Consumes-kept before now after text mid.consumed kept;
  }

  -- where it gave a piece
  pub within_piece : (after : Option (List ℕ)) (buf : List ℕ) (count : ℕ) → count ≤ PIECE_LIMIT
      → Consumes now after (take count buf) → ConsumesAtMost (STEPS_LIMIT + PIECE_LIMIT) before after
  within_piece after buf count little consumed = record {
    bytes = text ++ take count buf;
    few = let w = mid.within in
        omega (arith, w, mid.taken_is, little, length-append text (take count buf), at_most count buf);
    consumed = Consumes-trans before now after text (take count buf) mid.consumed consumed;
  } where
    at_most : (k : ℕ) (xs : List ℕ) → length (take k xs) ≤ k
    at_most k xs = grind (arith, common_steps)

  -- ---- a piece

  module _ (piece : List ℕ) where
    abbrev at : Hearing
    at = processed exchange (record { world = world; line = line; answers = [] }) piece

    both : record { world = at.world; line = at.line; answers = mid.said ++ at.answers }
        ≡ processed exchange (at_start start) (text ++ piece)
    both = sym (heard_piece exchange start world text piece line mid.said mid.heard_is)

    both_are : mid.said ++ at.answers ≡ world_answers exchange start (ended_lines (text ++ piece))
    both_are = ap (λ (z : Hearing). z.answers) (both ∙ heard_so_far exchange start (text ++ piece))

    -- that was answered
    pub midway_on : (after : Option (List ℕ)) (new : World) (kept : List ℕ) (on : Option (List ℕ)) (more room : ℕ)
        → Consumes now after piece → room ≡ length piece → 0 < room → taken + room ≤ STEPS_LIMIT → more < sent + 2 ^ 64
        → HasHeard exchange world new line kept piece sent out_after on more
        → IsMidway exchange start out_before before (text ++ piece) new kept on after more (taken + room)
    midway_on after new kept on more room consumed long some within few has = record {
      said = mid.said ++ at.answers;
      consumed = Consumes-trans before now after text piece mid.consumed consumed;
      heard_is = (λ i. record { world = has.world_is i; line = has.line_is i; answers = mid.said ++ at.answers }) ∙ both;
      written = Appends-trans out_before out_after on mid.said at.answers mid.written has.written;
      sent_is = omega (arith, has.count_is, mid.sent_is, length-append mid.said at.answers);
      taken_is = omega (arith, mid.taken_is, long, length-append text piece);
      within = within;
      few = let f = mid.few in omega (arith, f, few, some);
    }

    -- that broke off
    pub cut_in_piece : (rest : List ℕ) (on : Option (List ℕ)) (fault : WeaveFault) → length (text ++ piece) ≤ STEPS_LIMIT
        → TextAborts at.answers sent out_after on fault
        → IsWrittenInPart (answer_text exchange start ((text ++ piece) ++ rest)) out_before on fault
    cut_in_piece rest on fault within breaks =
        let begins = told_on exchange start ((text ++ piece) ++ rest) (ended_lines (text ++ piece))
        (heard_first (text ++ piece) rest within) in
        cut_text (answer_text exchange start ((text ++ piece) ++ rest)) mid.said at.answers begins.more
        out_before out_after on sent fault mid.written mid.sent_is
        (begins.is ∙ ap (λ (xs : List ℕ). xs ++ begins.more) (sym both_are)
        ∙ append_assoc mid.said at.answers begins.more) breaks

  cut_ends : (all : List ℕ) (rest on : Option (List ℕ)) (fault : WeaveFault)
      → IsWrittenInPart (answer_text exchange start all) out_before on fault
      → EndsBy exchange all rest start out_before on fault
  cut_ends all rest on (Write count) cut = cut
  cut_ends all rest on Memory cut = cut
  cut_ends all rest on Read none = absurd none
  cut_ends all rest on TooMuch none = absurd none
  cut_ends all rest on Unfinished none = absurd none

  -- ---- what a read gave

  -- a part of it, and the rest of the text
  front_and_rest : (buf rest : List ℕ) (room count : ℕ) → room ≤ count
      → (text ++ take count buf) ++ rest ≡ (text ++ take room buf) ++ (drop room (take count buf) ++ rest)
  front_and_rest buf rest room count within =
      let parts : take count buf ≡ take room buf ++ drop room (take count buf) =
      sym (take-append-drop room (take count buf))
      ∙ ap (λ (xs : List ℕ). xs ++ drop room (take count buf)) (take-take room count buf within) in
      ap (λ (xs : List ℕ). (text ++ xs) ++ rest) parts
      ∙ ap (λ (xs : List ℕ). xs ++ rest) (sym (append_assoc text (take room buf) (drop room (take count buf))))
      ∙ append_assoc (text ++ take room buf) (drop room (take count buf)) rest

  short : (k : ℕ) (xs : List ℕ) → length (take k xs) ≤ k
  short k xs = grind (arith, common_steps)

  long : (k : ℕ) (xs : List ℕ) → k ≤ length xs → length (take k xs) ≡ k
  long k xs h = grind (arith, common_steps)

  -- all of it, and nothing more
  read_no_more : (after : Option (List ℕ)) (buf : List ℕ) (count : ℕ) → Consumes now after (take count buf)
      → Consumes before after ((text ++ take count buf) ++ [])
  read_no_more after buf count read =
      subst (Consumes before after) (sym (append-nil (text ++ take count buf)))
      (Consumes-trans before now after text (take count buf) mid.consumed read)

  -- the first bytes that it gave broke off
  module _ (buf : List ℕ) (count room : ℕ) (on : Option (List ℕ)) (fault : WeaveFault)
      (is : room ≡ min count (STEPS_LIMIT - taken))
      (breaks : TextAborts (processed exchange (record { world = world; line = line; answers = [] }) (take room buf)).answers
      sent out_after on fault) where
    in_read : (beyond : Option (List ℕ)) (rest : List ℕ)
        → EndsBy exchange ((text ++ take count buf) ++ rest) beyond start out_before on fault
    in_read beyond rest =
        let w = mid.within in
        subst (λ (t : List ℕ). EndsBy exchange t beyond start out_before on fault)
        (sym (front_and_rest buf rest room count (omega (arith, is))))
        (cut_ends ((text ++ take room buf) ++ (drop room (take count buf) ++ rest)) beyond on fault
        (cut_in_piece (take room buf) (drop room (take count buf) ++ rest) on fault
        (omega (arith, is, w, mid.taken_is, length-append text (take room buf), short room buf)) breaks))

    pub ends_in_read : (after : Option (List ℕ)) → Consumes now after (take count buf)
        → IfSome before (λ text. EndsBy exchange text after start out_before on fault)
    ends_in_read after read =
        known before after (text ++ take count buf) (λ text. EndsBy exchange text after start out_before on fault)
        (Consumes-trans before now after text (take count buf) mid.consumed read) (in_read after)

    pub some_in_read : (after : Option (List ℕ)) → Consumes now after (take count buf)
        → EndsByForSome exchange before after start out_before on fault
    some_in_read after read = record {
      text = (text ++ take count buf) ++ [];
      read = read_no_more after buf count read;
      ends = in_read (Some []) [];
      end = λ is. absurd (subst (TextAborts (at (take room buf)).answers sent out_after on) is breaks);
    }

  -- it gave more than there was room for
  module _ (buf : List ℕ) (count room : ℕ) (new : World) (kept : List ℕ) (on : Option (List ℕ)) (more : ℕ)
      (inside : count ≤ length buf) (is : room ≡ min count (STEPS_LIMIT - taken)) (less : room < count)
      (has : HasHeard exchange world new line kept (take room buf) sent out_after on more) where
    over : (beyond : Option (List ℕ)) (rest : List ℕ)
        → EndsBy exchange ((text ++ take count buf) ++ rest) beyond start out_before on TooMuch
    over beyond rest =
        let w = mid.within in
        let fed : length (take room buf) ≡ room = long room buf (omega (arith, less, inside)) in
        let all : length (take count buf) ≡ count = long count buf inside in
        let full : length (text ++ take room buf) ≡ STEPS_LIMIT =
        length-append text (take room buf) ∙ omega (arith, fed, is, less, w, mid.taken_is) in
        subst (λ (t : List ℕ). EndsBy exchange t beyond start out_before on TooMuch)
        (sym (front_and_rest buf rest room count (omega (arith, less)))) (
          omega (
            arith,
            full,
            less,
            all,
            length-append (text ++ take room buf) (drop room (take count buf) ++ rest),
            length-append (drop room (take count buf)) rest,
            length-drop room (take count buf),
          ),
          subst (Appends out_before on) (both_are (take room buf)
              ∙ ap (λ (t : List ℕ). world_answers exchange start (ended_lines t))
              (sym (ap (λ (k : ℕ). take k ((text ++ take room buf) ++ (drop room (take count buf) ++ rest))) (sym full)
              ∙ take_all (text ++ take room buf) (drop room (take count buf) ++ rest))))
              (Appends-trans out_before out_after on mid.said _ mid.written has.written),
        ) where
          take_all : (xs ys : List ℕ) → take (length xs) (xs ++ ys) ≡ xs
          take_all xs ys = grind (arith, common_steps)

    pub ends_over : (after : Option (List ℕ)) → Consumes now after (take count buf)
        → IfSome before (λ text. EndsBy exchange text after start out_before on TooMuch)
    ends_over after read =
        known before after (text ++ take count buf) (λ text. EndsBy exchange text after start out_before on TooMuch)
        (Consumes-trans before now after text (take count buf) mid.consumed read) (over after)

    pub some_over : (after : Option (List ℕ)) → Consumes now after (take count buf)
        → EndsByForSome exchange before after start out_before on TooMuch
    some_over after read = record {
      text = (text ++ take count buf) ++ [];
      read = read_no_more after buf count read;
      ends = over (Some []) [];
      end = λ is. absurd (cc);
    }

  -- ---- it gave nothing

  -- and no line is open
  closed : line ≡ [] → IsHeard exchange text start out_before world out_after sent
  closed empty =
      let lines : lines_of text ≡ ended_lines text = lines_closed text line line_is empty in
      record {
        within = let w = mid.within in omega (arith, w, mid.taken_is);
        world_is = world_is ∙ ap (world_left exchange start) (sym lines);
        written = subst (Appends out_before out_after) (said_is ∙ ap (world_answers exchange start) (sym lines)) mid.written;
        sent_is = mid.sent_is ∙ ap length (said_is ∙ ap (world_answers exchange start) (sym lines));
      }

  -- and the line that is open is answered
  answered_last : (new : World) (kept : List ℕ) (on : Option (List ℕ)) (more : ℕ) → 0 < length line
      → HasHeard exchange world new line kept (10 ∷ []) sent out_after on more
      → IsHeard exchange text start out_before new on more
  answered_last new kept on more some has =
      let lines : lines_of text ≡ ended_lines (text ++ 10 ∷ []) = lines_at_last text line some line_is in
      let all : mid.said ++ (at (10 ∷ [])).answers ≡ world_answers exchange start (lines_of text) =
      both_are (10 ∷ []) ∙ ap (world_answers exchange start) (sym lines) in
      record {
        within = let w = mid.within in omega (arith, w, mid.taken_is);
        world_is = has.world_is
            ∙ ap (λ (z : Hearing). z.world) (both (10 ∷ []) ∙ heard_so_far exchange start (text ++ 10 ∷ []))
            ∙ ap (world_left exchange start) (sym lines);
        written = subst (Appends out_before on) all (Appends-trans out_before out_after on mid.said _ mid.written has.written);
        sent_is = has.count_is ∙ ap (λ (k : ℕ). k + length (at (10 ∷ [])).answers) mid.sent_is
            ∙ sym (length-append mid.said (at (10 ∷ [])).answers) ∙ ap length all;
      }

  -- and the line that is open breaks off
  cut_last : (beyond : Option (List ℕ)) (on : Option (List ℕ)) (fault : WeaveFault) → 0 < length line
      → TextAborts (processed exchange (record { world = world; line = line; answers = [] }) (10 ∷ [])).answers
      sent out_after on fault
      → EndsBy exchange text beyond start out_before on fault
  cut_last beyond on fault some breaks =
      let lines : lines_of text ≡ ended_lines (text ++ 10 ∷ []) = lines_at_last text line some line_is in
      let heard_is : processed_step_lines text ≡ lines_of text =
      heard_whole text (let w = mid.within in omega (arith, w, mid.taken_is)) in
      let last : List ℕ = closing exchange start text in
      let all : world_answers exchange start (processed_step_lines text) ≡ mid.said ++ (at (10 ∷ [])).answers =
      ap (world_answers exchange start) (heard_is ∙ lines) ∙ sym (both_are (10 ∷ [])) in
      cut_ends text beyond on fault
      (cut_text (answer_text exchange start text) mid.said (at (10 ∷ [])).answers last out_before out_after on sent
      fault mid.written mid.sent_is
      (ap (λ (xs : List ℕ). xs ++ last) all ∙ append_assoc mid.said (at (10 ∷ [])).answers last) breaks)

  module _ (after : Option (List ℕ)) (buf : List ℕ) (count : ℕ) (none : count ≡ 0)
      (read : Consumes now after (take count buf)) (end : IsAtEnd after) where
    whole : Consumes before after text
    whole = subst (Consumes before after) (append-nil text)
        (Consumes-trans before now after text [] mid.consumed
        (subst (λ (k : ℕ). Consumes now after (take k buf)) none read))

    pub heard_closed : line ≡ []
        → IfSome before (λ text. IsHeard exchange text start out_before world out_after sent)
    heard_closed empty =
        Consumes-whole before after text (λ text. IsHeard exchange text start out_before world out_after sent) whole end
        (closed empty)

    pub heard_last : (new : World) (kept : List ℕ) (on : Option (List ℕ)) (more : ℕ) → 0 < length line
        → HasHeard exchange world new line kept (10 ∷ []) sent out_after on more
        → IfSome before (λ text. IsHeard exchange text start out_before new on more)
    heard_last new kept on more some has =
        Consumes-whole before after text (λ text. IsHeard exchange text start out_before new on more) whole end
        (answered_last new kept on more some has)

    pub ends_last : (on : Option (List ℕ)) (fault : WeaveFault) → 0 < length line
        → TextAborts (processed exchange (record { world = world; line = line; answers = [] }) (10 ∷ [])).answers
        sent out_after on fault
        → IfSome before (λ text. EndsBy exchange text after start out_before on fault)
    ends_last on fault some breaks =
        Consumes-whole before after text (λ text. EndsBy exchange text after start out_before on fault) whole end
        (cut_last after on fault some breaks)

    pub some_closed : line ≡ [] → IsHeardForSome exchange before after start out_before world out_after sent
    some_closed empty = record { text = text; read = whole; end = end; is = closed empty }

    pub some_last : (new : World) (kept : List ℕ) (on : Option (List ℕ)) (more : ℕ) → 0 < length line
        → HasHeard exchange world new line kept (10 ∷ []) sent out_after on more
        → IsHeardForSome exchange before after start out_before new on more
    some_last new kept on more some has =
        record { text = text; read = whole; end = end; is = answered_last new kept on more some has }

    pub some_cut_last : (on : Option (List ℕ)) (fault : WeaveFault) → 0 < length line
        → TextAborts (processed exchange (record { world = world; line = line; answers = [] }) (10 ∷ [])).answers
        sent out_after on fault
        → EndsByForSome exchange before after start out_before on fault
    some_cut_last on fault some breaks =
        record { text = text; read = whole; ends = cut_last (Some []) on fault some breaks; end = λ _. end }

-- ---- the last line

-- every block is through exactly where the last line says so
passes : (m : ℕ) (stands : List Stand) → list_all (λ stand. stand.round == m) stands ≡ true
    → All (λ stand. stand.round ≡ m) stands
passes m stands h i d l =
    same _ m (AllPass-from_list_all (λ (stand : Stand). stand.round == m) stands h i d l) where
      same : (a b : ℕ) → (a == b) ≡ true → a ≡ b
      same a b h = grind (arith, common_steps)

through : (m : ℕ) (stands : List Stand) → All (λ stand. stand.round ≡ m) stands
    → list_all (λ stand. stand.round == m) stands ≡ true
through m stands h =
    list_all-from_AllPass (λ (stand : Stand). stand.round == m) stands (λ i d l. same _ m (h i d l)) where
      same : (a b : ℕ) → a ≡ b → (a == b) ≡ true
      same a b h = grind (arith, common_steps)

last-finished : (exchange : Exchange) (world : World) → IsFinished exchange world
    → last_line exchange world ≡ finished_line
last-finished exchange world finished =
    ap (λ (b : Bool). cond b finished_line unfinished_line) (through (round_count exchange) world.stands finished)

last-unfinished : (exchange : Exchange) (world : World) → (IsFinished exchange world → ⊥)
    → last_line exchange world ≡ unfinished_line
last-unfinished exchange world unfinished = by (is_finished exchange world) refl where
  by : (b : Bool) → is_finished exchange world ≡ b → cond b finished_line unfinished_line ≡ unfinished_line
  by true h = absurd (unfinished (passes (round_count exchange) world.stands h))
  by false h = refl

-- all lines of a text are answered
module _ (exchange : Exchange) (start world : World) (out_before out_after on : Option (List ℕ)) (sent : ℕ) (text : List ℕ)
    (all : IsHeard exchange text start out_before world out_after sent) where
  finished_at : IsFinished exchange world → Appends out_after on finished_line → EndsFinished exchange text start out_before on
  finished_at finished wrote = record {
    finished = subst (IsFinished exchange) all.world_is finished;
    told = record {
      within = all.within;
      written = Appends-trans out_before out_after on _ finished_line all.written wrote;
    };
  }

  unfinished_at : (beyond : Option (List ℕ)) → (IsFinished exchange world → ⊥) → Appends out_after on unfinished_line
      → EndsBy exchange text beyond start out_before on Unfinished
  unfinished_at beyond unfinished wrote = (
    (λ h. unfinished (subst (IsFinished exchange) (sym all.world_is) h)),
    record {
      within = all.within;
      written = Appends-trans out_before out_after on _ unfinished_line all.written wrote;
    },
  )

  -- and the last line is cut
  cut_at : (beyond : Option (List ℕ)) (last : List ℕ) (part : ℕ) → last ≡ last_line exchange world → part < length last
      → Appends out_after on (take part last)
      → EndsBy exchange text beyond start out_before on (Write (sent + part))
  cut_at beyond last part is inside wrote =
      let lines : processed_step_lines text ≡ lines_of text = heard_whole text all.within in
      let first : List ℕ = world_answers exchange start (lines_of text) in
      let whole : answer_text exchange start text ≡ first ++ (last ++ []) =
      ap (λ (xs : List (List ℕ)). world_answers exchange start xs ++ closing exchange start text) lines
      ∙ ap (λ (xs : List ℕ). first ++ xs) (closing_whole exchange start text all.within)
      ∙ ap (λ (w : World). first ++ last_line exchange w) (sym all.world_is)
      ∙ ap (λ (xs : List ℕ). first ++ xs) (sym is ∙ sym (append-nil last)) in
      cut_text (answer_text exchange start text) first last [] out_before out_after on sent (Write (sent + part))
      all.written all.sent_is whole
      (record { part = part; count_is = refl; within = inside; written = wrote })

module _ (exchange : Exchange) (start world : World) (out_before out_after before after on : Option (List ℕ)) (sent : ℕ)
    (heard_all : IfSome before (λ text. IsHeard exchange text start out_before world out_after sent)) where
  at_known : (P : List ℕ → Type 0) → ((text : List ℕ) → IsHeard exchange text start out_before world out_after sent → P text)
      → IfSome before P
  at_known P each = by before heard_all where
    by : (b : Option (List ℕ)) → IfSome b (λ text. IsHeard exchange text start out_before world out_after sent) → IfSome b P
    by None h = tt
    by (Some text) h = each text h

  pub ends_finished : IsFinished exchange world → Appends out_after on finished_line
      → IfSome before (λ text. EndsFinished exchange text start out_before on)
  ends_finished finished wrote = at_known (λ text. EndsFinished exchange text start out_before on)
      (λ text all. finished_at exchange start world out_before out_after on sent text all finished wrote)

  pub ends_unfinished : (IsFinished exchange world → ⊥) → Appends out_after on unfinished_line
      → IfSome before (λ text. EndsBy exchange text after start out_before on Unfinished)
  ends_unfinished unfinished wrote = at_known (λ text. EndsBy exchange text after start out_before on Unfinished)
      (λ text all. unfinished_at exchange start world out_before out_after on sent text all after unfinished wrote)

  ends_in_last : (last : List ℕ) (part : ℕ) → last ≡ last_line exchange world → part < length last
      → Appends out_after on (take part last)
      → IfSome before (λ text. EndsBy exchange text after start out_before on (Write (sent + part)))
  ends_in_last last part is inside wrote =
      at_known (λ text. EndsBy exchange text after start out_before on (Write (sent + part)))
      (λ text all. cut_at exchange start world out_before out_after on sent text all after last part is inside wrote)

  pub ends_before_finished : (part : ℕ) → IsFinished exchange world → part < length finished_line
      → Appends out_after on (take part finished_line)
      → IfSome before (λ text. EndsBy exchange text after start out_before on (Write (sent + part)))
  ends_before_finished part finished =
      ends_in_last finished_line part (sym (last-finished exchange world finished))

  pub ends_before_unfinished : (part : ℕ) → (IsFinished exchange world → ⊥) → part < length unfinished_line
      → Appends out_after on (take part unfinished_line)
      → IfSome before (λ text. EndsBy exchange text after start out_before on (Write (sent + part)))
  ends_before_unfinished part unfinished =
      ends_in_last unfinished_line part (sym (last-unfinished exchange world unfinished))

module _ (exchange : Exchange) (start world : World) (out_before out_after before after on : Option (List ℕ)) (sent : ℕ)
    (some : IsHeardForSome exchange before after start out_before world out_after sent) where
  pub some_finished : IsFinished exchange world → Appends out_after on finished_line
      → EndsFinishedForSome exchange before after start out_before on
  some_finished finished wrote = record {
    text = some.text;
    read = some.read;
    ends = finished_at exchange start world out_before out_after on sent some.text some.is finished wrote;
    end = some.end;
  }

  pub some_unfinished : (IsFinished exchange world → ⊥) → Appends out_after on unfinished_line
      → EndsByForSome exchange before after start out_before on Unfinished
  some_unfinished unfinished wrote = record {
    text = some.text;
    read = some.read;
    ends = unfinished_at exchange start world out_before out_after on sent some.text some.is (Some []) unfinished wrote;
    end = λ _. some.end;
  }

  pub some_before_finished : (part : ℕ) → IsFinished exchange world → part < length finished_line
      → Appends out_after on (take part finished_line)
      → EndsByForSome exchange before after start out_before on (Write (sent + part))
  some_before_finished part finished inside wrote = record {
    text = some.text;
    read = some.read;
    ends = cut_at exchange start world out_before out_after on sent some.text some.is (Some []) finished_line part
        (sym (last-finished exchange world finished)) inside wrote;
    end = λ _. some.end;
  }

  pub some_before_unfinished : (part : ℕ) → (IsFinished exchange world → ⊥) → part < length unfinished_line
      → Appends out_after on (take part unfinished_line)
      → EndsByForSome exchange before after start out_before on (Write (sent + part))
  some_before_unfinished part unfinished inside wrote = record {
    text = some.text;
    read = some.read;
    ends = cut_at exchange start world out_before out_after on sent some.text some.is (Some []) unfinished_line part
        (sym (last-unfinished exchange world unfinished)) inside wrote;
    end = λ _. some.end;
  }

-- ---- whether a line is open

pub is_none : (line : List ℕ) (count : ℕ) (is_empty : Bool) → count ≡ length line → is_empty ≡ (count == 0)
    → is_empty ≡ true → line ≡ []
is_none [] count is_empty long is so = λ i. []
is_none (byte ∷ line) count is_empty long is so =
    let other : (count == 0) ≡ false = above count (omega (arith, long)) in
    absurd (false≢true (sym (is ∙ other) ∙ so)) where
      above : (k : ℕ) → 0 < k → (k == 0) ≡ false
      above k h = grind (arith, common_steps)

pub has_some : (line : List ℕ) (count : ℕ) (is_empty : Bool) → count ≡ length line
    → is_empty ≡ (count == 0) → is_empty ≡ false → 0 < length line
has_some [] count is_empty long is so = absurd (false≢true (sym so ∙ is ∙ ap (λ (k : ℕ). k == 0) long))
has_some (byte ∷ line) count is_empty long is so = omega arith

-- all that was asked for is there
pub taken_whole : (k : ℕ) (xs : List ℕ) → k ≤ length xs → k ≡ length (take k xs)
taken_whole k xs h = grind (arith, common_steps)
