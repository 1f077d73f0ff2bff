-- Lines in two parts, and a text as its lines that have ended and what follows them.
use Rattle.std.proofs.Common.{◌≡◌, ℕ, ◌+◌, ◌-◌, ◌<◌, ◌≤◌, Bool, true, false, cond, nat_le, List, [], ◌∷◌, ◌++◌, length}
use Rattle.std.proofs.Common.{take, refl, ap, ◌∙◌, sym, arith, append_assoc, append-nil}
use Rattle.std.proofs.lemmas.Bool.{le-leb}
use Rattle.std.proofs.Math.Seq.{take-append-add}
use Rattle.std.specs.List.{onto_first, slice_split}
use Rattle.std.proofs.lemmas.List.Splits.{slice_split-cons_no, length-slice_split}
use Rattle.cm_bits.specs.Text.{is_line_end, without_empty_last, lines_of}
use Rattle.cm_model.specs.declared.act.Act.{Act}
use Rattle.cm_session.specs.Session.{Session, Answered, answered_with, preceded_by, after_line, after_lines}
use Rattle.cm_session.specs.Ends.{COMMANDS_LIMIT, but_last, last_of, ended_lines, open_line, processed_lines}
use Rattle.cm_session.specs.Laws.{BeginsWith}

-- ---- lines

preceded_by-twice : (first second : List ℕ) (rest : Answered)
    → preceded_by first (preceded_by second rest) ≡ preceded_by (first ++ second) rest
preceded_by-twice first second rest = ap (answered_with rest.session) (sym (append_assoc first second rest.answer))

-- lines in two parts: the second part is answered by the session that the first part leaves
pub after_lines-append : (n cap : ℕ) (acts : List Act) (session : Session) (lines more : List (List ℕ))
    → after_lines n cap acts session (lines ++ more)
    ≡ preceded_by (after_lines n cap acts session lines).answer
    (after_lines n cap acts (after_lines n cap acts session lines).session more)
unfolding after_lines
after_lines-append n cap acts session [] more = refl
after_lines-append n cap acts session (line ∷ lines) more =
    let one : Answered = after_line n cap acts session line in
    ap (preceded_by one.answer) (after_lines-append n cap acts one.session lines more)
    ∙ preceded_by-twice one.answer (after_lines n cap acts one.session lines).answer _

-- ---- parts

-- bytes before the first part
abbrev pub onto_first_part : List ℕ → List (List ℕ) → List (List ℕ)
onto_first_part bytes [] = bytes ∷ []
onto_first_part bytes (part ∷ parts) = (bytes ++ part) ∷ parts

none_onto : (parts : List (List ℕ)) → 0 < length parts → onto_first_part [] parts ≡ parts
none_onto [] some = absurd (omega arith)
none_onto (part ∷ parts) some = refl

some_parts : (text : List ℕ) → 0 < length (slice_split is_line_end text)
some_parts text = omega (arith, length-slice_split is_line_end text)

-- all parts but the last, and the last
parted : (parts : List (List ℕ)) → 0 < length parts → parts ≡ but_last parts ++ last_of parts ∷ []
parted [] some = absurd (omega arith)
parted (part ∷ []) some = refl
parted (part ∷ next ∷ parts) some = ap (λ (ps : List (List ℕ)). part ∷ ps) (parted (next ∷ parts) (omega arith))

-- parts of which the last is followed by these
abbrev pub joined : List (List ℕ) → List (List ℕ) → List (List ℕ)
joined parts more = but_last parts ++ onto_first_part (last_of parts) more

joined-cons : (part : List ℕ) (parts more : List (List ℕ)) → 0 < length parts
    → joined (part ∷ parts) more ≡ part ∷ joined parts more
joined-cons part [] more some = absurd (omega arith)
joined-cons part (next ∷ parts) more some = refl

onto_joined : (byte : ℕ) (parts more : List (List ℕ)) → 0 < length parts
    → onto_first byte (joined parts more) ≡ joined (onto_first byte parts) more
onto_joined byte [] more some = absurd (omega arith)
onto_joined byte (part ∷ []) [] some = refl
onto_joined byte (part ∷ []) (other ∷ others) some = refl
onto_joined byte (part ∷ next ∷ parts) more some = refl

-- the parts of a text and more: the last part of the one and the first of the other are one
pub split-append : (text more : List ℕ)
    → slice_split is_line_end (text ++ more) ≡ joined (slice_split is_line_end text) (slice_split is_line_end more)
split-append [] more = sym (none_onto (slice_split is_line_end more) (some_parts more))
split-append (byte ∷ text) more = by (is_line_end byte) (split-append text more) where
  parts : List (List ℕ)
  parts = slice_split is_line_end text

  others : List (List ℕ)
  others = slice_split is_line_end more

  by : (b : Bool) → slice_split is_line_end (text ++ more) ≡ joined parts others
      → cond b ([] ∷ slice_split is_line_end (text ++ more)) (onto_first byte (slice_split is_line_end (text ++ more)))
      ≡ joined (cond b ([] ∷ parts) (onto_first byte parts)) others
  by true rest = ap (λ (ps : List (List ℕ)). [] ∷ ps) rest ∙ sym (joined-cons [] parts others (some_parts text))
  by false rest = ap (onto_first byte) rest ∙ onto_joined byte parts others (some_parts text)

but_last-append : (parts : List (List ℕ)) (part : List ℕ) (more : List (List ℕ))
    → but_last (parts ++ part ∷ more) ≡ parts ++ but_last (part ∷ more)
but_last-append [] part more = refl
but_last-append (first ∷ []) part more = refl
but_last-append (first ∷ next ∷ parts) part more =
    ap (λ (ps : List (List ℕ)). first ∷ ps) (but_last-append (next ∷ parts) part more)

last_of-append : (parts : List (List ℕ)) (part : List ℕ) (more : List (List ℕ))
    → last_of (parts ++ part ∷ more) ≡ last_of (part ∷ more)
last_of-append [] part more = refl
last_of-append (first ∷ []) part more = refl
last_of-append (first ∷ next ∷ parts) part more = last_of-append (next ∷ parts) part more

without_empty_last-append : (parts : List (List ℕ)) (part : List ℕ) (more : List (List ℕ))
    → without_empty_last (parts ++ part ∷ more) ≡ parts ++ without_empty_last (part ∷ more)
without_empty_last-append [] part more = refl
without_empty_last-append (first ∷ []) part more = refl
without_empty_last-append (first ∷ next ∷ parts) part more =
    ap (λ (ps : List (List ℕ)). first ∷ ps) (without_empty_last-append (next ∷ parts) part more)

-- ---- a text one byte longer

-- the end of a line ends the line that was open
pub ended_lines-end : (text : List ℕ) → ended_lines (text ++ 10 ∷ []) ≡ ended_lines text ++ open_line text ∷ []
unfolding ended_lines open_line
ended_lines-end text =
    let parts : List (List ℕ) = slice_split is_line_end text in
    ap but_last (split-append text (10 ∷ []))
    ∙ but_last-append (but_last parts) (last_of parts ++ []) ([] ∷ [])
    ∙ ap (λ (line : List ℕ). but_last parts ++ line ∷ []) (append-nil (last_of parts))

pub open_line-end : (text : List ℕ) → open_line (text ++ 10 ∷ []) ≡ []
unfolding open_line
open_line-end text =
    let parts : List (List ℕ) = slice_split is_line_end text in
    ap last_of (split-append text (10 ∷ [])) ∙ last_of-append (but_last parts) (last_of parts ++ []) ([] ∷ [])

one_part : (byte : ℕ) → is_line_end byte ≡ false → slice_split is_line_end (byte ∷ []) ≡ (byte ∷ []) ∷ []
one_part byte other = slice_split-cons_no is_line_end byte [] other

-- any other byte is one more of the open line
pub ended_lines-more : (text : List ℕ) (byte : ℕ) → is_line_end byte ≡ false
    → ended_lines (text ++ byte ∷ []) ≡ ended_lines text
unfolding ended_lines
ended_lines-more text byte other =
    let parts : List (List ℕ) = slice_split is_line_end text in
    ap but_last (split-append text (byte ∷ []) ∙ ap (joined parts) (one_part byte other))
    ∙ but_last-append (but_last parts) (last_of parts ++ byte ∷ []) []
    ∙ append-nil (but_last parts)

pub open_line-more : (text : List ℕ) (byte : ℕ) → is_line_end byte ≡ false
    → open_line (text ++ byte ∷ []) ≡ open_line text ++ byte ∷ []
unfolding open_line
open_line-more text byte other =
    let parts : List (List ℕ) = slice_split is_line_end text in
    ap last_of (split-append text (byte ∷ []) ∙ ap (joined parts) (one_part byte other))
    ∙ last_of-append (but_last parts) (last_of parts ++ byte ∷ []) []

-- ---- all lines of a text

-- those that have ended, and the open one unless it is empty
pub lines_of-open : (text : List ℕ) → lines_of text ≡ ended_lines text ++ without_empty_last (open_line text ∷ [])
unfolding ended_lines open_line
lines_of-open text =
    let parts : List (List ℕ) = slice_split is_line_end text in
    ap without_empty_last (parted parts (some_parts text))
    ∙ without_empty_last-append (but_last parts) (last_of parts) []

-- the lines of a text and more that have not ended in the text
unfoldable pub lines_after : List ℕ → List ℕ → List (List ℕ)
lines_after text more = without_empty_last (onto_first_part (open_line text) (slice_split is_line_end more))

onto_some : (bytes : List ℕ) (parts more : List (List ℕ))
    → without_empty_last (parts ++ onto_first_part bytes more)
    ≡ parts ++ without_empty_last (onto_first_part bytes more)
onto_some bytes parts [] = without_empty_last-append parts bytes []
onto_some bytes parts (part ∷ more) = without_empty_last-append parts (bytes ++ part) more

pub lines_of-append : (text more : List ℕ) → lines_of (text ++ more) ≡ ended_lines text ++ lines_after text more
unfolding ended_lines open_line lines_after
lines_of-append text more =
    let parts : List (List ℕ) = slice_split is_line_end text in
    ap without_empty_last (split-append text more)
    ∙ onto_some (last_of parts) (but_last parts) (slice_split is_line_end more)

-- the lines of a text and more that end in what is more
unfoldable pub ended_after : List ℕ → List ℕ → List (List ℕ)
ended_after text more = but_last (onto_first_part (open_line text) (slice_split is_line_end more))

onto_ended : (bytes : List ℕ) (parts more : List (List ℕ))
    → but_last (parts ++ onto_first_part bytes more) ≡ parts ++ but_last (onto_first_part bytes more)
onto_ended bytes parts [] = but_last-append parts bytes []
onto_ended bytes parts (part ∷ more) = but_last-append parts (bytes ++ part) more

pub ended_lines-append : (text more : List ℕ) → ended_lines (text ++ more) ≡ ended_lines text ++ ended_after text more
unfolding ended_lines open_line ended_after
ended_lines-append text more =
    let parts : List (List ℕ) = slice_split is_line_end text in
    ap but_last (split-append text more) ∙ onto_ended (last_of parts) (but_last parts) (slice_split is_line_end more)

-- ---- the lines that are answered

-- of a text within the limit, all
pub heard_whole : (text : List ℕ) → length text ≤ COMMANDS_LIMIT → processed_lines text ≡ lines_of text
heard_whole text within = ap (λ (b : Bool). cond b (lines_of text) (ended_lines (take COMMANDS_LIMIT text)))
    (le-leb (length text) COMMANDS_LIMIT within)

-- those that ended in a front within the limit come first
pub heard_first : (front more : List ℕ) → length front ≤ COMMANDS_LIMIT
    → BeginsWith (processed_lines (front ++ more)) (ended_lines front)
heard_first front more within = by (nat_le (length (front ++ more)) COMMANDS_LIMIT) where
  rest : ℕ
  rest = COMMANDS_LIMIT - length front

  long : COMMANDS_LIMIT ≡ length front + rest
  long = omega (arith, within)

  by : (b : Bool)
      → BeginsWith (cond b (lines_of (front ++ more)) (ended_lines (take COMMANDS_LIMIT (front ++ more)))) (ended_lines front)
  by true = record { more = lines_after front more; is = lines_of-append front more }
  by false = record {
    more = ended_after front (take rest more);
    is = ap (λ (k : ℕ). ended_lines (take k (front ++ more))) long
        ∙ ap ended_lines (take-append-add front more rest) ∙ ended_lines-append front (take rest more);
  }
