-- The lines of bytes that were heard: those that have ended, and what is open.
use Rattle.std.proofs.Common.{◌≡◌, ℕ, ◌+◌, ◌<◌, ◌≤◌, false, List, [], ◌∷◌, ◌++◌, length, refl, ap, ◌∙◌, sym, arith}
use Rattle.std.proofs.Common.{append_assoc, append-nil, length-append}
use Rattle.std.specs.List.{slice_split, All}
use Rattle.std.proofs.lemmas.List.Splits.{slice_split_at, slice_split_none, length-slice_split}
use Rattle.std.proofs.lemmas.List.Elements.{All-from_get_or}
use Rattle.std.proofs.lemmas.List.Sums.{sum_by_push}
use Rattle.cm_bits.specs.Text.{is_line_end, lines_of, without_empty_last, IsUnended}
use Rattle.cm_session.specs.Ends.{ended_lines, open_line, but_last, last_of}
use Rattle.lab_front.specs.Ends.{LINE_LIMIT, ended_size}

-- bytes that end with the end of a line, or are none, are these lines, whatever follows
pub record AreLinesOf (given : List ℕ) (done : List (List ℕ)) : Type 0 where
  pub all : (rest : List ℕ) → lines_of (given ++ rest) ≡ done ++ lines_of rest
  pub ended : (rest : List ℕ) → ended_lines (given ++ rest) ≡ done ++ ended_lines rest
  pub still_open : (rest : List ℕ) → open_line (given ++ rest) ≡ open_line rest
  pub size : length given ≡ ended_size done

pub no_lines : AreLinesOf [] []
no_lines = record { all = λ rest. refl; ended = λ rest. refl; still_open = λ rest. refl; size = refl }

free_of : (bytes : List ℕ) → IsUnended bytes → All (λ (byte : ℕ). is_line_end byte ≡ false) bytes
free_of bytes free = All-from_get_or (λ (byte : ℕ). is_line_end byte ≡ false) bytes 0 free

some_parts : (text : List ℕ) → 0 < length (slice_split is_line_end text)
some_parts text = omega (arith, length-slice_split is_line_end text)

not_last : (line : List ℕ) (parts : List (List ℕ)) → 0 < length parts
    → without_empty_last (line ∷ parts) ≡ line ∷ without_empty_last parts
not_last line [] some = absurd (omega arith)
not_last line (part ∷ parts) some = refl

not_last_ended : (line : List ℕ) (parts : List (List ℕ)) → 0 < length parts
    → but_last (line ∷ parts) ≡ line ∷ but_last parts
not_last_ended line [] some = absurd (omega arith)
not_last_ended line (part ∷ parts) some = refl

not_last_open : (line : List ℕ) (parts : List (List ℕ)) → 0 < length parts → last_of (line ∷ parts) ≡ last_of parts
not_last_open line [] some = absurd (omega arith)
not_last_open line (part ∷ parts) some = refl

first_line : (line rest : List ℕ) → IsUnended line → lines_of (line ++ 10 ∷ rest) ≡ line ∷ lines_of rest
first_line line rest free =
    ap without_empty_last (slice_split_at is_line_end line 10 rest (free_of line free) refl)
    ∙ not_last line (slice_split is_line_end rest) (some_parts rest)

first_ended : (line rest : List ℕ) → IsUnended line → ended_lines (line ++ 10 ∷ rest) ≡ line ∷ ended_lines rest
unfolding ended_lines
first_ended line rest free =
    ap but_last (slice_split_at is_line_end line 10 rest (free_of line free) refl)
    ∙ not_last_ended line (slice_split is_line_end rest) (some_parts rest)

first_open : (line rest : List ℕ) → IsUnended line → open_line (line ++ 10 ∷ rest) ≡ open_line rest
unfolding open_line
first_open line rest free =
    ap last_of (slice_split_at is_line_end line 10 rest (free_of line free) refl)
    ∙ not_last_open line (slice_split is_line_end rest) (some_parts rest)

pub ended_size-more : (done : List (List ℕ)) (line : List ℕ)
    → ended_size (done ++ line ∷ []) ≡ ended_size done + (length line + 1)
ended_size-more done line = sum_by_push (λ (l : List ℕ). length l + 1) done line

behind : (given line rest : List ℕ)
    → (given ++ (line ++ 10 ∷ [])) ++ rest ≡ given ++ (line ++ 10 ∷ rest)
behind given line rest = append_assoc given (line ++ 10 ∷ []) rest
    ∙ ap (λ (xs : List ℕ). given ++ xs) (append_assoc line (10 ∷ []) rest)

-- one line more
pub line_more : (given line : List ℕ) (done : List (List ℕ)) → IsUnended line → AreLinesOf given done
    → AreLinesOf (given ++ (line ++ 10 ∷ [])) (done ++ line ∷ [])
line_more given line done free is = record {
  all = λ rest.
      ap lines_of (behind given line rest) ∙ is.all (line ++ 10 ∷ rest)
      ∙ ap (λ (ls : List (List ℕ)). done ++ ls) (first_line line rest free)
      ∙ sym (append_assoc done (line ∷ []) (lines_of rest));
  ended = λ rest.
      ap ended_lines (behind given line rest) ∙ is.ended (line ++ 10 ∷ rest)
      ∙ ap (λ (ls : List (List ℕ)). done ++ ls) (first_ended line rest free)
      ∙ sym (append_assoc done (line ∷ []) (ended_lines rest));
  still_open = λ rest.
      ap open_line (behind given line rest) ∙ is.still_open (line ++ 10 ∷ rest) ∙ first_open line rest free;
  size = omega (
    arith,
    is.size,
    length-append given (line ++ 10 ∷ []),
    length-append line (10 ∷ []),
    ended_size-more done line,
  );
}

-- what goes on behind lines by one byte more than a line may have at most
pub few_more : (given rest : List ℕ) (done : List (List ℕ)) → AreLinesOf given done → length rest ≤ LINE_LIMIT + 1
    → length (given ++ rest) ≤ ended_size done + (LINE_LIMIT + 1)
few_more given rest done is within = omega (arith, within, is.size, length-append given rest)

-- ---- the end

some_line : (last : List ℕ) → 0 < length last → without_empty_last (last ∷ []) ≡ last ∷ []
some_line [] some = absurd (omega arith)
some_line (byte ∷ bytes) some = refl

-- where bytes are open they are the last line
pub last_line : (given last : List ℕ) (done : List (List ℕ)) → IsUnended last → 0 < length last
    → AreLinesOf given done → lines_of (given ++ last) ≡ done ++ last ∷ []
last_line given last done free some is =
    is.all last ∙ ap (λ (ls : List (List ℕ)). done ++ ls)
    (ap without_empty_last (slice_split_none is_line_end last (free_of last free)) ∙ some_line last some)

none_ended : (last : List ℕ) → IsUnended last → ended_lines last ≡ []
unfolding ended_lines
none_ended last free = ap but_last (slice_split_none is_line_end last (free_of last free))

-- those that have ended
pub all_ended : (given last : List ℕ) (done : List (List ℕ)) → IsUnended last → AreLinesOf given done
    → ended_lines (given ++ last) ≡ done
all_ended given last done free is =
    is.ended last ∙ ap (λ (ls : List (List ℕ)). done ++ ls) (none_ended last free) ∙ append-nil done

-- what is open
open_is : (last : List ℕ) → IsUnended last → open_line last ≡ last
unfolding open_line
open_is last free = ap last_of (slice_split_none is_line_end last (free_of last free))

pub left_open : (given last : List ℕ) (done : List (List ℕ)) → IsUnended last → AreLinesOf given done
    → open_line (given ++ last) ≡ last
left_open given last done free is = is.still_open last ∙ open_is last free

-- where none are open
pub no_open : (given : List ℕ) (done : List (List ℕ)) → AreLinesOf given done → lines_of (given ++ []) ≡ done
no_open given done is = is.all [] ∙ append-nil done
