-- What comes out, line by line.
use Rattle.std.proofs.Common.{◌≡◌, ℕ, ◌+◌, ◌<◌, ◌≤◌, Option, Some, None, Result, Ok, Err, List, ◌∷◌, map, length}
use Rattle.std.proofs.Common.{Bor, drop, get_or, refl, sym, ap, ◌∙◌}
use Rattle.std.specs.List.{slice_get}
use Rattle.std.specs.Option.{option_map}
use Rattle.std.proofs.lemmas.Option.{slice_get-map, slice_get_read, slice_get_past}
use Rattle.std.proofs.lemmas.List.{drop_more, drop_all}
use Rattle.cm_bits.specs.Text.{lines_of}
use Rattle.cm_language.specs.declared.fault.AsmKind.TheVariants as kind
use Rattle.lab_source.specs.declared.fault.SourceKind.{SourceKind}
use Rattle.lab_source.specs.declared.fault.SourceFault.{SourceFault}
use Rattle.lab_source.specs.Layout.{NamedNumber, Layout, unless_faulty_at, layout_of}
use Rattle.lab_source.specs.Expansion.{Expansion, nothing_out, after_place_of, expansion_after_places, carried_out}
use Rattle.lab_source.specs.Expansion.{expanded, expansion_text}
use Rattle.lab_source.specs.Expansion.{expansion_of}

-- one line more
pub one_place : (lines : List (List ℕ)) (constants : List NamedNumber) (out : Expansion) (place : ℕ) (places : List ℕ)
    (line : Option (List ℕ)) (q : Result Expansion SourceKind) → slice_get lines place ≡ line
    → after_place_of constants out place line ≡ q
    → expansion_after_places lines constants out (place ∷ places)
    ≡ unless_faulty_at place q (λ next. expansion_after_places lines constants next places)
unfolding expansion_after_places
one_place lines constants out place places line q is e =
    ap (λ (r : Result Expansion SourceKind). unless_faulty_at place r (λ next. expansion_after_places lines constants next places))
    (ap (after_place_of constants out place) is ∙ e)

-- ---- a whole source

-- what comes out of it, where it is laid out so
pub out_of : (source : List ℕ) (laid : Layout) (lines : List (List ℕ)) (constants : List NamedNumber) (order : List ℕ)
    (q : Result Expansion SourceFault) → layout_of (lines_of source) ≡ Ok laid → lines ≡ lines_of source
    → constants ≡ laid.constants → order ≡ laid.order → expansion_after_places lines constants nothing_out order ≡ q
    → expansion_of source ≡ expansion_text q
unfolding expanded
out_of source laid lines constants order q is lines_are constants_are order_is e =
    ap (λ (l : Result Layout SourceFault). expansion_text (carried_out (lines_of source) l)) is
    ∙ (λ i. expansion_text (expansion_after_places (sym lines_are i) (sym constants_are i) nothing_out (sym order_is i)))
    ∙ ap expansion_text e

-- a fault of its layout
pub not_laid : (source : List ℕ) (fault : SourceFault) → layout_of (lines_of source) ≡ Err fault
    → expansion_of source ≡ Err fault
unfolding expanded
not_laid source fault is = ap (λ (l : Result Layout SourceFault). expansion_text (carried_out (lines_of source) l)) is

-- ---- lines by their places

-- a line that is there
pub line_there : (lines : List (Bor (List ℕ))) (place : ℕ) (line : Bor (List ℕ)) → place < length lines
    → line ≡ get_or lines place line → slice_get (map (λ (l : Bor (List ℕ)). l.now) lines) place ≡ Some line.now
line_there lines place line within is =
    slice_get-map (λ (l : Bor (List ℕ)). l.now) lines place
    ∙ ap (option_map (λ (l : Bor (List ℕ)). l.now)) (slice_get_read lines (length lines) place line refl within is)

-- none
pub line_gone : (lines : List (Bor (List ℕ))) (place : ℕ) → length lines ≤ place
    → slice_get (map (λ (l : Bor (List ℕ)). l.now) lines) place ≡ None
line_gone lines place past =
    slice_get-map (λ (l : Bor (List ℕ)). l.now) lines place
    ∙ ap (option_map (λ (l : Bor (List ℕ)). l.now)) (slice_get_past lines place past)

-- the line at the next place, and the lines at those after it
pub next_place : (lines : List (List ℕ)) (constants : List NamedNumber) (out : Expansion) (order : List ℕ) (i : ℕ)
    (line : Option (List ℕ)) (q : Result Expansion SourceKind) (all : Result Expansion SourceFault) → i < length order
    → slice_get lines (get_or order i 0) ≡ line → after_place_of constants out (get_or order i 0) line ≡ q
    → expansion_after_places lines constants out (drop i order) ≡ all
    → unless_faulty_at (get_or order i 0) q (λ next. expansion_after_places lines constants next (drop (i + 1) order)) ≡ all
next_place lines constants out order i line q all within there step before =
    sym (one_place lines constants out (get_or order i 0) (drop (i + 1) order) line q there step)
    ∙ ap (expansion_after_places lines constants out) (sym (drop_more order i 0 within)) ∙ before

-- no place is left
pub no_place : (lines : List (List ℕ)) (constants : List NamedNumber) (out : Expansion) (order : List ℕ) (i : ℕ)
    (all : Result Expansion SourceFault) → length order ≤ i → expansion_after_places lines constants out (drop i order) ≡ all
    → all ≡ Ok out
unfolding expansion_after_places
no_place lines constants out order i all past before =
    sym before ∙ ap (expansion_after_places lines constants out) (drop_all i order past)
