-- The lines of a listing, one more at a time.
use Rattle.std.proofs.Common.{◌≡◌, ℕ, ◌+◌, ◌<◌, List, [], ◌∷◌, ◌++◌, flat_map, sym, ap, ◌∙◌, append_assoc}
use Rattle.std.specs.Prelude.{decimal}
use Rattle.std.proofs.lemmas.Fmt.{decimal_digit}
use Rattle.cm_language.specs.Names.{NamedField}
use Rattle.cm_language.specs.Listing.{field_line}

-- a digit and a space
pub number_word : (n : ℕ) → n < 10 → (48 + n) ∷ 32 ∷ [] ≡ decimal n ++ 32 ∷ []
number_word n small = ap (λ (word : List ℕ). word ++ 32 ∷ []) (sym (decimal_digit n small))

-- one definition more
pub field_more : (text before all : List ℕ) (rest later : List NamedField) (field : NamedField)
    → before ++ flat_map field_line rest ≡ all → rest ≡ field ∷ later → text ≡ before ++ field_line field
    → text ++ flat_map field_line later ≡ all
field_more text before all rest later field h left is =
    ap (λ front. front ++ flat_map field_line later) is
    ∙ append_assoc before (field_line field) (flat_map field_line later)
    ∙ ap (λ fields. before ++ flat_map field_line fields) (sym left) ∙ h
