-- Lines that say phrases, by their words: ours.
use Rattle.std.specs.Prelude.{ℕ, ◌&&◌, Bool, false, if◌then◌else◌, Option, Some, None, Result, Ok, Err, List, []}
use Rattle.std.specs.Prelude.{◌∷◌, codes, bytes_eq}
use Rattle.std.specs.Option.{is_some}
use Rattle.cm_bits.specs.Text.{number_of}
use Rattle.cm_language.specs.declared.fault.AsmKind.{AsmKind}
use Rattle.cm_language.specs.declared.fault.AsmKind.TheVariants.{Operands}
use Rattle.cm_language.specs.Names.{NamedField}
use Rattle.cm_language.specs.Lines.{◌>>=◌, operand_of, number_operand, direction_of, field_operand, one_field, two_fields}
use Rattle.lab_phrases.specs.declared.phrase.Phrase.{Phrase}
use Rattle.lab_phrases.specs.declared.phrase.Phrase.TheVariants as phrase
use Rattle.lab_source.specs.declared.verb.PhraseVerb.{PhraseVerb}
use Rattle.lab_source.specs.declared.verb.PhraseVerb.TheVariants as verb

-- the operands of `add` are a field and a number: no number is a name
abbrev pub adds_number : List (List ℕ) → Bool
adds_number (d ∷ v ∷ []) = is_some (number_of v)
adds_number _ = false

-- what a first word asks for, with these operands behind it
abbrev pub verb_with : List ℕ → List (List ℕ) → Option PhraseVerb
verb_with word operands =
    if bytes_eq word (codes "news") then Some verb.News
    else (if bytes_eq word (codes "chain") then Some verb.Chain
    else (if bytes_eq word (codes "and") then Some verb.And
    else (if bytes_eq word (codes "or") then Some verb.Or
    else (if bytes_eq word (codes "xor") then Some verb.Xor
    else (if bytes_eq word (codes "not") then Some verb.Not
    else (if bytes_eq word (codes "add") && adds_number operands then Some verb.AddNumber
    else (if bytes_eq word (codes "test") then Some verb.Test
    else (if bytes_eq word (codes "keep") then Some verb.Keep
    else None))))))))

-- what a line asks for that says a phrase
abbrev pub phrase_verb_of : List (List ℕ) → Option PhraseVerb
phrase_verb_of [] = None
phrase_verb_of (word ∷ operands) = verb_with word operands

-- the operands of `news`
abbrev pub news_of : List NamedField → List (List ℕ) → Result Phrase AsmKind
news_of fields (d ∷ s ∷ dir ∷ []) =
    field_operand fields d >>= λ d'. field_operand fields s >>= λ s'. direction_of dir >>= λ dir'.
    Ok (phrase.News d' s' dir')
news_of fields _ = Err Operands

-- the operands of `add`, where the second is a number
abbrev pub sum_of : List NamedField → List (List ℕ) → Result Phrase AsmKind
sum_of fields (d ∷ v ∷ []) =
    field_operand fields d >>= λ d'. number_operand v >>= λ v'. Ok (phrase.AddNumber d' v')
sum_of fields _ = Err Operands

-- the operands of `test`
abbrev pub tested_of : List NamedField → List (List ℕ) → Result Phrase AsmKind
tested_of fields (f ∷ s ∷ []) =
    operand_of 16 f >>= λ f'. field_operand fields s >>= λ s'. Ok (phrase.Test f' s')
tested_of fields _ = Err Operands

-- the operands of `keep`
abbrev pub keep_phrase : List NamedField → List (List ℕ) → Result Phrase AsmKind
keep_phrase fields (d ∷ f ∷ []) =
    field_operand fields d >>= λ d'. operand_of 16 f >>= λ f'. Ok (phrase.Keep d' f')
keep_phrase fields _ = Err Operands

-- the phrase of a verb and its operands
abbrev pub phrase_with : List NamedField → PhraseVerb → List (List ℕ) → Result Phrase AsmKind
phrase_with fields verb.News operands = news_of fields operands
phrase_with fields verb.Chain operands = two_fields fields operands >>= λ both. Ok (phrase.Chain both.0 both.1)
phrase_with fields verb.And operands = two_fields fields operands >>= λ both. Ok (phrase.And both.0 both.1)
phrase_with fields verb.Or operands = two_fields fields operands >>= λ both. Ok (phrase.Or both.0 both.1)
phrase_with fields verb.Xor operands = two_fields fields operands >>= λ both. Ok (phrase.Xor both.0 both.1)
phrase_with fields verb.Not operands = one_field fields operands >>= λ d. Ok (phrase.Not d)
phrase_with fields verb.AddNumber operands = sum_of fields operands
phrase_with fields verb.Test operands = tested_of fields operands
phrase_with fields verb.Keep operands = keep_phrase fields operands

-- the phrase of a line, by its words
abbrev pub phrase_of : List NamedField → PhraseVerb → List (List ℕ) → Result Phrase AsmKind
phrase_of fields asked [] = Err Operands
phrase_of fields asked (word ∷ operands) = phrase_with fields asked operands
