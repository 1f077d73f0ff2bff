-- Worked lines, and which phrases they say. Ours.
use Rattle.std.specs.Prelude.{◌≡◌, ℕ, List, [], ◌∷◌, None, codes}
use Rattle.cm_bits.specs.Span.{Span}
use Rattle.cm_bits.specs.Text.{words_of}
use Rattle.cm_bits.specs.declared.plane.Dir.TheVariants as dir
use Rattle.cm_language.specs.declared.macros.Context.TheVariants.{Always}
use Rattle.cm_language.specs.Names.{named}
use Rattle.cm_language.specs.Program.{Reading}
use Rattle.lab_phrases.specs.declared.phrase.Phrase.{Phrase}
use Rattle.lab_phrases.specs.declared.phrase.Phrase.TheVariants as phrase
use Rattle.lab_source.specs.Says.{phrase_verb_of}
use Rattle.lab_meaning.specs.Laws.{SaysPhrase}

-- a field of eight bits, from address 0 on
abbrev pub low : Span
low = record { at = 0; len = 8 }

-- the field of eight bits behind it, from address 8 on
abbrev pub high : Span
high = record { at = 8; len = 8 }

-- their names are a and b
abbrev pub names_known : Reading
names_known = record { fields = named (codes "a") low ∷ named (codes "b") high ∷ []; context = Always; acts = [] }

-- a line says a phrase of them
abbrev pub LineSays : List ℕ → Phrase → Type 0
LineSays line phrase = SaysPhrase names_known (words_of line) phrase

-- these lines say these phrases, and the last two none: of two fields the first that is named is the one that is written
pub record LinesSayPhrases : Type 0 where
  pub news : LineSays (codes "news a b e") (phrase.News low high dir.East)
  pub chain : LineSays (codes "chain a b ; a comment") (phrase.Chain low high)
  pub both : LineSays (codes "and a b") (phrase.And low high)
  pub either : LineSays (codes "or b a") (phrase.Or high low)
  pub differ : LineSays (codes "xor a b") (phrase.Xor low high)
  pub turned : LineSays (codes "not b") (phrase.Not high)
  pub number : LineSays (codes "add a 5") (phrase.AddNumber low 5)
  pub test : LineSays (codes "test 3 b") (phrase.Test 3 high)
  pub keep : LineSays (codes "keep a 7") (phrase.Keep low 7)
  pub sum : phrase_verb_of (words_of (codes "add a b")) ≡ None
  pub no_phrase : phrase_verb_of (words_of (codes "set 3")) ≡ None
