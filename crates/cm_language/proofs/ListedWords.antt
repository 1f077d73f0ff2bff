-- What stands in a listing's lines between spaces are words.
use Rattle.std.proofs.Common.{◌≡◌, ℕ, ◌/◌, ◌%◌, ◌<◌, Bool, true, false, not, ◌&&◌, eqb, List, [], ◌∷◌, refl, arith}
use Rattle.std.specs.Prelude.{codes, decimal, nat_le}
use Rattle.std.specs.List.{list_all}
use Rattle.std.specs.Char.{is_ascii_alphabetic}
use Rattle.std.proofs.lemmas.Bool.Decides.{nat_tests}
use Rattle.cm_bits.specs.Bit.{bit_number}
use Rattle.cm_bits.specs.Text.{has_bytes}
use Rattle.cm_bits.specs.declared.plane.Dir.{Dir}
use Rattle.cm_bits.specs.declared.plane.Dir.TheVariants.{North, East, West, South}
use Rattle.cm_model.specs.declared.act.Act.{Act}
use Rattle.cm_model.specs.declared.act.Act.TheVariants as act
use Rattle.cm_language.specs.Names.{NamedField, is_name_byte, is_name}
use Rattle.cm_language.specs.Listing.{hex_digit, table_word, direction_word, act_words, field_words}
use Rattle.cm_language.specs.Whole.{IsProgramAct, MayFollow}
use Rattle.cm_language.proofs.Numerals.{IsPlain, ArePlain, IsWord, word-decimal}
use Rattle.cm_language.proofs.Spaced.{AreWords}

-- ---- words by tests of their bytes

abbrev is_plain : ℕ → Bool
is_plain byte = nat_le 33 byte && not (eqb byte 59)

-- a byte that passes is one of words
plain_by_test : (byte : ℕ) → is_plain byte ≡ true → IsPlain byte
plain_by_test byte h = record { dark = grind (arith, nat_tests, h); kept = λ e. grind (arith, nat_tests, h) }

-- both parts of a test
both_true : (a b : Bool) → (a && b) ≡ true → (a ≡ true) × (b ≡ true)
both_true true b h = (refl, h)
both_true false b h = absurd cc

-- bytes that pass are bytes of words
all_plain : (p : ℕ → Bool) → ((byte : ℕ) → p byte ≡ true → IsPlain byte) → (bytes : List ℕ) → list_all p bytes ≡ true
    → ArePlain bytes
all_plain p plain [] h = tt
all_plain p plain (byte ∷ bytes) h =
    let parts = both_true (p byte) (list_all p bytes) h in
    (plain byte parts.0, all_plain p plain bytes parts.1)

-- and so a word
word_by_test : (word : List ℕ) → has_bytes word ≡ true → list_all is_plain word ≡ true → IsWord word
word_by_test word some plain = record { some = some; plain = all_plain is_plain plain_by_test word plain }

-- ---- names

-- letters, digits and `_` are
plain_name_byte : (byte : ℕ) → is_name_byte byte ≡ true → IsPlain byte
plain_name_byte byte h = record { dark = grind (arith, nat_tests, h); kept = λ e. grind (arith, nat_tests, h) }

-- letters are
plain_letter : (byte : ℕ) → is_ascii_alphabetic byte ≡ true → IsPlain byte
plain_letter byte h = record { dark = grind (arith, nat_tests, h); kept = λ e. grind (arith, nat_tests, h) }

-- a name is a word
word-name : (name : List ℕ) → is_name name ≡ true → IsWord name
word-name [] h = absurd cc
word-name (byte ∷ bytes) h =
    let parts = both_true (is_ascii_alphabetic byte) (list_all is_name_byte bytes) h in
    record { some = refl; plain = (plain_letter byte parts.0, all_plain is_name_byte plain_name_byte bytes parts.1) }

-- ---- tables, directions, bits

-- hexadecimal digits are
plain_hex_digit : (d : ℕ) → d < 16 → IsPlain (hex_digit d)
plain_hex_digit d small = record { dark = grind (arith, nat_tests); kept = λ e. grind (arith, nat_tests) }

-- a table is a word
word-table : (table : ℕ) → table < 256 → IsWord (table_word table)
word-table table small = record {
  some = refl;
  plain = (
    plain_by_test 48 refl,
    (
      plain_by_test 120 refl,
      (plain_hex_digit (table / 16) (omega arith), (plain_hex_digit (table % 16) (omega arith), tt)),
    ),
  );
}

-- a direction is a word
word-direction : (dir : Dir) → IsWord (direction_word dir)
word-direction North = word_by_test (codes "n") refl refl
word-direction East = word_by_test (codes "e") refl refl
word-direction West = word_by_test (codes "w") refl refl
word-direction South = word_by_test (codes "s") refl refl

-- a bit is a word
word-bit : (b : Bool) → IsWord (decimal (bit_number b))
word-bit true = word-decimal 1 (omega arith)
word-bit false = word-decimal 0 (omega arith)

-- ---- lines

-- an act's line has words
pub words-act : (a : Act) → IsProgramAct a → AreWords (act_words a)
words-act (act.Nano nano) is = (
  word_by_test (codes "nano") refl refl,
  (
    word-decimal nano.a (omega (arith, is.a)),
    (
      word-decimal nano.b (omega (arith, is.b)),
      (
        word-decimal nano.read (omega (arith, is.read)),
        (
          word-decimal nano.write (omega (arith, is.write)),
          (
            word-decimal nano.cond (omega (arith, is.cond)),
            (
              word-bit nano.sense,
              (
                word-table nano.mem_table is.mem_table,
                (word-table nano.flag_table is.flag_table, (word-direction nano.dir, tt)),
              ),
            ),
          ),
        ),
      ),
    ),
  ),
)
words-act act.Cycle is = (word_by_test (codes "cycle") refl refl, tt)
words-act act.Sense is = (word_by_test (codes "sense") refl refl, tt)

-- a definition's line has words
pub words-field : (fields : List NamedField) (defined : NamedField) → MayFollow fields defined
    → AreWords (field_words defined)
words-field fields defined is = (
  word_by_test (codes "field") refl refl,
  (
    word-name defined.name is.name,
    (
      word-decimal defined.field.at (omega (arith, is.field.some, is.field.within)),
      (word-decimal defined.field.len (omega (arith, is.field.narrow)), tt),
    ),
  ),
)
