-- Lines as they are mostly written: ours.
use Rattle.std.specs.Prelude.{◌≡◌, ℕ, ◌<◌, ◌==◌, Bool, true, false, ◌||◌, Some, Ok, List, ◌∷◌, codes, length, get_or}
use Rattle.std.specs.Char.{digit_value, is_digit}
use Rattle.cm_bits.specs.Text.{is_blank, is_comment_start, number_of, words_of}
use Rattle.cm_bits.specs.declared.plane.Dir.{Dir}
use Rattle.cm_model.specs.declared.act.Nano.{Nano}
use Rattle.cm_language.specs.Lines.{nano_of}

-- a blank or a comment ends a word
abbrev pub is_word_end : ℕ → Bool
is_word_end byte = is_blank byte || is_comment_start byte

-- the byte is a digit of this base, of this value
pub record IsDigit (base byte value : ℕ) : Type 0 where
  pub is : value ≡ digit_value byte
  pub digit : is_digit byte base ≡ true

-- the bytes write this number, and nothing among them ends a word
pub record IsNumeral (word : List ℕ) (value : ℕ) : Type 0 where
  pub writes : number_of word ≡ Some value
  pub goes_on : (k : ℕ) → k < length word → is_word_end (get_or word k 0) ≡ false

-- the first word writes this number, and the others are those of the rest
pub record BeginsWithNumber (bytes rest : List ℕ) (value : ℕ) : Type 0 where
  pub word : List ℕ
  pub words : words_of bytes ≡ word ∷ words_of rest
  pub writes : number_of word ≡ Some value

-- the first three words write these numbers, and the others are those of the rest
pub record BeginsWithThree (bytes rest : List ℕ) (first second third : ℕ) : Type 0 where
  pub after_first : List ℕ
  pub after_second : List ℕ
  pub one : BeginsWithNumber bytes after_first first
  pub two : BeginsWithNumber after_first after_second second
  pub three : BeginsWithNumber after_second rest third

-- the instruction of these numbers, each in its range, and of this direction
pub record IsNano (a b read write cond sense mem_table flag_table : ℕ) (dir : Dir) (nano : Nano) : Type 0 where
  pub a_within : a < 4096
  pub b_within : b < 4096
  pub read_within : read < 16
  pub write_within : write < 16
  pub cond_within : cond < 16
  pub sense_within : sense < 2
  pub mem_table_within : mem_table < 256
  pub flag_table_within : flag_table < 256
  pub is : nano ≡ record {
    a = a;
    b = b;
    read = read;
    write = write;
    cond = cond;
    sense = sense == 1;
    mem_table = mem_table;
    flag_table = flag_table;
    dir = dir;
  }

-- a line that says this instruction
pub record SaysInstruction (line : List ℕ) (nano : Nano) : Type 0 where
  pub operands : List (List ℕ)
  pub words : words_of line ≡ codes "nano" ∷ operands
  pub says : nano_of operands ≡ Ok nano
