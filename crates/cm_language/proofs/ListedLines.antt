-- Each line of a listing is read as what it tells.
use Rattle.std.proofs.Common.{◌≡◌, ℕ, ◌+◌, ◌^◌, ◌<◌, ◌≤◌, Bool, true, false, not, ◌||◌, eqb, None, Some, Result, Ok}
use Rattle.std.proofs.Common.{Err, List, [], ◌∷◌, ◌++◌, refl, ap, ◌∙◌, arith}
use Rattle.std.specs.Prelude.{if◌then◌else◌, decimal, nat_lt}
use Rattle.std.specs.Option.{is_some}
use Rattle.std.proofs.lemmas.Bool.Decides.{nat_tests}
use Rattle.cm_bits.specs.Bit.{bit_number}
use Rattle.cm_bits.specs.Field.{field_fault}
use Rattle.cm_bits.specs.declared.field.FieldFault.TheVariants as field
use Rattle.cm_bits.specs.declared.plane.Dir.{Dir}
use Rattle.cm_bits.specs.declared.plane.Dir.TheVariants.{North, East, West, South}
use Rattle.cm_model.specs.declared.act.Nano.{Nano}
use Rattle.cm_model.specs.declared.act.Act.{Act}
use Rattle.cm_model.specs.declared.act.Act.TheVariants as act
use Rattle.cm_language.specs.declared.statement.Statement.TheVariants as statement
use Rattle.cm_language.specs.declared.fault.AsmKind.{AsmKind}
use Rattle.cm_language.specs.declared.fault.AsmKind.TheVariants.{Number, Name, Twice}
use Rattle.cm_language.specs.Names.{NamedField, is_name, field_named}
use Rattle.cm_language.specs.Lines.{◌>>=◌, number_below, operand_of, sense_operand, direction_of, nano_of, new_name}
use Rattle.cm_language.specs.Lines.{field_unless, definition_of}
use Rattle.cm_language.specs.Listing.{table_word, direction_word, act_words, field_words}
use Rattle.cm_language.specs.Program.{Reading, after_statement, reading_after_words, with_acts}
use Rattle.cm_language.specs.Whole.{IsInstruction, IsProgramAct, MayFollow}
use Rattle.cm_language.proofs.Numerals.{number_of-decimal, number_of-table_word}

-- ---- operands

-- a number below the limit is taken
number_below-small : (limit n : ℕ) → n < limit → number_below limit (Some n) ≡ Ok n
number_below-small limit n small =
    let test : nat_lt n limit ≡ true = grind (arith, nat_tests) in
    ap (λ (b : Bool). if b then Ok n else Err Number) test

-- so is one in decimal
operand_of-decimal : (limit n : ℕ) → n < limit → limit ≤ 2 ^ 64 → operand_of limit (decimal n) ≡ Ok n
operand_of-decimal limit n small within = ap (number_below limit) (number_of-decimal n (omega arith))
    ∙ number_below-small limit n small

-- and a table
operand_of-table_word : (table : ℕ) → table < 256 → operand_of 256 (table_word table) ≡ Ok table
operand_of-table_word table small = ap (number_below 256) (number_of-table_word table small)
    ∙ number_below-small 256 table small

-- a bit as a number is 1 where the bit is
bit_is : (b : Bool) → eqb (bit_number b) 1 ≡ b
bit_is true = refl
bit_is false = refl

-- and is below 2
bit_small : (b : Bool) → bit_number b < 2
bit_small true = omega arith
bit_small false = omega arith

-- a bit is read as that bit
sense_operand-bit : (b : Bool) → sense_operand (decimal (bit_number b)) ≡ Ok b
sense_operand-bit b =
    ap (λ (q : Result ℕ AsmKind). q >>= λ n. Ok (eqb n 1))
    (operand_of-decimal 2 (bit_number b) (bit_small b) (omega arith))
    ∙ ap (λ (c : Bool). Ok c) (bit_is b)

-- a direction is read as that direction
direction_of-word : (dir : Dir) → direction_of (direction_word dir) ≡ Ok dir
direction_of-word North = refl
direction_of-word East = refl
direction_of-word West = refl
direction_of-word South = refl

-- an instruction's words are read as that instruction
nano_of-words : (nano : Nano) → IsInstruction nano
    → nano_of (decimal nano.a ∷ decimal nano.b ∷ decimal nano.read ∷ decimal nano.write ∷ decimal nano.cond ∷ decimal
    (bit_number nano.sense)
    ∷ table_word nano.mem_table ∷ table_word nano.flag_table ∷ direction_word nano.dir ∷ []) ≡ Ok nano
nano_of-words nano is =
    let a = operand_of-decimal 4096 nano.a is.a (omega arith) in
    let b = operand_of-decimal 4096 nano.b is.b (omega arith) in
    let read = operand_of-decimal 16 nano.read is.read (omega arith) in
    let write = operand_of-decimal 16 nano.write is.write (omega arith) in
    let cond = operand_of-decimal 16 nano.cond is.cond (omega arith) in
    let sense = sense_operand-bit nano.sense in
    let mem = operand_of-table_word nano.mem_table is.mem_table in
    let flag = operand_of-table_word nano.flag_table is.flag_table in
    let dir = direction_of-word nano.dir in
    λ i. a i >>= λ a'. b i >>= λ b'. read i >>= λ read'. write i >>= λ write'. cond i >>= λ cond'. sense i >>= λ sense'.
    mem i >>= λ mem'. flag i >>= λ flag'. dir i >>= λ dir'.
    Ok (record {
      a = a';
      b = b';
      read = read';
      write = write';
      cond = cond';
      sense = sense';
      mem_table = mem';
      flag_table = flag';
      dir = dir';
    })

-- ---- the words of an act

-- the line of an act adds it
pub reading_after_words-act : (r : Reading) (a : Act) → IsProgramAct a → reading_after_words r (act_words a) ≡ with_acts r (a ∷ [])
reading_after_words-act r (act.Nano nano) is =
    ap (λ (q : Result Nano AsmKind). (q >>= λ nano'. Ok (statement.Act (act.Nano nano'))) >>= after_statement r)
    (nano_of-words nano is)
reading_after_words-act r act.Cycle is = refl
reading_after_words-act r act.Sense is = refl

-- ---- the words of a definition

-- a new name is taken
new_name-next : (fields : List NamedField) (name : List ℕ) → is_name name ≡ true → field_named fields name ≡ None
    → new_name fields name ≡ Ok name
new_name-next fields name is new =
    λ i. if not (is i) then Err Name else (if is_some (new i) then Err Twice else Ok name)

-- a field has no fault
field_fault-none : (at len : ℕ) → 1 ≤ len → len ≤ 64 → at + len ≤ 4096 → field_fault at len ≡ None
field_fault-none at len some narrow within =
    let empty : eqb len 0 ≡ false = grind (arith, nat_tests) in
    let wide : nat_lt 64 len ≡ false = grind (arith, nat_tests) in
    let beyond : nat_lt 4096 (at + len) ≡ false = grind (arith, nat_tests) in
    λ i. if empty i || wide i then Some field.Width else (if beyond i then Some field.Range else None)

-- a definition's words are read as that definition
definition_of-words : (fields : List NamedField) (defined : NamedField) → MayFollow fields defined
    → definition_of fields (defined.name ∷ decimal defined.field.at ∷ decimal defined.field.len ∷ []) ≡ Ok defined
definition_of-words fields defined is =
    let name = new_name-next fields defined.name is.name is.new in
    let at = operand_of-decimal 65536 defined.field.at (omega (arith, is.field.some, is.field.within)) (omega arith) in
    let len = operand_of-decimal 65536 defined.field.len (omega (arith, is.field.narrow)) (omega arith) in
    let fault = field_fault-none defined.field.at defined.field.len is.field.some is.field.narrow is.field.within in
    (λ i. name i >>= λ name'. at i >>= λ at'. len i >>= λ len'.
    field_unless at' len' (field_fault at' len') >>= λ field'. Ok (record { name = name'; field = field' }))
    ∙ (λ i. field_unless defined.field.at defined.field.len (fault i) >>= λ field'. Ok
    (record { name = defined.name; field = field' }))

-- the line of a definition adds its field
pub reading_after_words-field : (r : Reading) (defined : NamedField) → MayFollow r.fields defined
    → reading_after_words r (field_words defined) ≡ Ok (record {
      fields = r.fields ++ defined ∷ [];
      context = r.context;
      acts = r.acts;
    })
reading_after_words-field r defined is =
    ap (λ (q : Result NamedField AsmKind). q >>= λ d. Ok (record {
      fields = r.fields ++ d ∷ [];
      context = r.context;
      acts = r.acts;
    }))
    (definition_of-words r.fields defined is)
