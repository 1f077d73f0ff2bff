-- Nine operands, three at a time.
use Rattle.std.proofs.Common.{◌≡◌, ℕ, Bool, List, Result, Ok, Err, refl, ap, ◌∙◌}
use Rattle.cm_bits.specs.declared.plane.Dir.{Dir}
use Rattle.cm_model.specs.declared.act.Nano.{Nano}
use Rattle.cm_language.specs.declared.fault.AsmKind.{AsmKind}
use Rattle.cm_language.specs.Lines.{◌>>=◌, operand_of, sense_operand, direction_of, nano_of_nine}
use Rattle.cm_asm.specs.Thirds.{all_three}

-- what comes after all three
three_then : {A B C D : Type 0} (x : Result A AsmKind) (y : Result B AsmKind) (z : Result C AsmKind)
    (f : A → B → C → Result D AsmKind)
    → (x >>= λ a. y >>= λ b. z >>= λ c. f a b c) ≡ (all_three x y z >>= λ t. f t.0 t.1 t.2)
three_then (Err e) y z f = refl
three_then (Ok a) (Err e) z f = refl
three_then (Ok a) (Ok b) (Err e) f = refl
three_then (Ok a) (Ok b) (Ok c) f = refl

-- the instruction of nine operands
abbrev nano_of_parts : ℕ × ℕ × ℕ → ℕ × ℕ × Bool → ℕ × ℕ × Dir → Nano
nano_of_parts p q r = record {
  a = p.0;
  b = p.1;
  read = p.2;
  write = q.0;
  cond = q.1;
  sense = q.2;
  mem_table = r.0;
  flag_table = r.1;
  dir = r.2;
}

-- is read three at a time
pub nano_in_thirds : (a b read write cond sense mem_table flag_table dir : List ℕ)
    → nano_of_nine a b read write cond sense mem_table flag_table dir
    ≡ (all_three (operand_of 4096 a) (operand_of 4096 b) (operand_of 16 read)
    >>= λ p. all_three (operand_of 16 write) (operand_of 16 cond) (sense_operand sense)
    >>= λ q. all_three (operand_of 256 mem_table) (operand_of 256 flag_table) (direction_of dir)
    >>= λ r. Ok (nano_of_parts p q r))
nano_in_thirds a b read write cond sense mem_table flag_table dir =
    three_then (operand_of 4096 a) (operand_of 4096 b) (operand_of 16 read)
    (λ a' b' read'. operand_of 16 write >>= λ write'. operand_of 16 cond >>= λ cond'. sense_operand sense
    >>= λ sense'. operand_of 256 mem_table >>= λ mem'. operand_of 256 flag_table >>= λ flag'. direction_of dir
    >>= λ dir'. Ok (nano_of_parts (a', b', read') (write', cond', sense') (mem', flag', dir')))
    ∙ ap (λ (f : ℕ × ℕ × ℕ → Result Nano AsmKind).
    all_three (operand_of 4096 a) (operand_of 4096 b) (operand_of 16 read) >>= f)
    (λ i p. three_then (operand_of 16 write) (operand_of 16 cond) (sense_operand sense)
    (λ write' cond' sense'. operand_of 256 mem_table >>= λ mem'. operand_of 256 flag_table >>= λ flag'.
    direction_of dir >>= λ dir'. Ok (nano_of_parts p (write', cond', sense') (mem', flag', dir'))) i)
    ∙ ap (λ (f : ℕ × ℕ × ℕ → ℕ × ℕ × Bool → Result Nano AsmKind).
    all_three (operand_of 4096 a) (operand_of 4096 b) (operand_of 16 read)
    >>= λ p. all_three (operand_of 16 write) (operand_of 16 cond) (sense_operand sense) >>= f p)
    (λ i p q. three_then (operand_of 256 mem_table) (operand_of 256 flag_table) (direction_of dir)
    (λ mem' flag' dir'. Ok (nano_of_parts p q (mem', flag', dir'))) i)
