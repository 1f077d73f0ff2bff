-- The acts of a phrase that is not refused are acts that a program can have.
use Rattle.std.proofs.Common.{◌≡◌, ℕ, zero, suc, ◌+◌, ◌<◌, ◌≤◌, Bool, true, false, map, None, eqb, refl, arith}
use Rattle.std.specs.Prelude.{if◌then◌else◌}
use Rattle.std.specs.List.{range_with_len}
use Rattle.std.proofs.lemmas.Bool.Decides.{nat_tests}
use Rattle.cm_bits.specs.Bit.{bit}
use Rattle.cm_bits.specs.Span.{Span, IsField}
use Rattle.cm_bits.specs.declared.plane.Dir.{Dir}
use Rattle.cm_bits.specs.declared.plane.Dir.TheVariants.{North}
use Rattle.cm_model.specs.Each.{tabulate}
use Rattle.cm_language.specs.declared.macros.Context.{Context}
use Rattle.cm_language.specs.declared.macros.Context.TheVariants.{Always, On, Off}
use Rattle.cm_language.specs.Acts.{nano, cond_of, each_bit}
use Rattle.cm_language.specs.Faults.{lengths_differ}
use Rattle.cm_language.specs.Whole.{IsInstruction, AreProgramActs}
use Rattle.cm_language.proofs.ProgramParts.{HasFlag}
use Rattle.cm_language.proofs.Instructions.{AreInstructions, as_acts, are-flat_map, is_clear, are_bits}
use Rattle.cm_language.proofs.Instructions.{AreSmall, small_by_test}
use Rattle.lab_phrases.specs.declared.phrase.Phrase.{Phrase}
use Rattle.lab_phrases.specs.declared.phrase.Phrase.TheVariants.{News, Chain, And, Or, Xor, Not, AddNumber, Test, Keep}
use Rattle.lab_phrases.specs.Acts.{phrase_nanos, phrase_acts, fetch_bit, fetch_all, add_bit, keep_bit}
use Rattle.lab_phrases.specs.Faults.{phrase_misfits, first_phrase_fault}
use Rattle.lab_phrases.specs.Laws.{HasPhraseFields}
use Rattle.lab_phrases.proofs.AllPhrases.{accepted}

-- ---- single instructions

-- an instruction under a context is one, whatever its direction
is_nano : (c : Context) (a b read write mem flag : ℕ) (dir : Dir) → HasFlag c → a < 4096 → b < 4096
    → AreSmall read write mem flag → IsInstruction (record (nano c a b read write mem flag) { dir = dir })
is_nano c a b read write mem flag dir h low other small = record {
  a = low;
  b = other;
  read = small.read_flag;
  write = small.write_flag;
  cond = cond_small c h;
  mem_table = small.memory_table;
  flag_table = small.flag_table;
} where
  cond_small : (c : Context) → HasFlag c → cond_of c < 16
  cond_small Always h = omega arith
  cond_small (On f) h = h
  cond_small (Off f) h = h

-- both for a bit that comes from elsewhere
is_fetched : (c : Context) (flag : ℕ) (dir : Dir) (d s : Span) (i : ℕ) → HasFlag c → flag < 16 → d.at + i < 4096
    → s.at + i < 4096 → AreInstructions (fetch_bit c flag dir d s i)
is_fetched c flag dir d s i h small into from =
    let first : AreSmall 8 flag 0xf0 0xf0 =
    record { read_flag = omega arith; write_flag = small; memory_table = omega arith; flag_table = omega arith } in
    let second : AreSmall flag 8 0xaa 0x00 =
    record { read_flag = small; write_flag = omega arith; memory_table = omega arith; flag_table = omega arith } in (
      is_nano c (s.at + i) (s.at + i) 8 flag 0xf0 0xf0 dir h from from first,
      (is_nano c (d.at + i) (d.at + i) flag 8 0xaa 0x00 North h into into second, tt),
    )

-- the tables that add a bit
sum_small : (b : Bool) → AreSmall 7 7 (if b then 0xa5 else 0x5a) (if b then 0xfa else 0xa0)
sum_small true = small_by_test 7 7 0xa5 0xfa refl
sum_small false = small_by_test 7 7 0x5a 0xa0 refl

-- ---- phrases

-- what the test says
same_lengths : (a b : Span) → lengths_differ a b ≡ false → a.len ≡ b.len
same_lengths a b h = grind (arith, nat_tests, h)

-- the instructions of a field that comes from elsewhere
are_fetched : (c : Context) (flag : ℕ) (dir : Dir) (d s : Span) → HasFlag c → flag < 16 → IsField d × IsField s
    → lengths_differ d s ≡ false → AreInstructions (fetch_all c flag dir d s)
are_fetched c flag dir d s h small fields fits =
    let same : d.len ≡ s.len = same_lengths d s fits in
    are-flat_map (fetch_bit c flag dir d s) 0 d.len (λ i low high.
    is_fetched c flag dir d s i h small (omega (arith, fields.0.within)) (omega (arith, fields.1.within)))

-- those of two fields that are taken bit by bit
are_bitwise : (c : Context) (d s : Span) (table : ℕ) → HasFlag c → IsField d × IsField s
    → lengths_differ d s ≡ false → AreSmall 8 8 table 0x00 → AreInstructions (each_bit c d s 8 8 table 0x00)
are_bitwise c d s table h fields fits small =
    let same : d.len ≡ s.len = same_lengths d s fits in
    are_bits c d s 8 8 table 0x00 h fields.0.within (omega (arith, fields.1.within)) small

-- those of a number's bits
are_sums : (c : Context) (d : Span) (v j n : ℕ) → HasFlag c → d.at + j + n ≤ 4096
    → AreInstructions (map (add_bit c d v) (range_with_len j n))
are_sums c d v j zero h within = tt
are_sums c d v j (suc n) h within =
    let inside : d.at + j < 4096 = omega arith in (
      is_nano c (d.at + j) (d.at + j) 7 7 (if bit v j then 0xa5 else 0x5a) (if bit v j then 0xfa else 0xa0) North h
          inside inside (sum_small (bit v j)),
      are_sums c d v (j + 1) n h (omega arith),
    )

-- those that keep a flag
keeps_small : (f : ℕ) (b : Bool) → f < 16 → AreSmall f 8 (if b then 0xaa else 0x00) 0x00
keeps_small f true h =
    record { read_flag = h; write_flag = omega arith; memory_table = omega arith; flag_table = omega arith }
keeps_small f false h =
    record { read_flag = h; write_flag = omega arith; memory_table = omega arith; flag_table = omega arith }

are_kept : (c : Context) (d : Span) (f j n : ℕ) → HasFlag c → f < 16 → d.at + j + n ≤ 4096
    → AreInstructions (map (keep_bit c d f) (range_with_len j n))
are_kept c d f j zero h small within = tt
are_kept c d f j (suc n) h small within =
    let inside : d.at + j < 4096 = omega arith in (
      is_nano c (d.at + j) (d.at + j) f 8 (if eqb j 0 then 0xaa else 0x00) 0x00 North h inside inside
          (keeps_small f (eqb j 0) small),
      are_kept c d f (j + 1) n h small (omega arith),
    )

-- the instructions of each phrase that fits
are_nanos : (phrase : Phrase) (c : Context) → HasFlag c → HasPhraseFields phrase → phrase_misfits phrase ≡ false
    → AreInstructions (phrase_nanos phrase c)
unfolding tabulate
are_nanos (News d s dir) c h fields fits = are_fetched c 10 dir d s h (omega arith) fields fits
are_nanos (Chain d s) c h fields fits = are_fetched c 11 North d s h (omega arith) fields fits
are_nanos (And d s) c h fields fits = are_bitwise c d s 0xc0 h fields fits (small_by_test 8 8 0xc0 0x00 refl)
are_nanos (Or d s) c h fields fits = are_bitwise c d s 0xfc h fields fits (small_by_test 8 8 0xfc 0x00 refl)
are_nanos (Xor d s) c h fields fits = are_bitwise c d s 0x3c h fields fits (small_by_test 8 8 0x3c 0x00 refl)
are_nanos (Not d) c h fields fits =
    are_bits c d d 8 8 0x0f 0x00 h fields.within fields.within (small_by_test 8 8 0x0f 0x00 refl)
are_nanos (AddNumber d v) c h fields fits =
    (is_clear c 7 h (omega arith), are_sums c d v 0 d.len h (omega (arith, fields.within)))
are_nanos (Test f s) c h fields fits =
    let small : AreSmall f f 0xf0 0xfa =
    record { read_flag = fields.1; write_flag = fields.1; memory_table = omega arith; flag_table = omega arith } in
    (is_clear c f h fields.1, are_bits c s s f f 0xf0 0xfa h fields.0.within fields.0.within small)
are_nanos (Keep d f) c h fields fits = are_kept c d f 0 d.len h fields.1 (omega (arith, fields.0.within))

-- the acts of a phrase that is not refused are acts of programs
pub phrase_acts-program : (phrase : Phrase) (c : Context) → HasFlag c → HasPhraseFields phrase → first_phrase_fault phrase c ≡ None
    → AreProgramActs (phrase_acts phrase c)
phrase_acts-program phrase c h fields accept =
    as_acts (phrase_nanos phrase c) (are_nanos phrase c h fields (accepted phrase c accept).fits)
