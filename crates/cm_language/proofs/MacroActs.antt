-- The acts of a macro that is not refused are acts that a program can have.
use Rattle.std.proofs.Common.{◌≡◌, ℕ, ◌+◌, ◌≤◌, Bool, true, false, ◌||◌, [], ◌∷◌, ◌++◌, None, refl, arith}
use Rattle.std.proofs.lemmas.Bool.Decides.{nat_tests}
use Rattle.cm_bits.specs.Span.{Span, IsField}
use Rattle.cm_language.specs.declared.macros.Macro.{Macro}
use Rattle.cm_language.specs.declared.macros.Macro.TheVariants.{Add, Sub, Less, Equal, Move, Select, Const, Shift, Mul}
use Rattle.cm_language.specs.declared.macros.Macro.TheVariants.{Set, Clear}
use Rattle.cm_language.specs.declared.macros.Context.{Context}
use Rattle.cm_language.specs.Acts.{nanos, acts_of, clear_flag, each_bit, number_bits, product, product_round}
use Rattle.cm_language.specs.Faults.{misfits, lengths_differ, first_fault}
use Rattle.cm_language.specs.Laws.{HasFields}
use Rattle.cm_language.specs.Whole.{AreProgramActs}
use Rattle.cm_language.proofs.ProgramParts.{HasFlag, NamesFlags}
use Rattle.cm_language.proofs.AllMacros.{accepted}
use Rattle.cm_language.proofs.Instructions.{AreInstructions, as_acts, are-append, are-flat_map, is_set, is_clear}
use Rattle.cm_language.proofs.Instructions.{are_bits, are_number_bits, are_round, AreSmall, small_by_test}

-- ---- macros

-- what the test says
same_lengths : (a b : Span) → lengths_differ a b ≡ false → a.len ≡ b.len
same_lengths a b h = grind (arith, nat_tests, h)

-- what is false as a whole is so in both parts
neither : (a b : Bool) → (a || b) ≡ false → (a ≡ false) × (b ≡ false)
neither true b h = absurd cc
neither false b h = (refl, h)

-- one instruction for each bit of two fields of one length
two : (c : Context) (d s : Span) (read write mem flag : ℕ) → HasFlag c → IsField d × IsField s
    → lengths_differ d s ≡ false → AreSmall read write mem flag → AreInstructions (each_bit c d s read write mem flag)
two c d s read write mem flag h fields fits small =
    let other : s.at + d.len ≤ 4096 = omega (arith, fields.1.within, same_lengths d s fits) in
    are_bits c d s read write mem flag h fields.0.within other small

-- the instructions of each macro that fits
are_nanos : (m : Macro) (c : Context) → HasFlag c → HasFields m → NamesFlags m → misfits m ≡ false
    → AreInstructions (nanos m c)
are_nanos (Add d s) c h fields flags fits =
    (is_clear c 7 h (omega arith), two c d s 7 7 0x96 0xe8 h fields fits (small_by_test 7 7 0x96 0xe8 refl))
are_nanos (Sub d s) c h fields flags fits =
    (is_set c 7 h (omega arith), two c d s 7 7 0x69 0xb2 h fields fits (small_by_test 7 7 0x69 0xb2 refl))
are_nanos (Less x y) c h fields flags fits =
    (is_clear c 7 h (omega arith), two c x y 7 7 0xf0 0x8e h fields fits (small_by_test 7 7 0xf0 0x8e refl))
are_nanos (Equal x y) c h fields flags fits =
    (is_set c 7 h (omega arith), two c x y 7 7 0xf0 0x82 h fields fits (small_by_test 7 7 0xf0 0x82 refl))
are_nanos (Move d s) c h fields flags fits = two c d s 8 8 0xcc 0x00 h fields fits (small_by_test 8 8 0xcc 0x00 refl)
are_nanos (Select d s f) c h fields flags fits =
    let small : AreSmall f 8 0xd8 0x00 =
    record { read_flag = flags; write_flag = omega arith; memory_table = omega arith; flag_table = omega arith } in
    two c d s f 8 0xd8 0x00 h fields fits small
are_nanos (Const d v) c h fields flags fits = are_number_bits c d v h fields
are_nanos (Shift d) c h fields flags fits =
    let bits = are_bits c d d 7 7 0xaa 0xf0 h fields.within fields.within (small_by_test 7 7 0xaa 0xf0 refl) in
    (is_clear c 7 h (omega arith), bits)
are_nanos (Mul d x y) c h fields flags fits =
    let lengths = neither (lengths_differ d x) (lengths_differ d y) fits in
    let first = same_lengths d x lengths.0 in
    let second = same_lengths d y lengths.1 in
    let rounds = are-flat_map (product_round d x y) 0 d.len
    (λ j low high. are_round d x y j fields.0 fields.1 fields.2 first second (omega arith)) in
    let last : AreInstructions (clear_flag c 6 ∷ clear_flag c 7 ∷ []) =
    (is_clear c 6 h (omega arith), (is_clear c 7 h (omega arith), tt)) in
    are-append (number_bits c d 0) (product d x y ++ clear_flag c 6 ∷ clear_flag c 7 ∷ [])
    (are_number_bits c d 0 h fields.0)
    (are-append (product d x y) (clear_flag c 6 ∷ clear_flag c 7 ∷ []) rounds last)
are_nanos (Set f) c h fields flags fits = (is_set c f h flags, tt)
are_nanos (Clear f) c h fields flags fits = (is_clear c f h flags, tt)

-- the acts of a macro that is not refused are acts of programs
pub acts_of-program : (m : Macro) (c : Context) → HasFlag c → HasFields m → NamesFlags m → first_fault m c ≡ None
    → AreProgramActs (acts_of m c)
acts_of-program m c h fields flags accept =
    as_acts (nanos m c) (are_nanos m c h fields flags (accepted m c accept).fits)
