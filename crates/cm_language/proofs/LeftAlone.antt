-- What a macro leaves alone.
use Rattle.std.proofs.Common.{◌≡◌, ℕ, ◌+◌, ◌<◌, ◌≤◌, ◌^◌, ◌⊎◌, ◌||◌, Bool, true, false, eqb, List, [], length, get_or}
use Rattle.std.proofs.Common.{set, None, refl, sym, ap, ◌∙◌, subst, arith, inl, inr, ⊎_elim}
use Rattle.std.specs.Prelude.{if◌then◌else◌}
use Rattle.std.proofs.lemmas.Bool.{cases_lt, eqb-false}
use Rattle.std.proofs.lemmas.List.{get_or-set_other}
use Rattle.cm_bits.specs.Span.{Span, IsField}
use Rattle.cm_bits.specs.Field.{IsIn}
use Rattle.cm_model.specs.Processor.{Processor, memory_bit, flag}
use Rattle.cm_model.specs.Chip.{processor_at, no_processor}
use Rattle.cm_model.specs.Array.{chip_at}
use Rattle.cm_model.specs.Whole.{IsProcessor}
use Rattle.cm_model.specs.Letters.{bits_of, with_field}
use Rattle.cm_model.specs.Machine.{Machine, run_of}
use Rattle.cm_model.specs.Keeping.{IsMachine}
use Rattle.cm_model.proofs.Each.{get_or-each_below}
use Rattle.cm_model.proofs.Wholes.{length-bits_of}
use Rattle.cm_language.specs.declared.macros.Macro.{Macro}
use Rattle.cm_language.specs.declared.macros.Macro.TheVariants.{Add, Sub, Less, Equal, Move, Select, Const, Shift, Mul}
use Rattle.cm_language.specs.declared.macros.Macro.TheVariants.{Set, Clear}
use Rattle.cm_language.specs.declared.macros.Context.{Context}
use Rattle.cm_language.specs.Effect.{selected, assigned, effect, with_value, value_of}
use Rattle.cm_language.specs.Acts.{acts_of}
use Rattle.cm_language.specs.Faults.{writes, first_fault}
use Rattle.cm_language.specs.Laws.{HasFields, Stores, IsLeftAlone, machine_after_macro}
use Rattle.cm_language.proofs.Bits.{get_or-writes}
use Rattle.cm_language.proofs.Numbers.{writes-bits_of}
use Rattle.cm_language.proofs.AllMacros.{macros_are_right}

-- ---- one processor

outside : (d : Span) (a : ℕ) → (IsIn d a → ⊥) → (a < d.at) ⊎ (d.at + d.len ≤ a)
outside d a h =
    ⊎_elim (λ (l : a < d.at). inl l)
    (λ (l : d.at ≤ a). ⊎_elim (λ (k : a < d.at + d.len). absurd (h (record { from = l; below = k })))
    (λ (k : d.at + d.len ≤ a). inr k) (cases_lt a (d.at + d.len)))
    (cases_lt a d.at)

-- a bit beside a field that is written
beside : (d : Span) (v : ℕ) (p : Processor) (a : ℕ) → IsField d → length p.memory ≡ 4096 → (IsIn d a → ⊥)
    → get_or (with_field p.memory d.at d.len v) a false ≡ get_or p.memory a false
beside d v p a field wide h =
    let within : d.at + d.len ≤ 4096 = field.within in
    let long : length (bits_of d.len v) ≡ d.len = length-bits_of d.len v in
    let apart : (a < d.at) ⊎ (d.at + length (bits_of d.len v) ≤ a) =
    ⊎_elim (λ (l : a < d.at). inl l) (λ (l : d.at + d.len ≤ a). inr (omega (arith, long))) (outside d a h) in
    ap (λ m. get_or m a false) (sym (writes-bits_of p.memory d.at d.len v (omega (arith, wide, within))))
    ∙ get_or-writes p.memory d.at (bits_of d.len v) a apart

-- the same where it may not be written
beside_if : (z : Bool) (d : Span) (v : ℕ) (p : Processor) (a : ℕ) → IsField d → length p.memory ≡ 4096
    → (IsIn d a → ⊥) → memory_bit (if z then with_value d v p else p) a ≡ memory_bit p a
beside_if true d v p a field wide h = beside d v p a field wide h
beside_if false d v p a field wide h = refl

flags_if : (z : Bool) (d : Span) (v : ℕ) (p : Processor) (f : ℕ) → flag (if z then with_value d v p else p) f ≡ flag p f
flags_if true d v p f = refl
flags_if false d v p f = refl

other_flag : (fs : List Bool) (g f : ℕ) (b : Bool) → eqb f g ≡ false → get_or (set fs g b) f false ≡ get_or fs f false
other_flag fs g f b h = get_or-set_other fs g f b false (eqb-false f g h)

or_first : (a b : Bool) → (a || b) ≡ false → a ≡ false
or_first true b h = absurd cc
or_first false b h = refl

or_second : (a b : Bool) → (a || b) ≡ false → b ≡ false
or_second true b h = absurd cc
or_second false b h = h

assigned_memory : (m : Macro) (p : Processor) (a : ℕ) → HasFields m → length p.memory ≡ 4096 → (Stores m a → ⊥)
    → memory_bit (assigned m p) a ≡ memory_bit p a
assigned_memory (Add d s) p a f wide h = beside d _ p a f.0 wide h
assigned_memory (Sub d s) p a f wide h = beside d _ p a f.0 wide h
assigned_memory (Less x y) p a f wide h = refl
assigned_memory (Equal x y) p a f wide h = refl
assigned_memory (Move d s) p a f wide h = beside d _ p a f.0 wide h
assigned_memory (Select d s g) p a f wide h = beside_if (flag p g) d (value_of p s) p a f.0 wide h
assigned_memory (Const d v) p a f wide h = beside d v p a f wide h
assigned_memory (Shift d) p a f wide h = beside d _ p a f wide h
assigned_memory (Mul d x y) p a f wide h = beside d _ p a f.0 wide h
assigned_memory (Set g) p a f wide h = refl
assigned_memory (Clear g) p a f wide h = refl

assigned_flags : (m : Macro) (p : Processor) (f : ℕ) → writes m f ≡ false → flag (assigned m p) f ≡ flag p f
assigned_flags (Add d s) p f h = other_flag p.flags 7 f _ h
assigned_flags (Sub d s) p f h = other_flag p.flags 7 f _ h
assigned_flags (Less x y) p f h = other_flag p.flags 7 f _ h
assigned_flags (Equal x y) p f h = other_flag p.flags 7 f _ h
assigned_flags (Move d s) p f h = refl
assigned_flags (Select d s g) p f h = flags_if (flag p g) d (value_of p s) p f
assigned_flags (Const d v) p f h = refl
assigned_flags (Shift d) p f h = other_flag p.flags 7 f _ h
assigned_flags (Mul d x y) p f h = other_flag (set p.flags 6 false) 7 f false (or_second (eqb f 6) (eqb f 7) h)
    ∙ other_flag p.flags 6 f false (or_first (eqb f 6) (eqb f 7) h)
assigned_flags (Set g) p f h = other_flag p.flags g f true h
assigned_flags (Clear g) p f h = other_flag p.flags g f false h

chosen : (z : Bool) (q p : Processor) (a : ℕ) → memory_bit q a ≡ memory_bit p a
    → memory_bit (if z then q else p) a ≡ memory_bit p a
chosen true q p a h = h
chosen false q p a h = refl

chosen_flag : (z : Bool) (q p : Processor) (f : ℕ) → flag q f ≡ flag p f → flag (if z then q else p) f ≡ flag p f
chosen_flag true q p f h = h
chosen_flag false q p f h = refl

pub effect_leaves : (m : Macro) (c : Context) (p : Processor) → HasFields m → IsProcessor p
    → IsLeftAlone m c p (effect m c p)
unfolding effect
effect_leaves m c p f h = record {
  unselected = λ e. rw e refl;
  memory = λ a k. chosen (selected c p) (assigned m p) p a (assigned_memory m p a f h.memory k);
  flags = λ g k. chosen_flag (selected c p) (assigned m p) p g (assigned_flags m p g k);
}

-- ---- all processors

read_back : (n : ℕ) (m : Macro) (c : Context) (machine : Machine) (chip p : ℕ) → chip < 2 ^ n → p < 16
    → processor_at (chip_at (machine_after_macro n m c machine).chips chip) p
    ≡ effect m c (processor_at (chip_at machine.chips chip) p)
unfolding machine_after_macro
read_back n m c machine chip p l k =
    ap (λ row. processor_at row p) (get_or-each_below (2 ^ n) _ chip [] l)
    ∙ get_or-each_below 16 (λ q. effect m c (processor_at (chip_at machine.chips chip) q)) p no_processor k

pub macros_leave_the_rest : (n cap : ℕ) (m : Macro) (c : Context) (machine : Machine) (chip p : ℕ)
    → IsMachine n cap machine → HasFields m → first_fault m c ≡ None
    → chip < 2 ^ n → p < 16 → IsLeftAlone m
    c (processor_at (chip_at machine.chips chip) p)
    (processor_at (chip_at (run_of n cap machine (acts_of m c)).chips chip) p)
macros_leave_the_rest n cap m c machine chip p h f e l k =
    let before : Processor = processor_at (chip_at machine.chips chip) p in
    let is : processor_at (chip_at (run_of n cap machine (acts_of m c)).chips chip) p ≡ effect m c before =
    ap (λ (after : Machine). processor_at (chip_at after.chips chip) p) (macros_are_right n cap m c machine h f e)
    ∙ read_back n m c machine chip p l k in
    subst (λ (q : Processor). IsLeftAlone m c before q) (sym is)
    (effect_leaves m c before f ((h.whole chip l).each p k))
