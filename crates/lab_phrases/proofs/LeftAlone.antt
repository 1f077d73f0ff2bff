-- What a phrase leaves alone.
use Rattle.std.proofs.Common.{◌≡◌, ℕ, ◌+◌, ◌<◌, ◌≤◌, ◌^◌, ◌⊎◌, Bool, true, false, eqb, List, [], ◌++◌, length, get_or}
use Rattle.std.proofs.Common.{set, take, drop, None, refl, sym, ap, ◌∙◌, subst, arith, inl, inr, ⊎_elim}
use Rattle.std.specs.Prelude.{if◌then◌else◌}
use Rattle.std.proofs.lemmas.Bool.{cases_lt, eqb-false}
use Rattle.std.proofs.lemmas.List.{get_or-set_other}
use Rattle.cm_bits.specs.Span.{Span, IsField}
use Rattle.cm_bits.specs.Field.{IsIn}
use Rattle.cm_model.specs.Processor.{Processor, memory_bit, flag}
use Rattle.cm_model.specs.Each.{tabulate}
use Rattle.cm_model.specs.Chip.{processor_at, no_processor}
use Rattle.cm_model.specs.Array.{chip_at}
use Rattle.cm_model.specs.Whole.{IsProcessor}
use Rattle.cm_model.specs.Letters.{bits_of, with_field}
use Rattle.cm_model.specs.Machine.{Machine, run_of}
use Rattle.cm_model.specs.Keeping.{IsMachine}
use Rattle.cm_model.proofs.Each.{get_or-each_below, length-tabulate}
use Rattle.cm_model.proofs.Wholes.{length-bits_of}
use Rattle.cm_language.specs.declared.macros.Context.{Context}
use Rattle.cm_language.specs.Effect.{selected}
use Rattle.cm_language.proofs.Bits.{writes-is, get_or-writes}
use Rattle.lab_phrases.specs.declared.phrase.Phrase.{Phrase}
use Rattle.lab_phrases.specs.declared.phrase.Phrase.TheVariants.{News, Chain, And, Or, Xor, Not, AddNumber, Test, Keep}
use Rattle.lab_phrases.specs.Effect.{phrase_sender, phrase_assigned, phrase_effect}
use Rattle.lab_phrases.specs.Acts.{phrase_acts}
use Rattle.lab_phrases.specs.Faults.{phrase_writes, first_phrase_fault}
use Rattle.lab_phrases.specs.Laws.{HasPhraseFields, PhraseStores, PhraseLeavesAlone, machine_after_phrase}
use Rattle.lab_phrases.proofs.AllPhrases.{phrases_are_right}

-- ---- one processor

outside : (d : Span) (a : ℕ) → (IsIn d a → ⊥) → (a < d.at) ⊎ (d.at + d.len ≤ a)
outside d a h =
    ⊎_elim (λ (l : a < d.at). inl l)
    (λ (l : d.at ≤ a). ⊎_elim (λ (k : a < d.at + d.len). absurd (h (record { from = l; below = k })))
    (λ (k : d.at + d.len ≤ a). inr k) (cases_lt a (d.at + d.len)))
    (cases_lt a d.at)

-- a bit beside bits that are written
beside : (d : Span) (bs m : List Bool) (a : ℕ) → IsField d → length bs ≡ d.len → length m ≡ 4096 → (IsIn d a → ⊥)
    → get_or (take d.at m ++ (bs ++ drop (d.at + d.len) m)) a false ≡ get_or m a false
beside d bs m a field long wide h =
    let within : d.at + d.len ≤ 4096 = field.within in
    let room : d.at + length bs ≤ length m = omega (arith, long, wide, within) in
    let apart : (a < d.at) ⊎ (d.at + length bs ≤ a) =
    ⊎_elim (λ (l : a < d.at). inl l) (λ (l : d.at + d.len ≤ a). inr (omega (arith, long))) (outside d a h) in
    ap (λ (k : ℕ). get_or (take d.at m ++ (bs ++ drop (d.at + k) m)) a false) (sym long)
    ∙ ap (λ (n : List Bool). get_or n a false) (sym (writes-is m d.at bs room))
    ∙ get_or-writes m d.at bs a apart

beside_number : (d : Span) (v : ℕ) (m : List Bool) (a : ℕ) → IsField d → length m ≡ 4096 → (IsIn d a → ⊥)
    → get_or (with_field m d.at d.len v) a false ≡ get_or m a false
unfolding with_field
beside_number d v m a field wide h = beside d (bits_of d.len v) m a field (length-bits_of d.len v) wide h

beside_bits : (d : Span) (f : ℕ → Bool) (m : List Bool) (a : ℕ) → IsField d → length m ≡ 4096 → (IsIn d a → ⊥)
    → get_or (take d.at m ++ (tabulate 0 d.len f ++ drop (d.at + d.len) m)) a false ≡ get_or m a false
beside_bits d f m a field wide h = beside d (tabulate 0 d.len f) m a field (length-tabulate 0 d.len f) wide h

assigned_memory : (phrase : Phrase) (from p : Processor) (a : ℕ) → HasPhraseFields phrase → length p.memory ≡ 4096
    → (PhraseStores phrase a → ⊥) → memory_bit (phrase_assigned phrase from p) a ≡ memory_bit p a
assigned_memory (News d s dir) from p a f wide h = beside_number d _ p.memory a f.0 wide h
assigned_memory (Chain d s) from p a f wide h = beside_number d _ p.memory a f.0 wide h
assigned_memory (And d s) from p a f wide h = beside_bits d _ p.memory a f.0 wide h
assigned_memory (Or d s) from p a f wide h = beside_bits d _ p.memory a f.0 wide h
assigned_memory (Xor d s) from p a f wide h = beside_bits d _ p.memory a f.0 wide h
assigned_memory (Not d) from p a f wide h = beside_bits d _ p.memory a f wide h
assigned_memory (AddNumber d v) from p a f wide h = beside_number d _ p.memory a f wide h
assigned_memory (Test g s) from p a f wide h = refl
assigned_memory (Keep d g) from p a f wide h = beside_number d _ p.memory a f.0 wide h

other_flag : (fs : List Bool) (g f : ℕ) (b : Bool) → eqb f g ≡ false → get_or (set fs g b) f false ≡ get_or fs f false
other_flag fs g f b h = get_or-set_other fs g f b false (eqb-false f g h)

assigned_flags : (phrase : Phrase) (from p : Processor) (f : ℕ) → phrase_writes phrase f ≡ false
    → flag (phrase_assigned phrase from p) f ≡ flag p f
assigned_flags (News d s dir) from p f h = other_flag p.flags 10 f _ h
assigned_flags (Chain d s) from p f h = other_flag p.flags 11 f _ h
assigned_flags (And d s) from p f h = refl
assigned_flags (Or d s) from p f h = refl
assigned_flags (Xor d s) from p f h = refl
assigned_flags (Not d) from p f h = refl
assigned_flags (AddNumber d v) from p f h = other_flag p.flags 7 f _ h
assigned_flags (Test g s) from p f h = other_flag p.flags g f _ h
assigned_flags (Keep d g) from p f h = refl

-- the same where it may not be carried out
chosen_memory : (z : Bool) (q p : Processor) (a : ℕ) → memory_bit q a ≡ memory_bit p a
    → memory_bit (if z then q else p) a ≡ memory_bit p a
chosen_memory true q p a h = h
chosen_memory false q p a h = refl

chosen_flag : (z : Bool) (q p : Processor) (f : ℕ) → flag q f ≡ flag p f → flag (if z then q else p) f ≡ flag p f
chosen_flag true q p f h = h
chosen_flag false q p f h = refl

not_chosen : (z : Bool) (q p : Processor) → z ≡ false → (if z then q else p) ≡ p
not_chosen z q p h = rw h refl

effect_leaves : (phrase : Phrase) (c : Context) (from p : Processor) → HasPhraseFields phrase → IsProcessor p
    → PhraseLeavesAlone phrase c p (phrase_effect phrase c from p)
unfolding phrase_effect
effect_leaves phrase c from p f h = record {
  unselected = λ e. not_chosen (selected c p) (phrase_assigned phrase from p) p e;
  memory = λ a k. chosen_memory (selected c p) (phrase_assigned phrase from p) p a
      (assigned_memory phrase from p a f h.memory k);
  flags = λ g k. chosen_flag (selected c p) (phrase_assigned phrase from p) p g (assigned_flags phrase from p g k);
}

-- ---- all processors

read_back : (n : ℕ) (phrase : Phrase) (c : Context) (machine : Machine) (chip p : ℕ) → chip < 2 ^ n → p < 16
    → processor_at (chip_at (machine_after_phrase n phrase c machine).chips chip) p
    ≡ phrase_effect phrase c (phrase_sender n phrase machine.chips chip p) (processor_at (chip_at machine.chips chip) p)
unfolding machine_after_phrase
read_back n phrase c machine chip p l k =
    ap (λ (row : List Processor). processor_at row p) (get_or-each_below (2 ^ n) _ chip [] l)
    ∙ get_or-each_below 16 (λ q. phrase_effect phrase c (phrase_sender n phrase machine.chips chip q)
    (processor_at (chip_at machine.chips chip) q)) p no_processor k

pub phrases_leave_the_rest : (n cap : ℕ) (phrase : Phrase) (c : Context) (machine : Machine) (chip p : ℕ)
    → IsMachine n cap machine → HasPhraseFields phrase → first_phrase_fault phrase c ≡ None
    → chip < 2 ^ n → p < 16 → PhraseLeavesAlone phrase
    c (processor_at (chip_at machine.chips chip) p)
    (processor_at (chip_at (run_of n cap machine (phrase_acts phrase c)).chips chip) p)
phrases_leave_the_rest n cap phrase c machine chip p h f e l k =
    let before : Processor = processor_at (chip_at machine.chips chip) p in
    let from : Processor = phrase_sender n phrase machine.chips chip p in
    let is : processor_at (chip_at (run_of n cap machine (phrase_acts phrase c)).chips chip) p
    ≡ phrase_effect phrase c from before =
    ap (λ (after : Machine). processor_at (chip_at after.chips chip) p)
    (phrases_are_right n cap phrase c machine h f e)
    ∙ read_back n phrase c machine chip p l k in
    subst (λ (q : Processor). PhraseLeavesAlone phrase c before q) (sym is)
    (effect_leaves phrase c from before f ((h.whole chip l).each p k))
