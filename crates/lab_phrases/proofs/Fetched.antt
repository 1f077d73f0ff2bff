-- A field that comes from another processor, over the grid or along the chain: in all processors at once.
use Rattle.std.proofs.Common.{◌≡◌, ℕ, zero, suc, ◌+◌, ◌-◌, ◌^◌, ◌<◌, ◌≤◌, ◌⊎◌, ◌||◌, Bool, true, false, eqb, List}
use Rattle.std.proofs.Common.{[], ◌∷◌, length, get_or, set, take, map, Option, Some, None, refl, sym, ap}
use Rattle.std.proofs.Common.{◌∙◌, subst, arith, inl, inr, ⊎_elim}
use Rattle.std.specs.Prelude.{if◌then◌else◌}
use Rattle.std.specs.Bool.{beq}
use Rattle.std.specs.List.{flat_map, range_with_len}
use Rattle.std.proofs.Math.Seq.{drop-nil, take-nil}
use Rattle.std.proofs.lemmas.List.{set-set, set-get_or, get_or-set_same}
use Rattle.cm_bits.specs.Span.{Span, IsField}
use Rattle.cm_bits.specs.declared.plane.Dir.{Dir}
use Rattle.cm_bits.specs.declared.plane.Dir.TheVariants.{North}
use Rattle.cm_model.specs.declared.act.Nano.{Nano}
use Rattle.cm_model.specs.declared.act.Act.TheVariants as act
use Rattle.cm_model.specs.Place.{source, opposite, predecessor}
use Rattle.cm_model.specs.Processor.{Processor, value, entry, field_value}
use Rattle.cm_model.specs.Instruction.{takes_incoming, processor_after}
use Rattle.cm_model.specs.Chip.{each_processor, processor_at, no_processor, chip_after}
use Rattle.cm_model.specs.Array.{Chips, each_chip, chip_at, chain_output, incoming, after_nano}
use Rattle.cm_model.specs.Laws.{IsPlace}
use Rattle.cm_model.specs.Letters.{with_field}
use Rattle.cm_model.specs.Machine.{Machine}
use Rattle.cm_model.specs.Buffers.{after_acts}
use Rattle.cm_model.specs.Whole.{IsProcessor}
use Rattle.cm_model.proofs.Each.{get_or-each_below, same_each_below}
use Rattle.cm_model.proofs.Wholes.{IsProcessor-after}
use Rattle.cm_model.proofs.Torus.{neighbours_lead_back}
use Rattle.cm_language.specs.declared.macros.Context.{Context}
use Rattle.cm_language.specs.Effect.{selected, value_of}
use Rattle.cm_language.specs.Acts.{cond_of, sense_of}
use Rattle.cm_language.proofs.Bits.{reads, writes, length-reads, reads-set}
use Rattle.cm_language.proofs.Sums.{table_a}
use Rattle.cm_language.proofs.Steps.{Ready, Free, condition, ready-flag, one_still, one_unselected}
use Rattle.cm_language.proofs.Loops.{IsBehind}
use Rattle.cm_language.proofs.Numbers.{stored, read_value}
use Rattle.cm_language.proofs.Lifting.{with_chips}
use Rattle.lab_phrases.specs.declared.phrase.Phrase.{Phrase}
use Rattle.lab_phrases.specs.declared.phrase.Phrase.TheVariants.{News, Chain}
use Rattle.lab_phrases.specs.Effect.{one_of, phrase_sender}
use Rattle.lab_phrases.specs.Acts.{fetch, keep, fetch_bit}

-- ---- machines, place by place

-- the chips that a function of chip and processor makes
abbrev pub placed : ℕ → (ℕ → ℕ → Processor) → Chips
placed n f = each_chip n (λ c. each_processor (λ p. f c p))

-- the processor at a place
abbrev pub at_place : Chips → ℕ → ℕ → Processor
at_place chips c p = processor_at (chip_at chips c) p

pub at_place-placed : (n : ℕ) (f : ℕ → ℕ → Processor) (c p : ℕ) → c < 2 ^ n → p < 16
    → at_place (placed n f) c p ≡ f c p
at_place-placed n f c p l k =
    ap (λ (chip : List Processor). processor_at chip p) (get_or-each_below (2 ^ n) _ c [] l)
    ∙ get_or-each_below 16 (λ q. f c q) p no_processor k

pub same_placed : (n : ℕ) (f g : ℕ → ℕ → Processor) → ((c p : ℕ) → c < 2 ^ n → p < 16 → f c p ≡ g c p)
    → placed n f ≡ placed n g
same_placed n f g same =
    same_each_below [] (2 ^ n) (λ c. each_processor (λ p. f c p)) (λ c. each_processor (λ p. g c p))
    (λ c l. same_each_below no_processor 16 (λ p. f c p) (λ p. g c p) (λ p k. same c p l k))

after_nano-placed : (n : ℕ) (i : Nano) (chips : Chips)
    → after_nano n i chips ≡ placed n (λ c p. processor_after i (incoming n i chips c p) (at_place chips c p))
unfolding after_nano chip_after
after_nano-placed n i chips = refl

-- chips after instructions
abbrev pub chips_after : ℕ → List Nano → Chips → Chips
chips_after n [] chips = chips
chips_after n (i ∷ is) chips = chips_after n is (after_nano n i chips)

pub acts_done : (n cap : ℕ) (is : List Nano) (machine : Machine)
    → after_acts n cap machine (map act.Nano is) ≡ with_chips machine (chips_after n is machine.chips)
acts_done n cap [] machine = refl
acts_done n cap (i ∷ is) machine = acts_done n cap is (with_chips machine (after_nano n i machine.chips))

-- all processors have their bits and flags
abbrev pub AreWhole : ℕ → Chips → Type 0
AreWhole n chips = (c p : ℕ) → c < 2 ^ n → p < 16 → IsProcessor (at_place chips c p)

whole_after : (n : ℕ) (i : Nano) (chips : Chips) → AreWhole n chips → AreWhole n (after_nano n i chips)
whole_after n i chips whole c p l k =
    let made : ℕ → ℕ → Processor = λ c' p'. processor_after i (incoming n i chips c' p') (at_place chips c' p') in
    let is : at_place (after_nano n i chips) c p ≡ made c p =
    ap (λ (all : Chips). at_place all c p) (after_nano-placed n i chips) ∙ at_place-placed n made c p l k in
    subst (λ (q : Processor). IsProcessor q) (sym is)
    (IsProcessor-after i (incoming n i chips c p) (at_place chips c p) (whole c p l k))

-- ---- one bit, in one processor

-- a flag that takes what another processor sends
pub record TakesIncoming (w : ℕ) : Type 0 where
  pub takes : (eqb w 10 || eqb w 11) ≡ true
  pub stored : eqb w 8 ≡ false
  pub other : eqb 8 w ≡ false
  pub below : w < 16

table_f : (x y z : Bool) → entry 0xaa x y z ≡ z
table_f true true true = refl
table_f true true false = refl
table_f true false true = refl
table_f true false false = refl
table_f false true true = refl
table_f false true false = refl
table_f false false true = refl
table_f false false false = refl

-- the last of some bits
abbrev pub final : List Bool → Bool
final [] = false
final (b ∷ []) = b
final (b ∷ x ∷ bs) = final (x ∷ bs)

-- a processor to which some bits came, from an address on
abbrev pub came : Context → ℕ → ℕ → List Bool → Processor → Processor
came c w a bs p =
    if selected c p then record { memory = writes p.memory a bs; flags = set p.flags w (final bs) } else p

bool_cases : (b : Bool) → (b ≡ true) ⊎ (b ≡ false)
bool_cases true = inl refl
bool_cases false = inr refl

is_chosen : (z : Bool) (p q r : Processor) → z ≡ true → r ≡ p → r ≡ (if z then p else q)
is_chosen z p q r h e = rw h e

is_other : (z : Bool) (p q r : Processor) → z ≡ false → r ≡ q → r ≡ (if z then p else q)
is_other z p q r h e = rw h e

ready : (c : Context) (p : Processor) → IsProcessor p → selected c p ≡ true → Ready c p
ready c p h e = record { here = e; zero_flag = h.zero; long = h.flags }

fetch_step : (c : Context) (w s : ℕ) (dir : Dir) (b : Bool) (p : Processor) → TakesIncoming w → Ready c p
    → processor_after (fetch c w dir s) b p ≡ record { memory = p.memory; flags = set p.flags w b }
unfolding processor_after
fetch_step c w s dir b p line h =
    let met : beq (get_or p.flags (cond_of c) false) (sense_of c) ≡ true = condition c p h.zero_flag ∙ h.here in
    let x : Bool = get_or p.memory s false in
    let same : set p.memory s (entry 0xf0 x x (get_or p.flags 8 false)) ≡ p.memory =
    ap (set p.memory s) (table_a x x (get_or p.flags 8 false)) ∙ set-get_or p.memory s false in
    rw (met, line.takes, line.stored) (λ i. record { memory = same i; flags = set p.flags w b })

fetch_unselected : (c : Context) (w s : ℕ) (dir : Dir) (b : Bool) (p : Processor) → get_or p.flags 8 false ≡ false
    → selected c p ≡ false → processor_after (fetch c w dir s) b p ≡ p
unfolding processor_after
fetch_unselected c w s dir b p zero_flag h =
    let met : beq (get_or p.flags (cond_of c) false) (sense_of c) ≡ false = condition c p zero_flag ∙ h in
    rw met refl

keep_step : (c : Context) (w a : ℕ) (b : Bool) (p : Processor) → TakesIncoming w → Free c w → Ready c p
    → processor_after (keep c w a) false (record { memory = p.memory; flags = set p.flags w b })
    ≡ record { memory = set p.memory a b; flags = set p.flags w b }
keep_step c w a b p line free h =
    let x : Bool = get_or p.memory a false in
    let q : Processor = record { memory = p.memory; flags = set p.flags w b } in
    let here : get_or (set p.flags w b) w false ≡ b =
    get_or-set_same p.flags w b false
    (let long : length p.flags ≡ 16 = h.long in let below : w < 16 = line.below in omega (arith, long, below)) in
    one_still c a a w 0xaa 0x00 q (ready-flag c p.memory w b p free line.other h)
    ∙ (λ i. record {
      memory = set p.memory a ((table_f x x (get_or (set p.flags w b) w false) ∙ here) i);
      flags = set p.flags w b;
    })

-- the bit is fetched and kept
bit_came : (c : Context) (w a s : ℕ) (dir : Dir) (b : Bool) (p : Processor) → TakesIncoming w → Free c w
    → IsProcessor p
    → processor_after (keep c w a) false (processor_after (fetch c w dir s) b p) ≡ came c w a (b ∷ []) p
bit_came c w a s dir b p line free h =
    ⊎_elim
    (λ (e : selected c p ≡ true). is_chosen (selected c p) _ p _ e
    (ap (processor_after (keep c w a) false) (fetch_step c w s dir b p line (ready c p h e))
    ∙ keep_step c w a b p line free (ready c p h e)))
    (λ (e : selected c p ≡ false). is_other (selected c p) _ p _ e
    (ap (processor_after (keep c w a) false) (fetch_unselected c w s dir b p h.zero e)
    ∙ one_unselected c a a w 8 0xaa 0x00 p h.zero e))
    (bool_cases (selected c p))

-- a bit, and then more
came_more : (c : Context) (w a : ℕ) (b y : Bool) (ys : List Bool) (p : Processor) → TakesIncoming w → Free c w
    → IsProcessor p → came c w (a + 1) (y ∷ ys) (came c w a (b ∷ []) p) ≡ came c w a (b ∷ y ∷ ys) p
came_more c w a b y ys p line free h =
    let q : Processor = record { memory = set p.memory a b; flags = set p.flags w b } in
    let z : Bool = final (y ∷ ys) in
    ⊎_elim
    (λ (e : selected c p ≡ true). is_chosen (selected c p) _ p _ e
    (ap (came c w (a + 1) (y ∷ ys)) (sym (is_chosen (selected c p) q p q e refl))
    ∙ sym (is_chosen (selected c q) (record { memory = writes q.memory (a + 1) (y ∷ ys); flags = set q.flags w z }) q
    (record { memory = writes q.memory (a + 1) (y ∷ ys); flags = set q.flags w z })
    (ready-flag c (set p.memory a b) w b p free line.other (ready c p h e)).here refl)
    ∙ (λ i. record { memory = writes p.memory a (b ∷ y ∷ ys); flags = set-set p.flags w b z i })))
    (λ (e : selected c p ≡ false). is_other (selected c p) _ p _ e
    (ap (came c w (a + 1) (y ∷ ys)) (sym (is_other (selected c p) q p p e refl))
    ∙ sym (is_other (selected c p)
    (record { memory = writes p.memory (a + 1) (y ∷ ys); flags = set p.flags w z }) p p e refl)))
    (bool_cases (selected c p))

-- a run of bits that this one is not of is read as before
came_beside : (c : Context) (w a : ℕ) (b : Bool) (p : Processor) (x k : ℕ) → (a < x) ⊎ (x + k ≤ a)
    → reads (came c w a (b ∷ []) p).memory x k ≡ reads p.memory x k
came_beside c w a b p x k h =
    let q : Processor = record { memory = set p.memory a b; flags = set p.flags w b } in
    ⊎_elim
    (λ (e : selected c p ≡ true). ap (λ (r : Processor). reads r.memory x k)
    (sym (is_chosen (selected c p) q p q e refl)) ∙ reads-set p.memory a b x k h)
    (λ (e : selected c p ≡ false). ap (λ (r : Processor). reads r.memory x k)
    (sym (is_other (selected c p) q p p e refl)))
    (bool_cases (selected c p))

-- ---- the processor that sends

-- what comes in is the bit of the processor that sends, whatever the chips
abbrev pub IsSent : ℕ → Phrase → Context → ℕ → Dir → Type 0
IsSent n phrase context w dir = (s : ℕ) (chips : Chips) (c p : ℕ)
    → incoming n (fetch context w dir s) chips c p ≡ get_or (phrase_sender n phrase chips c p).memory s false

pub sent_over_news : (n : ℕ) (d s : Span) (dir : Dir) (context : Context) → IsSent n (News d s dir) context 10 dir
unfolding incoming
sent_over_news n d s dir context a chips c p =
    let from : Processor = phrase_sender n (News d s dir) chips c p in
    table_a (get_or from.memory a false) (get_or from.memory a false) (get_or from.flags 8 false)

sent_by : (context : Context) (a : ℕ) (chip : List Processor) (o : Option ℕ)
    → chain_output (fetch context 11 North a) chip o ≡ get_or (one_of chip o).memory a false
sent_by context a chip None = refl
sent_by context a chip (Some q) =
    let from : Processor = processor_at chip q in
    table_a (get_or from.memory a false) (get_or from.memory a false) (get_or from.flags 8 false)

pub sent_along_chain : (n : ℕ) (d s : Span) (context : Context) → IsSent n (Chain d s) context 11 North
unfolding incoming
sent_along_chain n d s context a chips c p = sent_by context a (chip_at chips c) (predecessor p)

-- where all processors read alike, those that send do
abbrev pub IsFrom : ℕ → Phrase → Type 0
IsFrom n phrase = (chips others : Chips) (x k : ℕ)
    → ((c p : ℕ) → c < 2 ^ n → p < 16
    → reads (at_place others c p).memory x k ≡ reads (at_place chips c p).memory x k)
    → (c p : ℕ) → c < 2 ^ n → p < 16
    → reads (phrase_sender n phrase others c p).memory x k ≡ reads (phrase_sender n phrase chips c p).memory x k

pub from_neighbour : (n : ℕ) (d s : Span) (dir : Dir) → IsFrom n (News d s dir)
from_neighbour n d s dir chips others x k same c p l m =
    let here : IsPlace n (record { chip = c; proc = p }) = record { chip = l; proc = m } in
    let there : IsPlace n (source n dir (record { chip = c; proc = p })) =
    (neighbours_lead_back n (opposite dir) (record { chip = c; proc = p }) here).within in
    same (source n dir (record { chip = c; proc = p })).chip (source n dir (record { chip = c; proc = p })).proc
    there.chip there.proc

before_reads : (b : Bool) (chip other : List Processor) (q x k : ℕ)
    → reads (processor_at other q).memory x k ≡ reads (processor_at chip q).memory x k
    → reads (one_of other (if b then None else Some q)).memory x k
    ≡ reads (one_of chip (if b then None else Some q)).memory x k
before_reads true chip other q x k same = refl
before_reads false chip other q x k same = same

pub from_before : (n : ℕ) (d s : Span) → IsFrom n (Chain d s)
from_before n d s chips others x k same c p l m =
    before_reads (eqb p 0) (chip_at chips c) (chip_at others c) (p - 1) x k (same c (p - 1) l (omega arith))

-- ---- all bits, in all processors

-- what a phrase fetches over a flag
pub record IsFetching (n : ℕ) (phrase : Phrase) (c : Context) (w : ℕ) (dir : Dir) (d s : Span) : Type 0 where
  pub line : TakesIncoming w
  pub free : Free c w
  pub sent : IsSent n phrase c w dir
  pub from : IsFrom n phrase
  pub behind : IsBehind d.at s.at d.len

nothing_comes_in : (i : Nano) (b : Bool) (p : Processor) → takes_incoming i ≡ false
    → processor_after i b p ≡ processor_after i false p
unfolding processor_after
nothing_comes_in i b p home = rw (home) refl

-- one bit
bit_fetched : (n : ℕ) (phrase : Phrase) (c : Context) (w : ℕ) (dir : Dir) (d s : Span) (j : ℕ) (chips : Chips)
    → IsFetching n phrase c w dir d s → AreWhole n chips
    → chips_after n (fetch_bit c w dir d s j) chips
    ≡ placed n (λ ch p. came c w (d.at + j)
    (get_or (phrase_sender n phrase chips ch p).memory (s.at + j) false ∷ []) (at_place chips ch p))
bit_fetched n phrase c w dir d s j chips is whole =
    let first : Nano = fetch c w dir (s.at + j) in
    let second : Nano = keep c w (d.at + j) in
    let middle : Chips = after_nano n first chips in
    let made : ℕ → ℕ → Processor = λ ch p. processor_after first (incoming n first chips ch p) (at_place chips ch p) in
    after_nano-placed n second middle
    ∙ same_placed n (λ ch p. processor_after second (incoming n second middle ch p) (at_place middle ch p))
    (λ ch p. came c w (d.at + j)
    (get_or (phrase_sender n phrase chips ch p).memory (s.at + j) false ∷ []) (at_place chips ch p))
    (λ ch p l k. nothing_comes_in second (incoming n second middle ch p) (at_place middle ch p) refl
    ∙ ap (processor_after second false)
    (ap (λ (all : Chips). at_place all ch p) (after_nano-placed n first chips) ∙ at_place-placed n made ch p l k
    ∙ ap (λ (b : Bool). processor_after first b (at_place chips ch p)) (is.sent (s.at + j) chips ch p))
    ∙ bit_came c w (d.at + j) (s.at + j) dir (get_or (phrase_sender n phrase chips ch p).memory (s.at + j) false)
    (at_place chips ch p) is.line is.free (whole ch p l k))

-- what the bit that is written is to the bits that are read later
earlier : (a b len j k : ℕ) → j + suc k ≤ len → IsBehind a b len → (a + j < b + (j + 1)) ⊎ (b + (j + 1) + k ≤ a + j)
earlier a b len j k e h = ⊎_elim (λ (l : a ≤ b). inl (omega (arith, e))) (λ (l : b + len ≤ a). inr (omega (arith, e))) h

-- all bits from one on
pub bits_fetched : (n : ℕ) (phrase : Phrase) (c : Context) (w : ℕ) (dir : Dir) (d s : Span)
    → IsFetching n phrase c w dir d s → (k j : ℕ) (chips : Chips) → j + suc k ≤ d.len → AreWhole n chips
    → chips_after n (flat_map (fetch_bit c w dir d s) (range_with_len j (suc k))) chips
    ≡ placed n (λ ch p. came c w (d.at + j)
    (reads (phrase_sender n phrase chips ch p).memory (s.at + j) (suc k)) (at_place chips ch p))
bits_fetched n phrase c w dir d s is zero j chips within whole = bit_fetched n phrase c w dir d s j chips is whole
bits_fetched n phrase c w dir d s is (suc k) j chips within whole =
    let first : Nano = fetch c w dir (s.at + j) in
    let second : Nano = keep c w (d.at + j) in
    let next : Chips = after_nano n second (after_nano n first chips) in
    let from : ℕ → ℕ → List Bool = λ ch p. (phrase_sender n phrase chips ch p).memory in
    let made : ℕ → ℕ → Processor = λ ch p. came c w (d.at + j) (get_or (from ch p) (s.at + j) false ∷ [])
    (at_place chips ch p) in
    let one : next ≡ placed n made = bit_fetched n phrase c w dir d s j chips is whole in
    let there : (ch p : ℕ) → ch < 2 ^ n → p < 16 → at_place next ch p ≡ made ch p =
    λ ch p l m. ap (λ (all : Chips). at_place all ch p) one ∙ at_place-placed n made ch p l m in
    let behind : (d.at + j < s.at + (j + 1)) ⊎ (s.at + (j + 1) + suc k ≤ d.at + j) =
    earlier d.at s.at d.len j (suc k) within is.behind in
    let read : (ch p : ℕ) → ch < 2 ^ n → p < 16
    → reads (phrase_sender n phrase next ch p).memory (s.at + (j + 1)) (suc k) ≡ reads (from ch p) (s.at + (j + 1)) (suc k) =
    is.from chips next (s.at + (j + 1)) (suc k)
    (λ ch p l m. ap (λ (q : Processor). reads q.memory (s.at + (j + 1)) (suc k)) (there ch p l m)
    ∙ came_beside c w (d.at + j) (get_or (from ch p) (s.at + j) false) (at_place chips ch p)
    (s.at + (j + 1)) (suc k) behind) in
    let a : d.at + (j + 1) ≡ d.at + j + 1 = omega arith in
    let b : s.at + (j + 1) ≡ s.at + j + 1 = omega arith in
    bits_fetched n phrase c w dir d s is k (j + 1) next (omega (arith, within))
    (whole_after n second (after_nano n first chips) (whole_after n first chips whole))
    ∙ same_placed n
    (λ ch p. came c w (d.at + (j + 1))
    (reads (phrase_sender n phrase next ch p).memory (s.at + (j + 1)) (suc k)) (at_place next ch p))
    (λ ch p. came c w (d.at + j) (reads (from ch p) (s.at + j) (suc (suc k))) (at_place chips ch p))
    (λ ch p l m. (λ i. came c w (a i) (read ch p l m i) (there ch p l m i))
    ∙ (λ i. came c w (d.at + j + 1) (reads (from ch p) (b i) (suc k)) (made ch p))
    ∙ came_more c w (d.at + j) (get_or (from ch p) (s.at + j) false) (get_or (from ch p) (s.at + j + 1) false)
    (reads (from ch p) (s.at + j + 1 + 1) k) (at_place chips ch p) is.line is.free (whole ch p l m))

-- ---- what came, as a number

-- a processor that sends: it has all its memory, or there is none
abbrev pub IsSender : Processor → Type 0
IsSender from = (length from.memory ≡ 4096) ⊎ (from ≡ no_processor)

no_bits : (a k : ℕ) → value (reads [] a k) ≡ 0
no_bits a zero = refl
no_bits a (suc k) = omega (arith, no_bits (a + 1) k)

no_number : (s : Span) → value_of no_processor s ≡ 0
unfolding field_value
no_number s = ap (λ (bs : List Bool). value (take s.len bs)) (drop-nil s.at) ∙ ap value (take-nil s.len)

sent_value : (s : Span) (from : Processor) → IsField s → IsSender from
    → value (reads from.memory s.at s.len) ≡ value_of from s
sent_value s from field h =
    ⊎_elim
    (λ (long : length from.memory ≡ 4096). let within : s.at + s.len ≤ 4096 = field.within in
    sym (read_value from s (omega (arith, long, within))))
    (λ (none : from ≡ no_processor). ap (λ (q : Processor). value (reads q.memory s.at s.len)) none
    ∙ no_bits s.at s.len ∙ sym (no_number s) ∙ ap (λ (q : Processor). value_of q s) (sym none))
    h

-- the last bit that came is the highest
final-reads : (m : List Bool) (k a : ℕ) → final (reads m a (suc k)) ≡ get_or m (a + k) false
final-reads m zero a = let e : a ≡ a + 0 = omega arith in ap (λ (i : ℕ). get_or m i false) e
final-reads m (suc k) a =
    let e : a + 1 + k ≡ a + suc k = omega arith in
    final-reads m k (a + 1) ∙ ap (λ (i : ℕ). get_or m i false) e

-- a processor to which a whole field came
pub whole_came : (c : Context) (w : ℕ) (d s : Span) (from p : Processor) → IsField d → IsField s → d.len ≡ s.len
    → IsSender from → IsProcessor p
    → came c w (d.at + 0) (reads from.memory (s.at + 0) d.len) p
    ≡ (if selected c p then record {
      memory = with_field p.memory d.at d.len (value_of from s);
      flags = set p.flags w (get_or from.memory (s.at + (s.len - 1)) false);
    } else p)
whole_came c w d s from p hd hs same h whole =
    let a : d.at + 0 ≡ d.at = omega arith in
    let b : s.at + 0 ≡ s.at = omega arith in
    let some : 1 ≤ s.len = hs.some in
    let within : d.at + d.len ≤ 4096 = hd.within in
    let long : length p.memory ≡ 4096 = whole.memory in
    let bits : List Bool = reads from.memory s.at s.len in
    let count : s.len ≡ suc (s.len - 1) = omega (arith, some) in
    let top : final bits ≡ get_or from.memory (s.at + (s.len - 1)) false =
    ap (λ (k : ℕ). final (reads from.memory s.at k)) count ∙ final-reads from.memory (s.len - 1) s.at in
    (λ i. came c w (a i) (reads from.memory (b i) (same i)) p)
    ∙ (λ i. if selected c p then record {
      memory = stored p.memory d.at d.len bits (value_of from s) (omega (arith, long, within))
          (length-reads from.memory s.at s.len ∙ sym same) (sent_value s from hs h) i;
      flags = set p.flags w (top i);
    } else p)
