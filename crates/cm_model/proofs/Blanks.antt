-- The blank machine is a machine.
use Rattle.std.proofs.Common.{◌≡◌, ℕ, zero, suc, ◌+◌, ◌<◌, ◌≤◌, ◌^◌, false, List, [], length, refl, sym, subst, arith}
use Rattle.std.proofs.lemmas.List.{length-replicate, get_or-replicate}
use Rattle.std.proofs.lemmas.List.Elements.{All-nil}
use Rattle.std.specs.List.{All, count_by, filter_map, flat_map, range_with_len}
use Rattle.cm_model.specs.declared.message.Message.{Message}
use Rattle.cm_model.specs.declared.message.Event.{Event}
use Rattle.cm_model.specs.Processor.{Processor, blank_processor}
use Rattle.cm_model.specs.Chip.{no_processor, blank_chip}
use Rattle.cm_model.specs.Whole.{IsProcessor, IsChip}
use Rattle.cm_model.specs.Wiring.{IsWireOf}
use Rattle.cm_model.specs.Array.{nth_or_nil}
use Rattle.cm_model.specs.Machine.{blank_machine}
use Rattle.cm_model.specs.Account.{Triple, injected_triple, account_at, account, all_injected}
use Rattle.cm_model.specs.Found.{same_tag}
use Rattle.cm_model.specs.Keeping.{IsMessage, IsEventOf, IsMachine}
use Rattle.cm_model.proofs.Each.{length-tabulate, get_or-each_below}

IsProcessor-blank : IsProcessor blank_processor
unfolding blank_processor
IsProcessor-blank = record {
  memory = length-replicate 4096 false;
  flags = length-replicate 16 false;
  zero =
      get_or-replicate 16 8 false false (omega arith);
}

IsChip-blank : IsChip blank_chip
unfolding blank_chip
IsChip-blank = record {
  count = length-tabulate 0 16 (λ p. blank_processor);
  each = λ p l. subst (λ (q : Processor). IsProcessor q)
      (sym (get_or-each_below 16 (λ k. blank_processor) p no_processor l)) IsProcessor-blank;
}

-- nothing on any chip is nothing at all
nothing_gathered : {X : Type 0} (f : ℕ → List X) (a k : ℕ) → ((c : ℕ) → c < a + k → f c ≡ [])
    → flat_map f (range_with_len a k) ≡ []
nothing_gathered f a zero h = refl
nothing_gathered f a (suc k) h = rw (h a (omega arith), nothing_gathered f (a + 1) k (λ c l. h c (omega arith))) refl

no_buffer : (n c : ℕ) → c < 2 ^ n → nth_or_nil (blank_machine n).buffers c ≡ []
unfolding blank_machine
no_buffer n c l = get_or-each_below {X = List Message} (2 ^ n) (λ b. []) c [] l

no_log : (n c : ℕ) → c < 2 ^ n → nth_or_nil (blank_machine n).logs c ≡ []
unfolding blank_machine
no_log n c l = get_or-each_below {X = List Event} (2 ^ n) (λ b. []) c [] l

no_account : (n : ℕ) → account n (blank_machine n) ≡ []
unfolding account
no_account n = nothing_gathered (account_at (blank_machine n)) 0 (2 ^ n)
    (λ c l. rw (no_buffer n c (omega arith), no_log n c (omega arith)) refl)

none_injected : (n : ℕ) → all_injected n (blank_machine n) ≡ []
unfolding all_injected
none_injected n = nothing_gathered (λ c. filter_map injected_triple (nth_or_nil (blank_machine n).logs c)) 0 (2 ^ n)
    (λ c l. rw (no_log n c (omega arith)) refl)

-- at whatever count of petit cycles
pub IsMachine-blank_at : (n cap clock : ℕ) → IsMachine n cap (record (blank_machine n) { clock = clock })
unfolding blank_machine account all_injected
IsMachine-blank_at n cap clock = record {
  chip_count = length-tabulate 0 (2 ^ n) (λ c. blank_chip);
  buffer_count = length-tabulate {X = List Message} 0 (2 ^ n) (λ c. []);
  log_count = length-tabulate {X = List Event} 0 (2 ^ n) (λ c. []);
  whole = λ c l. subst (λ (chip : List Processor). IsChip chip)
      (sym (get_or-each_below (2 ^ n) (λ b. blank_chip) c [] l)) IsChip-blank;
  room = λ c l. subst (λ (ms : List Message). length ms ≤ cap) (sym (no_buffer n c l)) (omega arith);
  messages = λ c l. subst (λ (ms : List Message). All (IsMessage n) ms) (sym (no_buffer n c l)) (All-nil (IsMessage n));
  events = λ c l. subst (λ (es : List Event). All (IsEventOf n c) es) (sym (no_log n c l)) (All-nil (IsEventOf n c));
  routing = record { within = All-nil (IsWireOf n); rising = tt };
  births = subst (λ (lines : List Triple). All (λ triple. triple.tag.birth < clock) lines) (sym (no_account n))
      (All-nil (λ (triple : Triple). triple.tag.birth < clock));
  tags = λ tag. subst (λ (lines : List Triple). count_by (λ triple. same_tag triple.tag tag) lines ≤ 1)
      (sym (no_account n)) (omega arith);
  injected = λ kind. subst
      (λ (lines : List Triple). count_by kind lines ≤ count_by kind (account n (blank_machine n)))
      (sym (none_injected n)) (omega arith);
}

pub IsMachine-blank : (n cap : ℕ) → IsMachine n cap (blank_machine n)
unfolding blank_machine
IsMachine-blank n cap = IsMachine-blank_at n cap 0
