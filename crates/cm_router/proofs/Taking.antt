-- Injection on one chip: whose messages are still to be taken, and the chip when they are told.
use Rattle.std.proofs.Common.{◌≡◌, ℕ, zero, suc, ◌+◌, ◌-◌, ◌*◌, ◌%◌, ◌^◌, ◌<◌, ◌≤◌, ◌==◌, ◌&&◌, ◌||◌, min, Bool, true}
use Rattle.std.proofs.Common.{false, not, Option, Some, None, IfSome, List, [], ◌∷◌, length, get_or, set, take, refl, sym, ap, arith}
use Rattle.std.proofs.Common.{bit_and, bit_or, ◌≢◌, ◌∙◌, w16}
use Rattle.std.proofs.Math.Bool.{and-true, and-false}
use Rattle.std.proofs.Math.Seq.{take-nil}
use Rattle.std.proofs.lemmas.Bool.Decides.{nat_tests}
use Rattle.std.proofs.lemmas.List.{append-nil, get_or-set_same, set-get_or, set-set}
use Rattle.std.proofs.lemmas.List.Folds.{list_any_at}
use Rattle.std.proofs.lemmas.Nat.{one_shl}
use Rattle.std.proofs.lemmas.Nat.Bits.{bit_at-pow_same, bit_at-pow_other, bit_at-trailing_zeros}
use Rattle.std.proofs.lemmas.Nat.Bits.{bit_at_clear_same, bit_at_clear_other}
use Rattle.std.specs.Int.{bit_not, trailing_zeros}
use Rattle.std.specs.List.{filter, list_any, range_with_len}
use Rattle.cm_bits.specs.Bit.{bit}
use Rattle.cm_model.specs.Processor.{Processor, SEND, ACK, flag}
use Rattle.cm_model.specs.Chip.{IsPlane, processor_at, no_processor}
use Rattle.cm_model.specs.Letters.{senders, senders_taken, is_among}
use Rattle.cm_model.specs.Letters.{processor_after_injection, chip_after_injection}
use Rattle.cm_model.proofs.Bits.{bit-bit_and, bit-bit_or, bit-bit_not, bit-zero}
use Rattle.cm_model.proofs.Messages.{field_value-lt}
use Rattle.cm_model.proofs.Each.{same_each_below, get_or-each_below, is_each}
use Rattle.cm_element.specs.Flags.{has_flag}
use Rattle.cm_element.specs.Wide.{with_flag_plane}

-- ---- the list

-- a processor asks to send
abbrev pub asks : List Processor → ℕ → Bool
asks chip p = flag (processor_at chip p) SEND

none_of : (test : ℕ → Bool) (first count : ℕ) → ((p : ℕ) → p < first + count → test p ≡ false)
    → filter test (range_with_len first count) ≡ []
none_of test first zero h = refl
none_of test first (suc count) h =
    rw (h first (omega arith)) (none_of test (first + 1) count (λ p l. h p (omega arith)))

-- of numbers those that pass are the same by two tests that agree
alike : (f g : ℕ → Bool) (first count : ℕ) → first + count ≤ 16 → ((p : ℕ) → p < 16 → f p ≡ g p)
    → filter f (range_with_len first count) ≡ filter g (range_with_len first count)
alike f g first zero within same = refl
alike f g first (suc count) within same =
    rw (same first (omega arith), alike f g (first + 1) count (omega arith) same) refl

-- the first that ask are those that are taken
pub first_asking : (asking room most standing : ℕ) (chip : List Processor) → IsPlane asking (asks chip)
    → most - standing ≡ room → take (min 4 room) (filter (bit asking) (range_with_len 0 16)) ≡ senders_taken most standing chip
unfolding senders
first_asking asking room most standing chip is left =
    ap (take (min 4 room)) (alike (bit asking) (asks chip) 0 16 (omega arith) is)
    ∙ ap (λ (k : ℕ). take (min 4 k) (senders chip)) (sym left)

-- the first number that passes is t, and by another test all others that pass
module _ (f g : ℕ → Bool) (t : ℕ) (passes : f t ≡ true) (fails : g t ≡ false)
    (below : (p : ℕ) → p < t → f p ≡ false) (same : (p : ℕ) → p < 16 → p ≢ t → g p ≡ f p) where
  behind : (first count : ℕ) → t < first → first + count ≤ 16
      → filter f (range_with_len first count) ≡ filter g (range_with_len first count)
  behind first zero past within = refl
  behind first (suc count) past within =
      rw (same first (omega arith) (omega arith), behind (first + 1) count (omega arith) (omega arith)) refl

  found : (before first count : ℕ) → first + before ≡ t → before < count → first + count ≤ 16
      → filter f (range_with_len first count) ≡ t ∷ filter g (range_with_len first count)
  found before first zero is inside within = absurd (omega arith)
  found zero first (suc count) is inside within =
      let here : first ≡ t = omega arith in
      rw (here, passes, fails) (ap (λ ps. t ∷ ps) (behind (t + 1) count (omega arith) (omega arith)))
  found (suc before) first (suc count) is inside within =
      rw (same first (omega arith) (omega arith), below first (omega arith))
      (found before (first + 1) count (omega arith) (omega arith) (omega arith))

-- the lowest bit of a plane is the first of its processors, and without it the others are left
pub next_asking : (asking left : ℕ) → 0 < asking → asking < 2 ^ 16 → 0 < left
    → take left (filter (bit asking) (range_with_len 0 16)) ≡ trailing_zeros w16 asking ∷ take (left - 1)
    (filter (bit (bit_and asking (bit_not w16 (1 * 2 ^ trailing_zeros w16 asking % 65536)))) (range_with_len 0 16))
next_asking asking left some fits more =
    let t : ℕ = trailing_zeros w16 asking in
    let rest : ℕ = bit_and asking (bit_not w16 (1 * 2 ^ t % 65536)) in
    let lowest = bit_at-trailing_zeros w16 asking some fits in
    let much : left ≡ suc (left - 1) = omega arith in
    ap (take left) (found (bit asking) (bit rest) t (ap (λ (v : ℕ). v == 1) lowest.1)
    (ap (λ (v : ℕ). v == 1) (bit_at_clear_same w16 asking t lowest.0))
    (λ p l. ap (λ (v : ℕ). v == 1) (lowest.2 p l))
    (λ p l ne. ap (λ (v : ℕ). v == 1) (bit_at_clear_other w16 asking t lowest.0 p l ne))
    t 0 16 (omega arith) lowest.0 (omega arith))
    ∙ ap (λ k. take k (t ∷ filter (bit rest) (range_with_len 0 16))) much

-- told of the number that was found
pub next_is : (found : Option ℕ) (number : ℕ) (old new : List ℕ) → IfSome found (λ p. p ≡ number) → old ≡ number ∷ new
    → IfSome found (λ p. old ≡ p ∷ new)
next_is None number old new is h = tt
next_is (Some p) number old new is h = rw is h

-- where nobody asks nobody is taken
pub nobody_taken : (room standing : ℕ) (chip : List Processor) → ((p : ℕ) → p < 16 → asks chip p ≡ false)
    → senders_taken room standing chip ≡ []
unfolding senders
nobody_taken room standing chip quiet = rw (none_of (asks chip) 0 16 quiet) (take-nil (min 4 (room - standing)))

-- a test that no element passes fails at each place
pub fails_at : {X : Type 0} (test : X → Bool) (xs : List X) (i : ℕ) (d : X) → list_any test xs ≡ false → i < length xs
    → test (get_or xs i d) ≡ false
fails_at test xs i d none below = grind (arith, list_any_at test xs i d below)

-- of a chip that has not a flag, no processor has it
pub without_flag : (number : ℕ) (chip : List Processor) → length chip ≡ 16 → has_flag number chip ≡ false
    → (p : ℕ) → p < 16 → flag (processor_at chip p) number ≡ false
without_flag number chip long none p below = fails_at (λ q. flag q number) chip p no_processor none (omega arith)

-- a field's value is below that power of two
pub ruleset fields = (field_value-lt)

-- ---- the plane

-- one bit more in the plane
pub bit-with_one : (plane k p : ℕ) → k < 16 → bit (bit_or plane ((1 * 2 ^ k) % 65536)) p ≡ (bit plane p || (k == p))
bit-with_one plane k p below =
    grind (arith, nat_tests, bit-bit_or plane (2 ^ k) p, one_shl k 16 below, bit_at-pow_same, bit_at-pow_other)

pub ruleset one_more = (bit-with_one)

-- ---- the chip

-- who asks goes on asking unless the message was taken
told : (taken : Bool) (processor : Processor)
    → ◌≡◌ {A = Processor} (record processor {
      flags = set (set processor.flags SEND (flag processor SEND && not taken)) ACK taken;
    }) (processor_after_injection taken processor)
told true processor = rw and-false refl
told false processor = rw (and-true, set-get_or) refl

-- SEND without the taken, and then ACK for them alone, is the chip after injection
pub acknowledged : (ps : List ℕ) (chip : List Processor) (asking taken : ℕ) → taken < 2 ^ 16
    → IsPlane asking (asks chip) → IsPlane taken (λ p. is_among p ps)
    → with_flag_plane (with_flag_plane chip SEND (bit (bit_and asking (65535 - taken)))) ACK (bit taken)
    ≡ chip_after_injection ps chip
unfolding chip_after_injection with_flag_plane
acknowledged ps chip asking taken fits asking_is taken_is =
    same_each_below no_processor 16 _ _
    (λ p h.
    rw (get_or-each_below 16 _ p no_processor h, bit-bit_and, bit-bit_not taken p fits h, asking_is p h, taken_is p h)
    (told (is_among p ps) (processor_at chip p)))

-- where no message is taken and nobody is told of an earlier one, the chip is as before
pub nothing_taken : (chip : List Processor) → length chip ≡ 16
    → ((p : ℕ) → p < 16 → flag (processor_at chip p) ACK ≡ false) → chip ≡ chip_after_injection [] chip
unfolding chip_after_injection
nothing_taken chip long quiet =
    is_each no_processor 16 (λ p. processor_after_injection false (processor_at chip p)) chip long
    (λ p h. ap (λ fs. record (processor_at chip p) { flags = fs })
    (sym (rw (quiet p h) at (set-get_or (processor_at chip p).flags ACK false))))

-- of a chip where nobody asks or nobody is told; and of one where some are told
pub ruleset idle = (nobody_taken, nothing_taken, without_flag, fails_at, bit-zero, append-nil, set-get_or)

pub ruleset told_both = (acknowledged, set-set, get_or-set_same)
