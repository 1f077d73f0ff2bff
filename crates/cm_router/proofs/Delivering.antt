-- Delivery on one chip, message by message: what has been delivered and kept when one more was gone through.
use Rattle.std.proofs.Common.{◌≡◌, ℕ, ◌<◌, ◌==◌, ◌&&◌, ◌||◌, Bool, true, false, not, cond, if◌then◌else◌, List, []}
use Rattle.std.proofs.Common.{◌∷◌, ◌++◌, length, Option, Some, None, refl, sym, ◌∙◌, arith}
use Rattle.std.proofs.Common.{get_or-set_same, get_or-set_other, length-set, set, ap, ◌-◌, ◌*◌, ◌%◌, ◌^◌, ◌≢◌, bit_and, lit<, mod-lt}
use Rattle.std.proofs.Math.Bool.{and-true}
use Rattle.std.proofs.lemmas.Bool.{and_parts, eqb-true}
use Rattle.std.proofs.lemmas.Bool.Decides.{nat_tests}
use Rattle.std.proofs.lemmas.List.{append-nil, set-set}
use Rattle.std.proofs.lemmas.List.Elements.{All-tail}
use Rattle.std.proofs.lemmas.Nat.{one_shl}
use Rattle.std.proofs.lemmas.Nat.Bits.{bit_at-pow_same, bit_at-pow_other}
use Rattle.cm_bits.specs.Bit.{bit}
use Rattle.cm_model.specs.Array.{Chips, chip_at}
use Rattle.std.proofs.lemmas.List.Folds.{find-append}
use Rattle.std.specs.List.{find}
use Rattle.cm_model.specs.declared.letters.TheConstants.{RECEIVED_PAYLOAD}
use Rattle.cm_model.specs.declared.message.Message.{Message}
use Rattle.cm_model.specs.Processor.{Processor, RECV}
use Rattle.cm_model.specs.Chip.{processor_at, no_processor, with_flag}
use Rattle.cm_model.specs.Whole.{IsChip}
use Rattle.cm_model.specs.Letters.{can_receive, has_arrived, is_for, is_among, processor_after_delivery}
use Rattle.cm_model.specs.Letters.{chip_after_delivery}
use Rattle.cm_model.specs.OneChip.{is_accepted, arrived_for, delivered, kept}
use Rattle.cm_model.specs.Delivery.{arrived_in, HasDelivered, HasHandedOver}
use Rattle.cm_model.proofs.Each.{is_each, same_each_below, get_or-each_below}
use Rattle.cm_model.proofs.Bits.{bit-bit_and, bit-bit_not}
use Rattle.cm_model.proofs.Scan.{out_of}
use Rattle.cm_model.proofs.Wholes.{IsChip-after_delivery}
use Rattle.cm_element.specs.Wide.{with_memory_field}
use Rattle.cm_router.specs.declared.delivery.Delivery.{Delivery}
use Rattle.cm_router.specs.Deliveries.{chip_handed, run_after, AreBefore}

-- ---- one message more

delivered-more : (receives : ℕ → Bool) (before : List ℕ) (ms : List Message) (m : Message)
    → delivered receives before (ms ++ m ∷ []) ≡ delivered receives before ms ++ delivered receives
    (arrived_in before ms) (m ∷ [])
delivered-more receives before [] m = refl
delivered-more receives before (x ∷ ms) m = grind (arith, delivered-more receives (arrived_for before x) ms m)

kept-more : (receives : ℕ → Bool) (before : List ℕ) (ms : List Message) (m : Message)
    → kept receives before (ms ++ m ∷ []) ≡ kept receives before ms ++ kept receives (arrived_in before ms) (m ∷ [])
kept-more receives before [] m = refl
kept-more receives before (x ∷ ms) m = grind (arith, kept-more receives (arrived_for before x) ms m)

arrived-more : (p : ℕ) (before : List ℕ) (ms : List Message) (m : Message)
    → is_among p (arrived_in before (ms ++ m ∷ []))
    ≡ ((has_arrived m && (m.proc == p)) || is_among p (arrived_in before ms))
arrived-more p before [] m = grind arith
arrived-more p before (x ∷ ms) m = arrived-more p (arrived_for before x) ms m

-- ---- one delivery more on the chip

processor_at-delivered : (ds : List Message) (chip : List Processor) (p : ℕ) → p < 16
    → processor_at (chip_after_delivery ds chip) p ≡ processor_after_delivery (find (is_for p) ds) (processor_at chip p)
unfolding chip_after_delivery
processor_at-delivered ds chip p h = get_or-each_below 16 _ p no_processor h

-- a chip with one more message delivered, to a processor that has got none
delivered_one_more : (ds : List Message) (m : Message) (chip : List Processor)
    → ((p : ℕ) → p < 16 → (m.proc == p) ≡ true → find (is_for p) ds ≡ None)
    → chip_after_delivery (m ∷ []) (chip_after_delivery ds chip) ≡ chip_after_delivery (ds ++ m ∷ []) chip
unfolding chip_after_delivery
delivered_one_more ds m chip none =
    same_each_below no_processor 16 _ _
    (λ p h. rw (processor_at-delivered ds chip p h, find-append (is_for p) ds (m ∷ [])) (grind (arith, none p h)))

-- who can receive then: who could before, unless the message has arrived for that one
pub still_open : (b : Bool) (m : Message) (chip : List Processor) (p : ℕ) → p < 16
    → b ≡ (has_arrived m && can_receive chip m.proc) → (has_arrived m ≡ true → IsChip chip × (m.proc < 16))
    → can_receive (chip_handed b m chip) p ≡ (can_receive chip p && not (has_arrived m && (m.proc == p)))
still_open b m chip p h is known =
    grind (arith, nat_tests, processor_at-delivered (m ∷ []) chip p h, get_or-set_same {A = Bool})

-- such a chip is that after the delivery of one message more
chip_more : (b : Bool) (before : List Processor) (seen : List Message) (m : Message) (chip : List Processor)
    → HasDelivered before seen chip → (b ≡ true → can_receive chip m.proc ≡ true)
    → chip_handed b m chip ≡ chip_after_delivery (out_of before seen ++ (if b then m ∷ [] else [])) before
chip_more true before seen m chip gone receives =
    let out : List Message = out_of before seen in
    rw gone.chip_is (delivered_one_more out m before (λ p h e. grind (
      arith,
      get_or-set_same {A = Bool},
      gone.whole.each p h,
      processor_at-delivered out before p h,
      gone.chip_is,
      eqb-true m.proc p e,
      receives refl,
    )))
chip_more false before seen m chip gone receives = gone.chip_is ∙ rw append-nil refl

-- a message is delivered if it has arrived and its processor can receive, else kept
pub handed_over : (b : Bool) (before : List Processor) (seen : List Message) (m : Message) (chip : List Processor)
    → HasDelivered before seen chip → b ≡ (has_arrived m && can_receive chip m.proc)
    → (has_arrived m ≡ true → IsChip chip × (m.proc < 16)) → HasHandedOver b before seen m (chip_handed b m chip)
handed_over b before seen m chip gone is known =
    let accepted : is_accepted (can_receive before) (arrived_in [] seen) m ≡ b = grind (arith, gone.open m.proc) in
    let delivered_is : out_of before (seen ++ m ∷ []) ≡ out_of before seen ++ (if b then m ∷ [] else []) =
    delivered-more (can_receive before) [] seen m ∙ rw accepted refl in
    record {
      gone = record {
        whole = gone.whole;
        chip_is = rw delivered_is (chip_more b before seen m chip gone (λ e. (and_parts _ _ (sym is ∙ e)).1));
        «open» = λ p h. grind (arith, arrived-more p [] seen m, still_open b m chip p h is known, gone.open p h);
      };
      delivered_is = delivered_is;
      kept_is = kept-more (can_receive before) [] seen m ∙ rw accepted refl;
    }

-- a chip of which one processor was changed
ruleset chip_set = (length-set, get_or-set_same, get_or-set_other)

-- a payload put into the field and a 1 into the flag, one after the other, are what delivery leaves
pub received_is : (m : Message) (chip : List Processor) → length chip ≡ 16 → m.proc < 16
    → with_flag (with_memory_field chip m.proc RECEIVED_PAYLOAD 32 m.payload) m.proc RECV true
    ≡ chip_after_delivery (m ∷ []) chip
unfolding with_flag with_memory_field chip_after_delivery
received_is m chip long there =
    is_each no_processor 16 _ _ (grind (arith, chip_set)) (λ p h. grind (arith, nat_tests, chip_set))

pub nobody_yet : (chip : List Processor) → IsChip chip → chip ≡ chip_after_delivery [] chip
unfolding chip_after_delivery
nobody_yet chip whole = is_each no_processor 16 (λ p. processor_at chip p) chip whole.count (λ p h. refl)

-- none of the messages gone through yet
pub nothing_seen : (chip : List Processor) → IsChip chip → HasDelivered chip [] chip
nothing_seen chip whole = record {
  whole = whole;
  chip_is = nobody_yet chip whole;
  «open» = λ p h. sym (and-true (can_receive chip p));
}

pub ruleset received = (received_is, get_or-set_same, set-set)

-- ---- deliveries that are put down later

pub run_after-append : (ds : List Delivery) (d : Delivery) (run : Chips)
    → run_after (ds ++ d ∷ []) run ≡ set (run_after ds run) d.place
    (chip_after_delivery (d.message ∷ []) (chip_at (run_after ds run) d.place))
run_after-append [] d run = refl
run_after-append (x ∷ ds) d run =
    run_after-append ds d (set run x.place (chip_after_delivery (x.message ∷ []) (chip_at run x.place)))

pub length_run_after : (ds : List Delivery) (run : Chips) → length (run_after ds run) ≡ length run
length_run_after [] run = refl
length_run_after (x ∷ ds) run =
    length_run_after ds (set run x.place (chip_after_delivery (x.message ∷ []) (chip_at run x.place)))
    ∙ length-set run x.place (chip_after_delivery (x.message ∷ []) (chip_at run x.place))

-- a chip behind all of them is as it was
pub chip_behind : (ds : List Delivery) (run : Chips) (place : ℕ) → AreBefore place ds
    → chip_at (run_after ds run) place ≡ chip_at run place
chip_behind [] run place before = refl
chip_behind (x ∷ ds) run place before =
    let here : x.place < place = before 0 x (omega arith) in
    let other : place ≢ x.place = omega arith in
    chip_behind ds (set run x.place (chip_after_delivery (x.message ∷ []) (chip_at run x.place))) place
    (All-tail (λ (d : Delivery). d.place < place) x ds before)
    ∙ get_or-set_other run x.place place (chip_after_delivery (x.message ∷ []) (chip_at run x.place)) [] other

-- one bit less in the plane
bit-one : (k p : ℕ) → k < 16 → bit ((1 * 2 ^ k) % 65536) p ≡ (k == p)
bit-one k p below = grind (arith, nat_tests, one_shl k 16 below, bit_at-pow_same, bit_at-pow_other)

pub bit-without_one : (plane k p : ℕ) → k < 16 → p < 16
    → bit (bit_and plane (65535 - (1 * 2 ^ k) % 65536)) p ≡ (bit plane p && not (k == p))
bit-without_one plane k p below here =
    bit-bit_and plane (65535 - (1 * 2 ^ k) % 65536) p
    ∙ ap (λ (v : Bool). bit plane p && v)
    (bit-bit_not ((1 * 2 ^ k) % 65536) p (mod-lt (1 * 2 ^ k) (lit< tt)) here ∙ ap not (bit-one k p below))

-- a chip of whose buffer some messages have been gone through is whole
pub gone_is_whole : {before : List Processor} {seen : List Message} {chip : List Processor} → HasDelivered before seen chip
    → IsChip chip
gone_is_whole gone = rw gone.chip_is (IsChip-after_delivery _ _ gone.whole)

-- the chip of a place at which another was put
pub chip_then : (run new : Chips) (place : ℕ) (chip : List Processor) → place < length run → new ≡ set run place chip
    → chip_at new place ≡ chip
chip_then run new place chip inside is = ap (λ (r : Chips). chip_at r place) is
    ∙ get_or-set_same run place chip [] inside
