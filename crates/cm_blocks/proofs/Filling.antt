-- At a round, sending first and taking in then is the step.
use Rattle.std.proofs.Common.{◌≡◌, ℕ, ◌+◌, ◌-◌, ◌*◌, ◌<◌, ◌≤◌, ◌^◌, ◌++◌, true, false, List, [], length, subst, refl}
use Rattle.std.proofs.Common.{sym, ◌∙◌, ap, ◌⊎◌, inl, inr, get_or, ⊎_elim, arith}
use Rattle.std.proofs.lemmas.Bool.{cases_Bool, cases_lt}
use Rattle.std.proofs.lemmas.Bool.Decides.{nat_tests}
use Rattle.std.proofs.lemmas.Nat.{mul-le, pow_pos, xor_comm}
use Rattle.std.specs.Int.Bits.{xor_self}
use Rattle.std.specs.Prelude.{bit_xor}
use Rattle.std.specs.Option.{option_to_list}
use Rattle.cm_model.specs.declared.message.Message.{Message}
use Rattle.cm_model.specs.Machine.{Machine}
use Rattle.cm_model.specs.Steps.{Step, Instruct, Look, Inject, Cross, Deliver, IsStep}
use Rattle.cm_model.specs.Wiring.{is_cut, way_of}
use Rattle.cm_model.specs.Buffers.{leaving_place, without, buffer_after_dimension}
use Rattle.cm_model.proofs.Each.{get_or-tabulate, same_each}
use Rattle.cm_model.specs.Keeping.{HasRoom}
use Rattle.cm_model.specs.Array.{nth_or_nil}
use Rattle.cm_model.proofs.Flips.{xor_twice}
use Rattle.cm_model.proofs.Rooms.{leaving_makes_room as makes_room}
use Rattle.cm_blocks.specs.Rounds.{is_round}
use Rattle.cm_blocks.specs.Parts.{Part, part, block, block_size, is_within, buffer_in}
use Rattle.cm_blocks.specs.Parcels.{Parcel, mail_in, due, sender}
use Rattle.cm_blocks.specs.Steps.{mail_for, part_after, less, absorbed}
use Rattle.cm_blocks.proofs.Cutting.{within-from, within-below}
use Rattle.cm_blocks.proofs.Local.{read-buffer}
use Rattle.cm_blocks.proofs.Mailing.{high_across, block-fits}

-- a flip leads to another number
flip_differs : (b x : ℕ) → 0 < x → bit_xor b x ≡ b → ⊥
flip_differs b x some same =
    let none : x ≡ 0 = sym (xor_twice x b) ∙ (ap (λ z. bit_xor z b) (xor_comm x b ∙ same) ∙ xor_self b) in
    omega (arith, none, some)

-- blocks of other numbers have other chips
apart : (a b width i : ℕ) → i < width → b * width ≤ a * width + i → a * width + i < b * width + width → a ≡ b
apart a b width i inside from below = by_order (cases_lt a b) (cases_lt b a) where
  by_order : (a < b) ⊎ (b ≤ a) → (b < a) ⊎ (a ≤ b) → a ≡ b
  by_order (inl less) other =
      let m : (a + 1) * width ≤ b * width = mul-le (a + 1) width b width (omega arith) (omega arith) in
      let split : (a + 1) * width ≡ a * width + width = grind arith in
      absurd (omega arith)
  by_order (inr least) (inl more) =
      let m : (b + 1) * width ≤ a * width = mul-le (b + 1) width a width (omega arith) (omega arith) in
      let split : (b + 1) * width ≡ b * width + width = grind arith in
      absurd (omega arith)
  by_order (inr least) (inr most) = omega arith

-- across one of the upper dimensions stands another block
leads_out : (n k b d : ℕ) (machine : Machine) (i : ℕ) → n - k ≤ d → i < block_size n k
    → is_within (block n k b machine) (bit_xor (b * block_size n k + i) (2 ^ d)) ≡ false
unfolding part
leads_out n k b d machine i high inside =
    let s : Part = block n k b machine in
    let other : ℕ = bit_xor (b * block_size n k + i) (2 ^ d) in
    let there : other ≡ bit_xor b (2 ^ (d - (n - k))) * block_size n k + i = high_across (n - k) b i d high inside in
    ⊎_elim
    (λ (e : is_within s other ≡ true).
    absurd (flip_differs b (2 ^ (d - (n - k))) (pow_pos (d - (n - k)))
    (apart (bit_xor b (2 ^ (d - (n - k)))) b (block_size n k) i inside (omega (arith, there, within-from s other e))
    (omega (arith, there, within-below s other e)))))
    (λ (e : is_within s other ≡ false). e)
    (cases_Bool (is_within s other))

dimension : (n cap k b d : ℕ) (machine : Machine) (parcel : Parcel) → n - k ≤ d →
    absorbed n cap (Cross d) parcel (less cap (Cross d) (block n k b machine))
    ≡ part_after n cap (Cross d) parcel (block n k b machine)
unfolding part less absorbed part_after buffer_after_dimension
dimension n cap k b d machine parcel high =
    let s : Part = block n k b machine in
    let first : ℕ = b * block_size n k in
    let stays : ℕ → List Message = λ c. without (buffer_in s c)
    (leaving_place (way_of machine.routing c d) cap d (buffer_in s c)) in
    let buffers = same_each [] first (block_size n k)
    (λ c. buffer_in (less cap (Cross d) s) c ++ option_to_list (mail_in parcel (c - first)))
    (λ c. stays c ++ option_to_list (mail_for cap d parcel s c))
    (λ i inside.
    let e : first + i - first ≡ i = omega arith in
    let kept : buffer_in (less cap (Cross d) s) (first + i) ≡ stays (first + i) =
    ap (λ (z : ℕ). get_or (less cap (Cross d) s).buffers z []) e
    ∙ get_or-tabulate first (block_size n k) stays i [] inside in
    let out : is_within s (bit_xor (first + i) (2 ^ d)) ≡ false = leads_out n k b d machine i high inside in
    ap (λ z. z ++ option_to_list (mail_in parcel (first + i - first))) kept ∙ rw out refl) in
    λ j. record s { buffers = buffers j }

pub leaving_then_taking_in : (n cap k b : ℕ) (machine : Machine) (step : Step) → k ≤ n → b < 2 ^ k → IsStep n step
    → is_round n k step ≡ true →
    absorbed n cap step (due n cap step (block n k (sender n k step b) machine)) (less cap step (block n k b machine))
    ≡ part_after n cap step (due n cap step (block n k (sender n k step b) machine)) (block n k b machine)
unfolding less absorbed
leaving_then_taking_in n cap k b machine (Instruct nano) h l s round = refl
leaving_then_taking_in n cap k b machine Look h l s round = absurd (let wrong : false ≡ true = round in cc)
leaving_then_taking_in n cap k b machine Inject h l s round = absurd (let wrong : false ≡ true = round in cc)
leaving_then_taking_in n cap k b machine (Cross d) h l s round =
    let high : n - k ≤ d = grind (arith, nat_tests) in
    dimension n cap k b d machine (due n cap (Cross d) (block n k (sender n k (Cross d) b) machine)) high
leaving_then_taking_in n cap k b machine Deliver h l s round = absurd (let wrong : false ≡ true = round in cc)

-- a chip whose leaver is gone has room
pub leaving_makes_room : (n cap k b d c : ℕ) (machine : Machine) → k ≤ n → b < 2 ^ k → 0 < cap → HasRoom n cap machine
    → b * block_size n k ≤ c → c < b * block_size n k + block_size n k → is_cut machine.routing c d ≡ false →
    length (buffer_in (less cap (Cross d) (block n k b machine)) c) < cap
unfolding part less
leaving_makes_room n cap k b d c machine h l some room from below joined =
    let s : Part = block n k b machine in
    let first : ℕ = b * block_size n k in
    let fits : first + block_size n k ≤ 2 ^ n = block-fits n k b h l in
    let stays : ℕ → List Message = λ e. without (buffer_in s e)
    (leaving_place (way_of machine.routing e d) cap d (buffer_in s e)) in
    let number : first + (c - first) ≡ c = omega arith in
    let here : buffer_in s c ≡ nth_or_nil machine.buffers c = read-buffer first (block_size n k) machine c from below in
    let kept : buffer_in (less cap (Cross d) s) c ≡ stays c =
    get_or-tabulate first (block_size n k) stays (c - first) [] (omega arith) ∙ ap stays number in
    let within : length (buffer_in s c) ≤ cap =
    subst (λ (ms : List Message). length ms ≤ cap) (sym here) (room c (omega arith)) in
    subst (λ (ms : List Message). length ms < cap) (sym kept)
    (makes_room (way_of machine.routing c d) cap d (buffer_in s c) joined within some)
