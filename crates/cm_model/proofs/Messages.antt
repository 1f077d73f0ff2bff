-- Every step keeps the messages of a cube within it.
use Rattle.std.proofs.Common.{◌≡◌, ℕ, zero, suc, ◌*◌, ◌<◌, ◌≤◌, ◌^◌, Bool, true, false, not, ◌&&◌, List, [], ◌∷◌}
use Rattle.std.proofs.Common.{length, map, take, drop, Option, Some, None, refl, ⊎_elim, arith}
use Rattle.std.proofs.lemmas.Bool.{cases_Bool, and_parts, eqb-true}
use Rattle.std.proofs.lemmas.List.{length-take}
use Rattle.std.proofs.lemmas.List.Elements.{All-nil, All-cons, All-head, All-tail, All-append, All-take, All-drop}
use Rattle.std.proofs.Math.Numerals.{unary_clauses}
use Rattle.std.proofs.Math.Pow.{pow_mono}
use Rattle.std.proofs.lemmas.Nat.{pow_pos}
use Rattle.std.specs.Prelude.{slice_get}
use Rattle.std.specs.List.{All}
use Rattle.std.specs.Option.{option_map, option_to_list}
use Rattle.cm_model.specs.declared.letters.TheConstants.{SENT_PROC, SENT_PAYLOAD}
use Rattle.cm_model.specs.declared.message.Message.{Message}
use Rattle.cm_model.specs.declared.message.Event.TheVariants.{Injected, Delivered}
use Rattle.cm_model.specs.Processor.{Processor, value, field_value}
use Rattle.cm_model.specs.Chip.{processor_at}
use Rattle.cm_model.specs.Router.{message_across}
use Rattle.cm_model.specs.Letters.{message_sent, messages_sent, has_arrived, is_among}
use Rattle.cm_model.specs.Wiring.{Way}
use Rattle.cm_model.specs.Buffers.{leaving_place, element_at, without, outgoing, buffer_after_dimension}
use Rattle.cm_model.specs.OneChip.{is_accepted}
use Rattle.cm_model.specs.OneChip.{arrived_for, delivered, kept}
use Rattle.cm_model.specs.Keeping.{IsMessage, IsEventOf}
use Rattle.cm_model.proofs.Flips.{across_below}
use Rattle.cm_model.proofs.Injecting.{AllBelow}

-- ---- values of fields

pub value-lt : (bs : List Bool) → value bs < 2 ^ length bs
value-lt [] = omega arith
value-lt (true ∷ bs) = let h : value bs < 2 ^ length bs = value-lt bs in
    let twice : 2 ^ suc (length bs) ≡ 2 ^ length bs * 2 = simp unary_clauses in omega arith
value-lt (false ∷ bs) = let h : value bs < 2 ^ length bs = value-lt bs in
    let twice : 2 ^ suc (length bs) ≡ 2 ^ length bs * 2 = simp unary_clauses in omega arith

-- a field of so many bits has a value below that power of two
pub field_value-lt : (processor : Processor) (at len : ℕ) → field_value processor at len < 2 ^ len
unfolding field_value
field_value-lt processor at len =
    let h : value (take len (drop at processor.memory)) < 2 ^ length (take len (drop at processor.memory)) =
    value-lt (take len (drop at processor.memory)) in
    let short : length (take len (drop at processor.memory)) ≤ len =
    omega (arith, length-take len (drop at processor.memory)) in
    let most : 2 ^ length (take len (drop at processor.memory)) ≤ 2 ^ len = pow_mono short in
    omega arith

-- ---- what a chip sends

IsMessage-sent : (n clock c : ℕ) (chip : List Processor) (p : ℕ) → c < 2 ^ n → p < 16
    → IsMessage n (message_sent n clock c chip p)
IsMessage-sent n clock c chip p l k =
    let some : 0 < 2 ^ n = pow_pos n in
    record {
      rel = omega arith;
      proc = field_value-lt (processor_at chip p) SENT_PROC 4;
      payload = field_value-lt (processor_at chip p) SENT_PAYLOAD 32;
      origin = l;
      sender = k;
    }

pub AllMessages-sent : (n clock c : ℕ) (chip : List Processor) (ps : List ℕ) → c < 2 ^ n → AllBelow 16 ps
    → All (IsMessage n) (messages_sent n clock c chip ps)
AllMessages-sent n clock c chip [] l h = All-nil (IsMessage n)
AllMessages-sent n clock c chip (p ∷ ps) l h =
    All-cons (IsMessage n) (message_sent n clock c chip p) (messages_sent n clock c chip ps)
    (IsMessage-sent n clock c chip p l h.0) (AllMessages-sent n clock c chip ps l h.1)

-- the events that tell of it are of its chip
pub AllEvents-sent : (n clock c : ℕ) (chip : List Processor) (ps : List ℕ) → c < 2 ^ n → AllBelow 16 ps
    → All (IsEventOf n c) (map Injected (messages_sent n clock c chip ps))
AllEvents-sent n clock c chip [] l h = All-nil (IsEventOf n c)
AllEvents-sent n clock c chip (p ∷ ps) l h =
    All-cons (IsEventOf n c) (Injected (message_sent n clock c chip p)) (map Injected (messages_sent n clock c chip ps))
    (record { message = IsMessage-sent n clock c chip p l h.0; here = refl }) (AllEvents-sent n clock c chip ps l h.1)

-- ---- a dimension

All-without : (n : ℕ) (ms : List Message) (o : Option ℕ) → All (IsMessage n) ms → All (IsMessage n) (without ms o)
All-without n ms None h = h
All-without n ms (Some i) h =
    All-append (IsMessage n) (take i ms) (drop (suc i) ms) (All-take (IsMessage n) i ms h)
    (All-drop (IsMessage n) (suc i) ms h)

IsMessage-across : (n d : ℕ) (m : Message) → d < n → IsMessage n m → IsMessage n (message_across d m)
IsMessage-across n d m below h =
    record {
      rel = across_below n d m.rel below h.rel;
      proc = h.proc;
      payload = h.payload;
      origin = h.origin;
      sender =
          h.sender;
    }

All-element : (n : ℕ) (ms : List Message) (i : ℕ) → All (IsMessage n) ms
    → All (IsMessage n) (option_to_list (slice_get ms i))
All-element n [] i h = All-nil (IsMessage n)
All-element n (m ∷ ms) zero h = All-cons (IsMessage n) m [] (All-head (IsMessage n) m ms h) (All-nil (IsMessage n))
All-element n (m ∷ ms) (suc i) h = All-element n ms i (All-tail (IsMessage n) m ms h)

All-across : (n d : ℕ) (o : Option Message) → d < n → All (IsMessage n) (option_to_list o)
    → All (IsMessage n) (option_to_list (option_map (message_across d) o))
All-across n d None below h = All-nil (IsMessage n)
All-across n d (Some m) below h =
    All-cons (IsMessage n) (message_across d m) [] (IsMessage-across n d m below (All-head (IsMessage n) m [] h))
    (All-nil (IsMessage n))

All-element_at : (n : ℕ) (ms : List Message) (o : Option ℕ) → All (IsMessage n) ms
    → All (IsMessage n) (option_to_list (element_at ms o))
All-element_at n ms None h = All-nil (IsMessage n)
All-element_at n ms (Some i) h = All-element n ms i h

pub AllMessages-after_dimension : (way over : Way) (n cap d : ℕ) (here there : List Message) → d < n → All (IsMessage n) here
    → All (IsMessage n) there → All (IsMessage n) (buffer_after_dimension way cap d here (outgoing over cap d there))
unfolding buffer_after_dimension
AllMessages-after_dimension way over n cap d here there below h k =
    All-append (IsMessage n) (without here (leaving_place way cap d here)) (option_to_list (outgoing over cap d there))
    (All-without n here (leaving_place way cap d here) h)
    (All-across n d (element_at there (leaving_place over cap d there)) below
    (All-element_at n there (leaving_place over cap d there) k))

-- ---- delivery

pub AllMessages-kept : (n : ℕ) (receives : ℕ → Bool) (before : List ℕ) (ms : List Message) → All (IsMessage n) ms
    → All (IsMessage n) (kept receives before ms)
AllMessages-kept n receives before [] h = All-nil (IsMessage n)
AllMessages-kept n receives before (m ∷ ms) h =
    let ih : All (IsMessage n) (kept receives (arrived_for before m) ms) =
    AllMessages-kept n receives (arrived_for before m) ms (All-tail (IsMessage n) m ms h) in
    ⊎_elim (λ (e : is_accepted receives before m ≡ true). rw e ih)
    (λ (e : is_accepted receives before m ≡ false). rw e
    (All-cons (IsMessage n) m (kept receives (arrived_for before m) ms) (All-head (IsMessage n) m ms h) ih))
    (cases_Bool (is_accepted receives before m))

-- the events that tell of what is delivered are of its chip
pub AllEvents-delivered : (n c : ℕ) (receives : ℕ → Bool) (before : List ℕ) (ms : List Message) → All (IsMessage n) ms
    → All (IsEventOf n c) (map (λ m. Delivered c m) (delivered receives before ms))
AllEvents-delivered n c receives before [] h = All-nil (IsEventOf n c)
AllEvents-delivered n c receives before (m ∷ ms) h =
    let ih : All (IsEventOf n c) (map (λ m. Delivered c m) (delivered receives (arrived_for before m) ms)) =
    AllEvents-delivered n c receives (arrived_for before m) ms (All-tail (IsMessage n) m ms h) in
    ⊎_elim
    (λ (e : is_accepted receives before m ≡ true).
    let home : has_arrived m ≡ true =
    (and_parts (has_arrived m) (receives m.proc && not (is_among m.proc before)) e).0 in
    rw e (All-cons (IsEventOf n c) (Delivered c m)
    (map (λ m. Delivered c m) (delivered receives (arrived_for before m) ms))
    (record { message = All-head (IsMessage n) m ms h; arrived = eqb-true m.rel 0 home; here = refl }) ih))
    (λ (e : is_accepted receives before m ≡ false). rw e ih)
    (cases_Bool (is_accepted receives before m))
