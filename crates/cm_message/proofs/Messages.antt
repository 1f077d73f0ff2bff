-- A message and its bytes, both ways.
use Rattle.std.proofs.Common.{◌≡◌, ℕ, ◌+◌, ◌<◌, ◌≤◌, ◌^◌, List, [], ◌∷◌, ◌++◌, length, get_or, take, drop, Bool, true}
use Rattle.std.proofs.Common.{false, Some, None, refl, sym, ap, ◌∙◌, arith, mod-eq_of_lt, if◌then◌else◌, rules, tests}
use Rattle.std.proofs.Common.{nat_lt, ◌&&◌}
use Rattle.std.specs.Int.{w8, w16, w32, w64}
use Rattle.std.proofs.lemmas.List.{get_or-drop, length-take, length-drop, take-append-drop, drop-drop, take_all}
use Rattle.std.proofs.lemmas.Nat.{from_be_bytes-to_be_bytes_2, from_be_bytes-to_be_bytes_4, from_be_bytes-to_be_bytes_8}
use Rattle.std.proofs.lemmas.Nat.{be_bytes_2, be_bytes_4, be_bytes_8}
use Rattle.cm_model.specs.declared.message.Message.{Message}
use Rattle.cm_message.specs.Bytes.{number_bytes, message_text, number_from, rel_in, proc_in, payload_in, origin_chip_in}
use Rattle.cm_message.specs.Bytes.{origin_proc_in, birth_in, message_of}
use Rattle.cm_message.specs.Laws.{MessagesAreRead, OnlyTheirBytesAreRead}
use Rattle.cm_message.proofs.Numbers.{small_part, from_be_bytes-take_2, from_be_bytes-take_4, from_be_bytes-take_8}

-- ---- of a message's bytes its parts are read

rel_in-text : (m : Message) → m.rel < 2 ^ 16 → rel_in (message_text m) ≡ m.rel
unfolding number_bytes number_from
rel_in-text m h = from_be_bytes-to_be_bytes_2 m.rel h

proc_in-text : (m : Message) → m.proc < 16 → proc_in (message_text m) ≡ m.proc
unfolding number_bytes
proc_in-text m h = mod-eq_of_lt (omega arith)

payload_in-text : (m : Message) → m.payload < 2 ^ 32 → payload_in (message_text m) ≡ m.payload
unfolding number_bytes number_from
payload_in-text m h = from_be_bytes-to_be_bytes_4 m.payload h

origin_chip_in-text : (m : Message) → m.tag.chip < 2 ^ 16 → origin_chip_in (message_text m) ≡ m.tag.chip
unfolding number_bytes number_from
origin_chip_in-text m h = from_be_bytes-to_be_bytes_2 m.tag.chip h

origin_proc_in-text : (m : Message) → m.tag.proc < 16 → origin_proc_in (message_text m) ≡ m.tag.proc
unfolding number_bytes
origin_proc_in-text m h = mod-eq_of_lt (omega arith)

birth_in-text : (m : Message) → m.tag.birth < 2 ^ 64 → birth_in (message_text m) ≡ m.tag.birth
unfolding number_bytes number_from
birth_in-text m h = from_be_bytes-to_be_bytes_8 m.tag.birth h

both_below : (p q : ℕ) (m : Message) → p < 16 → q < 16 → (if nat_lt p 16 && nat_lt q 16 then Some m else None) ≡ Some m
both_below p q m below also = search (rules, tests)

pub messages_are_read : MessagesAreRead
unfolding message_of
messages_are_read m is birth =
    let rel = rel_in-text m is.rel in
    let proc = proc_in-text m is.proc in
    let payload = payload_in-text m is.payload in
    let chip = origin_chip_in-text m is.origin in
    let sender = origin_proc_in-text m is.sender in
    let born = birth_in-text m birth in
    rw (rel, proc, payload, chip, sender, born) (both_below m.proc m.tag.proc m is.proc is.sender)

-- ---- the bytes of which parts are read are the bytes of the parts

pair : (bytes : List ℕ) (at : ℕ) → at + 2 ≤ length bytes → ((i : ℕ) → get_or bytes i 0 < 256)
    → number_bytes w16 (number_from w16 at bytes) ≡ take 2 (drop at bytes)
unfolding number_bytes number_from
pair bytes at long small =
    be_bytes_2 (take 2 (drop at bytes)) _ (omega (arith, length-take 2 (drop at bytes), length-drop at bytes))
    (small_part bytes at 2 small) (from_be_bytes-take_2 (drop at bytes))

four : (bytes : List ℕ) (at : ℕ) → at + 4 ≤ length bytes → ((i : ℕ) → get_or bytes i 0 < 256)
    → number_bytes w32 (number_from w32 at bytes) ≡ take 4 (drop at bytes)
unfolding number_bytes number_from
four bytes at long small =
    be_bytes_4 (take 4 (drop at bytes)) _ (omega (arith, length-take 4 (drop at bytes), length-drop at bytes))
    (small_part bytes at 4 small) (from_be_bytes-take_4 (drop at bytes))

eight : (bytes : List ℕ) (at : ℕ) → at + 8 ≤ length bytes → ((i : ℕ) → get_or bytes i 0 < 256)
    → number_bytes w64 (number_from w64 at bytes) ≡ take 8 (drop at bytes)
unfolding number_bytes number_from
eight bytes at long small =
    be_bytes_8 (take 8 (drop at bytes)) _ (omega (arith, length-take 8 (drop at bytes), length-drop at bytes))
    (small_part bytes at 8 small) (from_be_bytes-take_8 (drop at bytes))

first_byte : (bytes : List ℕ) → 1 ≤ length bytes → get_or bytes 0 0 < 256 → number_bytes w8 (get_or bytes 0 0) ≡ take 1 bytes
unfolding number_bytes
first_byte [] long small = absurd (omega (arith, long))
first_byte (a ∷ rest) long small = ap (λ (x : ℕ). x ∷ []) (mod-eq_of_lt small)

byte : (bytes : List ℕ) (at b : ℕ) → get_or (drop at bytes) 0 0 ≡ b → at + 1 ≤ length bytes
    → ((i : ℕ) → get_or bytes i 0 < 256) → number_bytes w8 b ≡ take 1 (drop at bytes)
byte bytes at b is long small =
    ap (number_bytes w8) (sym is)
    ∙ first_byte (drop at bytes) (omega (arith, length-drop at bytes)) (rw (get_or-drop at bytes 0 0) (small (at + 0)))

-- a part and what follows it
onward : (bytes : List ℕ) (at n next : ℕ) → at + n ≡ next → take n (drop at bytes) ++ drop next bytes ≡ drop at bytes
onward bytes at n next is = ap (λ (k : ℕ). take n (drop at bytes) ++ drop k bytes) (sym is)
    ∙ ap (λ (xs : List ℕ). take n (drop at bytes) ++ xs) (sym (drop-drop n at bytes))
    ∙ take-append-drop n (drop at bytes)

all_parts : (bytes : List ℕ) → length bytes ≡ 18
    → take 2 (drop 0 bytes) ++ (take 1 (drop 2 bytes)
    ++ (take 4 (drop 3 bytes) ++ (take 2 (drop 7 bytes) ++ (take 1 (drop 9 bytes) ++ take 8 (drop 10 bytes))))) ≡ bytes
all_parts bytes long =
    let last : take 8 (drop 10 bytes) ≡ drop 10 bytes =
    take_all 8 (drop 10 bytes) (omega (arith, length-drop 10 bytes)) in
    rw (
      last,
      onward bytes 9 1 10 refl,
      onward bytes 7 2 9 refl,
      onward bytes 3 4 7 refl,
      onward bytes 2 1 3 refl,
      onward bytes 0 2 2 refl,
    ) refl

chosen : (b : Bool) (x m : Message) → (if b then Some x else None) ≡ Some m → m ≡ x
chosen true x m is = cc
chosen false x m is = cc

pub only_their_bytes_are_read : OnlyTheirBytesAreRead
unfolding message_of
only_their_bytes_are_read bytes m long small is =
    let read = chosen _ _ m is in
    ap message_text read ∙
    (λ i. pair bytes 0 (omega arith) small i
    ++ (byte bytes 2 (proc_in bytes) (get_or-drop 2 bytes 0 0) (omega arith) small i
    ++ (four bytes 3 (omega arith) small i ++ (pair bytes 7 (omega arith) small i
    ++ (byte bytes 9 (origin_proc_in bytes) (get_or-drop 9 bytes 0 0) (omega arith) small i
    ++ eight bytes 10 (omega arith) small i)))))
    ∙ all_parts bytes long
