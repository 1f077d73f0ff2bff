use Rattle.std.proofs.Common.{◌≡◌, ℕ, suc, ◌+◌, ◌<◌, List, ◌∷◌, ◌++◌, length, get_or, drop, sym, ap, ◌∙◌, arith}
use Rattle.std.proofs.Common.{append_assoc, append-nil, ◌/◌, ◌%◌}
use Rattle.std.proofs.Math.Seq.{drop-cons}
use Rattle.std.proofs.lemmas.List.{drop_all}
use Rattle.cm_language.specs.Listing.{hex_digit}
use Rattle.lab_front.specs.Telling.{behind_byte, hex_text}
use Rattle.lab_front.proofs.telling.push_hex.Goals as goal

-- one byte
abbrev byte_text : ℕ → ℕ → ℕ → List ℕ
byte_text count i byte = hex_digit (byte / 16) ∷ hex_digit (byte % 16) ∷ behind_byte count i

-- one byte more is written
one_more : (bytes whole text written : List ℕ) (i : ℕ) → i < length bytes
    → whole ≡ text ++ hex_text (length bytes) i (drop i bytes)
    → written ≡ text ++ byte_text (length bytes) i (get_or bytes i 0)
    → whole ≡ written ++ hex_text (length bytes) (i + 1) (drop (i + 1) bytes)
unfolding hex_text
one_more bytes whole text written i inside before is =
    let next : suc i ≡ i + 1 = omega arith in
    let byte : ℕ = get_or bytes i 0 in
    before
    ∙ ap (λ left. text ++ hex_text (length bytes) i left) (drop-cons bytes i 0 inside)
    ∙ ap (λ (k : ℕ). text ++ (byte_text (length bytes) i byte ++ hex_text (length bytes) (i + 1) (drop k bytes))) next
    ∙ sym (append_assoc text (byte_text (length bytes) i byte) (hex_text (length bytes) (i + 1) (drop (i + 1) bytes)))
    ∙ ap (λ done. done ++ hex_text (length bytes) (i + 1) (drop (i + 1) bytes)) (sym is)

-- all are written
all_written : (bytes whole text : List ℕ) (i : ℕ) → i ≡ length bytes
    → whole ≡ text ++ hex_text (length bytes) i (drop i bytes) → text ≡ whole
unfolding hex_text
all_written bytes whole text i all are =
    sym (are ∙ ap (λ left. text ++ hex_text (length bytes) i left) (drop_all i bytes (omega (arith, all)))
    ∙ append-nil text)

pub loop-i-preserved : goal.loop-i-preserved
loop-i-preserved c =
    one_more c.args.bytes.now _ c.loop-i.text.items c.push_hex_byte.new.text.items c.loop-i.i c.loop-i-test.true
    c.loop-i.invariant c.in_ok-push_hex_byte.ensures.ok

pub returns : goal.returns
returns c = record {
  ok = all_written c.args.bytes.now _ c.loop-i.text.items c.loop-i.i
      (omega (arith, c.loop-i-test.false, c.loop-i.auto.i-end)) c.loop-i.invariant;
}
