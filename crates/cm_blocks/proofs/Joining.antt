-- The blocks in order are the whole machine.
use Rattle.std.proofs.Common.{◌≡◌, ℕ, zero, suc, ◌+◌, ◌-◌, ◌*◌, ◌≤◌, ◌^◌, List, ◌++◌, length, take, drop, sym}
use Rattle.std.proofs.Common.{◌∙◌, ap, arith}
use Rattle.std.proofs.lemmas.Nat.{pow-add}
use Rattle.std.proofs.lemmas.List.{take_all, drop-drop}
use Rattle.std.proofs.Math.Seq.{take-add}
use Rattle.std.specs.List.{flat_map, range_with_len}
use Rattle.cm_model.specs.Machine.{Machine}
use Rattle.cm_blocks.specs.Parts.{sliced, part, block_size}
use Rattle.cm_blocks.specs.Laws.{AreJoined}

-- so many cuts of one size, one after another, are one cut
cuts : {X : Type 0} (xs : List X) (width a j : ℕ)
    → flat_map (λ b. sliced (b * width) width xs) (range_with_len a j) ≡ take (j * width) (drop (a * width) xs)
unfolding sliced
cuts xs width a zero =
    let none : 0 * width ≡ 0 = omega arith in ap (λ (k : ℕ). take k (drop (a * width) xs)) (sym none)
cuts xs width a (suc j) =
    let next : (a + 1) * width ≡ a * width + width = grind arith in
    let more : suc j * width ≡ width + j * width = grind arith in
    ap (λ z. take width (drop (a * width) xs) ++ z)
    (cuts xs width (a + 1) j
    ∙ ap (take (j * width)) (ap (λ (k : ℕ). drop k xs) next ∙ sym (drop-drop width (a * width) xs)))
    ∙ (sym (take-add width (j * width) (drop (a * width) xs)) ∙ ap (λ (k : ℕ). take k (drop (a * width) xs)) (sym more))

all_cuts : {X : Type 0} (n k : ℕ) (xs : List X) → k ≤ n → length xs ≡ 2 ^ n
    → flat_map (λ b. sliced (b * block_size n k) (block_size n k) xs) (range_with_len 0 (2 ^ k)) ≡ xs
all_cuts n k xs h long =
    let whole : 2 ^ n ≡ 2 ^ k * 2 ^ (n - k) =
    ap (λ (z : ℕ). 2 ^ z) (let e : n ≡ k + (n - k) = omega arith in e) ∙ pow-add 2 k (n - k) in
    let from : 0 * block_size n k ≡ 0 = omega arith in
    cuts xs (block_size n k) 0 (2 ^ k)
    ∙ (ap (λ (z : ℕ). take (2 ^ k * block_size n k) (drop z xs)) from
    ∙ take_all (2 ^ k * block_size n k) xs (omega (arith, whole, long)))

pub blocks_are_the_whole : (n k : ℕ) (machine : Machine) → k ≤ n → length machine.chips ≡ 2 ^ n
    → length machine.buffers ≡ 2 ^ n → length machine.logs ≡ 2 ^ n → AreJoined n k machine
unfolding part
blocks_are_the_whole n k machine h chips buffers logs = record {
  chips = all_cuts n k machine.chips h chips;
  buffers = all_cuts n k machine.buffers h buffers;
  logs = all_cuts n k machine.logs h logs;
}
