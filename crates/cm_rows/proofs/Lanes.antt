-- Some words of a list, read and put at once.
use Rattle.std.proofs.Common.{◌≡◌, ℕ, ◌+◌, ◌-◌, ◌<◌, ◌≤◌, List, ◌++◌, ◌&&◌, length, take, drop, get_or, bit_and}
use Rattle.std.proofs.Common.{bit_xor, ap, ◌∙◌, sym, arith}
use Rattle.std.proofs.lemmas.List.{length-take-le, length-drop, get_or-take, get_or-drop}
use Rattle.std.proofs.lemmas.List.{get_or-append_right, get_or_append_left}
use Rattle.std.proofs.lemmas.Simd.{length-chunk, get_or-chunk, put_chunk_whole, length-zip2, get_or-zip2}
use borrow.Rule.Slice.PartMut.{put_mid, post_of}
use lib.Lanes.{chunk, put_chunk, zip2}
use Rattle.cm_bits.specs.Bit.{bit, differ}
use Rattle.cm_model.proofs.Bits.{bit-bit_and, bit-bit_xor}

-- a part of a list
pub length-part : (words : List ℕ) (at n : ℕ) → at + n ≤ length words → length (take n (drop at words)) ≡ n
length-part words at n within = length-take-le n (drop at words) (omega (arith, length-drop at words))

pub get_or-part : (words : List ℕ) (at n k : ℕ) → k < n → get_or (take n (drop at words)) k 0 ≡ get_or words (at + k) 0
get_or-part words at n k h = get_or-take n (drop at words) k 0 h ∙ get_or-drop at words k 0

part_long : (words : List ℕ) (at n lanes : ℕ) → n ≡ lanes → at + lanes ≤ length words
    → length (take n (drop at words)) ≡ lanes
part_long words at n lanes is within = length-take-le n (drop at words) (omega (arith, length-drop at words)) ∙ is

pub length-load : (words : List ℕ) (at n lanes : ℕ) → n ≡ lanes → at + lanes ≤ length words
    → length (chunk 0 lanes (take n (drop at words))) ≡ lanes
length-load words at n lanes is within =
    length-chunk 0 lanes (take n (drop at words)) (omega (arith, part_long words at n lanes is within))

pub get_or-load : (words : List ℕ) (at n lanes k : ℕ) → n ≡ lanes → k < lanes
    → get_or (chunk 0 lanes (take n (drop at words))) k 0 ≡ get_or words (at + k) 0
get_or-load words at n lanes k is h =
    get_or-chunk 0 lanes (take n (drop at words)) k 0 h
    ∙ ap (λ (i : ℕ). get_or (take n (drop at words)) i 0) (omega arith)
    ∙ get_or-take n (drop at words) k 0 (omega arith)
    ∙ get_or-drop at words k 0

pub get_or-put : (words lanes : List ℕ) (at n many k : ℕ) → n ≡ many → length lanes ≡ many
    → at + many ≤ length words → k < many
    → get_or (put_mid at n words (put_chunk 0 (take n (drop at words)) lanes)) (at + k) 0 ≡ get_or lanes k 0
get_or-put words lanes at n many k is long within h =
    let head : length (take at words) ≡ at = length-take-le at words (omega arith) in
    let index : at + k - at ≡ k = omega arith in
    ap (λ ys. get_or (put_mid at n words ys) (at + k) 0)
    (put_chunk_whole (take n (drop at words)) lanes (part_long words at n many is within ∙ sym long))
    ∙ get_or-append_right (take at words) (lanes ++ post_of at n words) at (at + k) 0 head (omega arith)
    ∙ ap (λ (i : ℕ). get_or (lanes ++ post_of at n words) i 0) index
    ∙ get_or_append_left lanes (post_of at n words) 0 k (omega (arith, long))

-- a choice by exclusive or, lane by lane
pub bit-kept_lanes : (many : ℕ) (choice old output : List ℕ) → length choice ≡ many → length old ≡ many
    → length output ≡ many → (k : ℕ) → k < many → (p : ℕ)
    → bit (get_or (zip2 bit_xor old (zip2 bit_and choice (zip2 bit_xor old output))) k 0) p
    ≡ differ (bit (get_or old k 0) p)
    (bit (get_or choice k 0) p && differ (bit (get_or old k 0) p) (bit (get_or output k 0) p))
bit-kept_lanes many choice old output c_long o_long n_long k h p =
    let change : List ℕ = zip2 bit_xor old output in
    let change_long : length change ≡ many = length-zip2 bit_xor old output (o_long ∙ sym n_long) ∙ o_long in
    let some : List ℕ = zip2 bit_and choice change in
    let some_long : length some ≡ many = length-zip2 bit_and choice change (c_long ∙ sym change_long) ∙ c_long in
    ap (λ (w : ℕ). bit w p) (get_or-zip2 bit_xor old some k 0 0 0 (omega (arith, o_long)) (omega (arith, some_long))
    ∙ ap (bit_xor (get_or old k 0))
    (get_or-zip2 bit_and choice change k 0 0 0 (omega (arith, c_long)) (omega (arith, change_long))
    ∙ ap (bit_and (get_or choice k 0))
    (get_or-zip2 bit_xor old output k 0 0 0 (omega (arith, o_long)) (omega (arith, n_long)))))
    ∙ bit-bit_xor (get_or old k 0) (bit_and (get_or choice k 0) (bit_xor (get_or old k 0) (get_or output k 0))) p
    ∙ ap (differ (bit (get_or old k 0) p))
    (bit-bit_and (get_or choice k 0) (bit_xor (get_or old k 0) (get_or output k 0)) p
    ∙ ap (λ v. bit (get_or choice k 0) p && v) (bit-bit_xor (get_or old k 0) (get_or output k 0) p))

pub length-kept_lanes : (many : ℕ) (choice old output : List ℕ) → length choice ≡ many → length old ≡ many
    → length output ≡ many → length (zip2 bit_xor old (zip2 bit_and choice (zip2 bit_xor old output))) ≡ many
length-kept_lanes many choice old output c_long o_long n_long =
    let change_long : length (zip2 bit_xor old output) ≡ many =
    length-zip2 bit_xor old output (o_long ∙ sym n_long) ∙ o_long in
    let some_long : length (zip2 bit_and choice (zip2 bit_xor old output)) ≡ many =
    length-zip2 bit_and choice (zip2 bit_xor old output) (c_long ∙ sym change_long) ∙ c_long in
    length-zip2 bit_xor old (zip2 bit_and choice (zip2 bit_xor old output)) (o_long ∙ sym some_long) ∙ o_long
