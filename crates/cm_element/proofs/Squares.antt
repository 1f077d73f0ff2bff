-- A square of eight rows and eight chips, which is riffled three times.
use Rattle.std.proofs.Common.{◌≡◌, ℕ, ◌+◌, ◌-◌, ◌*◌, ◌/◌, ◌%◌, ◌<◌, ◌≤◌, List, ◌++◌, length, map, take, drop, get_or}
use Rattle.std.proofs.Common.{sym, ap, ◌∙◌, ⊎_elim, arith, length-take, length-drop}
use Rattle.std.proofs.lemmas.Bool.{cases_lt}
use Rattle.std.proofs.lemmas.List.{length-append, get_or-append_right, get_or_append_left, take_all, get_or-take, get_or-drop}
use Rattle.std.proofs.lemmas.List.FromFn.{length-map-range_with_len, get_or-map-range_with_len}
use Rattle.std.proofs.lemmas.Simd.{put_chunk_whole, length-chunk}
use Rattle.std.specs.List.{range_with_len}
use Rattle.cm_element.specs.Laid.{IsRowLaid}
use borrow.Rule.Slice.PartMut.{put_mid, post_of}
use lib.Lanes.{put_chunk, chunk}

-- where the word stood that stands at a place after a riffle
abbrev pub place_before : ℕ → ℕ
place_before n = n % 2 * 32 + n / 2

-- half of the words after a riffle, from a place on
abbrev pub riffled : List ℕ → ℕ → List ℕ
riffled square from = map (λ n. get_or square (place_before n) 0) (range_with_len from 32)

-- both halves of a square, as they are loaded
abbrev pub halves : List ℕ → List ℕ
halves square = chunk 0 32 (take 32 square) ++ chunk 0 32 (take 32 (drop 32 square))

-- the square after its lower half was stored
abbrev pub lower_stored : List ℕ → List ℕ → List ℕ
lower_stored square lower = put_chunk 0 (take 32 square) lower ++ post_of 0 32 square

-- and after the upper half was stored too
abbrev pub both_stored : List ℕ → List ℕ → List ℕ → List ℕ
both_stored square lower upper =
    put_mid 32 32 (lower_stored square lower)
    (put_chunk 0 (take 32 (drop 32 (lower_stored square lower))) upper)

half_long : (square : List ℕ) → length square ≡ 64 → length (take 32 square) ≡ 32
half_long square long = omega (arith, long, length-take 32 square)

upper_long : (square : List ℕ) → length square ≡ 64 → length (take 32 (drop 32 square)) ≡ 32
upper_long square long = omega (arith, long, length-take 32 (drop 32 square), length-drop 32 square)

-- a word of two lists of 32
of_lower : (lower upper : List ℕ) (n : ℕ) → length lower ≡ 32 → n < 32 → get_or (lower ++ upper) n 0 ≡ get_or lower n 0
of_lower lower upper n long below = get_or_append_left lower upper 0 n (omega (arith, long, below))

of_upper : (lower upper : List ℕ) (n : ℕ) → length lower ≡ 32 → 32 ≤ n
    → get_or (lower ++ upper) n 0 ≡ get_or upper (n - 32) 0
of_upper lower upper n long above = get_or-append_right lower upper 32 n 0 long above

get_or-halves : (square : List ℕ) (i : ℕ) → length square ≡ 64 → i < 64 → get_or (halves square) i 0 ≡ get_or square i 0
get_or-halves square i long below =
    let lower : List ℕ = take 32 square in
    let upper : List ℕ = take 32 (drop 32 square) in
    ap (λ (l : List ℕ). get_or (l ++ take 32 upper) i 0) (take_all 32 lower (omega (arith, half_long square long)))
    ∙ ap (λ (l : List ℕ). get_or (lower ++ l) i 0) (take_all 32 upper (omega (arith, upper_long square long)))
    ∙ ⊎_elim
    (λ (l : i < 32). of_lower lower upper i (half_long square long) l ∙ get_or-take 32 square i 0 l)
    (λ (l : 32 ≤ i). let below_32 : i - 32 < 32 = omega arith in
    let back : 32 + (i - 32) ≡ i = omega arith in
    of_upper lower upper i (half_long square long) l ∙ get_or-take 32 (drop 32 square) (i - 32) 0 below_32
    ∙ get_or-drop 32 square (i - 32) 0 ∙ ap (λ (k : ℕ). get_or square k 0) back)
    (cases_lt i 32)

lower_is : (square lower : List ℕ) → length square ≡ 64 → length lower ≡ 32
    → lower_stored square lower ≡ lower ++ drop 32 square
lower_is square lower long lower_long =
    ap (λ (l : List ℕ). l ++ drop 32 square)
    (put_chunk_whole (take 32 square) lower (half_long square long ∙ sym lower_long))

both_are : (square lower upper : List ℕ) → length square ≡ 64 → length lower ≡ 32 → length upper ≡ 32
    → both_stored square lower upper
    ≡ take 32 (lower_stored square lower) ++ (upper ++ drop 32 (drop 32 (lower_stored square lower)))
both_are square lower upper long lower_long upper_is =
    let now : List ℕ = lower_stored square lower in
    let now_long : length now ≡ 64 = ap length (lower_is square lower long lower_long)
    ∙ length-append lower (drop 32 square) ∙ omega (arith, long, lower_long, length-drop 32 square) in
    ap (λ (l : List ℕ). take 32 now ++ (l ++ drop 32 (drop 32 now)))
    (put_chunk_whole (take 32 (drop 32 now)) upper (upper_long now now_long ∙ sym upper_is))

lower_word : (square lower upper : List ℕ) (n : ℕ) → length square ≡ 64 → length lower ≡ 32 → length upper ≡ 32
    → n < 32 → get_or (both_stored square lower upper) n 0 ≡ get_or lower n 0
lower_word square lower upper n long lower_long upper_is below =
    let now : List ℕ = lower_stored square lower in
    let now_is : now ≡ lower ++ drop 32 square = lower_is square lower long lower_long in
    let now_long : length now ≡ 64 = ap length now_is
    ∙ length-append lower (drop 32 square) ∙ omega (arith, long, lower_long, length-drop 32 square) in
    ap (λ (l : List ℕ). get_or l n 0) (both_are square lower upper long lower_long upper_is)
    ∙ of_lower (take 32 now) (upper ++ drop 32 (drop 32 now)) n (half_long now now_long) below
    ∙ get_or-take 32 now n 0 below ∙ ap (λ (l : List ℕ). get_or l n 0) now_is
    ∙ of_lower lower (drop 32 square) n lower_long below

upper_word : (square lower upper : List ℕ) (n : ℕ) → length square ≡ 64 → length lower ≡ 32 → length upper ≡ 32
    → 32 ≤ n → n < 64 → get_or (both_stored square lower upper) n 0 ≡ get_or upper (n - 32) 0
upper_word square lower upper n long lower_long upper_is above below =
    let now : List ℕ = lower_stored square lower in
    let now_long : length now ≡ 64 = ap length (lower_is square lower long lower_long)
    ∙ length-append lower (drop 32 square) ∙ omega (arith, long, lower_long, length-drop 32 square) in
    let within : n - 32 < 32 = omega arith in
    ap (λ (l : List ℕ). get_or l n 0) (both_are square lower upper long lower_long upper_is)
    ∙ of_upper (take 32 now) (upper ++ drop 32 (drop 32 now)) n (half_long now now_long) above
    ∙ of_lower upper (drop 32 (drop 32 now)) (n - 32) upper_is within

-- a square is riffled where both halves are stored
pub after_riffle : (square : List ℕ) → length square ≡ 64 → (n : ℕ) → n < 64
    → get_or (both_stored square (riffled (halves square) 0) (riffled (halves square) 32)) n 0
    ≡ get_or square (place_before n) 0
after_riffle square long n below =
    let word : ℕ → ℕ = λ k. get_or (halves square) (place_before k) 0 in
    let lower_long : length (map word (range_with_len 0 32)) ≡ 32 = length-map-range_with_len word 0 32 in
    let upper_is : length (map word (range_with_len 32 32)) ≡ 32 = length-map-range_with_len word 32 32 in
    let inside : place_before n < 64 = omega arith in
    ⊎_elim
    (λ (l : n < 32). lower_word square (map word (range_with_len 0 32)) (map word (range_with_len 32 32)) n
    long lower_long upper_is l ∙ get_or-map-range_with_len word 0 32 n n 0 l (omega arith))
    (λ (l : 32 ≤ n). upper_word square (map word (range_with_len 0 32)) (map word (range_with_len 32 32)) n
    long lower_long upper_is l below ∙ get_or-map-range_with_len word 32 32 (n - 32) n 0 (omega arith) (omega arith))
    (cases_lt n 32)
    ∙ get_or-halves square (place_before n) long inside

-- where three riffles bring a word from
pub three_riffles : (c k : ℕ) → c < 8 → k < 8
    → place_before (place_before (place_before (c * 8 + k))) ≡ k * 8 + c
three_riffles c k few small = omega arith

-- eight words of a list, stored in another
pub eight_put : (at source k j : ℕ) (old from : List ℕ) → k ≡ 8 → j ≡ 8 → at + 8 ≤ length old
    → source + 8 ≤ length from → IsRowLaid at source 8 from old
    (put_mid at k old (put_chunk 0 (take k (drop at old)) (chunk 0 8 (take j (drop source from)))))
eight_put at source k j old from k_is j_is within inside =
    let part : List ℕ = take j (drop source from) in
    let words : List ℕ = chunk 0 8 part in
    let behind : List ℕ = drop k (drop at old) in
    let part_long : length part ≡ 8 =
    omega (arith, j_is, inside, length-take j (drop source from), length-drop source from) in
    let long : length words ≡ 8 = length-chunk 0 8 part (omega (arith, part_long)) in
    let room : length (take k (drop at old)) ≡ 8 =
    omega (arith, k_is, within, length-take k (drop at old), length-drop at old) in
    let front : length (take at old) ≡ at = omega (arith, within, length-take at old) in
    let stored : put_chunk 0 (take k (drop at old)) words ≡ words =
    put_chunk_whole (take k (drop at old)) words (room ∙ sym long) in
    rw stored (record {
      laid = λ c h. let next : at + c - at ≡ c = omega arith in
          get_or-append_right (take at old) (words ++ behind) at (at + c) 0 front (omega arith)
          ∙ ap (λ (i : ℕ). get_or (words ++ behind) i 0) next
          ∙ get_or_append_left words behind 0 c (omega (arith, long, h))
          ∙ get_or-take 8 part c 0 h
          ∙ get_or-take j (drop source from) c 0 (omega (arith, j_is, h))
          ∙ get_or-drop source from c 0;
      below = λ i h. get_or_append_left (take at old) (words ++ behind) 0 i (omega (arith, front, h))
          ∙ get_or-take at old i 0 h;
      above = λ i h. let there : at + (k + (i - at - 8)) ≡ i = omega (arith, k_is, h) in
          get_or-append_right (take at old) (words ++ behind) at i 0 front (omega arith)
          ∙ get_or-append_right words behind 8 (i - at) 0 long (omega arith)
          ∙ get_or-drop k (drop at old) (i - at - 8) 0
          ∙ get_or-drop at old (k + (i - at - 8)) 0
          ∙ ap (λ (n : ℕ). get_or old n 0) there;
    })
