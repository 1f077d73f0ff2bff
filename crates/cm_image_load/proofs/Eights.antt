-- Eight planes that are stored at once, and listings of planes, of which eight are read at once.
use Rattle.std.proofs.Common.{◌≡◌, ℕ, ◌+◌, ◌-◌, ◌*◌, ◌<◌, ◌≤◌, ◌++◌, List, Ok, sym, ap, ◌∙◌, ⊎_elim, arith, take, drop}
use Rattle.std.proofs.Common.{length, get_or, map, length-take, length-drop}
use Rattle.std.specs.Int.{w16}
use Rattle.std.specs.List.{range_with_len}
use Rattle.std.proofs.lemmas.Bool.{cases_lt}
use Rattle.std.proofs.lemmas.List.{get_or-take, get_or_append_left, get_or-append_right}
use Rattle.std.proofs.lemmas.List.FromFn.{get_or-map-range_with_len}
use Rattle.std.proofs.lemmas.Simd.{put_chunk_whole}
use Rattle.cm_image_format.specs.Reading.{number_at}
use borrow.Rule.Slice.PartMut.{put_mid}
use lib.Lanes.{put_chunk}

-- ---- eight words that are stored

-- eight words that replace those of a part
stored : (at k : ℕ) (old words : List ℕ) → k ≡ 8 → at + 8 ≤ length old → length words ≡ 8
    → put_mid at k old (put_chunk 0 (take k (drop at old)) words) ≡ put_mid at k old words
stored at k old words is within eight =
    let room : length (take k (drop at old)) ≡ length words =
    omega (arith, is, within, eight, length-take k (drop at old), length-drop at old) in
    ap (put_mid at k old) (put_chunk_whole (take k (drop at old)) words room)

pub words_put : (at k : ℕ) (old words : List ℕ) → k ≡ 8 → at + 8 ≤ length old → length words ≡ 8 → (j : ℕ) → j < 8
    → get_or (put_mid at k old (put_chunk 0 (take k (drop at old)) words)) (at + j) 0 ≡ get_or words j 0
words_put at k old words is within eight j h =
    let behind_them : List ℕ = drop k (drop at old) in
    let next : at + j - at ≡ j = omega arith in
    ap (λ (xs : List ℕ). get_or xs (at + j) 0) (stored at k old words is within eight)
    ∙ get_or-append_right (take at old) (words ++ behind_them) at (at + j) 0 (omega (arith, within, length-take at old))
    (omega arith)
    ∙ ap (λ (n : ℕ). get_or (words ++ behind_them) n 0) next
    ∙ get_or_append_left words behind_them 0 j (omega (arith, eight, h))

pub words_below : (at k : ℕ) (old words : List ℕ) → k ≡ 8 → at + 8 ≤ length old → length words ≡ 8 → (i : ℕ) → i < at
    → get_or (put_mid at k old (put_chunk 0 (take k (drop at old)) words)) i 0 ≡ get_or old i 0
words_below at k old words is within eight i h =
    ap (λ (xs : List ℕ). get_or xs i 0) (stored at k old words is within eight)
    ∙ get_or_append_left (take at old) (words ++ drop k (drop at old)) 0 i
    (omega (arith, within, h, length-take at old))
    ∙ get_or-take at old i 0 h

-- ---- sixteen numbers, two by two

-- every other number of two vectors, from a place on
abbrev every_other : List ℕ → List ℕ → ℕ → List ℕ
every_other first second from = map (λ n. get_or (first ++ second) (from + 2 * n) 0) (range_with_len 0 8)

other_lane : (first second : List ℕ) (from j : ℕ) → j < 8
    → get_or (every_other first second from) j 0 ≡ get_or (first ++ second) (from + 2 * j) 0
other_lane first second from j h =
    get_or-map-range_with_len (λ k. get_or (first ++ second) (from + 2 * k) 0) 0 8 j j 0 h (omega arith)

pub other_words : (first second : List ℕ) (from : ℕ) → length first ≡ 8 → from < 2
    → ((j : ℕ) → j < 8 → get_or first j 0 < 65536) → ((j : ℕ) → j < 8 → get_or second j 0 < 65536)
    → (j : ℕ) → j < 8 → get_or (every_other first second from) j 0 < 65536
other_words first second from eight small low high j h =
    let n : ℕ = from + 2 * j in
    ⊎_elim
    (λ (l : n < 8). omega (
      arith,
      other_lane first second from j h,
      get_or_append_left first second 0 n (omega (arith, eight, l)),
      low n l,
    ))
    (λ (l : 8 ≤ n). omega (
      arith,
      other_lane first second from j h,
      get_or-append_right first second 8 n 0 eight l,
      high (n - 8) (omega (arith, h, small, l)),
    ))
    (cases_lt n 8)

-- of numbers that follow one another in bytes, every other one
pub one_of_two : (first second bytes : List ℕ) (i from : ℕ) → length first ≡ 8 → from < 2
    → ((j : ℕ) → j < 8 → number_at w16 (drop (i + 2 * j) bytes) ≡ Ok (get_or first j 0, drop (i + 2 * j + 2) bytes))
    → ((j : ℕ) → j < 8
    → number_at w16 (drop (i + 16 + 2 * j) bytes) ≡ Ok (get_or second j 0, drop (i + 16 + 2 * j + 2) bytes))
    → (j m : ℕ) → j < 8 → i + 4 * j + 2 * from ≡ m
    → number_at w16 (drop m bytes) ≡ Ok (get_or (every_other first second from) j 0, drop (m + 2) bytes)
one_of_two first second bytes i from eight small low high j m h is =
    let n : ℕ = from + 2 * j in
    let lane : get_or (every_other first second from) j 0 ≡ get_or (first ++ second) n 0 =
    other_lane first second from j h in
    ⊎_elim
    (λ (l : n < 8). let there : i + 2 * n ≡ m = omega (arith, is) in
    let same : get_or first n 0 ≡ get_or (every_other first second from) j 0 =
    sym (lane ∙ get_or_append_left first second 0 n (omega (arith, eight, l))) in
    rw (← there, ← same) (low n l))
    (λ (l : 8 ≤ n). let there : i + 16 + 2 * (n - 8) ≡ m = omega (arith, is, l) in
    let same : get_or second (n - 8) 0 ≡ get_or (every_other first second from) j 0 =
    sym (lane ∙ get_or-append_right first second 8 n 0 eight l) in
    rw (← there, ← same) (high (n - 8) (omega (arith, h, small, l))))
    (cases_lt n 8)
