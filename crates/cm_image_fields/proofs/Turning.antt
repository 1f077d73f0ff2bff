-- Eight numbers of two bytes, as the lanes of a vector and as bytes of a list, the highest of each first.
use Rattle.std.proofs.Common.{◌≡◌, ℕ, zero, suc, ◌+◌, ◌-◌, ◌*◌, ◌/◌, ◌%◌, ◌<◌, ◌≤◌, ◌++◌, false, List, [], ◌∷◌, Ok}
use Rattle.std.proofs.Common.{refl, sym, ap, ◌∙◌, arith, take, drop, length, get_or, map, replicate, nat_lt}
use Rattle.std.proofs.Common.{length-take, length-drop}
use Rattle.std.specs.Int.{w8, w16}
use Rattle.std.specs.List.{flat_map, range_with_len}
use Rattle.std.proofs.lemmas.Bool.{le-ltb}
use Rattle.std.proofs.lemmas.List.{drop-drop, drop_more, get_or-take, get_or-drop, get_or_append_left}
use Rattle.std.proofs.lemmas.List.FromFn.{get_or-map-range_with_len}
use Rattle.std.proofs.lemmas.Slice.{take-put_mid, drop-put_mid}
use Rattle.std.proofs.lemmas.Simd.{below_from_Fits, Each1-from_get_or, get_or_narrower, get_or_wider, length-chunk}
use Rattle.std.proofs.lemmas.Simd.{pick_l_whole, put_chunk_whole}
use Rattle.cm_model.specs.Each.{tabulate}
use Rattle.cm_model.proofs.Each.{same_each_below}
use Rattle.cm_message.specs.Bytes.{number_bytes}
use Rattle.cm_image_format.specs.Reading.{number_at}
use borrow.Rule.Slice.PartMut.{put_mid}
use lib.Lanes.{Each1, zip2, pick_l, put_chunk, chunk, number_l, digits_l}
use mir.Val.{Fits}

-- ---- eight numbers that are written

-- the bytes of eight numbers, the lowest of each first
abbrev low_first : List ℕ → List ℕ
low_first numbers = digits_l 256 16 (number_l 65536 numbers)

-- and the highest first
abbrev pub high_first : List ℕ → List ℕ
high_first numbers =
    pick_l 0 (low_first numbers)
    (1 ∷ 0 ∷ 3 ∷ 2 ∷ 5 ∷ 4 ∷ 7 ∷ 6 ∷ 9 ∷ 8 ∷ 11 ∷ 10 ∷ 13 ∷ 12 ∷ 15 ∷ 14 ∷ [])

low_byte : (numbers : List ℕ) (j k : ℕ) → Each1 (λ n. n < 65536) numbers → k ≡ 2 * j → k < 16
    → get_or (low_first numbers) k 0 ≡ get_or numbers j 0 % 256
low_byte numbers j k words is h =
    let there : 2 * j + 0 ≡ k = omega (arith, is) in
    let whole : get_or numbers j 0 / 1 ≡ get_or numbers j 0 = omega arith in
    ap (λ (n : ℕ). get_or (low_first numbers) n 0) (sym there)
    ∙ get_or_narrower 65536 2 256 16 numbers j 0 refl words (omega arith) (omega (arith, is, h))
    ∙ ap (λ (n : ℕ). n % 256) whole

high_byte : (numbers : List ℕ) (j k : ℕ) → Each1 (λ n. n < 65536) numbers → k ≡ 2 * j + 1 → k < 16
    → get_or (low_first numbers) k 0 ≡ get_or numbers j 0 / 256 % 256
high_byte numbers j k words is h =
    ap (λ (n : ℕ). get_or (low_first numbers) n 0) is
    ∙ get_or_narrower 65536 2 256 16 numbers j 1 refl words (omega arith) (omega (arith, is, h))

-- turned about, they are written one number after another
pub eight_turned : (numbers : List ℕ) → length numbers ≡ 8 → Each1 (Fits w16) numbers
    → high_first numbers ≡ flat_map (number_bytes w16) numbers
unfolding number_bytes
eight_turned numbers eight fit =
    let words : Each1 (λ n. n < 65536) numbers = below_from_Fits w16 numbers fit in
    let high = λ (j k : ℕ) (is : k ≡ 2 * j + 1) (h : k < 16). high_byte numbers j k words is h in
    let low = λ (j k : ℕ) (is : k ≡ 2 * j) (h : k < 16). low_byte numbers j k words is h in
    (λ i. high 0 1 (omega arith) (omega arith) i ∷ low 0 0 (omega arith) (omega arith) i
    ∷ high 1 3 (omega arith) (omega arith) i ∷ low 1 2 (omega arith) (omega arith) i
    ∷ high 2 5 (omega arith) (omega arith) i ∷ low 2 4 (omega arith) (omega arith) i
    ∷ high 3 7 (omega arith) (omega arith) i ∷ low 3 6 (omega arith) (omega arith) i
    ∷ high 4 9 (omega arith) (omega arith) i ∷ low 4 8 (omega arith) (omega arith) i
    ∷ high 5 11 (omega arith) (omega arith) i ∷ low 5 10 (omega arith) (omega arith) i
    ∷ high 6 13 (omega arith) (omega arith) i ∷ low 6 12 (omega arith) (omega arith) i
    ∷ high 7 15 (omega arith) (omega arith) i ∷ low 7 14 (omega arith) (omega arith) i ∷ [])
    ∙ ap (flat_map (number_bytes w16)) (pick_l_whole 0 numbers 8 eight)

-- a part of the list as long as a vector gets the whole vector
put_whole : (i k : ℕ) (bytes more : List ℕ) → k ≡ 16 → i + 16 ≤ length bytes → length more ≡ 16
    → put_mid i k bytes (put_chunk 0 (take k (drop i bytes)) more) ≡ put_mid i k bytes more
put_whole i k bytes more is within sixteen =
    let room : length (take k (drop i bytes)) ≡ length more =
    omega (arith, is, within, sixteen, length-take k (drop i bytes), length-drop i bytes) in
    ap (put_mid i k bytes) (put_chunk_whole (take k (drop i bytes)) more room)

-- bytes that are put behind others
pub behind : (i k : ℕ) (bytes more : List ℕ) → k ≡ 16 → i + 16 ≤ length bytes → length more ≡ 16
    → take (i + 16) (put_mid i k bytes (put_chunk 0 (take k (drop i bytes)) more)) ≡ take i bytes ++ more
behind i k bytes more is within sixteen =
    ap (take (i + 16)) (put_whole i k bytes more is within sixteen)
    ∙ take-put_mid i k bytes more (i + 16) (omega (arith, sixteen)) (omega (arith, within))

-- what stood behind them stays
pub rest_stays : (i k : ℕ) (bytes more : List ℕ) → k ≡ 16 → i + 16 ≤ length bytes → length more ≡ 16
    → drop (i + 16) (put_mid i k bytes (put_chunk 0 (take k (drop i bytes)) more)) ≡ drop (i + 16) bytes
rest_stays i k bytes more is within sixteen =
    ap (drop (i + 16)) (put_whole i k bytes more is within sixteen)
    ∙ drop-put_mid i k bytes more (i + 16) (omega (arith, is)) (omega (arith, within)) (omega (arith, is, sixteen))

-- ---- eight numbers that are read

-- where the byte at a place of a turned vector stood
abbrev other : ℕ → ℕ
other n = n + 1 - n % 2 * 2

abbrev bytes_turned : List ℕ → List ℕ
bytes_turned bytes = map (λ n. get_or bytes (other n) 0) (range_with_len 0 16)

-- the numbers that the bytes of a vector make when they are turned
abbrev numbers_of : List ℕ → List ℕ
numbers_of bytes = digits_l 65536 8 (number_l 256 (bytes_turned bytes))

-- sixteen bytes of a list from a place on, as they are loaded
abbrev pub loaded : List ℕ → ℕ → ℕ → List ℕ
loaded bytes i k = chunk 0 16 (take k (drop i bytes)) ++ chunk 0 16 (take k (drop i bytes))

byte_turned : (bytes : List ℕ) (n m : ℕ) → n < 16 → other n ≡ m → get_or (bytes_turned bytes) n 0 ≡ get_or bytes m 0
byte_turned bytes n m h is =
    get_or-map-range_with_len (λ k. get_or bytes (other k) 0) 0 16 n n 0 h (omega arith)
    ∙ ap (λ (k : ℕ). get_or bytes k 0) is

-- two bytes of a vector as a number, the lowest first
two_bytes : (bytes : List ℕ) (n : ℕ) → n + 2 ≤ length bytes
    → number_l 256 (chunk n 2 bytes) ≡ get_or bytes n 0 + 256 * (get_or bytes (n + 1) 0 + 256 * 0)
two_bytes bytes n within =
    ap (λ (xs : List ℕ). number_l 256 (take 2 xs))
    (drop_more bytes n 0 (omega (arith, within))
    ∙ ap (λ (xs : List ℕ). get_or bytes n 0 ∷ xs) (drop_more bytes (n + 1) 0 (omega (arith, within))))

number_of : (bytes : List ℕ) (j : ℕ) → j < 8 → ((n : ℕ) → n < 16 → get_or bytes n 0 < 256)
    → get_or (numbers_of bytes) j 0 ≡ get_or bytes (2 * j) 0 * 256 + get_or bytes (2 * j + 1) 0
number_of bytes j h below =
    let turned : List ℕ = bytes_turned bytes in
    let first : get_or turned (2 * j) 0 ≡ get_or bytes (2 * j + 1) 0 =
    byte_turned bytes (2 * j) (2 * j + 1) (omega (arith, h)) (omega arith) in
    let second : get_or turned (2 * j + 1) 0 ≡ get_or bytes (2 * j) 0 =
    byte_turned bytes (2 * j + 1) (2 * j) (omega (arith, h)) (omega arith) in
    let small : Each1 (λ n. n < 256) turned =
    Each1-from_get_or (λ n. n < 256) turned 0
    (λ n l. omega (arith, byte_turned bytes n (other n) l refl, below (other n) (omega (arith, l)))) in
    get_or_wider 256 2 65536 8 turned j refl small h
    ∙ two_bytes turned (2 * j) (omega (arith, h))
    ∙ omega (arith, first, second)

number_here : (bytes : List ℕ) (m n : ℕ) → m + 2 ≤ length bytes → n ≡ get_or bytes m 0 * 256 + get_or bytes (m + 1) 0
    → number_at w16 (drop m bytes) ≡ Ok (n, drop (m + 2) bytes)
unfolding number_at
number_here bytes m n within is =
    let enough : nat_lt (length (drop m bytes)) 2 ≡ false = le-ltb _ _ (omega (arith, within, length-drop m bytes)) in
    let same : get_or (drop m bytes) 0 0 * 256 + get_or (drop m bytes) 1 0 ≡ n =
    omega (arith, is, get_or-drop m bytes 0 0, get_or-drop m bytes 1 0, ap (λ (k : ℕ). get_or bytes k 0) (first m)) in
    rw (enough, same, drop-drop 2 m bytes) refl where
      first : (k : ℕ) → k + 0 ≡ k
      first k = omega arith

digit_below : (n x j : ℕ) → j < n → get_or (digits_l 65536 n x) j 0 < 65536
digit_below zero x j h = absurd (omega (arith, h))
digit_below (suc n) x zero h = omega arith
digit_below (suc n) x (suc j) h = digit_below n (x / 65536) j (omega (arith, h))

-- a number that was read has two bytes
pub words_read : (bytes : List ℕ) (j : ℕ) → j < 8 → get_or (numbers_of bytes) j 0 < 65536
words_read bytes j h = digit_below 8 (number_l 256 (bytes_turned bytes)) j h

-- each of them is the number that stands in its place
pub eight_read : (bytes : List ℕ) (i k : ℕ) → k ≡ 16 → i + 16 ≤ length bytes → ((n : ℕ) → Fits w8 (get_or bytes n 0))
    → (j : ℕ) → j < 8
    → number_at w16 (drop (i + 2 * j) bytes)
    ≡ Ok (get_or (numbers_of (loaded bytes i k)) j 0, drop (i + 2 * j + 2) bytes)
eight_read bytes i k is within fit j h =
    let part : List ℕ = take k (drop i bytes) in
    let long : length part ≡ 16 = omega (arith, is, within, length-take k (drop i bytes), length-drop i bytes) in
    let same : (n m : ℕ) → n < 16 → i + n ≡ m → get_or (loaded bytes i k) n 0 ≡ get_or bytes m 0 =
    λ n m l there. get_or_append_left (chunk 0 16 part) (chunk 0 16 part) 0 n
    (omega (arith, l, length-chunk 0 16 part (omega (arith, long))))
    ∙ get_or-take 16 part n 0 l ∙ get_or-take k (drop i bytes) n 0 (omega (arith, l, is)) ∙ get_or-drop i bytes n 0
    ∙ ap (λ (p : ℕ). get_or bytes p 0) there in
    number_here bytes (i + 2 * j) (get_or (numbers_of (loaded bytes i k)) j 0) (omega (arith, within, h))
    (number_of (loaded bytes i k) j h (λ n l. omega (arith, same n (i + n) l refl, (fit (i + n)).fits))
    ∙ (λ p. same (2 * j) (i + 2 * j) (omega (arith, h)) refl p * 256
    + same (2 * j + 1) (i + 2 * j + 1) (omega (arith, h)) (omega arith) p))

-- ---- eight numbers that follow one another

pub eight_follow : (first : ℕ) → first + 8 ≤ 65536
    → zip2 (λ a b. (a + b) % 65536) (replicate 8 first) (0 ∷ 1 ∷ 2 ∷ 3 ∷ 4 ∷ 5 ∷ 6 ∷ 7 ∷ [])
    ≡ map (λ j. first + j) (range_with_len 0 8)
unfolding tabulate
eight_follow first below =
    same_each_below 0 8 (λ j. (first + j) % 65536) (λ j. first + j) (λ j h. omega (arith, below, h))
