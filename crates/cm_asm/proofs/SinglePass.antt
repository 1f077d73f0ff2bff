-- Words and numbers at the front of a line that may have a comment.
use Rattle.std.proofs.Common.{◌≡◌, ℕ, suc, zero, ◌+◌, ◌-◌, ◌*◌, ◌^◌, ◌<◌, ◌≤◌, Bool, true, false, cond, not}
use Rattle.std.proofs.Common.{◌&&◌, ◌||◌, ◌==◌}
use Rattle.std.proofs.Common.{List, [], ◌∷◌, length, take, drop, get_or, refl, sym, ap, ◌∙◌, Some, None, Ok}
use Rattle.std.proofs.Common.{Option, Err, nat_lt, codes, arith}
use Rattle.std.proofs.lemmas.Bool.{false_from_ne_true}
use Rattle.std.proofs.lemmas.Bool.Decides.{nat_tests}
use Rattle.std.proofs.lemmas.Grind.{common_steps}
use Rattle.std.proofs.lemmas.List.Sums.{position_or_len_is}
use Rattle.std.specs.List.{before_first, list_all, position_or_len}
use Rattle.std.specs.Char.{digit_value, is_digit}
use Rattle.std.specs.Str.Parse.{digits_value}
use Rattle.std.specs.Prelude.{IfSome}
use Rattle.cm_bits.specs.Text.{has_bytes, is_blank, is_comment_start, is_hex, number_in, number_of, words_in, words_of}
use Rattle.cm_bits.specs.declared.plane.Dir.{Dir}
use Rattle.cm_model.specs.declared.act.Nano.{Nano}
use Rattle.cm_language.specs.declared.fault.AsmKind.TheVariants.{Number}
use Rattle.cm_language.specs.Lines.{◌>>=◌, operand_of, number_below, direction_of}
use Rattle.cm_bits.proofs.TextLemmas.{words_in-blank, words_in-word}
use Rattle.cm_asm.specs.SinglePass.{BeginsWithNumber, BeginsWithThree, IsDigit, SaysInstruction, IsNano, IsNumeral}
use Rattle.cm_asm.specs.SinglePass.{is_word_end}

-- ---- what is cut off at a comment

-- the bytes before the comment
abbrev cut : List ℕ → List ℕ
cut line = before_first is_comment_start line

-- a byte that begins no comment stays
cut-cons : (x : ℕ) (xs : List ℕ) → is_comment_start x ≡ false → cut (x ∷ xs) ≡ x ∷ cut xs
cut-cons x xs h =
    let place : position_or_len is_comment_start (x ∷ xs) ≡ 1 + position_or_len is_comment_start xs =
    ap (λ (b : Bool). cond (not b) (1 + position_or_len is_comment_start xs) 0) h in
    ap (λ (n : ℕ). take n (x ∷ xs)) place ∙ grind (arith, common_steps)

-- what is cut at the comment, taken and dropped up to the end of its first word
record CutAt (xs : List ℕ) (n : ℕ) : Type 0 where
  takes : take n (cut xs) ≡ take n xs
  drops : drop n (cut xs) ≡ cut (drop n xs)
  within : n ≤ length (cut xs)

-- a byte that ends no word is no blank, and begins no comment
record GoesOn (x : ℕ) : Type 0 where
  blank : is_blank x ≡ false
  comment : is_comment_start x ≡ false

goes_on : (x : ℕ) → is_word_end x ≡ false → GoesOn x
goes_on x h = by (is_blank x) (is_comment_start x) refl refl where
  by : (b c : Bool) → is_blank x ≡ b → is_comment_start x ≡ c → GoesOn x
  by true c e f = absurd (let g : true ≡ false = sym (ap (λ (b : Bool). b || is_comment_start x) e) ∙ h in cc)
  by false true e f = absurd (let g : true ≡ false = sym (ap (λ (b : Bool). b || is_comment_start x) e ∙ f) ∙ h in cc)
  by false false e f = record { blank = e; comment = f }

cut_at : (xs : List ℕ) (n : ℕ) → n ≤ length xs → ((k : ℕ) → k < n → is_word_end (get_or xs k 0) ≡ false) → CutAt xs n
cut_at xs zero h each = record { takes = refl; drops = refl; within = omega arith }
cut_at [] (suc n) h each = absurd (omega arith)
cut_at (x ∷ xs) (suc n) h each =
    let here : GoesOn x = goes_on x (each 0 (omega arith)) in
    let rest : CutAt xs n = cut_at xs n (omega arith) (λ k l. each (suc k) (omega arith)) in
    let front : cut (x ∷ xs) ≡ x ∷ cut xs = cut-cons x xs here.comment in
    record {
      takes = ap (take (suc n)) front ∙ ap (λ (ys : List ℕ). x ∷ ys) rest.takes;
      drops = ap (drop (suc n)) front ∙ rest.drops;
      within = omega (arith, ap length front, rest.within);
    }

-- bytes that end no word, up to a space, are the first word
pub words_of-word : (xs : List ℕ) (n : ℕ) → 0 < n → n < length xs → get_or xs n 0 ≡ 32
    → ((k : ℕ) → k < n → is_word_end (get_or xs k 0) ≡ false)
    → words_of xs ≡ take n xs ∷ words_of (drop (n + 1) xs)
words_of-word xs n some inside space each =
    let at : CutAt xs n = cut_at xs n (omega arith) each in
    let after : drop n xs ≡ 32 ∷ drop (n + 1) xs = front (drop n xs) (drop (n + 1) xs) there in
    let left : drop n (cut xs) ≡ 32 ∷ cut (drop (n + 1) xs) =
    at.drops ∙ ap cut after ∙ cut-cons 32 (drop (n + 1) xs) refl in
    let place : n ≡ position_or_len is_blank (cut xs) =
    sym (position_or_len_is is_blank (cut xs) n 0 at.within (λ k l. blank_free k l)
    (λ l. ap (λ (x : ℕ). is_blank x) (at_place left))) in
    words_in-word (cut xs) n place some at.within
    ∙ (λ i. at.takes i ∷ words_in (left i))
    ∙ ap (λ (ws : List (List ℕ)). take n xs ∷ ws) (words_in-blank 32 (cut (drop (n + 1) xs)) refl) where
      there : drop n xs ≡ get_or xs n 0 ∷ drop (n + 1) xs
      there = grind (arith, common_steps)

      front : (ys zs : List ℕ) → ys ≡ get_or xs n 0 ∷ zs → ys ≡ 32 ∷ zs
      front ys zs e = e ∙ ap (λ (x : ℕ). x ∷ zs) space

      same_front : (ys zs : List ℕ) (m k : ℕ) → take m ys ≡ take m zs → k < m → get_or ys k 0 ≡ get_or zs k 0
      same_front ys zs m k e l =
          let p : get_or (take m ys) k 0 ≡ get_or ys k 0 = grind (arith, common_steps) in
          let q : get_or (take m zs) k 0 ≡ get_or zs k 0 = grind (arith, common_steps) in
          sym p ∙ ap (λ (ws : List ℕ). get_or ws k 0) e ∙ q

      blank_free : (k : ℕ) → k < n → is_blank (get_or (cut xs) k 0) ≡ false
      blank_free k l =
          let at : CutAt xs n = cut_at xs n (omega arith) each in
          let same : get_or (cut xs) k 0 ≡ get_or xs k 0 = same_front (cut xs) xs n k at.takes l in
          let here : GoesOn (get_or xs k 0) = goes_on (get_or xs k 0) (each k l) in
          ap (λ (x : ℕ). is_blank x) same ∙ here.blank

      at_place : drop n (cut xs) ≡ 32 ∷ cut (drop (n + 1) xs) → get_or (cut xs) n 0 ≡ 32
      at_place e =
          let p : get_or (drop n (cut xs)) 0 0 ≡ get_or (cut xs) n 0 = grind (arith, common_steps) in
          sym p ∙ ap (λ (ws : List ℕ). get_or ws 0 0) e

-- ---- a numeral before a space

-- it is the first word
pub begins : (bytes word : List ℕ) (n value : ℕ) → word ≡ take n bytes → 0 < n → n < length bytes
    → get_or bytes n 0 ≡ 32 → IsNumeral word value
    → BeginsWithNumber bytes (take (length bytes - (n + 1)) (drop (n + 1) bytes)) value
begins bytes word n value is some inside space numeral =
    let rest : take (length bytes - (n + 1)) (drop (n + 1) bytes) ≡ drop (n + 1) bytes = grind (arith, common_steps) in
    let long : length (take n bytes) ≡ n = grind (arith, common_steps) in
    record {
      word = word;
      words = words_of-word bytes n some inside space (λ k l. each k l)
          ∙ (λ i. sym is i ∷ words_of (sym rest i));
      writes = numeral.writes;
    } where
      each : (k : ℕ) → k < n → is_word_end (get_or bytes k 0) ≡ false
      each k l =
          let long : length word ≡ n = ap length is ∙ grind (arith, common_steps) in
          let same : get_or (take n bytes) k 0 ≡ get_or bytes k 0 = grind (arith, common_steps) in
          ap (λ (x : ℕ). is_word_end x) (sym (ap (λ (ws : List ℕ). get_or ws k 0) is ∙ same))
          ∙ numeral.goes_on k (omega arith)

pub take_1 : (xs : List ℕ) → 1 ≤ length xs → get_or xs 0 0 ∷ [] ≡ take 1 xs
take_1 [] h = absurd (omega arith)
take_1 (x ∷ xs) h = refl

pub take_2 : (xs : List ℕ) → 2 ≤ length xs → get_or xs 0 0 ∷ get_or xs 1 0 ∷ [] ≡ take 2 xs
take_2 [] h = absurd (omega arith)
take_2 (x ∷ []) h = absurd (omega arith)
take_2 (x ∷ y ∷ xs) h = refl

pub take_3 : (xs : List ℕ) → 3 ≤ length xs → get_or xs 0 0 ∷ get_or xs 1 0 ∷ get_or xs 2 0 ∷ [] ≡ take 3 xs
take_3 [] h = absurd (omega arith)
take_3 (x ∷ []) h = absurd (omega arith)
take_3 (x ∷ y ∷ []) h = absurd (omega arith)
take_3 (x ∷ y ∷ z ∷ xs) h = refl

pub take_4 : (xs : List ℕ) → 4 ≤ length xs
    → get_or xs 0 0 ∷ get_or xs 1 0 ∷ get_or xs 2 0 ∷ get_or xs 3 0 ∷ [] ≡ take 4 xs
take_4 [] h = absurd (omega arith)
take_4 (x ∷ []) h = absurd (omega arith)
take_4 (x ∷ y ∷ []) h = absurd (omega arith)
take_4 (x ∷ y ∷ z ∷ []) h = absurd (omega arith)
take_4 (x ∷ y ∷ z ∷ w ∷ xs) h = refl

-- ---- digits

-- a digit ends no word
pub digit_goes_on : (base x : ℕ) → base ≤ 36 → is_digit x base ≡ true → is_word_end x ≡ false
digit_goes_on base x low h = false_from_ne_true (is_word_end x) (λ e. absurd (grind (arith, nat_tests, h, e)))

-- and is below its base
digit-lt : (base x : ℕ) → is_digit x base ≡ true → digit_value x < base
digit-lt base x h = small (digit_value x) h where
  small : (v : ℕ) → nat_lt v base ≡ true → v < base
  small v e = grind (arith, nat_tests)

-- a decimal digit is no `x`
no_x : (x : ℕ) → is_digit x 10 ≡ true → (x == 120) ≡ false
no_x x h = false_from_ne_true (x == 120) (λ e. absurd (grind (arith, nat_tests, h, e)))

-- digits write their value
number_in-digits : (base : ℕ) (ds : List ℕ) → has_bytes ds ≡ true → list_all (λ d. is_digit d base) ds ≡ true
    → digits_value base ds < 2 ^ 64 → number_in base ds ≡ Some (digits_value base ds)
number_in-digits base ds some all fits =
    by (has_bytes ds) (list_all (λ d. is_digit d base) ds) (nat_lt (digits_value base ds) (2 ^ 64)) some all
    (let small : nat_lt (digits_value base ds) (2 ^ 64) ≡ true = grind (arith, nat_tests) in small) where
      by : (a b c : Bool) → a ≡ true → b ≡ true → c ≡ true
          → cond ((a && b) && c) (Some (digits_value base ds)) None ≡ Some (digits_value base ds)
      by true true true _ _ _ = refl
      by true true false _ _ e = absurd cc
      by true false c _ e _ = absurd cc
      by false b c e _ _ = absurd cc

-- decimal digits are no hexadecimal word
number_of-decimal : (word : List ℕ) → is_hex word ≡ false → number_of word ≡ number_in 10 word
number_of-decimal word h = ap (λ (b : Bool). cond b (number_in 16 (drop 2 word)) (number_in 10 word)) h

and-false : (a b : Bool) → b ≡ false → (a && b) ≡ false
and-false true b h = h
and-false false b h = refl

-- two of them hold
both : (a b : Bool) → a ≡ true → b ≡ true → (a && b) ≡ true
both true true _ _ = refl
both true false _ e = absurd cc
both false b e _ = absurd cc

pub numeral_3 : (a b c p q r : ℕ) → IsDigit 10 a p → IsDigit 10 b q → IsDigit 10 c r
    → IsNumeral (a ∷ b ∷ c ∷ []) (p * 100 + q * 10 + r)
numeral_3 a b c p q r h g f = record {
  writes = number_of-decimal (a ∷ b ∷ c ∷ []) (and-false (a == 48) (b == 120) (no_x b g.digit))
      ∙ number_in-digits 10 (a ∷ b ∷ c ∷ []) refl (both _ _ h.digit (both _ _ g.digit (both _ _ f.digit refl)))
      (fits (digit_value a) (digit_value b) (digit_value c)
      (digit-lt 10 a h.digit) (digit-lt 10 b g.digit) (digit-lt 10 c f.digit))
      ∙ ap (λ (n : ℕ). Some n) (value (digit_value a) (digit_value b) (digit_value c)
      ∙ (λ i. sym h.is i * 100 + sym g.is i * 10 + sym f.is i));
  goes_on = each;
} where
  value : (v w x : ℕ) → ((0 * 10 + v) * 10 + w) * 10 + x ≡ v * 100 + w * 10 + x
  value v w x = omega arith

  fits : (v w x : ℕ) → v < 10 → w < 10 → x < 10 → ((0 * 10 + v) * 10 + w) * 10 + x < 2 ^ 64
  fits v w x h g f = omega arith

  each : (k : ℕ) → k < 3 → is_word_end (get_or (a ∷ b ∷ c ∷ []) k 0) ≡ false
  each zero l = digit_goes_on 10 a (omega arith) h.digit
  each (suc zero) l = digit_goes_on 10 b (omega arith) g.digit
  each (suc (suc zero)) l = digit_goes_on 10 c (omega arith) f.digit
  each (suc (suc (suc k))) l = absurd (omega arith)

pub numeral_4 : (a b c d p q r s : ℕ) → IsDigit 10 a p → IsDigit 10 b q → IsDigit 10 c r → IsDigit 10 d s
    → IsNumeral (a ∷ b ∷ c ∷ d ∷ []) (p * 1000 + q * 100 + r * 10 + s)
numeral_4 a b c d p q r s h g f e = record {
  writes = number_of-decimal (a ∷ b ∷ c ∷ d ∷ []) (and-false (a == 48) (b == 120) (no_x b g.digit))
      ∙ number_in-digits 10 (a ∷ b ∷ c ∷ d ∷ []) refl
      (both _ _ h.digit (both _ _ g.digit (both _ _ f.digit (both _ _ e.digit refl))))
      (fits (digit_value a) (digit_value b) (digit_value c) (digit_value d)
      (digit-lt 10 a h.digit) (digit-lt 10 b g.digit) (digit-lt 10 c f.digit) (digit-lt 10 d e.digit))
      ∙ ap (λ (n : ℕ). Some n) (value (digit_value a) (digit_value b) (digit_value c) (digit_value d)
      ∙ (λ i. sym h.is i * 1000 + sym g.is i * 100 + sym f.is i * 10 + sym e.is i));
  goes_on = each;
} where
  value : (v w x y : ℕ) → (((0 * 10 + v) * 10 + w) * 10 + x) * 10 + y ≡ v * 1000 + w * 100 + x * 10 + y
  value v w x y = omega arith

  fits : (v w x y : ℕ) → v < 10 → w < 10 → x < 10 → y < 10 → (((0 * 10 + v) * 10 + w) * 10 + x) * 10 + y < 2 ^ 64
  fits v w x y h g f e = omega arith

  each : (k : ℕ) → k < 4 → is_word_end (get_or (a ∷ b ∷ c ∷ d ∷ []) k 0) ≡ false
  each zero l = digit_goes_on 10 a (omega arith) h.digit
  each (suc zero) l = digit_goes_on 10 b (omega arith) g.digit
  each (suc (suc zero)) l = digit_goes_on 10 c (omega arith) f.digit
  each (suc (suc (suc zero))) l = digit_goes_on 10 d (omega arith) e.digit
  each (suc (suc (suc (suc k)))) l = absurd (omega arith)

-- ---- an instruction

-- a number below its limit is an operand
operand : (limit n : ℕ) (word : List ℕ) → number_of word ≡ Some n → n < limit → operand_of limit word ≡ Ok n
operand limit n word writes below =
    let small : nat_lt n limit ≡ true = grind (arith, nat_tests) in
    ap (number_below limit) writes ∙ by (nat_lt n limit) small where
      by : (b : Bool) → b ≡ true → cond b (Ok n) (Err Number) ≡ Ok n
      by true e = refl
      by false e = absurd cc

-- the words of three numbers at the front
three_words : (bytes rest : List ℕ) (x y z : ℕ) (t : BeginsWithThree bytes rest x y z)
    → words_of bytes ≡ t.one.word ∷ t.two.word ∷ t.three.word ∷ words_of rest
three_words bytes rest x y z t =
    t.one.words ∙ ap (λ (ws : List (List ℕ)). t.one.word ∷ ws) (t.two.words
    ∙ ap (λ (ws : List (List ℕ)). t.two.word ∷ ws) t.three.words)

-- eight numbers in their ranges and a direction are an instruction
instruction : (line r0 r3 r6 r7 r8 : List ℕ) (a b read write cond' sense mem flag : ℕ) (dir : Dir) (nano : Nano)
    → words_of line ≡ codes "nano" ∷ words_of r0
    → BeginsWithThree r0 r3 a b read → BeginsWithThree r3 r6 write cond' sense
    → BeginsWithNumber r6 r7 mem → BeginsWithNumber r7 r8 flag
    → words_of r8 ≡ r8 ∷ [] → direction_of r8 ≡ Ok dir
    → IsNano a b read write cond' sense mem flag dir nano
    → SaysInstruction line nano
instruction line r0 r3 r6 r7 r8 a b read write cond' sense mem flag dir nano begin p q p7 p8 last says is =
    let o1 : operand_of 4096 p.one.word ≡ Ok a = operand 4096 a p.one.word p.one.writes is.a_within in
    let o2 : operand_of 4096 p.two.word ≡ Ok b = operand 4096 b p.two.word p.two.writes is.b_within in
    let o3 : operand_of 16 p.three.word ≡ Ok read = operand 16 read p.three.word p.three.writes is.read_within in
    let o4 : operand_of 16 q.one.word ≡ Ok write = operand 16 write q.one.word q.one.writes is.write_within in
    let o5 : operand_of 16 q.two.word ≡ Ok cond' = operand 16 cond' q.two.word q.two.writes is.cond_within in
    let o6 : operand_of 2 q.three.word ≡ Ok sense = operand 2 sense q.three.word q.three.writes is.sense_within in
    let o7 : operand_of 256 p7.word ≡ Ok mem = operand 256 mem p7.word p7.writes is.mem_table_within in
    let o8 : operand_of 256 p8.word ≡ Ok flag = operand 256 flag p8.word p8.writes is.flag_table_within in
    record {
      operands = p.one.word ∷ p.two.word ∷ p.three.word ∷ q.one.word ∷ q.two.word ∷ q.three.word
          ∷ p7.word ∷ p8.word ∷ r8 ∷ [];
      words = begin ∙ ap (λ (ws : List (List ℕ)). codes "nano" ∷ ws) (three_words r0 r3 a b read p
          ∙ ap (λ (ws : List (List ℕ)). p.one.word ∷ p.two.word ∷ p.three.word ∷ ws)
          (three_words r3 r6 write cond' sense q
          ∙ ap (λ (ws : List (List ℕ)). q.one.word ∷ q.two.word ∷ q.three.word ∷ ws) (p7.words
          ∙ ap (λ (ws : List (List ℕ)). p7.word ∷ ws) (p8.words
          ∙ ap (λ (ws : List (List ℕ)). p8.word ∷ ws) last))));
      says = (λ i. o1 i >>= λ a'. o2 i >>= λ b'. o3 i >>= λ read'. o4 i >>= λ write'. o5 i >>= λ cond'.
          (o6 i >>= λ n. Ok (n == 1)) >>= λ sense'. o7 i >>= λ mem'. o8 i >>= λ flag'. says i >>= λ dir'.
          Ok (record {
            a = a';
            b = b';
            read = read';
            write = write';
            cond = cond';
            sense = sense';
            mem_table = mem';
            flag_table = flag';
            dir = dir';
          }))
          ∙ ap (λ (n : Nano). Ok n) (sym is.is);
    }

-- where there is one
pub instruction_if : (line r0 r3 r6 r7 r8 : List ℕ) (a b read write cond' sense mem flag : ℕ) (dir : Dir)
    (nano : Option Nano)
    → words_of line ≡ codes "nano" ∷ words_of r0
    → BeginsWithThree r0 r3 a b read → BeginsWithThree r3 r6 write cond' sense
    → BeginsWithNumber r6 r7 mem → BeginsWithNumber r7 r8 flag
    → words_of r8 ≡ r8 ∷ [] → direction_of r8 ≡ Ok dir
    → IfSome nano (IsNano a b read write cond' sense mem flag dir)
    → IfSome nano (SaysInstruction line)
instruction_if line r0 r3 r6 r7 r8 a b read write cond' sense mem flag dir (Some nano) begin p q p7 p8 last says is =
    instruction line r0 r3 r6 r7 r8 a b read write cond' sense mem flag dir nano begin p q p7 p8 last says is
instruction_if line r0 r3 r6 r7 r8 a b read write cond' sense mem flag dir None begin p q p7 p8 last says is = tt
