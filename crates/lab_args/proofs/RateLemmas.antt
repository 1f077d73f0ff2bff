-- Rates with commas between them, one after another.
use Rattle.std.proofs.Common.{◌≡◌, ℕ, Bool, true, false, cond, Result, Ok, Err, List, [], ◌∷◌, ◌++◌, length, refl}
use Rattle.std.proofs.Common.{sym, ap, ◌∙◌, append_assoc, arith, inl, inr, ◌+◌}
use Rattle.std.specs.List.{after_first, before_first, onto_first, position_or_len, prefix_len, slice_split}
use Rattle.std.specs.Prelude.{not}
use Rattle.std.proofs.lemmas.List.Splits.{slice_split_first}
use Rattle.cm_bits.specs.Text.{is_comma}
use Rattle.lab_args.specs.declared.fault.CommandFault.{CommandFault}
use Rattle.lab_args.specs.Refusals.{Text, Refusal, Reports, ◌>>=◌}
use Rattle.lab_args.specs.Rates.{IsSplitAtComma, all_rates, rate, rates, with_rate}

-- a list in which nothing passes is not cut
pub uncut : (p : ℕ → Bool) (xs : List ℕ) → position_or_len p xs ≡ length xs → slice_split p xs ≡ xs ∷ []
uncut p [] h = refl
uncut p (x ∷ xs) h = by (p x) (uncut p xs) h where
  by : (b : Bool) → (position_or_len p xs ≡ length xs → slice_split p xs ≡ xs ∷ [])
      → cond (not b) (1 + prefix_len (λ y. not (p y)) xs) 0 ≡ length (x ∷ xs)
      → cond b ([] ∷ slice_split p xs) (onto_first x (slice_split p xs)) ≡ (x ∷ xs) ∷ []
  by true rest g = absurd (omega (arith, g))
  by false rest g = ap (onto_first x) (rest (omega (arith, g)))

-- a rate behind those that are known is one more of them
one_more : (known : List ℕ) (one : Result ℕ Refusal) (others : Result (List ℕ) Refusal)
    → ((one >>= λ first. others >>= λ found. Ok (first ∷ found)) >>= λ found. Ok (known ++ found))
    ≡ ((one >>= λ first. Ok (known ++ first ∷ [])) >>= λ more. others >>= λ found. Ok (more ++ found))
one_more known (Err refusal) others = refl
one_more known (Ok first) (Ok found) = ap (λ (xs : List ℕ). Ok xs) (sym (append_assoc known (first ∷ []) found))
one_more known (Ok first) (Err refusal) = refl

-- the rates of a word, behind those that are known
abbrev pub behind : List ℕ → Text → Result (List ℕ) Refusal
behind known word = rates word >>= λ others. Ok (known ++ others)

-- where a word is cut its first rate is read, and then the others
pub cut_rates : (known : List ℕ) (word part after : Text) → IsSplitAtComma word part after
    → behind known word ≡ (with_rate known part >>= λ more. behind more after)
cut_rates known word part after is =
    ap (λ (parts : List Text). all_rates parts >>= λ others. Ok (known ++ others))
    (slice_split_first is_comma word 0 is.there)
    ∙ (one_more known (rate (before_first is_comma word)) (rates (after_first is_comma word))
    ∙ (λ i. with_rate known (sym is.before i) >>= λ more. behind more (sym is.behind i)))

-- and where it is not it is one rate
pub uncut_rate : (known : List ℕ) (word : Text) → position_or_len is_comma word ≡ length word
    → behind known word ≡ with_rate known word
uncut_rate known word none =
    ap (λ (parts : List Text). all_rates parts >>= λ others. Ok (known ++ others)) (uncut is_comma word none)
    ∙ alone (rate word) where
      alone : (one : Result ℕ Refusal)
          → ((one >>= λ first. Ok (first ∷ [])) >>= λ others. Ok (known ++ others))
          ≡ (one >>= λ first. Ok (known ++ first ∷ []))
      alone (Ok first) = refl
      alone (Err refusal) = refl

-- the first rate that is read goes to those that are known
pub one_known : (known more : List ℕ) (word part after : Text) → IsSplitAtComma word part after
    → with_rate known part ≡ Ok more → behind more after ≡ behind known word
one_known known more word part after is e =
    sym (cut_rates known word part after is
    ∙ ap (λ (r : Result (List ℕ) Refusal). r >>= λ found. behind found after) e)

-- a fault of the first rate is one of all
pub fault_known : (known : List ℕ) (word part after : Text) (fault : CommandFault) → IsSplitAtComma word part after
    → Reports (with_rate known part) fault → Reports (behind known word) fault
fault_known known word part after fault is (inl memory) = inl memory
fault_known known word part after fault is (inr e) =
    inr (cut_rates known word part after is
    ∙ ap (λ (r : Result (List ℕ) Refusal). r >>= λ found. behind found after) e)
