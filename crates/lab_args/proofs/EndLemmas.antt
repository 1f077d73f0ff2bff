-- The words behind N and CAP of a blank machine, one option after another.
use Rattle.std.proofs.Common.{◌≡◌, ℕ, ◌-◌, ◌≤◌, true, false, Bool, Result, Ok, Err, List, [], ◌∷◌, get_or, length}
use Rattle.std.proofs.Common.{take, drop, codes, bytes_eq, sym, ap, ◌∙◌, arith}
use Rattle.std.specs.Prelude.{if◌then◌else◌}
use Rattle.std.proofs.lemmas.List.{take_rest}
use Rattle.std.specs.Borrow.{Bor}
use Rattle.lab_args.specs.Words.{texts}
use Rattle.lab_args.specs.Refusals.{Refusal, Words, ◌>>=◌}
use Rattle.lab_args.specs.Requests.{BlankAsked}
use Rattle.lab_args.specs.Blanks.{with_choice, blank_with_cut, with_ends}

-- behind an option with one word the words go on
chosen : (machine : BlankAsked) (a b : List ℕ) (rest : List (Bor (List ℕ))) → bytes_eq a (codes "--cut") ≡ false
    → with_ends machine (a ∷ b ∷ texts rest) ≡ (with_choice machine a b >>= λ m. with_ends m (texts rest))
chosen machine a b [] is =
    ap (λ (t : Bool). if t then Err Words else with_choice machine a b >>= (λ m. Err Words)) is
chosen machine a b (c ∷ rest) is =
    ap (λ (t : Bool). if t then blank_with_cut machine b c.now >>= (λ m. with_ends m (texts rest))
    else with_choice machine a b >>= (λ m. with_ends m (c.now ∷ texts rest))) is

-- and behind a cut wire
cut : (machine : BlankAsked) (a b c : List ℕ) (rest : List (Bor (List ℕ))) → bytes_eq a (codes "--cut") ≡ true
    → with_ends machine (a ∷ b ∷ c ∷ texts rest) ≡ (blank_with_cut machine b c >>= λ m. with_ends m (texts rest))
cut machine a b c rest is =
    ap (λ (t : Bool). if t then blank_with_cut machine b c >>= (λ m. with_ends m (texts rest))
    else with_choice machine a b >>= (λ m. with_ends m (c ∷ texts rest))) is

-- the words go on behind an option that was read
pub chosen_goes_on : (machine changed : BlankAsked) (words : List (Bor (List ℕ))) (d : Bor (List ℕ)) → 2 ≤ length words
    → bytes_eq (get_or words 0 d).now (codes "--cut") ≡ false
    → with_choice machine (get_or words 0 d).now (get_or words 1 d).now ≡ Ok changed
    → with_ends machine (texts words) ≡ with_ends changed (texts (take (length words - 2) (drop 2 words)))
chosen_goes_on machine changed [] d h is e = absurd (omega arith)
chosen_goes_on machine changed (a ∷ []) d h is e = absurd (omega arith)
chosen_goes_on machine changed (a ∷ b ∷ rest) d h is e =
    chosen machine a.now b.now rest is
    ∙ (ap (λ (r : Result BlankAsked Refusal). r >>= λ m. with_ends m (texts rest)) e
    ∙ ap (λ (ws : List (Bor (List ℕ))). with_ends changed (texts ws)) (sym (take_rest (a ∷ b ∷ rest) 2)))

-- and behind a cut wire that was read
pub cut_goes_on : (machine changed : BlankAsked) (words : List (Bor (List ℕ))) (d dim : Bor (List ℕ))
    (after : List (Bor (List ℕ))) → 2 ≤ length words
    → take (length words - 2) (drop 2 words) ≡ dim ∷ after
    → bytes_eq (get_or words 0 d).now (codes "--cut") ≡ true
    → blank_with_cut machine (get_or words 1 d).now dim.now ≡ Ok changed
    → with_ends machine (texts words) ≡ with_ends changed (texts after)
cut_goes_on machine changed [] d dim after h split is e = absurd (omega arith)
cut_goes_on machine changed (a ∷ []) d dim after h split is e = absurd (omega arith)
cut_goes_on machine changed (a ∷ b ∷ rest) d dim after h split is e =
    let same : rest ≡ dim ∷ after = sym (take_rest (a ∷ b ∷ rest) 2) ∙ split in
    ap (λ (ws : List (Bor (List ℕ))). with_ends machine (a.now ∷ b.now ∷ texts ws)) same
    ∙ (cut machine a.now b.now dim.now after is
    ∙ ap (λ (r : Result BlankAsked Refusal). r >>= λ m. with_ends m (texts after)) e)
