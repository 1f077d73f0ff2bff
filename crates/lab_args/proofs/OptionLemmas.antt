-- The options of loads, one after another, each with the words behind it.
use Rattle.std.proofs.Common.{◌≡◌, ℕ, ◌-◌, ◌≤◌, true, false, Bool, Result, Ok, Err, List, [], ◌∷◌, get_or, length}
use Rattle.std.proofs.Common.{take, drop, codes, bytes_eq, refl, sym, ap, ◌∙◌, arith}
use Rattle.std.specs.Prelude.{if◌then◌else◌}
use Rattle.std.proofs.lemmas.List.{take_rest}
use Rattle.std.specs.Borrow.{Bor}
use Rattle.lab_args.specs.Words.{texts}
use Rattle.lab_args.specs.Refusals.{Refusal, Words, ◌>>=◌}
use Rattle.lab_args.specs.Requests.{LoadsAsked}
use Rattle.lab_args.specs.Loads.{with_choice, load_with_cut, with_options}

-- what was read, if nothing comes after
alone : (read : Result LoadsAsked Refusal) → read ≡ (read >>= λ m. Ok m)
alone (Ok found) = refl
alone (Err refusal) = refl

-- behind an option with one word the words go on
chosen : (loads : LoadsAsked) (a b : List ℕ) (rest : List (Bor (List ℕ))) → bytes_eq a (codes "--cut") ≡ false
    → with_options loads (a ∷ b ∷ texts rest) ≡ (with_choice loads a b >>= λ m. with_options m (texts rest))
chosen loads a b [] is =
    ap (λ (t : Bool). if t then Err Words else with_choice loads a b) is ∙ alone (with_choice loads a b)
chosen loads a b (c ∷ rest) is =
    ap (λ (t : Bool). if t then load_with_cut loads b c.now >>= (λ m. with_options m (texts rest))
    else with_choice loads a b >>= (λ m. with_options m (c.now ∷ texts rest))) is

-- and behind a cut wire
cut : (loads : LoadsAsked) (a b c : List ℕ) (rest : List (Bor (List ℕ))) → bytes_eq a (codes "--cut") ≡ true
    → with_options loads (a ∷ b ∷ c ∷ texts rest) ≡ (load_with_cut loads b c >>= λ m. with_options m (texts rest))
cut loads a b c rest is =
    ap (λ (t : Bool). if t then load_with_cut loads b c >>= (λ m. with_options m (texts rest))
    else with_choice loads a b >>= (λ m. with_options m (c ∷ texts rest))) is

-- the words go on behind an option that was read
pub choice_goes_on : (loads changed : LoadsAsked) (words : List (Bor (List ℕ))) (d : Bor (List ℕ)) → 2 ≤ length words
    → bytes_eq (get_or words 0 d).now (codes "--cut") ≡ false
    → with_choice loads (get_or words 0 d).now (get_or words 1 d).now ≡ Ok changed
    → with_options loads (texts words) ≡ with_options changed (texts (take (length words - 2) (drop 2 words)))
choice_goes_on loads changed [] d h is e = absurd (omega arith)
choice_goes_on loads changed (a ∷ []) d h is e = absurd (omega arith)
choice_goes_on loads changed (a ∷ b ∷ rest) d h is e =
    chosen loads a.now b.now rest is
    ∙ (ap (λ (r : Result LoadsAsked Refusal). r >>= λ m. with_options m (texts rest)) e
    ∙ ap (λ (ws : List (Bor (List ℕ))). with_options changed (texts ws)) (sym (take_rest (a ∷ b ∷ rest) 2)))

-- and behind a cut wire that was read
pub wire_goes_on : (loads changed : LoadsAsked) (words : List (Bor (List ℕ))) (d dim : Bor (List ℕ))
    (after : List (Bor (List ℕ))) → 2 ≤ length words
    → take (length words - 2) (drop 2 words) ≡ dim ∷ after
    → bytes_eq (get_or words 0 d).now (codes "--cut") ≡ true
    → load_with_cut loads (get_or words 1 d).now dim.now ≡ Ok changed
    → with_options loads (texts words) ≡ with_options changed (texts after)
wire_goes_on loads changed [] d dim after h split is e = absurd (omega arith)
wire_goes_on loads changed (a ∷ []) d dim after h split is e = absurd (omega arith)
wire_goes_on loads changed (a ∷ b ∷ rest) d dim after h split is e =
    let same : rest ≡ dim ∷ after = sym (take_rest (a ∷ b ∷ rest) 2) ∙ split in
    ap (λ (ws : List (Bor (List ℕ))). with_options loads (a.now ∷ b.now ∷ texts ws)) same
    ∙ (cut loads a.now b.now dim.now after is
    ∙ ap (λ (r : Result LoadsAsked Refusal). r >>= λ m. with_options m (texts after)) e)

-- one word alone is no option
pub lone_word : (loads : LoadsAsked) (words : List (Bor (List ℕ))) → length words ≡ 1
    → with_options loads (texts words) ≡ Err Words
lone_word loads [] one = absurd (omega (arith, one))
lone_word loads (a ∷ []) one = refl
lone_word loads (a ∷ b ∷ rest) one = absurd (omega (arith, one))
