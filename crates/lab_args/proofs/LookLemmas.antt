-- The options of a picture, one after another.
use Rattle.std.proofs.Common.{◌≡◌, ℕ, ◌-◌, ◌<◌, ◌≤◌, true, false, Bool, Result, Ok, Err, List, [], ◌∷◌, get_or, length, refl}
use Rattle.std.proofs.Common.{take, drop, sym, ap, ◌∙◌, arith}
use Rattle.std.specs.Prelude.{if◌then◌else◌}
use Rattle.std.proofs.lemmas.List.{take_rest}
use Rattle.std.specs.Borrow.{Bor}
use Rattle.lab_figures.specs.declared.looks.Look.{Look}
use Rattle.lab_args.specs.Words.{texts}
use Rattle.lab_args.specs.Refusals.{Refusal, Words, ◌>>=◌}
use Rattle.lab_args.specs.Requests.{TaskAsked}
use Rattle.lab_args.specs.Tasks.{is_setting, is_sign, looked_at, picture_asked, with_setting, with_sign}

-- what comes of two words and those behind them, where the first is a sign, a setting, or neither
by : Look → List ℕ → List ℕ → List (List ℕ) → Bool → Bool → Result TaskAsked Refusal
by look a b rest sign setting =
    if sign then looked_at (with_sign look a) (b ∷ rest)
    else (if setting then with_setting look a b >>= (λ changed. looked_at changed rest) else picture_asked look (a ∷ b ∷ rest))

-- behind a sign the words go on
pub sign_goes_on : (look : Look) (words : List (Bor (List ℕ))) (d : Bor (List ℕ)) → 2 ≤ length words
    → is_sign (get_or words 0 d).now ≡ true
    → looked_at look (texts words)
    ≡ looked_at (with_sign look (get_or words 0 d).now) (texts (take (length words - 1) (drop 1 words)))
unfolding by
sign_goes_on look [] d h is = absurd (omega arith)
sign_goes_on look (a ∷ []) d h is = absurd (omega arith)
sign_goes_on look (a ∷ b ∷ rest) d h is =
    ap (λ (t : Bool). by look a.now b.now (texts rest) t (is_setting a.now)) is
    ∙ ap (λ (ws : List (Bor (List ℕ))). looked_at (with_sign look a.now) (texts ws)) (sym (take_rest (a ∷ b ∷ rest) 1))

-- and behind a setting that was read
pub setting_goes_on : (look changed : Look) (words : List (Bor (List ℕ))) (d : Bor (List ℕ)) → 2 ≤ length words
    → is_sign (get_or words 0 d).now ≡ false → is_setting (get_or words 0 d).now ≡ true
    → with_setting look (get_or words 0 d).now (get_or words 1 d).now ≡ Ok changed
    → looked_at look (texts words) ≡ looked_at changed (texts (take (length words - 2) (drop 2 words)))
unfolding by
setting_goes_on look changed [] d h unsigned is e = absurd (omega arith)
setting_goes_on look changed (a ∷ []) d h unsigned is e = absurd (omega arith)
setting_goes_on look changed (a ∷ b ∷ rest) d h unsigned is e =
    ap (λ (t : Bool). by look a.now b.now (texts rest) t (is_setting a.now)) unsigned
    ∙ ap (λ (t : Bool). by look a.now b.now (texts rest) false t) is
    ∙ ap (λ (r : Result Look Refusal). r >>= λ m. looked_at m (texts rest)) e
    ∙ ap (λ (ws : List (Bor (List ℕ))). looked_at changed (texts ws)) (sym (take_rest (a ∷ b ∷ rest) 2))

-- what is no option is the image
pub image_comes : (look : Look) (words : List (Bor (List ℕ))) (d : Bor (List ℕ)) → 2 ≤ length words
    → is_sign (get_or words 0 d).now ≡ false → is_setting (get_or words 0 d).now ≡ false
    → looked_at look (texts words) ≡ picture_asked look (texts words)
unfolding by
image_comes look [] d h unsigned other = absurd (omega arith)
image_comes look (a ∷ []) d h unsigned other = absurd (omega arith)
image_comes look (a ∷ b ∷ rest) d h unsigned other =
    ap (λ (t : Bool). by look a.now b.now (texts rest) t (is_setting a.now)) unsigned
    ∙ ap (λ (t : Bool). by look a.now b.now (texts rest) false t) other

-- fewer words than two
pub few_of_looked_at : (look : Look) (words : List (Bor (List ℕ))) → length words < 2
    → looked_at look (texts words) ≡ Err Words
few_of_looked_at look [] few = refl
few_of_looked_at look (a ∷ []) few = refl
few_of_looked_at look (a ∷ b ∷ rest) few = absurd (omega arith)
