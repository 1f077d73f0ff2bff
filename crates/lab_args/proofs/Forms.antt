-- Words that are too few or too many.
use Rattle.std.proofs.Common.{◌≡◌, ℕ, ◌<◌, ◌≤◌, ◌⊎◌, List, [], ◌∷◌, Err, length, refl, arith}
use Rattle.std.specs.Borrow.{Bor}
use Rattle.lab_figures.specs.declared.looks.Look.{Look}
use Rattle.lab_data.specs.declared.order.Order.{Order}
use Rattle.lab_args.specs.Words.{texts}
use Rattle.lab_args.specs.Refusals.{Words}
use Rattle.lab_args.specs.Commands.{freshening, loading, request_of}
use Rattle.lab_args.specs.Tasks.{filling_in, painting, picture_asked, sender_words, telling}

pub few_or_many_of_sender : (words : List (Bor (List ℕ))) → (length words < 3) ⊎ (4 ≤ length words)
    → sender_words (texts words) ≡ Err Words
few_or_many_of_sender [] h = refl
few_or_many_of_sender (a ∷ []) h = refl
few_or_many_of_sender (a ∷ b ∷ []) h = refl
few_or_many_of_sender (a ∷ b ∷ c ∷ []) h = absurd (omega arith)
few_or_many_of_sender (a ∷ b ∷ c ∷ d ∷ rest) h = refl

pub few_or_many_of_telling : (order : Order) (words : List (Bor (List ℕ)))
    → (length words < 3) ⊎ (4 ≤ length words) → telling order (texts words) ≡ Err Words
few_or_many_of_telling order [] h = refl
few_or_many_of_telling order (a ∷ []) h = refl
few_or_many_of_telling order (a ∷ b ∷ []) h = refl
few_or_many_of_telling order (a ∷ b ∷ c ∷ []) h = absurd (omega arith)
few_or_many_of_telling order (a ∷ b ∷ c ∷ d ∷ rest) h = refl

pub few_or_many_of_filling : (order : Order) (words : List (Bor (List ℕ)))
    → (length words < 4) ⊎ (5 ≤ length words) → filling_in order (texts words) ≡ Err Words
few_or_many_of_filling order [] h = refl
few_or_many_of_filling order (a ∷ []) h = refl
few_or_many_of_filling order (a ∷ b ∷ []) h = refl
few_or_many_of_filling order (a ∷ b ∷ c ∷ []) h = refl
few_or_many_of_filling order (a ∷ b ∷ c ∷ d ∷ []) h = absurd (omega arith)
few_or_many_of_filling order (a ∷ b ∷ c ∷ d ∷ e ∷ rest) h = refl

pub few_or_many_of_painting : (words : List (Bor (List ℕ))) → (length words < 4) ⊎ (5 ≤ length words)
    → painting (texts words) ≡ Err Words
few_or_many_of_painting [] h = refl
few_or_many_of_painting (a ∷ []) h = refl
few_or_many_of_painting (a ∷ b ∷ []) h = refl
few_or_many_of_painting (a ∷ b ∷ c ∷ []) h = refl
few_or_many_of_painting (a ∷ b ∷ c ∷ d ∷ []) h = absurd (omega arith)
few_or_many_of_painting (a ∷ b ∷ c ∷ d ∷ e ∷ rest) h = refl

pub few_or_many_of_picture : (look : Look) (words : List (Bor (List ℕ)))
    → (length words < 2) ⊎ (4 ≤ length words) → picture_asked look (texts words) ≡ Err Words
few_or_many_of_picture look [] h = refl
few_or_many_of_picture look (a ∷ []) h = refl
few_or_many_of_picture look (a ∷ b ∷ []) h = absurd (omega arith)
few_or_many_of_picture look (a ∷ b ∷ c ∷ []) h = absurd (omega arith)
few_or_many_of_picture look (a ∷ b ∷ c ∷ d ∷ rest) h = refl

pub few_of_freshening : (words : List (Bor (List ℕ))) → length words < 2 → freshening (texts words) ≡ Err Words
few_of_freshening [] h = refl
few_of_freshening (a ∷ []) h = refl
few_of_freshening (a ∷ b ∷ rest) h = absurd (omega arith)

pub few_of_loading : (words : List (Bor (List ℕ))) → length words < 4 → loading (texts words) ≡ Err Words
few_of_loading [] h = refl
few_of_loading (a ∷ []) h = refl
few_of_loading (a ∷ b ∷ []) h = refl
few_of_loading (a ∷ b ∷ c ∷ []) h = refl
few_of_loading (a ∷ b ∷ c ∷ d ∷ rest) h = absurd (omega arith)

pub few_words : (words : List (Bor (List ℕ))) → length words < 2 → request_of (texts words) ≡ Err Words
few_words [] h = refl
few_words (a ∷ []) h = refl
few_words (a ∷ b ∷ rest) h = absurd (omega arith)
