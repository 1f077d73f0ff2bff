-- Answers, byte by byte.
use Rattle.std.proofs.Common.{◌≡◌, ℕ, List, [], ◌∷◌, Option, Some, None, Result, Ok, codes, refl, ap, ◌∙◌, sym}
use Rattle.std.specs.Fmt.{digits}
use Rattle.cm_bits.specs.Text.{words_of}
use Rattle.cm_session.specs.declared.command.Refusal.{Refusal}
use Rattle.cm_session.specs.declared.command.Refusal.TheVariants.{Width, Range, ZeroFlag, Word, Operands, Number}
use Rattle.cm_session.specs.Answer.{line, refusal_number, refused_line}
use Rattle.cm_exchange.specs.declared.step.Step.{Step}
use Rattle.cm_exchange.specs.Lanes.{Exchange}
use Rattle.cm_exchange.specs.Worlds.{World}
use Rattle.cm_exchange.specs.Steps.{next_world}
use Rattle.cm_weave_text.specs.Words.{step_in_words}
use Rattle.cm_weave_text.specs.Ends.{finished_line, unfinished_line}
use Rattle.cm_weave_text.specs.Session.{played, step_answered, world_after_line, NOT_NOW}

-- the bytes of a refusal
abbrev pub text_of : Refusal → List ℕ
text_of Width = 63 ∷ 32 ∷ 49 ∷ 10 ∷ []
text_of Range = 63 ∷ 32 ∷ 50 ∷ 10 ∷ []
text_of ZeroFlag = 63 ∷ 32 ∷ 51 ∷ 10 ∷ []
text_of Word = 63 ∷ 32 ∷ 49 ∷ 53 ∷ 10 ∷ []
text_of Operands = 63 ∷ 32 ∷ 49 ∷ 54 ∷ 10 ∷ []
text_of Number = 63 ∷ 32 ∷ 49 ∷ 55 ∷ 10 ∷ []

refusal-text : (refusal : Refusal) → text_of refusal ≡ refused_line (refusal_number refusal)
unfolding line digits
refusal-text Width = refl
refusal-text Range = refl
refusal-text ZeroFlag = refl
refusal-text Word = refl
refusal-text Operands = refl
refusal-text Number = refl

pub is_text_of : (refusal other : Refusal) → refusal ≡ other → text_of other ≡ refused_line (refusal_number refusal)
is_text_of refusal other is = ap text_of (sym is) ∙ refusal-text refusal

-- a step that cannot be taken now
pub not_now-text : 63 ∷ 32 ∷ 51 ∷ 52 ∷ 10 ∷ [] ≡ refused_line NOT_NOW
unfolding line digits
not_now-text = refl

-- a line whose step was refused is answered so
pub refused_now : (exchange : Exchange) (world new : World) (line : List ℕ) (read : Result (Option Step) Refusal)
    (step : Step) → read ≡ step_in_words exchange.k (words_of line) → read ≡ Ok (Some step)
    → next_world exchange world step ≡ None → new ≡ world
    → record { world = new; answer = 63 ∷ 32 ∷ 51 ∷ 52 ∷ 10 ∷ [] } ≡ world_after_line exchange world line
unfolding world_after_line
refused_now exchange world new line read step is asks none same =
    (λ i. record { world = same i; answer = not_now-text i })
    ∙ ap (played world) (sym none) ∙ ap (step_answered exchange world) (sym asks ∙ is)

-- the last line
pub finished-text : codes "finished\n" ≡ finished_line
unfolding line
finished-text = refl

pub unfinished-text : codes "unfinished\n" ≡ unfinished_line
unfolding line
unfinished-text = refl
