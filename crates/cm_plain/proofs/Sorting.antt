-- What a buffer delivers and what it keeps, one message after another, as the plain program sorts them.
use Rattle.std.proofs.Common.{◌≡◌, ℕ, ◌+◌, ◌<◌, Bool, true, false, List, [], ◌∷◌, ◌++◌, length, take, get_or, refl, sym}
use Rattle.std.proofs.Common.{ap, ◌∙◌, ⊎_elim}
use Rattle.std.proofs.lemmas.Bool.{cases_Bool}
use Rattle.std.proofs.lemmas.List.{take_more}
use Rattle.cm_model.specs.declared.message.Message.{Message}
use Rattle.cm_model.specs.OneChip.{is_accepted, arrived_for, delivered, kept}

-- the processors for which messages have arrived, after these messages
abbrev pub arrived_after : List ℕ → List Message → List ℕ
arrived_after before [] = before
arrived_after before (m ∷ ms) = arrived_after (arrived_for before m) ms

-- one message more
arrived-more : (before : List ℕ) (ms : List Message) (m : Message)
    → arrived_after before (ms ++ m ∷ []) ≡ arrived_for (arrived_after before ms) m
arrived-more before [] m = refl
arrived-more before (x ∷ ms) m = arrived-more (arrived_for before x) ms m

-- it is delivered last where it is accepted
delivered-more : (receives : ℕ → Bool) (before : List ℕ) (ms : List Message) (m : Message)
    → is_accepted receives (arrived_after before ms) m ≡ true
    → delivered receives before (ms ++ m ∷ []) ≡ delivered receives before ms ++ m ∷ []
delivered-more receives before [] m e = rw e refl
delivered-more receives before (x ∷ ms) m e =
    ⊎_elim (λ (t : is_accepted receives before x ≡ true). rw t
    (ap (λ z. x ∷ z) (delivered-more receives (arrived_for before x) ms m e)))
    (λ (t : is_accepted receives before x ≡ false). rw t (delivered-more receives (arrived_for before x) ms m e))
    (cases_Bool (is_accepted receives before x))

-- and not where it is not
delivered-same : (receives : ℕ → Bool) (before : List ℕ) (ms : List Message) (m : Message)
    → is_accepted receives (arrived_after before ms) m ≡ false
    → delivered receives before (ms ++ m ∷ []) ≡ delivered receives before ms
delivered-same receives before [] m e = rw e refl
delivered-same receives before (x ∷ ms) m e =
    ⊎_elim (λ (t : is_accepted receives before x ≡ true). rw t
    (ap (λ z. x ∷ z) (delivered-same receives (arrived_for before x) ms m e)))
    (λ (t : is_accepted receives before x ≡ false). rw t (delivered-same receives (arrived_for before x) ms m e))
    (cases_Bool (is_accepted receives before x))

-- then it is kept, last
kept-more : (receives : ℕ → Bool) (before : List ℕ) (ms : List Message) (m : Message)
    → is_accepted receives (arrived_after before ms) m ≡ false
    → kept receives before (ms ++ m ∷ []) ≡ kept receives before ms ++ m ∷ []
kept-more receives before [] m e = rw e refl
kept-more receives before (x ∷ ms) m e =
    ⊎_elim (λ (t : is_accepted receives before x ≡ true). rw t (kept-more receives (arrived_for before x) ms m e))
    (λ (t : is_accepted receives before x ≡ false). rw t
    (ap (λ z. x ∷ z) (kept-more receives (arrived_for before x) ms m e)))
    (cases_Bool (is_accepted receives before x))

-- what is accepted is not kept
kept-same : (receives : ℕ → Bool) (before : List ℕ) (ms : List Message) (m : Message)
    → is_accepted receives (arrived_after before ms) m ≡ true
    → kept receives before (ms ++ m ∷ []) ≡ kept receives before ms
kept-same receives before [] m e = rw e refl
kept-same receives before (x ∷ ms) m e =
    ⊎_elim (λ (t : is_accepted receives before x ≡ true). rw t (kept-same receives (arrived_for before x) ms m e))
    (λ (t : is_accepted receives before x ≡ false). rw t
    (ap (λ z. x ∷ z) (kept-same receives (arrived_for before x) ms m e)))
    (cases_Bool (is_accepted receives before x))

-- ---- the loop over a buffer: the message at an index comes next

-- the messages up to the next index
next_is : (ms : List Message) (i : ℕ) (m : Message) → i < length ms → m ≡ get_or ms i m
    → take (i + 1) ms ≡ take i ms ++ m ∷ []
next_is ms i m h is = take_more ms i m h ∙ ap (λ (x : Message). take i ms ++ x ∷ []) (sym is)

-- so far these processors have been sent messages, and this one is accepted or not
pub record IsNext (receives : ℕ → Bool) (ms : List Message) (i : ℕ) (m : Message) (arrived : List ℕ)
    (accepted : Bool) : Type 0 where
  pub inside : i < length ms
  pub is : m ≡ get_or ms i m
  pub before : arrived ≡ arrived_after [] (take i ms)
  pub test : accepted ≡ is_accepted receives arrived m

-- the test of the loop is that of the definition
is_accepted-next : (receives : ℕ → Bool) (ms : List Message) (i : ℕ) (m : Message) (arrived : List ℕ)
    (accepted : Bool) → IsNext receives ms i m arrived accepted
    → is_accepted receives (arrived_after [] (take i ms)) m ≡ accepted
is_accepted-next receives ms i m arrived accepted next =
    sym (next.test ∙ ap (λ (before : List ℕ). is_accepted receives before m) next.before)

-- each case of the loop: it is delivered, or is not
pub delivered_in_turn : (receives : ℕ → Bool) (ms : List Message) (i : ℕ) (m : Message) (arrived : List ℕ)
    (accepted : Bool) (before after : List Message) → IsNext receives ms i m arrived accepted → accepted ≡ true
    → before ≡ delivered receives [] (take i ms) → after ≡ before ++ m ∷ []
    → after ≡ delivered receives [] (take (i + 1) ms)
delivered_in_turn receives ms i m arrived accepted before after next e was is =
    is ∙ ap (λ z. z ++ m ∷ []) was
    ∙ sym (ap (delivered receives []) (next_is ms i m next.inside next.is)
    ∙ delivered-more receives [] (take i ms) m (is_accepted-next receives ms i m arrived accepted next ∙ e))

pub none_delivered_in_turn : (receives : ℕ → Bool) (ms : List Message) (i : ℕ) (m : Message) (arrived : List ℕ)
    (accepted : Bool) (before : List Message) → IsNext receives ms i m arrived accepted → accepted ≡ false
    → before ≡ delivered receives [] (take i ms) → before ≡ delivered receives [] (take (i + 1) ms)
none_delivered_in_turn receives ms i m arrived accepted before next e was =
    was ∙ sym (ap (delivered receives []) (next_is ms i m next.inside next.is)
    ∙ delivered-same receives [] (take i ms) m (is_accepted-next receives ms i m arrived accepted next ∙ e))

-- it is kept, or is not
pub kept_in_turn : (receives : ℕ → Bool) (ms : List Message) (i : ℕ) (m : Message) (arrived : List ℕ)
    (accepted : Bool) (before after : List Message) → IsNext receives ms i m arrived accepted → accepted ≡ false
    → before ≡ kept receives [] (take i ms) → after ≡ before ++ m ∷ [] → after ≡ kept receives [] (take (i + 1) ms)
kept_in_turn receives ms i m arrived accepted before after next e was is =
    is ∙ ap (λ z. z ++ m ∷ []) was
    ∙ sym (ap (kept receives []) (next_is ms i m next.inside next.is)
    ∙ kept-more receives [] (take i ms) m (is_accepted-next receives ms i m arrived accepted next ∙ e))

pub none_kept_in_turn : (receives : ℕ → Bool) (ms : List Message) (i : ℕ) (m : Message) (arrived : List ℕ)
    (accepted : Bool) (before : List Message) → IsNext receives ms i m arrived accepted → accepted ≡ true
    → before ≡ kept receives [] (take i ms) → before ≡ kept receives [] (take (i + 1) ms)
none_kept_in_turn receives ms i m arrived accepted before next e was =
    was ∙ sym (ap (kept receives []) (next_is ms i m next.inside next.is)
    ∙ kept-same receives [] (take i ms) m (is_accepted-next receives ms i m arrived accepted next ∙ e))

-- either way its processor is counted if it has arrived
pub arrived_in_turn : (receives : ℕ → Bool) (ms : List Message) (i : ℕ) (m : Message) (arrived after : List ℕ)
    (accepted : Bool) → IsNext receives ms i m arrived accepted → after ≡ arrived_for arrived m
    → after ≡ arrived_after [] (take (i + 1) ms)
arrived_in_turn receives ms i m arrived after accepted next is =
    is ∙ ap (λ (before : List ℕ). arrived_for before m) next.before
    ∙ sym (ap (arrived_after []) (next_is ms i m next.inside next.is) ∙ arrived-more [] (take i ms) m)
