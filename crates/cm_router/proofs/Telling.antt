-- What each chip tells in a row of events, as others are told behind them.
use Rattle.std.proofs.Common.{◌≡◌, ◌≢◌, ℕ, ◌<◌, ◌++◌, ◌==◌, List, [], ◌∷◌, length, map, refl, sym, ap, ◌∙◌}
use Rattle.std.proofs.Common.{append_assoc, arith, true, false, ◌≤◌, ⊎_elim}
use Rattle.std.proofs.lemmas.Bool.{cases_lt}
use Rattle.std.proofs.lemmas.Bool.Decides.{nat_tests}
use Rattle.std.proofs.lemmas.List.{append-nil, get_or_past}
use Rattle.std.proofs.lemmas.List.Elements.{filter-append, All-nil, All-cons, All-head, All-tail}
use Rattle.std.specs.List.{All}
use Rattle.cm_model.specs.declared.message.Message.{Message}
use Rattle.cm_model.specs.declared.message.Event.{Event}
use Rattle.cm_model.specs.declared.message.Event.TheVariants.{Injected, Delivered}
use Rattle.cm_model.specs.Processor.{Processor}
use Rattle.cm_model.specs.Array.{nth_or_nil}
use Rattle.cm_model.specs.Letters.{messages_sent}
use Rattle.cm_model.proofs.Each.{length-tabulate, get_or-each_below, is_each}
use Rattle.cm_router.specs.Rows.{logging_chip, events_of_chip, with_row}

pub events_of_chip-append : (c : ℕ) (row more : List Event) → events_of_chip c (row ++ more) ≡ events_of_chip c row ++ events_of_chip c more
events_of_chip-append c row more = filter-append (λ e. logging_chip e == c) row more

pub length-with_row : (logs : List (List Event)) (row : List Event) → length (with_row logs row) ≡ length logs
length-with_row logs row = length-tabulate 0 (length logs) (λ c. nth_or_nil logs c ++ events_of_chip c row)

-- a chip's log
pub with_row_at : (logs : List (List Event)) (row : List Event) (c : ℕ) → c < length logs
    → nth_or_nil (with_row logs row) c ≡ nth_or_nil logs c ++ events_of_chip c row
with_row_at logs row c inside = get_or-each_below (length logs) (λ k. nth_or_nil logs k ++ events_of_chip k row) c [] inside

-- a row that tells nothing
pub with_row-nil : (logs : List (List Event)) → with_row logs [] ≡ logs
with_row-nil logs = sym (is_each [] (length logs) (λ c. nth_or_nil logs c ++ []) logs refl
    (λ c inside. sym (append-nil (nth_or_nil logs c))))

-- ---- what one chip tells

-- of what another chip tells a chip tells nothing
told_elsewhere : (c k : ℕ) (es : List Event) → k ≢ c → All (λ e. logging_chip e ≡ c) es → events_of_chip k es ≡ []
told_elsewhere c k [] other all = refl
told_elsewhere c k (e ∷ es) other all =
    let not_it : (logging_chip e == k) ≡ false = grind (arith, nat_tests, All-head (λ x. logging_chip x ≡ c) e es all) in
    rw not_it (told_elsewhere c k es other (All-tail (λ x. logging_chip x ≡ c) e es all))

-- and of what it tells itself all
told_here : (c : ℕ) (es : List Event) → All (λ e. logging_chip e ≡ c) es → events_of_chip c es ≡ es
told_here c [] all = refl
told_here c (e ∷ es) all =
    let it : (logging_chip e == c) ≡ true = grind (arith, nat_tests, All-head (λ x. logging_chip x ≡ c) e es all) in
    rw it (ap (λ (xs : List Event). e ∷ xs) (told_here c es (All-tail (λ x. logging_chip x ≡ c) e es all)))

-- behind a row in which one chip told more each log is as before, but that chip's, which has more behind it
pub told_more : (logs : List (List Event)) (row es : List Event) (c : ℕ) → c < length logs
    → All (λ e. logging_chip e ≡ c) es → nth_or_nil (with_row logs (row ++ es)) c ≡ nth_or_nil (with_row logs row) c ++ es
told_more logs row es c inside all =
    with_row_at logs (row ++ es) c inside
    ∙ ap (λ (xs : List Event). nth_or_nil logs c ++ xs)
    (events_of_chip-append c row es ∙ ap (λ (xs : List Event). events_of_chip c row ++ xs) (told_here c es all))
    ∙ sym (append_assoc (nth_or_nil logs c) (events_of_chip c row) es)
    ∙ ap (λ (xs : List Event). xs ++ es) (sym (with_row_at logs row c inside))

pub told_no_more : (logs : List (List Event)) (row es : List Event) (c k : ℕ) → k ≢ c
    → All (λ e. logging_chip e ≡ c) es → nth_or_nil (with_row logs (row ++ es)) k ≡ nth_or_nil (with_row logs row) k
told_no_more logs row es c k other all =
    ⊎_elim
    (λ (inside : k < length logs).
    with_row_at logs (row ++ es) k inside
    ∙ ap (λ (xs : List Event). nth_or_nil logs k ++ xs)
    (events_of_chip-append k row es ∙ ap (λ (xs : List Event). events_of_chip k row ++ xs) (told_elsewhere c k es other all)
    ∙ append-nil (events_of_chip k row))
    ∙ sym (with_row_at logs row k inside))
    (λ (past : length logs ≤ k).
    get_or_past (with_row logs (row ++ es)) k [] (omega (arith, length-with_row logs (row ++ es)))
    ∙ sym (get_or_past (with_row logs row) k [] (omega (arith, length-with_row logs row))))
    (cases_lt k (length logs))

-- ---- injection and delivery tell at their chip

pub told_of_sent : (n clock c : ℕ) (chip : List Processor) (ps : List ℕ)
    → All (λ e. logging_chip e ≡ c) (map Injected (messages_sent n clock c chip ps))
told_of_sent n clock c chip [] = All-nil (λ e. logging_chip e ≡ c)
told_of_sent n clock c chip (p ∷ ps) =
    All-cons (λ e. logging_chip e ≡ c) _ _ refl (told_of_sent n clock c chip ps)

pub told_of_delivered : (c : ℕ) (ms : List Message) → All (λ e. logging_chip e ≡ c) (map (λ m. Delivered c m) ms)
told_of_delivered c [] = All-nil (λ e. logging_chip e ≡ c)
told_of_delivered c (m ∷ ms) = All-cons (λ e. logging_chip e ≡ c) _ _ refl (told_of_delivered c ms)
