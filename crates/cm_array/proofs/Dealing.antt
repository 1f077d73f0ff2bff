-- What a row tells, as it is put behind logs.
use Rattle.std.proofs.Common.{◌≡◌, ◌≢◌, ℕ, ◌+◌, ◌<◌, ◌≤◌, ◌==◌, ◌++◌, true, false, not, Bool, List, []}
use Rattle.std.proofs.Common.{◌∷◌, length, get_or, set, take}
use Rattle.std.proofs.Common.{drop, refl, sym, ap, ◌∙◌, arith, ⊎_elim, subst, append_assoc, zero-add}
use Rattle.std.proofs.lemmas.Bool.{cases_Bool, cases_eq, eqb-true, or_parts}
use Rattle.std.proofs.lemmas.Bool.Decides.{nat_tests}
use Rattle.std.proofs.lemmas.List.{append-nil, length-append, length-map, length-set, get_or-map, take-append-drop, take_more}
use Rattle.std.proofs.lemmas.List.Elements.{All-from_get_or}
use Rattle.std.specs.Prelude.{vec_len}
use Rattle.std.specs.List.{All, list_any}
use Rattle.cm_model.specs.declared.message.Event.{Event}
use Rattle.cm_model.specs.Array.{nth_or_nil}
use Rattle.cm_model.specs.Each.{tabulate}
use Rattle.cm_model.proofs.Each.{length-tabulate, get_or-each_below, same_each_below, is_each}
use Rattle.cm_blocks.specs.Parts.{sliced}
use Rattle.cm_blocks.proofs.Cutting.{length-sliced, read-cut_at}
use Rattle.cm_router.specs.Logs.{Log}
use Rattle.cm_router.specs.Rows.{logging_chip, events_of_chip, with_row}
use Rattle.cm_router.proofs.Telling.{events_of_chip-append, length-with_row, with_row_at}
use Rattle.cm_petit.specs.Routers.{events_of}
use Rattle.cm_array.specs.Rows.{dealt}
use Rattle.cm_array.proofs.Laying.{log_left, log_here}

-- ---- one event

told_here : (c : ℕ) (e : Event) → logging_chip e ≡ c → events_of_chip c (e ∷ []) ≡ e ∷ []
told_here c e is = let yes : (logging_chip e == c) ≡ true = grind (arith, nat_tests, is) in rw yes refl

told_elsewhere : (c : ℕ) (e : Event) → logging_chip e ≢ c → events_of_chip c (e ∷ []) ≡ []
told_elsewhere c e other = let no : (logging_chip e == c) ≡ false = grind (arith, nat_tests, other) in rw no refl

-- told by a chip whose log is not there
pub dealt_elsewhere : (first : ℕ) (logs : List (List Event)) (e : Event)
    → ((c : ℕ) → c < length logs → logging_chip e ≢ first + c) → logs ≡ dealt first logs (e ∷ [])
dealt_elsewhere first logs e other =
    is_each [] (length logs) (λ c. nth_or_nil logs c ++ events_of_chip (first + c) (e ∷ [])) logs refl
    (λ c l. sym (ap (λ z. nth_or_nil logs c ++ z) (told_elsewhere (first + c) e (other c l))
    ∙ append-nil (nth_or_nil logs c)))

-- told by a chip whose log it is
pub dealt_here : (first i : ℕ) (logs : List Log) (was log : Log) (e : Event) → i < length logs → logging_chip e ≡ first + i
    → log.items ≡ (get_or logs i was).items ++ e ∷ [] → events_of (set logs i log) ≡ dealt first (events_of logs) (e ∷ [])
dealt_here first i logs was log e inside told is =
    let long = length-map logs (λ (x : Log). x.items) in
    is_each [] (length (events_of logs)) (λ c. nth_or_nil (events_of logs) c ++ events_of_chip (first + c) (e ∷ []))
    (events_of (set logs i log))
    (length-map (set logs i log) (λ (x : Log). x.items) ∙ length-set logs i log ∙ sym long)
    (λ c l. ⊎_elim
    (λ (h : c ≡ i). subst (λ (k : ℕ). nth_or_nil (events_of (set logs i log)) k
    ≡ nth_or_nil (events_of logs) k ++ events_of_chip (first + k) (e ∷ [])) (sym h)
    (log_here logs i log inside ∙ is
    ∙ (λ j. sym (get_or-map (λ (x : Log). x.items) logs i was [] inside) j ++ sym (told_here (first + i) e told) j)))
    (λ (h : c ≢ i). log_left logs i c log h
    ∙ sym (ap (λ z. nth_or_nil (events_of logs) c ++ z) (told_elsewhere (first + c) e (omega (arith, h, told)))
    ∙ append-nil (nth_or_nil (events_of logs) c)))
    (cases_eq c i))

-- ---- a row

pub dealt-nil : (first : ℕ) (logs : List (List Event)) → dealt first logs [] ≡ logs
dealt-nil first logs = sym (is_each [] (length logs) (λ c. nth_or_nil logs c ++ []) logs refl
    (λ c l. sym (append-nil (nth_or_nil logs c))))

pub length-dealt : (first : ℕ) (logs : List (List Event)) (row : List Event) → length (dealt first logs row) ≡ length logs
length-dealt first logs row = length-tabulate 0 (length logs) (λ c. nth_or_nil logs c ++ events_of_chip (first + c) row)

-- one behind the other
pub dealt-append : (first : ℕ) (logs : List (List Event)) (row more : List Event)
    → dealt first (dealt first logs row) more ≡ dealt first logs (row ++ more)
dealt-append first logs row more =
    let told = λ (c : ℕ). nth_or_nil logs c ++ events_of_chip (first + c) row in
    ap (λ (k : ℕ). tabulate 0 k (λ c. nth_or_nil (dealt first logs row) c ++ events_of_chip (first + c) more))
    (length-dealt first logs row)
    ∙ same_each_below [] (length logs) (λ c. nth_or_nil (dealt first logs row) c ++ events_of_chip (first + c) more)
    (λ c. nth_or_nil logs c ++ events_of_chip (first + c) (row ++ more))
    (λ c l. ap (λ z. z ++ events_of_chip (first + c) more) (get_or-each_below (length logs) told c [] l)
    ∙ append_assoc (nth_or_nil logs c) (events_of_chip (first + c) row) (events_of_chip (first + c) more)
    ∙ ap (λ z. nth_or_nil logs c ++ z) (sym (events_of_chip-append (first + c) row more)))

-- one event more of a row
pub one_more_dealt : (first i : ℕ) (row : List Event) (e : Event) (before now new : List (List Event)) → i < length row
    → e ≡ get_or row i e → now ≡ dealt first before (take i row) → new ≡ dealt first now (e ∷ [])
    → new ≡ dealt first before (take (i + 1) row)
one_more_dealt first i row e before now new inside is was told =
    told ∙ ap (λ z. dealt first z (e ∷ [])) was ∙ dealt-append first before (take i row) (e ∷ [])
    ∙ ap (dealt first before) (ap (λ z. take i row ++ z ∷ []) is ∙ sym (take_more row i e inside))

-- the logs of all chips
pub with_row-dealt : (logs : List (List Event)) (row : List Event) → with_row logs row ≡ dealt 0 logs row
with_row-dealt logs row =
    same_each_below [] (length logs) (λ c. nth_or_nil logs c ++ events_of_chip c row) (λ c. nth_or_nil logs c ++ events_of_chip (0 + c) row)
    (λ c l. ap (λ (k : ℕ). nth_or_nil logs c ++ events_of_chip k row) (sym (zero-add c)))

-- some of a row is dealt out, the rest is left in it
pub some_dealt : (logs now : List (List Event)) (row left : List Event) (count : ℕ)
    → now ≡ dealt 0 logs (take count row) → left ≡ drop count row → with_row now left ≡ with_row logs row
some_dealt logs now row left count told rest =
    with_row-dealt now left ∙ (λ i. dealt 0 (told i) (rest i)) ∙ dealt-append 0 logs (take count row) (drop count row)
    ∙ ap (dealt 0 logs) (take-append-drop count row) ∙ sym (with_row-dealt logs row)

-- the logs of some of the chips
pub dealt-sliced : (first count : ℕ) (logs : List (List Event)) (row : List Event) → first + count ≤ length logs
    → dealt first (sliced first count logs) row ≡ sliced first count (with_row logs row)
dealt-sliced first count logs row fits =
    let some : List (List Event) = sliced first count logs in
    let wide : length some ≡ count = length-sliced first count logs fits in
    let long = length-with_row logs row in
    sym (is_each [] (length some) (λ c. nth_or_nil some c ++ events_of_chip (first + c) row) (sliced first count (with_row logs row))
    (length-sliced first count (with_row logs row) (omega (arith, fits, long)) ∙ sym wide)
    (λ c l. let below : c < count = omega (arith, l, wide) in
    read-cut_at first count (with_row logs row) c [] below
    ∙ with_row_at logs row (first + c) (omega (arith, fits, below))
    ∙ ap (λ z. z ++ events_of_chip (first + c) row) (sym (read-cut_at first count logs c [] below))))

-- ---- whether a row tells of a chip

pub told_none : (c : ℕ) (row : List Event) → list_any (λ e. logging_chip e == c) row ≡ false → events_of_chip c row ≡ []
told_none c [] none = refl
told_none c (e ∷ row) none =
    let parts = or_parts (logging_chip e == c) (list_any (λ x. logging_chip x == c) row) none in
    rw parts.0 (told_none c row parts.1)

pub told_some : (c : ℕ) (row : List Event) → list_any (λ e. logging_chip e == c) row ≡ true → 0 < length (events_of_chip c row)
told_some c [] some = absurd cc
told_some c (e ∷ row) some =
    ⊎_elim
    (λ (h : (logging_chip e == c) ≡ true). rw h (omega arith))
    (λ (h : (logging_chip e == c) ≡ false).
    let rest : list_any (λ x. logging_chip x == c) row ≡ true = cc in rw h (told_some c row rest))
    (cases_Bool (logging_chip e == c))

-- where nothing is dealt out, there is nothing exactly where the row does not tell of the chip
pub none_where_untold : (c : ℕ) (dealt row : List Event) (told : Bool) → length dealt ≡ 0
    → told ≡ list_any (λ e. logging_chip e == c) row → not told ≡ (length (dealt ++ events_of_chip c row) == 0)
none_where_untold c dealt row true none is =
    let some = told_some c row (sym is) in
    let no : (length (dealt ++ events_of_chip c row) == 0) ≡ false =
    grind (arith, nat_tests, length-append dealt (events_of_chip c row), some) in
    sym no
none_where_untold c dealt row false none is =
    let untold = ap length (told_none c row (sym is)) in
    let yes : (length (dealt ++ events_of_chip c row) == 0) ≡ true =
    grind (arith, nat_tests, length-append dealt (events_of_chip c row), untold, none) in
    sym yes

-- where no log has an event, nor the row, nobody has told any
pub nothing_told : (logs : List (List Event)) (row : List Event) → row ≡ []
    → ((c : ℕ) → c < length logs → nth_or_nil logs c ≡ []) → All (λ log. log ≡ []) (with_row logs row)
nothing_told logs row none each =
    All-from_get_or (λ (log : List Event). log ≡ []) (with_row logs row) []
    (λ c l. let inside : c < length logs = omega (arith, l, length-with_row logs row) in
    with_row_at logs row c inside ∙ (λ i. each c inside i ++ events_of_chip c (none i)))

no_events : (events : List Event) → length events ≡ 0 → events ≡ []
no_events [] none = refl
no_events (e ∷ events) none = absurd (omega (arith, none))

-- a log, or a row, that was looked at
pub empty_log : (log : Log) (empty : Bool) → empty ≡ (vec_len log == 0) → empty ≡ true → log.items ≡ []
empty_log log empty is so = no_events log.items (omega (arith, log.ok.0, eqb-true (vec_len log) 0 (sym is ∙ so)))
