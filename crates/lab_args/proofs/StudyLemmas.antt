-- The options of a study, of a route and of the plot of one, one after another, before a file.
use Rattle.std.proofs.Common.{◌≡◌, ℕ, ◌-◌, ◌<◌, ◌≤◌, true, false, Bool, Option, Some, Result, Ok, Err, List, [], ◌∷◌, get_or, length}
use Rattle.std.proofs.Common.{take, drop, codes, bytes_eq, refl, sym, ap, ◌∙◌, arith}
use Rattle.std.specs.Prelude.{if◌then◌else◌}
use Rattle.std.proofs.lemmas.List.{take_rest}
use Rattle.std.specs.Borrow.{Bor}
use Rattle.lab_study.specs.declared.studies.Table.{Table}
use Rattle.lab_route_plot.specs.declared.legs.Cycles.{Cycles}
use Rattle.lab_args.specs.declared.tasks.RouteAsked.{RouteAsked}
use Rattle.lab_args.specs.Words.{texts}
use Rattle.lab_args.specs.Refusals.{Refusal, Words, ◌>>=◌}
use Rattle.lab_args.specs.Requests.{Request, TaskAsked}
use Rattle.lab_args.specs.Commands.{plotting_of, with_bound}
use Rattle.lab_args.specs.Tasks.{is_table_option, table_named, room_named, studied_with, studying_in, routed}
use Rattle.lab_args.specs.Tasks.{is_route_setting, routed_with, with_route_setting, with_waits}

-- ---- studies

-- what comes of two words and those behind them, where the first says what is told, asks for a room, or neither
study_by : Option ℕ → Table → List ℕ → List ℕ → List (List ℕ) → Bool → Bool → Result TaskAsked Refusal
study_by room table a b rest tabled roomed =
    if tabled then studied_with room (table_named a) (b ∷ rest)
    else (if roomed then room_named b >>= (λ given. studied_with given table rest) else studying_in room table (a ∷ b ∷ rest))

-- behind what says the table the words go on
pub table_goes_on : (room : Option ℕ) (table : Table) (words : List (Bor (List ℕ))) (d : Bor (List ℕ)) → 2 ≤ length words
    → is_table_option (get_or words 0 d).now ≡ true
    → studied_with room table (texts words)
    ≡ studied_with room (table_named (get_or words 0 d).now) (texts (take (length words - 1) (drop 1 words)))
unfolding study_by
table_goes_on room table [] d h is = absurd (omega arith)
table_goes_on room table (a ∷ []) d h is = absurd (omega arith)
table_goes_on room table (a ∷ b ∷ rest) d h is =
    ap (λ (t : Bool). study_by room table a.now b.now (texts rest) t (bytes_eq a.now (codes "--room"))) is
    ∙ ap (λ (ws : List (Bor (List ℕ))). studied_with room (table_named a.now) (texts ws)) (sym (take_rest (a ∷ b ∷ rest) 1))

-- and behind a room that was read
pub room_goes_on : (room given : Option ℕ) (table : Table) (words : List (Bor (List ℕ))) (d : Bor (List ℕ))
    → 2 ≤ length words → is_table_option (get_or words 0 d).now ≡ false
    → bytes_eq (get_or words 0 d).now (codes "--room") ≡ true
    → room_named (get_or words 1 d).now ≡ Ok given
    → studied_with room table (texts words) ≡ studied_with given table (texts (take (length words - 2) (drop 2 words)))
unfolding study_by
room_goes_on room given table [] d h other is e = absurd (omega arith)
room_goes_on room given table (a ∷ []) d h other is e = absurd (omega arith)
room_goes_on room given table (a ∷ b ∷ rest) d h other is e =
    ap (λ (t : Bool). study_by room table a.now b.now (texts rest) t (bytes_eq a.now (codes "--room"))) other
    ∙ ap (λ (t : Bool). study_by room table a.now b.now (texts rest) false t) is
    ∙ ap (λ (r : Result (Option ℕ) Refusal). r >>= λ g. studied_with g table (texts rest)) e
    ∙ ap (λ (ws : List (Bor (List ℕ))). studied_with given table (texts ws)) (sym (take_rest (a ∷ b ∷ rest) 2))

-- what is no option is the image
pub study_comes : (room : Option ℕ) (table : Table) (words : List (Bor (List ℕ))) (d : Bor (List ℕ)) → 2 ≤ length words
    → is_table_option (get_or words 0 d).now ≡ false
    → bytes_eq (get_or words 0 d).now (codes "--room") ≡ false
    → studied_with room table (texts words) ≡ studying_in room table (texts words)
unfolding study_by
study_comes room table [] d h other same = absurd (omega arith)
study_comes room table (a ∷ []) d h other same = absurd (omega arith)
study_comes room table (a ∷ b ∷ rest) d h other same =
    ap (λ (t : Bool). study_by room table a.now b.now (texts rest) t (bytes_eq a.now (codes "--room"))) other
    ∙ ap (λ (t : Bool). study_by room table a.now b.now (texts rest) false t) same

-- fewer words than two
pub few_of_study : (room : Option ℕ) (table : Table) (words : List (Bor (List ℕ))) → length words < 2
    → studied_with room table (texts words) ≡ Err Words
few_of_study room table [] few = refl
few_of_study room table (a ∷ []) few = refl
few_of_study room table (a ∷ b ∷ rest) few = absurd (omega arith)

-- ---- routes

-- the same, where the first says that the message's waits are told, is a setting, or neither
route_by : RouteAsked → List ℕ → List ℕ → List (List ℕ) → Bool → Bool → Result TaskAsked Refusal
route_by asked a b rest waits setting =
    if waits then routed_with (with_waits asked) (b ∷ rest)
    else (if setting then with_route_setting asked a b >>= (λ changed. routed_with changed rest) else routed asked a b rest)

-- behind `--why` the words go on
pub waits_go_on : (asked : RouteAsked) (words : List (Bor (List ℕ))) (d : Bor (List ℕ)) → 2 ≤ length words
    → bytes_eq (get_or words 0 d).now (codes "--why") ≡ true
    → routed_with asked (texts words)
    ≡ routed_with (with_waits asked) (texts (take (length words - 1) (drop 1 words)))
unfolding route_by
waits_go_on asked [] d h is = absurd (omega arith)
waits_go_on asked (a ∷ []) d h is = absurd (omega arith)
waits_go_on asked (a ∷ b ∷ rest) d h is =
    ap (λ (t : Bool). route_by asked a.now b.now (texts rest) t (is_route_setting a.now)) is
    ∙ ap (λ (ws : List (Bor (List ℕ))). routed_with (with_waits asked) (texts ws)) (sym (take_rest (a ∷ b ∷ rest) 1))

-- and behind a setting that was read
pub route_setting_goes_on : (asked changed : RouteAsked) (words : List (Bor (List ℕ))) (d : Bor (List ℕ))
    → 2 ≤ length words → bytes_eq (get_or words 0 d).now (codes "--why") ≡ false
    → is_route_setting (get_or words 0 d).now ≡ true
    → with_route_setting asked (get_or words 0 d).now (get_or words 1 d).now ≡ Ok changed
    → routed_with asked (texts words) ≡ routed_with changed (texts (take (length words - 2) (drop 2 words)))
unfolding route_by
route_setting_goes_on asked changed [] d h other is e = absurd (omega arith)
route_setting_goes_on asked changed (a ∷ []) d h other is e = absurd (omega arith)
route_setting_goes_on asked changed (a ∷ b ∷ rest) d h other is e =
    ap (λ (t : Bool). route_by asked a.now b.now (texts rest) t (is_route_setting a.now)) other
    ∙ ap (λ (t : Bool). route_by asked a.now b.now (texts rest) false t) is
    ∙ ap (λ (r : Result RouteAsked Refusal). r >>= λ m. routed_with m (texts rest)) e
    ∙ ap (λ (ws : List (Bor (List ℕ))). routed_with changed (texts ws)) (sym (take_rest (a ∷ b ∷ rest) 2))

-- what is no option is the image
pub route_comes : (asked : RouteAsked) (words : List (Bor (List ℕ))) (d : Bor (List ℕ)) → 2 ≤ length words
    → bytes_eq (get_or words 0 d).now (codes "--why") ≡ false
    → is_route_setting (get_or words 0 d).now ≡ false
    → routed_with asked (texts words)
    ≡ routed asked (get_or words 0 d).now (get_or words 1 d).now (texts (take (length words - 2) (drop 2 words)))
unfolding route_by
route_comes asked [] d h other unset = absurd (omega arith)
route_comes asked (a ∷ []) d h other unset = absurd (omega arith)
route_comes asked (a ∷ b ∷ rest) d h other unset =
    ap (λ (t : Bool). route_by asked a.now b.now (texts rest) t (is_route_setting a.now)) other
    ∙ ap (λ (t : Bool). route_by asked a.now b.now (texts rest) false t) unset
    ∙ ap (λ (ws : List (Bor (List ℕ))). routed asked a.now b.now (texts ws)) (sym (take_rest (a ∷ b ∷ rest) 2))

-- fewer words than two
pub few_of_route : (asked : RouteAsked) (words : List (Bor (List ℕ))) → length words < 2
    → routed_with asked (texts words) ≡ Err Words
few_of_route asked [] few = refl
few_of_route asked (a ∷ []) few = refl
few_of_route asked (a ∷ b ∷ rest) few = absurd (omega arith)

-- ---- plots

-- behind an option that was read the words go on
pub bound_goes_on : (cycles changed : Cycles) (words : List (Bor (List ℕ))) (d : Bor (List ℕ)) → 2 ≤ length words
    → with_bound cycles (get_or words 0 d).now (get_or words 1 d).now ≡ Ok changed
    → plotting_of cycles (texts words) ≡ plotting_of changed (texts (take (length words - 2) (drop 2 words)))
bound_goes_on cycles changed [] d h e = absurd (omega arith)
bound_goes_on cycles changed (a ∷ []) d h e = absurd (omega arith)
bound_goes_on cycles changed (a ∷ b ∷ rest) d h e =
    ap (λ (r : Result Cycles Refusal). r >>= λ m. plotting_of m (texts rest)) e
    ∙ ap (λ (ws : List (Bor (List ℕ))). plotting_of changed (texts ws)) (sym (take_rest (a ∷ b ∷ rest) 2))
