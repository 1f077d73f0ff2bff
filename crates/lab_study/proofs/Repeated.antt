-- How the repeats of a program are told, act by act; and what is read of lists that vectors keep.
use Rattle.std.proofs.Common.{◌≡◌, ℕ, ◌+◌, ◌-◌, ◌<◌, Bool, true, false, not, cond, List, [], ◌∷◌, ◌++◌, Ok, Err}
use Rattle.std.proofs.Common.{Some, None, get_or, length, map, position, sum_by, refl, sym, ap, ◌∙◌}
use Rattle.std.proofs.Common.{append-nil, append_assoc, if◌then◌else◌}
use Rattle.std.proofs.lemmas.List.{get_or-map, length-map}
use Rattle.std.specs.Prelude.{nat_lt}
use Rattle.std.specs.Global.{Vec}
use Rattle.std.specs.List.{prefix_len}
use Rattle.cm_bits.specs.Text.{number_cell, last_number_cell}
use Rattle.cm_model.specs.declared.act.Act.{Act}
use Rattle.cm_model.specs.Machine.{Machine, run_of}
use Rattle.cm_model.proofs.Counting.{sum_by-map}
use Rattle.lab_study.specs.declared.holdings.Held.{Held}
use Rattle.lab_study.specs.declared.repeating.Calm.{Calm}
use Rattle.lab_study.specs.declared.studies.StudyFault.TheVariants.{Clock}
use Rattle.lab_machine.specs.Machines.{LabView, lab_after}
use Rattle.lab_study.specs.Repeats.{come_count, round_line, act_repeat, calm_after, repeats_from}
use Rattle.lab_study.specs.Study.{study_preceded_by, act_lacks_room}
use Rattle.lab_study.proofs.Going.{study_preceded_by-twice}

-- an act for which the counter has room, and what it left
pub one_act_followed : (lab after : LabView) (calm : Calm) (act : Act) (acts : List Act) (text : List ℕ)
    → act_lacks_room lab.machine.clock act ≡ false → after ≡ lab_after lab act
    → study_preceded_by text (repeats_from lab.n lab.cap calm lab.machine (act ∷ acts))
    ≡ study_preceded_by (text ++ act_repeat lab.n calm act lab.machine after.machine)
    (repeats_from after.n after.cap (calm_after lab.n calm act lab.machine after.machine) after.machine acts)
unfolding repeats_from
one_act_followed lab after calm act acts text room is =
    let told = λ (m : Machine). act_repeat lab.n calm act lab.machine m in
    let rest = λ (next : LabView). repeats_from next.n next.cap (calm_after lab.n calm act lab.machine next.machine)
    next.machine acts in
    ap (λ (b : Bool). study_preceded_by text (if b then Err Clock
    else study_preceded_by (told (lab_after lab act).machine) (rest (lab_after lab act)))) room
    ∙ study_preceded_by-twice text (told (lab_after lab act).machine) (rest (lab_after lab act))
    ∙ (λ i. study_preceded_by (text ++ told (sym is i).machine) (rest (sym is i)))

-- an act for which it has none
pub no_act_followed : (n cap : ℕ) (calm : Calm) (machine : Machine) (act : Act) (acts : List Act) (text : List ℕ)
    → act_lacks_room machine.clock act ≡ true
    → study_preceded_by text (repeats_from n cap calm machine (act ∷ acts)) ≡ Err Clock
unfolding repeats_from
no_act_followed n cap calm machine act acts text room =
    ap (λ (b : Bool). study_preceded_by text (if b then Err Clock
    else study_preceded_by (act_repeat n calm act machine (run_of n cap machine (act ∷ [])))
    (repeats_from n cap (calm_after n calm act machine (run_of n cap machine (act ∷ [])))
    (run_of n cap machine (act ∷ [])) acts))) room

-- the end
pub none_followed : (n cap : ℕ) (calm : Calm) (machine : Machine) (acts : List Act) (text : List ℕ) → acts ≡ []
    → study_preceded_by text (repeats_from n cap calm machine acts) ≡ Ok text
unfolding repeats_from
none_followed n cap calm machine acts text none =
    ap (λ rest. study_preceded_by text (repeats_from n cap calm machine rest)) none ∙ ap (λ xs. Ok xs) (append-nil text)

-- ---- lists that vectors keep

prefix_len-map : {X Y : Type 0} (q : Y → Bool) (f : X → Y) (xs : List X)
    → prefix_len q (map f xs) ≡ prefix_len (λ x. q (f x)) xs
prefix_len-map q f [] = refl
prefix_len-map q f (x ∷ xs) = ap (λ (k : ℕ). cond (q (f x)) (1 + k) 0) (prefix_len-map q f xs)

-- a place in a list is that in what is made of it
pub position-map : {X Y : Type 0} (p : Y → Bool) (f : X → Y) (xs : List X)
    → position (λ x. p (f x)) xs ≡ position p (map f xs)
position-map p f xs =
    let place = sym (prefix_len-map (λ y. not (p y)) f xs) in
    let end = sym (length-map xs f) in
    λ i. cond (nat_lt (place i) (end i)) (Some (place i)) None

-- the line of a round, where this vector is the first
pub round_line_of : (clock : ℕ) (round : List (Vec Held)) (first : Vec Held) → 0 < length round
    → first ≡ get_or round 0 first → round_line clock (map (λ time. time.items) round)
    ≡ number_cell (clock - length round) ++ number_cell (length round) ++ number_cell (length first.items)
    ++ last_number_cell (sum_by (λ time. come_count time.items) round)
unfolding round_line
round_line_of clock round first some is =
    let items = λ (time : Vec Held). time.items in
    let all = length-map round items in
    let one = get_or-map items round 0 first [] some ∙ ap items (sym is) in
    let come = sum_by-map come_count items round in
    λ i. number_cell (clock - all i) ++ number_cell (all i) ++ number_cell (length (one i)) ++ last_number_cell (come i)

-- four pieces one behind another
pub four_pieces : (text one two three a b c d : List ℕ) → one ≡ text ++ a → two ≡ one ++ b → three ≡ two ++ c
    → three ++ d ≡ text ++ (a ++ b ++ c ++ d)
four_pieces text one two three a b c d first second third =
    ap (λ xs. xs ++ d)
    (third ∙ ap (λ xs. xs ++ c) (second ∙ ap (λ xs. xs ++ b) first ∙ append_assoc text a b)
    ∙ append_assoc text (a ++ b) c)
    ∙ append_assoc text (a ++ b ++ c) d
