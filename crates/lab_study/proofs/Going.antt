-- How a study goes on, act by act.
use Rattle.std.proofs.Common.{◌≡◌, ℕ, ◌+◌, ◌<◌, Bool, true, false, List, [], ◌∷◌, ◌++◌, drop, get_or, length, Result, Ok, Err}
use Rattle.std.proofs.Common.{refl, sym, ap, ◌∙◌, append_assoc, if◌then◌else◌}
use Rattle.std.proofs.lemmas.List.{drop_more}
use Rattle.cm_model.specs.declared.act.Act.{Act}
use Rattle.lab_study.specs.declared.studies.StudyFault.{StudyFault}
use Rattle.lab_study.specs.declared.studies.StudyFault.TheVariants.{Clock}
use Rattle.lab_study.specs.declared.studies.LinesOf.{LinesOf}
use Rattle.lab_study.specs.Study.{Studied, study_preceded_by, act_lacks_room, act_text, one_act_on, end_text, acts_table}

-- bytes before bytes
pub study_preceded_by-twice : (first second : List ℕ) (rest : Result (List ℕ) StudyFault)
    → study_preceded_by first (study_preceded_by second rest) ≡ study_preceded_by (first ++ second) rest
study_preceded_by-twice first second (Ok rest) = ap (λ xs. Ok xs) (sym (append_assoc first second rest))
study_preceded_by-twice first second (Err fault) = refl

-- acts of which one is the next
pub next_act : (acts : List Act) (i : ℕ) (act : Act) → i < length acts → act ≡ get_or acts i act
    → drop i acts ≡ act ∷ drop (i + 1) acts
next_act acts i act inside is = drop_more acts i act inside ∙ ap (λ a. a ∷ drop (i + 1) acts) (sym is)

-- an act for which the counter has room
pub one_act_more : (n cap : ℕ) (table : LinesOf) (studied : Studied) (act : Act) (acts : List Act) (text : List ℕ)
    → act_lacks_room studied.machine.clock act ≡ false
    → study_preceded_by text (acts_table n cap table studied (act ∷ acts))
    ≡ study_preceded_by (text ++ act_text n cap table studied act) (acts_table n cap table (one_act_on n cap studied act) acts)
unfolding acts_table
one_act_more n cap table studied act acts text room =
    ap (λ (b : Bool). study_preceded_by text (if b then Err Clock
    else study_preceded_by (act_text n cap table studied act) (acts_table n cap table (one_act_on n cap studied act) acts))) room
    ∙ study_preceded_by-twice text (act_text n cap table studied act)
    (acts_table n cap table (one_act_on n cap studied act) acts)

-- an act for which it has none
pub no_act_more : (n cap : ℕ) (table : LinesOf) (studied : Studied) (act : Act) (acts : List Act) (text : List ℕ)
    → act_lacks_room studied.machine.clock act ≡ true
    → study_preceded_by text (acts_table n cap table studied (act ∷ acts)) ≡ Err Clock
unfolding acts_table
no_act_more n cap table studied act acts text room =
    ap (λ (b : Bool). study_preceded_by text (if b then Err Clock
    else study_preceded_by (act_text n cap table studied act) (acts_table n cap table (one_act_on n cap studied act) acts))) room

-- the end
pub no_acts : (n cap : ℕ) (table : LinesOf) (studied : Studied) (acts : List Act) (text : List ℕ) → acts ≡ []
    → study_preceded_by text (acts_table n cap table studied acts) ≡ Ok (text ++ end_text n table studied)
unfolding acts_table
no_acts n cap table studied acts text none = ap (λ rest. study_preceded_by text (acts_table n cap table studied rest)) none
