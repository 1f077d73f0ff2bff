-- What a line says, as it is read.
use Rattle.std.proofs.Common.{◌≡◌, ℕ, true, false, Bool, Result, Ok, Err, List, [], take, drop, inl, inr}
use Rattle.std.proofs.Common.{ap, ◌∙◌, sym, if◌then◌else◌}
use Rattle.std.proofs.Math.Seq.{drop-nil, take-nil}
use Rattle.cm_bits.specs.Text.{words_of}
use Rattle.cm_model.specs.declared.act.Act.{Act}
use Rattle.cm_model.specs.Machine.{Machine, run_of}
use Rattle.cm_model.specs.Keeping.{IsMachine}
use Rattle.cm_model.proofs.Runs.{run_of-nil}
use Rattle.cm_language.specs.declared.fault.AsmKind.{AsmKind}
use Rattle.cm_language.specs.declared.fault.AsmKind.TheVariants as kind
use Rattle.cm_language.specs.Program.{Reading, IsOwnFault}
use Rattle.cm_session.specs.Answer.{refused_line}
use Rattle.cm_session.specs.Session.{Session}
use Rattle.cm_session.specs.Ends.{IsInFlight}
use Rattle.lab_front.specs.Asked.{is_of_program, question_of, kind_number}
use Rattle.lab_front.specs.ForAll.{is_for_all, asked_of}
use Rattle.lab_front.specs.Front.{Front, front_of, without_acts, read_more, said, for_all, asked, front_after_line, acts_line}
use Rattle.lab_front.specs.Front.{after_accepted_acts}

-- the acts are forgotten
pub forgotten : (old new before : Reading) → without_acts old ≡ before → new.fields ≡ old.fields
    → new.context ≡ old.context → new.acts ≡ [] → new ≡ before
forgotten old new before is fields context acts =
    (λ i. record { fields = fields i; context = context i; acts = acts i }) ∙ is

-- what was kept stays
pub stays : (old new left before : Reading) → without_acts old ≡ before → new.fields ≡ old.fields
    → new.context ≡ old.context → left.fields ≡ new.fields → left.context ≡ new.context → without_acts left ≡ before
stays old new left before is fields context fields' context' =
    (λ i. record { fields = (fields' ∙ fields) i; context = (context' ∙ context) i; acts = [] }) ∙ is

-- the line is read by what was kept
is_read : (before new : Reading) (words : List (List ℕ)) (q : Result Reading AsmKind) → new ≡ before
    → read_more new words ≡ q → read_more before words ≡ q
is_read before new words q same is = ap (λ (r : Reading). read_more r words) (sym same) ∙ is

-- it is accepted
pub said_ok : (n cap : ℕ) (machine after : Machine) (before new read : Reading) (words : List (List ℕ))
    → new ≡ before → read_more new words ≡ Ok read → after ≡ after_accepted_acts n cap machine read.acts
    → front_of after (without_acts read) ≡ (said n cap (front_of machine before) (read_more before words)).front
said_ok n cap machine after before new read words same taken is =
    ap (λ (m : Machine). front_of m (without_acts read)) is
    ∙ sym (ap (λ (q : Result Reading AsmKind). (said n cap (front_of machine before) q).front)
    (is_read before new words (Ok read) same taken))

pub said_ok_answer : (n cap : ℕ) (machine : Machine) (before new read : Reading) (words : List (List ℕ)) (text : List ℕ)
    → new ≡ before → read_more new words ≡ Ok read → text ≡ acts_line machine read.acts
    → text ≡ (said n cap (front_of machine before) (read_more before words)).answer
said_ok_answer n cap machine before new read words text same taken is =
    is ∙ sym (ap (λ (q : Result Reading AsmKind). (said n cap (front_of machine before) q).answer)
    (is_read before new words (Ok read) same taken))

-- an own fault is none of want of memory
pub own_is : (k : AsmKind) → IsOwnFault k → k ≡ kind.Memory → ⊥
own_is kind.Memory own is = absurd own
own_is kind.Width own is = absurd (let e : kind.Width ≡ kind.Memory = is in cc)
own_is kind.Range own is = absurd (let e : kind.Range ≡ kind.Memory = is in cc)
own_is kind.Overlap own is = absurd (let e : kind.Overlap ≡ kind.Memory = is in cc)
own_is kind.Lengths own is = absurd (let e : kind.Lengths ≡ kind.Memory = is in cc)
own_is kind.Scratch own is = absurd (let e : kind.Scratch ≡ kind.Memory = is in cc)
own_is kind.Context own is = absurd (let e : kind.Context ≡ kind.Memory = is in cc)
own_is kind.Word own is = absurd (let e : kind.Word ≡ kind.Memory = is in cc)
own_is kind.Operands own is = absurd (let e : kind.Operands ≡ kind.Memory = is in cc)
own_is kind.Number own is = absurd (let e : kind.Number ≡ kind.Memory = is in cc)
own_is kind.Name own is = absurd (let e : kind.Name ≡ kind.Memory = is in cc)
own_is kind.Twice own is = absurd (let e : kind.Twice ≡ kind.Memory = is in cc)
own_is kind.TooLong own is = absurd (let e : kind.TooLong ≡ kind.Memory = is in cc)

-- it is refused
pub said_err : (n cap : ℕ) (machine : Machine) (before new left : Reading) (words : List (List ℕ)) (k : AsmKind)
    → new ≡ before → IsOwnFault k → ((k ≡ kind.Memory → ⊥) → read_more new words ≡ Err k) → left ≡ before
    → front_of machine left ≡ (said n cap (front_of machine before) (read_more before words)).front
said_err n cap machine before new left words k same own is stays =
    ap (front_of machine) stays
    ∙ sym (ap (λ (q : Result Reading AsmKind). (said n cap (front_of machine before) q).front)
    (is_read before new words (Err k) same (is (own_is k own))))

pub said_err_answer : (n cap : ℕ) (machine : Machine) (before new : Reading) (words : List (List ℕ)) (k : AsmKind)
    (number : ℕ) (text : List ℕ)
    → new ≡ before → IsOwnFault k → ((k ≡ kind.Memory → ⊥) → read_more new words ≡ Err k) → number ≡ kind_number k
    → text ≡ refused_line number
    → text ≡ (said n cap (front_of machine before) (read_more before words)).answer
said_err_answer n cap machine before new words k number text same own is so tells =
    tells ∙ ap refused_line so
    ∙ sym (ap (λ (q : Result Reading AsmKind). (said n cap (front_of machine before) q).answer)
    (is_read before new words (Err k) same (is (own_is k own))))

-- ---- a line of a program, one for all processors, or a question

pub after_said : (n cap : ℕ) (front : Front) (line : List ℕ) → is_of_program (words_of line) ≡ true
    → front_after_line n cap front line ≡ said n cap front (read_more front.reading (words_of line))
unfolding front_after_line
after_said n cap front line is =
    ap (λ (b : Bool). if b then said n cap front (read_more front.reading (words_of line))
    else (if is_for_all (words_of line) then for_all n cap front (asked_of n (words_of line))
    else asked n cap front (question_of n (words_of line)))) is

pub after_for_all : (n cap : ℕ) (front : Front) (line : List ℕ) → is_of_program (words_of line) ≡ false
    → is_for_all (words_of line) ≡ true
    → front_after_line n cap front line ≡ for_all n cap front (asked_of n (words_of line))
unfolding front_after_line
after_for_all n cap front line other is =
    ap (λ (b : Bool). if b then said n cap front (read_more front.reading (words_of line))
    else (if is_for_all (words_of line) then for_all n cap front (asked_of n (words_of line))
    else asked n cap front (question_of n (words_of line)))) other
    ∙ ap (λ (b : Bool). if b then for_all n cap front (asked_of n (words_of line))
    else asked n cap front (question_of n (words_of line))) is

pub after_asked : (n cap : ℕ) (front : Front) (line : List ℕ) → is_of_program (words_of line) ≡ false
    → is_for_all (words_of line) ≡ false
    → front_after_line n cap front line ≡ asked n cap front (question_of n (words_of line))
unfolding front_after_line
after_asked n cap front line other single =
    ap (λ (b : Bool). if b then said n cap front (read_more front.reading (words_of line))
    else (if is_for_all (words_of line) then for_all n cap front (asked_of n (words_of line))
    else asked n cap front (question_of n (words_of line)))) other
    ∙ ap (λ (b : Bool). if b then for_all n cap front (asked_of n (words_of line))
    else asked n cap front (question_of n (words_of line))) single

-- ---- no acts

none_left : (k p : ℕ) (acts : List Act) → acts ≡ [] → take k (drop p acts) ≡ []
none_left k p acts none = ap (λ (xs : List Act). take k (drop p xs)) none ∙ ap (take k) (drop-nil p) ∙ take-nil k

-- without acts a session that breaks off leaves the machine as it was
pub still : (n cap : ℕ) (acts : List Act) (before after : Session) (machine : Machine) → acts ≡ []
    → IsMachine n cap before.machine → IsInFlight n cap acts before after machine → machine ≡ before.machine
still n cap acts before after machine none whole (inl is) = is
still n cap acts before after machine none whole (inr amid) =
    amid.machine_is ∙ ap (run_of n cap before.machine) (none_left amid.count before.position acts none)
    ∙ run_of-nil n cap before.machine whole.buffer_count
