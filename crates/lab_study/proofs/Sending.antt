-- What is known of messages, by the chip that sent them: one message more.
use Rattle.std.proofs.Common.{◌≡◌, ◌≢◌, ℕ, ◌<◌, ◌==◌, ◌^◌, Bool, true, false, cond, List, [], ◌∷◌, ◌++◌, length, get_or, set, map}
use Rattle.std.proofs.Common.{◌+◌, ◌≤◌, Option, filter, find, take, sym, ap, ◌∙◌, ⊎_elim, arith, eq-eqb, ne_eqb}
use Rattle.std.proofs.Common.{append_assoc, length-set, get_or-set_same, get_or-set_other, append-nil}
use Rattle.std.proofs.lemmas.Bool.{cases_Bool, eqb-true, eqb-false}
use Rattle.std.proofs.lemmas.List.{map-set, map-append, get_or-map, get_or_past, take_more}
use Rattle.std.proofs.lemmas.List.Elements.{filter-append}
use Rattle.std.specs.Global.{Vec}
use Rattle.cm_model.specs.Each.{tabulate}
use Rattle.cm_model.specs.Array.{nth_or_nil}
use Rattle.cm_model.proofs.Each.{is_each, length-tabulate, get_or-each_below}
use Rattle.lab_study.specs.declared.trace.Trace.{Trace}
use Rattle.cm_model.specs.declared.message.Message.{Message}
use Rattle.cm_model.specs.Found.{same_tag}
use Rattle.lab_study.specs.Traces.{Traces, set_out, or_set_out, trace_of, is_from, by_sender}

-- lists, of which one was lent and got an element more
pub lent-more : {X : Type 0} (rows : List (Vec X)) (i : ℕ) (after : Vec X) (x : X) (d : Vec X) → i < length rows
    → after.items ≡ (get_or rows i d).items ++ x ∷ []
    → map (λ row. row.items) (set rows i after)
    ≡ set (map (λ row. row.items) rows) i (nth_or_nil (map (λ row. row.items) rows) i ++ x ∷ [])
lent-more rows i after x d inside is =
    map-set (λ row. row.items) rows i after
    ∙ ap (set (map (λ row. row.items) rows) i)
    (is ∙ ap (λ xs. xs ++ x ∷ []) (sym (get_or-map (λ row. row.items) rows i d [] inside)))

-- what is known of the messages of chip b, where one of another chip comes
other : (b : ℕ) (traces : List Trace) (trace : Trace) → b ≢ trace.tag.chip
    → filter (is_from b) (traces ++ trace ∷ []) ≡ filter (is_from b) traces
other b traces trace differs =
    filter-append (is_from b) traces (trace ∷ [])
    ∙ ap (λ (mine : Bool). filter (is_from b) traces ++ cond mine (trace ∷ []) [])
    (ne_eqb trace.tag.chip b (λ e. differs (sym e)))
    ∙ append-nil (filter (is_from b) traces)

-- and where one of its own comes
own : (b : ℕ) (traces : List Trace) (trace : Trace) → b ≡ trace.tag.chip
    → filter (is_from b) (traces ++ trace ∷ []) ≡ filter (is_from b) traces ++ trace ∷ []
own b traces trace same =
    filter-append (is_from b) traces (trace ∷ [])
    ∙ ap (λ (mine : Bool). filter (is_from b) traces ++ cond mine (trace ∷ []) [])
    (eq-eqb trace.tag.chip b (sym same))

-- a message more of any chip
pub by_sender-more : (n : ℕ) (traces : List Trace) (trace : Trace)
    → set (by_sender n traces) trace.tag.chip (nth_or_nil (by_sender n traces) trace.tag.chip ++ trace ∷ [])
    ≡ by_sender n (traces ++ trace ∷ [])
unfolding by_sender
by_sender-more n traces trace =
    is_each [] (2 ^ n) (λ b. filter (is_from b) (traces ++ trace ∷ []))
    (set sorted trace.tag.chip (nth_or_nil sorted trace.tag.chip ++ trace ∷ []))
    (length-set sorted trace.tag.chip (nth_or_nil sorted trace.tag.chip ++ trace ∷ []) ∙ long)
    (λ b below. ⊎_elim
    (λ (e : (b == trace.tag.chip) ≡ true). mine b below (eqb-true b trace.tag.chip e))
    (λ (e : (b == trace.tag.chip) ≡ false).
    get_or-set_other sorted trace.tag.chip b (nth_or_nil sorted trace.tag.chip ++ trace ∷ []) []
    (eqb-false b trace.tag.chip e)
    ∙ get_or-each_below (2 ^ n) (λ k. filter (is_from k) traces) b [] below
    ∙ sym (other b traces trace (eqb-false b trace.tag.chip e)))
    (cases_Bool (b == trace.tag.chip)))
  where
    sorted : Traces
    sorted = tabulate 0 (2 ^ n) (λ k. filter (is_from k) traces)

    long : length sorted ≡ 2 ^ n
    long = length-tabulate 0 (2 ^ n) (λ k. filter (is_from k) traces)

    mine : (b : ℕ) → b < 2 ^ n → b ≡ trace.tag.chip
        → get_or (set sorted trace.tag.chip (nth_or_nil sorted trace.tag.chip ++ trace ∷ [])) b []
        ≡ filter (is_from b) (traces ++ trace ∷ [])
    mine b below same =
        ap (λ (k : ℕ). get_or (set sorted trace.tag.chip (nth_or_nil sorted trace.tag.chip ++ trace ∷ [])) k []) same
        ∙ get_or-set_same sorted trace.tag.chip (nth_or_nil sorted trace.tag.chip ++ trace ∷ []) []
        (omega (arith, long, below, same))
        ∙ ap (λ (k : ℕ). get_or sorted k [] ++ trace ∷ []) (sym same)
        ∙ ap (λ xs. xs ++ trace ∷ []) (get_or-each_below (2 ^ n) (λ k. filter (is_from k) traces) b [] below)
        ∙ sym (own b traces trace same)

-- what is known of the messages of a list, one message more
pub one_followed : (n : ℕ) (before : List Trace) (g : Message → Trace) (ms : List Message) (i : ℕ) (d : Message)
    (next after : Traces) (trace : Trace) → i < length ms → next ≡ by_sender n (before ++ map g (take i ms))
    → after ≡ set next trace.tag.chip (nth_or_nil next trace.tag.chip ++ trace ∷ []) → trace ≡ g (get_or ms i d)
    → after ≡ by_sender n (before ++ map g (take (i + 1) ms))
one_followed n before g ms i d next after trace inside so_far more is =
    more
    ∙ ap (λ ts. set ts trace.tag.chip (nth_or_nil ts trace.tag.chip ++ trace ∷ [])) so_far
    ∙ by_sender-more n (before ++ map g (take i ms)) trace
    ∙ ap (by_sender n)
    (append_assoc before (map g (take i ms)) (trace ∷ [])
    ∙ ap (λ ts. before ++ ts)
    (ap (λ t. map g (take i ms) ++ t ∷ []) is ∙ sym (map-append g (take i ms) (get_or ms i d ∷ []))
    ∙ ap (map g) (sym (take_more ms i d inside))))

-- a message of a chip of which nothing is known
pub unsent : (traces : Traces) (c : ℕ) (m : Message) → length traces ≤ m.tag.chip → trace_of traces c m ≡ set_out c m
unfolding trace_of
unsent traces c m past =
    ap (λ sent. or_set_out c m (find (λ trace. same_tag trace.tag m.tag) sent)) (get_or_past traces m.tag.chip [] past)

-- a message of another
pub sent : (traces : Traces) (c : ℕ) (m : Message) (found : Option Trace)
    → found ≡ find (λ trace. same_tag trace.tag m.tag) (nth_or_nil traces m.tag.chip)
    → trace_of traces c m ≡ or_set_out c m found
unfolding trace_of
sent traces c m found is = ap (or_set_out c m) (sym is)
