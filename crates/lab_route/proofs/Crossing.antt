-- Where a message has to cross a dimension over a whole wire, it crosses or another of its chip does.
use Rattle.std.proofs.Common.{◌≡◌, ℕ, zero, suc, ◌<◌, ◌≤◌, ◌&&◌, Bool, true, false, not, cond, List, [], ◌∷◌, Option}
use Rattle.std.proofs.Common.{Some, None, is_some, IsSomeAnd, length, get_or, slice_get, position, if◌then◌else◌}
use Rattle.std.proofs.Common.{refl, sym, ap, ◌∙◌, ⊎_elim, arith}
use Rattle.std.proofs.lemmas.Bool.{cases_Bool, cases_lt, lt-ltb}
use Rattle.std.proofs.lemmas.List.Sums.{fails_before_first}
use Rattle.std.specs.List.{position_or_len}
use Rattle.std.specs.Option.{option_or, option_map}
use Rattle.cm_model.specs.declared.message.Message.{Message}
use Rattle.cm_model.specs.declared.message.Tag.{Tag}
use Rattle.cm_model.specs.declared.rule.Rule.{Rule}
use Rattle.cm_model.specs.declared.rule.Rule.TheVariants.{First, Oldest}
use Rattle.cm_model.specs.Array.{nth_or_nil}
use Rattle.cm_model.specs.Wiring.{Way, is_cut, way_of}
use Rattle.cm_model.specs.Router.{has_to_cross, message_across}
use Rattle.cm_model.specs.Machine.{Machine}
use Rattle.cm_model.specs.Buffers.{element_at, one_behind, is_older_one, oldest_place, first_place, chosen_place}
use Rattle.cm_model.specs.Buffers.{leaving_place, outgoing, sent_across}
use Rattle.cm_model.specs.Found.{same_tag}
use Rattle.cm_model.proofs.Places.{element_at-one_behind}
use Rattle.lab_route.specs.declared.waits.Wait.TheVariants.{Cut, Behind}
use Rattle.lab_route.specs.declared.whereabouts.Stand.{Stand}
use Rattle.lab_route.specs.Waits.{wait_at, wait_behind}

apart : true ≡ false → ⊥
apart e = absurd cc

some_none : {X : Type 0} (x : X) → Some x ≡ None → ⊥
some_none x e = absurd cc

-- ---- a buffer

there : {X : Type 0} (xs : List X) (i : ℕ) → i < length xs → is_some (slice_get xs i) ≡ true
there [] i l = absurd (omega (arith, l))
there (x ∷ xs) zero l = refl
there (x ∷ xs) (suc i) l = there xs i (omega (arith, l))

-- by rule 0
first_there : (d i : ℕ) (here : List Message) (m : Message) → i < length here → has_to_cross d (get_or here i m) ≡ true
    → is_some (element_at here (position (has_to_cross d) here)) ≡ true
first_there d i here m l has =
    let k = position_or_len (has_to_cross d) here in
    ⊎_elim
    (λ (inside : k < length here).
    ap (λ (b : Bool). is_some (element_at here (cond b (Some k) None))) (lt-ltb k (length here) inside)
    ∙ there here k inside)
    (λ (past : length here ≤ k).
    let fails = fails_before_first (has_to_cross d) here i m (omega (arith, l, past)) in
    absurd (apart (sym has ∙ fails)))
    (cases_lt k (length here))

-- by rule 1
one_of : (m : Message) (ms : List Message) (o : Option ℕ) (first : Bool) → is_some (element_at ms o) ≡ true
    → is_some (element_at (m ∷ ms) (if first then Some 0 else one_behind o)) ≡ true
one_of m ms o true e = refl
one_of m ms o false e = ap is_some (element_at-one_behind m ms o) ∙ e

some_older : (q : Option Message) (m : Message) → is_older_one q m ≡ true → is_some q ≡ true
some_older None m e = absurd cc
some_older (Some q) m e = refl

oldest_there : (d i : ℕ) (here : List Message) (m : Message) → i < length here → has_to_cross d (get_or here i m) ≡ true
    → is_some (element_at here (oldest_place d here)) ≡ true
oldest_there d i [] m l has = absurd (omega (arith, l))
oldest_there d zero (q ∷ qs) m l has =
    let o = oldest_place d qs in
    let older = is_older_one (element_at qs o) q in
    ⊎_elim
    (λ (e : older ≡ true). one_of q qs o (has_to_cross d q && not older) (some_older (element_at qs o) q e))
    (λ (e : older ≡ false). let first : has_to_cross d q && not older ≡ true = λ j. has j && not (e j) in
    ap (λ (b : Bool). is_some (element_at (q ∷ qs) (if b then Some 0 else one_behind o))) first)
    (cases_Bool older)
oldest_there d (suc i) (q ∷ qs) m l has =
    one_of q qs (oldest_place d qs) (has_to_cross d q && not (is_older_one (element_at qs (oldest_place d qs)) q))
    (oldest_there d i qs m (omega (arith, l)) has)

by_rule : (rule : Rule) (d i : ℕ) (here : List Message) (m : Message) → i < length here
    → has_to_cross d (get_or here i m) ≡ true → is_some (element_at here (first_place rule d here)) ≡ true
by_rule First d i here m l has = first_there d i here m l has
by_rule Oldest d i here m l has = oldest_there d i here m l has

-- who goes first is who is chosen
chosen : (here : List Message) (o p : Option ℕ) → is_some (element_at here o) ≡ true
    → is_some (element_at here (option_or o p)) ≡ true
chosen here None p e = absurd cc
chosen here (Some i) p e = e

across : (d : ℕ) (o : Option Message) → is_some o ≡ true → is_some (option_map (message_across d) o) ≡ true
across d None e = absurd cc
across d (Some m) e = refl

somebody : (way : Way) (cap d i : ℕ) (here : List Message) (m : Message) → way.cut ≡ false → i < length here
    → has_to_cross d (get_or here i m) ≡ true → is_some (outgoing way cap d here) ≡ true
unfolding leaving_place
somebody way cap d i here m whole l has =
    rw whole (across d (element_at here (chosen_place way.rule cap d here))
    (chosen here (first_place way.rule d here) _ (by_rule way.rule d i here m l has)))

-- ---- no reason to wait

who_goes : (d : ℕ) (tag : Tag) (o : Option Message) → is_some o ≡ true → wait_behind d tag o ≡ None
    → IsSomeAnd o (λ q. same_tag q.tag tag ≡ true)
who_goes d tag None some e = absurd cc
who_goes d tag (Some q) some e =
    ⊎_elim
    (λ (same : same_tag q.tag tag ≡ true). same)
    (λ (other : same_tag q.tag tag ≡ false).
    absurd (some_none (Behind d q.tag) (sym (ap (λ (b : Bool). if b then None else Some (Behind d q.tag)) other) ∙ e)))
    (cases_Bool (same_tag q.tag tag))

pub crosses : (cap d i : ℕ) (machine : Machine) (stand : Stand) (m : Message)
    → i < length (nth_or_nil machine.buffers stand.chip)
    → get_or (nth_or_nil machine.buffers stand.chip) i m ≡ stand.message
    → has_to_cross d stand.message ≡ true
    → wait_at cap d stand.message.tag machine (Some stand) ≡ None
    → IsSomeAnd (sent_across machine.routing cap d machine.buffers stand.chip)
    (λ q. same_tag q.tag stand.message.tag ≡ true)
crosses cap d i machine stand m l at has none =
    let sent = sent_across machine.routing cap d machine.buffers stand.chip in
    let tag = stand.message.tag in
    let waits : (if is_cut machine.routing stand.chip d then Some (Cut d) else wait_behind d tag sent) ≡ None =
    sym (ap (λ (b : Bool). if b then (if is_cut machine.routing stand.chip d then Some (Cut d)
    else wait_behind d tag sent) else None) has) ∙ none in
    ⊎_elim
    (λ (cut : is_cut machine.routing stand.chip d ≡ true).
    absurd (some_none (Cut d)
    (sym (ap (λ (b : Bool). if b then Some (Cut d) else wait_behind d tag sent) cut) ∙ waits)))
    (λ (whole : is_cut machine.routing stand.chip d ≡ false).
    who_goes d tag sent
    (somebody (way_of machine.routing stand.chip d) cap d i (nth_or_nil machine.buffers stand.chip) m whole l
    (ap (has_to_cross d) at ∙ has))
    (sym (ap (λ (b : Bool). if b then Some (Cut d) else wait_behind d tag sent) whole) ∙ waits))
    (cases_Bool (is_cut machine.routing stand.chip d))
