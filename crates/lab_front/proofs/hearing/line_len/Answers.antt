use Rattle.std.proofs.Common.{◌≡◌, ℕ, ◌+◌, ◌-◌, ◌<◌, ◌≤◌, List, length, take, drop, get_or, ap, sym, ◌∙◌, ⊎_elim, subst, arith}
use Rattle.std.proofs.lemmas.Bool.{cases_lt}
use Rattle.std.proofs.lemmas.Grind.{common_steps}
use Rattle.std.proofs.lemmas.List.{get_or-take, get_or-drop}
use Rattle.cm_bits.specs.Text.{is_line_end, IsUnended}
use Rattle.lab_front.proofs.hearing.line_len.Goals as goal

-- what follows a place, as a slice from there on
whole_rest : (k : ℕ) (xs : List ℕ) → take (length xs - k) (drop k xs) ≡ drop k xs
whole_rest k xs = grind (arith, common_steps)

taken_len : (k : ℕ) (xs : List ℕ) → k ≤ length xs → length (take k xs) ≡ k
taken_len k xs h = grind (arith, common_steps)

rest_len : (k more : ℕ) (xs : List ℕ) → k + more ≤ length xs → length (take more (drop k xs)) ≡ more
rest_len k more xs h = grind (arith, common_steps)

-- where neither of two parts has the end of a line, both together have none
both : (bytes : List ℕ) (seen more : ℕ) → seen + more ≤ length bytes → IsUnended (take seen bytes)
    → IsUnended (take more (drop seen bytes)) → IsUnended (take (seen + more) bytes)
both bytes seen more within first second k inside =
    let below : k < seen + more = omega (arith, inside, taken_len (seen + more) bytes within) in
    ⊎_elim
    (λ (h : k < seen). ap is_line_end (get_or-take (seen + more) bytes k 0 below ∙ sym (get_or-take seen bytes k 0 h))
    ∙ first k (omega (arith, h, taken_len seen bytes (omega (arith, within)))))
    (λ (h : seen ≤ k). let past : k - seen < more = omega (arith, h, below) in
    ap is_line_end (get_or-take (seen + more) bytes k 0 below
    ∙ ap (λ (i : ℕ). get_or bytes i 0) (let same : k ≡ seen + (k - seen) = omega (arith, h) in same)
    ∙ sym (get_or-drop seen bytes (k - seen) 0) ∙ sym (get_or-take more (drop seen bytes) (k - seen) 0 past))
    ∙ second (k - seen) (omega (arith, past, rest_len seen more bytes within)))
    (cases_lt k seen)

pub returns-clause-unended : goal.returns-clause-unended
returns-clause-unended c =
    let bytes = c.args.bytes.now in
    let seen = c.args.seen in
    let more = c.end_of.result in
    let rest : List ℕ = take (length bytes - seen) (drop seen bytes) in
    let long : length rest ≡ length bytes - seen = grind (arith, common_steps) in
    both bytes seen more (omega (arith, c.end_of.ensures.within, long, c.requires.within)) c.requires.seen
    (subst (λ (xs : List ℕ). IsUnended (take more xs)) (whole_rest seen bytes) c.end_of.ensures.unended)
