-- The order in which records go, by either rule.
use Rattle.std.proofs.Common.{◌≡◌, Bool, true, false, cond, not, List, [], ◌∷◌, Option, Some, None, refl, sym, ◌∙◌, ap}
use Rattle.std.proofs.Common.{◌&&◌, ◌||◌, ◌⊎◌, ⊎_elim, inl, inr, arith}
use Rattle.std.proofs.lemmas.Bool.{cases_Bool, both_ways}
use Rattle.std.proofs.lemmas.Bool.Decides.{nat_tests}
use Rattle.cm_model.specs.declared.message.Message.{Message}
use Rattle.cm_model.specs.declared.message.Tag.{Tag}
use Rattle.cm_model.specs.declared.rule.Rule.{Rule}
use Rattle.cm_model.specs.declared.rule.Rule.TheVariants.{First, Oldest}
use Rattle.cm_model.specs.Router.{Since, Standing, is_before, same_since, is_older, is_preferred, goes_before}
use Rattle.cm_model.specs.Router.{first_by_rule, foremost, last_by_rule, hindmost}
use Rattle.cm_model.specs.Order.{put, in_order}
use Rattle.cm_model.proofs.Order.{same_not_before, before_itself, not_both_before, before_transitive, not_before_transitive}

-- ---- tags

pub older_itself : (s : Tag) → is_older s s ≡ false
older_itself s = grind (arith, nat_tests)

pub not_both_older : (s t : Tag) → is_older s t ≡ true → is_older t s ≡ false
not_both_older s t h = grind (arith, nat_tests)

pub not_older_transitive : (s t u : Tag) → is_older t s ≡ false → is_older u t ≡ false → is_older u s ≡ false
not_older_transitive s t u h k = grind (arith, nat_tests)

-- ---- records

pub goes_before-itself : (rule : Rule) (r : Standing) → goes_before rule r r ≡ false
goes_before-itself First r = before_itself r.since
goes_before-itself Oldest r = grind (arith, nat_tests)

pub not_both_go_before : (rule : Rule) (r q : Standing) → goes_before rule r q ≡ true → goes_before rule q r ≡ false
not_both_go_before First r q h = not_both_before r.since q.since h
not_both_go_before Oldest r q h = grind (arith, nat_tests)

parts : (x y b : Bool) → (x || (not y && b)) ≡ false → (x ≡ false) × ((y ≡ true) ⊎ (b ≡ false))
parts true y b h = absurd (both_ways true h refl)
parts false true b h = (refl, inl refl)
parts false false b h = (refl, inr h)

joined : (x y b : Bool) → x ≡ false → (y ≡ true) ⊎ (b ≡ false) → (x || (not y && b)) ≡ false
joined true y b e f = absurd (both_ways true e refl)
joined false true b e f = refl
joined false false b e (inl f) = absurd (both_ways false refl f)
joined false false b e (inr f) = f

-- where the second goes first for a younger one or a later one, so does it for the third
older_or_earlier : (r q s : Standing) → is_older q.message.tag r.message.tag ≡ false
    → is_older s.message.tag q.message.tag ≡ false
    → (is_older r.message.tag q.message.tag ≡ true) ⊎ (is_before q.since r.since ≡ false)
    → (is_older q.message.tag s.message.tag ≡ true) ⊎ (is_before s.since q.since ≡ false)
    → (is_older r.message.tag s.message.tag ≡ true) ⊎ (is_before s.since r.since ≡ false)
older_or_earlier r q s h k (inl older) l =
    ⊎_elim (λ (e : is_older r.message.tag s.message.tag ≡ true). inl e)
    (λ (e : is_older r.message.tag s.message.tag ≡ false). absurd
    (both_ways (is_older r.message.tag q.message.tag)
    (not_older_transitive q.message.tag s.message.tag r.message.tag k e) older))
    (cases_Bool (is_older r.message.tag s.message.tag))
older_or_earlier r q s h k (inr late) (inl older) =
    ⊎_elim (λ (e : is_older r.message.tag s.message.tag ≡ true). inl e)
    (λ (e : is_older r.message.tag s.message.tag ≡ false). absurd
    (both_ways (is_older q.message.tag s.message.tag)
    (not_older_transitive s.message.tag r.message.tag q.message.tag e h) older))
    (cases_Bool (is_older r.message.tag s.message.tag))
older_or_earlier r q s h k (inr late) (inr later) = inr (not_before_transitive r.since q.since s.since late later)

pub not_going_before-transitive : (rule : Rule) (r q s : Standing) → goes_before rule q r ≡ false
    → goes_before rule s q ≡ false → goes_before rule s r ≡ false
not_going_before-transitive First r q s h k = not_before_transitive r.since q.since s.since h k
not_going_before-transitive Oldest r q s h k =
    let here = parts (is_older q.message.tag r.message.tag) (is_older r.message.tag q.message.tag)
    (is_before q.since r.since) h in
    let there = parts (is_older s.message.tag q.message.tag) (is_older q.message.tag s.message.tag)
    (is_before s.since q.since) k in
    joined (is_older s.message.tag r.message.tag) (is_older r.message.tag s.message.tag) (is_before s.since r.since)
    (not_older_transitive r.message.tag q.message.tag s.message.tag here.0 there.0)
    (older_or_earlier r q s here.0 there.0 here.1 there.1)

pub neither_goes_before : (rule : Rule) (r q : Standing) → goes_before rule r q ≡ false → goes_before rule q r ≡ false
    → same_since r.since q.since ≡ true
neither_goes_before First r q h k = grind (arith, nat_tests)
neither_goes_before Oldest r q h k = grind (arith, nat_tests)

-- ---- first and last of records in order

one_goes_before : (rule : Rule) (q r : Standing) → is_before q.since r.since ≡ true → goes_before rule q r ≡ false
    → goes_before rule r q ≡ true
one_goes_before rule q r b h =
    ⊎_elim (λ (e : goes_before rule r q ≡ true). e)
    (λ (e : goes_before rule r q ≡ false). absurd
    (both_ways (same_since q.since r.since) (same_not_before q.since r.since b) (neither_goes_before rule q r h e)))
    (cases_Bool (goes_before rule r q))

goes_before-transitive : (rule : Rule) (r q s : Standing) → goes_before rule r q ≡ true → goes_before rule q s ≡ true
    → goes_before rule r s ≡ true
goes_before-transitive rule r q s h k =
    ⊎_elim (λ (e : goes_before rule r s ≡ true). e)
    (λ (e : goes_before rule r s ≡ false). absurd
    (both_ways (goes_before rule r q) (not_going_before-transitive rule q s r (not_both_go_before rule q s k) e) h))
    (cases_Bool (goes_before rule r s))

-- where the first is not ahead of the third, and the second is not behind it
not_ahead_of : (rule : Rule) (x q r : Standing) → goes_before rule q r ≡ true → goes_before rule x r ≡ false
    → goes_before rule x q ≡ false
not_ahead_of rule x q r h k = not_going_before-transitive rule q r x (not_both_go_before rule q r h) k

ahead_swap : (rule : Rule) (r q : Standing) (o : Option Standing) → is_before q.since r.since ≡ true
    → first_by_rule rule r (Some (first_by_rule rule q o)) ≡ first_by_rule rule q (Some (first_by_rule rule r o))
ahead_swap rule r q None b =
    ⊎_elim
    (λ (e : goes_before rule q r ≡ true). let f : goes_before rule r q ≡ false = not_both_go_before rule q r e in
    rw (e, f) refl)
    (λ (e : goes_before rule q r ≡ false). let f : goes_before rule r q ≡ true = one_goes_before rule q r b e in
    rw (e, f) refl)
    (cases_Bool (goes_before rule q r))
ahead_swap rule r q (Some x) b =
    ⊎_elim
    (λ (e : goes_before rule q r ≡ true).
    let f : goes_before rule r q ≡ false = not_both_go_before rule q r e in
    ⊎_elim
    (λ (g : goes_before rule x q ≡ true).
    let h : goes_before rule x r ≡ true = goes_before-transitive rule x q r g e in rw (g, h, g) refl)
    (λ (g : goes_before rule x q ≡ false). rw (g, e)
    (⊎_elim (λ (h : goes_before rule x r ≡ true). rw (h, g) refl) (λ (h : goes_before rule x r ≡ false). rw (h, f) refl)
    (cases_Bool (goes_before rule x r))))
    (cases_Bool (goes_before rule x q)))
    (λ (e : goes_before rule q r ≡ false).
    let f : goes_before rule r q ≡ true = one_goes_before rule q r b e in
    ⊎_elim
    (λ (h : goes_before rule x r ≡ true).
    let g : goes_before rule x q ≡ true = goes_before-transitive rule x r q h f in rw (g, h, g) refl)
    (λ (h : goes_before rule x r ≡ false). rw (h, f)
    (⊎_elim (λ (g : goes_before rule x q ≡ true). rw (g, h) refl) (λ (g : goes_before rule x q ≡ false). rw (g, e) refl)
    (cases_Bool (goes_before rule x q))))
    (cases_Bool (goes_before rule x r)))
    (cases_Bool (goes_before rule q r))

behind_swap : (rule : Rule) (r q : Standing) (o : Option Standing) → is_before q.since r.since ≡ true
    → last_by_rule rule r (Some (last_by_rule rule q o)) ≡ last_by_rule rule q (Some (last_by_rule rule r o))
behind_swap rule r q None b =
    ⊎_elim
    (λ (e : goes_before rule q r ≡ true). let f : goes_before rule r q ≡ false = not_both_go_before rule q r e in
    rw (e, f) refl)
    (λ (e : goes_before rule q r ≡ false). let f : goes_before rule r q ≡ true = one_goes_before rule q r b e in
    rw (e, f) refl)
    (cases_Bool (goes_before rule q r))
behind_swap rule r q (Some x) b =
    ⊎_elim
    (λ (e : goes_before rule q r ≡ true).
    let f : goes_before rule r q ≡ false = not_both_go_before rule q r e in
    ⊎_elim
    (λ (h : goes_before rule x r ≡ true). rw (h, f)
    (⊎_elim (λ (g : goes_before rule x q ≡ true). rw (g, e) refl) (λ (g : goes_before rule x q ≡ false). rw (g, h) refl)
    (cases_Bool (goes_before rule x q))))
    (λ (h : goes_before rule x r ≡ false).
    let g : goes_before rule x q ≡ false = not_ahead_of rule x q r e h in rw (g, h, g) refl)
    (cases_Bool (goes_before rule x r)))
    (λ (e : goes_before rule q r ≡ false).
    let f : goes_before rule r q ≡ true = one_goes_before rule q r b e in
    ⊎_elim
    (λ (g : goes_before rule x q ≡ true). rw (g, e)
    (⊎_elim (λ (h : goes_before rule x r ≡ true). rw (h, f) refl) (λ (h : goes_before rule x r ≡ false). rw (h, g) refl)
    (cases_Bool (goes_before rule x r))))
    (λ (g : goes_before rule x q ≡ false).
    let h : goes_before rule x r ≡ false = not_ahead_of rule x r q f g in rw (g, h, g) refl)
    (cases_Bool (goes_before rule x q)))
    (cases_Bool (goes_before rule q r))

foremost-put : (rule : Rule) (r : Standing) (xs : List Standing)
    → foremost rule (put r xs) ≡ Some (first_by_rule rule r (foremost rule xs))
foremost-put rule r [] = refl
foremost-put rule r (x ∷ xs) =
    ⊎_elim (λ (e : is_before x.since r.since ≡ true). rw e
    (ap (λ o. Some (first_by_rule rule x o)) (foremost-put rule r xs)
    ∙ ap (λ q. Some q) (sym (ahead_swap rule r x (foremost rule xs) e))))
    (λ (e : is_before x.since r.since ≡ false). rw e refl) (cases_Bool (is_before x.since r.since))

-- who goes first of a set goes first of it in order
pub foremost-in_order : (rule : Rule) (xs : List Standing) → foremost rule (in_order xs) ≡ foremost rule xs
foremost-in_order rule [] = refl
foremost-in_order rule (x ∷ xs) = foremost-put rule x (in_order xs)
    ∙ ap (λ o. Some (first_by_rule rule x o)) (foremost-in_order rule xs)

hindmost-put : (rule : Rule) (r : Standing) (xs : List Standing)
    → hindmost rule (put r xs) ≡ Some (last_by_rule rule r (hindmost rule xs))
hindmost-put rule r [] = refl
hindmost-put rule r (x ∷ xs) =
    ⊎_elim (λ (e : is_before x.since r.since ≡ true). rw e
    (ap (λ o. Some (last_by_rule rule x o)) (hindmost-put rule r xs)
    ∙ ap (λ q. Some q) (sym (behind_swap rule r x (hindmost rule xs) e))))
    (λ (e : is_before x.since r.since ≡ false). rw e refl) (cases_Bool (is_before x.since r.since))

-- and who goes last
pub hindmost-in_order : (rule : Rule) (xs : List Standing) → hindmost rule (in_order xs) ≡ hindmost rule xs
hindmost-in_order rule [] = refl
hindmost-in_order rule (x ∷ xs) = hindmost-put rule x (in_order xs)
    ∙ ap (λ o. Some (last_by_rule rule x o)) (hindmost-in_order rule xs)
