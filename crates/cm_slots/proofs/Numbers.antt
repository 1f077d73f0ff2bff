-- The numbers that stand for tickets do what the tickets do.
use Rattle.std.proofs.Common.{◌≡◌, ◌≢◌, ℕ, ◌+◌, ◌-◌, ◌*◌, ◌/◌, ◌%◌, ◌^◌, ◌==◌, ◌++◌, Bool, true, false}
use Rattle.std.proofs.Common.{List, map, Option, Some, None, if◌then◌else◌, refl, sym, ◌∙◌, ap, ⊎_elim, arith}
use Rattle.std.proofs.Math.Nat.{div-div-eq-div-mul}
use Rattle.std.proofs.Math.Path.{fun_ext}
use Rattle.std.specs.Prelude.{bit_xor}
use Rattle.std.specs.Int.Bits.{xor_zero_r}
use Rattle.std.specs.List.{position}
use Rattle.std.specs.Option.{option_or, option_map, option_to_list}
use Rattle.std.proofs.lemmas.Bool.{cases_eq, cases_Bool, ne_eqb}
use Rattle.std.proofs.lemmas.List.{length-map, map-append}
use Rattle.std.proofs.lemmas.Nat.{pow-add, shl-shr, xor_shr, xor_mod}
use Rattle.cm_model.proofs.Leaving.{map-without, element_at-map, position-map}
use Rattle.cm_model.specs.Buffers.{element_at}
use Rattle.cm_slots.specs.Queues.{place_of_leaver, last_of_full}
use Rattle.cm_slots.specs.declared.order.Order.{Order}
use Rattle.cm_slots.specs.Tickets.{ticket_of, ticket_in, has_to_go, ticket_across}
use Rattle.cm_slots.specs.Choice.{place_by, going_by, staying_by, exchanged_by}
use Rattle.cm_slots.specs.Tiles.{stayers_by}
use Rattle.cm_slots.specs.Slots.{is_taken, crosses, slot_across, comers}

-- ---- one ticket

-- the bits of the relative address stand from bit 16 on
pub has_to_go_is : (d x : ℕ) → has_to_go d (ticket_of x) ≡ crosses d x
has_to_go_is d x = ap (λ (n : ℕ). n % 2 == 1)
    (div-div-eq-div-mul x (2 ^ 16) (2 ^ d) ∙ ap (λ (n : ℕ). x / n) (sym (pow-add 2 16 d)))

-- the bit that flips in a number
abbrev pub flip : ℕ → ℕ → ℕ
flip d x = bit_xor x (2 ^ (16 + d))

pub power : (d : ℕ) → 2 ^ (16 + d) ≡ 2 ^ d * 2 ^ 16
power d = ap (λ (n : ℕ). 2 ^ n) (omega arith) ∙ pow-add 2 d 16

rel-flip : (d x : ℕ) → bit_xor (x / 2 ^ 16) (2 ^ d) ≡ flip d x / 2 ^ 16
rel-flip d x = sym (xor_shr x (2 ^ (16 + d)) 16 ∙ ap (bit_xor (x / 2 ^ 16)) (rw (power d) (shl-shr (2 ^ d) 16)))

number-flip : (d x : ℕ) → flip d x % 65536 ≡ x % 65536
number-flip d x =
    let none : 2 ^ (16 + d) % 2 ^ 16 ≡ 0 = rw (power d) (omega arith) in
    xor_mod x (2 ^ (16 + d)) 16 ∙ ap (bit_xor (x % 2 ^ 16)) none ∙ xor_zero_r (x % 2 ^ 16)

ticket_across_is : (d x : ℕ) → ticket_across d (ticket_of x) ≡ ticket_of (flip d x)
ticket_across_is d x = rw (number-flip d x) (ap (λ (r : ℕ). record { rel = r; number = x % 65536 - 1 }) (rel-flip d x))

-- a slot stays taken
flip_taken : (d x : ℕ) → is_taken x ≡ true → is_taken (flip d x) ≡ true
flip_taken d x taken = rw (number-flip d x) taken

pub going_taken : (d x : ℕ) → (x ≢ 0 → is_taken x ≡ true) → slot_across d x ≢ 0 → is_taken (slot_across d x) ≡ true
going_taken d x taken = ⊎_elim (λ (e : x ≡ 0). rw e (λ some. absurd (some refl)))
    (λ (e : x ≢ 0). rw (ne_eqb x 0 e) (λ some. flip_taken d x (taken e))) (cases_eq x 0)

-- who comes, as a ticket
pub map-comers : (x : ℕ) → map ticket_of (comers x) ≡ option_to_list (ticket_in x)
map-comers x = ⊎_elim (λ (e : (x == 0) ≡ true). rw e refl) (λ (e : (x == 0) ≡ false). rw e refl) (cases_Bool (x == 0))

across_is : (d x : ℕ) → (x ≢ 0 → is_taken x ≡ true)
    → ticket_in (slot_across d x) ≡ option_map (ticket_across d) (ticket_in x)
across_is d x taken = ⊎_elim (λ (e : x ≡ 0). rw e refl)
    (λ (e : x ≢ 0).
    let lit : flip d x ≢ 0 = grind (arith, flip_taken d x (taken e)) in
    rw (ne_eqb x 0 e, ne_eqb (flip d x) 0 lit) (ap Some (sym (ticket_across_is d x)))) (cases_eq x 0)

-- ---- queues

pub same_place : (d room : ℕ) (xs : List ℕ)
    → place_of_leaver (has_to_go d) room (map ticket_of xs) ≡ place_of_leaver (crosses d) room xs
unfolding place_of_leaver
same_place d room xs =
    ap (λ (o : Option ℕ). option_or o (last_of_full room (map ticket_of xs)))
    (position-map ticket_of (has_to_go d) xs ∙ ap (λ (p : ℕ → Bool). position p xs) (fun_ext (has_to_go_is d)))
    ∙ ap (λ (n : ℕ). option_or (position (crosses d) xs) (if n == room then Some (n - 1) else None))
    (length-map xs ticket_of)

pub stayers-tickets : (order : Order) (d room : ℕ) (xs : List ℕ)
    → map ticket_of (stayers_by order room d xs) ≡ staying_by order room d (map ticket_of xs)
stayers-tickets order d room xs = map-without ticket_of xs (place_by order room d (map ticket_of xs))

-- who leaves, of which the number is known, as a ticket that arrives across
pub going_is : (d : ℕ) (xs : List ℕ) (who : Option ℕ) (x : ℕ) → (x ≢ 0 → is_taken x ≡ true)
    → ticket_in x ≡ option_map ticket_of (element_at xs who)
    → ticket_in (slot_across d x) ≡ option_map (ticket_across d) (element_at (map ticket_of xs) who)
going_is d xs who x taken is =
    across_is d x taken ∙ rw is (ap (option_map (ticket_across d)) (sym (element_at-map ticket_of xs who)))

-- a queue that somebody leaves and somebody comes to
pub exchanged-tickets : (order : Order) (d room : ℕ) (xs ys : List ℕ) (x : ℕ)
    → ticket_in x ≡ going_by order room d (map ticket_of ys)
    → map ticket_of (stayers_by order room d xs ++ comers x)
    ≡ exchanged_by order room d (map ticket_of xs) (map ticket_of ys)
exchanged-tickets order d room xs ys x is =
    map-append ticket_of (stayers_by order room d xs) (comers x)
    ∙ rw (map-comers x, is, stayers-tickets order d room xs) refl
