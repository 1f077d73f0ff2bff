-- The planes of all addresses, as they are listed one after another.
use Rattle.std.proofs.Common.{◌≡◌, ℕ, zero, suc, ◌+◌, ◌*◌, ◌/◌, ◌%◌, ◌<◌, ◌≤◌, ◌≢◌, ◌++◌, List, [], ◌∷◌, refl, sym}
use Rattle.std.proofs.Common.{ap, ◌∙◌, arith, take, get_or, map, append_assoc}
use Rattle.std.specs.Int.{w16}
use Rattle.std.specs.List.{flat_map, range_with_len}
use Rattle.std.proofs.lemmas.Bool.{cond-false, ne_eqb}
use Rattle.std.proofs.lemmas.List.{append-nil}
use Rattle.cm_model.specs.Each.{tabulate}
use Rattle.cm_model.specs.Processor.{Processor}
use Rattle.cm_message.specs.Bytes.{number_bytes}
use Rattle.cm_image_format.specs.Whole.{memory_plane_of}
use Rattle.cm_image_dump.specs.Planes.{listings, plane_listing, listed_below, planes_below}
use Rattle.cm_image_dump.proofs.Dumping.{made_zero, made_more, listed_step}

pub listings_none : (planes text : List ℕ) → text ≡ text ++ listings planes 0
unfolding listings
listings_none planes text = made_zero (λ address. plane_listing address (get_or planes address 0)) (λ address. address) text

pub listings_step : (planes : List ℕ) (n : ℕ) → listings planes (n + 1) ≡ listings planes n ++ plane_listing n (get_or planes n 0)
unfolding listings
listings_step planes n =
    made_more (λ address. plane_listing address (get_or planes address 0)) (λ address. address) 0 n n (omega arith)

-- where they are those of a chip, these are listed
pub same_listings : (chip : List Processor) (planes : List ℕ) (n : ℕ)
    → ((a : ℕ) → a < n → get_or planes a 0 ≡ memory_plane_of chip a) → listings planes n ≡ listed_below chip n
unfolding listings listed_below planes_below tabulate
same_listings chip planes zero same = refl
same_listings chip planes (suc n) same =
    let one : suc n ≡ n + 1 = omega arith in
    ap (listings planes) one
    ∙ listings_step planes n
    ∙ (λ i. same_listings chip planes n (λ a h. same a (omega (arith, h))) i ++ plane_listing n (same n (omega arith) i))
    ∙ sym (listed_step chip n) ∙ ap (listed_below chip) (sym one)

-- addresses from one on, each with its plane behind it
abbrev entries : List ℕ → ℕ → ℕ → List ℕ
entries planes at zero = []
entries planes at (suc n) = at ∷ get_or planes at 0 ∷ entries planes (at + 1) n

-- one more that is not 0
one_on : (planes : List ℕ) (at : ℕ) → get_or planes at 0 ≢ 0
    → listings planes (at + 1) ≡ listings planes at ++ (number_bytes w16 at ++ number_bytes w16 (get_or planes at 0))
one_on planes at some =
    let plane : ℕ = get_or planes at 0 in
    listings_step planes at
    ∙ ap (λ (xs : List ℕ). listings planes at ++ xs)
    (cond-false _ [] (number_bytes w16 at ++ number_bytes w16 plane) (ne_eqb plane 0 some))

joined : (a b c d : List ℕ) → a ++ (b ++ (c ++ d)) ≡ (a ++ (b ++ c)) ++ d
joined a b c d = simp append_assoc

-- behind the planes of the addresses below, those that are not 0 are listed by their bytes
listed_on : (planes : List ℕ) (n at end : ℕ) → at + n ≡ end
    → ((a : ℕ) → at ≤ a → a < end → get_or planes a 0 ≢ 0)
    → listings planes at ++ flat_map (number_bytes w16) (entries planes at n) ≡ listings planes end
listed_on planes zero at end is some = append-nil (listings planes at) ∙ ap (listings planes) (omega (arith, is))
listed_on planes (suc n) at end is some =
    let rest : List ℕ = flat_map (number_bytes w16) (entries planes (at + 1) n) in
    joined (listings planes at) (number_bytes w16 at) (number_bytes w16 (get_or planes at 0)) rest
    ∙ ap (λ (xs : List ℕ). xs ++ rest) (sym (one_on planes at (some at (omega arith) (omega (arith, is)))))
    ∙ listed_on planes n (at + 1) end (omega (arith, is)) (λ a l h. some a (omega (arith, l)) h)

-- ---- eight addresses at once

-- eight addresses with their planes laid between them, from a place on
abbrev pub laid_between : List ℕ → List ℕ → ℕ → List ℕ
laid_between addresses planes from =
    map (λ n. get_or (addresses ++ planes) (n % 2 * 8 + n / 2) 0) (range_with_len from 8)

pair : (a b c d : ℕ) (xs ys : List ℕ) → a ≡ b → c ≡ d → xs ≡ ys → a ∷ c ∷ xs ≡ b ∷ d ∷ ys
pair a b c d xs ys first second rest = λ i. first i ∷ second i ∷ rest i

-- the first four of them are four entries, and so are the others
pub four_entries : (planes addresses eight : List ℕ) (at : ℕ) → addresses ≡ map (λ j. at + j) (range_with_len 0 8)
    → ((n : ℕ) → n < 8 → get_or eight n 0 ≡ get_or planes (at + n) 0)
    → laid_between addresses eight 0 ≡ entries planes at 4
four_entries planes addresses eight at follow same =
    let plane : (n k : ℕ) → n < 8 → at + n ≡ k → get_or eight n 0 ≡ get_or planes k 0 =
    λ n k h is. same n h ∙ ap (λ (j : ℕ). get_or planes j 0) is in
    ap (λ (l : List ℕ). laid_between l eight 0) follow
    ∙ pair _ _ _ _ _ _ (omega arith) (plane 0 _ (omega arith) (omega arith))
    (pair _ _ _ _ _ _ (omega arith) (plane 1 _ (omega arith) (omega arith))
    (pair _ _ _ _ _ _ (omega arith) (plane 2 _ (omega arith) (omega arith))
    (pair _ _ _ _ _ _ (omega arith) (plane 3 _ (omega arith) (omega arith)) refl)))

pub next_entries : (planes addresses eight : List ℕ) (at : ℕ) → addresses ≡ map (λ j. at + j) (range_with_len 0 8)
    → ((n : ℕ) → n < 8 → get_or eight n 0 ≡ get_or planes (at + n) 0)
    → laid_between addresses eight 8 ≡ entries planes (at + 4) 4
next_entries planes addresses eight at follow same =
    let plane : (n k : ℕ) → n < 8 → at + n ≡ k → get_or eight n 0 ≡ get_or planes k 0 =
    λ n k h is. same n h ∙ ap (λ (j : ℕ). get_or planes j 0) is in
    ap (λ (l : List ℕ). laid_between l eight 8) follow
    ∙ pair _ _ _ _ _ _ (omega arith) (plane 4 _ (omega arith) (omega arith))
    (pair _ _ _ _ _ _ (omega arith) (plane 5 _ (omega arith) (omega arith))
    (pair _ _ _ _ _ _ (omega arith) (plane 6 _ (omega arith) (omega arith))
    (pair _ _ _ _ _ _ (omega arith) (plane 7 _ (omega arith) (omega arith)) refl)))

-- four more, behind those that were put
pub four_more : (planes before after lanes : List ℕ) (at i j end : ℕ) → take i before ≡ listings planes at
    → take j after ≡ take i before ++ flat_map (number_bytes w16) lanes → lanes ≡ entries planes at 4 → at + 4 ≡ end
    → ((a : ℕ) → at ≤ a → a < end → get_or planes a 0 ≢ 0) → take j after ≡ listings planes end
four_more planes before after lanes at i j end told more is there some =
    more ∙ (λ k. told k ++ flat_map (number_bytes w16) (is k)) ∙ listed_on planes 4 at end there some
