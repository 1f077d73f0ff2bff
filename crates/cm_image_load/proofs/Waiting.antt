-- Planes of all addresses that are listed, and chips that wait for their places in a machine.
use Rattle.std.proofs.Common.{◌≡◌, ℕ, zero, suc, ◌+◌, ◌*◌, ◌-◌, ◌<◌, ◌≤◌, ◌++◌, List, [], ◌∷◌, Ok, refl, sym, ap}
use Rattle.std.proofs.Common.{◌∙◌, arith, take, drop, fold, length, get_or, nat_le, ⊎_elim, subst}
use Rattle.std.specs.Int.{w16}
use Rattle.std.proofs.lemmas.Bool.{cases_eq, cases_lt, cond-true, cond-false, eq-eqb, ne_eqb, le-leb}
use Rattle.std.proofs.lemmas.List.{drop-drop, take-append-drop}
use Rattle.std.proofs.lemmas.List.FromFn.{map-range_with_len_more}
use Rattle.cm_model.specs.Each.{tabulate}
use Rattle.cm_model.specs.Array.{Chips}
use Rattle.cm_model.specs.Machine.{Machine}
use Rattle.cm_model.proofs.Each.{same_each_below, is_each, length-tabulate}
use Rattle.cm_element.specs.Near.{with_near}
use Rattle.cm_element.specs.Planes.{chip_of}
use Rattle.cm_element.specs.Runs.{chip_beside, chips_beside}
use Rattle.cm_image_format.specs.declared.fault.ImageFault.TheVariants.{Count}
use Rattle.cm_image_format.specs.Reading.{number_at, many, made, must}
use Rattle.cm_image_format.specs.Image.{Listed, listed_part, memory_part}
use Rattle.cm_image_format.specs.Whole.{plane_or, plane_at, planes_of}
use Rattle.cm_image_fields.proofs.Filling.{counted_is}
use Rattle.cm_image_fields.proofs.Taking.{next_address}
use Rattle.cm_image_load.specs.WaitingChips.{AreWaitingPlanes, AreListedFrom, with_waiting}

each_more : {X : Type 0} (count : ℕ) (f : ℕ → X) → tabulate 0 (count + 1) f ≡ tabulate 0 count f ++ f count ∷ []
unfolding tabulate
each_more count f = map-range_with_len_more f 0 count count (omega arith)

-- ---- listed planes

abbrev listing : (ℕ → ℕ) → ℕ → Listed
listing plane a = record { at = a; plane = plane a }

-- one after another, they are read as a list
many_listed : (count s end : ℕ) (bytes : List ℕ) (plane : ℕ → ℕ) → s + count ≡ end → AreListedFrom bytes end plane
    → many next_address listed_part count s (drop (4 * s) bytes)
    ≡ Ok (tabulate s count (listing plane), drop (4 * end) bytes)
unfolding many tabulate
many_listed zero s end bytes plane is listed = ap (λ (k : ℕ). Ok ([], drop (4 * k) bytes)) (omega (arith, is))
many_listed (suc count) s end bytes plane is listed =
    rw (listed s (omega (arith, is)), many_listed count (s + 1) end bytes plane (omega (arith, is)) listed) refl

no_plane : (count s a d : ℕ) (plane : ℕ → ℕ) → a < s → fold (plane_or a) d (tabulate s count (listing plane)) ≡ d
unfolding tabulate
no_plane zero s a d plane h = refl
no_plane (suc count) s a d plane h =
    ap (λ (z : ℕ). fold (plane_or a) z (tabulate (s + 1) count (listing plane)))
    (cond-false _ (plane s) d (ne_eqb s a (λ e. omega (arith, e, h))))
    ∙ no_plane count (s + 1) a d plane (omega (arith, h))

plane_listed : (count s a d : ℕ) (plane : ℕ → ℕ) → s ≤ a → a < s + count
    → fold (plane_or a) d (tabulate s count (listing plane)) ≡ plane a
unfolding tabulate
plane_listed zero s a d plane l h = absurd (omega (arith, l, h))
plane_listed (suc count) s a d plane l h =
    ⊎_elim
    (λ (e : s ≡ a). ap (λ (z : ℕ). fold (plane_or a) z (tabulate (s + 1) count (listing plane)))
    (cond-true _ (plane s) d (eq-eqb s a e))
    ∙ no_plane count (s + 1) a (plane s) plane (omega (arith, e)) ∙ ap plane e)
    (λ (e : s ≡ a → ⊥). plane_listed count (s + 1) a (plane_or a d (listing plane s)) plane (omega (arith, e, l)) (omega (arith, h)))
    (cases_eq s a)

planes_of-listed : (plane : ℕ → ℕ) → planes_of (tabulate 0 4096 (listing plane)) ≡ tabulate 0 4096 plane
unfolding plane_at
planes_of-listed plane =
    same_each_below 0 4096 (plane_at (tabulate 0 4096 (listing plane))) plane
    (λ a h. plane_listed 4096 0 a 0 plane (omega arith) h)

-- behind their count, those of all addresses are the planes of a chip
pub memory_listed : (count end : ℕ) (bytes after : List ℕ) (plane : ℕ → ℕ) → count ≡ 4096 → 2 + 4 * count ≡ end
    → number_at w16 bytes ≡ Ok (count, drop 2 bytes) → after ≡ drop 2 bytes → AreListedFrom after count plane
    → made planes_of memory_part bytes ≡ Ok (tabulate 0 4096 plane, drop end bytes)
memory_listed count end bytes after plane is long counted same listed =
    let all : memory_part bytes ≡ Ok (tabulate 0 count (listing plane), drop (4 * count) (drop 2 bytes)) =
    counted_is w16 (must Count (λ k. nat_le k 4096)) next_address listed_part 0 count bytes (drop 2 bytes) counted
    (rw (le-leb count 4096 (omega (arith, is))) refl)
    ∙ many_listed count 0 count (drop 2 bytes) plane (omega arith)
    (subst (λ (xs : List ℕ). AreListedFrom xs count plane) same listed) in
    let rest : drop (4 * count) (drop 2 bytes) ≡ drop end bytes =
    drop-drop (4 * count) 2 bytes ∙ ap (λ (k : ℕ). drop k bytes) long in
    rw (all, rest) (ap (λ (planes : List ℕ). Ok (planes, drop end bytes))
    (ap (λ (k : ℕ). planes_of (tabulate 0 k (listing plane))) is ∙ planes_of-listed plane))

-- ---- chips that wait

-- no chip changes nothing
pub nothing_waits : (end : ℕ) (m : Machine) → with_waiting end m [] ≡ m
unfolding with_near
nothing_waits end m =
    let all : end - 0 + 0 ≡ end - 0 = omega arith in
    ap (λ (chips : Chips). record m { chips = chips })
    (ap (λ (k : ℕ). take (end - 0) m.chips ++ drop k m.chips) all ∙ take-append-drop (end - 0) m.chips)

pub length-chips_beside : (memory flags : List ℕ) (count : ℕ) → length (chips_beside memory flags count) ≡ count
unfolding chips_beside
length-chips_beside memory flags count = length-tabulate 0 count (chip_beside memory flags)

pub no_chips : (memory flags : List ℕ) → chips_beside memory flags 0 ≡ []
unfolding chips_beside tabulate
no_chips memory flags = refl

-- how many of them wait, and that none does
pub count_is : (memory flags : List ℕ) (count : ℕ) (chips : Chips) → chips_beside memory flags count ≡ chips
    → length chips ≡ count
count_is memory flags count chips is = ap length (sym is) ∙ length-chips_beside memory flags count

pub none_wait : (memory flags : List ℕ) (count : ℕ) (chips : Chips) → chips_beside memory flags count ≡ chips
    → count ≡ 0 → chips ≡ []
none_wait memory flags count chips is none =
    sym is ∙ ap (λ (k : ℕ). chips_beside memory flags k) none ∙ no_chips memory flags

-- chips whose planes are as they were
pub chips_kept : (memory later_memory flags later_flags : List ℕ) (count : ℕ)
    → ((i : ℕ) → i < count * 4128 → get_or later_memory i 0 ≡ get_or memory i 0)
    → ((i : ℕ) → i < count * 16 → get_or later_flags i 0 ≡ get_or flags i 0)
    → chips_beside later_memory later_flags count ≡ chips_beside memory flags count
unfolding chips_beside
chips_kept memory later_memory flags later_flags count planes others =
    same_each_below [] count (chip_beside later_memory later_flags) (chip_beside memory flags)
    (λ c h. λ i. chip_of
    (same_each_below 0 4096 (λ a. get_or later_memory (c * 4128 + a) 0) (λ a. get_or memory (c * 4128 + a) 0)
    (λ a l. planes (c * 4128 + a) (omega (arith, h, l))) i)
    (same_each_below 0 16 (λ f. get_or later_flags (c * 16 + f) 0) (λ f. get_or flags (c * 16 + f) 0)
    (λ f l. others (c * 16 + f) (omega (arith, h, l))) i))

-- a chip whose planes are put behind those of others
pub chips_pushed : (memory later_memory flags later_flags one : List ℕ) (count : ℕ)
    → ((i : ℕ) → i < count * 4128 → get_or later_memory i 0 ≡ get_or memory i 0)
    → ((i : ℕ) → i < count * 16 → get_or later_flags i 0 ≡ get_or flags i 0)
    → ((f : ℕ) → f < 16 → get_or later_flags (count * 16 + f) 0 ≡ get_or one f 0) → length one ≡ 16
    → chips_beside later_memory later_flags (count + 1)
    ≡ chips_beside memory flags count
    ++ chip_of (tabulate 0 4096 (λ a. get_or later_memory (count * 4128 + a) 0)) one ∷ []
unfolding chips_beside
chips_pushed memory later_memory flags later_flags one count planes others here long =
    let last : chip_beside later_memory later_flags count
    ≡ chip_of (tabulate 0 4096 (λ a. get_or later_memory (count * 4128 + a) 0)) one =
    ap (chip_of (tabulate 0 4096 (λ a. get_or later_memory (count * 4128 + a) 0)))
    (sym (is_each 0 16 (λ f. get_or later_flags (count * 16 + f) 0) one long (λ f h. sym (here f h)))) in
    each_more count (chip_beside later_memory later_flags)
    ∙ (λ i. chips_kept memory later_memory flags later_flags count planes others i ++ last i ∷ [])

pub tile_pushed : (memory later_memory flags later_flags : List ℕ) (capacity later flag_room later_room count : ℕ)
    → AreWaitingPlanes memory capacity flags flag_room count → count < 256 → count * 4128 + 4128 ≤ length later_memory → capacity ≤ later
    → count * 16 + 16 ≤ length later_flags → flag_room ≤ later_room
    → ((i : ℕ) → i < count * 16 → get_or later_flags i 0 ≡ get_or flags i 0)
    → get_or later_flags (count * 16 + 8) 0 ≡ 0 → AreWaitingPlanes later_memory later later_flags later_room (count + 1)
tile_pushed memory later_memory flags later_flags capacity later spare more count tile few long room words fit others none = record {
  few = omega (arith, few);
  memory = omega (arith, long);
  room = omega (arith, tile.room, room);
  flag_words = omega (arith, words);
  flag_room = omega (arith, tile.flag_room, fit);
  zero = λ c h. ⊎_elim
      (λ (l : c < count). others (c * 16 + 8) (omega (arith, l)) ∙ tile.zero c l)
      (λ (l : count ≤ c). let last : c ≡ count = omega (arith, h, l) in
      ap (λ (k : ℕ). get_or later_flags (k * 16 + 8) 0) last ∙ none)
      (cases_lt c count);
}
