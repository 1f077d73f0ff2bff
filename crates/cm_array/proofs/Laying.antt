-- Buffers, chips and logs copied to other places.
use Rattle.std.proofs.Common.{◌≡◌, ◌≢◌, ℕ, ◌+◌, ◌<◌, ◌≤◌, List, [], ◌∷◌, ◌++◌, length, get_or, set, take, sym, ap}
use Rattle.std.proofs.Common.{◌∙◌, subst, arith, ⊎_elim, ext_get_or, get_or-set_same, get_or-set_other, zero-add}
use Rattle.std.proofs.lemmas.Bool.{cases_eq, cases_lt}
use Rattle.std.proofs.lemmas.List.{set-set, set-get_or, append-nil, append_assoc, take_more}
use Rattle.std.proofs.lemmas.List.{get_or_past, get_or-map, map-set, length-map, take_all}
use Rattle.cm_model.specs.declared.message.Event.{Event}
use Rattle.cm_model.specs.Each.{tabulate}
use Rattle.cm_model.proofs.Each.{length-tabulate, get_or-each_below}
use Rattle.cm_model.specs.Array.{Chips, nth_or_nil}
use Rattle.cm_blocks.specs.Parts.{sliced}
use Rattle.cm_blocks.proofs.Cutting.{length-sliced, read-cut_at}
use Rattle.cm_element.specs.Laid.{AreLaid}
use Rattle.cm_router.specs.Logs.{Log}
use Rattle.cm_petit.specs.Routers.{events_of}
use Rattle.cm_array.specs.Cuts.{IsLaid}

-- ---- messages that come one after another

-- before the first of them
pub none_come : {X : Type 0} (lists : List (List X)) (c : ℕ) → lists ≡ set lists c (nth_or_nil lists c ++ [])
none_come lists c = sym (ap (set lists c) (append-nil (nth_or_nil lists c)) ∙ set-get_or lists c [])

-- one more
pub one_comes : {X : Type 0} (lists : List (List X)) (c : ℕ) (ys rest : List X) (i : ℕ) (m : X) → c < length lists
    → i < length rest → m ≡ get_or rest i m
    → set (set lists c (ys ++ take i rest)) c (nth_or_nil (set lists c (ys ++ take i rest)) c ++ m ∷ [])
    ≡ set lists c (ys ++ take (i + 1) rest)
one_comes lists c ys rest i m inside l is =
    ap (λ z. set (set lists c (ys ++ take i rest)) c (z ++ m ∷ []))
    (get_or-set_same lists c (ys ++ take i rest) [] inside)
    ∙ set-set lists c (ys ++ take i rest) ((ys ++ take i rest) ++ m ∷ [])
    ∙ ap (set lists c) (append_assoc ys (take i rest) (m ∷ [])
    ∙ ap (λ z. ys ++ z) (ap (λ z. take i rest ++ z ∷ []) is ∙ sym (take_more rest i m l)))

-- how many stand there then
pub length_come : {X : Type 0} (lists : List (List X)) (c : ℕ) (ys : List X) → c < length lists
    → length (nth_or_nil (set lists c ys) c) ≡ length ys
length_come lists c ys inside = ap length (get_or-set_same lists c ys [] inside)

-- ---- one list laid into another

-- what a cut is laid from
pub laid_cut : {X : Type 0} (first count i : ℕ) (xs : List (List X)) → i < count
    → nth_or_nil (sliced first count xs) i ≡ nth_or_nil xs (first + i)
laid_cut first count i xs l = read-cut_at first count xs i [] l

-- chips that were laid over all chips of another run
pub chips_cut : (first count : ℕ) (from old new : Chips) → length old ≡ count → first + count ≤ length from
    → AreLaid 0 first count from old new → new ≡ sliced first count from
chips_cut first count from old new long fits laid =
    ext_get_or [] new (sliced first count from) (laid.chips ∙ long ∙ sym (length-sliced first count from fits))
    (λ i l. let below : i < count = omega (arith, l, laid.chips, long) in
    ap (λ (k : ℕ). get_or new k []) (sym (zero-add i)) ∙ laid.laid i below ∙ sym (laid_cut first count i from below))

pub buffers_cut : {X : Type 0} (first count : ℕ) (from old new : List (List X)) → length old ≡ count
    → first + count ≤ length from → IsLaid 0 (sliced first count from) old new → new ≡ sliced first count from
buffers_cut first count from old new long fits laid =
    let wide : length (sliced first count from) ≡ count = length-sliced first count from fits in
    ext_get_or [] new (sliced first count from) (laid.count ∙ long ∙ sym wide)
    (λ i l. ap (λ (k : ℕ). get_or new k []) (sym (zero-add i)) ∙ laid.laid i (omega (arith, l, laid.count, long, wide)))

-- lists that read so have a cut laid into them
pub IsLaid-sliced : {X : Type 0} (at first count : ℕ) (from old new : List (List X)) → first + count ≤ length from
    → length new ≡ length old
    → ((k : ℕ) → k < count → nth_or_nil new (at + k) ≡ nth_or_nil from (first + k))
    → ((k : ℕ) → k < at → nth_or_nil new k ≡ nth_or_nil old k)
    → ((k : ℕ) → at + count ≤ k → nth_or_nil new k ≡ nth_or_nil old k)
    → IsLaid at (sliced first count from) old new
IsLaid-sliced at first count from old new fits same laid below above =
    let wide : length (sliced first count from) ≡ count = length-sliced first count from fits in
    record {
      count = same;
      laid = λ i l. let inside : i < count = omega (arith, l, wide) in
          laid i inside ∙ sym (laid_cut first count i from inside);
      below = below;
      above = λ i l. above i (omega (arith, l, wide));
    }

-- ---- nobody

-- at chips where none stand, and at others
pub none_stand : {X : Type 0} (count : ℕ) (lists : List (List X)) (c : ℕ) → lists ≡ tabulate 0 count (λ i. [])
    → nth_or_nil lists c ≡ []
none_stand {X} count lists c is =
    let long : length (tabulate {X = List X} 0 count (λ i. [])) ≡ count = length-tabulate 0 count (λ i. []) in
    ⊎_elim
    (λ (l : c < count). ap (λ z. nth_or_nil z c) is ∙ get_or-each_below count (λ i. []) c [] l)
    (λ (l : count ≤ c). get_or_past lists c [] (omega (arith, l, ap length is, long)))
    (cases_lt c count)

-- ---- logs

-- another log is as it was
pub log_left : (logs : List Log) (i k : ℕ) (log : Log) → k ≢ i
    → nth_or_nil (events_of (set logs i log)) k ≡ nth_or_nil (events_of logs) k
log_left logs i k log other =
    ap (λ lists. nth_or_nil lists k) (map-set (λ (x : Log). x.items) logs i log)
    ∙ get_or-set_other (events_of logs) i k log.items [] other

-- and here it is the new one
pub log_here : (logs : List Log) (i : ℕ) (log : Log) → i < length logs
    → nth_or_nil (events_of (set logs i log)) i ≡ log.items
log_here logs i log inside =
    ap (λ lists. nth_or_nil lists i) (map-set (λ (x : Log). x.items) logs i log)
    ∙ get_or-set_same (events_of logs) i log.items [] (omega (arith, inside, length-map logs (λ (x : Log). x.items)))

-- one more that is the same as another
pub one_log_laid : (logs : List Log) (events : List (List Event)) (i : ℕ) (log : Log) → i < length logs
    → log.items ≡ nth_or_nil events i → ((k : ℕ) → k < i → nth_or_nil (events_of logs) k ≡ nth_or_nil events k)
    → (k : ℕ) → k < i + 1 → nth_or_nil (events_of (set logs i log)) k ≡ nth_or_nil events k
one_log_laid logs events i log inside is before k l =
    ⊎_elim
    (λ (e : k ≡ i). subst (λ (j : ℕ). nth_or_nil (events_of (set logs i log)) j ≡ nth_or_nil events j) (sym e)
    (log_here logs i log inside ∙ is))
    (λ (e : k ≢ i). log_left logs i k log e ∙ before k (omega (arith, e, l)))
    (cases_eq k i)

-- one more that stands at its place
pub log_laid : (at i : ℕ) (to from : List Log) (events : List (List Event)) (log other : Log) → at + i < length to
    → i < length from
    → log ≡ get_or from i other
    → ((k : ℕ) → k < i → nth_or_nil (events_of to) (at + k) ≡ nth_or_nil events k)
    → nth_or_nil (events_of from) i ≡ nth_or_nil events i
    → (k : ℕ) → k < i + 1 → nth_or_nil (events_of (set to (at + i) log)) (at + k) ≡ nth_or_nil events k
log_laid at i to from events log other inside there is before here k l =
    ⊎_elim
    (λ (e : k ≡ i). subst (λ (j : ℕ). nth_or_nil (events_of (set to (at + i) log)) (at + j) ≡ nth_or_nil events j) (sym e)
    (log_here to (at + i) log inside ∙ ap (λ (x : Log). x.items) is
    ∙ sym (get_or-map (λ (x : Log). x.items) from i other [] there) ∙ here))
    (λ (e : k ≢ i). log_left to (at + i) (at + k) log (omega (arith, e)) ∙ before k (omega (arith, e, l)))
    (cases_eq k i)

-- ---- a whole piece

-- of all chips
pub all_chips_laid : (at count : ℕ) (from old new : Chips) → count ≡ length from → AreLaid at 0 count from old new
    → IsLaid at from old new
all_chips_laid at count from old new all laid = record {
  count = laid.chips;
  laid = λ i l. laid.laid i (omega (arith, l, all)) ∙ ap (λ (k : ℕ). get_or from k []) (zero-add i);
  below = laid.below;
  above = λ i l. laid.above i (omega (arith, l, all));
}

-- a cut of all is all
pub cut_all : {X : Type 0} (count : ℕ) (xs : List X) → count ≡ length xs → sliced 0 count xs ≡ xs
unfolding sliced
cut_all count xs all = take_all count xs (omega (arith, all))
