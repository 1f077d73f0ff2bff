-- The dimension steps, on the set and by the buffers.
use Rattle.std.proofs.Common.{◌≡◌, ℕ, ◌+◌, ◌^◌, Bool, true, false, not, List, [], ◌∷◌, ◌++◌, map, Option, sym, ◌∙◌, ap}
use Rattle.std.proofs.Common.{subst, ⊎_elim, arith}
use Rattle.std.proofs.lemmas.Bool.{cases_Bool}
use Rattle.std.proofs.lemmas.Bool.Decides.{nat_tests}
use Rattle.std.specs.Prelude.{bit_xor, ◌==◌}
use Rattle.std.specs.List.{filter}
use Rattle.std.specs.Option.{option_to_list}
use Rattle.cm_model.specs.Wiring.{Routing}
use Rattle.cm_model.specs.Router.{Since, Standing, is_before, standing_at, leaves, record_across, after_dimension}
use Rattle.cm_model.specs.Order.{queue, buffer}
use Rattle.cm_model.specs.Buffers.{element_at}
use Rattle.cm_model.proofs.Order.{AllBefore, IsRising, before_transitive}
use Rattle.cm_model.proofs.Crossing.{step_of_record, queue-crossed, AllBefore-filter, AllBefore-in_order}
use Rattle.cm_model.proofs.Leaving.{place_left, comers_from}
use Rattle.cm_model.proofs.Readiness.{IsReady, IsRising-filter, IsRising-append, IsRising-comers, Precedes-comers}

-- the time before which all stand when dimension d is due
abbrev pub due_time : ℕ → ℕ → Since
due_time d cycle = record { cycle = cycle; turn = 16 + d }

next_time : (d cycle : ℕ) → is_before (due_time d cycle) (due_time (d + 1) cycle) ≡ true
next_time d cycle = grind (arith, nat_tests)

AllBefore-crossed : (leaves : Standing → Bool) (d cycle : ℕ) (set : List Standing) → AllBefore (due_time d cycle) set
    → AllBefore (due_time (d + 1) cycle) (map (step_of_record leaves d cycle) set)
AllBefore-crossed leaves d cycle [] h = tt
AllBefore-crossed leaves d cycle (r ∷ set) h =
    ⊎_elim (λ (e : leaves r ≡ true). rw e (next_time d cycle, AllBefore-crossed leaves d cycle set h.1))
    (λ (e : leaves r ≡ false). rw e (
      before_transitive r.since (due_time d cycle) (due_time (d + 1) cycle) h.0 (next_time d cycle),
      AllBefore-crossed leaves d cycle set h.1,
    ))
    (cases_Bool (leaves r))

IsRising-crossed : (routing : Routing) (cap d cycle c : ℕ) (set : List Standing) → IsReady (due_time d cycle) set
    → IsRising (queue c (after_dimension routing cap d cycle set))
unfolding after_dimension queue
IsRising-crossed routing cap d cycle c set h =
    let across : ℕ = bit_xor c (2 ^ d) in
    let o : Option Standing = element_at (queue across set) (place_left routing cap d set across) in
    subst (λ (xs : List Standing). IsRising xs)
    (sym (queue-crossed (leaves routing cap d set) d cycle c set h.before
    ∙ ap (λ z. filter (λ r. not (leaves routing cap d set r)) (queue c set) ++ z)
    (comers_from routing cap d cycle across set (h.rising across))))
    (IsRising-append (filter (λ r. not (leaves routing cap d set r)) (queue c set))
    (map (record_across d cycle) (option_to_list o))
    (IsRising-filter (λ r. not (leaves routing cap d set r)) (queue c set) (h.rising c))
    (IsRising-comers d cycle o)
    (Precedes-comers d cycle o (filter (λ r. not (leaves routing cap d set r)) (queue c set))
    (AllBefore-filter (λ r. not (leaves routing cap d set r)) (due_time d cycle) (queue c set)
    (AllBefore-in_order (due_time d cycle) (standing_at c set)
    (AllBefore-filter (λ r. r.chip == c) (due_time d cycle) set h.before)))))

-- the next dimension finds the set ready
pub IsReady-after_dimension : (routing : Routing) (cap d cycle : ℕ) (set : List Standing) → IsReady (due_time d cycle) set
    → IsReady (due_time (d + 1) cycle) (after_dimension routing cap d cycle set)
unfolding after_dimension
IsReady-after_dimension routing cap d cycle set h = record {
  before = AllBefore-crossed (leaves routing cap d set) d cycle set h.before;
  rising = λ c. IsRising-crossed routing cap d cycle c set h;
}
