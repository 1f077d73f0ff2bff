-- Crossings that are counted in a petit cycle, dimension after dimension.
use Rattle.std.proofs.Common.{◌≡◌, ℕ, zero, suc, ◌+◌, ◌^◌, List, get_or, set, refl, sym, ap, ◌∙◌, add-one}
use Rattle.cm_model.specs.declared.message.Message.{Message}
use Rattle.cm_model.specs.declared.message.Event.{Event}
use Rattle.cm_model.specs.Array.{Chips}
use Rattle.cm_model.specs.Wiring.{Routing}
use Rattle.cm_model.specs.Machine.{Machine}
use Rattle.cm_model.specs.Buffers.{machine_after_injection, machine_after_dimension}
use Rattle.cm_model.proofs.Cycles.{after_crossings, after_crossings-more, routing_in_cycle}
use Rattle.cm_petit.specs.Routers.{machine_from}
use Rattle.cm_petit.proofs.Cycling.{under_way}
use Rattle.lab_counts.specs.declared.crossings.Crossings.{Crossings}
use Rattle.lab_counts.specs.Chips.{chips_to, chips_through}
use Rattle.lab_counts.specs.Crossings.{crossings_added, no_crossings, crossings_to, machine_before, crossings_through}

pub machine_before-is : (n cap : ℕ) (m : Machine) (d : ℕ) → machine_before n cap m d ≡ under_way n cap m d
unfolding machine_before
machine_before-is n cap m zero = refl
machine_before-is n cap m (suc d) =
    ap (machine_after_dimension n cap d) (machine_before-is n cap m d)
    ∙ (sym (after_crossings-more n cap (machine_after_injection n cap m) d)
    ∙ ap (under_way n cap m) (add-one d))

-- the buffers that a petit cycle comes to, if they are those of any chips, events and count after so many dimensions
pub stand_before : (n cap : ℕ) (m : Machine) (routing : Routing) (old now : List (List Message)) (d : ℕ)
    → routing ≡ m.routing → old ≡ (machine_after_injection n cap m).buffers
    → ((chips : Chips) (logs : List (List Event)) (clock : ℕ) → machine_from routing chips now logs clock
    ≡ after_crossings n cap (machine_from routing chips old logs clock) d) → now ≡ (machine_before n cap m d).buffers
stand_before n cap m routing old now d routes stand crossed =
    let begun : Machine = machine_after_injection n cap m in
    let routes_then : routing ≡ begun.routing = routes ∙ sym (routing_in_cycle n cap m 0) in
    let same : machine_from routing begun.chips old begun.logs begun.clock ≡ begun =
    λ i. machine_from (routes_then i) begun.chips (stand i) begun.logs begun.clock in
    ap (λ (s : Machine). s.buffers) (crossed begun.chips begun.logs begun.clock
    ∙ (ap (λ (s : Machine). after_crossings n cap s d) same ∙ sym (machine_before-is n cap m d)))

pub through_more : (n cap : ℕ) (m : Machine) (dims old : List Crossings) (d : ℕ) (entry more : Crossings)
    (buffers : List (List Message)) → old ≡ crossings_through n cap m dims d → entry ≡ get_or old d no_crossings
    → more ≡ crossings_to m.routing cap d buffers (2 ^ n) → buffers ≡ (machine_before n cap m d).buffers
    → set old d (crossings_added entry more) ≡ crossings_through n cap m dims (d + 1)
unfolding crossings_through
through_more n cap m dims old d entry more buffers was reads counts stand =
    (λ i. set old d (crossings_added (reads i) (counts i)))
    ∙ ((λ i. set (was i) d (crossings_added (get_or (was i) d no_crossings) (crossings_to m.routing cap d (stand i) (2 ^ n))))
    ∙ ap (λ (k : ℕ). crossings_through n cap m dims k) (sym (add-one d)))

pub chips_more : (n cap : ℕ) (m : Machine) (chips old next : List Crossings) (d : ℕ) (buffers : List (List Message))
    → old ≡ chips_through n cap m chips d → next ≡ chips_to m.routing cap d buffers old (2 ^ n)
    → buffers ≡ (machine_before n cap m d).buffers → next ≡ chips_through n cap m chips (d + 1)
unfolding chips_through
chips_more n cap m chips old next d buffers was counts stand =
    counts
    ∙ ((λ i. chips_to m.routing cap d (stand i) (was i) (2 ^ n))
    ∙ ap (λ (k : ℕ). chips_through n cap m chips k) (sym (add-one d)))
