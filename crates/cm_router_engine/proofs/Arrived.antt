-- What is known of the chips behind one that changes stays known.
use Rattle.std.proofs.Common.{◌≡◌, ℕ, ◌+◌, ◌≤◌, ◌∙◌, List, [], length, set, ap, sym, arith, length-set}
use Rattle.std.proofs.lemmas.List.{get_or-set_other}
use Rattle.std.specs.List.{list_any}
use Rattle.cm_model.specs.declared.message.Message.{Message}
use Rattle.cm_model.specs.Letters.{has_arrived}
use Rattle.cm_slots.specs.declared.arrivals.Arrivals.{Arrivals}
use Rattle.cm_router_engine.specs.Arrived.{HaveArrivedAt}

pub known_behind : (known : Arrivals) (old new : List (List Message)) (from c : ℕ) (ms : List Message)
    → HaveArrivedAt known from old → from ≤ c → new ≡ set old c ms → HaveArrivedAt known (c + 1) new
known_behind known old new from c ms was on is = rw is (λ k behind below it.
    was k (omega (arith, behind, on)) (omega (arith, below, length-set old c ms)) it
    ∙ ap (λ (xs : List Message). list_any has_arrived xs) (sym (get_or-set_other old c k ms [] (omega (arith, behind)))))

pub known_from : (known : Arrivals) (buffers : List (List Message)) (from later : ℕ) → from ≤ later
    → HaveArrivedAt known from buffers → HaveArrivedAt known later buffers
known_from known buffers from later on was = λ k behind below it. was k (omega (arith, behind, on)) below it
