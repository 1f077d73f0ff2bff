use Rattle.std.proofs.Common.{◌≡◌, ℕ, ◌<◌, ◌≤◌, ◌++◌, List, [], Option, None, length, get_or, ⊎_elim, arith}
use Rattle.std.specs.Option.{option_to_list}
use Rattle.std.proofs.lemmas.List.{length-append}
use Rattle.std.proofs.lemmas.List.Elements.{All-from_get_or}
use Rattle.cm_model.specs.declared.message.Message.{Message}
use Rattle.cm_model.specs.Array.{nth_or_nil}
use Rattle.cm_model.specs.Each.{tabulate}
use Rattle.cm_model.proofs.Each.{is_each, length-tabulate, get_or-each_below}
use Rattle.cm_router_engine.proofs.Carrying.{all_at, room_for_one}
use Rattle.cm_router_engine.proofs.router_engine.RouterEngine.take_in.Goals as goal

pub returns : goal.returns
returns c =
    let old : List (List Message) = c.args.self.now.buffers in
    let coming : ℕ → List Message = λ k. option_to_list (get_or c.args.leavers.now k None) in
    let value : c.loop-chip.self.buffers ≡ tabulate 0 (length old) (λ k. nth_or_nil old k ++ coming k) =
    is_each [] _ _ _ c.loop-chip.invariant.long (λ k h. c.loop-chip.invariant.done k (omega arith)) in
    let space : (k : ℕ) → k < length old → length (nth_or_nil old k ++ coming k) ≤ c.args.sizes.room = λ k l.
    ⊎_elim (λ none. rw none (omega (
      arith,
      length-append (nth_or_nil old k) [],
      all_at (λ ms. length ms ≤ c.args.sizes.room) (omega arith) old k c.requires.within,
    )))
    (λ less. room_for_one c.args.sizes.room (nth_or_nil old k) (get_or c.args.leavers.now k None) less)
    (c.requires.space k l) in
    record {
      value = value;
      blank = All-from_get_or (λ (leaver : Option Message). leaver ≡ None) c.loop-chip.leavers None
          (λ k h. c.loop-chip.invariant.blank k (omega arith));
      within = rw value (All-from_get_or (λ (ms : List Message). length ms ≤ c.args.sizes.room)
          (tabulate 0 (length old) (λ k. nth_or_nil old k ++ coming k)) []
          (λ k h.
          let l : k < length old = omega (arith, h, length-tabulate 0 (length old) (λ k. nth_or_nil old k ++ coming k)) in
          rw (get_or-each_below (length old) (λ k. nth_or_nil old k ++ coming k) k [] l) (space k l)));
    }
