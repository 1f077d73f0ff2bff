use Rattle.std.proofs.Common.{◌≡◌, ℕ, ◌≤◌, ◌^◌, List, [], length, subst, sym, arith}
use Rattle.std.specs.List.{All}
use Rattle.std.proofs.lemmas.List.Elements.{All-from_get_or}
use Rattle.cm_model.specs.declared.message.Message.{Message}
use Rattle.cm_model.specs.Machine.{Machine}
use Rattle.cm_model.specs.Keeping.{HasRoom}
use Rattle.lab_machine.proofs.machine.LabMachine.own.Goals as goal

-- the messages of a machine fit into the room of its routers
fit : (n cap : ℕ) (machine : Machine) (buffers : List (List Message)) → buffers ≡ machine.buffers
    → length machine.buffers ≡ 2 ^ n → HasRoom n cap machine → All (λ (ms : List Message). length ms ≤ cap) buffers
fit n cap machine buffers are count room =
    subst (λ (bs : List (List Message)). All (λ (ms : List Message). length ms ≤ cap) bs) (sym are)
    (All-from_get_or (λ (ms : List Message). length ms ≤ cap) machine.buffers []
    (λ k l. room k (omega (arith, l, count))))

pub around-requires : goal.around-requires
around-requires g c =
    let are = c.in_ok-engine.ensures.value in
    let whole = c.clock-clock.ensures.whole in
    let sizes = c.clock-clock.ensures.sizes in
    let room = c.room.ensures.value in
    let within = fit g.S.Sizes.n g.S.Sizes.cap c.args.machine.now.machine c.in_ok-engine.engine.buffers are whole.buffer_count whole.room in
    record {
      some = omega (arith, room, sizes.some_room);
      most = omega (arith, room, sizes.most_room);
      messages = are;
      gathered = c.in_ok-engine.ensures.gathered;
      within = subst (λ (cap : ℕ). All (λ (ms : List Message). length ms ≤ cap) c.in_ok-engine.engine.buffers) (sym room) within;
    }
