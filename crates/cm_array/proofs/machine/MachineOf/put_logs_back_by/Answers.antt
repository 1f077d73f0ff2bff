use Rattle.std.proofs.Common.{◌≡◌, ◌^◌, ◌++◌, ℕ, List, length, ap, sym, subst, ◌∙◌, refl}
use Rattle.std.proofs.lemmas.List.{length-map}
use Rattle.std.specs.Global.{Vec}
use Rattle.cm_model.specs.Array.{nth_or_nil}
use Rattle.cm_model.specs.Each.{tabulate}
use Rattle.cm_array.specs.declared.chip_state.ChipState.{ChipState}
use Rattle.cm_router.specs.Logs.{Log, log_rooms_of}
use Rattle.cm_router.specs.Routes.{routing_of}
use Rattle.cm_petit.specs.Routers.{events_of}
use Rattle.cm_array.specs.SavedLogs.{Aside, logs_appended, TakeIn}
use Rattle.cm_array.specs.Parts.{MachineView, machine_of}
use Rattle.cm_array.proofs.Behind.{logs_behind, row_behind, take_in_dealt}
use Rattle.cm_array.proofs.Lists.{items-lent}
use Rattle.cm_array.proofs.Machines.{length-events, length-logs, AreUnderWay-parts}
use Rattle.cm_array.proofs.Putting.{AreParts-put}
use Rattle.cm_array.proofs.machine.MachineOf.put_logs_back_by.Goals as goal
use Rattle.cm_array.proofs.machine.MachineOf.put_logs_back_by.Given.{Over}
use Rattle.cm_array.proofs.machine.MachineOf.put_logs_back_by.Goals.{After-deref}

long_earlier : (g : Over) (c : After-deref g) → length c.earlier.inside.logs.items ≡ 2 ^ g.S.Sizes.n
long_earlier g c =
    let earlier = c.earlier.inside.logs in
    sym (length-map earlier.items (λ (log : Log). log.items))
    ∙ ap (λ (aside : Aside). length aside.logs) c.earlier.view_is ∙ c.requires.count

pub append_logs-requires-clause-count : goal.append_logs-requires-clause-count
append_logs-requires-clause-count g c =
    let parts = c.self.inside.state in
    ap length c.deref.ensures.value
    ∙ length-logs g.S.Sizes.n g.S.Sizes.cap parts (AreUnderWay-parts g.S.Sizes.n g.S.Sizes.cap parts c.self.invariant)
    ∙ sym (long_earlier g c) ∙ ap length (sym c.deref_mut.ensures.value)

pub append_logs-requires-clause-room : goal.append_logs-requires-clause-room
append_logs-requires-clause-room g c =
    let parts = c.self.inside.state in
    let earlier = c.earlier.inside.logs.items in
    let all : TakeIn (log_rooms_of earlier) (machine_of parts).logs =
    subst (λ (aside : Aside). TakeIn aside.log_rooms (machine_of parts).logs) (sym c.earlier.view_is)
    (subst (λ (kept : MachineView). TakeIn c.args.earlier.log_rooms kept.machine.logs) (sym c.self.view_is) c.requires.room) in
    subst (λ (logs : List Log). TakeIn (log_rooms_of logs) (events_of c.deref.result.now)) (sym c.deref_mut.ensures.value)
    (subst (λ (logs : List Log). TakeIn (log_rooms_of earlier) (events_of logs)) (sym c.deref.ensures.value)
    (take_in_dealt (log_rooms_of earlier) (events_of parts.logs.items) parts.row.items all))

put_back : (n : ℕ) (parts : ChipState) (now : Vec Log) (earlier : List Log) (aside : Aside) (kept : MachineView)
    → events_of earlier ≡ aside.logs → machine_of parts ≡ kept.machine → length (events_of parts.logs.items) ≡ 2 ^ n
    → events_of now.items
    ≡ tabulate 0 (2 ^ n) (λ c. nth_or_nil (events_of earlier) c ++ nth_or_nil (events_of parts.logs.items) c)
    → machine_of (record parts { logs = now }) ≡ logs_appended n aside.logs kept.machine
put_back n parts now earlier aside kept same_logs same long is =
    let told = row_behind n (events_of earlier) (events_of parts.logs.items) (events_of now.items) parts.row.items long is
    in
    (λ i. record {
      chips = parts.run;
      buffers = parts.crossing.buffers;
      logs = told i;
      clock = parts.clock;
      routing = routing_of parts.routing;
    }) ∙ (λ i. logs_appended n (same_logs i) (same i))

pub invariant_of-self : goal.invariant_of-self
invariant_of-self g c =
    let parts = c.self.inside.state in
    let earlier = c.earlier.inside.logs in
    let before = ap (λ (aside : Aside). aside.logs) c.earlier.view_is in
    let under = AreUnderWay-parts g.S.Sizes.n g.S.Sizes.cap parts c.self.invariant in
    let lent = items-lent earlier c.append_logs.new.logs (c.append_logs.auto.logs ∙ ap length c.deref_mut.ensures.value) in
    let long = sym (length-map earlier.items (λ (log : Log). log.items)) ∙ ap length before ∙ c.requires.count in
    let logs = ap (λ v. events_of v.items) c.replace-told.ensures.after ∙ ap events_of lent
    ∙ logs_behind g.S.Sizes.n earlier.items parts.logs.items c.append_logs.new.logs c.deref_mut.result.now
    c.deref.result.now long c.deref_mut.ensures.value c.deref.ensures.value c.append_logs.ensures.value in
    AreParts-put g.S.Sizes.n g.S.Sizes.cap parts _ (logs_appended g.S.Sizes.n c.args.earlier.logs c.args.self.now.machine) c.self.invariant
    c.requires.whole
    (put_back g.S.Sizes.n parts c.replace-told.new.dest earlier.items c.args.earlier c.args.self.now before
    (ap (λ (kept : MachineView). kept.machine) c.self.view_is) (length-events g.S.Sizes.n g.S.Sizes.cap parts under) logs)
    c.self.invariant.gathered refl refl refl c.self.invariant.sized.clock refl

pub returns : goal.returns
returns g c =
    let parts = c.self.inside.state in
    let earlier = c.earlier.inside.logs in
    let before = ap (λ (aside : Aside). aside.logs) c.earlier.view_is in
    let under = AreUnderWay-parts g.S.Sizes.n g.S.Sizes.cap parts c.self.invariant in
    let lent = items-lent earlier c.append_logs.new.logs (c.append_logs.auto.logs ∙ ap length c.deref_mut.ensures.value) in
    let long = sym (length-map earlier.items (λ (log : Log). log.items)) ∙ ap length before ∙ c.requires.count in
    let logs = ap (λ v. events_of v.items) c.replace-told.ensures.after ∙ ap events_of lent
    ∙ logs_behind g.S.Sizes.n earlier.items parts.logs.items c.append_logs.new.logs c.deref_mut.result.now
    c.deref.result.now long c.deref_mut.ensures.value c.deref.ensures.value c.append_logs.ensures.value in
    record {
      value = put_back g.S.Sizes.n parts c.replace-told.new.dest earlier.items c.args.earlier c.args.self.now before
          (ap (λ (kept : MachineView). kept.machine) c.self.view_is) (length-events g.S.Sizes.n g.S.Sizes.cap parts under) logs;
    }
