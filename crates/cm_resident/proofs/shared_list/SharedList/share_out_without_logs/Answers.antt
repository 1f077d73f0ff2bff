use Rattle.std.proofs.Common.{rules, ◌+◌, ◌*◌, ℕ, length, ap, subst, ◌∙◌}
use Rattle.cm_router.specs.Logs.{HaveLogRoom}
use Rattle.cm_resident.proofs.LogsAside.{whole_again, room_again, ran_again, account_again, none_again}
use Rattle.cm_resident.proofs.shared_list.SharedList.share_out_without_logs.Goals as goal

pub put_logs_back_by-requires : goal.put_logs_back_by-requires
put_logs_back_by-requires g c =
    let whole = whole_again g.S.Sizes.n g.S.Sizes.cap c.args.machine.now.machine c.set_logs_aside.new.self.machine
    c.share_out-done.new.machine.machine c.in_ok-earlier.earlier.logs c.args.self.now.acts.now c.clock-clock.ensures.whole
    c.in_ok-earlier.ensures.ok c.in_ok-earlier.ensures.logs c.share_out-done.result c.share_out-done.ensures.ok
    c.share_out-done.ensures.err in
    let count = ap (λ xs. length xs) c.in_ok-earlier.ensures.logs ∙ c.clock-clock.ensures.whole.log_count in
    let room = room_again g.S.Sizes.n g.S.Sizes.cap c.args.machine.now.machine c.set_logs_aside.new.self.machine
    c.share_out-done.new.machine.machine c.in_ok-earlier.earlier.logs c.args.self.now.acts.now c.clock-clock.ensures.whole
    c.in_ok-earlier.ensures.ok c.in_ok-earlier.ensures.logs c.share_out-done.result
    c.in_ok-earlier.earlier.log_rooms c.share_out-done.ensures.ok c.share_out-done.ensures.err
    (subst (λ (k : ℕ). HaveLogRoom (k * (4 + g.S.Sizes.cap)) c.in_ok-earlier.earlier.log_rooms) c.requires.list.cycles
    c.in_ok-earlier.ensures.log_room) in
    search (rules, whole, count, room)

pub returns-clause-ok : goal.returns-clause-ok
returns-clause-ok g c =
    ran_again g.S.Sizes.n g.S.Sizes.cap c.args.machine.now.machine c.set_logs_aside.new.self.machine
    c.share_out-done.new.machine.machine c.in_ok-earlier.earlier.logs c.args.self.now.acts.now c.clock-clock.ensures.whole
    c.in_ok-earlier.ensures.ok c.in_ok-earlier.ensures.logs c.share_out-done.result c.put_logs_back_by.new.self.machine
    c.put_logs_back_by.ensures.value c.share_out-done.ensures.ok

pub returns-clause-account : goal.returns-clause-account
returns-clause-account g c =
    account_again g.S.Sizes.n g.S.Sizes.cap c.args.machine.now.machine c.set_logs_aside.new.self.machine
    c.share_out-done.new.machine.machine c.in_ok-earlier.earlier.logs c.args.self.now.acts.now c.clock-clock.ensures.whole
    c.in_ok-earlier.ensures.ok c.in_ok-earlier.ensures.logs c.share_out-done.result c.put_logs_back_by.new.self.machine
    c.put_logs_back_by.ensures.value c.share_out-done.ensures.ok

pub returns-clause-err : goal.returns-clause-err
returns-clause-err g c =
    none_again g.S.Sizes.n g.S.Sizes.cap c.args.machine.now.machine c.set_logs_aside.new.self.machine
    c.share_out-done.new.machine.machine c.in_ok-earlier.earlier.logs c.args.self.now.acts.now c.clock-clock.ensures.whole
    c.in_ok-earlier.ensures.ok c.in_ok-earlier.ensures.logs c.share_out-done.result c.put_logs_back_by.new.self.machine
    c.put_logs_back_by.ensures.value c.share_out-done.ensures.err
