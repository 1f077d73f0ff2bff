use Rattle.std.proofs.Common.{◌≡◌, ◌*◌, ◌%◌, ◌^◌, ℕ, subst, sym, arith, vec_capacity}
use Rattle.std.proofs.lemmas.Nat.{one_shl}
use Rattle.cm_resident.specs.Gathering.{HaveRoom}
use Rattle.cm_resident.proofs.shared_list.SharedList.prepare.Goals as goal

pub returns-clause-team : goal.returns-clause-team
returns-clause-team g c =
    let team = c.in_ok-team in let all = c.in_ok-all in record {
      team = team.team.items;
      is = record { len = team.ensures.count; ids = team.ensures.ids; each = team.ensures.value };
      len = all.ensures.count;
      each = all.ensures.value;
    }

pub returns-clause-room : goal.returns-clause-room
returns-clause-room g c =
    let all = c.in_ok-all in
    subst (λ (m : ℕ). HaveRoom m (vec_capacity all.all.handles) (vec_capacity all.all.left) (vec_capacity all.all.shares))
    (sym all.ensures.count) all.ensures.room

pub returns-clause-place_room : goal.returns-clause-place_room
returns-clause-place_room g c =
    let total : 1 * 2 ^ c.args.self.now.k % 2 ^ 64 ≡ 2 ^ c.args.self.now.k =
    one_shl c.args.self.now.k 64 (omega (arith, c.requires.list.within, c.clock-clock.ensures.sizes.dimension)) in
    omega (arith, total, c.in_ok-places.ensures.room)
