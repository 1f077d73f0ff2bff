-- The machine of the blocks that a team left.
use Rattle.std.proofs.Common.{◌≡◌, ◌↔◌, ℕ, ◌+◌, ◌*◌, ◌/◌, ◌%◌, ◌<◌, ◌≤◌, ◌^◌, List, [], ◌∷◌, ◌++◌, true, length, map}
use Rattle.std.proofs.Common.{get_or, Vec, ap, sym, subst, ◌∙◌, arith}
use Rattle.std.specs.declared.alloc.Global.{Global}
use Rattle.std.proofs.Math.Nat.{mod-lt}
use Rattle.std.proofs.lemmas.Nat.{div-add-mod'}
use Rattle.std.proofs.lemmas.List.{length-map, get_or-map}
use Rattle.cm_model.specs.declared.act.Act.{Act}
use Rattle.cm_model.specs.Machine.{Machine, run_of}
use Rattle.cm_model.specs.Account.{account, newly_injected, SameLines}
use Rattle.cm_model.specs.Keeping.{IsMachine}
use Rattle.cm_model.proofs.Accounting.{account_is_conserved}
use Rattle.cm_model.proofs.Each.{is_each}
use Rattle.cm_model.proofs.Runs.{run_of-nil}
use Rattle.cm_model.proofs.Keeping.{IsMachine-run_of}
use Rattle.cm_blocks.specs.Parts.{Part, block}
use Rattle.cm_blocks.specs.Rounds.{rounds}
use Rattle.cm_blocks.proofs.Rounding.{rounds_end_the_run}
use Rattle.cm_array.specs.Cuts.{joined, AreWhole}
use Rattle.cm_subcube.specs.Blocks.{BlockView}
use Rattle.cm_subcube.specs.Laws.{all_blocks}
use Rattle.cm_subcube.specs.Rounds.{round_of}
use Rattle.cm_subcube.proofs.Joining.{joined-blocks, AreWhole-blocks}
use Rattle.cm_gates.specs.Dealing.{hand, AreDealt, AreShares}
use Rattle.cm_gates.specs.Blocks.{AreAfter}
use Rattle.cm_turns.specs.declared.worker.Worker.{Worker}
use Rattle.cm_resident.specs.declared.running.PendingWorker.{PendingWorker}
use Rattle.cm_turns.specs.Lanes.{Run, before, rounds_in}
use Rattle.cm_turns.specs.Workers.{IsOfTeam, IsOfSome, HasWorked}
use Rattle.cm_resident.specs.Teams.{IsTeam, HaveWorked}
use Rattle.cm_resident.specs.Laws.{LeaveTheirMachine, TeamsLeaveTheirMachine}
use Rattle.cm_resident.specs.TeamSetups.{AreLinedUp}

-- ---- the blocks of all workers

-- what worker w of so many left: its share of the blocks, as they are after the run
pub record IsLeft (run : Run) (count w : ℕ) (blocks : List BlockView) : Type 0 where
  pub share : (q : ℕ) → (q < length blocks) ↔ (q * count + w < 2 ^ run.k)
  pub each : (q : ℕ) (d : BlockView) → q < length blocks
      → (get_or blocks q d).kept.part ≡ block run.n run.k (q * count + w) (before run (length (rounds_in run)))

left_by : (run : Run) (count w : ℕ) (worker : Worker) (blocks : List BlockView) → worker.id ≡ w
    → IsOfTeam run count worker → HasWorked worker blocks → IsLeft run count w blocks
left_by run count w worker blocks id_is of has =
    let done = has run count of in
    subst (λ (v : ℕ). IsLeft run count v blocks) id_is (record {
      share = λ q. subst (λ (m : ℕ). (q < m) ↔ (q * count + worker.id < 2 ^ run.k)) (sym done.len) (of.unused.share q);
      each = λ q d l. done.each q d (omega (arith, l, done.len));
    })

-- some thing of a list
pub first_of : {X : Type 0} (xs : List X) → 0 < length xs → X
first_of [] some = absurd (omega (arith, some))
first_of (x ∷ xs) some = x

-- ---- a team whose workers have left their shares

module _ (run : Run) (count : ℕ) (team : List Worker) (shares : List (Vec BlockView Global)) (some : 0 < count)
    (is : IsTeam run count team) (have : HaveWorked team shares) where
  many : length shares ≡ count
  many = have.len ∙ is.len

  left : (w : ℕ) (e : Vec BlockView Global) → w < count → IsLeft run count w (hand shares e w)
  left w e l =
      let there : w < length team = (let f = is.len in omega (arith, l, f)) in
      let d : Worker = first_of team (omega (arith, there)) in
      left_by run count w (get_or team w d) (hand shares e w) (is.ids w d l) (is.each w d l) (have.each w d e there)

  are_shares : AreShares (length shares) (2 ^ run.k) shares
  are_shares = subst (λ (m : ℕ). AreShares m (2 ^ run.k) shares) (sym many) (λ w q e l. (left w e l).share q)

  after_all : (blocks : List BlockView) → length blocks ≡ 2 ^ run.k → AreDealt (length shares) blocks shares
      → AreAfter run.n run.k run.room run.machine run.acts blocks
  after_all blocks full dealt = record {
    count = full;
    each = λ b x l.
        let q : ℕ = b / count in let w : ℕ = b % count in
        let whole : q * count + w ≡ b = div-add-mod' b count in
        let below : w < count = mod-lt b some in
        let e : Vec BlockView Global = first_of shares (omega (arith, some, many)) in
        let it = left w e below in
        let there : q * count + w < 2 ^ run.k = omega (arith, whole, l) in
        let inside : q < length (hand shares e w) = (it.share q).1 there in
        let as_dealt : AreDealt count blocks shares = subst (λ (m : ℕ). AreDealt m blocks shares) many dealt in
        let read : get_or (hand shares e w) q x ≡ get_or blocks (q * count + w) x =
        as_dealt.each w q e x below (omega (arith, there, full)) in
        ap (λ (v : ℕ). (get_or blocks v x).kept.part) (sym whole)
        ∙ ap (λ (one : BlockView). one.kept.part) (sym read)
        ∙ it.each q x inside
        ∙ ap (λ (v : ℕ). block run.n run.k v (before run (length (rounds_in run)))) whole
        ∙ ap (λ (r : ℕ). block run.n run.k b (before run r)) (length-map (rounds run.n run.k run.acts) round_of);
  }

-- ---- and their machine

-- some block
no_block : ℕ → ℕ → Machine → BlockView
no_block n k machine = record {
  k = k;
  kept = record { dims = n; room = 0; part = block n k 0 machine; log_rooms = []; gathered = true };
}

-- blocks after a run are those of the machine after it
after_are : (n cap k : ℕ) (machine : Machine) (acts : List Act) (blocks : List BlockView) (one : BlockView)
    → IsMachine n cap machine
    → AreAfter n k cap machine acts blocks
    → map (λ (b : BlockView). b.kept.part) blocks ≡ all_blocks n k (run_of n cap machine acts)
after_are n cap k machine acts blocks one is after =
    is_each (block n k 0 machine) (2 ^ k) (λ b. block n k b (run_of n cap machine acts))
    (map (λ (b : BlockView). b.kept.part) blocks)
    (length-map blocks (λ (b : BlockView). b.kept.part) ∙ after.count)
    (λ b l. let below : b < length blocks = omega (arith, l, after.count) in
    get_or-map (λ (z : BlockView). z.kept.part) blocks b one (block n k 0 machine) below ∙ after.each b one l
    ∙ ap (λ (m : Machine). block n k b m) (rounds_end_the_run n cap k machine acts is.buffer_count))

pub teams_leave_their_machine : TeamsLeaveTheirMachine
teams_leave_their_machine run count team shares some is_machine is have =
    let n = run.n in let cap = run.room in let k = run.k in let machine = run.machine in let acts = run.acts in
    let one : Worker = first_of team (let f = is.len in omega (arith, some, f)) in
    let within : k ≤ n = (let f = (is.each 0 one some).unused.within in omega (arith, f)) in
    let ended : IsMachine n cap (run_of n cap machine acts) = IsMachine-run_of n cap machine acts is_machine in
    record {
      are_shares = are_shares run count team shares some is have;
      machine = λ blocks full dealt.
          let are : map (λ (b : BlockView). b.kept.part) blocks ≡ all_blocks n k (run_of n cap machine acts) =
          after_are n cap k machine acts blocks (no_block n k machine) is_machine
          (after_all run count team shares some is have blocks full dealt) in record {
            whole = subst (λ (parts : List Part). AreWhole n cap parts) (sym are)
                (AreWhole-blocks n cap k (run_of n cap machine acts) within ended);
            same = ap joined are ∙ joined-blocks n cap k (run_of n cap machine acts) within ended;
          };
    }

-- what threads promise that were handed a team
pub have_worked : (team : List Worker) (readies : List PendingWorker) (shares : List (Vec BlockView Global))
    → length readies ≡ length team → length shares ≡ length readies
    → ((w : ℕ) (d : PendingWorker) (e : Worker) → w < length team → (get_or readies w d).worker ≡ get_or team w e)
    → ((w : ℕ) (d : PendingWorker) (e : Vec BlockView Global) → w < length readies
    → HasWorked (get_or readies w d).worker (get_or shares w e).items)
    → HaveWorked team shares
have_worked team readies shares ready_count share_count ready have = record {
  len = share_count ∙ ready_count;
  each = λ w d e l.
      let there : w < length readies = omega (arith, l, ready_count) in
      let r : PendingWorker = first_of readies (omega (arith, there)) in
      subst (λ (x : Worker). HasWorked x (hand shares e w)) (ready w r d l) (have w r e there);
}

-- a team that was lined up and has worked leaves its machine
pub lined_up_leave : (run : Run) (count : ℕ) (readies : List PendingWorker) (shares : List (Vec BlockView Global))
    → 0 < length readies → IsMachine run.n run.room run.machine → AreLinedUp run count readies
    → length shares ≡ length readies
    → ((w : ℕ) (d : PendingWorker) (e : Vec BlockView Global) → w < length readies
    → HasWorked (get_or readies w d).worker (get_or shares w e).items)
    → LeaveTheirMachine run shares
lined_up_leave run count readies shares some is_machine lined share_count have =
    let same_count : length readies ≡ count = lined.len ∙ lined.is.len in
    teams_leave_their_machine run count lined.team shares (omega (arith, some, same_count)) is_machine lined.is
    (have_worked lined.team readies shares lined.len share_count lined.each have)

-- who waits for a start word is of some team
pub lined_up_of_some : (run : Run) (count : ℕ) (readies : List PendingWorker) → AreLinedUp run count readies
    → (w : ℕ) (d : PendingWorker) → w < length readies → IsOfSome (get_or readies w d).worker
lined_up_of_some run count readies lined w d below =
    let there : w < length lined.team = (let f = lined.len in omega (arith, below, f)) in
    let e : Worker = first_of lined.team (omega (arith, there)) in
    let one : w < count = (let f = lined.is.len in omega (arith, there, f)) in
    subst (λ (x : Worker). IsOfSome x) (sym (lined.each w d e there))
    (record { run = run; count = count; of = lined.is.each w e one })

-- who waits for a start word has the number of its place
pub lined_up_id : (run : Run) (count w : ℕ) (readies : List PendingWorker) (d : PendingWorker) → AreLinedUp run count readies
    → w < count → (get_or readies w d).worker.id ≡ w
lined_up_id run count w readies d lined below =
    let there : w < length lined.team = (let f = lined.is.len in omega (arith, below, f)) in
    let e : Worker = first_of lined.team (omega (arith, there)) in
    ap (λ (x : Worker). x.id) (lined.each w d e there) ∙ lined.is.ids w e below

-- the account after a run
pub account_after : (n cap : ℕ) (before after : Machine) (acts : List Act) → after ≡ run_of n cap before acts
    → SameLines (account n after) (account n before ++ newly_injected n before after)
account_after n cap before after acts is =
    subst (λ (m : Machine). SameLines (account n m) (account n before ++ newly_injected n before m)) (sym is)
    (account_is_conserved n cap before acts)

-- nothing is run, and the machine stays
pub nothing_run : (n cap : ℕ) (machine : Machine) (acts : List Act) → IsMachine n cap machine → length acts ≡ 0
    → machine ≡ run_of n cap machine acts
nothing_run n cap machine [] is none = sym (run_of-nil n cap machine is.buffer_count)
nothing_run n cap machine (a ∷ acts) is none = absurd (omega (arith, none))
