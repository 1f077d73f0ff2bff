-- A machine cut into blocks for a run, and the machine that these are afterwards.
use Rattle.std.proofs.Common.{◌≡◌, ℕ, ◌+◌, ◌*◌, ◌<◌, ◌≤◌, ◌^◌, List, [], ◌∷◌, ◌++◌, true, length, map, get_or}
use Rattle.std.proofs.Common.{ap, sym, subst, ◌∙◌, arith}
use Rattle.std.specs.List.{All}
use Rattle.std.proofs.lemmas.List.{length-map, get_or-map}
use Rattle.std.proofs.lemmas.List.Elements.{All-get_or}
use Rattle.cm_model.specs.declared.act.Act.{Act}
use Rattle.cm_model.specs.Machine.{Machine, run_of}
use Rattle.cm_model.specs.Account.{account, newly_injected, SameLines}
use Rattle.cm_model.specs.Keeping.{IsMachine}
use Rattle.cm_model.proofs.Accounting.{account_is_conserved}
use Rattle.cm_model.proofs.Each.{length-tabulate, get_or-each_below, is_each}
use Rattle.cm_model.proofs.Runs.{run_of-nil}
use Rattle.cm_model.proofs.Keeping.{IsMachine-run_of}
use Rattle.cm_blocks.specs.Parts.{Part, block}
use Rattle.cm_blocks.proofs.Rounding.{rounds_end_the_run}
use Rattle.cm_array.specs.Acts.{cycles_in}
use Rattle.cm_router.specs.Logs.{HaveLogRoom}
use Rattle.cm_array.specs.Cuts.{joined, AreWhole}
use Rattle.cm_subcube.specs.Blocks.{BlockView, IsFresh}
use Rattle.cm_subcube.specs.Laws.{all_blocks}
use Rattle.cm_subcube.proofs.Joining.{clock-block, joined-blocks, AreWhole-blocks}
use Rattle.cm_workers.specs.declared.post.Post.{Post}
use Rattle.cm_workers.specs.Posts.{blank_post}
use Rattle.cm_gates.specs.Blocks.{AreAfter}
use Rattle.cm_workers.specs.Runs.{StandAt}

-- blocks that were just cut stand at the first turn of a run
pub stand_first : (n cap k cycles : ℕ) (machine : Machine) (acts : List Act)
    (blocks : List BlockView) (posts : List Post)
    → map (λ (b : BlockView). b.kept.part) blocks ≡ all_blocks n k machine
    → All (IsFresh n cap k (cycles * (4 + cap))) blocks
    → length posts ≡ length blocks → All (λ (post : Post). post ≡ blank_post n k) posts
    → cycles_in acts ≡ cycles → machine.clock + cycles < 2 ^ 63 → StandAt n k cap machine acts 0 blocks posts
stand_first n cap k cycles machine acts blocks posts cut fresh as_many blank counted late =
    let count : length blocks ≡ 2 ^ k =
    sym (length-map blocks (λ (b : BlockView). b.kept.part)) ∙ ap length cut
    ∙ length-tabulate 0 (2 ^ k) (λ b. block n k b machine) in
    record {
      block_count = count;
      post_count = as_many ∙ count;
      each = λ b x y l.
          let below : b < length blocks = omega (arith, l, count) in
          let one = All-get_or (IsFresh n cap k (cycles * (4 + cap))) blocks b x below fresh in
          let is : (get_or blocks b x).kept.part ≡ block n k b machine =
          sym (get_or-map (λ (z : BlockView). z.kept.part) blocks b x (block n k b machine) below)
          ∙ ap (λ (parts : List Part). get_or parts b (block n k b machine)) cut
          ∙ get_or-each_below (2 ^ k) (λ j. block n k j machine) b (block n k b machine) l in
          record {
            blocks = one.blocks;
            dims = one.dims;
            room_is = one.room;
            part = is;
            come = All-get_or (λ (post : Post). post ≡ blank_post n k) posts b y
                (omega (arith, l, count, as_many)) blank;
            space = tt;
            log_room = subst (λ (e : ℕ). HaveLogRoom (e * (4 + cap)) (get_or blocks b x).kept.log_rooms)
                (sym counted) one.log_room;
            clock = let at : (get_or blocks b x).kept.part.clock ≡ machine.clock = ap (λ (s : Part). s.clock) is
                ∙ clock-block n k b machine in
                omega (arith, at, counted, late);
          };
    }

-- some block
no_block : ℕ → ℕ → Machine → BlockView
no_block n k machine = record {
  k = k;
  kept = record { dims = n; room = 0; part = block n k 0 machine; log_rooms = []; gathered = true };
}

-- blocks after a run are those of the machine after it
pub after_are : (n cap k : ℕ) (machine : Machine) (acts : List Act) (blocks : List BlockView) (one : BlockView)
    → IsMachine n cap machine
    → AreAfter n k cap machine acts blocks
    → map (λ (b : BlockView). b.kept.part) blocks ≡ all_blocks n k (run_of n cap machine acts)
after_are n cap k machine acts blocks one is after =
    is_each (block n k 0 machine) (2 ^ k) (λ b. block n k b (run_of n cap machine acts))
    (map (λ (b : BlockView). b.kept.part) blocks)
    (length-map blocks (λ (b : BlockView). b.kept.part) ∙ after.count)
    (λ b l. let below : b < length blocks = omega (arith, l, after.count) in
    get_or-map (λ (z : BlockView). z.kept.part) blocks b one (block n k 0 machine) below ∙ after.each b one l
    ∙ ap (λ (m : Machine). block n k b m) (rounds_end_the_run n cap k machine acts is.buffer_count))

pub parts_after : (n cap dims k : ℕ) (machine : Machine) (acts : List Act) (blocks : List BlockView) → dims ≡ n
    → IsMachine n cap machine
    → AreAfter dims k cap machine acts blocks
    → map (λ (b : BlockView). b.kept.part) blocks ≡ all_blocks n k (run_of n cap machine acts)
parts_after n cap dims k machine acts blocks same is after =
    after_are n cap k machine acts blocks (no_block n k machine) is
    (subst (λ (d : ℕ). AreAfter d k cap machine acts blocks) same after)

-- they are a whole machine
pub whole_after : (n cap k : ℕ) (machine : Machine) (acts : List Act) (parts : List Part) → k ≤ n
    → IsMachine n cap machine
    → parts ≡ all_blocks n k (run_of n cap machine acts) → AreWhole n cap parts
whole_after n cap k machine acts parts within is are =
    subst (λ (s : List Part). AreWhole n cap s) (sym are)
    (AreWhole-blocks n cap k (run_of n cap machine acts) within (IsMachine-run_of n cap machine acts is))

-- and that machine
pub joined_after : (n cap k : ℕ) (machine : Machine) (acts : List Act) (parts : List Part) → k ≤ n
    → IsMachine n cap machine
    → parts ≡ all_blocks n k (run_of n cap machine acts) → joined parts ≡ run_of n cap machine acts
joined_after n cap k machine acts parts within is are =
    ap joined are ∙ joined-blocks n cap k (run_of n cap machine acts) within (IsMachine-run_of n cap machine acts is)

-- the account after a run
pub account_after : (n cap : ℕ) (before after : Machine) (acts : List Act) → after ≡ run_of n cap before acts
    → SameLines (account n after) (account n before ++ newly_injected n before after)
account_after n cap before after acts is =
    subst (λ (m : Machine). SameLines (account n m) (account n before ++ newly_injected n before m)) (sym is)
    (account_is_conserved n cap before acts)

-- nothing is run, and the machine stays
pub nothing_run : (n cap : ℕ) (machine : Machine) (acts : List Act) → IsMachine n cap machine → length acts ≡ 0
    → machine ≡ run_of n cap machine acts
nothing_run n cap machine [] is none = sym (run_of-nil n cap machine is.buffer_count)
nothing_run n cap machine (a ∷ acts) is none = absurd (omega (arith, none))
