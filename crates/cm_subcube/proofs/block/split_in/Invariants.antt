use Rattle.std.proofs.Common.{◌≡◌, ◌+◌, ◌*◌, ◌≤◌, map}
use Rattle.std.specs.Prelude.{vec_len, vec_capacity}
use Rattle.std.specs.List.{All}
use Rattle.cm_model.specs.Each.{tabulate}
use Rattle.cm_blocks.specs.Parts.{block}
use Rattle.cm_subcube.specs.Blocks.{IsFresh}
use Rattle.cm_subcube.proofs.block.split_in.Given as goal

abbrev pub invariant-loop-b : goal.invariant-loop-b
invariant-loop-b g l = record {
  parts : map (λ b. b.kept.part) l.blocks.items ≡ tabulate 0 l.b (λ b. block g.S.Sizes.n l.k b l.machine.machine);
  fresh : All (IsFresh g.S.Sizes.n g.S.Sizes.cap l.k (l.cycles * (4 + g.S.Sizes.cap))) l.blocks.items;
  len : vec_len l.blocks ≡ l.b;
  room : l.count ≤ vec_capacity l.blocks;
}
