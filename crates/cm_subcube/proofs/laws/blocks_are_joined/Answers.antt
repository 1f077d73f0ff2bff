use Rattle.cm_subcube.proofs.Joining.{joined-blocks, AreWhole-blocks}
use Rattle.cm_subcube.proofs.laws.blocks_are_joined.Goals as goal

pub returns : goal.returns
returns c = λ n cap k machine within is. record {
  whole = AreWhole-blocks n cap k machine within is;
  same = joined-blocks n cap k machine within is;
}
