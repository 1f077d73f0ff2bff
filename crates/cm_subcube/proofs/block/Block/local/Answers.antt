use Rattle.std.proofs.Common.{ap}
use Rattle.std.specs.Option.{option_copied}
use Rattle.cm_subcube.proofs.block.Block.local.Goals as goal

pub go_behind-requires-clause-following : goal.go_behind-requires-clause-following
go_behind-requires-clause-following c = c.requires.following c.in-Some.round.now (ap option_copied c.in-Some.is)
