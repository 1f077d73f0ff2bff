use Rattle.std.proofs.Common.{◌≡◌, take}
use Rattle.cm_plain.proofs.router.PlainRouter.copied_buffers.Given as goal

abbrev pub invariant-loop-buffer : goal.invariant-loop-buffer
invariant-loop-buffer g l = l.buffers.items ≡ take l.buffer-index l.buffer-items
