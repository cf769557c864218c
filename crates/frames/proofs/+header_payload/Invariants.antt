-- What falls: the bytes of the piece that are left, and the allowance. Assumes nothing.
use Rattle.std.proofs.Common.{◌+◌, ◌-◌, ◌*◌, length}
use Rattle.frames.proofs.+header_payload.Given as goal

abbrev pub decreases-header : goal.decreases-header
decreases-header l = (length l.s.now - l.at) + 2 * l.allow

abbrev pub decreases-payload : goal.decreases-payload
decreases-payload l = (length l.s.now - l.at) + 2 * l.allow + 1
