use native.Mathlib.Omega.{arith}
use Rattle.oneway.specs.Fed.{sound_type, sound_control, sound_bare, fed_control, fed_bare}
use Rattle.oneway.proofs.feed.Goals as goal

pub typed-requires : goal.typed-requires
typed-requires c = let w = c.args.w in sound_type w.kind w.cells c.requires c.in-2.is

pub control-requires : goal.control-requires
control-requires c = let w = c.args.w in let q = sound_control w.kind w.cells c.requires c.in-3.is in (omega arith, q.0, q.1, c.requires)

pub bare-requires : goal.bare-requires
bare-requires c = let w = c.args.w in (omega arith, sound_bare w.kind w.cells c.requires (λ e. omega arith) (λ e. omega arith))

pub returns-in-3 : goal.returns-in-3
returns-in-3 c = let a = c.args in fed_control a.w a.seen a.s.now a.allow c.in-3.is c.control.ensures

pub returns-in_default : goal.returns-in_default
returns-in_default c = let a = c.args in fed_bare a.w a.seen a.s.now a.allow (sound_bare a.w.kind a.w.cells c.requires (λ e. omega arith) (λ e. omega arith)) c.bare.ensures
