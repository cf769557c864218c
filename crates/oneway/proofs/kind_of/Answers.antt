use native.Mathlib.Omega.{arith}
use Rattle.oneway.specs.Types.{kind_control, kind_push, kind_encoder, kind_decoder, kind_other}
use Rattle.oneway.proofs.kind_of.Goals as goal

pub returns-in-0 : goal.returns-in-0
returns-in-0 c = kind_control _ c.args.seen c.in-0.is c.once.ensures

pub returns-in-1 : goal.returns-in-1
returns-in-1 c = kind_push _ c.args.seen c.in-1.is

pub returns-in-2 : goal.returns-in-2
returns-in-2 c = kind_encoder _ c.args.seen c.in-2.is c.once-in-2.ensures

pub returns-in-3 : goal.returns-in-3
returns-in-3 c = kind_decoder _ c.args.seen c.in-3.is c.once-in-3.ensures

pub returns-in_default : goal.returns-in_default
returns-in_default c = kind_other _ c.args.seen (λ e. omega arith) (λ e. omega arith) (λ e. omega arith) (λ e. omega arith)
