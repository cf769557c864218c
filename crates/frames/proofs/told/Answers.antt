use native.Mathlib.Omega.{arith}
use Rattle.frames.specs.Handed.{told_content, told_header, told_trailers, told_kept}
use Rattle.frames.proofs.told.Goals as goal

pub returns-in-3 : goal.returns-in-3
returns-in-3 c = told_content c.args.mode c.in-3.is

pub returns-in-4 : goal.returns-in-4
returns-in-4 c = told_header c.args.mode c.in-4.is

pub returns-in-5 : goal.returns-in-5
returns-in-5 c = told_trailers c.args.mode c.in-5.is

pub returns-in_default : goal.returns-in_default
returns-in_default c = told_kept c.args.mode c.requires (λ e. omega arith) (λ e. omega arith) (λ e. omega arith)
