use native.Mathlib.Omega.{arith}
use mathlib.Core.Path.{◌≡◌, ap}
use Rattle.std.proofs.lemmas.Grind.{common_steps}
use Rattle.rules.specs.Numbers.{code_number}
use Rattle.rules.specs.Named.{code_of}
use Rattle.frames.specs.Modes.{USE-SKIPPED, USE-CONTENT}
use Rattle.frames.specs.Wants.{use_in, wanted_in}
use Rattle.frames.specs.Stopped.{stop_fault, stop_out, stop_skip, stop_content, stop_handed}
use Rattle.frames.specs.Begun.{stop_cut, numbers_more}
use Rattle.frames.proofs.stopped.Goals as goal

pub cut_header-requires : goal.cut_header-requires
cut_header-requires c = let a = c in (a.requires.0, (a.requires.2.sums, a.requires.2.stateds), a.requires.3.short (ap wanted_in c.in-None.is) (omega (arith, c.if-h-eq0.false)))

pub returns-then-h-eq0 : goal.returns-then-h-eq0
returns-then-h-eq0 c = let a = c in rw c.quiet.ensures (stop_out a.args.c a.args.s.now a.args.h.at a.args.heads a.args.h.left a.args.h.rest a.requires.0 (a.requires.2.sums, a.requires.2.stateds) a.requires.2 _ (ap wanted_in c.in-None.is) c.if-h-eq0.true c.in_mode.ensures)

pub returns-else-h-eq0 : goal.returns-else-h-eq0
returns-else-h-eq0 c = let a = c in stop_cut a.args.c a.args.s.now a.args.h.at a.args.heads _ a.args.h.left a.args.h.rest (ap wanted_in c.in-None.is) c.if-h-eq0.false c.cut_header.ensures

pub more_sum-requires : goal.more_sum-requires
more_sum-requires c = omega (arith, (c.requires.3.lawful.adds (grind (arith, common_steps))).1)

pub handed-requires : goal.handed-requires
handed-requires c = let a = c in let e : wanted_in a.args.h.wanted ≡ USE-CONTENT = grind (arith, common_steps) in
    (a.requires.0, a.requires.1, numbers_more _ _ _ c.more_sum.ensures (omega (arith, (a.requires.3.lawful.adds e).1)) a.requires.2.stateds, (omega arith, omega arith, λ e. omega arith, λ e. omega arith), λ x. a.requires.3.some e)

pub overflow_sub-h : goal.overflow_sub-h
overflow_sub-h c = let e : wanted_in c.args.h.wanted ≡ USE-SKIPPED = grind (arith, common_steps) in omega (arith, c.requires.3.skips e)

pub returns-in-Some-Err : goal.returns-in-Some-Err
returns-in-Some-Err c = let a = c in let e : wanted_in a.args.h.wanted ≡ code_number (code_of c.in-Some-Err.code) = grind (arith, common_steps) in
    rw (c.quiet-in-Some-Err.ensures, e) (stop_fault a.args.c a.args.s.now a.args.h.at a.args.heads a.args.h.left a.args.h.rest a.requires.0 (a.requires.2.sums, a.requires.2.stateds) a.requires.2 c.in-Some-Err.code)

pub returns-in-Some-Ok-Content : goal.returns-in-Some-Ok-Content
returns-in-Some-Ok-Content c = let a = c in let e : wanted_in a.args.h.wanted ≡ USE-CONTENT = grind (arith, common_steps) in
    stop_content a.args.c a.args.s.now a.args.h.at a.args.heads a.args.h.left a.args.h.rest a.requires.0 (a.requires.2.sums, a.requires.2.stateds) a.requires.2 _ _ e (a.requires.3.some e) (a.requires.3.lawful.adds e).0 c.more_sum.ensures c.handed.ensures.0

pub returns-in-Some-Ok-Skipped : goal.returns-in-Some-Ok-Skipped
returns-in-Some-Ok-Skipped c = let a = c in let e : wanted_in a.args.h.wanted ≡ USE-SKIPPED = grind (arith, common_steps) in
    rw c.quiet-in-Some-Ok-Skipped.ensures (stop_skip a.args.c a.args.s.now a.args.h.at a.args.heads a.args.h.left a.args.h.rest a.requires.0 (a.requires.2.sums, a.requires.2.stateds) a.requires.2 _ e (a.requires.3.skips e) a.requires.1 c.in_mode-in-Some-Ok-Skipped.ensures)

pub returns-in-Some-Ok : goal.returns-in-Some-Ok
returns-in-Some-Ok c = let a = c in let e : wanted_in a.args.h.wanted ≡ use_in c.in-Some-Ok.wanted = grind (arith, common_steps) in
    rw e (stop_handed a.args.c a.args.s.now a.args.h.at a.args.heads a.args.h.left a.args.h.rest a.requires.0 (a.requires.2.sums, a.requires.2.stateds) a.requires.2 c.in-Some-Ok.wanted (λ z. grind (arith, common_steps)) (λ z. grind (arith, common_steps)) (rw c.mode.ensures at c.handed-in-Some-Ok.ensures.0))
