-- `script::Verb::of` meets its contract: a verb for each letter. Assumes nothing.
use mathlib.Core.Path.{refl}
use native.Mathlib.Omega.{arith}
use borrow.Author.Tests.{ne_eqb}
use Rattle.script.specs.Words.{verb_of}
use Rattle.script.proofs.Verb.of.Goals as goal

pub returns-in-83 : goal.returns-in-83
unfolding verb_of
returns-in-83 c = rw c.in-83.is refl

pub returns-in-79 : goal.returns-in-79
unfolding verb_of
returns-in-79 c = rw c.in-79.is refl

pub returns-in-70 : goal.returns-in-70
unfolding verb_of
returns-in-70 c = rw c.in-70.is refl

pub returns-in-72 : goal.returns-in-72
unfolding verb_of
returns-in-72 c = rw c.in-72.is refl

pub returns-in-69 : goal.returns-in-69
unfolding verb_of
returns-in-69 c = rw c.in-69.is refl

pub returns-in-82 : goal.returns-in-82
unfolding verb_of
returns-in-82 c = rw c.in-82.is refl

pub returns-in-68 : goal.returns-in-68
unfolding verb_of
returns-in-68 c = rw c.in-68.is refl

pub returns-in-86 : goal.returns-in-86
unfolding verb_of
returns-in-86 c = rw c.in-86.is refl

pub returns-in-71 : goal.returns-in-71
unfolding verb_of
returns-in-71 c = rw c.in-71.is refl

pub returns-in-87 : goal.returns-in-87
unfolding verb_of
returns-in-87 c = rw c.in-87.is refl

pub returns-in-73 : goal.returns-in-73
unfolding verb_of
returns-in-73 c = rw c.in-73.is refl

pub returns-in-78 : goal.returns-in-78
unfolding verb_of
returns-in-78 c = rw c.in-78.is refl

pub returns-in-67 : goal.returns-in-67
unfolding verb_of
returns-in-67 c = rw c.in-67.is refl

pub returns-in_default : goal.returns-in_default
unfolding verb_of
returns-in_default c = let l = c.args.letter in simp (ne_eqb l 83 (λ e. omega arith), ne_eqb l 79 (λ e. omega arith), ne_eqb l 70 (λ e. omega arith), ne_eqb l 72 (λ e. omega arith), ne_eqb l 69 (λ e. omega arith), ne_eqb l 82 (λ e. omega arith), ne_eqb l 68 (λ e. omega arith), ne_eqb l 86 (λ e. omega arith), ne_eqb l 71 (λ e. omega arith), ne_eqb l 87 (λ e. omega arith), ne_eqb l 73 (λ e. omega arith), ne_eqb l 78 (λ e. omega arith), ne_eqb l 67 (λ e. omega arith)) refl
