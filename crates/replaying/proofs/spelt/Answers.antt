-- `replaying::spelt` meets its contract: the invariant is the text of the bytes so far, in the digits' own array. Assumes nothing.
use Rattle.std.proofs.Common.{ℕ, ◌≡◌, ◌+◌, ◌*◌, length, ◌∙◌, sym, arith}
use Rattle.std.proofs.lemmas.List.{length-replicate}
use Rattle.std.proofs.lemmas.Bool.{eqb-true, eqb-false}
use Rattle.script.specs.Words.{hexes}
use Rattle.replaying.specs.Puts.{more, puts_none, puts_word, puts_dash, puts_bytes, next_hex, two_digits, put_first}
use Rattle.replaying.proofs.spelt.Goals as goal

pub returns-then-is_empty : goal.returns-then-is_empty
returns-then-is_empty c = puts_dash c.args.bytes.now (eqb-true _ _ (sym c.is_empty.ensures ∙ c.if-is_empty.true)) (more (puts_word c.put.ensures) (omega arith))

pub loop-i-init : goal.loop-i-init
unfolding hexes
loop-i-init c = puts_none _ _ (omega arith)

pub loop-i-preserved : goal.loop-i-preserved
loop-i-preserved c =
    let l = c.loop-i in
    let n : 2 * (l.i + 1) ≡ 2 * l.i + 2 = omega arith in
    rw n (next_hex c.args.bytes.now l.i c.loop-i-test.true l.invariant (two_digits _ _ _ (omega arith) c.hex.ensures c.hex-in-loop-i.ensures))

pub returns : goal.returns
returns c =
    let l = c.loop-i in
    let n : length c.args.bytes.now ≡ l.i = omega arith in
    let w = put_first l.invariant (rw (length-replicate {A = ℕ} 128 0) (omega arith)) in
    let f = l.invariant.few in
    more (puts_bytes c.args.bytes.now l.i c.loop-i-test.false (eqb-false _ _ (sym c.is_empty.ensures ∙ c.if-is_empty.false)) (puts_word (rw (n, w) at c.put-2.ensures))) (omega arith)
