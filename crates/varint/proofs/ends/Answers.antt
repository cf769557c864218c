-- No byte, one byte, cut, whole. Assumes nothing.
use mathlib.Core.Path.{◌≡◌}
use Rattle.std.proofs.Common.{rules}
use Rattle.std.specs.Prelude.{length, get_or, ◌<◌, ◌≤◌}
use Rattle.varint.specs.Whole.{ends_none, ends_one, ends_short, ends_whole}
use Rattle.varint.proofs.ends.Goals as goal

pub returns-in_err-get : goal.returns-in_err-get
returns-in_err-get c = let h : length c.args.s.now ≤ c.args.at = search rules in rw c.from_residual.ensures (ends_none c.args.s.now c.args.at h)

pub returns-then-x-lt64 : goal.returns-then-x-lt64
returns-then-x-lt64 c =
    let h : c.args.at < length c.args.s.now = search rules in
    let x : c.from-x.result ≡ get_or c.args.s.now c.args.at 0 = search rules in
    ends_one c.args.s.now c.args.at _ x c.if-x-lt64.true h

pub returns-then-s-at : goal.returns-then-s-at
returns-then-s-at c =
    let h : c.args.at < length c.args.s.now = search rules in
    let x : c.from-x.result ≡ get_or c.args.s.now c.args.at 0 = search rules in
    ends_short c.args.s.now c.args.at _ _ x c.follow-m.ensures h c.if-s-at.true

pub returns-else-s-at : goal.returns-else-s-at
returns-else-s-at c =
    let h : c.args.at < length c.args.s.now = search rules in
    let x : c.from-x.result ≡ get_or c.args.s.now c.args.at 0 = search rules in
    ends_whole c.args.s.now c.args.at _ _ x c.follow-m.ensures h c.if-s-at.false
