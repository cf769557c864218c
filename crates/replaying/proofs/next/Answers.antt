-- `replaying::next` meets its contract: a line leads on, or is the last. Assumes nothing.
use Rattle.std.proofs.Common.{refl, arith}
use Rattle.rules.specs.Text.{ascii}
use Rattle.replaying.specs.Lines.{long_line, bad_line}
use Rattle.replaying.specs.Plays.{too_long, bad, plays, told}
use Rattle.replaying.specs.Runs.{stops, leads_to}
use Rattle.replaying.proofs.next.Goals as goal

pub returns-then-script-gt-LIMIT : goal.returns-then-script-gt-LIMIT
unfolding ascii
returns-then-script-gt-LIMIT c = stops refl refl (record { text = long_line; tells = too_long c.if-script-gt-LIMIT.true refl refl; put = rw (c.clear.ensures.0, c.clear.ensures.1) at c.put.ensures })

pub returns-in_default : goal.returns-in_default
unfolding ascii
returns-in_default c = stops refl c.line_at.ensures.same (record { text = bad_line; tells = bad (rw c.in_default.is at c.line_at.ensures) refl refl; put = rw (c.clear.ensures.0, c.clear.ensures.1) at c.put-in_default.ensures })

pub returns : goal.returns
returns c =
    let l = c.in-Some.ensures.line in
    record {
      same = c.line_at.ensures.same;
      line = told (λ t s. plays c.in-Some.l c.play.result (rw c.in-Some.is at c.line_at.ensures) s refl) (rw (c.clear.ensures.0, c.clear.ensures.1) at c.play.ensures);
      inside = λ on h. omega arith;
      leads = λ on h. leads_to l.on h;
    }
