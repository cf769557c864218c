use Rattle.connection.specs.Nearly.{near_other, near_dead, near_opens, near-past, near-request}
use Rattle.connection.proofs.answer.Goals as goal

pub returns-then-f-ne-ROW : goal.returns-then-f-ne-ROW
returns-then-f-ne-ROW c = near_other c.if-f-ne-ROW.true c.refused.ensures

pub returns-then-d-ne0 : goal.returns-then-d-ne0
returns-then-d-ne0 c = near_dead c.if-f-ne-ROW.false c.if-d-ne0.true c.refused-then-d-ne0.ensures

pub returns-in-Open : goal.returns-in-Open
returns-in-Open c = near_opens (record { long = c.if-f-ne-ROW.false; alive = c.if-d-ne0.false }) c.in-Open.is c.open_stream.ensures

pub returns-in-On : goal.returns-in-On
returns-in-On c = near-past (record { long = c.if-f-ne-ROW.false; alive = c.if-d-ne0.false }) c.in-On.is c.if-f-ge-ROW.true c.refused-in-On.ensures

pub returns-in-On-2 : goal.returns-in-On-2
returns-in-On-2 c = near-request (record { long = c.if-f-ne-ROW.false; alive = c.if-d-ne0.false }) c.in-On-2.is c.if-f-ge-ROW.false c.if-f-eq-REQUEST_KIND.true c.answer_request.ensures c.reply_turn.ensures
