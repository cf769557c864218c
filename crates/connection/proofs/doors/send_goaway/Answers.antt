use Rattle.connection.specs.Goaway.{send_dead, send_refused, send_written}
use Rattle.connection.proofs.doors.send_goaway.Goals as goal

pub returns-then-d-ne0 : goal.returns-then-d-ne0
returns-then-d-ne0 c = let a = c.args in send_dead a.d a.id a.room.now c.if-d-ne0.true

pub returns-in-Err : goal.returns-in-Err
returns-in-Err c = let a = c.args in send_refused a.d a.id a.room.now c.if-d-ne0.false c.sent.result c.sent.ensures c.write_goaway.ensures c.in-Err.is c.number.ensures

pub returns-in-Ok : goal.returns-in-Ok
returns-in-Ok c = let a = c.args in send_written a.d a.id a.room.now c.if-d-ne0.false c.sent.result c.sent.ensures c.write_goaway.ensures c.in-Ok.is
