use Rattle.connection.specs.Nearly.{turned_near, turned_aside}
use Rattle.connection.proofs.decide.Goals as goal

pub returns-in-Some-default : goal.returns-in-Some-default
returns-in-Some-default c = turned_near c.in-Some-default.ensures c.near_turn.ensures

pub returns-in-None-On : goal.returns-in-None-On
returns-in-None-On c = turned_aside c.in-None-On.ensures c.in-None-On.is-1 c.answer_one_way.ensures c.heard_turn.ensures
