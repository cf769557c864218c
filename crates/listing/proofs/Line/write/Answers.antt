-- `Line::write` meets its contract: a text for each kind of line. Assumes nothing.
use Rattle.rules.specs.Text.{ascii}
use Rattle.listing.specs.Text.{text_of}
use Rattle.listing.specs.Lines.{entry_of}
use Rattle.listing.specs.Put.{put_entry}
use Rattle.listing.proofs.Line.write.Goals as goal

pub returns-in-Heading : goal.returns-in-Heading
unfolding ascii text_of entry_of
returns-in-Heading c = put_entry c.clear.ensures c.in-Heading.is c.put.ensures

pub returns-in-Frame : goal.returns-in-Frame
unfolding entry_of
returns-in-Frame c = put_entry c.clear.ensures c.in-Frame.is c.frame_text.ensures

pub returns-in-Whole : goal.returns-in-Whole
unfolding entry_of
returns-in-Whole c = put_entry c.clear.ensures c.in-Whole.is c.whole_text.ensures

pub returns-in-Refused : goal.returns-in-Refused
unfolding entry_of
returns-in-Refused c = put_entry c.clear.ensures c.in-Refused.is c.refused_text.ensures

pub returns-in-TooLong : goal.returns-in-TooLong
unfolding ascii text_of entry_of
returns-in-TooLong c = put_entry c.clear.ensures c.in-TooLong.is c.put-in-TooLong.ensures
