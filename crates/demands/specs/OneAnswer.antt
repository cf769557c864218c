-- ONE ANSWER: for each public function of the engine, and each function of a trait that it writes by hand, by its own name and its own promise, two results
-- and two contents of lent memory that meet the promise are equal. The exceptions are named too: below a record two feeds leave open numbers that say nothing
-- (docs/DECISIONS, N9), and what may decline leaves open what it then answers. What is no part of the engine is in docs/PROOFS. Assumes nothing.
use Rattle.std.specs.Prelude as std
use Rattle.std.specs.Prelude.{◌≡◌, refl, ℕ, List, [], ◌∷◌, ◌++◌, map, Bool, true, false, Option as Maybe, Some, None, IsSome, IfSome}
use Rattle.std.proofs.Common.{sym, ap, ap₂, ◌∙◌, arith}
use Rattle.std.proofs.Math.Option.{Option, none, some}
use base.Logic.{ent, sep, fst∗, snd∗}
use mir.Syntax.{Symbol}
use contract.Monad.{fact, fact_i, fact_use}
use contract.Lifetimes.{Lfts}
use denote.Triple.Entry.{Args, Res}
use denote.Triple.Clauses.{Clauses, Lasts, at_exit}
use denote.Triple.Clauses as kit
use Rattle.rules.specs.declared.codes.Code.{Code}
use Rattle.rules.specs.Control.{unset}
use Rattle.varint.specs.declared.Part.{Part}
use Rattle.varint.specs.declared.Whole.{Whole}
use Rattle.std.specs.Prelude.{Option as Maybe, Result, Ok, Err}
use Rattle.rules.specs.declared.codes.House.{House}
use Rattle.rules.specs.declared.codes.Code as declared-code
use Rattle.varint.specs.ByByte.{Step, Stepped}
use Rattle.varint.specs.Whole.{Ended, Valued, whole_is, whole_one}
use Rattle.varint.specs.Write.{Meets, meets_one}
use Rattle.rules.specs.Writer.{Write}
use Rattle.control.specs.declared.settings.Settings as declared-settings
use Rattle.control.specs.Answers.{judged_is, judged_one, single_is, single_one}
use Rattle.frames.specs.declared.Cells.{Cells}
use Rattle.frames.specs.Uses.{a_place}
use Rattle.frames.specs.End.{Ends}
use Rattle.record.specs.Body.{said_no}
use Rattle.record.specs.declared.Record.{Record}
use Rattle.record.specs.declared.Stream.{Stream}
use Rattle.record.specs.declared.Reading.{Reading}
use Rattle.record.specs.Sound.{Decides, own_place, Read, Written}
use Rattle.record.specs.Same.{one_read, one_written}
use Rattle.oneway.specs.declared.OneWay.{OneWay}
use Rattle.rules.specs.Named.{code_of}
use Rattle.meaning.specs.NumberLaws.{code_high}
use Rattle.oneway.specs.Closed.{number_in, Closes}
use Rattle.requests.specs.declared.Reply.{Reply}
use Rattle.requests.specs.Reply.{Content}
use Rattle.requests.specs.Answered.{one_answer}
use Rattle.oneway.specs.Feeds.{one_heard}
use Rattle.connection.specs.Goaway.{sends_as_one}
use Rattle.connection.specs.declared.Found.{Found}
use Rattle.connection.specs.declared.Brief.{Brief}
use Rattle.connection.specs.Faults.{with_code}
use Rattle.connection.specs.Turned.{fresh_connection}
use Rattle.connection.specs.Briefly.{Briefly}
use Rattle.connection.specs.Nearly.{one_near}
use Rattle.connection.specs.One.{one_turn, one_goaway}
use Rattle.calls.specs.Once as once
use Rattle.rules.specs.contracts.codes.House.number as house-number
use Rattle.rules.proofs.codes.House.number.Symbol as house-number-is
use Rattle.rules.specs.contracts.codes.Code.number as code-number
use Rattle.rules.proofs.codes.Code.number.Symbol as code-number-is
use Rattle.varint.specs.contracts.fresh as varint-fresh
use Rattle.varint.proofs.fresh.Symbol as varint-fresh-is
use Rattle.varint.specs.contracts.read_step as varint-read-step
use Rattle.varint.proofs.read_step.Symbol as varint-read-step-is
use Rattle.varint.specs.contracts.ends as varint-ends
use Rattle.varint.proofs.ends.Symbol as varint-ends-is
use Rattle.varint.specs.contracts.value as varint-value
use Rattle.varint.proofs.value.Symbol as varint-value-is
use Rattle.varint.specs.contracts.read as varint-read
use Rattle.varint.proofs.read.Symbol as varint-read-is
use Rattle.varint.specs.contracts.size as varint-size
use Rattle.varint.proofs.size.Symbol as varint-size-is
use Rattle.varint.specs.contracts.put as varint-put
use Rattle.varint.proofs.put.Symbol as varint-put-is
use Rattle.varint.specs.contracts.write as varint-write
use Rattle.varint.proofs.write.Symbol as varint-write-is
use Rattle.wire.specs.contracts.ids.is_request as ids-is-request
use Rattle.wire.proofs.ids.is_request.Symbol as ids-is-request-is
use Rattle.wire.specs.contracts.write_header as wire-write-header
use Rattle.wire.proofs.write_header.Symbol as wire-write-header-is
use Rattle.wire.specs.contracts.write_integer_frame as wire-write-integer-frame
use Rattle.wire.proofs.write_integer_frame.Symbol as wire-write-integer-frame-is
use Rattle.wire.specs.contracts.write_opening as wire-write-opening
use Rattle.wire.proofs.write_opening.Symbol as wire-write-opening-is
use Rattle.wire.specs.contracts.write_goaway as wire-write-goaway
use Rattle.wire.proofs.write_goaway.Symbol as wire-write-goaway-is
use Rattle.control.specs.contracts.settings.judge as settings-judge
use Rattle.control.proofs.settings.judge.Symbol as settings-judge-is
use Rattle.control.specs.contracts.settings.only as settings-only
use Rattle.control.proofs.settings.only.Symbol as settings-only-is
use Rattle.fields.specs.contracts.has_byte as fields-has-byte
use Rattle.fields.proofs.has_byte.Symbol as fields-has-byte-is
use Rattle.fields.specs.contracts.begins_with as fields-begins-with
use Rattle.fields.proofs.begins_with.Symbol as fields-begins-with-is
use Rattle.fields.specs.contracts.same_bytes as fields-same-bytes
use Rattle.fields.proofs.same_bytes.Symbol as fields-same-bytes-is
use Rattle.rules.specs.Bytes as bytes
use Rattle.rules.specs.Bytes.{Fault, empty_name, capital, bad_in_name, bad_in_value, blank_at_end}
use Rattle.fields.specs.declared.Spot.{Spot}
use Rattle.fields.specs.declared.Spot.TheVariants.{EmptyName, Capital, BadInName, BadInValue, BlankAtEnd}
use Rattle.fields.specs.Spots.{spot_of}
use Rattle.fields.specs.contracts.Table.any_outside as fields-any-outside
use Rattle.fields.proofs.Table.any_outside.Symbol as fields-any-outside-is
use Rattle.fields.specs.contracts.Table.bad_line as fields-bad-line
use Rattle.fields.proofs.Table.bad_line.Symbol as fields-bad-line-is
use Rattle.fields.specs.contracts.decimal_of as fields-decimal-of
use Rattle.fields.proofs.decimal_of.Symbol as fields-decimal-of-is
use Rattle.fields.specs.contracts.Table.line_spot as fields-line-spot
use Rattle.fields.proofs.Table.line_spot.Symbol as fields-line-spot-is
use Rattle.fields.specs.contracts.line_at as fields-line-at
use Rattle.fields.proofs.line_at.Symbol as fields-line-at-is
use Rattle.fields.proofs.classes.Symbol as fields-classes-is
use Rattle.section.specs.contracts.reason_code as section-reason-code
use Rattle.section.proofs.reason_code.Symbol as section-reason-code-is
use Rattle.section.specs.contracts.code as section-code
use Rattle.section.proofs.code.Symbol as section-code-is
use Rattle.section.specs.contracts.Fault.number as section-fault-number
use Rattle.section.proofs.Fault.number.Symbol as section-fault-number-is
use Rattle.section.specs.contracts.header_section as section-header-section
use Rattle.section.proofs.header_section.Symbol as section-header-section-is
use Rattle.section.specs.contracts.trailers as section-trailers
use Rattle.section.proofs.trailers.Symbol as section-trailers-is
use Rattle.section.specs.contracts.FaultFromUnreadable.from as section-fault-from
use Rattle.section.proofs.FaultFromUnreadable.from.Symbol as section-fault-from-is
use Rattle.frames.specs.declared.Use.{Use}
use Rattle.frames.specs.Wants.{ruled_in, ruled_one}
use Rattle.frames.specs.contracts.Place.rule as streams-rule
use Rattle.frames.proofs.Place.rule.Symbol as streams-rule-is
use Rattle.frames.specs.contracts.Event.number as streams-event-number
use Rattle.frames.proofs.Event.number.Symbol as streams-event-number-is
use Rattle.frames.specs.contracts.end as streams-end
use Rattle.frames.proofs.end.Symbol as streams-end-is
use Rattle.frames.proofs.feed.Symbol as streams-feed-is
use Rattle.frames.proofs.brisk.Symbol as streams-brisk-is
use Rattle.record.specs.contracts.cells_in as record-cells-in
use Rattle.record.proofs.cells_in.Symbol as record-cells-in-is
use Rattle.record.specs.contracts.free as record-free
use Rattle.record.proofs.free.Symbol as record-free-is
use Rattle.record.specs.contracts.is_free as record-is-free
use Rattle.record.proofs.is_free.Symbol as record-is-free-is
use Rattle.record.specs.contracts.is_part as record-is-part
use Rattle.record.proofs.is_part.Symbol as record-is-part-is
use Rattle.record.specs.contracts.is_sane as record-is-sane
use Rattle.record.proofs.is_sane.Symbol as record-is-sane-is
use Rattle.record.specs.contracts.read as record-read
use Rattle.record.proofs.read.Symbol as record-read-is
use Rattle.record.specs.contracts.row as record-row
use Rattle.record.proofs.row.Symbol as record-row-is
use Rattle.record.specs.contracts.write as record-write
use Rattle.record.proofs.write.Symbol as record-write-is
use Rattle.record.proofs.in_body.Symbol as record-in-body-is
use Rattle.record.specs.contracts.in_content as record-in-content
use Rattle.record.proofs.in_content.Symbol as record-in-content-is
use Rattle.requests.specs.contracts.given.give as given-give
use Rattle.requests.proofs.given.give.Symbol as given-give-is
use Rattle.oneway.specs.contracts.Event.number as oneway-event-number
use Rattle.oneway.proofs.Event.number.Symbol as oneway-event-number-is
use Rattle.oneway.specs.contracts.close as oneway-close
use Rattle.oneway.proofs.close.Symbol as oneway-close-is
use Rattle.oneway.proofs.feed.Symbol as oneway-feed-is
use Rattle.control.specs.contracts.judge as control-judge
use Rattle.control.proofs.judge.Symbol as control-judge-is
use Rattle.requests.specs.contracts.reset as requests-reset
use Rattle.requests.proofs.reset.Symbol as requests-reset-is
use Rattle.requests.specs.contracts.end as requests-end
use Rattle.requests.proofs.end.Symbol as requests-end-is
use Rattle.requests.specs.contracts.feed as requests-feed
use Rattle.requests.proofs.feed.Symbol as requests-feed-is
use Rattle.requests.specs.contracts.give as requests-give
use Rattle.requests.proofs.give.Symbol as requests-give-is
use Rattle.requests.proofs.brisk.Symbol as requests-brisk-is
use Rattle.connection.specs.contracts.doors.fresh as doors-fresh
use Rattle.connection.proofs.doors.fresh.Symbol as doors-fresh-is
use Rattle.connection.specs.contracts.doors.open as doors-open
use Rattle.connection.proofs.doors.open.Symbol as doors-open-is
use Rattle.connection.specs.contracts.doors.send_goaway as doors-send-goaway
use Rattle.connection.proofs.doors.send_goaway.Symbol as doors-send-goaway-is
use Rattle.oneway.specs.contracts.calls.fresh as oneways-fresh
use Rattle.oneway.proofs.calls.fresh.Symbol as oneways-fresh-is
use Rattle.oneway.specs.contracts.calls.feed as oneways-feed
use Rattle.oneway.proofs.calls.feed.Symbol as oneways-feed-is
use Rattle.oneway.specs.contracts.calls.give as oneways-give
use Rattle.oneway.proofs.calls.give.Symbol as oneways-give-is
use Rattle.oneway.specs.contracts.calls.close as oneways-close
use Rattle.oneway.proofs.calls.close.Symbol as oneways-close-is
use Rattle.connection.specs.contracts.fresh as connection-fresh
use Rattle.connection.proofs.fresh.Symbol as connection-fresh-is
use Rattle.connection.specs.contracts.answer as connection-answer
use Rattle.connection.proofs.answer.Symbol as connection-answer-is
use Rattle.connection.specs.contracts.wanted as connection-wanted
use Rattle.connection.proofs.wanted.Symbol as connection-wanted-is
use Rattle.connection.specs.contracts.decide as connection-decide
use Rattle.connection.proofs.decide.Symbol as connection-decide-is
use Rattle.connection.specs.contracts.begin as connection-begin
use Rattle.connection.proofs.begin.Symbol as connection-begin-is
use Rattle.connection.specs.contracts.swept as connection-swept
use Rattle.connection.proofs.swept.Symbol as connection-swept-is
use Rattle.connection.specs.contracts.say_goaway as connection-say-goaway
use Rattle.connection.proofs.say_goaway.Symbol as connection-say-goaway-is
use Rattle.connection.specs.contracts.ReportFromReply.from as connection-from-reply
use Rattle.connection.proofs.ReportFromReply.from.Symbol as connection-from-reply-is
use Rattle.connection.specs.contracts.ReportFromHeard.from as connection-from-heard
use Rattle.connection.proofs.ReportFromHeard.from.Symbol as connection-from-heard-is
use Rattle.connection.specs.contracts.WrittenFromResultUsizeU64.from as connection-from-result
use Rattle.connection.proofs.WrittenFromResultUsizeU64.from.Symbol as connection-from-result-is
use Rattle.connection.proofs.brisk.Symbol as connection-brisk-is
use Rattle.calls.specs.contracts.step as board-step
use Rattle.calls.proofs.step.Symbol as board-step-is
use Rattle.calls.specs.contracts.eistulko_start as board-eistulko-start
use Rattle.calls.proofs.eistulko_start.Symbol as board-eistulko-start-is
use Rattle.calls.specs.contracts.eistulko_open as board-eistulko-open
use Rattle.calls.proofs.eistulko_open.Symbol as board-eistulko-open-is
use Rattle.calls.specs.contracts.eistulko_feed as board-eistulko-feed
use Rattle.calls.proofs.eistulko_feed.Symbol as board-eistulko-feed-is
use Rattle.calls.specs.contracts.eistulko_give as board-eistulko-give
use Rattle.calls.proofs.eistulko_give.Symbol as board-eistulko-give-is
use Rattle.calls.specs.contracts.eistulko_end as board-eistulko-end
use Rattle.calls.proofs.eistulko_end.Symbol as board-eistulko-end-is
use Rattle.calls.specs.contracts.eistulko_reset as board-eistulko-reset
use Rattle.calls.proofs.eistulko_reset.Symbol as board-eistulko-reset-is
use Rattle.calls.specs.contracts.eistulko_goaway as board-eistulko-goaway
use Rattle.calls.proofs.eistulko_goaway.Symbol as board-eistulko-goaway-is
use Rattle.calls.specs.contracts.eistulko_write_header as board-eistulko-write-header
use Rattle.calls.proofs.eistulko_write_header.Symbol as board-eistulko-write-header-is
use Rattle.calls.specs.contracts.eistulko_write_integer_frame as board-eistulko-write-integer-frame
use Rattle.calls.proofs.eistulko_write_integer_frame.Symbol as board-eistulko-write-integer-frame-is
use Rattle.calls.specs.contracts.eistulko_write_opening as board-eistulko-write-opening
use Rattle.calls.proofs.eistulko_write_opening.Symbol as board-eistulko-write-opening-is
use Rattle.calls.specs.contracts.eistulko_connection_size as board-eistulko-connection-size
use Rattle.calls.proofs.eistulko_connection_size.Symbol as board-eistulko-connection-size-is
use Rattle.calls.specs.contracts.eistulko_record_size as board-eistulko-record-size
use Rattle.calls.proofs.eistulko_record_size.Symbol as board-eistulko-record-size-is
use Rattle.calls.specs.contracts.eistulko_report_size as board-eistulko-report-size
use Rattle.calls.proofs.eistulko_report_size.Symbol as board-eistulko-report-size-is
use Rattle.calls.specs.contracts.eistulko_written_size as board-eistulko-written-size
use Rattle.calls.proofs.eistulko_written_size.Symbol as board-eistulko-written-size-is
use Rattle.requests.specs.contracts.brisk as requests-brisk
use Rattle.connection.specs.contracts.brisk as connection-brisk
use Rattle.demands.specs.Exports.{World}

-- ---- equations

pub one : {A : Type 0} {x y z : A} → y ≡ x → z ≡ x → y ≡ z
one e f = e ∙ sym f

-- ---- through a reading

pub read_alike : {A B : Type 0} (f : A → B) → ((x y : A) → f x ≡ f y → x ≡ y) → {b : B} {x y : A} → f x ≡ b → f y ≡ b → x ≡ y
read_alike f law {b} {x} {y} e g = law x y (e ∙ sym g)

pub one_read_integer : (s : List ℕ) {b : _} {x y : Maybe Whole} → whole_is s x ≡ b → whole_is s y ≡ b → x ≡ y
one_read_integer s e f = read_alike (whole_is s) (whole_one s) e f

pub one_judged : {b : _} {x y : Result declared-settings.Settings declared-code.Code} → judged_is x ≡ b → judged_is y ≡ b → x ≡ y
one_judged e f = read_alike judged_is judged_one e f

pub one_single : {b : _} {x y : Maybe ℕ} → single_is x ≡ b → single_is y ≡ b → x ≡ y
one_single e f = read_alike single_is single_one e f

spot_as : Fault → (place : ℕ) → Spot
spot_as empty_name p = EmptyName p
spot_as capital p = Capital p
spot_as bad_in_name p = BadInName p
spot_as bad_in_value p = BadInValue p
spot_as blank_at_end p = BlankAtEnd p

spot_back : Option bytes.Spot → std.Option Spot
spot_back none = std.None
spot_back (some s) = std.Some (spot_as s.fault s.place)

spot_back_lem : (x : std.Option Spot) → spot_back (spot_of x) ≡ x
unfolding spot_back spot_as
spot_back_lem std.None = refl
spot_back_lem (std.Some (EmptyName p)) = refl
spot_back_lem (std.Some (Capital p)) = refl
spot_back_lem (std.Some (BadInName p)) = refl
spot_back_lem (std.Some (BadInValue p)) = refl
spot_back_lem (std.Some (BlankAtEnd p)) = refl

pub one_line_spot : {b : _} {x y : std.Option Spot} → spot_of x ≡ b → spot_of y ≡ b → x ≡ y
one_line_spot e f = read_alike spot_of (λ x y q. sym (spot_back_lem x) ∙ ap spot_back q ∙ spot_back_lem y) e f

-- ---- tests

pub one_decided : {A : Type 0} (b c : Bool) → Decides A b → Decides A c → b ≡ c
one_decided true true d e = refl
one_decided true false d e = absurd (e.no refl (d.yes refl))
one_decided false true d e = absurd (d.no refl (e.yes refl))
one_decided false false d e = refl

-- ---- promises with an equation among other facts

pub one_step : {p : Part} {b : ℕ} {x y : Step} → Stepped p b x → Stepped p b y → x ≡ y
one_step e f = one e.is f.is

pub one_end : {s : List ℕ} {at : ℕ} {x y : Maybe ℕ} → Ended s at x → Ended s at y → x ≡ y
one_end e f = one e.is f.is

pub one_value : {s : List ℕ} {at x y : ℕ} → Valued s at x → Valued s at y → x ≡ y
one_value e f = one e.is f.is

pub one_write : {w : Write} {l a b : List ℕ} {r q : Result ℕ House} → Meets w l r a → Meets w l q b → (r ≡ q) × (a ≡ b)
one_write m n = meets_one m n

pub one_ended : (c : Cells) {x y : ℕ} → Ends c x → Ends c y → x ≡ y
one_ended c e f = one (e (own_place c) [] a_place) (f (own_place c) [] a_place)

pub one_ruling : {number : ℕ} {x y : std.Result Use Code} → ruled_in x ≡ number → ruled_in y ≡ number → x ≡ y
one_ruling {number} {x} {y} e f = ruled_one x y (one e f)

one_number : (x y : Result Unit Code) → number_in x ≡ number_in y → x ≡ y
unfolding number_in
one_number (Ok u) (Ok v) e = refl
one_number (Ok u) (Err c) e = let h = code_high (code_of c) in absurd (omega arith)
one_number (Err c) (Ok u) e = let h = code_high (code_of c) in absurd (omega arith)
one_number (Err c) (Err d) e = let f = ruled_one (Err c) (Err d) e in let g : c ≡ d = cc in ap Err g

pub one_closed : (w : OneWay) {x y : Result Unit Code} → Closes w x → Closes w y → x ≡ y
one_closed w {x} {y} e f = one_number x y (one (e unset []) (f unset []))

pub one_stream : (r : Record) (s t : Reading) → Read r s → Read r t → s ≡ t
one_stream r s t e f = one_read r s t e f

pub one_record : (s : Stream) (r q : Record) → Written s r → Written s q → r ≡ q
one_record s r q e f = one_written s r q e f

-- a short way that was taken
pub one_content : (r : Record) (allow : ℕ) (piece : List ℕ) {x y : Maybe Reply} → IfSome x (Content r allow piece) → IfSome y (Content r allow piece) → IsSome x → IsSome y → x ≡ y
one_content r allow piece {x = None} b d s t = said_no s
one_content r allow piece {x = Some v} {y = None} b d s t = said_no t
one_content r allow piece {x = Some v} {y = Some w} b d s t = ap Some (one_answer r _ v w b.keeps.answers d.keeps.answers)

pub one_brief : {code : ℕ} {f : Found} {allow : ℕ} {piece : List ℕ} {x y : Maybe Brief} → Briefly code f allow piece x → Briefly code f allow piece y → IsSome x → IsSome y → x ≡ y
one_brief {x = None} b d s t = said_no s
one_brief {x = Some v} {y = None} b d s t = said_no t
one_brief {code} {x = Some v} {y = Some w} b d s t = let c = with_code code fresh_connection in let e = one_turn c _ _ 0 _ _ (b.content.turns c 0 refl) (d.content.turns c 0 refl) in
    ap Some (ap₂ (λ r p. record { row = r; report = p }) (ap (λ z. z.row) e) (ap (λ z. z.report) e))

-- ---- each function, as it is proved

module _ (w : World) where
  -- two answers, and two contents of what was lent, that meet what a function promises are equal
  abbrev pub LeavesOne : (T : kit.Ended) → Clauses w.𝓤 T → Type 1
  LeavesOne T c = (κs : Lfts T.signature.lifetimes) (a : Args T.signature κs) (g : (c κs a).ghost) (r q : Res T.signature κs) (ws vs : Lasts T κs a)
      → ent w.𝓤 (sep w.𝓤 ((c κs a).ensures g r (at_exit T κs a ws)) ((c κs a).ensures g q (at_exit T κs a vs))) (fact w.𝓤 ((r ≡ q) × (ws ≡ vs)))

  pub record Function : Type 2 where
    pub name : Symbol
    pub ended : kit.Ended
    pub clauses : Clauses w.𝓤 ended
    pub leaves_one : LeavesOne ended clauses

  abbrev function : Symbol → (T : kit.Ended) (c : Clauses w.𝓤 T) → LeavesOne T c → Function
  function n T c h = record { name = n; ended = T; clauses = c; leaves_one = h }

  pub facts : {P Q R : Type 0} → (P → Q → R) → ent w.𝓤 (sep w.𝓤 (fact w.𝓤 P) (fact w.𝓤 Q)) (fact w.𝓤 R)
  facts {P} {Q} {R} h = fact_use w.𝓤 P (fst∗ w.𝓤 (fact w.𝓤 P) (fact w.𝓤 Q)) (λ p. fact_use w.𝓤 Q (snd∗ w.𝓤 (fact w.𝓤 P) (fact w.𝓤 Q)) (λ q. fact_i w.𝓤 R _ (h p q)))

  pub equal : {A B : Type 0} {r q z : A} {ws : B} → ent w.𝓤 (sep w.𝓤 (fact w.𝓤 (r ≡ z)) (fact w.𝓤 (q ≡ z))) (fact w.𝓤 ((r ≡ q) × (ws ≡ ws)))
  equal = facts (λ x y. (one x y, refl))

  abbrev of_codes : List Function
  of_codes =
      function house-number-is.symbol house-number.ended (house-number.clauses w.𝓛 w.𝓜.mem w.𝓡.returns) (λ κs a g r q ws vs. equal)
      ∷ function code-number-is.symbol code-number.ended (code-number.clauses w.𝓛 w.𝓜.mem w.𝓡.returns) (λ κs a g r q ws vs. equal)
      ∷ []

  abbrev of_varint : List Function
  of_varint =
      function varint-fresh-is.symbol varint-fresh.ended (varint-fresh.clauses w.𝓛 w.𝓜.mem w.𝓡.returns) (λ κs a g r q ws vs. equal)
      ∷ function varint-read-step-is.symbol varint-read-step.ended (varint-read-step.clauses w.𝓛 w.𝓜.mem w.𝓡.returns) (λ κs a g r q ws vs. facts (λ x y. (one_step x y, refl)))
      ∷ function varint-ends-is.symbol varint-ends.ended (varint-ends.clauses w.𝓛 w.𝓜.mem w.𝓡.returns) (λ κs a g r q ws vs. facts (λ x y. (one_end x y, refl)))
      ∷ function varint-value-is.symbol varint-value.ended (varint-value.clauses w.𝓛 w.𝓜.mem w.𝓡.returns) (λ κs a g r q ws vs. facts (λ x y. (one_value x y, refl)))
      ∷ function varint-read-is.symbol varint-read.ended (varint-read.clauses w.𝓛 w.𝓜.mem w.𝓡.returns) (λ κs a g r q ws vs. facts (λ x y. (one_read_integer a.0.now x y, refl)))
      ∷ function varint-size-is.symbol varint-size.ended (varint-size.clauses w.𝓛 w.𝓜.mem w.𝓡.returns) (λ κs a g r q ws vs. equal)
      ∷ function varint-put-is.symbol varint-put.ended (varint-put.clauses w.𝓛 w.𝓜.mem w.𝓡.returns) (λ κs a g r q ws vs. facts (λ x y. (refl, ap (λ l. (tt, (l, (tt, tt)))) (one x y))))
      ∷ function varint-write-is.symbol varint-write.ended (varint-write.clauses w.𝓛 w.𝓜.mem w.𝓡.returns) (λ κs a g r q ws vs. facts (λ x y. let e = one_write x y in (e.0, ap (λ l. (tt, (l, tt))) e.1)))
      ∷ []

  abbrev of_ids : List Function
  of_ids =
      function ids-is-request-is.symbol ids-is-request.ended (ids-is-request.clauses w.𝓛 w.𝓜.mem w.𝓡.returns) (λ κs a g r q ws vs. equal)
      ∷ []

  abbrev of_wire : List Function
  of_wire =
      function wire-write-header-is.symbol wire-write-header.ended (wire-write-header.clauses w.𝓛 w.𝓜.mem w.𝓡.returns) (λ κs a g r q ws vs. facts (λ x y. let e = one_write x y in (e.0, ap (λ l. (tt, (tt, (l, tt)))) e.1)))
      ∷ function wire-write-integer-frame-is.symbol wire-write-integer-frame.ended (wire-write-integer-frame.clauses w.𝓛 w.𝓜.mem w.𝓡.returns) (λ κs a g r q ws vs. facts (λ x y. let e = one_write x y in (e.0, ap (λ l. (tt, (tt, (l, tt)))) e.1)))
      ∷ function wire-write-opening-is.symbol wire-write-opening.ended (wire-write-opening.clauses w.𝓛 w.𝓜.mem w.𝓡.returns) (λ κs a g r q ws vs. facts (λ x y. let e = one_write x y in (e.0, ap (λ l. (l, tt)) e.1)))
      ∷ function wire-write-goaway-is.symbol wire-write-goaway.ended (wire-write-goaway.clauses w.𝓛 w.𝓜.mem w.𝓡.returns) (λ κs a g r q ws vs. facts (λ x y. let e = one_write x y in (e.0, ap (λ l. (tt, (tt, (l, tt)))) e.1)))
      ∷ []

  abbrev of_settings : List Function
  of_settings =
      function settings-judge-is.symbol settings-judge.ended (settings-judge.clauses w.𝓛 w.𝓜.mem w.𝓡.returns) (λ κs a g r q ws vs. facts (λ x y. (one_judged x y, refl)))
      ∷ function settings-only-is.symbol settings-only.ended (settings-only.clauses w.𝓛 w.𝓜.mem w.𝓡.returns) (λ κs a g r q ws vs. facts (λ x y. (one_single x y, refl)))
      ∷ []

  abbrev of_fields : List Function
  of_fields =
      function fields-has-byte-is.symbol fields-has-byte.ended (fields-has-byte.clauses w.𝓛 w.𝓜.mem w.𝓡.returns) (λ κs a g r q ws vs. equal)
      ∷ function fields-begins-with-is.symbol fields-begins-with.ended (fields-begins-with.clauses w.𝓛 w.𝓜.mem w.𝓡.returns) (λ κs a g r q ws vs. equal)
      ∷ function fields-same-bytes-is.symbol fields-same-bytes.ended (fields-same-bytes.clauses w.𝓛 w.𝓜.mem w.𝓡.returns) (λ κs a g r q ws vs. equal)
      ∷ function fields-any-outside-is.symbol fields-any-outside.ended (fields-any-outside.clauses w.𝓛 w.𝓜.mem w.𝓡.returns) (λ κs a g r q ws vs. equal)
      ∷ function fields-bad-line-is.symbol fields-bad-line.ended (fields-bad-line.clauses w.𝓛 w.𝓜.mem w.𝓡.returns) (λ κs a g r q ws vs. equal)
      ∷ function fields-decimal-of-is.symbol fields-decimal-of.ended (fields-decimal-of.clauses w.𝓛 w.𝓜.mem w.𝓡.returns) (λ κs a g r q ws vs. equal)
      ∷ function fields-line-spot-is.symbol fields-line-spot.ended (fields-line-spot.clauses w.𝓛 w.𝓜.mem w.𝓡.returns) (λ κs a g r q ws vs. facts (λ x y. (one_line_spot x y, refl)))
      ∷ function fields-line-at-is.symbol fields-line-at.ended (fields-line-at.clauses w.𝓛 w.𝓜.mem w.𝓡.returns) (λ κs a g r q ws vs. equal)
      ∷ []

  abbrev of_section : List Function
  of_section =
      function section-reason-code-is.symbol section-reason-code.ended (section-reason-code.clauses w.𝓛 w.𝓜.mem w.𝓡.returns) (λ κs a g r q ws vs. equal)
      ∷ function section-code-is.symbol section-code.ended (section-code.clauses w.𝓛 w.𝓜.mem w.𝓡.returns) (λ κs a g r q ws vs. equal)
      ∷ function section-fault-number-is.symbol section-fault-number.ended (section-fault-number.clauses w.𝓛 w.𝓜.mem w.𝓡.returns) (λ κs a g r q ws vs. equal)
      ∷ function section-header-section-is.symbol section-header-section.ended (section-header-section.clauses w.𝓛 w.𝓜.mem w.𝓡.returns) (λ κs a g r q ws vs. equal)
      ∷ function section-trailers-is.symbol section-trailers.ended (section-trailers.clauses w.𝓛 w.𝓜.mem w.𝓡.returns) (λ κs a g r q ws vs. equal)
      ∷ function section-fault-from-is.symbol section-fault-from.ended (section-fault-from.clauses w.𝓛 w.𝓜.mem w.𝓡.returns) (λ κs a g r q ws vs. equal)
      ∷ []

  abbrev of_streams : List Function
  of_streams =
      function streams-rule-is.symbol streams-rule.ended (streams-rule.clauses w.𝓛 w.𝓜.mem w.𝓡.returns) (λ κs a g r q ws vs. facts (λ x y. (one_ruling x y, refl)))
      ∷ function streams-event-number-is.symbol streams-event-number.ended (streams-event-number.clauses w.𝓛 w.𝓜.mem w.𝓡.returns) (λ κs a g r q ws vs. equal)
      ∷ function streams-end-is.symbol streams-end.ended (streams-end.clauses w.𝓛 w.𝓜.mem w.𝓡.returns) (λ κs a g r q ws vs. facts (λ x y. (one_ended a.0 x y, refl)))
      ∷ []

  abbrev of_record : List Function
  of_record =
      function record-cells-in-is.symbol record-cells-in.ended (record-cells-in.clauses w.𝓛 w.𝓜.mem w.𝓡.returns) (λ κs a g r q ws vs. equal)
      ∷ function record-free-is.symbol record-free.ended (record-free.clauses w.𝓛 w.𝓜.mem w.𝓡.returns) (λ κs a g r q ws vs. equal)
      ∷ function record-is-free-is.symbol record-is-free.ended (record-is-free.clauses w.𝓛 w.𝓜.mem w.𝓡.returns) (λ κs a g r q ws vs. facts (λ x y. (one_decided r q x y, refl)))
      ∷ function record-is-part-is.symbol record-is-part.ended (record-is-part.clauses w.𝓛 w.𝓜.mem w.𝓡.returns) (λ κs a g r q ws vs. facts (λ x y. (one_decided r q x y, refl)))
      ∷ function record-is-sane-is.symbol record-is-sane.ended (record-is-sane.clauses w.𝓛 w.𝓜.mem w.𝓡.returns) (λ κs a g r q ws vs. facts (λ x y. (one_decided r q x y, refl)))
      ∷ function record-read-is.symbol record-read.ended (record-read.clauses w.𝓛 w.𝓜.mem w.𝓡.returns) (λ κs a g r q ws vs. facts (λ x y. (one_stream a.0 r q x y, refl)))
      ∷ function record-row-is.symbol record-row.ended (record-row.clauses w.𝓛 w.𝓜.mem w.𝓡.returns) (λ κs a g r q ws vs. facts (λ x y. (one_record a.0 r q x y, refl)))
      ∷ function record-write-is.symbol record-write.ended (record-write.clauses w.𝓛 w.𝓜.mem w.𝓡.returns) (λ κs a g r q ws vs. facts (λ x y. (one_record a.0 r q x y, refl)))
      ∷ function record-in-content-is.symbol record-in-content.ended (record-in-content.clauses w.𝓛 w.𝓜.mem w.𝓡.returns) (λ κs a g r q ws vs. equal)
      ∷ []

  abbrev of_given_lem : List Function
  of_given_lem =
      function given-give-is.symbol given-give.ended (given-give.clauses w.𝓛 w.𝓜.mem w.𝓡.returns) (λ κs a g r q ws vs. equal)
      ∷ []

  abbrev of_oneway : List Function
  of_oneway =
      function oneway-event-number-is.symbol oneway-event-number.ended (oneway-event-number.clauses w.𝓛 w.𝓜.mem w.𝓡.returns) (λ κs a g r q ws vs. equal)
      ∷ function oneway-close-is.symbol oneway-close.ended (oneway-close.clauses w.𝓛 w.𝓜.mem w.𝓡.returns) (λ κs a g r q ws vs. facts (λ x y. (one_closed a.0 x y, refl)))
      ∷ []

  abbrev of_control : List Function
  of_control =
      function control-judge-is.symbol control-judge.ended (control-judge.clauses w.𝓛 w.𝓜.mem w.𝓡.returns) (λ κs a g r q ws vs. equal)
      ∷ []

  abbrev of_requests : List Function
  of_requests =
      function requests-reset-is.symbol requests-reset.ended (requests-reset.clauses w.𝓛 w.𝓜.mem w.𝓡.returns) (λ κs a g r q ws vs. facts (λ x y. (one_answer a.0 _ r q x y, refl)))
      ∷ function requests-end-is.symbol requests-end.ended (requests-end.clauses w.𝓛 w.𝓜.mem w.𝓡.returns) (λ κs a g r q ws vs. facts (λ x y. (one_answer a.0 _ r q x y, refl)))
      ∷ function requests-feed-is.symbol requests-feed.ended (requests-feed.clauses w.𝓛 w.𝓜.mem w.𝓡.returns) (λ κs a g r q ws vs. facts (λ x y. (one_answer a.0 _ r q x.answers y.answers, refl)))
      ∷ function requests-give-is.symbol requests-give.ended (requests-give.clauses w.𝓛 w.𝓜.mem w.𝓡.returns) (λ κs a g r q ws vs. facts (λ x y. (one_answer a.0 _ r q x.answers y.answers, refl)))
      ∷ []

  abbrev of_doors : List Function
  of_doors =
      function doors-fresh-is.symbol doors-fresh.ended (doors-fresh.clauses w.𝓛 w.𝓜.mem w.𝓡.returns) (λ κs a g r q ws vs. equal)
      ∷ function doors-open-is.symbol doors-open.ended (doors-open.clauses w.𝓛 w.𝓜.mem w.𝓡.returns) (λ κs a g r q ws vs. equal)
      ∷ function doors-send-goaway-is.symbol doors-send-goaway.ended (doors-send-goaway.clauses w.𝓛 w.𝓜.mem w.𝓡.returns) (λ κs a g r q ws vs. facts (λ x y. let e = sends_as_one x y in (e.0, ap (λ l. (tt, (tt, (l, tt)))) e.1)))
      ∷ []

  abbrev of_oneways : List Function
  of_oneways =
      function oneways-fresh-is.symbol oneways-fresh.ended (oneways-fresh.clauses w.𝓛 w.𝓜.mem w.𝓡.returns) (λ κs a g r q ws vs. equal)
      ∷ function oneways-feed-is.symbol oneways-feed.ended (oneways-feed.clauses w.𝓛 w.𝓜.mem w.𝓡.returns) (λ κs a g r q ws vs. facts (λ x y. (one_heard a.0 a.1.0 _ r q x.answers y.answers, refl)))
      ∷ function oneways-give-is.symbol oneways-give.ended (oneways-give.clauses w.𝓛 w.𝓜.mem w.𝓡.returns) (λ κs a g r q ws vs. facts (λ x y. (one_heard a.0 a.1.0 _ r q x y, refl)))
      ∷ function oneways-close-is.symbol oneways-close.ended (oneways-close.clauses w.𝓛 w.𝓜.mem w.𝓡.returns) (λ κs a g r q ws vs. facts (λ x y. (one_heard a.0 a.1.0 _ r q x y, refl)))
      ∷ []

  abbrev of_connection : List Function
  of_connection =
      function connection-fresh-is.symbol connection-fresh.ended (connection-fresh.clauses w.𝓛 w.𝓜.mem w.𝓡.returns) (λ κs a g r q ws vs. equal)
      ∷ function connection-wanted-is.symbol connection-wanted.ended (connection-wanted.clauses w.𝓛 w.𝓜.mem w.𝓡.returns) (λ κs a g r q ws vs. facts (λ x y. (one_decided r q x y, refl)))
      ∷ function connection-answer-is.symbol connection-answer.ended (connection-answer.clauses w.𝓛 w.𝓜.mem w.𝓡.returns) (λ κs a g r q ws vs. facts (λ x y. (one_near _ _ _ _ _ _ x y, refl)))
      ∷ function connection-decide-is.symbol connection-decide.ended (connection-decide.clauses w.𝓛 w.𝓜.mem w.𝓡.returns) (λ κs a g r q ws vs. facts (λ x y. (one_turn _ _ _ _ _ _ x y, refl)))
      ∷ function connection-begin-is.symbol connection-begin.ended (connection-begin.clauses w.𝓛 w.𝓜.mem w.𝓡.returns) (λ κs a g r q ws vs. equal)
      ∷ function connection-swept-is.symbol connection-swept.ended (connection-swept.clauses w.𝓛 w.𝓜.mem w.𝓡.returns) (λ κs a g r q ws vs. equal)
      ∷ function connection-say-goaway-is.symbol connection-say-goaway.ended (connection-say-goaway.clauses w.𝓛 w.𝓜.mem w.𝓡.returns) (λ κs a g r q ws vs. facts (λ x y. let e = one_goaway x y in (e.0, ap (λ l. (tt, (tt, (l, tt)))) e.1)))
      ∷ function connection-from-reply-is.symbol connection-from-reply.ended (connection-from-reply.clauses w.𝓛 w.𝓜.mem w.𝓡.returns) (λ κs a g r q ws vs. equal)
      ∷ function connection-from-heard-is.symbol connection-from-heard.ended (connection-from-heard.clauses w.𝓛 w.𝓜.mem w.𝓡.returns) (λ κs a g r q ws vs. equal)
      ∷ function connection-from-result-is.symbol connection-from-result.ended (connection-from-result.clauses w.𝓛 w.𝓜.mem w.𝓡.returns) (λ κs a g r q ws vs. equal)
      ∷ []

  abbrev of_board : List Function
  of_board =
      function board-step-is.symbol board-step.ended (board-step.clauses w.𝓛 w.𝓜.mem w.𝓡.returns) (λ κs a g r q ws vs. facts (λ x y. let e = once.one_step x y in (e.2, ap₂ (λ c l. (c, (l, (tt, tt)))) e.0 e.1)))
      ∷ function board-eistulko-start-is.symbol board-eistulko-start.ended (board-eistulko-start.clauses w.𝓛 w.𝓜.mem w.𝓡.returns) (λ κs a g r q ws vs. facts (λ x y. let e = once.one_start x y in (e.2, ap₂ (λ c l. (c, (l, tt))) e.0 e.1)))
      ∷ function board-eistulko-open-is.symbol board-eistulko-open.ended (board-eistulko-open.clauses w.𝓛 w.𝓜.mem w.𝓡.returns) (λ κs a g r q ws vs. facts (λ x y. let e = once.one_step x y in (e.2, ap₂ (λ c l. (c, (l, (tt, tt)))) e.0 e.1)))
      ∷ function board-eistulko-feed-is.symbol board-eistulko-feed.ended (board-eistulko-feed.clauses w.𝓛 w.𝓜.mem w.𝓡.returns) (λ κs a g r q ws vs. facts (λ x y. let e = once.one_step x y in (e.2, ap₂ (λ c l. (c, (l, (tt, (tt, (tt, tt)))))) e.0 e.1)))
      ∷ function board-eistulko-give-is.symbol board-eistulko-give.ended (board-eistulko-give.clauses w.𝓛 w.𝓜.mem w.𝓡.returns) (λ κs a g r q ws vs. facts (λ x y. let e = once.one_step x y in (e.2, ap₂ (λ c l. (c, (l, (tt, (tt, tt))))) e.0 e.1)))
      ∷ function board-eistulko-end-is.symbol board-eistulko-end.ended (board-eistulko-end.clauses w.𝓛 w.𝓜.mem w.𝓡.returns) (λ κs a g r q ws vs. facts (λ x y. let e = once.one_step x y in (e.2, ap₂ (λ c l. (c, (l, (tt, tt)))) e.0 e.1)))
      ∷ function board-eistulko-reset-is.symbol board-eistulko-reset.ended (board-eistulko-reset.clauses w.𝓛 w.𝓜.mem w.𝓡.returns) (λ κs a g r q ws vs. facts (λ x y. let e = once.one_step x y in (e.2, ap₂ (λ c l. (c, (l, (tt, tt)))) e.0 e.1)))
      ∷ function board-eistulko-goaway-is.symbol board-eistulko-goaway.ended (board-eistulko-goaway.clauses w.𝓛 w.𝓜.mem w.𝓡.returns) (λ κs a g r q ws vs. facts (λ x y. let e = once.one_sent x y in (e.2, ap₂ (λ c l. (c, (tt, (l, tt)))) e.0 e.1)))
      ∷ function board-eistulko-write-header-is.symbol board-eistulko-write-header.ended (board-eistulko-write-header.clauses w.𝓛 w.𝓜.mem w.𝓡.returns) (λ κs a g r q ws vs. facts (λ x y. let e = once.one_write x y in (e.1, ap (λ l. (tt, (tt, (l, tt)))) e.0)))
      ∷ function board-eistulko-write-integer-frame-is.symbol board-eistulko-write-integer-frame.ended (board-eistulko-write-integer-frame.clauses w.𝓛 w.𝓜.mem w.𝓡.returns) (λ κs a g r q ws vs. facts (λ x y. let e = once.one_write x y in (e.1, ap (λ l. (tt, (tt, (l, tt)))) e.0)))
      ∷ function board-eistulko-write-opening-is.symbol board-eistulko-write-opening.ended (board-eistulko-write-opening.clauses w.𝓛 w.𝓜.mem w.𝓡.returns) (λ κs a g r q ws vs. facts (λ x y. let e = once.one_write x y in (e.1, ap (λ l. (l, tt)) e.0)))
      ∷ function board-eistulko-connection-size-is.symbol board-eistulko-connection-size.ended (board-eistulko-connection-size.clauses w.𝓛 w.𝓜.mem w.𝓡.returns) (λ κs a g r q ws vs. equal)
      ∷ function board-eistulko-record-size-is.symbol board-eistulko-record-size.ended (board-eistulko-record-size.clauses w.𝓛 w.𝓜.mem w.𝓡.returns) (λ κs a g r q ws vs. equal)
      ∷ function board-eistulko-report-size-is.symbol board-eistulko-report-size.ended (board-eistulko-report-size.clauses w.𝓛 w.𝓜.mem w.𝓡.returns) (λ κs a g r q ws vs. equal)
      ∷ function board-eistulko-written-size-is.symbol board-eistulko-written-size.ended (board-eistulko-written-size.clauses w.𝓛 w.𝓜.mem w.𝓡.returns) (λ κs a g r q ws vs. equal)
      ∷ []

  -- all of them, by the name in the source
  abbrev pub functions : List Function
  functions = of_codes ++ (of_varint ++ (of_ids ++ (of_wire ++ (of_settings ++ (of_fields ++ (of_section ++ (of_streams ++ (of_record ++ (of_given_lem ++ (of_oneway ++ (of_control ++ (of_requests ++ (of_doors ++ (of_oneways ++ (of_connection ++ (of_board))))))))))))))))

  pub listed : ◌≡◌ {A = List Symbol} (map (λ (f : Function). f.name) functions)
      ("rules::codes::House::number" ∷ "rules::codes::Code::number" ∷
      "varint::fresh" ∷ "varint::read_step" ∷ "varint::ends" ∷ "varint::value" ∷ "varint::read" ∷ "varint::size" ∷ "varint::put" ∷ "varint::write" ∷
      "wire::ids::is_request" ∷ "wire::write_header" ∷ "wire::write_integer_frame" ∷ "wire::write_opening" ∷ "wire::write_goaway" ∷
      "control::settings::judge" ∷ "control::settings::only" ∷
      "fields::has_byte" ∷ "fields::begins_with" ∷ "fields::same_bytes" ∷ "fields::Table::any_outside" ∷ "fields::Table::bad_line" ∷ "fields::decimal_of" ∷ "fields::Table::line_spot" ∷ "fields::line_at" ∷
      "section::reason_code" ∷ "section::code" ∷ "section::Fault::number" ∷ "section::header_section" ∷ "section::trailers" ∷ "section::FaultFromUnreadable::from" ∷
      "frames::Place::rule" ∷ "frames::Event::number" ∷ "frames::end" ∷
      "record::cells_in" ∷ "record::free" ∷ "record::is_free" ∷ "record::is_part" ∷ "record::is_sane" ∷ "record::read" ∷ "record::row" ∷ "record::write" ∷ "record::in_content" ∷
      "requests::given::give" ∷
      "oneway::Event::number" ∷ "oneway::close" ∷
      "control::judge" ∷
      "requests::reset" ∷ "requests::end" ∷ "requests::feed" ∷ "requests::give" ∷
      "connection::doors::fresh" ∷ "connection::doors::open" ∷ "connection::doors::send_goaway" ∷
      "oneway::calls::fresh" ∷ "oneway::calls::feed" ∷ "oneway::calls::give" ∷ "oneway::calls::close" ∷
      "connection::fresh" ∷ "connection::wanted" ∷ "connection::answer" ∷ "connection::decide" ∷ "connection::begin" ∷ "connection::swept" ∷ "connection::say_goaway" ∷ "connection::ReportFromReply::from" ∷ "connection::ReportFromHeard::from" ∷ "connection::WrittenFromResultUsizeU64::from" ∷
      "calls::step" ∷ "calls::eistulko_start" ∷ "calls::eistulko_open" ∷ "calls::eistulko_feed" ∷ "calls::eistulko_give" ∷ "calls::eistulko_end" ∷ "calls::eistulko_reset" ∷ "calls::eistulko_goaway" ∷ "calls::eistulko_write_header" ∷ "calls::eistulko_write_integer_frame" ∷ "calls::eistulko_write_opening" ∷ "calls::eistulko_connection_size" ∷ "calls::eistulko_record_size" ∷ "calls::eistulko_report_size" ∷ "calls::eistulko_written_size" ∷ [])
  listed = refl

  -- ---- and those that do not

  -- a short way that may decline leaves one answer where it is taken
  abbrev pub LeavesOneIf : (T : kit.Ended) → Clauses w.𝓤 T → ((κs : Lfts T.signature.lifetimes) → Res T.signature κs → Type 0) → Type 1
  LeavesOneIf T c Taken = (κs : Lfts T.signature.lifetimes) (a : Args T.signature κs) (g : (c κs a).ghost) (r q : Res T.signature κs) (ws vs : Lasts T κs a)
      → ent w.𝓤 (sep w.𝓤 ((c κs a).ensures g r (at_exit T κs a ws)) ((c κs a).ensures g q (at_exit T κs a vs))) (fact w.𝓤 (Taken κs r → Taken κs q → (r ≡ q) × (ws ≡ vs)))

  pub request_taken : LeavesOneIf requests-brisk.ended (requests-brisk.clauses w.𝓛 w.𝓜.mem w.𝓡.returns) (λ κs r. IsSome r)
  request_taken κs a g r q ws vs = facts (λ x y s t. (one_content a.0 _ _ x y s t, refl))

  pub connection_taken : LeavesOneIf connection-brisk.ended (connection-brisk.clauses w.𝓛 w.𝓜.mem w.𝓡.returns) (λ κs r. IsSome r)
  connection_taken κs a g r q ws vs = facts (λ x y s t. (one_brief x y s t, refl))

-- `fields::classes` leaves open the bits of an entry that no class reads; `record::in_body` may say no; two are feeds below a record, and three short ways
pub excepted : ◌≡◌ {A = List Symbol} (fields-classes-is.symbol ∷ streams-feed-is.symbol ∷ streams-brisk-is.symbol ∷ record-in-body-is.symbol ∷ oneway-feed-is.symbol ∷ requests-brisk-is.symbol ∷ connection-brisk-is.symbol ∷ [])
    ("fields::classes" ∷ "frames::feed" ∷ "frames::brisk" ∷ "record::in_body" ∷ "oneway::feed" ∷ "requests::brisk" ∷ "connection::brisk" ∷ [])
excepted = refl
