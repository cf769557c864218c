-- WHAT A FEED'S REPORT SAYS: one with the number 0 is the report of an accepted feed, of as many bytes and headers as it has, and of one event (but for the
-- numbers of settings, for which a report has no room). What the trace's answer says of these holds of them. Assumes nothing.
use Rattle.std.specs.Prelude.{◌≡◌, refl, ℕ, List, [], ◌∷◌, true, false}
use Rattle.std.proofs.Common.{sym, ap, subst, ◌∙◌, arith}
use Rattle.std.proofs.Math.Option.{none}
use Rattle.rules.specs.Text.{lookup}
use Rattle.rules.specs.Numbers as table
use Rattle.rules.specs.Numbers.{House, house_number}
use Rattle.meaning.specs.NumberLaws.{refusal_named, code_high}
use Rattle.rules.specs.Calls.{qpack_bytes, settings, client_goaway, max_push_id, Event, quiet, section_bytes, content_bytes, notice, done, fed, feed, on, Answer, gave, left, house, code, call, run, fresh}
use Rattle.record.specs.declared.Record.{Record}
use Rattle.connection.specs.declared.Connection.{Connection}
use Rattle.connection.specs.declared.Report.{Report}
use Rattle.calls.specs.Promises.{Fed}
use Rattle.demands.specs.Demands.{Calls}
use Rattle.demands.specs.Parts.{Bounded, KeepsTo, parts}
use Rattle.demands.specs.Means.{noticed, reported, report_of}
use Rattle.demands.specs.Runs.{Seen, feeds}
use Rattle.demands.specs.Host.{Run, reports}

-- ---- DEFINITION

-- AN ACCEPTED FEED is what this reports: of as many bytes and headers as it has, and with an event; and this holds of them
pub record ReportsFed (r : Report) (So : (used heads : ℕ) → Event → Type 0) : Type 0 where
  pub event : Event
  pub read_as : r ≡ report_of (gave (fed r.used r.heads event))
  pub so : So r.used r.heads event

-- ---- there is no choice in the event

-- without the numbers of settings
abbrev pub plain : Event → Event
plain quiet = quiet
plain (section_bytes from len last) = section_bytes from len last
plain (content_bytes from len) = content_bytes from len
plain (notice (qpack_bytes type from len)) = notice (qpack_bytes type from len)
plain (notice (settings size capacity blocked)) = notice (settings none 0 0)
plain (notice (client_goaway id)) = notice (client_goaway id)
plain (notice (max_push_id id)) = notice (max_push_id id)

abbrev event_in : Report → Event
event_in r =
    lookup (
    (1, content_bytes r.start r.len)
    ∷ (2, section_bytes r.start r.len false)
    ∷ (3, section_bytes r.start r.len true)
    ∷ (7, notice (qpack_bytes r.value r.start r.len))
    ∷ (8, notice (settings none 0 0))
    ∷ (9, notice (client_goaway r.value))
    ∷ (10, notice (max_push_id r.value))
    ∷ []
    ) quiet r.event

-- a report has the bytes, the headers and the event
record Has (used heads : ℕ) (e : Event) (r : Report) : Type 0 where
  bytes : r.used ≡ used
  headers : r.heads ≡ heads
  event : event_in r ≡ plain e

has : (u h : ℕ) (e : Event) → Has u h e (report_of (gave (fed u h e)))
unfolding report_of reported noticed lookup
has u h quiet = record { bytes = refl; headers = refl; event = refl }
has u h (content_bytes from len) = record { bytes = refl; headers = refl; event = refl }
has u h (section_bytes from len true) = record { bytes = refl; headers = refl; event = refl }
has u h (section_bytes from len false) = record { bytes = refl; headers = refl; event = refl }
has u h (notice (qpack_bytes type from len)) = record { bytes = refl; headers = refl; event = refl }
has u h (notice (settings size capacity blocked)) = record { bytes = refl; headers = refl; event = refl }
has u h (notice (client_goaway id)) = record { bytes = refl; headers = refl; event = refl }
has u h (notice (max_push_id id)) = record { bytes = refl; headers = refl; event = refl }

-- ONE EVENT: two accepted feeds with one report used the same bytes, finished as many headers and have the same event, but for the numbers of settings
pub one_event_lem : (u h u' h' : ℕ) (e e' : Event) → report_of (gave (fed u h e)) ≡ report_of (gave (fed u' h' e')) → (u ≡ u') × (h ≡ h') × (plain e ≡ plain e')
one_event_lem u h u' h' e e' q =
    let a = has u h e in
    let b = subst (Has u' h' e') (sym q) (has u' h' e') in
    (sym a.bytes ∙ b.bytes, sym a.headers ∙ b.headers, sym a.event ∙ b.event)

-- ---- of the trace's answer

not_zero : (n : House) → house_number n ≡ 0 → ⊥
unfolding table.named table.named_in table.number_of
not_zero n e = let q : table.refusal n ≡ table.accepted = sym (refusal_named n) ∙ ap table.named e in let z : ◌≡◌ {A = ℕ} 0 1 = cc in omega arith

-- a number of 0 is reported of an accepted feed alone
accepted : (allow : ℕ) (piece : List ℕ) (a : Answer) → KeepsTo allow piece a → (report_of a).number ≡ 0 → (e : Event) × (a ≡ gave (fed (report_of a).used (report_of a).heads e))
unfolding report_of
accepted allow piece (gave done) b z = absurd b
accepted allow piece (gave (fed u h e)) b z = let i = has u h e in (e, sym (ap (λ x. gave (fed x (reported u h e).heads e)) i.bytes ∙ ap (λ x. gave (fed u x e)) i.headers))
accepted allow piece (left l) b z = absurd b
accepted allow piece (house n) b z = absurd (not_zero n z)
accepted allow piece (code k u h) b z = let l = code_high k in absurd (omega arith)

fed_by : (So : (used heads : ℕ) → Event → Type 0) (allow : ℕ) (piece : List ℕ) (a : Answer) → KeepsTo allow piece a → ((u h : ℕ) (e : Event) → a ≡ gave (fed u h e) → So u h e) → (report_of a).number ≡ 0 → ReportsFed (report_of a) So
fed_by So allow piece a b f z = let i = accepted allow piece a b z in record { event = i.0; read_as = ap report_of i.1; so = f (report_of a).used (report_of a).heads i.0 i.1 }

bounded_by : (allow : ℕ) (piece : List ℕ) (a : Answer) → KeepsTo allow piece a → Bounded allow piece (report_of a).used (report_of a).heads
unfolding report_of
bounded_by allow piece (gave done) b = absurd b
bounded_by allow piece (gave (fed u h e)) b = let i = has u h e in record { fits = omega (arith, i.bytes, b.0.fits); allowed = omega (arith, i.headers, b.0.allowed) }
bounded_by allow piece (left l) b = absurd b
bounded_by allow piece (house n) b = record { fits = omega arith; allowed = omega arith }
bounded_by allow piece (code k u h) b = b

module _ {ks : Calls} {xs : List Seen} {c : Connection} {rows : List Record} {id allow : ℕ} {piece : List ℕ} {r : Report} {c' : Connection} {rows' : List Record} (s : Run ks xs c rows) (m : Fed c rows id piece allow c' rows' r) where
  -- WHAT HOLDS OF THE TRACE'S ANSWER to a feed, where that accepts it, holds of a report with the number 0
  pub reports_fed : {So : (used heads : ℕ) → Event → Type 0} → ((u h : ℕ) (e : Event) → (call (on id (feed allow piece)) (run fresh ks)).answer ≡ gave (fed u h e) → So u h e) → r.number ≡ 0 → ReportsFed r So
  reports_fed {So} f =
      let k = on id (feed allow piece) in
      subst (λ r. r.number ≡ 0 → ReportsFed r So) (sym (reports s k (feeds m))) (fed_by So allow piece (call k (run fresh ks)).answer (parts ks id allow piece) f)

  -- and every report is of no more bytes than the piece has, and no more headers than allowed
  pub reports_bounded : Bounded allow piece r.used r.heads
  reports_bounded =
      let k = on id (feed allow piece) in
      subst (λ r. Bounded allow piece r.used r.heads) (sym (reports s k (feeds m))) (bounded_by allow piece (call k (run fresh ks)).answer (parts ks id allow piece))
