-- The lines read one by one are the listing. Assumes nothing.
use Prim.Native.Nat.{ℕ, zero, suc, ◌+◌, ◌-◌, ◌≤◌, ◌<◌}
use Rattle.std.proofs.Math.Path.{◌≡◌, refl, sym, ap}
use Rattle.std.proofs.Common.{◌∙◌, ltb→lt, nltb→le, drop-drop}
use mathlib.Core.List.{List, [], ◌∷◌, ◌++◌, map}
use Rattle.std.specs.Prelude.{Bool, true, false, ltb, length, take, drop}
use Rattle.std.proofs.Math.Option.{Option, none}
use native.Mathlib.Omega.{arith}
use Rattle.std.proofs.Math.ListN.{length-drop}
use Rattle.rules.specs.Numbers.{FRAME-ERROR, Code, of_connection, frame_error}
use Rattle.rules.specs.Block.{Section}
use Rattle.rules.specs.Integers.{got, integer}
use Rattle.rules.specs.Frames.{Header, Frames, Frames.none as no_more, in_header, in_payload, frame, frames_up_to, frames_from}
use Rattle.rules.specs.Reading.{Use, content, skipped, section, kept, header_section, trailers, Ruling, refuse, accept, End, complete, lacking, Verdict, fault, Saying, content_byte, section_byte, Reading, ending, put, told, ended, Onward, on, left_by, completed, judge, read_from, read, accepted}
use Rattle.rules.specs.Reading as rules
use Rattle.rules.specs.Message.{Message, opening, body, trailed, Step, goes, heads, trails, ends}
use Rattle.rules.specs.Request.{Rules, Header.good as good-header, Trailer.good as good-trailer, request, all_sound, rule, given, headed_by, trailed_by, next_of, end_of_ended}
use Rattle.meaning.specs.IntegerLaws.{integer_length, integer_rest}
use Rattle.meaning.specs.MessageLaws.{CarryView, c_refused, c_goes, carry_view}
use Rattle.meaning.specs.RequestLaws.{RuleView, r_skipped, r_content, r_header, r_trailers, rule_view}
use Rattle.meaning.specs.FrameLaws.{head, View, cut_type, cut_length, cut_payload, a_frame, view, enough}
use Rattle.listing.specs.Listing.{Entry, heading, refused, too_long, frame_of, last_of, entries_of, reading, limit, listing}
use Rattle.listing.specs.Listing as lister
use Rattle.listing.specs.Lines.{phase_number, place, first, message_of, after, usage_of, use_of, line_of, ruled_line, end_of, end_line, line_in, entry_of, behind as what-follows, with_rest, lines_from}
use Rattle.listing.specs.At.{frames_none, line_too_long, line_heading, line_cut_payload, inside}
use Rattle.std.specs.Prelude.{Some}
use Rattle.listing.specs.declared.Phase.TheVariants.{Opening}
use Rattle.listing.specs.declared.Place.{Place}
use Rattle.frames.specs.Modes.{TRAILED}

-- payload bytes are no headers
contents_none : (bytes : List ℕ) (xs : List Saying) → accepted (map content_byte bytes ++ xs) ≡ accepted xs
unfolding accepted
contents_none [] xs = refl
contents_none (b ∷ bytes) xs = contents_none bytes xs

sections_none : (bytes : List ℕ) (xs : List Saying) → accepted (map section_byte bytes ++ xs) ≡ accepted xs
unfolding accepted
sections_none [] xs = refl
sections_none (b ∷ bytes) xs = sections_none bytes xs

told_none : (u : Use) (bytes : List ℕ) (xs : List Saying) → accepted (told u bytes ++ xs) ≡ accepted xs
unfolding told
told_none content bytes xs = contents_none bytes xs
told_none skipped bytes xs = refl
told_none (section t) bytes xs = sections_none bytes xs
told_none (kept k) bytes xs = refl

-- an accepted header, and the reading behind it
entries_frame : (total : ℕ) (h : Header) (u : Use) (bytes : List ℕ) (r : Reading)
    → entries_of total (put (rules.header h u ∷ told u bytes) r) ≡ lister.frame h.at h.type h.len u ∷ entries_of total r
unfolding entries_of put accepted frame_of
entries_frame total h u bytes r = let e = told_none u bytes r.said in rw e

-- what is behind an integer in the input
rest_at : (s : List ℕ) (at : ℕ) {t next : ℕ} {rest : List ℕ} → integer at (drop at s) ≡ got t next rest → rest ≡ drop next s
rest_at s at {next = next} e =
    let l = integer_length at (drop at s) e in
    let a : at + (next - at) ≡ next = omega arith in
    integer_rest at (drop at s) e ∙ drop-drop (next - at) at s ∙ ap (λ x. drop x s) a

drop_on : (s : List ℕ) (at : ℕ) {t here len from : ℕ} {rest pay : List ℕ} → integer at (drop at s) ≡ got t here rest → integer here rest ≡ got len from pay → drop len pay ≡ drop (from + len) s
drop_on s at {here = here} {len = len} {from = from} e f =
    let r = rest_at s at e in
    let q = rest_at s here (ap (integer here) (sym r) ∙ f) in
    ap (drop len) q ∙ drop-drop len from s

frames_same : (fuel at : ℕ) (xs : List ℕ) {ys : List ℕ} → xs ≡ ys → length xs ≤ fuel → frames_from at ys ≡ frames_up_to fuel at xs
unfolding frames_from
frames_same fuel at xs e h = ap (frames_from at) (sym e) ∙ enough (length xs) fuel at xs (omega arith) h

-- By any rules that find two sections sound, the first without Content-Length, whatever sections follow.
module _ (R : Rules) (a b : Section) (others : List Section) (head-sound : R.header a ≡ good-header none) (trailer-sound : R.trailer b ≡ good-trailer) where
  -- the sections that are left
  abbrev left : Message → List Section
  left opening = a ∷ b ∷ others
  left (body stated sum) = b ∷ others
  left (trailed stated sum) = others

  abbrev says : (total : ℕ) → Message → Frames → List Entry
  says total m fs = entries_of total (judge (request R) total m (left m) fs)

  -- ---- a complete payload

  record Behind (u : Use) (q : Message) (payload : List ℕ) (m : Message) (to : ℕ) (p : Place) : Type 0 where
    goes_on : completed (request R) u q payload (left m) ≡ on (message_of (phase_number p.phase) p.sum) (left (message_of (phase_number p.phase) p.sum)) []
    same_use : use_of (usage_of u) ≡ u
    at_end : p.at ≡ to
    listed : phase_number p.phase ≤ TRAILED

  -- DATA goes on only behind the header section
  carried : (phase sum len : ℕ) {m q : Message} {s : Step} → message_of phase sum ≡ m → CarryView len m s → s ≡ goes q
      → (q ≡ message_of phase (sum + len)) × (left m ≡ left (message_of phase (sum + len)))
  unfolding message_of
  carried phase sum len h c_refused e = let z : ◌≡◌ {A = ℕ} 0 1 = cc in absurd (omega arith)
  carried zero sum len h (c_goes f) e = let z : ◌≡◌ {A = ℕ} 0 1 = cc in absurd (omega arith)
  carried (suc zero) sum len {q = q} h (c_goes {stated = st} {sum = n} f) e =
      let i : none ≡ st = cc in
      let j : sum ≡ n = cc in
      let k : q ≡ body st (n + len) = cc in
      (k ∙ rw (i, j) refl, refl)
  carried (suc (suc k)) sum len h (c_goes f) e = let z : ◌≡◌ {A = ℕ} 0 1 = cc in absurd (omega arith)

  behind_header : (payload : List ℕ) → completed (request R) (section header_section) opening payload (a ∷ b ∷ others) ≡ on (body none 0) (b ∷ others) []
  unfolding completed left_by given headed_by next_of heads
  behind_header payload = rw head-sound

  behind_trailers : (stated : Option ℕ) (sum : ℕ) (payload : List ℕ) → completed (request R) (section trailers) (body stated sum) payload (b ∷ others) ≡ on (trailed stated sum) others []
  unfolding completed left_by given trailed_by next_of trails
  behind_trailers stated sum payload = rw trailer-sound

  trailers_on : (phase sum : ℕ) {stated : Option ℕ} {n : ℕ} → message_of phase sum ≡ body stated n → trailed stated n ≡ message_of 2 sum
  unfolding message_of
  trailers_on zero sum e = let z : ◌≡◌ {A = ℕ} 0 1 = cc in absurd (omega arith)
  trailers_on (suc zero) sum {stated} {n} e = let i : none ≡ stated = cc in let j : sum ≡ n = cc in rw (i, j) refl
  trailers_on (suc (suc k)) sum e = let z : ◌≡◌ {A = ℕ} 0 1 = cc in absurd (omega arith)

  behind : (t len : ℕ) {m q : Message} {u : Use} (payload : List ℕ) (to : ℕ) (p : Place) → phase_number p.phase ≤ TRAILED → message_of (phase_number p.phase) p.sum ≡ m → RuleView t len m (accept u q)
      → Behind u q payload m to (after u to len p)
  unfolding completed after use_of usage_of message_of
  behind t len payload to p h e (r_skipped n) = record { goes_on = rw e refl; same_use = refl; at_end = refl; listed = h }
  behind t len {m = m} payload to p h e (r_content z c) =
      let k = carried (phase_number p.phase) p.sum len e (carry_view len m) c in
      let i = k.0 in
      let j = k.1 in
      record { goes_on = rw (i, j) refl; same_use = refl; at_end = refl; listed = h }
  behind t len payload to p h e (r_header z l) = record { goes_on = behind_header payload; same_use = refl; at_end = refl; listed = omega arith }
  behind t len payload to p h e (r_trailers {stated = st} {sum = n} z l) =
      record { goes_on = behind_trailers st n payload ∙ rw (trailers_on (phase_number p.phase) p.sum e) refl; same_use = refl; at_end = refl; listed = omega arith }

  -- ---- the line at a place, and what the rules say from there

  module _ (total : ℕ) (p : Place) (listed : phase_number p.phase ≤ TRAILED) (rest : Place → List Entry) where
    end_line_lem : (e : End) → with_rest rest (end_of total e) ≡ entries_of total (ending (ended e total))
    unfolding entry_of what-follows end_of entries_of ended accepted last_of
    end_line_lem complete = refl
    end_line_lem (lacking code) = refl

    line_none : with_rest rest (line_in total p no_more) ≡ says total (message_of (phase_number p.phase) p.sum) no_more
    unfolding line_in end_line judge
    line_none = end_line_lem (end_of_ended (ends (message_of (phase_number p.phase) p.sum)))

    line_in_header : with_rest rest (line_in total p in_header) ≡ says total (message_of (phase_number p.phase) p.sum) in_header
    unfolding line_in judge entry_of what-follows entries_of accepted last_of
    line_in_header = refl

    module _ (at from t len : ℕ) where
      refused-line : (code : Code) → with_rest rest (line_of p (head at from t len) (refuse code)) ≡ entries_of total (put (rules.refused (head at from t len) ∷ []) (ending (fault code from)))
      unfolding entry_of what-follows line_of entries_of put accepted last_of
      refused-line code = refl

      -- its payload is whole or cut; r is the reading behind it
      accepted-line : (u : Use) (q : Message) (bytes : List ℕ) (r : Reading) → use_of (usage_of u) ≡ u → rest (after u (from + len) len p) ≡ entries_of total r
          → with_rest rest (line_of p (head at from t len) (accept u q)) ≡ entries_of total (put (rules.header (head at from t len) u ∷ told u bytes) r)
      unfolding entry_of what-follows line_of
      accepted-line u q bytes r e f = ap (λ x. lister.frame at t len x ∷ rest (after u (from + len) len p)) e ∙ ap (λ x. lister.frame at t len u ∷ x) f ∙ sym (entries_frame total (head at from t len) u bytes r)

      abbrev m : Message
      m = message_of (phase_number p.phase) p.sum

      cut_line : (part : List ℕ) → ((next : Place) → next.at ≡ from + len → phase_number next.phase ≤ TRAILED → rest next ≡ refused total FRAME-ERROR ∷ [])
          → (r : Ruling Message) → RuleView t len m r
          → with_rest rest (line_of p (head at from t len) r) ≡ entries_of total (elim r [
            | refuse code ↦ put (rules.refused (head at from t len) ∷ []) (ending (fault code from))
            | accept u q ↦ put (rules.header (head at from t len) u ∷ told u part) (ending (fault (of_connection frame_error) total))
          ])
      unfolding entries_of accepted last_of
      cut_line part ih (refuse code) v = refused-line code
      cut_line part ih (accept u q) v =
          let k = behind t len part (from + len) p listed refl v in
          accepted-line u q part (ending (fault (of_connection frame_error) total)) k.same_use (ih (after u (from + len) len p) k.at_end k.listed)

      line-in-payload : (part : List ℕ) → ((next : Place) → next.at ≡ from + len → phase_number next.phase ≤ TRAILED → rest next ≡ refused total FRAME-ERROR ∷ [])
          → with_rest rest (line_in total p (in_payload (head at from t len) part)) ≡ says total m (in_payload (head at from t len) part)
      unfolding line_in ruled_line judge
      line-in-payload part ih = cut_line part ih (rule m t len) (rule_view m t len)

      module _ (payload : List ℕ) (fs : Frames) (ih : (next : Place) → next.at ≡ from + len → phase_number next.phase ≤ TRAILED → rest next ≡ says total (message_of (phase_number next.phase) next.sum) fs) where
        abbrev onward : Onward Message → Reading
        onward o = elim o [
          | rules.Onward.stops code ↦ ending (fault code (from + len))
          | rules.Onward.waiting ↦ ending (rules.Verdict.waits (from + len))
          | on r ss xs ↦ put xs (judge (request R) total r ss fs)
        ]

        on-with : {o : Onward Message} {r : Message} {ss : List Section} → o ≡ on r ss [] → entries_of total (judge (request R) total r ss fs) ≡ entries_of total (onward o)
        unfolding put entries_of
        on-with e = rw e refl

        whole-line : (r : Ruling Message) → RuleView t len m r
            → with_rest rest (line_of p (head at from t len) r) ≡ entries_of total (elim r [
              | refuse code ↦ put (rules.refused (head at from t len) ∷ []) (ending (fault code from))
              | accept u q ↦ put (rules.header (head at from t len) u ∷ told u payload) (onward (completed (request R) u q payload (left m)))
            ])
        whole-line (refuse code) v = refused-line code
        whole-line (accept u q) v =
            let k = behind t len payload (from + len) p listed refl v in
            accepted-line u q payload (onward (completed (request R) u q payload (left m))) k.same_use
            (ih (after u (from + len) len p) k.at_end k.listed ∙ on-with k.goes_on)

        line_frame : with_rest rest (line_in total p (frame (head at from t len) payload fs)) ≡ says total m (frame (head at from t len) payload fs)
        unfolding line_in ruled_line judge
        line_frame = whole-line (rule m t len) (rule_view m t len)

  -- ---- from line to line

  module _ (s : List ℕ) (short : length s ≤ 65_536) where
    abbrev total : ℕ
    total = length s

    record Read (most : ℕ) (p : Place) : Type 0 where
      within : p.at ≤ total → lines_from most s p ≡ says total (message_of (phase_number p.phase) p.sum) (frames_from p.at (drop p.at s))
      beyond : total < p.at → lines_from most s p ≡ refused total FRAME-ERROR ∷ []

    module _ (k : ℕ) (read_on : (p : Place) → phase_number p.phase ≤ TRAILED → 0 < k → total < k + p.at → Read k p) (p : Place) (listed : phase_number p.phase ≤ TRAILED) where
      lines-view : (b : ℕ) (bs : List ℕ) → drop p.at s ≡ b ∷ bs → p.at + length (b ∷ bs) ≡ total → total ≤ k + p.at → {fs : Frames} → View (length bs) p.at (b ∷ bs) fs
          → with_rest (lines_from k s) (line_in total p fs) ≡ says total (message_of (phase_number p.phase) p.sum) fs
      lines-view b bs d n l (cut_type e) = line_in_header total p listed (lines_from k s)
      lines-view b bs d n l (cut_length e f) = line_in_header total p listed (lines_from k s)
      lines-view b bs d n l (cut_payload {t = t} {here = here} {len = len} {from = from} {rest = rest} {pay = pay} e f c) =
          let i = integer_length p.at (b ∷ bs) e in
          let j = integer_length here rest f in
          line-in-payload total p listed (lines_from k s) p.at from t len pay
          (λ next a g. (read_on next g (omega arith) (omega arith)).beyond (omega arith))
      lines-view b bs d n l (a_frame {t = t} {here = here} {len = len} {from = from} {rest = rest} {pay = pay} e f c) =
          let i = integer_length p.at (b ∷ bs) e in
          let j = integer_length here rest f in
          let x = length-drop len pay in
          let on-there : drop len pay ≡ drop (from + len) s = drop_on s p.at (ap (integer p.at) d ∙ e) f in
          let same = frames_same (length bs) (from + len) (drop len pay) on-there (omega arith) in
          line_frame total p listed (lines_from k s) p.at from t len (take len pay) (frames_up_to (length bs) (from + len) (drop len pay))
          (λ next a g. (read_on next g (omega arith) (omega arith)).within (omega arith) ∙ ap (λ x. says total (message_of (phase_number next.phase) next.sum) (frames_from x (drop x s))) a ∙ ap (says total (message_of (phase_number next.phase) next.sum)) same)

      lines-in : (bs : List ℕ) → drop p.at s ≡ bs → p.at + length bs ≡ total → total ≤ k + p.at
          → with_rest (lines_from k s) (line_in total p (frames_from p.at bs)) ≡ says total (message_of (phase_number p.phase) p.sum) (frames_from p.at bs)
      unfolding frames_from
      lines-in [] d n l = rw (frames_none p.at [] (omega arith)) (line_none total p listed (lines_from k s))
      lines-in (b ∷ bs) d n l = lines-view b bs d n l (view (length bs) p.at b bs)

    lines : (most : ℕ) (p : Place) → phase_number p.phase ≤ TRAILED → 0 < most → total < most + p.at → Read most p
    unfolding lines_from entry_of what-follows
    lines zero p h k l = absurd (omega arith)
    lines (suc k) p h z l = record {
      within = λ w. (let d = length-drop p.at s in ap (with_rest (lines_from k s)) (inside s p short h w) ∙ lines-in k (lines k) p h (drop p.at s) refl (omega arith) (omega arith));
      beyond = λ w. ap (with_rest (lines_from k s)) (sym (line_cut_payload s p short h w));
    }

    -- from the heading on
    pub lines_by : (most : ℕ) → length s + 1 < most → lines_from most s first ≡ heading ∷ entries_of (length s) (read (request R) (a ∷ b ∷ others) s)
    unfolding lines_from entry_of what-follows read read_from message_of
    lines_by zero h = absurd (omega arith)
    lines_by (suc k) h =
        ap (with_rest (lines_from k s)) (sym (line_heading s first short (omega arith)))
        ∙ ap (λ x. heading ∷ x) ((lines k (place 0 (Some Opening) 0) (omega arith) (omega arith) (omega arith)).within (omega arith))

-- THE LINES READ ONE BY ONE ARE THE LISTING: `next` from `start` on, each time from where the line before says, gives just the lines of the listing,
-- the last one too; one more step than the input has bytes, and one for the heading, is always enough.
pub lists : (s : List ℕ) (most : ℕ) → length s + 1 < most → lines_from most s first ≡ listing s
unfolding listing limit reading lines_from entry_of what-follows all_sound
lists s zero h = absurd (omega arith)
lists s (suc k) h = go (ltb 65_536 (length s)) refl
  where
    go : (x : Bool) → ltb 65_536 (length s) ≡ x
        → lines_from (suc k) s first ≡ elim x [ true ↦ too_long ∷ [] | false ↦ heading ∷ entries_of (length s) (reading s) ]
    go true e = ap (with_rest (lines_from k s)) (sym (line_too_long s first (ltb→lt 65_536 (length s) (rw e tt))))
    go false e = lines_by (all_sound none) [] [] [] refl refl s (nltb→le 65_536 (length s) (rw e tt)) (suc k) h

-- WHAT THE SECTIONS HOLD DOES NOT MATTER: by document 01's own rules, or any, with any two sections that these find sound, the first without
-- Content-Length, the reading's accepted headers and verdict are those that the listing has.
pub any_sections : (R : Rules) (a b : Section) (others : List Section) → R.header a ≡ good-header none → R.trailer b ≡ good-trailer
    → (s : List ℕ) → length s ≤ limit → listing s ≡ heading ∷ entries_of (length s) (read (request R) (a ∷ b ∷ others) s)
unfolding limit
any_sections R a b others ha hb s h =
    sym (lists s (length s + 2) (omega arith)) ∙ lines_by R a b others ha hb s h (length s + 2) (omega arith)
