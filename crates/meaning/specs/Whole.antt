-- A request stream is whole exactly if it is legal (rules, Legal). Assumes nothing.
use Rattle.std.proofs.Math.Path.{◌≡◌, refl}
use Rattle.std.proofs.Common.{sym, ◌∙◌, arith}
use Rattle.std.specs.Prelude.{ℕ, ◌+◌, ◌≤◌, ◌↔◌, length}
use mathlib.Core.List.{List, [], ◌∷◌}
use Rattle.std.proofs.Math.Option.{Option}
use Rattle.rules.specs.Block.{Section}
use Rattle.rules.specs.Frames.{Header, Frames, Frames.none as no_more, in_header, in_payload, frame, frames_from}
use Rattle.rules.specs.Reading.{header_section, trailers, content, section, Ruling, refuse, accept, Verdict, whole, fault, waits, Reading, ending, put, ended, Onward, stops, waiting, on, left_by, completed, judge, read_from, read}
use Rattle.rules.specs.Message.{Message, opening, body, trailed, Step, goes, heads, trails, Ended, all_come, lacks, ends, tally}
use Rattle.rules.specs.Request.{Rules, Header as RequestHeader, Header.good as good-header, Header.bad as bad-header, Trailer, Trailer.good as good-trailer, Trailer.bad as bad-trailer, rule, given, headed_by, trailed_by, next_of, end_of_ended, request, headers_limit}
use Rattle.rules.specs.Legal.{Unknown, AddsUp, Unknowns, Rest, Legal}
use Rattle.meaning.specs.MessageLaws.{Fits, fits_zero, fits_less, adds_fits, CarryView, c_refused, c_goes, carry_view, carry_goes, tally_adds, adds_tally}
use Rattle.meaning.specs.RequestLaws.{RuleView, r_refused, r_skipped, r_content, r_header, r_trailers, rule_view, rule_unknown, rule_data, rule_header, rule_trailers}

module _ (R : Rules) where
  -- ---- whole, so legal

  -- what is legal from a message's state on
  abbrev pub LegalFrom : Message → List Section → Frames → Type 0
  LegalFrom opening bl fs = Legal R bl fs
  LegalFrom (body stated sum) bl fs = Rest R stated sum bl fs
  LegalFrom (trailed stated sum) bl fs = AddsUp stated sum × Unknowns fs

  abbrev pub Sound : Message → Type 0
  Sound opening = Unit {0}
  Sound (body stated sum) = Fits stated sum
  Sound (trailed stated sum) = Fits stated sum

  end_whole : (e : Ended) (place : ℕ) → ended (end_of_ended e) place ≡ whole → e ≡ all_come
  unfolding ended end_of_ended
  end_whole all_come place w = refl
  end_whole (lacks r) place w = cc

  module _ (total : ℕ) where
    ends_legal : (m : Message) (bl : List Section) → Sound m → ended (end_of_ended (ends m)) total ≡ whole → LegalFrom m bl no_more
    unfolding ends
    ends_legal opening bl s w = let e = end_whole _ total w in let z : ◌≡◌ {A = ℕ} 0 1 = cc in absurd (omega arith)
    ends_legal (body stated sum) bl s w = Rest.end (tally_adds stated sum s (end_whole _ total w))
    ends_legal (trailed stated sum) bl s w = (tally_adds stated sum s (end_whole _ total w), Unknowns.end)

    unknown_legal : (h : Header) (payload : List ℕ) (fs : Frames) (m : Message) (bl : List Section) → Unknown h.type → LegalFrom m bl fs → LegalFrom m bl (frame h payload fs)
    unknown_legal h payload fs opening bl u l = Legal.unknown u l
    unknown_legal h payload fs (body stated sum) bl u l = Rest.unknown u l
    unknown_legal h payload fs (trailed stated sum) bl u l = (l.0, Unknowns.unknown u l.1)

    -- how frames behind one are judged
    abbrev pub Behind : Frames → Type 0
    Behind fs = (m : Message) (bl : List Section) → Sound m → (judge (request R) total m bl fs).verdict ≡ whole → LegalFrom m bl fs

    data_legal : (h : Header) (payload : List ℕ) (fs : Frames) (m q : Message) (bl : List Section) → h.type ≡ 0 → Behind fs → {s : Step} → CarryView h.len m s → s ≡ goes q
        → (judge (request R) total q bl fs).verdict ≡ whole → LegalFrom m bl (frame h payload fs)
    data_legal h payload fs m q bl z ih c_refused e w = let y : ◌≡◌ {A = ℕ} 0 1 = cc in absurd (omega arith)
    data_legal h payload fs (body stated sum) q bl z ih (c_goes f) e w =
        let y : q ≡ body stated (sum + h.len) = cc in
        Rest.data· z (ih (body stated (sum + h.len)) bl f (rw y at w))

    onward_verdict : (fs : Frames) (at : ℕ) → Onward Message → Verdict
    onward_verdict fs at (stops code) = fault code at
    onward_verdict fs at waiting = waits at
    onward_verdict fs at (on r rest says) = (judge (request R) total r rest fs).verdict

    header_legal : {h : Header} {payload : List ℕ} {fs : Frames} (b : Section) (bl : List Section) (at : ℕ) → h.type ≡ 1 → h.len ≤ headers_limit → Behind fs
        → (x : RequestHeader) → R.header b ≡ x → onward_verdict fs at (left_by (request R) bl [] (headed_by x opening)) ≡ whole → Legal R (b ∷ bl) (frame h payload fs)
    unfolding onward_verdict left_by headed_by next_of heads
    header_legal b bl at z l ih (bad-header code) e w = let y : ◌≡◌ {A = ℕ} 0 1 = cc in absurd (omega arith)
    header_legal b bl at z l ih (good-header stated) e w = Legal.headers z l e (ih (body stated 0) bl (fits_zero stated) w)

    trailers_legal : {h : Header} {payload : List ℕ} {fs : Frames} (b : Section) (bl : List Section) (at : ℕ) (stated : Option ℕ) (sum : ℕ) → h.type ≡ 1 → h.len ≤ headers_limit
        → Fits stated sum → Behind fs
        → (x : Trailer) → R.trailer b ≡ x → onward_verdict fs at (left_by (request R) bl [] (trailed_by x (body stated sum))) ≡ whole → Rest R stated sum (b ∷ bl) (frame h payload fs)
    unfolding onward_verdict left_by trailed_by next_of trails
    trailers_legal b bl at stated sum z l f ih (bad-trailer code) e w = let y : ◌≡◌ {A = ℕ} 0 1 = cc in absurd (omega arith)
    trailers_legal b bl at stated sum z l f ih good-trailer e w = let k = ih (trailed stated sum) bl f w in Rest.trailers z l e k.0 k.1

    onward_judge : (fs : Frames) (at : ℕ) (o : Onward Message)
        → (elim o as (λ y. Reading) [ stops code ↦ ending (fault code at) | waiting ↦ ending (waits at) | on r rest says ↦ put says (judge (request R) total r rest fs) ]).verdict ≡ onward_verdict fs at o
    unfolding onward_verdict put
    onward_judge fs at (stops code) = refl
    onward_judge fs at waiting = refl
    onward_judge fs at (on r rest says) = refl

    frame_legal : (h : Header) (payload : List ℕ) (fs : Frames) (m : Message) (bl : List Section) → Behind fs → Sound m
        → {x : Ruling Message} → RuleView h.type h.len m x → rule m h.type h.len ≡ x
        → (judge (request R) total m bl (frame h payload fs)).verdict ≡ whole → LegalFrom m bl (frame h payload fs)
    unfolding judge put completed
    frame_legal h payload fs m bl ih s r_refused q w = let v = rw (q, judge) at w in let z : ◌≡◌ {A = ℕ} 0 1 = cc in absurd (omega arith)
    frame_legal h payload fs m bl ih s (r_skipped u) q w = unknown_legal h payload fs m bl u (ih m bl s (rw (q, judge) at w))
    frame_legal h payload fs m bl ih s (r_content {q = p} z e) q w = data_legal h payload fs m p bl z ih (carry_view h.len m) e (rw (q, judge) at w)
    frame_legal h payload fs opening [] ih s (r_header z l) q w = let v = rw (q, judge) at w in let y : ◌≡◌ {A = ℕ} 0 1 = cc in absurd (omega arith)
    frame_legal h payload fs opening (b ∷ bl) ih s (r_header z l) q w =
        header_legal b bl (h.from + h.len) z l ih (R.header b) refl (sym (onward_judge fs (h.from + h.len) (left_by (request R) bl [] (headed_by (R.header b) opening))) ∙ unfold given in (rw (q, judge) at w))
    frame_legal h payload fs (body stated sum) [] ih s (r_trailers z l) q w = let v = rw (q, judge) at w in let y : ◌≡◌ {A = ℕ} 0 1 = cc in absurd (omega arith)
    frame_legal h payload fs (body stated sum) (b ∷ bl) ih s (r_trailers z l) q w =
        trailers_legal b bl (h.from + h.len) stated sum z l s ih (R.trailer b) refl
        (sym (onward_judge fs (h.from + h.len) (left_by (request R) bl [] (trailed_by (R.trailer b) (body stated sum)))) ∙ unfold given in (rw (q, judge) at w))

    cut_legal : (h : Header) (part : List ℕ) (m : Message) (bl : List Section) → (x : Ruling Message) → rule m h.type h.len ≡ x
        → (judge (request R) total m bl (in_payload h part)).verdict ≡ whole → LegalFrom m bl (in_payload h part)
    unfolding judge put
    cut_legal h part m bl (refuse code) q w = let v = rw (q, judge) at w in let z : ◌≡◌ {A = ℕ} 0 1 = cc in absurd (omega arith)
    cut_legal h part m bl (accept u p) q w = let v = rw (q, judge) at w in let z : ◌≡◌ {A = ℕ} 0 1 = cc in absurd (omega arith)

    pub whole_legal : (fs : Frames) → Behind fs
    unfolding judge
    whole_legal no_more m bl s w = ends_legal m bl s w
    whole_legal in_header m bl s w = let z : ◌≡◌ {A = ℕ} 0 1 = cc in absurd (omega arith)
    whole_legal (in_payload h part) m bl s w = cut_legal h part m bl (rule m h.type h.len) refl w
    whole_legal (frame h payload fs) m bl s w = frame_legal h payload fs m bl (whole_legal fs) s (rule_view m h.type h.len) refl w

    -- ---- legal, so whole

    pub rest_fits : {stated : Option ℕ} {sum : ℕ} {bl : List Section} {fs : Frames} → Rest R stated sum bl fs → Fits stated sum
    rest_fits {stated} {sum} (Rest.end a) = adds_fits stated sum a
    rest_fits (Rest.unknown u r) = rest_fits r
    rest_fits {stated} {sum} (Rest.data· {h = h} z r) = fits_less stated sum h.len (rest_fits r)
    rest_fits {stated} {sum} (Rest.trailers z l t a u) = adds_fits stated sum a

    adds_end : (stated : Option ℕ) (sum : ℕ) → AddsUp stated sum → ended (end_of_ended (tally stated sum)) total ≡ whole
    adds_end stated sum a = let e = adds_tally stated sum a in rw e (unfold ended end_of_ended in refl)

    unknowns_whole : (stated : Option ℕ) (sum : ℕ) (bl : List Section) → AddsUp stated sum → {fs : Frames} → Unknowns fs → (judge (request R) total (trailed stated sum) bl fs).verdict ≡ whole
    unfolding judge put completed ends
    unknowns_whole stated sum bl a Unknowns.end = adds_end stated sum a
    unknowns_whole stated sum bl a (Unknowns.unknown {h} u r) = let q = rule_unknown (trailed stated sum) h.type h.len u in rw (q, judge) (unknowns_whole stated sum bl a r)

    rest_whole : {stated : Option ℕ} {sum : ℕ} {bl : List Section} {fs : Frames} → Rest R stated sum bl fs → (judge (request R) total (body stated sum) bl fs).verdict ≡ whole
    unfolding judge put completed ends given left_by trailed_by next_of trails
    rest_whole {stated} {sum} (Rest.end a) = adds_end stated sum a
    rest_whole {stated} {sum} (Rest.unknown {h = h} u r) = let q = rule_unknown (body stated sum) h.type h.len u in rw (q, judge) (rest_whole r)
    rest_whole {stated} {sum} (Rest.data· {h = h} z r) =
        let q : rule (body stated sum) h.type h.len ≡ accept content (body stated (sum + h.len)) = rw z (rule_data (body stated sum) h.len (carry_goes stated sum h.len (rest_fits r))) in
        rw (q, judge) (rest_whole r)
    rest_whole {stated} {sum} (Rest.trailers {sections = bl} {h = h} z l t a u) =
        let q : rule (body stated sum) h.type h.len ≡ accept (section trailers) (body stated sum) = rw z (rule_trailers stated sum h.len l) in
        rw (q, judge, t) (unknowns_whole stated sum bl a u)

    legal_whole : {bl : List Section} {fs : Frames} → Legal R bl fs → (judge (request R) total opening bl fs).verdict ≡ whole
    unfolding judge put completed given left_by headed_by next_of heads
    legal_whole (Legal.unknown {h = h} u r) = let q = rule_unknown opening h.type h.len u in rw (q, judge) (legal_whole r)
    legal_whole (Legal.headers {h = h} z l e r) =
        let q : rule opening h.type h.len ≡ accept (section header_section) opening = rw z (rule_header h.len l) in
        rw (q, judge, e) (rest_whole r)

  -- WHOLE EXACTLY IF LEGAL
  pub whole_iff_legal : (blocks : List Section) (bytes : List ℕ) → ((read (request R) blocks bytes).verdict ≡ whole) ↔ Legal R blocks (frames_from 0 bytes)
  unfolding read read_from
  whole_iff_legal blocks bytes = (λ w. whole_legal (length bytes) (frames_from 0 bytes) opening blocks tt w, λ l. legal_whole (length bytes) l)
