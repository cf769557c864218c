-- DEMAND 3: what a longer request stream can add to one that is whole and states a Content-Length. Assumes nothing.
use Rattle.std.specs.Prelude.{◌≡◌, Bool, true, false, eqb, length}
use Rattle.std.proofs.Math.Path.{refl, ap}
use Rattle.std.proofs.Common.{sym, ◌∙◌}
use Prim.Native.Nat.{ℕ, suc, ◌+◌, ◌≤◌, ◌<◌}
use native.Mathlib.Omega.{arith}
use mathlib.Core.List.{List, [], ◌∷◌, ◌++◌, map, append_assoc, append-nil}
use Rattle.std.proofs.Math.Option.{Option, some}
use Rattle.std.proofs.Math.ListN.{length-append}
use Rattle.rules.specs.Block.{Section}
use Rattle.rules.specs.Frames.{Frames, Frames.none as no_more, in_header, in_payload, frame, frames_from}
use Rattle.rules.specs.Reading.{header_section, trailers, content, section, accept, whole, Saying, section_byte, content_byte, put, told, left_by, completed, judge, read_from, read, contents, header_bytes}
use Rattle.rules.specs.Message.{opening, body, trailed, heads, trails}
use Rattle.rules.specs.Request.{Rules, Header.good as good-header, rule, given, headed_by, trailed_by, next_of, request}
use Rattle.rules.specs.Legal.{Unknown, AddsUp, Unknowns, Rest, Legal}
use Rattle.meaning.specs.TextLaws.{is_false}
use Rattle.meaning.specs.MessageLaws.{Fits, carry_goes}
use Rattle.meaning.specs.RequestLaws.{rule_unknown, rule_data, rule_header, rule_trailers}
use Rattle.meaning.specs.FrameLaws.{Complete, AllThere, join, complete_from, frames_append}
use Rattle.meaning.specs.Whole.{rest_fits, whole_iff_legal}
use Rattle.meaning.specs.Longer.{Carries, Behind, no_headers, no_trailers, count_headers, Extra, Longer, data_of, headers_of}

unknown_not : (t k : ℕ) → Unknown t → k ≤ 9 → eqb t k ≡ false
unfolding Unknown
unknown_not t k u h = is_false t k (λ e. omega arith) (eqb t k) refl

content_told : (p : List ℕ) (xs : List Saying) → (contents (map content_byte p ++ xs) ≡ p ++ contents xs) × (header_bytes (map content_byte p ++ xs) ≡ header_bytes xs)
unfolding contents header_bytes
content_told [] xs = (refl, refl)
content_told (b ∷ p) xs = let i = content_told p xs in (ap (λ l. b ∷ l) i.0, i.1)

section_told : (p : List ℕ) (xs : List Saying) → (contents (map section_byte p ++ xs) ≡ contents xs) × (header_bytes (map section_byte p ++ xs) ≡ p ++ header_bytes xs)
unfolding contents header_bytes
section_told [] xs = (refl, refl)
section_told (b ∷ p) xs = let i = section_told p xs in (i.0, ap (λ l. b ∷ l) i.1)

module _ (R : Rules) (total : ℕ) where
  unknowns_carry : (stated : Option ℕ) (sum : ℕ) (sections : List Section) {fs : Frames} → Unknowns fs → Carries (judge (request R) total (trailed stated sum) sections fs) [] []
  unfolding judge put completed told contents header_bytes
  unknowns_carry stated sum sections Unknowns.end = record { content = refl; header = refl }
  unknowns_carry stated sum sections (Unknowns.unknown {h} u r) =
      let q = rule_unknown (trailed stated sum) h.type h.len u in
      let i = unknowns_carry stated sum sections r in
      record { content = rw (q, judge) i.content; header = rw (q, judge) i.header }

  unknowns_data : {fs : Frames} → Unknowns fs → data_of fs ≡ []
  unfolding data_of
  unknowns_data Unknowns.end = refl
  unknowns_data (Unknowns.unknown {h} u r) = let z = unknown_not h.type 0 u (omega arith) in rw (z, data_of) (unknowns_data r)

  rest_carries : {stated : Option ℕ} {sum : ℕ} {sections : List Section} {fs : Frames} → Rest R stated sum sections fs → Carries (judge (request R) total (body stated sum) sections fs) (data_of fs) []
  unfolding judge put completed told contents header_bytes data_of given left_by trailed_by next_of trails
  rest_carries (Rest.end a) = record { content = refl; header = refl }
  rest_carries {stated} {sum} (Rest.unknown {h = h} u r) =
      let q = rule_unknown (body stated sum) h.type h.len u in
      let z = unknown_not h.type 0 u (omega arith) in
      let i = rest_carries r in
      record { content = rw (q, judge, z, data_of) i.content; header = rw (q, judge) i.header }
  rest_carries {stated} {sum} {sections} (Rest.data· {h = h} {payload = payload} {fs = fs} z r) =
      let q : rule (body stated sum) h.type h.len ≡ accept content (body stated (sum + h.len)) = rw z (rule_data (body stated sum) h.len (carry_goes stated sum h.len (rest_fits R total r))) in
      let i = rest_carries r in
      let c = content_told payload (judge (request R) total (body stated (sum + h.len)) sections fs).said in
      record { content = rw (q, judge, z, data_of) (c.0 ∙ ap (λ x. payload ++ x) i.content); header = rw (q, judge) (c.1 ∙ i.header) }
  rest_carries {stated} {sum} (Rest.trailers {sections = sections} {h = h} {payload = payload} {fs = fs} z l t a u) =
      let q : rule (body stated sum) h.type h.len ≡ accept (section trailers) (body stated sum) = rw z (rule_trailers stated sum h.len l) in
      let i = unknowns_carry stated sum sections u in
      let c = section_told payload (judge (request R) total (trailed stated sum) sections fs).said in
      let d = unknowns_data u in
      record { content = rw (q, judge, t, z, data_of, d) (c.0 ∙ i.content); header = rw (q, judge) refl }

  -- a legal request carries the payloads of its DATA and the payload of its first HEADERS
  legal_carries : {sections : List Section} {fs : Frames} → Legal R sections fs → Carries (judge (request R) total opening sections fs) (data_of fs) (headers_of fs)
  unfolding judge put completed told contents header_bytes data_of headers_of given left_by headed_by next_of heads
  legal_carries (Legal.unknown {h = h} u r) =
      let q = rule_unknown opening h.type h.len u in
      let z = unknown_not h.type 0 u (omega arith) in
      let o = unknown_not h.type 1 u (omega arith) in
      let i = legal_carries r in
      record { content = rw (q, judge, z, data_of) i.content; header = rw (q, judge, o, headers_of) i.header }
  legal_carries (Legal.headers {sections = sections} {stated = stated} {h = h} {payload = payload} {fs = fs} z l e r) =
      let q : rule opening h.type h.len ≡ accept (section header_section) opening = rw z (rule_header h.len l) in
      let i = rest_carries r in
      let c = section_told payload (judge (request R) total (body stated 0) sections fs).said in
      record { content = rw (q, judge, e, z, data_of) (c.0 ∙ i.content); header = rw (q, judge, e, z, headers_of) (c.1 ∙ ap (λ x. payload ++ x) i.header ∙ append-nil payload) }

-- ---- what follows a legal request within a longer one

pub legal_there : (R : Rules) {sections : List Section} {fs : Frames} → Legal R sections fs → AllThere fs
legal_there R (Legal.unknown u r) = AllThere.one (legal_there R r)
legal_there R (Legal.headers z l e r) = AllThere.one (rest_there r)
  where
    unknowns_there : {fs : Frames} → Unknowns fs → AllThere fs
    unknowns_there Unknowns.end = AllThere.none
    unknowns_there (Unknowns.unknown u r) = AllThere.one (unknowns_there r)

    rest_there : {stated : Option ℕ} {sum : ℕ} {sections : List Section} {fs : Frames} → Rest R stated sum sections fs → AllThere fs
    rest_there (Rest.end a) = AllThere.none
    rest_there (Rest.unknown u r) = AllThere.one (rest_there r)
    rest_there (Rest.data· z r) = AllThere.one (rest_there r)
    rest_there (Rest.trailers z l t a u) = AllThere.one (unknowns_there u)

unknowns_behind : {fs : Frames} (gs : Frames) → Unknowns fs → Unknowns (join fs gs) → Unknowns gs
unfolding join
unknowns_behind gs Unknowns.end w = w
unknowns_behind gs (Unknowns.unknown u r) (Unknowns.unknown v w) = unknowns_behind gs r w

unknowns_extra : (R : Rules) (sections : List Section) {fs : Frames} → Unknowns fs → Extra R false sections fs
unknowns_extra R sections Unknowns.end = Extra.end
unknowns_extra R sections (Unknowns.unknown u r) = Extra.unknown u (unknowns_extra R sections r)

unknowns_headers : {fs : Frames} → Unknowns fs → count_headers fs ≡ 0
unfolding count_headers
unknowns_headers Unknowns.end = refl
unknowns_headers (Unknowns.unknown {h} u r) = let o = unknown_not h.type 1 u (omega arith) in rw (o, count_headers) (unknowns_headers r)

-- an unknown type is not that of DATA or HEADERS
no_mix : {A : Type 0} (t k : ℕ) → Unknown t → t ≡ k → k ≤ 9 → A
unfolding Unknown
no_mix t k u e h = absurd (omega arith)

no_both : {A : Type 0} (t : ℕ) → t ≡ 0 → t ≡ 1 → A
no_both t z o = absurd (omega arith)

module _ (R : Rules) (n : ℕ) (gs : Frames) where
  -- behind DATA of the sum n, where n is stated, nothing more carries content
  full_extra : {sum : ℕ} {sections : List Section} {fs : Frames} → sum ≡ n → Rest R (some n) sum sections fs → Extra R true sections fs
  full_extra e (Rest.end a) = Extra.end
  full_extra e (Rest.unknown u r) = Extra.unknown u (full_extra e r)
  full_extra {sum} e (Rest.data· {h = h} z r) =
      let f : sum + h.len ≤ n = unfold Fits in rest_fits R 0 r in
      let y : h.len ≡ 0 = omega arith in
      let g : sum + h.len ≡ n = omega arith in
      Extra.empty_data z y (full_extra g r)
  full_extra e (Rest.trailers {sections = sections} z l t a u) = Extra.with_trailers z l t (unknowns_extra R sections u)

  rest_behind : {sum : ℕ} {sections others : List Section} {fs : Frames} → Rest R (some n) sum sections fs → Rest R (some n) sum others (join fs gs) → Behind R n gs others (count_headers fs) (no_headers fs)
  unfolding join no_headers count_headers AddsUp
  rest_behind {others = others} (Rest.end a) w = record { taken = []; left = others; are = refl; each = refl; extra = full_extra a w }
  rest_behind (Rest.unknown {h = h} u r) (Rest.unknown v w) = let o = unknown_not h.type 1 u (omega arith) in rw (o, no_headers, count_headers) (rest_behind r w)
  rest_behind (Rest.unknown {h = h} u r) (Rest.data· z w) = no_mix h.type 0 u z (omega arith)
  rest_behind (Rest.unknown {h = h} u r) (Rest.trailers z l t a w) = no_mix h.type 1 u z (omega arith)
  rest_behind (Rest.data· {h = h} z r) (Rest.unknown v w) = no_mix h.type 0 v z (omega arith)
  rest_behind (Rest.data· {h = h} z r) (Rest.data· y w) = rw (z, no_headers, count_headers) (rest_behind r w)
  rest_behind (Rest.data· {h = h} z r) (Rest.trailers y l t a w) = no_both h.type z y
  rest_behind (Rest.trailers {h = h} z l t a u) (Rest.unknown v w) = no_mix h.type 1 v z (omega arith)
  rest_behind (Rest.trailers {h = h} z l t a u) (Rest.data· y w) = no_both h.type y z
  rest_behind (Rest.trailers {h = h} z l t a u) (Rest.trailers {s = s} {sections = left} y k g b w) =
      let q = unknowns_headers u in
      rw (z, no_headers, count_headers, q) (record { taken = s ∷ []; left = left; are = refl; each = refl; extra = unknowns_extra R left (unknowns_behind gs u w) })

  legal_behind : {first : Section} {sections others : List Section} {fs : Frames} → R.header first ≡ good-header (some n)
      → Legal R (first ∷ sections) fs → Legal R (first ∷ others) (join fs gs) → Behind R n gs (first ∷ others) (count_headers fs) (no_trailers fs)
  unfolding join no_trailers count_headers
  legal_behind e (Legal.unknown {h = h} u r) (Legal.unknown v w) = let o = unknown_not h.type 1 u (omega arith) in rw (o, no_trailers, count_headers) (legal_behind e r w)
  legal_behind e (Legal.unknown {h = h} u r) (Legal.headers z l s w) = no_mix h.type 1 u z (omega arith)
  legal_behind e (Legal.headers {h = h} z l s r) (Legal.unknown v w) = no_mix h.type 1 v z (omega arith)
  legal_behind {first} {sections} {others} e (Legal.headers {stated = x} {h = h} {fs = fs} z l s r) (Legal.headers {stated = y} z2 l2 s2 w) =
      let i : x ≡ some n = cc in
      let j : y ≡ some n = cc in
      let r' : Rest R (some n) 0 sections fs = rw (← i) r in
      let w' : Rest R (some n) 0 others (join fs gs) = rw (← j) w in
      let k = rest_behind r' w' in
      rw (z, no_trailers, count_headers) (record { taken = first ∷ k.taken; left = k.left; are = ap (λ l. first ∷ l) k.are; each = ap suc k.each; extra = k.extra })

-- ---- what is joined to a legal request

join_data : (fs gs : Frames) → AllThere fs → data_of (join fs gs) ≡ data_of fs ++ data_of gs
unfolding join data_of
join_data no_more gs a = refl
join_data in_header gs a = elim a [ ]
join_data (in_payload _ part) gs a = elim a [ ]
join_data (frame h payload fs) gs (AllThere.one a) = go (eqb h.type 0) refl (join_data fs gs a)
  where
    go : (x : Bool) → eqb h.type 0 ≡ x → data_of (join fs gs) ≡ data_of fs ++ data_of gs
        → (elim x as (λ y. List ℕ) [ true ↦ payload ++ data_of (join fs gs) | false ↦ data_of (join fs gs) ])
        ≡ (elim x as (λ y. List ℕ) [ true ↦ payload ++ data_of fs | false ↦ data_of fs ]) ++ data_of gs
    go true e i = ap (λ l. payload ++ l) i ∙ sym (append_assoc payload (data_of fs) (data_of gs))
    go false e i = i

join_headers : (R : Rules) {sections : List Section} {fs : Frames} (gs : Frames) → Legal R sections fs → headers_of (join fs gs) ≡ headers_of fs
unfolding join headers_of
join_headers R gs (Legal.unknown {h = h} u r) = let o = unknown_not h.type 1 u (omega arith) in rw (o, headers_of) (join_headers R gs r)
join_headers R gs (Legal.headers z l e r) = rw (z, headers_of)

empty : (p : List ℕ) → length p ≡ 0 → p ≡ []
empty [] e = refl
empty (b ∷ p) e = absurd (omega arith)

extra_data : (R : Rules) {may : Bool} {sections : List Section} {fs : Frames} → Extra R may sections fs → Complete fs → data_of fs ≡ []
unfolding data_of
extra_data R Extra.end c = refl
extra_data R (Extra.unknown {h = h} u r) (Complete.one l c) = let z = unknown_not h.type 0 u (omega arith) in rw (z, data_of) (extra_data R r c)
extra_data R (Extra.empty_data {payload = p} z y r) (Complete.one l c) = let q = empty p (l ∙ y) in rw (z, data_of, q) (extra_data R r c)
extra_data R (Extra.with_trailers z l t r) (Complete.one k c) = rw (z, data_of) (extra_data R r c)

extra_there : (R : Rules) {may : Bool} {sections : List Section} {fs : Frames} → Extra R may sections fs → AllThere fs
extra_there R Extra.end = AllThere.none
extra_there R (Extra.unknown u r) = AllThere.one (extra_there R r)
extra_there R (Extra.empty_data z y r) = AllThere.one (extra_there R r)
extra_there R (Extra.with_trailers z l t r) = AllThere.one (extra_there R r)

-- ---- the theorem

module _ (R : Rules) (sections : List Section) (bytes : List ℕ) (w : (read (request R) sections bytes).verdict ≡ whole) where
  whole_legal_frames : Legal R sections (frames_from 0 bytes)
  whole_legal_frames = (whole_iff_legal R sections bytes).0 w

  whole_carries : Carries (read (request R) sections bytes) (data_of (frames_from 0 bytes)) (headers_of (frames_from 0 bytes))
  unfolding read read_from
  whole_carries = legal_carries R (length bytes) whole_legal_frames

-- DEMAND 3. Two whole requests, the longer beginning with all the bytes of the shorter, the first HEADERS of both decoding alike, and the header
-- section stating a Content-Length: the same header section and the same content, byte for byte, and no more than trailers where there were none,
-- empty DATA before trailers, and unknown frames added.
pub longer : (R : Rules) (first : Section) (sections others : List Section) (s t : List ℕ) (n : ℕ) → R.header first ≡ good-header (some n)
    → (read (request R) (first ∷ sections) s).verdict ≡ whole → (read (request R) (first ∷ others) (s ++ t)).verdict ≡ whole
    → Longer R (first ∷ others) (read (request R) (first ∷ sections) s) (read (request R) (first ∷ others) (s ++ t)) s t
longer R first sections others s t n states w w2 =
    let fs = frames_from 0 s in
    let z : 0 + length s ≡ length s = omega arith in
    let gs = frames_from (length s) t in
    let l = whole_legal_frames R (first ∷ sections) s w in
    let th = legal_there R l in
    let j : frames_from 0 (s ++ t) ≡ join fs gs = rw z at (frames_append 0 s t th) in
    let l2 : Legal R (first ∷ others) (join fs gs) = rw j at (whole_legal_frames R (first ∷ others) (s ++ t) w2) in
    let b = legal_behind R n gs states l l2 in
    let c = whole_carries R (first ∷ sections) s w in
    let c2 = whole_carries R (first ∷ others) (s ++ t) w2 in
    let d = extra_data R b.extra (complete_from (length s) t (extra_there R b.extra)) in
    record {
      same_header = c2.header ∙ ap headers_of j ∙ join_headers R gs l ∙ sym c.header;
      same_content = c2.content ∙ ap data_of j ∙ join_data fs gs th ∙ ap (λ x. data_of fs ++ x) d ∙ append-nil (data_of fs) ∙ sym c.content;
      taken = b.taken;
      left = b.left;
      are = b.are;
      each = b.each;
      only = b.extra;
    }

-- HALF AN UPLOAD IS NEVER WHOLE: of a whole request that states a Content-Length, no beginning that lacks a byte of its content is whole.
pub half_is_never_whole : (R : Rules) (first : Section) (sections others : List Section) (s t : List ℕ) (n : ℕ) → R.header first ≡ good-header (some n)
    → (read (request R) (first ∷ others) (s ++ t)).verdict ≡ whole
    → length (contents (read (request R) (first ∷ sections) s).said) < length (contents (read (request R) (first ∷ others) (s ++ t)).said)
    → (read (request R) (first ∷ sections) s).verdict ≡ whole → ⊥
half_is_never_whole R first sections others s t n states w2 h w =
    let k = ap length (longer R first sections others s t n states w w2).same_content in omega arith

-- ---- and the content of a whole request is as long as it states

module _ (R : Rules) (n : ℕ) where
  rest_length : {sum : ℕ} {sections : List Section} {fs : Frames} → Rest R (some n) sum sections fs → Complete fs → sum + length (data_of fs) ≡ n
  unfolding data_of AddsUp
  rest_length (Rest.end a) c = omega arith
  rest_length (Rest.unknown {h = h} u r) (Complete.one l c) = let z = unknown_not h.type 0 u (omega arith) in rw (z, data_of) (rest_length r c)
  rest_length (Rest.data· {payload = p} {fs = fs} z r) (Complete.one l c) = let i = rest_length r c in let a = length-append p (data_of fs) in rw (z, data_of) (omega arith)
  rest_length (Rest.trailers z l t a u) (Complete.one k c) = let d = unknowns_data R 0 u in rw (z, data_of, d) (omega arith)

  legal_length : {first : Section} {sections : List Section} {fs : Frames} → R.header first ≡ good-header (some n) → Legal R (first ∷ sections) fs → Complete fs → length (data_of fs) ≡ n
  unfolding data_of
  legal_length e (Legal.unknown {h = h} u r) (Complete.one l c) = let z = unknown_not h.type 0 u (omega arith) in rw (z, data_of) (legal_length e r c)
  legal_length {sections = sections} e (Legal.headers {stated = x} {fs = fs} z l s r) (Complete.one k c) =
      let i : x ≡ some n = cc in
      let r' : Rest R (some n) 0 sections fs = rw (← i) r in
      let m = rest_length r' c in
      rw (z, data_of) (omega arith)

pub whole_content : (R : Rules) (first : Section) (sections : List Section) (bytes : List ℕ) (n : ℕ) → R.header first ≡ good-header (some n)
    → (read (request R) (first ∷ sections) bytes).verdict ≡ whole → length (contents (read (request R) (first ∷ sections) bytes).said) ≡ n
whole_content R first sections bytes n states w =
    let l = whole_legal_frames R (first ∷ sections) bytes w in
    ap length (whole_carries R (first ∷ sections) bytes w).content ∙ legal_length R n states l (complete_from 0 bytes (legal_there R l))
