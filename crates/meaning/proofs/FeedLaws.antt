-- How a feed goes (Feed) by whole headers and whole payloads, as an engine reads them. For every grammar. Assumes nothing.
use Rattle.std.proofs.Math.Path.{◌≡◌, refl, ap}
use Rattle.std.proofs.Common.{sym, ◌∙◌}
use Prim.Native.Nat.{ℕ, zero, suc, ◌+◌, ◌-◌, ◌*◌, ◌%◌, ◌≤◌, min}
use native.Mathlib.Omega.{arith}
use mathlib.Core.List.{List, [], ◌∷◌, ◌++◌, append_assoc, append-nil}
use Rattle.std.proofs.Math.ListN.{length}
use Rattle.std.specs.Prelude.{take, drop}
use Rattle.rules.specs.Integers.{cut, got, more, extra, integer}
use Rattle.rules.specs.Reading.{Part, Kept, content, skipped, section, kept, Grammar}
use Rattle.meaning.specs.Machine.{Prog, fresh, going, value, after, fed, State, in_type, in_length, in_payload, due, lives, between, typed, over, with_left}
use Rattle.meaning.specs.Feed.{quiet, Feeding, halt, also, onward, left_event, behind_header, taking, feed}
use Rattle.meaning.specs.IntegerLaws.{more_length, integer_length}
use Rattle.meaning.specs.FeedLaws.{past, past_none, past_past, also_past, also_is}

module _ (G : Grammar) where
  -- ---- a header that is all there

  type_feeds : (n : ℕ) (p : G.P) (k v at : ℕ) (bs : List ℕ) {t here : ℕ} {rest : List ℕ} → more k v at bs ≡ got t here rest
      → feed G (suc n) (typed p (after k v)) bs ≡ past (here - at) 0 (feed G (suc n) (in_length t fresh p) rest)
  unfolding more typed after fed feed
  type_feeds n p zero v at bs {t} {here} {rest} e =
      let w : v ≡ t = cc in
      let r : bs ≡ rest = cc in
      let y : at ≡ here = cc in
      let z : here - at ≡ 0 = omega arith in
      rw (w, r, z) (sym (past_none (feed G (suc n) (in_length t fresh p) rest)))
  type_feeds n p (suc k) v at [] e = let z : ◌≡◌ {A = ℕ} 0 1 = cc in absurd (omega arith)
  type_feeds n p (suc k) v at (b ∷ bs) {t} {here} {rest} e =
      let l = more_length k (v * 256 + b) (suc at) bs e in
      let z : here - at ≡ suc (here - suc at) = omega arith in
      ap (also 0) (type_feeds n p k (v * 256 + b) (suc at) bs e) ∙ also_past (here - suc at) 0 0 _ ∙ rw z refl

  -- behind a type
  length_feeds : (n t : ℕ) (p : G.P) (k v at : ℕ) (bs : List ℕ) {len from : ℕ} {pay : List ℕ} → more k v at bs ≡ got len from pay
      → ◌≡◌ {A = Feeding G.P} (elim (after k v) [
        | going g ↦ also 0 (feed G (suc n) (in_length t g p) bs)
        | value l ↦ also 1 (behind_header G l (G.rule p t l) (λ s. feed G n s bs))
      ])
      (past (suc (from - at)) 1 (behind_header G len (G.rule p t len) (λ s. feed G n s pay)))
  unfolding more after fed feed
  length_feeds n t p zero v at bs {len} {from} {pay} e =
      let w : v ≡ len = cc in
      let r : bs ≡ pay = cc in
      let y : at ≡ from = cc in
      let z : from - at ≡ 0 = omega arith in
      rw (w, r, z) (also_is 1 _)
  length_feeds n t p (suc k) v at [] e = let z : ◌≡◌ {A = ℕ} 0 1 = cc in absurd (omega arith)
  length_feeds n t p (suc k) v at (b ∷ bs) {len} {from} {pay} e =
      let l = more_length k (v * 256 + b) (suc at) bs e in
      let z : from - at ≡ suc (from - suc at) = omega arith in
      ap (also 0) (length_feeds n t p k (v * 256 + b) (suc at) bs e) ∙ also_past (suc (from - suc at)) 0 1 _ ∙ rw z refl

  length_whole : (n t : ℕ) (p : G.P) (at : ℕ) (bs : List ℕ) {len from : ℕ} {pay : List ℕ} → integer at bs ≡ got len from pay
      → feed G (suc n) (in_length t fresh p) bs ≡ past (from - at) 1 (behind_header G len (G.rule p t len) (λ s. feed G n s pay))
  unfolding integer fed feed
  length_whole n t p at [] e = let z : ◌≡◌ {A = ℕ} 0 1 = cc in absurd (omega arith)
  length_whole n t p at (b ∷ bs) {len} {from} {pay} e =
      let l = more_length (extra b) (b % 64) (suc at) bs e in
      let z : from - at ≡ suc (from - suc at) = omega arith in
      rw z (length_feeds n t p (extra b) (b % 64) (suc at) bs e)

  -- A WHOLE HEADER: its bytes, one header, and what is behind it
  pub header_whole : (n : ℕ) (p : G.P) (at : ℕ) (bs : List ℕ) {t here len from : ℕ} {rest pay : List ℕ} → integer at bs ≡ got t here rest → integer here rest ≡ got len from pay
      → feed G (suc n) (between p) bs ≡ past (from - at) 1 (behind_header G len (G.rule p t len) (λ s. feed G n s pay))
  unfolding integer fed feed
  header_whole n p at [] e f = let z : ◌≡◌ {A = ℕ} 0 1 = cc in absurd (omega arith)
  header_whole n p at (b ∷ bs) {t} {here} {len} {from} {rest} {pay} e f =
      let l = more_length (extra b) (b % 64) (suc at) bs e in
      let m = integer_length here rest f in
      let z : suc (here - suc at) + (from - here) ≡ from - at = omega arith in
      ap (also 0) (type_feeds n p (extra b) (b % 64) (suc at) bs e) ∙ also_past (here - suc at) 0 0 _
      ∙ ap (past (suc (here - suc at)) 0) (length_whole n t p here rest f) ∙ past_past (suc (here - suc at)) 0 (from - here) 1 _ ∙ rw z refl

  -- ---- a skipped payload

  -- that is all there
  pub skip_whole : (n : ℕ) (p : G.P) (l : ℕ) (k bs : List ℕ) → suc l ≤ length bs → feed G n (in_payload skipped k l p) bs ≡ past (suc l) 0 (feed G n (between p) (drop (suc l) bs))
  unfolding feed onward with_left over
  skip_whole n p l k [] h = absurd (omega arith)
  skip_whole n p zero k (b ∷ bs) h = also_is 0 _
  skip_whole n p (suc l) k (b ∷ bs) h = ap (also 0) (skip_whole n p l [] bs (omega arith)) ∙ also_past (suc l) 0 0 _

  -- that the piece ends in
  pub skip_short : (n : ℕ) (p : G.P) (l : ℕ) (bs : List ℕ) → length bs ≤ l
      → feed G n (in_payload skipped [] l p) bs ≡ record { used = length bs; heads = 0; event = quiet; after = lives (in_payload skipped [] (l - length bs) p) }
  unfolding feed halt onward with_left also
  skip_short n p l [] h = let z : l - 0 ≡ l = omega arith in rw z refl
  skip_short n p zero (b ∷ bs) h = absurd (omega arith)
  skip_short n p (suc l) (b ∷ bs) h =
      let i = skip_short n p l bs (omega arith) in
      let z : suc l - suc (length bs) ≡ l - length bs = omega arith in
      rw (i, z) refl

  -- ---- a kept payload

  -- that is all there: judged, and an event or a fault
  pub kept_whole : (n : ℕ) (p : G.P) (f : Kept) (l : ℕ) (k bs : List ℕ) → suc l ≤ length bs → let all = k ++ take (suc l) bs in
      feed G n (in_payload (kept f) k l p) bs ≡ past (suc l) 0 (onward (left_event G (kept f) all 0 p) (with_left G (kept f) all 0 p) (λ s. feed G n s (drop (suc l) bs)))
  unfolding feed onward left_event with_left
  kept_whole n p f l k [] h = absurd (omega arith)
  kept_whole n p f zero k (b ∷ bs) h = also_is 0 _
  kept_whole n p f (suc l) k (b ∷ bs) h =
      let a = append_assoc k (b ∷ []) (take (suc l) bs) in
      ap (also 0) (kept_whole n p f l (k ++ (b ∷ [])) bs (omega arith)) ∙ also_past (suc l) 0 0 _ ∙ rw a refl

  -- that the piece ends in
  pub kept_short : (n : ℕ) (p : G.P) (f : Kept) (l : ℕ) (k bs : List ℕ) → length bs ≤ l
      → feed G n (in_payload (kept f) k l p) bs ≡ record { used = length bs; heads = 0; event = quiet; after = lives (in_payload (kept f) (k ++ bs) (l - length bs) p) }
  unfolding feed halt onward left_event with_left also
  kept_short n p f l k [] h = let z : l - 0 ≡ l = omega arith in let a = append-nil k in rw (z, a) refl
  kept_short n p f zero k (b ∷ bs) h = absurd (omega arith)
  kept_short n p f (suc l) k (b ∷ bs) h =
      let i = kept_short n p f l (k ++ (b ∷ [])) bs (omega arith) in
      let z : suc l - suc (length bs) ≡ l - length bs = omega arith in
      let a = append_assoc k (b ∷ []) bs in
      rw (i, z, a) refl

  -- ---- a header a byte at a time, where a piece cuts it

  pub type_byte : (n : ℕ) (g : Prog) (p : G.P) (b : ℕ) (bs : List ℕ) → feed G (suc n) (in_type g p) (b ∷ bs) ≡ past 1 0 (feed G (suc n) (typed p (fed g b)) bs)
  unfolding feed
  type_byte n g p b bs = also_is 0 _

  pub length_byte : (n t : ℕ) (g : Prog) (p : G.P) (b : ℕ) (bs : List ℕ) {g' : Prog} → fed g b ≡ going g'
      → feed G (suc n) (in_length t g p) (b ∷ bs) ≡ past 1 0 (feed G (suc n) (in_length t g' p) bs)
  unfolding feed
  length_byte n t g p b bs e = rw (e, feed) (also_is 0 _)

  pub last_byte : (n t : ℕ) (g : Prog) (p : G.P) (b : ℕ) (bs : List ℕ) {len : ℕ} → fed g b ≡ value len
      → feed G (suc n) (in_length t g p) (b ∷ bs) ≡ past 1 1 (behind_header G len (G.rule p t len) (λ s. feed G n s bs))
  unfolding feed
  last_byte n t g p b bs e = rw (e, feed) (also_is 1 _)

  -- no allowance, nothing left, or a section due
  pub feed_nothing : (n : ℕ) (s : State G.P) → feed G n s [] ≡ halt quiet (lives s)
  unfolding feed
  feed_nothing n s = refl

  pub feed_held : (g : Prog) (p : G.P) (bs : List ℕ) → feed G zero (in_type g p) bs ≡ halt quiet (lives (in_type g p))
  unfolding feed
  feed_held g p [] = refl
  feed_held g p (b ∷ bs) = refl

  pub feed_held_length : (t : ℕ) (g : Prog) (p : G.P) (bs : List ℕ) → feed G zero (in_length t g p) bs ≡ halt quiet (lives (in_length t g p))
  unfolding feed
  feed_held_length t g p [] = refl
  feed_held_length t g p (b ∷ bs) = refl

  pub feed_due : (n : ℕ) (t : Part) (p : G.P) (bs : List ℕ) → feed G n (due t p) bs ≡ halt quiet (lives (due t p))
  unfolding feed
  feed_due n t p [] = refl
  feed_due n t p (b ∷ bs) = refl

  -- ---- content and sections: a part to the end of the payload or the piece

  pub content_feed : (n : ℕ) (k : List ℕ) (left : ℕ) (p : G.P) (b : ℕ) (bs : List ℕ)
      → let j = min left (length bs) in feed G n (in_payload content k left p) (b ∷ bs) ≡ taking G content j (left - j) p
  unfolding feed
  content_feed n k left p b bs = refl

  pub section_feed : (n : ℕ) (t : Part) (k : List ℕ) (left : ℕ) (p : G.P) (b : ℕ) (bs : List ℕ)
      → let j = min left (length bs) in feed G n (in_payload (section t) k left p) (b ∷ bs) ≡ taking G (section t) j (left - j) p
  unfolding feed
  section_feed n t k left p b bs = refl

-- ---- a header that is not whole is not finished

module _ (G : Grammar) (n : ℕ) (p : G.P) where
  type_cut : (k v at : ℕ) (bs : List ℕ) → more k v at bs ≡ cut → (feed G (suc n) (typed p (after k v)) bs).heads ≡ 0
  unfolding more typed after fed feed halt also
  type_cut zero v at bs e = let z : ◌≡◌ {A = ℕ} 0 1 = cc in absurd (omega arith)
  type_cut (suc k) v at [] e = refl
  type_cut (suc k) v at (b ∷ bs) e = let i = type_cut k (v * 256 + b) (suc at) bs e in omega arith

  length_cut : (t k v at : ℕ) (bs : List ℕ) → more k v at bs ≡ cut
      → (elim (after k v) as (λ x. Feeding G.P) [
        | going g ↦ also 0 (feed G (suc n) (in_length t g p) bs)
        | value l ↦ also 1 (behind_header G l (G.rule p t l) (λ s. feed G n s bs))
      ]).heads ≡ 0
  unfolding more after fed feed halt also
  length_cut t zero v at bs e = let z : ◌≡◌ {A = ℕ} 0 1 = cc in absurd (omega arith)
  length_cut t (suc k) v at [] e = refl
  length_cut t (suc k) v at (b ∷ bs) e = let i = length_cut t k (v * 256 + b) (suc at) bs e in omega arith

  second_cut : (t at : ℕ) (bs : List ℕ) → integer at bs ≡ cut → (feed G (suc n) (in_length t fresh p) bs).heads ≡ 0
  unfolding integer fed feed halt
  second_cut t at [] e = refl
  second_cut t at (b ∷ bs) e = length_cut t (extra b) (b % 64) (suc at) bs e

  pub unfinished_type : (at : ℕ) (bs : List ℕ) → integer at bs ≡ cut → (feed G (suc n) (between p) bs).heads ≡ 0
  unfolding integer fed feed halt also
  unfinished_type at [] e = refl
  unfinished_type at (b ∷ bs) e = let i = type_cut (extra b) (b % 64) (suc at) bs e in omega arith

  pub unfinished_length : (at : ℕ) (bs : List ℕ) {t here : ℕ} {rest : List ℕ} → integer at bs ≡ got t here rest → integer here rest ≡ cut → (feed G (suc n) (between p) bs).heads ≡ 0
  unfolding integer fed feed also past
  unfinished_length at [] e f = let z : ◌≡◌ {A = ℕ} 0 1 = cc in absurd (omega arith)
  unfinished_length at (b ∷ bs) {t} {here} {rest} e f =
      let i = ap (λ x. x.heads) (type_feeds G n p (extra b) (b % 64) (suc at) bs e) in
      let j = second_cut t here rest f in
      omega arith
