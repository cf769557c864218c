-- DEMAND 3 of one request stream by itself: what a longer stream adds to a whole one that states a Content-Length (meaning, Longer), for the
-- streams of document 01. Assumes nothing.
use Rattle.std.specs.Prelude.{◌≡◌, refl, ℕ, List, [], ◌∷◌, ◌++◌, length}
use Rattle.std.proofs.Common.{sym, ap₂, ◌∙◌, arith}
use Rattle.std.proofs.Math.Option.{Option, none, some, none-ne-some, some-injective}
use Rattle.rules.specs.Block.{Section, lines}
use Rattle.rules.specs.Frames.{frames_from}
use Rattle.rules.specs.Reading.{Verdict, whole, fault, waits, read, header_bytes}
use Rattle.rules.specs.Request.{document, request, Header.good as good-header}
use Rattle.meaning.specs.Longer.{Extra, no_trailers, count_headers}
use Rattle.meaning.proofs.Longer.{whole_content}
use Rattle.meaning.proofs.Longer as L
use Rattle.traces.specs.Demands.{is_legal, Longer}
use Rattle.demands.specs.Streams.{section_of}
use Rattle.demands.specs.Reading.{sections_of, reading_of, verdict_by, reading}

-- ---- the words of the statement

-- a header section: the bytes of its HEADERS frame, and the section that they decode to
pub record HeaderSection : Type 0 where
  pub bytes : List ℕ
  pub section : Option Section

unfoldable pub first_of : (blocks : List (List ℕ)) → Option Section
first_of [] = none
first_of (b ∷ blocks) = some (section_of (lines b))

abbrev pub header_of : (bytes : List ℕ) (blocks : List (List ℕ)) → HeaderSection
header_of bytes blocks = record { bytes = header_bytes (reading_of bytes blocks).said; section = first_of blocks }

-- it states this Content-Length
unfoldable pub stated_by : ℕ → Option Section → Type 0
stated_by n none = ⊥
stated_by n (some s) = document.header s ≡ good-header (some n)

-- of the longer stream's sections, those for HEADERS frames that the shorter has too, and the rest: frames of unknown type are added; before
-- trailers, empty DATA; and trailers, once, where there were none
pub record Added (bytes more : List ℕ) (blocks : List (List ℕ)) : Type 0 where
  pub taken : List Section
  pub left : List Section
  pub are : sections_of blocks ≡ taken ++ left
  pub each : length taken ≡ count_headers (frames_from 0 bytes)
  pub only : Extra document (no_trailers (frames_from 0 bytes)) left (frames_from (length bytes) more)

-- ---- the proof

pub is_whole : (v : Verdict) → verdict_by v ≡ is_legal → v ≡ whole
unfolding verdict_by
is_whole whole e = refl
is_whole (fault code place) e = let z : ◌≡◌ {A = ℕ} 0 1 = cc in absurd (omega arith)
is_whole (waits place) e = let z : ◌≡◌ {A = ℕ} 0 1 = cc in absurd (omega arith)

first_is : (blocks : List (List ℕ)) (first : Section) → first_of blocks ≡ some first → (rest : List Section) × (sections_of blocks ≡ first ∷ rest)
unfolding first_of sections_of
first_is [] first e = absurd (none-ne-some first e)
first_is (b ∷ blocks) first e = (sections_of blocks, unfold sections_of in (rw (some-injective (section_of (lines b)) first e) refl))

stated_first : (n : ℕ) (o : Option Section) → stated_by n o → (first : Section) × (o ≡ some first) × (document.header first ≡ good-header (some n))
unfolding stated_by
stated_first n none h = absurd h
stated_first n (some s) h = (s, refl, h)

pub longer_of : (n : ℕ) (b more : List ℕ) (s t : List (List ℕ)) → reading.verdict b s ≡ is_legal → reading.verdict (b ++ more) t ≡ is_legal → first_of s ≡ first_of t → stated_by n (first_of s)
    → (header_of b s ≡ header_of (b ++ more) t) × (reading.carried b s ≡ reading.carried (b ++ more) t) × Added b more t
longer_of n b more s t w w2 a st =
    let f = stated_first n (first_of s) st in
    let x = first_is s f.0 f.1 in
    let y = first_is t f.0 (sym a ∙ f.1) in
    let v : (read (request document) (f.0 ∷ x.0) b).verdict ≡ whole = rw x.1 at (is_whole (reading_of b s).verdict w) in
    let v2 : (read (request document) (f.0 ∷ y.0) (b ++ more)).verdict ≡ whole = rw y.1 at (is_whole (reading_of (b ++ more) t).verdict w2) in
    let l = L.longer document f.0 x.0 y.0 b more n f.2 v v2 in
    let h : header_bytes (reading_of b s).said ≡ header_bytes (reading_of (b ++ more) t).said = rw (x.1, y.1) (sym l.same_header) in
    (ap₂ (λ p q. record { bytes = p; section = q }) h a, rw (x.1, y.1) (sym l.same_content), record { taken = l.taken; left = l.left; are = y.1 ∙ l.are; each = l.each; only = l.only })

pub not_half : (n : ℕ) (b : List ℕ) (s : List (List ℕ)) → reading.verdict b s ≡ is_legal → stated_by n (first_of s) → length (reading.carried b s) ≡ n
not_half n b s w st =
    let f = stated_first n (first_of s) st in
    let x = first_is s f.0 f.1 in
    let v : (read (request document) (f.0 ∷ x.0) b).verdict ≡ whole = rw x.1 at (is_whole (reading_of b s).verdict w) in
    rw x.1 (whole_content document f.0 x.0 b n f.2 v)

-- DEMAND 3 OF ONE REQUEST STREAM BY ITSELF. Of the HEADERS frames that both have, only the first must decode alike: nothing said here depends
-- on what trailers decode to.
abbrev pub longer : Longer reading
longer = record {
  Header = HeaderSection;
  header = header_of;
  States = λ n b s. stated_by n (first_of s);
  Alike = λ b s t. first_of s ≡ first_of t;
  Adds = λ b s more t. Added b more t;
  longer = longer_of;
  not_half = not_half;
}
