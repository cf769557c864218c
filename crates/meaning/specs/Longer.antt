-- DEMAND 3: what a longer request stream can add to one that is whole and states a Content-Length. Assumes nothing.
use Rattle.std.specs.Prelude.{◌≡◌, Bool, true, false, not, ◌&&◌, eqb, length}
use Prim.Native.Nat.{ℕ, suc, ◌≤◌}
use mathlib.Core.List.{List, [], ◌∷◌, ◌++◌}
use Rattle.rules.specs.Block.{Section}
use Rattle.rules.specs.Frames.{Header, Frames, Frames.none as no_more, in_header, in_payload, frame, frames_from}
use Rattle.rules.specs.Reading.{Reading, contents, header_bytes}
use Rattle.rules.specs.Request.{Rules, Trailer.good as good-trailer, headers_limit}
use Rattle.rules.specs.Legal.{Unknown}

-- ---- the statement

-- no HEADERS among some frames; none behind the first
unfoldable pub no_headers : Frames → Bool
no_headers no_more = true
no_headers in_header = true
no_headers (in_payload h part) = not (eqb h.type 1)
no_headers (frame h payload fs) = not (eqb h.type 1) && no_headers fs

unfoldable pub no_trailers : Frames → Bool
no_trailers no_more = true
no_trailers in_header = true
no_trailers (in_payload h part) = true
no_trailers (frame h payload fs) = elim (eqb h.type 1) [ true ↦ no_headers fs | false ↦ no_trailers fs ]

-- how many HEADERS frames there are
unfoldable pub count_headers : Frames → ℕ
count_headers no_more = 0
count_headers in_header = 0
count_headers (in_payload h part) = 0
count_headers (frame h payload fs) = elim (eqb h.type 1) [ true ↦ suc (count_headers fs) | false ↦ count_headers fs ]

-- what may be added: frames of unknown type; before trailers, empty DATA; and trailers, once, where there were none
pub data Extra (R : Rules) : (trailersMay : Bool) → List Section → Frames → Type 0 where
  end : {may : Bool} {sections : List Section} → Extra R may sections no_more
  unknown : {may : Bool} {sections : List Section} {h : Header} {payload : List ℕ} {fs : Frames}
      → Unknown h.type → Extra R may sections fs → Extra R may sections (frame h payload fs)
  empty_data : {sections : List Section} {h : Header} {payload : List ℕ} {fs : Frames}
      → h.type ≡ 0 → h.len ≡ 0 → Extra R true sections fs → Extra R true sections (frame h payload fs)
  with_trailers : {s : Section} {sections : List Section} {h : Header} {payload : List ℕ} {fs : Frames}
      → h.type ≡ 1 → h.len ≤ headers_limit → R.trailer s ≡ good-trailer → Extra R false sections fs → Extra R true (s ∷ sections) (frame h payload fs)

-- the longer stream's bytes are s and then t, and these are its sections
pub record Longer (R : Rules) (sections : List Section) (short long : Reading) (s t : List ℕ) : Type 0 where
  pub same_header : header_bytes long.said ≡ header_bytes short.said
  pub same_content : contents long.said ≡ contents short.said
  pub taken : List Section  -- for the HEADERS frames that the shorter one has too
  pub left : List Section
  pub are : sections ≡ taken ++ left
  pub each : length taken ≡ count_headers (frames_from 0 s)
  pub only : Extra R (no_trailers (frames_from 0 s)) left (frames_from (length s) t)

-- ---- what legal frames carry

-- the payloads of DATA, and that of the first HEADERS
unfoldable pub data_of : Frames → List ℕ
data_of no_more = []
data_of in_header = []
data_of (in_payload h part) = []
data_of (frame h payload fs) = elim (eqb h.type 0) [ true ↦ payload ++ data_of fs | false ↦ data_of fs ]

unfoldable pub headers_of : Frames → List ℕ
headers_of no_more = []
headers_of in_header = []
headers_of (in_payload h part) = []
headers_of (frame h payload fs) = elim (eqb h.type 1) [ true ↦ payload | false ↦ headers_of fs ]

-- a reading carries this content and this header section
pub record Carries (r : Reading) (its-data its-header : List ℕ) : Type 0 where
  pub content : contents r.said ≡ its-data
  pub header : header_bytes r.said ≡ its-header

-- ---- what follows a legal request within a longer one

module _ (R : Rules) (n : ℕ) (gs : Frames) where
  -- of some sections, these are taken before gs comes, and gs is extra to what was before it
  pub record Behind (sections : List Section) (count : ℕ) (may : Bool) : Type 0 where
    pub taken : List Section
    pub left : List Section
    pub are : sections ≡ taken ++ left
    pub each : length taken ≡ count
    pub extra : Extra R may left gs
