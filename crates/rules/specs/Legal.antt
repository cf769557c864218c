-- The legal request, said a second time and apart from the rules that find the first fault: which frames it has, and which sections.
--     unknown* HEADERS (DATA or unknown)* [HEADERS unknown*]
-- All frames are complete. Assumes nothing.
use Rattle.std.specs.Prelude.{◌≡◌, ℕ, ◌+◌, ◌≤◌, ◌<◌, List, ◌∷◌}
use Rattle.std.proofs.Math.Option.{Option, none, some}
use Rattle.rules.specs.Block.{Section}
use Rattle.rules.specs.Frames.{Header, Frames, Frames.none as no_more, frame}
use Rattle.rules.specs.Message.{content_limit}
use Rattle.rules.specs.Request.{Rules, Header.good as good-header, Trailer.good as good-trailer, headers_limit}

-- unknown is every type but 0 to 9 and 13
unfoldable pub Unknown : (type : ℕ) → Type 0
Unknown t = (9 < t) × (t ≡ 13 → ⊥)

-- where n is stated, the DATA lengths add up to n, else to no more than the limit
unfoldable pub AddsUp : (stated : Option ℕ) (sum : ℕ) → Type 0
AddsUp (some n) sum = sum ≡ n
AddsUp none sum = sum ≤ content_limit

-- unknown*
pub data Unknowns : Frames → Type 0 where
  end : Unknowns no_more
  unknown : {h : Header} {payload : List ℕ} {fs : Frames} → Unknown h.type → Unknowns fs → Unknowns (frame h payload fs)

module _ (R : Rules) where
  -- (DATA or unknown)* [HEADERS unknown*], behind a header section that states this and DATA of this sum
  pub data Rest (stated : Option ℕ) : (sum : ℕ) → List Section → Frames → Type 0 where
    end : {sum : ℕ} {sections : List Section} → AddsUp stated sum → Rest stated sum sections no_more
    unknown : {sum : ℕ} {sections : List Section} {h : Header} {payload : List ℕ} {fs : Frames}
        → Unknown h.type → Rest stated sum sections fs → Rest stated sum sections (frame h payload fs)
    data· : {sum : ℕ} {sections : List Section} {h : Header} {payload : List ℕ} {fs : Frames}
        → h.type ≡ 0 → Rest stated (sum + h.len) sections fs → Rest stated sum sections (frame h payload fs)
    trailers : {sum : ℕ} {s : Section} {sections : List Section} {h : Header} {payload : List ℕ} {fs : Frames}
        → h.type ≡ 1 → h.len ≤ headers_limit → R.trailer s ≡ good-trailer → AddsUp stated sum → Unknowns fs
        → Rest stated sum (s ∷ sections) (frame h payload fs)

  pub data Legal : List Section → Frames → Type 0 where
    unknown : {sections : List Section} {h : Header} {payload : List ℕ} {fs : Frames}
        → Unknown h.type → Legal sections fs → Legal sections (frame h payload fs)
    headers : {s : Section} {sections : List Section} {stated : Option ℕ} {h : Header} {payload : List ℕ} {fs : Frames}
        → h.type ≡ 1 → h.len ≤ headers_limit → R.header s ≡ good-header stated → Rest stated 0 sections fs
        → Legal (s ∷ sections) (frame h payload fs)
