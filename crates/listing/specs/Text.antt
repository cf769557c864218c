-- The text of a line (document 01, "The writer and the lister"), byte by byte. Assumes nothing.
use Rattle.std.specs.Prelude.{ℕ, zero, suc, ◌+◌, ◌/◌, ◌%◌, List, [], ◌∷◌, ◌++◌, true, false, ltb}
use Rattle.rules.specs.Text.{ascii}
use Rattle.rules.specs.Reading.{Use, content, skipped, section, kept, header_section, trailers}
use Rattle.listing.specs.Listing.{Entry, heading, frame, whole, refused, too_long, listing}

-- a number in decimal; `fuel` bounds its digits
unfoldable pub digits : (fuel n : ℕ) → List ℕ
digits zero n = []
digits (suc k) n = elim (ltb n 10) [ true ↦ (48 + n) ∷ [] | false ↦ digits k (n / 10) ++ ((48 + n % 10) ∷ []) ]

unfoldable pub decimal : ℕ → List ℕ
decimal n = digits (suc n) n

-- a number, and a blank
unfoldable pub spaced : ℕ → List ℕ
spaced n = decimal n ++ ascii " "

-- (a request stream keeps no frame)
unfoldable pub word : Use → List ℕ
word content = ascii "content"
word skipped = ascii "skipped"
word (section header_section) = ascii "header section"
word (section trailers) = ascii "trailers"
word (kept k) = []

abbrev pub line_feed : List ℕ
line_feed = 10 ∷ []

unfoldable pub text_of : Entry → List ℕ
text_of heading = ascii "offset type length use" ++ line_feed
text_of (frame at type len u) = spaced at ++ spaced type ++ spaced len ++ word u ++ line_feed
text_of (whole total) = ascii "end " ++ spaced total ++ (ascii "whole" ++ line_feed)
text_of (refused bytes code) = ascii "refused " ++ spaced bytes ++ decimal code ++ line_feed
text_of too_long = ascii "too long" ++ line_feed

unfoldable pub texts_of : List Entry → List ℕ
texts_of [] = []
texts_of (e ∷ es) = text_of e ++ texts_of es

-- WHAT IS PRINTED of an input
unfoldable pub printed : List ℕ → List ℕ
printed bytes = texts_of (listing bytes)
