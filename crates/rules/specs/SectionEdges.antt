-- Edges of Section: each malformed item and its near misses, each order of two faults, the size and one past it.
-- Each list is a claim, computed; what it says was worked out by hand from document 01. Assumes nothing.
use Rattle.std.specs.Prelude.{refl, ◌≡◌, ℕ, ◌-◌, List, [], ◌∷◌, ◌++◌, map, Bool, true, false, replicate}
use Rattle.std.proofs.Math.Option.{none, some}
use Prim.Native.String.{String}
use Rattle.rules.specs.Text.{ascii, nibble, hex_from, hex}
use Rattle.rules.specs.Block.{Line, Section}
use Rattle.rules.specs.Section.{too_large, bad_bytes, other_scheme, at_in_authority, length_past_limit, no_length, size_limit, length_limit, size, line_size}
use Rattle.rules.specs.Request.{document, Header, Header.bad as bad-header, Header.good as good-header, Trailer, Trailer.bad as bad-trailer, Trailer.good as good-trailer}
use Rattle.rules.specs.Numbers.{number_of, rows, named_in, named, code_in, coded}
use Rattle.rules.specs.Worked.{header_section, trailers, header_reason, trailer_reason, header_is, trailer_is, reason_is, Worked, answer, Holds, asks, long}
use Rattle.rules.specs.BlockEdges.{line}
use Rattle.rules.specs.ClassEdges.{passing, digits, names, tokens, below_at, above_at, high, single_values}

-- a field line of two texts; its number and its place in the block are not asked of
infix 75 ◌⇒◌
abbrev pub ◌⇒◌ : (name value : String) → Line
name ⇒ value = line 0 0 (ascii name) (ascii value)

abbrev pub raw : (name value : List ℕ) → Line
raw name value = line 0 0 name value

-- a request with its four pseudo-fields; that of 39 bytes which most others vary
abbrev pub asking : (method scheme authority path : String) → Section
asking method scheme authority path = ":method" ⇒ method ∷ ":scheme" ⇒ scheme ∷ ":authority" ⇒ authority ∷ ":path" ⇒ path ∷ []

abbrev pub get : Section
get = asking "GET" "https" "a" "/"

abbrev pub get_with : Section → Section
get_with more = get ++ more

-- one without `:authority`
abbrev bare : (method scheme path : String) → Section
bare method scheme path = ":method" ⇒ method ∷ ":scheme" ⇒ scheme ∷ ":path" ⇒ path ∷ []

abbrev pub stating : (content_length : String) → Section
stating v = get_with ("content-length" ⇒ v ∷ [])

abbrev header_sections : Header → List Section → List Worked
header_sections h sections = map (λ s. asks (header_section s) (header_is h)) sections

abbrev trailer_sections : Trailer → List Section → List Worked
trailer_sections t sections = map (λ s. asks (trailers s) (trailer_is t)) sections

-- near misses of each rule
abbrev sound : List Section
sound =
    get
    ∷ asking "GET" "http" "a" "/"
    ∷ (":path" ⇒ "/" ∷ ":authority" ⇒ "a" ∷ ":scheme" ⇒ "https" ∷ ":method" ⇒ "GET" ∷ [])
    -- names and values
    ∷ get_with ("x" ⇒ "y" ∷ [])
    ∷ get_with ("x" ⇒ "" ∷ [])
    ∷ get_with ("!#$%&'*+-.^_`|~09az" ⇒ "y" ∷ [])
    ∷ get_with ("x" ⇒ "a b\tc" ∷ [])
    ∷ get_with (raw (ascii "x") (hex "80 FF") ∷ [])
    ∷ get_with ("x" ⇒ "y" ∷ "x" ⇒ "y" ∷ "cookie" ⇒ "a" ∷ "cookie" ⇒ "b" ∷ [])
    ∷ get_with ("method" ⇒ "" ∷ "path" ⇒ "x" ∷ "authority" ⇒ "@" ∷ "scheme" ⇒ "ftp" ∷ "status" ⇒ "200" ∷ [])
    -- beside the five names
    ∷ get_with ("connections" ⇒ "close" ∷ "connectio" ⇒ "close" ∷ "keepalive" ⇒ "1" ∷ "proxy-connections" ⇒ "x" ∷ [])
    ∷ get_with ("transfer-encodin" ⇒ "chunked" ∷ "upgrade-insecure-requests" ⇒ "1" ∷ "upgrad" ⇒ "x" ∷ "proxy-authorization" ⇒ "x" ∷ [])
    -- `te`
    ∷ get_with ("te" ⇒ "trailers" ∷ [])
    ∷ get_with ("te" ⇒ "trailers" ∷ "te" ⇒ "trailers" ∷ [])
    ∷ get_with ("t" ⇒ "gzip" ∷ "tee" ⇒ "gzip" ∷ "te-" ⇒ "" ∷ [])
    -- methods
    ∷ asking "connect" "https" "a" "/"
    ∷ asking "Connect" "https" "a" "/"
    ∷ asking "CONNECTS" "https" "a" "/"
    ∷ asking "CONNEC" "https" "a" "/"
    ∷ asking "!#$%&'*+-.^_`|~09AZaz" "https" "a" "/"
    -- paths
    ∷ asking "OPTIONS" "https" "a" "*"
    ∷ asking "OPTIONS" "https" "a" "/"
    ∷ asking "GET" "https" "a" "/*"
    ∷ asking "GET" "https" "a" "//x?y=z"
    ∷ asking "GET" "https" "a" "/ x"
    ∷ asking "GET" "https" "a" "/#"
    -- `:authority` and `host`
    ∷ (bare "GET" "https" "/" ++ ("host" ⇒ "a" ∷ []))
    ∷ (bare "OPTIONS" "https" "*" ++ ("host" ⇒ "a" ∷ []))
    ∷ (bare "GET" "https" "/" ++ ("host" ⇒ "u@a" ∷ []))
    ∷ (bare "GET" "https" "/" ++ ("host" ⇒ "a b/\"" ∷ []))
    ∷ get_with ("host" ⇒ "a" ∷ [])
    ∷ get_with ("x" ⇒ "y" ∷ "host" ⇒ "a" ∷ [])
    ∷ get_with ("hosts" ⇒ "b" ∷ "hosts" ⇒ "" ∷ "hos" ⇒ "@" ∷ [])
    ∷ asking "GET" "https" "A:443" "/"
    ∷ asking "GET" "https" "a b/\"" "/"
    ∷ get_with ("content-lengt" ⇒ "x" ∷ "content-lengths" ⇒ "" ∷ "content-lengths" ⇒ "" ∷ [])
    ∷ []

pub sound_headers : Holds (
    header_sections (good-header none) sound
    -- Content-Length by value
    ++ header_sections (good-header (some 0)) (stating "0" ∷ stating "000" ∷ [])
    ++ header_sections (good-header (some 3)) (stating "3" ∷ stating "003" ∷ stating "0000000000000000000000000000000000000003" ∷ [])
    ++ header_sections (good-header (some 3)) (get_with ("x" ⇒ "y" ∷ "content-length" ⇒ "3" ∷ "te" ⇒ "trailers" ∷ []) ∷ [])
    ++ header_sections (good-header (some 987_654)) (stating "987654" ∷ [])
    ++ header_sections (good-header (some length_limit)) (stating "1048576" ∷ stating "0001048576" ∷ [])
    )
unfolding answer hex hex_from nibble ascii length_limit
sound_headers = refl

-- what is malformed in a header section and in trailers alike
abbrev malformed : List Section
malformed =
    -- another character
    ("" ⇒ "y" ∷ [])
    ∷ ("" ⇒ "" ∷ [])
    ∷ ("X" ⇒ "y" ∷ [])
    ∷ ("xY" ⇒ "y" ∷ [])
    ∷ ("Host" ⇒ "a" ∷ [])
    ∷ ("TE" ⇒ "trailers" ∷ [])
    ∷ ("Content-Length" ⇒ "3" ∷ [])
    ∷ ("x y" ⇒ "z" ∷ [])
    ∷ (" x" ⇒ "y" ∷ [])
    ∷ ("x " ⇒ "y" ∷ [])
    ∷ ("x:" ⇒ "y" ∷ [])
    ∷ ("x:y" ⇒ "z" ∷ [])
    ∷ ("x\"" ⇒ "y" ∷ [])
    ∷ ("x\u{7f}" ⇒ "y" ∷ [])
    ∷ ("x\u{80}" ⇒ "y" ∷ [])
    ∷ (raw (hex "78 00") (ascii "y") ∷ [])
    ∷ (raw (ascii "x") (hex "00") ∷ [])
    ∷ ("x" ⇒ "y\u{8}z" ∷ [])
    ∷ ("x" ⇒ "y\nz" ∷ [])
    ∷ ("x" ⇒ "y\rz" ∷ [])
    ∷ ("x" ⇒ "y\u{1f}z" ∷ [])
    ∷ ("x" ⇒ "y\u{7f}z" ∷ [])
    ∷ ("x" ⇒ " " ∷ [])
    ∷ ("x" ⇒ "\t" ∷ [])
    ∷ ("x" ⇒ " y" ∷ [])
    ∷ ("x" ⇒ "y " ∷ [])
    ∷ ("x" ⇒ "\ty" ∷ [])
    ∷ ("x" ⇒ "y\t" ∷ [])
    ∷ ("x" ⇒ "y" ∷ "z" ⇒ "\n" ∷ [])
    -- a pseudo-field unknown
    ∷ (":protocol" ⇒ "x" ∷ [])
    ∷ (":status" ⇒ "200" ∷ [])
    ∷ (":" ⇒ "x" ∷ [])
    ∷ (":Method" ⇒ "GET" ∷ [])
    ∷ (":metho" ⇒ "GET" ∷ [])
    ∷ (":methods" ⇒ "GET" ∷ [])
    ∷ ("::path" ⇒ "/" ∷ [])
    ∷ (":host" ⇒ "a" ∷ [])
    ∷ (":path " ⇒ "/" ∷ [])
    -- after a plain field
    ∷ ("x" ⇒ "y" ∷ ":method" ⇒ "GET" ∷ [])
    ∷ ("x" ⇒ "y" ∷ ":protocol" ⇒ "x" ∷ [])
    -- the five names
    ∷ ("connection" ⇒ "close" ∷ [])
    ∷ ("connection" ⇒ "" ∷ [])
    ∷ ("keep-alive" ⇒ "timeout=5" ∷ [])
    ∷ ("proxy-connection" ⇒ "keep-alive" ∷ [])
    ∷ ("transfer-encoding" ⇒ "chunked" ∷ [])
    ∷ ("upgrade" ⇒ "websocket" ∷ [])
    ∷ ("x" ⇒ "y" ∷ "upgrade" ⇒ "" ∷ "z" ⇒ "" ∷ [])
    -- `te` other than `trailers`
    ∷ ("te" ⇒ "gzip" ∷ [])
    ∷ ("te" ⇒ "" ∷ [])
    ∷ ("te" ⇒ "Trailers" ∷ [])
    ∷ ("te" ⇒ "trailer" ∷ [])
    ∷ ("te" ⇒ "trailersx" ∷ [])
    ∷ ("te" ⇒ "trailers, deflate" ∷ [])
    ∷ ("te" ⇒ "trailers;q=1" ∷ [])
    ∷ ("te" ⇒ "trailers" ∷ "te" ⇒ "gzip" ∷ [])
    ∷ ("te" ⇒ "gzip" ∷ "te" ⇒ "trailers" ∷ [])
    -- Content-Length repeated, not one or more digits, above 2^62-1
    ∷ ("content-length" ⇒ "3" ∷ "content-length" ⇒ "3" ∷ [])
    ∷ ("content-length" ⇒ "3" ∷ "x" ⇒ "y" ∷ "content-length" ⇒ "4" ∷ [])
    ∷ ("content-length" ⇒ "" ∷ [])
    ∷ ("content-length" ⇒ "+3" ∷ [])
    ∷ ("content-length" ⇒ "-3" ∷ [])
    ∷ ("content-length" ⇒ "3 " ∷ [])
    ∷ ("content-length" ⇒ "3a" ∷ [])
    ∷ ("content-length" ⇒ "a3" ∷ [])
    ∷ ("content-length" ⇒ "0x3" ∷ [])
    ∷ ("content-length" ⇒ "3.0" ∷ [])
    ∷ ("content-length" ⇒ "1 0" ∷ [])
    ∷ ("content-length" ⇒ "1,1" ∷ [])
    ∷ ("content-length" ⇒ "1, 1" ∷ [])
    ∷ ("content-length" ⇒ "/" ∷ [])
    ∷ ("content-length" ⇒ ":" ∷ [])
    ∷ ("content-length" ⇒ "4611686018427387904" ∷ [])
    ∷ ("content-length" ⇒ "0004611686018427387904" ∷ [])
    ∷ ("content-length" ⇒ "9223372036854775808" ∷ [])
    ∷ ("content-length" ⇒ "18446744073709551616" ∷ [])
    ∷ ("content-length" ⇒ "18446744073709551619" ∷ [])
    ∷ ("content-length" ⇒ "10000000000000000000000000000000000000000" ∷ [])
    -- `host` repeated
    ∷ ("host" ⇒ "a" ∷ "host" ⇒ "a" ∷ [])
    ∷ ("host" ⇒ "a" ∷ "x" ⇒ "y" ∷ "host" ⇒ "b" ∷ [])
    ∷ []

-- what is malformed in a header section alone
abbrev malformed_there : List Section
malformed_there =
    []
    -- a pseudo-field unknown, repeated, after a plain field
    ∷ (":protocol" ⇒ "x" ∷ get)
    ∷ (":method" ⇒ "GET" ∷ get)
    ∷ (":method" ⇒ "PUT" ∷ get)
    ∷ (":scheme" ⇒ "https" ∷ get)
    ∷ (":scheme" ⇒ "http" ∷ get)
    ∷ (":authority" ⇒ "a" ∷ get)
    ∷ (":authority" ⇒ "b" ∷ get)
    ∷ (":path" ⇒ "/" ∷ get)
    ∷ (":path" ⇒ "/x" ∷ get)
    ∷ ("x" ⇒ "y" ∷ get)
    ∷ ("host" ⇒ "a" ∷ get)
    ∷ (":scheme" ⇒ "https" ∷ ":authority" ⇒ "a" ∷ ":path" ⇒ "/" ∷ "x" ⇒ "y" ∷ ":method" ⇒ "GET" ∷ [])
    ∷ (":method" ⇒ "GET" ∷ ":authority" ⇒ "a" ∷ ":path" ⇒ "/" ∷ "x" ⇒ "y" ∷ ":scheme" ⇒ "https" ∷ [])
    ∷ (":method" ⇒ "GET" ∷ ":scheme" ⇒ "https" ∷ ":path" ⇒ "/" ∷ "x" ⇒ "y" ∷ ":authority" ⇒ "a" ∷ [])
    ∷ (":method" ⇒ "GET" ∷ ":scheme" ⇒ "https" ∷ ":authority" ⇒ "a" ∷ "x" ⇒ "y" ∷ ":path" ⇒ "/" ∷ [])
    -- another character in the value of a pseudo-field
    ∷ asking "GET" "https" "a" "/ "
    ∷ asking "GET" "https" "a" "/\n"
    ∷ asking "GET" "https" " a" "/"
    ∷ asking "GET" "https\u{7f}" "a" "/"
    -- an empty or non-token `:method`, or none
    ∷ asking "" "https" "a" "/"
    ∷ asking "G T" "https" "a" "/"
    ∷ asking "GET/" "https" "a" "/"
    ∷ asking "G(T" "https" "a" "/"
    ∷ asking "GET\u{80}" "https" "a" "/"
    ∷ (":scheme" ⇒ "https" ∷ ":authority" ⇒ "a" ∷ ":path" ⇒ "/" ∷ [])
    ∷ (":scheme" ⇒ "https" ∷ ":authority" ⇒ "a" ∷ ":path" ⇒ "/" ∷ "method" ⇒ "GET" ∷ [])
    ∷ ("x" ⇒ "y" ∷ [])
    ∷ []

pub malformed_headers : Holds (
    header_sections (bad-header (coded 0x010e)) (map get_with malformed) ++ header_sections (bad-header (coded 0x010e)) malformed_there
    )
unfolding answer hex hex_from nibble ascii number_of rows named_in named code_in coded
malformed_headers = refl

-- what comes behind "these rules", each fault alone: 0x010b
abbrev not_served : List Section
not_served =
    asking "CONNECT" "https" "a" "/"
    ∷ (":method" ⇒ "CONNECT" ∷ ":authority" ⇒ "a" ∷ [])
    -- a scheme other than `http` or `https` in small letters
    ∷ asking "GET" "ftp" "a" "/"
    ∷ asking "GET" "HTTP" "a" "/"
    ∷ asking "GET" "Https" "a" "/"
    ∷ asking "GET" "" "a" "/"
    ∷ asking "GET" "httpss" "a" "/"
    ∷ asking "GET" "htt" "a" "/"
    ∷ asking "GET" "https:" "a" "/"
    -- Content-Length above 1,048,576, up to 2^62-1
    ∷ stating "1048577"
    ∷ stating "0001048577"
    ∷ stating "9999999"
    ∷ stating "4294967296"
    ∷ stating "4611686018427387903"
    ∷ stating "00000000000000000000004611686018427387903"
    ∷ []

-- 0x010e: `:scheme` or `:path` absent
abbrev absent : List Section
absent =
    (":method" ⇒ "GET" ∷ ":authority" ⇒ "a" ∷ ":path" ⇒ "/" ∷ [])
    ∷ (":method" ⇒ "GET" ∷ ":scheme" ⇒ "https" ∷ ":authority" ⇒ "a" ∷ [])
    ∷ (":method" ⇒ "GET" ∷ ":authority" ⇒ "a" ∷ [])
    ∷ (":method" ⇒ "GET" ∷ [])
    ∷ (":method" ⇒ "OPTIONS" ∷ ":scheme" ⇒ "https" ∷ ":authority" ⇒ "a" ∷ [])
    ∷ (":method" ⇒ "GET" ∷ ":authority" ⇒ "a" ∷ "scheme" ⇒ "https" ∷ "path" ⇒ "/" ∷ [])
    ∷ []

-- 0x010e: behind the scheme
abbrev ill_addressed : List Section
ill_addressed =
    -- `:path` does not begin with `/`
    asking "GET" "https" "a" ""
    ∷ asking "GET" "https" "a" "x"
    ∷ asking "GET" "https" "a" "x/"
    ∷ asking "GET" "https" "a" "https://a/"
    ∷ asking "GET" "https" "a" "*"
    ∷ asking "options" "https" "a" "*"
    ∷ asking "OPTION" "https" "a" "*"
    ∷ asking "OPTIONS" "https" "a" "*x"
    ∷ asking "OPTIONS" "https" "a" "**"
    ∷ asking "OPTIONS" "https" "a" ""
    ∷ asking "OPTIONS" "https" "a" "x"
    -- neither `:authority` nor `host`
    ∷ bare "GET" "https" "/"
    ∷ bare "OPTIONS" "https" "*"
    ∷ (bare "GET" "https" "/" ++ ("authority" ⇒ "a" ∷ "hosts" ⇒ "a" ∷ []))
    -- one is empty
    ∷ asking "GET" "https" "" "/"
    ∷ (bare "GET" "https" "/" ++ ("host" ⇒ "" ∷ []))
    ∷ (asking "GET" "https" "" "/" ++ ("host" ⇒ "a" ∷ []))
    ∷ get_with ("host" ⇒ "" ∷ [])
    ∷ (asking "GET" "https" "" "/" ++ ("host" ⇒ "" ∷ []))
    -- they differ
    ∷ get_with ("host" ⇒ "b" ∷ [])
    ∷ get_with ("host" ⇒ "A" ∷ [])
    ∷ get_with ("host" ⇒ "ab" ∷ [])
    ∷ get_with ("host" ⇒ "a:443" ∷ [])
    ∷ (asking "GET" "https" "ab" "/" ++ ("host" ⇒ "a" ∷ []))
    -- `:authority` holds `@`
    ∷ asking "GET" "https" "@" "/"
    ∷ asking "GET" "https" "u@a" "/"
    ∷ asking "GET" "https" "@a" "/"
    ∷ asking "GET" "https" "a@" "/"
    ∷ (asking "GET" "https" "u@a" "/" ++ ("host" ⇒ "u@a" ∷ []))
    ∷ []

pub refused_headers : Holds (
    header_sections (bad-header (coded 0x010b)) not_served
    ++ header_sections (bad-header (coded 0x010e)) absent
    ++ header_sections (bad-header (coded 0x010e)) ill_addressed
    )
unfolding answer hex hex_from nibble ascii number_of rows named_in named code_in coded
refused_headers = refl

-- how many bytes more a section may have
abbrev pub left : Section → ℕ
left s = size_limit - size s

-- the size, to its last byte
abbrev full : List Section
full =
    get_with (raw (ascii "x") (long (left get - 33)) ∷ [])
    ∷ get_with (raw (long (left get - 32)) [] ∷ [])
    ∷ get_with (raw (ascii "x") (long 8_000) ∷ raw (ascii "x") (long (left get - 8_066)) ∷ [])
    ∷ []

-- one byte more; also before CONNECT, before a scheme not served and before the Content-Length limit
abbrev overfull : List Section
overfull =
    get_with (raw (ascii "x") (long (left get - 32)) ∷ [])
    ∷ get_with (raw (long (left get - 31)) [] ∷ [])
    ∷ get_with (raw (ascii "x") (long 8_000) ∷ raw (ascii "x") (long (left get - 8_065)) ∷ [])
    ∷ (asking "CONNECT" "https" "a" "/" ++ (raw (ascii "x") (long (left (asking "CONNECT" "https" "a" "/") - 32)) ∷ []))
    ∷ (asking "GET" "ftp" "a" "/" ++ (raw (ascii "x") (long (left (asking "GET" "ftp" "a" "/") - 32)) ∷ []))
    ∷ (stating "1048577" ++ (raw (ascii "x") (long (left (stating "1048577") - 32)) ∷ []))
    ∷ []

-- document 01's number; what a section measures: nothing, one line without a byte, the four lines of 39 bytes, two of one name
pub limit : size_limit ≡ 16_384
unfolding size_limit
limit = refl

pub sizes : map size ([] ∷ (raw [] [] ∷ []) ∷ get ∷ ("x" ⇒ "yz" ∷ "x" ⇒ "" ∷ []) ∷ []) ≡ 0 ∷ 32 ∷ 167 ∷ 68 ∷ []
unfolding size line_size ascii
sizes = refl

-- lines without a byte count too
abbrev blank_lines : (n : ℕ) → Section
blank_lines n = replicate n (raw [] [])

-- before these rules, of which it counts broken lines too
pub size_first : Holds (
    asks (header_reason (get_with (raw (ascii "X") (long (left get - 32)) ∷ []))) (reason_is (some too_large))
    ∷ asks (header_reason (get_with (raw (ascii "X") (long (left get - 33)) ∷ []))) (reason_is (some bad_bytes))
    ∷ asks (header_reason (raw (ascii "x") (long (size_limit - 32)) ∷ [])) (reason_is (some too_large))
    ∷ asks (trailer_reason (raw (ascii "X") (long (size_limit - 32)) ∷ [])) (reason_is (some too_large))
    ∷ asks (trailer_reason (raw (ascii "X") (long (size_limit - 33)) ∷ [])) (reason_is (some bad_bytes))
    ∷ asks (trailer_reason (raw (ascii ":path") (long (size_limit - 36)) ∷ [])) (reason_is (some too_large))
    -- 512 of them are 16,384
    ∷ asks (trailer_reason (blank_lines 512)) (reason_is (some bad_bytes))
    ∷ asks (trailer_reason (blank_lines 513)) (reason_is (some too_large))
    ∷ []
    )
unfolding answer ascii size_limit size
size_first = refl

-- these rules before CONNECT, before a scheme not served and before the Content-Length limit
abbrev malformed_first : List Section
malformed_first =
    (":method" ⇒ "CONNECT" ∷ ":authority" ⇒ "a" ∷ ":protocol" ⇒ "websocket" ∷ [])
    ∷ (":method" ⇒ "CONNECT" ∷ ":method" ⇒ "CONNECT" ∷ ":authority" ⇒ "a" ∷ [])
    ∷ ("x" ⇒ "y" ∷ ":method" ⇒ "CONNECT" ∷ [])
    ∷ asking "" "ftp" "a" "/"
    ∷ (":scheme" ⇒ "ftp" ∷ ":authority" ⇒ "a" ∷ ":path" ⇒ "/" ∷ [])
    ∷ (stating "1048577" ++ ("te" ⇒ "gzip" ∷ []))
    ∷ (stating "1048577" ++ ("content-length" ⇒ "3" ∷ []))
    ∷ ("content-length" ⇒ "1048577" ∷ get)
    ∷ (asking "" "https" "a" "/" ++ ("content-length" ⇒ "1048577" ∷ []))
    ∷ []

-- CONNECT before all that is behind it
abbrev connect_first : List Section
connect_first =
    (":method" ⇒ "CONNECT" ∷ [])
    ∷ (":method" ⇒ "CONNECT" ∷ ":path" ⇒ "/" ∷ [])
    ∷ (":method" ⇒ "CONNECT" ∷ ":scheme" ⇒ "https" ∷ ":authority" ⇒ "a" ∷ [])
    ∷ asking "CONNECT" "https" "a" "x"
    ∷ asking "CONNECT" "https" "a" "*"
    ∷ bare "CONNECT" "https" "/"
    ∷ asking "CONNECT" "https" "" "/"
    ∷ asking "CONNECT" "https" "u@a" "/"
    ∷ (asking "CONNECT" "https" "a" "/" ++ ("host" ⇒ "b" ∷ []))
    ∷ []

-- an absent `:scheme` or `:path` before a scheme not served and before the Content-Length limit
abbrev absent_first : List Section
absent_first =
    (":method" ⇒ "GET" ∷ ":scheme" ⇒ "ftp" ∷ ":authority" ⇒ "a" ∷ [])
    ∷ (":method" ⇒ "GET" ∷ ":scheme" ⇒ "ftp" ∷ [])
    ∷ (":method" ⇒ "GET" ∷ ":scheme" ⇒ "https" ∷ ":authority" ⇒ "a" ∷ "content-length" ⇒ "1048577" ∷ [])
    ∷ (":method" ⇒ "GET" ∷ ":authority" ⇒ "a" ∷ ":path" ⇒ "/" ∷ "content-length" ⇒ "1048577" ∷ [])
    ∷ []

-- the scheme before `:path`, `:authority` and `host`
abbrev scheme_first : List Section
scheme_first =
    asking "GET" "ftp" "a" "x"
    ∷ asking "GET" "ftp" "a" ""
    ∷ asking "GET" "" "a" "*"
    ∷ bare "GET" "ftp" "/"
    ∷ asking "GET" "ftp" "" "/"
    ∷ asking "GET" "HTTPS" "u@a" "/"
    ∷ (asking "GET" "ftp" "a" "/" ++ ("host" ⇒ "b" ∷ []))
    ∷ (asking "GET" "ftp" "a" "/" ++ ("host" ⇒ "" ∷ []))
    ∷ []

-- two faults: which comes first
pub header_order : Holds (
    header_sections (good-header none) full
    ++ header_sections (bad-header (coded 0x010e)) overfull
    ++ header_sections (bad-header (coded 0x010e)) (map (λ more. asking "CONNECT" "https" "a" "/" ++ more) malformed)
    ++ header_sections (bad-header (coded 0x010e)) (map (λ more. asking "GET" "ftp" "a" "/" ++ more) malformed)
    ++ header_sections (bad-header (coded 0x010e)) malformed_first
    ++ header_sections (bad-header (coded 0x010b)) connect_first
    ++ header_sections (bad-header (coded 0x010e)) absent_first
    ++ header_sections (bad-header (coded 0x010b)) scheme_first
    -- the Content-Length limit last
    ++ header_sections (bad-header (coded 0x010e)) (map (λ s. s ++ ("content-length" ⇒ "1048577" ∷ [])) ill_addressed)
    )
unfolding answer hex hex_from nibble ascii number_of rows named_in named code_in coded size_limit size
header_order = refl

-- ---- an upload states its length (document 02, Q-1)

abbrev sending : (method : String) → Section
sending method = asking method "https" "a" "/"

abbrev sending_with : (method : String) → Section → Section
sending_with method more = sending method ++ more

-- the exact bytes: any other method needs none
abbrev beside_uploads : List Section
beside_uploads =
    map sending
    ("put" ∷ "Put" ∷ "PU" ∷ "PUTX" ∷ "POS" ∷ "POSTS" ∷ "Post" ∷ "PATC" ∷ "PATCHES" ∷ "patch" ∷ "GET" ∷ "HEAD" ∷ "DELETE" ∷ "OPTIONS" ∷ [])

-- no line of that name
abbrev unstated : List Section
unstated =
    map sending ("PUT" ∷ "POST" ∷ "PATCH" ∷ [])
    ++ (sending_with "PUT" ("content-lengt" ⇒ "3" ∷ "content-lengths" ⇒ "3" ∷ "length" ⇒ "3" ∷ [])
    ∷ sending_with "POST" ("te" ⇒ "trailers" ∷ "host" ⇒ "a" ∷ [])
    ∷ (bare "PATCH" "http" "/" ++ ("host" ⇒ "u@a" ∷ []))
    ∷ [])

pub uploads_judged : Holds (
    header_sections (good-header none) beside_uploads
    ++ header_sections (good-header (some 0)) (map (λ m. sending_with m ("content-length" ⇒ "0" ∷ [])) ("PUT" ∷ "POST" ∷ "PATCH" ∷ []))
    ++ header_sections (good-header (some length_limit)) (sending_with "PUT" ("content-length" ⇒ "1048576" ∷ []) ∷ [])
    ++ header_sections (bad-header (coded 0x010b)) unstated
    -- each other fault of the section comes first
    ++ header_sections (bad-header (coded 0x010e)) (map (sending_with "PUT") malformed)
    ++ header_sections (bad-header (coded 0x010e)) (
    asking "PUT" "https" "u@a" "/"
    ∷ asking "POST" "https" "a" "x"
    ∷ asking "PATCH" "https" "a" "*"
    ∷ bare "PUT" "https" "/"
    ∷ sending_with "POST" ("host" ⇒ "b" ∷ [])
    ∷ (":method" ⇒ "PUT" ∷ [])
    ∷ []
    )
    ++ (
    asks (header_reason (sending "PUT")) (reason_is (some no_length))
    ∷ asks (header_reason (asking "PUT" "ftp" "a" "/")) (reason_is (some other_scheme))
    ∷ asks (header_reason (asking "PUT" "https" "u@a" "/")) (reason_is (some at_in_authority))
    ∷ asks (header_reason (sending_with "PUT" ("content-length" ⇒ "1048577" ∷ []))) (reason_is (some length_past_limit))
    ∷ []
    )
    )
unfolding answer hex hex_from nibble ascii number_of rows named_in named code_in coded length_limit
uploads_judged = refl

-- ---- trailers

abbrev sound_trailers : List Section
sound_trailers =
    []
    ∷ ("x" ⇒ "y" ∷ [])
    ∷ ("x" ⇒ "" ∷ "x" ⇒ "" ∷ [])
    ∷ ("te" ⇒ "trailers" ∷ [])
    ∷ ("te" ⇒ "trailers" ∷ "te" ⇒ "trailers" ∷ [])
    ∷ ("host" ⇒ "a" ∷ [])
    ∷ ("host" ⇒ "" ∷ [])
    ∷ ("host" ⇒ "u@a" ∷ [])
    ∷ ("method" ⇒ "" ∷ "path" ⇒ "x" ∷ "connections" ⇒ "close" ∷ "content-lengths" ⇒ "x" ∷ [])
    ∷ (raw (ascii "x") (long (size_limit - 33)) ∷ [])
    ∷ (raw (long (size_limit - 32)) [] ∷ [])
    ∷ []

-- what is malformed in trailers alone, and their size
abbrev no_trailers : List Section
no_trailers =
    get
    ∷ (":method" ⇒ "GET" ∷ [])
    ∷ (":scheme" ⇒ "https" ∷ [])
    ∷ (":authority" ⇒ "a" ∷ [])
    ∷ (":path" ⇒ "/" ∷ [])
    ∷ (":path" ⇒ "/" ∷ "x" ⇒ "y" ∷ [])
    ∷ ("x" ⇒ "y" ∷ ":path" ⇒ "/" ∷ [])
    ∷ (":method" ⇒ "CONNECT" ∷ [])
    ∷ ("content-length" ⇒ "0" ∷ [])
    ∷ ("content-length" ⇒ "3" ∷ [])
    ∷ ("content-length" ⇒ "1048577" ∷ [])
    ∷ ("x" ⇒ "y" ∷ "content-length" ⇒ "1" ∷ [])
    ∷ (raw (ascii "x") (long (size_limit - 32)) ∷ [])
    ∷ (raw (long (size_limit - 31)) [] ∷ [])
    ∷ []

pub trailers_judged : Holds (
    trailer_sections good-trailer sound_trailers
    ++ trailer_sections (bad-trailer (coded 0x010e)) malformed
    ++ trailer_sections (bad-trailer (coded 0x010e)) no_trailers
    )
unfolding answer hex hex_from nibble ascii number_of rows named_in named code_in coded size_limit
trailers_judged = refl

-- which byte may be where
abbrev header_passes : Header → Bool
header_passes (bad-header code) = false
header_passes (good-header stated) = true

abbrev trailer_passes : Trailer → Bool
trailer_passes (bad-trailer code) = false
trailer_passes good-trailer = true

abbrev passes : Section → Bool
passes s = header_passes (document.header s)

pub bytes_in_place : Holds (
    -- a name, its first byte and a later one
    passing (λ b. passes (get_with (raw (b ∷ []) [] ∷ []))) names
    ∷ passing (λ b. trailer_passes (document.trailer (raw (b ∷ []) [] ∷ []))) names
    ∷ passing (λ b. trailer_passes (document.trailer (raw (0x78 ∷ b ∷ []) [] ∷ []))) names
    -- a value: inside, first, last, alone
    ∷ passing (λ b. passes (get_with (raw (ascii "x") (0x61 ∷ b ∷ 0x61 ∷ []) ∷ []))) (hex "09 20" ++ single_values)
    ∷ passing (λ b. trailer_passes (document.trailer (raw (ascii "x") (0x61 ∷ b ∷ 0x61 ∷ []) ∷ []))) (hex "09 20" ++ single_values)
    ∷ passing (λ b. trailer_passes (document.trailer (raw (ascii "x") (b ∷ 0x61 ∷ []) ∷ []))) single_values
    ∷ passing (λ b. trailer_passes (document.trailer (raw (ascii "x") (0x61 ∷ b ∷ []) ∷ []))) single_values
    ∷ passing (λ b. trailer_passes (document.trailer (raw (ascii "x") (b ∷ []) ∷ []))) single_values
    -- a method, a Content-Length
    ∷ passing (λ b. passes (raw (ascii ":method") (0x47 ∷ b ∷ []) ∷ ":scheme" ⇒ "https" ∷ ":authority" ⇒ "a" ∷ ":path" ⇒ "/" ∷ [])) tokens
    ∷ passing (λ b. passes (get_with (raw (ascii "content-length") (0x30 ∷ b ∷ []) ∷ []))) digits
    -- `:path`, `:authority`, `host`
    ∷ passing (λ b. passes (":method" ⇒ "OPTIONS" ∷ ":scheme" ⇒ "https" ∷ ":authority" ⇒ "a" ∷ raw (ascii ":path") (b ∷ []) ∷ [])) (ascii "*/")
    ∷ passing (λ b. passes (":method" ⇒ "GET" ∷ ":scheme" ⇒ "https" ∷ raw (ascii ":authority") (b ∷ []) ∷ ":path" ⇒ "/" ∷ [])) (below_at ++ above_at ++ high)
    ∷ passing (λ b. passes (bare "GET" "https" "/" ++ (raw (ascii "host") (b ∷ []) ∷ []))) single_values
    ∷ []
    )
unfolding answer hex hex_from nibble ascii
bytes_in_place = refl
