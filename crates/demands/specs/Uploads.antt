-- UPLOADS (document 02, Q-1): a request whose method is PUT, POST or PATCH and that ended as whole has stated its length, carries exactly so many bytes, and no
-- shorter stream that begins it is whole with other content: demand 3 without its hypothesis that a length is stated. Assumes nothing.
use Rattle.std.specs.Prelude.{◌≡◌, refl, ℕ, List, [], ◌∷◌, ◌++◌, true, length}
use Rattle.std.proofs.Common.{ap, subst, ◌∙◌, arith}
use Rattle.std.proofs.Math.Option.{Option, none, some}
use Rattle.rules.specs.Events.{WHOLE}
use Rattle.rules.specs.Block.{Section, lines}
use Rattle.rules.specs.Frames.{Frames}
use Rattle.rules.specs.Section.{uploading}
use Rattle.rules.specs.Request.{document, Header.good as good-header}
use Rattle.rules.specs.Legal.{Legal, Legal.unknown as unknown-first, Legal.headers as headers-first}
use Rattle.rules.specs.Calls.{request, kind_of, end, on, fresh, trace}
use Rattle.rules.specs.Shown.{View, ended, view}
use Rattle.section.specs.Request.{upload_stated}
use Rattle.traces.specs.Demands.{is_legal}
use Rattle.record.specs.declared.Record.{Record}
use Rattle.connection.specs.declared.Connection.{Connection}
use Rattle.connection.specs.declared.Report.{Report}
use Rattle.calls.specs.Promises.{Ended}
use Rattle.demands.specs.Streams.{section_of, streams}
use Rattle.demands.specs.Reading.{sections_of, reading}
use Rattle.demands.specs.LongerStreams.{first_of, stated_by, header_of, Added}
use Rattle.demands.specs.Demands.{Calls, legal_exactly, demand_2, half_an_upload}
use Rattle.demands.specs.Demands as over-traces
use Rattle.demands.specs.Runs.{Seen}
use Rattle.demands.specs.Host.{Run, shows, WholeAt}
use Rattle.demands.specs.Exports.{StreamSays}

-- ---- the words of the statement

-- the header section's method is one of the three
unfoldable pub Uploads : Option Section → Type 0
Uploads none = ⊥
Uploads (some s) = uploading s ≡ true

-- it states a length, and this is the content's
pub record StatesAll (header : Option Section) (content : List ℕ) : Type 0 where
  pub n : ℕ
  pub states : stated_by n header
  pub carries : length content ≡ n

-- ---- a legal upload states a length

legal_first : {sections : List Section} {fs : Frames} → Legal document sections fs
    → (first : Section) × (rest : List Section) × (sections ≡ first ∷ rest) × (stated : Option ℕ) × (document.header first ≡ good-header stated)
legal_first (unknown-first u l) = legal_first l
legal_first (headers-first {s = s} {sections = rest} {stated = stated} t l g r) = (s, rest, refl, stated, g)

states : (first : Section) (stated : Option ℕ) → document.header first ≡ good-header stated → Uploads (some first) → (n : ℕ) × stated_by n (some first)
unfolding Uploads stated_by
states first stated g u = let w = upload_stated first stated g u in (w.0, g ∙ ap good-header w.1)

first_states : (blocks : List (List ℕ)) (first : Section) (rest : List Section) (stated : Option ℕ) → sections_of blocks ≡ first ∷ rest → document.header first ≡ good-header stated
    → Uploads (first_of blocks) → (n : ℕ) × stated_by n (first_of blocks)
unfolding first_of sections_of
first_states [] first rest stated e g u = let z : ◌≡◌ {A = ℕ} 0 1 = cc in absurd (omega arith)
first_states (b ∷ blocks) first rest stated e g u =
    let f : section_of (lines b) ≡ first = cc in
    states (section_of (lines b)) stated (ap document.header f ∙ g) u

upload_states : (bytes : List ℕ) (blocks : List (List ℕ)) → reading.verdict bytes blocks ≡ is_legal → Uploads (first_of blocks) → (n : ℕ) × stated_by n (first_of blocks)
upload_states bytes blocks w u =
    let l = legal_first ((legal_exactly bytes blocks).0 w) in
    first_states blocks l.0 l.1 l.3 l.2 l.4 u

-- ---- over traces

-- A WHOLE UPLOAD has stated its length, and has shown exactly so many bytes of content
pub upload_whole : (id : ℕ) → kind_of id ≡ some request → (cs : Calls) → let v = view id (trace fresh cs) in
    v.fate ≡ ended → Uploads (first_of v.shown.sections) → StatesAll (first_of v.shown.sections) v.shown.content
upload_whole id q cs x u =
    let v = view id (trace fresh cs) in
    let w = upload_states v.shown.bytes v.shown.sections ((demand_2 id q cs).if_whole x) u in
    record { n = w.0; states = w.1; carries = half_an_upload id q cs w.0 x w.1 }

-- DEMAND 3 FOR UPLOADS: two streams, in one trace or two, both ended as whole, the longer beginning with all the bytes of the shorter, their header sections
-- decoding alike, as an upload's: the same header section and the same content, and nothing added but what may be
pub upload_once : (i j : ℕ) → kind_of i ≡ some request → kind_of j ≡ some request → (cs ds : Calls) (more : List ℕ)
    → let v = view i (trace fresh cs) in let w = view j (trace fresh ds) in
    v.fate ≡ ended → w.fate ≡ ended → w.shown.bytes ≡ v.shown.bytes ++ more → first_of v.shown.sections ≡ first_of w.shown.sections → Uploads (first_of v.shown.sections)
    → (header_of v.shown.bytes v.shown.sections ≡ header_of w.shown.bytes w.shown.sections) × (v.shown.content ≡ w.shown.content) × Added v.shown.bytes more w.shown.sections
upload_once i j p q cs ds more x y e k u = let s = upload_whole i p cs x u in over-traces.demand_3 i j p q cs ds s.n more x y e k s.states

-- ---- of the exported functions

-- where an end reports whole on an upload, it has stated a length, and so many bytes of content were handed over
abbrev pub WholeUpload : StreamSays
WholeUpload c rows id r c' rows' = (ks : Calls) (xs : List Seen) → Run ks xs c rows → r.event ≡ WHOLE → let s = (shows id ks).shown in Uploads (first_of s.sections) → StatesAll (first_of s.sections) s.content

pub states_all : {id : ℕ} {ks : Calls} → WholeAt id ks → let s = (shows id ks).shown in Uploads (first_of s.sections) → StatesAll (first_of s.sections) s.content
states_all {id} {ks} w =
    subst (λ (v : View streams). v.fate ≡ ended → Uploads (first_of v.shown.sections) → StatesAll (first_of v.shown.sections) v.shown.content) w.ends
    (upload_whole id w.asks (ks ++ (on id end ∷ []))) refl

-- and where an end in this run or another reports whole on a longer stream that begins with all its bytes, their header sections decoding alike: the same header
-- section, the same content, and nothing added but what may be
abbrev pub UploadOnce : StreamSays
UploadOnce c rows i r c' rows' = (ks : Calls) (xs : List Seen) → Run ks xs c rows → r.event ≡ WHOLE
    → (ls : Calls) (ys : List Seen) (d : Connection) (row : List Record) → Run ls ys d row → (j : ℕ) (p : Report) (d' : Connection) (row' : List Record) → Ended d row j d' row' p → p.event ≡ WHOLE
    → (more : List ℕ) → let s = (shows i ks).shown in let t = (shows j ls).shown in t.bytes ≡ s.bytes ++ more → first_of s.sections ≡ first_of t.sections → Uploads (first_of s.sections)
    → (header_of s.bytes s.sections ≡ header_of t.bytes t.sections) × (s.content ≡ t.content) × Added s.bytes more t.sections
