-- BELIEVED as far as Feed speaks of its states (docs/PROOFS.md). The same reading a byte at a time: the state between two bytes, which is what an engine keeps, and one step.
-- A state holds no place. The rules are the grammar's: only where a header and a payload end is said in another way. Assumes nothing.
use Rattle.std.specs.Prelude.{ℕ, zero, suc, ◌+◌, ◌*◌, ◌%◌, List, [], ◌∷◌, ◌++◌, length}
use Rattle.rules.specs.Numbers.{Code}
use Rattle.rules.specs.Integers.{extra}
use Rattle.rules.specs.Block.{Section}
use Rattle.rules.specs.Reading.{Part, Kept, Use, content, skipped, section, kept, Ruling, refuse, accept, Next, stop, go, Grammar, Verdict, fault, waits, Saying, header, refused, frame_kept, Reading, ending, put, told, ended}

-- ---- an integer

-- between its bytes: nothing read, or the value so far with `suc k` bytes to come
pub data Prog : Type 0 where
  fresh : Prog
  need : (k value : ℕ) → Prog

pub data Fed : Type 0 where
  going : Prog → Fed
  value : ℕ → Fed

unfoldable pub after : (k value : ℕ) → Fed
after zero v = value v
after (suc k) v = going (need k v)

unfoldable pub fed : Prog → ℕ → Fed
fed fresh b = after (extra b) (b % 64)
fed (need k v) b = after k (v * 256 + b)

-- ---- a stream

pub data State (P : Type 0) : Type 0 where
  in_type : Prog → P → State P  -- between two frames, as long as nothing of the type is read
  in_length : (type : ℕ) → Prog → P → State P
  in_payload : Use → (sofar : List ℕ) (left : ℕ) → P → State P  -- suc left bytes to come; sofar only where it is kept
  due : Part → P → State P  -- a section is due

pub data Outcome (P : Type 0) : Type 0 where
  lives : State P → Outcome P
  dies : (code : Code) → Outcome P

module _ {P : Type 0} where
  abbrev pub between : P → State P
  between p = in_type fresh p

  unfoldable pub answered : Next P → Outcome P
  answered (stop code) = dies code
  answered (go p) = lives (between p)

  unfoldable pub typed : P → Fed → State P
  typed p (going g) = in_type g p
  typed p (value t) = in_length t fresh p

unfoldable pub keep : Use → List ℕ → ℕ → List ℕ
keep content k b = []
keep skipped k b = []
keep (section t) k b = []
keep (kept f) k b = k ++ (b ∷ [])

module _ (G : Grammar) where
  -- a complete payload
  unfoldable pub over : Use → List ℕ → G.P → Outcome G.P
  over content k p = lives (between p)
  over skipped k p = lives (between p)
  over (section t) k p = lives (due t p)
  over (kept f) k p = answered (G.judged f p k)

  -- with l bytes of payload to come
  unfoldable pub with_left : Use → List ℕ → (l : ℕ) → G.P → Outcome G.P
  with_left u k zero p = over u k p
  with_left u k (suc l) p = lives (in_payload u k l p)

  unfoldable pub ruled : (len : ℕ) → Ruling G.P → Outcome G.P
  ruled len (refuse code) = dies code
  ruled len (accept u p) = with_left u [] len p

  unfoldable pub sized : (type : ℕ) → G.P → Fed → Outcome G.P
  sized t p (going g) = lives (in_length t g p)
  sized t p (value len) = ruled len (G.rule p t len)

  -- one byte
  unfoldable pub step : State G.P → ℕ → Outcome G.P
  step (in_type g p) b = lives (typed p (fed g b))
  step (in_length t g p) b = sized t p (fed g b)
  step (in_payload u k left p) b = with_left u (keep u k b) left p
  step (due t p) b = lives (due t p)

  -- the section that is due is given
  unfoldable pub given : Section → State G.P → Outcome G.P
  given block (in_type g p) = lives (in_type g p)
  given block (in_length t g p) = lives (in_length t g p)
  given block (in_payload u k left p) = lives (in_payload u k left p)
  given block (due t p) = answered (G.given t p block)

  -- ---- what a byte says; `place` is the number of bytes read, this one among them, `begun` the offset of the frame

  unfoldable pub judged_says : Kept → List ℕ → Next G.P → List Saying
  judged_says f k (stop code) = []
  judged_says f k (go p) = frame_kept f k ∷ []

  unfoldable pub over_says : Use → List ℕ → G.P → List Saying
  over_says content k p = []
  over_says skipped k p = []
  over_says (section t) k p = []
  over_says (kept f) k p = judged_says f k (G.judged f p k)

  unfoldable pub left_says : Use → List ℕ → (l : ℕ) → G.P → List Saying
  left_says u k zero p = over_says u k p
  left_says u k (suc l) p = []

  unfoldable pub rule_says : (begun place type len : ℕ) → Ruling G.P → List Saying
  rule_says begun place t len (refuse code) = refused (record { at = begun; from = place; type = t; len = len }) ∷ []
  rule_says begun place t len (accept u p) = header (record { at = begun; from = place; type = t; len = len }) u ∷ left_says u [] len p

  unfoldable pub size_says : (begun place type : ℕ) → G.P → Fed → List Saying
  size_says begun place t p (going g) = []
  size_says begun place t p (value len) = rule_says begun place t len (G.rule p t len)

  unfoldable pub says : (begun place : ℕ) → State G.P → ℕ → List Saying
  says begun place (in_type g p) b = []
  says begun place (in_length t g p) b = size_says begun place t p (fed g b)
  says begun place (in_payload u k left p) b = told u (b ∷ []) ++ left_says u (keep u k b) left p
  says begun place (due t p) b = []

  -- the stream is ended
  unfoldable pub finish : (place : ℕ) → State G.P → Verdict
  finish place (in_type fresh p) = ended (G.end p) place
  finish place (in_type (need k v) p) = fault G.cut place
  finish place (in_length t g p) = fault G.cut place
  finish place (in_payload u k left p) = fault G.cut place
  finish place (due t p) = waits place

-- ---- the machine with its sections: it reads on, or it is settled and reads no more

pub data Run (P : Type 0) : Type 0 where
  reads : List Section → State P → Run P
  stuck : Verdict → Run P

module _ (G : Grammar) where
  unfoldable pub resumed : (place : ℕ) → List Section → Next G.P → Run G.P
  resumed place sections (stop code) = stuck (fault code place)
  resumed place sections (go p) = reads sections (between p)

  -- a section that is due is taken from the list
  unfoldable pub supplied : (place : ℕ) → List Section → State G.P → Run G.P
  supplied place sections (in_type g p) = reads sections (in_type g p)
  supplied place sections (in_length t g p) = reads sections (in_length t g p)
  supplied place sections (in_payload u k left p) = reads sections (in_payload u k left p)
  supplied place [] (due t p) = stuck (waits place)
  supplied place (s ∷ sections) (due t p) = resumed place sections (G.given t p s)

  unfoldable pub settled : (place : ℕ) → List Section → Outcome G.P → Run G.P
  settled place sections (lives s) = supplied place sections s
  settled place sections (dies code) = stuck (fault code place)

  unfoldable pub next : (place : ℕ) → Run G.P → ℕ → Run G.P
  next place (reads sections s) b = settled place sections (step G s b)
  next place (stuck v) b = stuck v

  unfoldable pub tells : (begun place : ℕ) → Run G.P → ℕ → List Saying
  tells begun place (reads sections s) b = says G begun place s b
  tells begun place (stuck v) b = []

  unfoldable pub finished : (place : ℕ) → Run G.P → Verdict
  finished place (reads sections s) = finish G place s
  finished place (stuck v) = v

  -- the offset of the frame: here, where the machine is between two frames
  unfoldable pub begins : (begun place : ℕ) → Run G.P → ℕ
  begins begun place (reads sections (in_type fresh p)) = place
  begins begun place (reads sections (in_type (need k v) p)) = begun
  begins begun place (reads sections (in_length t g p)) = begun
  begins begun place (reads sections (in_payload u k left p)) = begun
  begins begun place (reads sections (due t p)) = begun
  begins begun place (stuck v) = begun

  -- after a piece: where the machine is, where its frame began, and what was said
  unfoldable pub run : (at : ℕ) → Run G.P → List ℕ → Run G.P
  run at r [] = r
  run at r (b ∷ bs) = run (suc at) (next (suc at) r b) bs

  unfoldable pub began : (begun at : ℕ) → Run G.P → List ℕ → ℕ
  began begun at r [] = begun
  began begun at r (b ∷ bs) = let q = next (suc at) r b in began (begins begun (suc at) q) (suc at) q bs

  unfoldable pub lists : (begun at : ℕ) → Run G.P → List ℕ → List Saying
  lists begun at r [] = []
  lists begun at r (b ∷ bs) = let q = next (suc at) r b in tells begun (suc at) r b ++ lists (begins begun (suc at) q) (suc at) q bs

  -- all the bytes, and the end
  unfoldable pub reading : (begun at : ℕ) → Run G.P → List ℕ → Reading
  reading begun at r [] = ending (finished at r)
  reading begun at r (b ∷ bs) = let q = next (suc at) r b in put (tells begun (suc at) r b) (reading (begins begun (suc at) q) (suc at) q bs)

  -- the same stream handed over in pieces
  unfoldable pub pieces : (begun at : ℕ) → Run G.P → List (List ℕ) → Reading
  pieces begun at r [] = ending (finished at r)
  pieces begun at r (x ∷ xs) = put (lists begun at r x) (pieces (began begun at r x) (at + length x) (run at r x) xs)

  abbrev pub fresh_run : List Section → Run G.P
  fresh_run sections = reads sections (between G.start)

unfoldable pub joined : List (List ℕ) → List ℕ
joined [] = []
joined (x ∷ xs) = x ++ joined xs
