-- BELIEVED (docs/PROOFS.md). One call of feed, for any grammar: how far it goes in a piece, what it names, and what it leaves. It holds no place: a fault is
-- at the last byte used. The engine's contract is `r ≡ feed ..`. Assumes nothing.
use Rattle.std.specs.Prelude.{ℕ, zero, suc, ◌+◌, ◌-◌, min, List, [], ◌∷◌, ◌++◌, map, Bool, true, eqb, length, take, drop}
use Rattle.rules.specs.Reading.{Kept, Use, content, skipped, section, kept, Ruling, refuse, accept, Next, stop, go, Grammar, Saying, section_byte, content_byte, frame_kept}
use Rattle.meaning.specs.Machine.{going, value, fed, State, in_type, in_length, in_payload, due, Outcome, lives, dies, typed, with_left}

-- Section bytes, marked if they are the last, and content name the part of the piece that ends where the feed stopped.
pub data Event : Type 0 where
  quiet : Event
  section_bytes : (len : ℕ) (last : Bool) → Event
  content_bytes : (len : ℕ) → Event
  taken : Kept → (payload : List ℕ) → Event  -- a kept payload, judged good: settings, GOAWAY, MAX_PUSH_ID

pub record Feeding (P : Type 0) : Type 0 where
  pub used : ℕ  -- bytes consumed
  pub heads : ℕ  -- frame headers finished
  pub event : Event
  pub after : Outcome P

module _ {P : Type 0} where
  -- nothing more is read
  unfoldable pub halt : Event → Outcome P → Feeding P
  halt e o = record { used = 0; heads = 0; event = e; after = o }

  -- one byte more, which finished h headers, before what follows
  unfoldable pub also : (h : ℕ) → Feeding P → Feeding P
  also h f = record { used = suc f.used; heads = h + f.heads; event = f.event; after = f.after }

  -- an event or a fault stops the feed, else it reads on
  unfoldable pub onward : Event → Outcome P → (State P → Feeding P) → Feeding P
  onward quiet (lives s) f = f s
  onward quiet (dies code) f = halt quiet (dies code)
  onward (section_bytes len last) o f = halt (section_bytes len last) o
  onward (content_bytes len) o f = halt (content_bytes len) o
  onward (taken t p) o f = halt (taken t p) o

unfoldable pub judged_event : {P : Type 0} → Kept → List ℕ → Next P → Event
judged_event f k (stop code) = quiet
judged_event f k (go p) = taken f k

module _ (G : Grammar) where
  -- the event of a payload that is complete with this byte; an empty HEADERS payload gives an empty marked part
  unfoldable pub over_event : Use → List ℕ → G.P → Event
  over_event content k p = quiet
  over_event skipped k p = quiet
  over_event (section t) k p = section_bytes 0 true
  over_event (kept f) k p = judged_event f k (G.judged f p k)

  unfoldable pub left_event : Use → List ℕ → (l : ℕ) → G.P → Event
  left_event u k zero p = over_event u k p
  left_event u k (suc l) p = quiet

  unfoldable pub behind_header : (len : ℕ) → Ruling G.P → (State G.P → Feeding G.P) → Feeding G.P
  behind_header len (refuse code) f = halt quiet (dies code)
  behind_header len (accept u p) f = onward (left_event u [] len p) (with_left G u [] len p) f

  -- this byte and j more of a payload that is handed on, l are left then
  unfoldable pub named : Use → (k l : ℕ) → Event
  named content k l = content_bytes k
  named skipped k l = quiet
  named (section t) k l = section_bytes k (eqb l 0)
  named (kept f) k l = quiet

  unfoldable pub taking : Use → (j l : ℕ) → G.P → Feeding G.P
  taking u j l p = record { used = suc j; heads = 0; event = named u (suc j) l; after = with_left G u [] l p }

  unfoldable pub feed : (allow : ℕ) → State G.P → List ℕ → Feeding G.P
  feed allow s [] = halt quiet (lives s)
  feed zero (in_type g p) (b ∷ bs) = halt quiet (lives (in_type g p))
  feed (suc n) (in_type g p) (b ∷ bs) = also 0 (feed (suc n) (typed p (fed g b)) bs)
  feed zero (in_length t g p) (b ∷ bs) = halt quiet (lives (in_length t g p))
  feed (suc n) (in_length t g p) (b ∷ bs) = elim (fed g b) [
    | going g' ↦ also 0 (feed (suc n) (in_length t g' p) bs)
    | value len ↦ also 1 (behind_header len (G.rule p t len) (λ s. feed n s bs))
  ]
  feed n (in_payload content k left p) (b ∷ bs) = let j = min left (length bs) in taking content j (left - j) p
  feed n (in_payload (section t) k left p) (b ∷ bs) = let j = min left (length bs) in taking (section t) j (left - j) p
  feed n (in_payload skipped k left p) (b ∷ bs) = also 0 (onward quiet (with_left G skipped [] left p) (λ s. feed n s bs))
  feed n (in_payload (kept f) k left p) (b ∷ bs) =
      also 0 (onward (left_event (kept f) (k ++ (b ∷ [])) left p) (with_left G (kept f) (k ++ (b ∷ [])) left p) (λ s. feed n s bs))
  feed n (due t p) (b ∷ bs) = halt quiet (lives (due t p))

-- what an event shows of a piece
unfoldable pub shows : Event → (used : ℕ) → List ℕ → List Saying
shows quiet used piece = []
shows (section_bytes len last) used piece = map section_byte (drop (used - len) (take used piece))
shows (content_bytes len) used piece = map content_byte (drop (used - len) (take used piece))
shows (taken t k) used piece = frame_kept t k ∷ []
