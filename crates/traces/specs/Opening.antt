-- Opening is accepted exactly if the five conditions hold, all of them read from the trace. Assumes nothing.
use Rattle.std.specs.Prelude.{◌≡◌, false, ◌↔◌}
use Rattle.std.proofs.Math.Path.{refl, sym, ap}
use Rattle.std.proofs.Common.{◌∙◌, arith}
use Prim.Native.Nat.{ℕ, suc, ◌+◌, ◌*◌, ◌-◌, ◌<◌, ◌^◌}
use Rattle.std.proofs.Math.Decide.{ℕ_discrete, dec_lt}
use mathlib.Core.List.{List, [], ◌∷◌}
use Rattle.std.proofs.Math.Option.{some}
use Rattle.rules.specs.Numbers.{request_rejected, of_stream}
use Rattle.rules.specs.Calls.{done, Machine, either, Kind, request, one_way, kind_of, over, free, held, Row, Pair, Call, open', Answer, gave, code, next_of, spend, killed, keeping, limited, barred, put, seat, with, alive, fresh, first, seated, opening as opening-at, call, run, trace}
use Rattle.traces.specs.Row.{put_replaces, taken, taken_seat, taken_held, taken_free, taken_empty, room_before, seat_room, pick_yes}
use Rattle.traces.specs.Went.{Alive, pair, Went, restarted, still_dead, by_house, barring, faulting, dying, opening, stepping, leaving, sending, went}
use Rattle.traces.specs.Sound.{Sound, sound_run, sound_fresh}
use Rattle.traces.specs.Alone.{no_code, no_house}
use Rattle.rules.specs.Shown.{Ledger, blank, opens, counts, dies, limits, noted, ledger_from, ledger, next_in, barred_in, MayOpen}

-- the ledger of a trace and the pair that it left
pub record Tallies {M : Machine} (p : Pair M) (l : Ledger) : Type 0 where
  pub dead : l.dead ≡ p.conn.dead
  pub requests : p.conn.next_request ≡ l.requests * 4
  pub oneways : p.conn.next_oneway ≡ l.oneways * 4 + 2
  pub limit : l.limit ≡ p.conn.limit
  pub busy : l.busy ≡ taken p.row

module _ {M : Machine} where
  tallies_spend : (k : Kind) (id : ℕ) (p : Pair M) (l : Ledger) → kind_of id ≡ some k → Tallies p l → Tallies (pair (spend k p.conn) p.row) (opens (kind_of id) l)
  unfolding spend opens
  tallies_spend request id p l e t = rw e (record { dead = t.dead; requests = omega (arith, t.requests); oneways = t.oneways; limit = t.limit; busy = t.busy })
  tallies_spend one_way id p l e t = rw e (record { dead = t.dead; requests = t.requests; oneways = omega (arith, t.oneways); limit = t.limit; busy = t.busy })

  tallies_row : (p : Pair M) (row : Row M) (n : ℕ) (l : Ledger) → n ≡ taken row → Tallies p l → Tallies (pair p.conn row) (counts n l)
  unfolding counts
  tallies_row p row n l e t = record { dead = t.dead; requests = t.requests; oneways = t.oneways; limit = t.limit; busy = e }

  tallies_went : (p p' : Pair M) (c : Call M) (a : Answer) (l : Ledger) → Tallies p l → Went p c a p' → Tallies p' (noted c a l)
  unfolding noted
  tallies_went p p' c a l t restarted = unfold fresh blank in record { dead = refl; requests = refl; oneways = refl; limit = refl; busy = sym (taken_empty M 24) }
  tallies_went p p' c a l t (still_dead e) = unfold dies in record { dead = sym e; requests = t.requests; oneways = t.oneways; limit = t.limit; busy = t.busy }
  tallies_went p p' c a l t (by_house e) = t
  tallies_went p p' c a l t (barring {id = id} {k = k} e k' m q b) = tallies_spend k id p l k' t
  tallies_went p p' c a l t (faulting {id = id} {s = s} e f) =
      tallies_row p (put id free p.row) (l.busy - 1) l (omega (arith, t.busy, taken_free id (put_replaces id free s p.row f))) t
  tallies_went p p' c a l t (dying e f) = unfold dies killed in record { dead = refl; requests = t.requests; oneways = t.oneways; limit = t.limit; busy = t.busy }
  tallies_went p p' c a l t (opening {id = id} {k = k} {row = row} e k' m q b s) =
      tallies_row (pair (spend k p.conn) p.row) row (suc l.busy) (opens (kind_of id) l) (ap suc t.busy ∙ sym (taken_seat s)) (tallies_spend k id p l k' t)
  tallies_went p p' c a l t (stepping {id = id} {s = s} x e f w) = unfold keeping in
      record { dead = t.dead; requests = t.requests; oneways = t.oneways; limit = t.limit; busy = t.busy ∙ sym (taken_held id x.stream (put_replaces id (held id x.stream) s p.row f)) }
  tallies_went p p' c a l t (leaving {id = id} {s = s} e f) =
      tallies_row p (put id free p.row) (l.busy - 1) l (omega (arith, t.busy, taken_free id (put_replaces id free s p.row f))) t
  tallies_went p p' c a l t (sending e g q) = unfold limits limited in record { dead = t.dead; requests = t.requests; oneways = t.oneways; limit = refl; busy = t.busy }

  tallies_from : (cs : List (Call M)) (p : Pair M) (l : Ledger) → Tallies p l → Tallies (run p cs) (ledger_from l (trace p cs))
  unfolding run trace ledger_from
  tallies_from [] p l t = t
  tallies_from (c ∷ cs) p l t = tallies_from cs (call c p).after (noted c (call c p).answer l) (tallies_went p (call c p).after c (call c p).answer l t (went c p))

  pub tallies : (cs : List (Call M)) → Tallies (run fresh cs) (ledger (trace fresh cs))
  unfolding ledger
  tallies cs = tallies_from cs fresh blank (unfold fresh blank in record { dead = refl; requests = refl; oneways = refl; limit = refl; busy = sym (taken_empty M 24) })

  -- ---- the conditions on the pair

  pub next_same : (k : Kind) (p : Pair M) (l : Ledger) → Tallies p l → next_of k p.conn ≡ next_in k l
  unfolding next_of next_in
  next_same request p l t = t.requests
  next_same one_way p l t = t.oneways

  -- the next ID of a kind, as the trace has it
  pub next_told : (k : Kind) (cs : List (Call M)) → next_of k (run fresh cs).conn ≡ next_in k (ledger (trace fresh cs))
  next_told k cs = next_same k (run fresh cs) (ledger (trace fresh cs)) (tallies cs)

  pub barred_same : (k : Kind) (p : Pair M) (l : Ledger) (id : ℕ) → Tallies p l → barred k p.conn id ≡ barred_in k l id
  unfolding barred barred_in
  barred_same request p l id t = ap (λ x. over x id) (sym t.limit)
  barred_same one_way p l id t = refl

  only_if : (p p' : Pair M) (l : Ledger) (id : ℕ) (a : Answer) → Sound p → Tallies p l → a ≡ gave done → Went p (open' id) a p' → MayOpen l id
  only_if p p' l id a i t e (still_dead d) = absurd (no_code e)
  only_if p p' l id a i t e (by_house d) = absurd (no_house e)
  only_if p p' l id a i t e (barring d k' m q b) = absurd (no_code e)
  only_if p p' l id a i t e (opening {k = k} d k' m q b s) = record {
    alive = t.dead ∙ d;
    kind = k;
    is = k';
    next = m ∙ next_same k p l t;
    low = q;
    clear = sym (barred_same k p l id t) ∙ b;
    room = omega (arith, t.busy, i.size, room_before s);
  }

  -- what the conditions compute to, one after the other
  seats : (k : Kind) (id : ℕ) (p : Pair M) (row : Row M) → barred k p.conn id ≡ false → seat (held id (first k)) p.row ≡ some row
      → either (barred k p.conn id) (with (code (of_stream request_rejected) 0 0) (spend k p.conn) p.row) (seated k p (seat (held id (first k)) p.row)) ≡ with (gave done) (spend k p.conn) row
  unfolding either seated
  seats k id p row b q = rw (b, q)

  opens_at : (k : Kind) (id : ℕ) (p : Pair M) (row : Row M) → id ≡ next_of k p.conn → id < 2 ^ 62 → barred k p.conn id ≡ false → seat (held id (first k)) p.row ≡ some row
      → opening-at id (some k) p ≡ with (gave done) (spend k p.conn) row
  unfolding opening-at
  opens_at k id p row n l b q = pick_yes (ℕ_discrete id (next_of k p.conn)) _ _ n ∙ pick_yes (dec_lt id (2 ^ 62)) _ _ l ∙ seats k id p row b q

  pub open_call : (k : Kind) (id : ℕ) (p : Pair M) (row : Row M) → Alive p → kind_of id ≡ some k → id ≡ next_of k p.conn → id < 2 ^ 62 → barred k p.conn id ≡ false
      → seat (held id (first k)) p.row ≡ some row → call (open' id) p ≡ with (gave done) (spend k p.conn) row
  unfolding call alive
  open_call k id p row a e n l b q = ap (λ d. alive d p (opening-at id (kind_of id) p)) a ∙ ap (λ o. opening-at id o p) e ∙ opens_at k id p row n l b q

  if : (p : Pair M) (l : Ledger) (id : ℕ) → Sound p → Tallies p l → MayOpen l id → (call (open' id) p).answer ≡ gave done
  unfolding with
  if p l id i t y =
      let k = y.kind in
      let r = seat_room (held id (first k)) p.row (omega (arith, y.room, t.busy, i.size)) in
      ap (λ x. x.answer) (open_call k id p r.0 (sym t.dead ∙ y.alive) y.is (y.next ∙ sym (next_same k p l t)) y.low (barred_same k p l id t ∙ y.clear) r.1)

  -- OPENING EXACTLY
  pub opening_exactly : (id : ℕ) (cs : List (Call M)) → ((call (open' id) (run fresh cs)).answer ≡ gave done) ↔ MayOpen (ledger (trace fresh cs)) id
  opening_exactly id cs =
      let p = run fresh cs in
      let l = ledger (trace fresh cs) in
      let i = sound_run cs fresh sound_fresh in
      ((λ e. only_if p (call (open' id) p).after l id (call (open' id) p).answer i (tallies cs) e (went (open' id) p)), (λ y. if p l id i (tallies cs) y))
