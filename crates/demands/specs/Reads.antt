-- DEMAND 2 of one request stream by itself: any sequence of accepted feeds and sections comes to the reading of the bytes consumed and the
-- blocks taken (meaning, Feeds), for the streams of document 01. Assumes nothing.
use Rattle.std.specs.Prelude.{◌≡◌, ℕ, zero, suc, ◌+◌, ◌-◌, ◌≤◌, Bool, true, false, length, take, drop}
use Rattle.std.proofs.Math.Path.{refl, sym, ap, ap₂}
use Rattle.std.proofs.Common.{◌∙◌, subst, zero-add, arith, length-append}
use Rattle.std.proofs.Math.Nat.{add-zero, add_assoc}
use mathlib.Core.List.{List, [], ◌∷◌, ◌++◌, map, append_assoc, append-nil, map-append}
use Rattle.std.proofs.Math.Seq.{take-nil, take-append_seam}
use Rattle.rules.specs.Numbers.{StreamFault, Code, of_stream}
use Rattle.rules.specs.Block.{Section, lines}
use Rattle.rules.specs.Reading as R
use Rattle.rules.specs.Reading.{End, complete, lacking, Grammar, Saying, header, refused, section_byte, content_byte, frame_kept, contents, section_bytes_of}
use Rattle.rules.specs.Message.{Message, opening}
use Rattle.rules.specs.Request.{document, request}
use Rattle.meaning.specs.Machine as M
use Rattle.meaning.specs.Feed as F
use Rattle.meaning.specs.Feeds.{unheaded, Within, Call, feed_call, give_call, takes, Done, calls, Came, verdict_of_done, CallsRead}
use Rattle.meaning.proofs.Feeds.{feed_runs, calls_come, calls_read}
use Rattle.meaning.proofs.EveryFeed.{feed_silent}
use Rattle.meaning.specs.First.{Inside, place_of}
use Rattle.meaning.proofs.First.{last_word, first_fault, end_rule, early_inside}
use Rattle.rules.specs.Calls.{Event, part, content_in, section_in, notices_in, qpack_in, goes, faults, sound, unsound}
use Rattle.rules.specs.Shown.{Shown, nothing, plus_feed, plus_bytes, plus_section}
use Rattle.traces.specs.Story.{Reached, at_first, by_feed, by_section}
use Rattle.traces.specs.Demands.{bad, waits, Shows, verdict_of, Struck, NoFault, Reads}
use Rattle.demands.specs.Streams.{stream_code, is_due, event_of, fed_by, section_of, given_by, ended_by, streams}
use Rattle.demands.specs.Codes.{is_of_stream}
use Rattle.demands.specs.InPlace.{Placed, feed_placed, given_placed, given_of_stream}
use Rattle.demands.specs.Reading.{sections_of, reading_of, verdict_by, reading}

-- ---- calls behind calls

module _ (G : Grammar) where
  unfoldable joined : (d e : Done G.P) → Done G.P
  joined d e = record { bytes = d.bytes ++ e.bytes; sections = d.sections ++ e.sections; shown = d.shown ++ e.shown; heads = d.heads + e.heads; after = e.after }

  calls_append : (o : M.Outcome G.P) (cs ds : List Call) → calls G o (cs ++ ds) ≡ joined (calls G o cs) (calls G (calls G o cs).after ds)
  unfolding calls joined
  calls_append o [] ds = let z = calls G o ds in ap (λ h. record { bytes = z.bytes; sections = z.sections; shown = z.shown; heads = h; after = z.after }) (omega arith)
  calls_append (M.dies code) (c ∷ cs) ds = calls_append (M.dies code) cs ds
  calls_append (M.lives s) (feed_call allow piece ∷ cs) ds =
      let f = F.feed G allow s piece in
      let i = calls_append f.after cs ds in
      let x = calls G f.after cs in
      let y = calls G x.after ds in
      rw (i, append_assoc (take f.used piece) x.bytes y.bytes, append_assoc (F.shows f.event f.used piece) x.shown y.shown, add_assoc f.heads x.heads y.heads) refl
  calls_append (M.lives s) (give_call block ∷ cs) ds =
      let i = calls_append (M.given G block s) cs ds in
      let x = calls G (M.given G block s) cs in
      let y = calls G x.after ds in
      rw (i, append_assoc (takes block s) x.sections y.sections) refl

-- ---- content and section bytes among what is said

contents_append : (x y : List Saying) → contents (x ++ y) ≡ contents x ++ contents y
unfolding contents
contents_append [] y = refl
contents_append (header h u ∷ x) y = contents_append x y
contents_append (refused h ∷ x) y = contents_append x y
contents_append (section_byte b ∷ x) y = contents_append x y
contents_append (content_byte b ∷ x) y = ap (λ l. b ∷ l) (contents_append x y)
contents_append (frame_kept k p ∷ x) y = contents_append x y

sections_append : (x y : List Saying) → section_bytes_of (x ++ y) ≡ section_bytes_of x ++ section_bytes_of y
unfolding section_bytes_of
sections_append [] y = refl
sections_append (header h u ∷ x) y = sections_append x y
sections_append (refused h ∷ x) y = sections_append x y
sections_append (section_byte b ∷ x) y = ap (λ l. b ∷ l) (sections_append x y)
sections_append (content_byte b ∷ x) y = sections_append x y
sections_append (frame_kept k p ∷ x) y = sections_append x y

-- headers carry neither
unheaded_carries : (x : List Saying) → (contents (unheaded x) ≡ contents x) × (section_bytes_of (unheaded x) ≡ section_bytes_of x)
unfolding contents section_bytes_of unheaded
unheaded_carries [] = (refl, refl)
unheaded_carries (header h u ∷ x) = unheaded_carries x
unheaded_carries (refused h ∷ x) = unheaded_carries x
unheaded_carries (section_byte b ∷ x) = let i = unheaded_carries x in (i.0, ap (λ l. b ∷ l) i.1)
unheaded_carries (content_byte b ∷ x) = let i = unheaded_carries x in (ap (λ l. b ∷ l) i.0, i.1)
unheaded_carries (frame_kept k p ∷ x) = unheaded_carries x

of_content : (p : List ℕ) → (contents (map content_byte p) ≡ p) × (section_bytes_of (map content_byte p) ≡ [])
unfolding contents section_bytes_of
of_content [] = (refl, refl)
of_content (b ∷ p) = let i = of_content p in (ap (λ l. b ∷ l) i.0, i.1)

of_section : (p : List ℕ) → (contents (map section_byte p) ≡ []) × (section_bytes_of (map section_byte p) ≡ p)
unfolding contents section_bytes_of
of_section [] = (refl, refl)
of_section (b ∷ p) = let i = of_section p in (i.0, ap (λ l. b ∷ l) i.1)

-- ---- an event names the part of the piece that it shows

part_ends : (l a n : ℕ) (xs : List ℕ) → n ≡ l + a → take l (drop a xs) ≡ drop a (take n xs)
part_ends l zero n xs e = let q : n ≡ l = omega arith in rw q
part_ends l (suc a) zero xs e = absurd (omega arith)
part_ends l (suc a) (suc n) [] e = take-nil l
part_ends l (suc a) (suc n) (x ∷ xs) e = part_ends l a n xs (omega arith)

pub part_is : (len u : ℕ) (piece : List ℕ) → len ≤ u → part (u - len) len piece ≡ drop (u - len) (take u piece)
unfolding part
part_is len u piece w = part_ends len (u - len) u piece (omega arith)

event_carries : (e : F.Event) (u : ℕ) (piece : List ℕ) → Within e u
    → (content_in (event_of u e) piece ≡ contents (F.shows e u piece)) × (section_in (event_of u e) piece ≡ section_bytes_of (F.shows e u piece))
unfolding content_in section_in event_of F.shows
event_carries F.quiet u piece w = unfold contents section_bytes_of in (refl, refl)
event_carries (F.section_bytes len last) u piece w = let i = of_section (drop (u - len) (take u piece)) in (sym i.0, part_is len u piece w ∙ sym i.1)
event_carries (F.content_bytes len) u piece w = let i = of_content (drop (u - len) (take u piece)) in (part_is len u piece w ∙ sym i.0, sym i.1)
event_carries (F.taken k payload) u piece w = unfold contents section_bytes_of in (refl, refl)

-- ---- what a stream shows is what some calls came to

abbrev G : Grammar
G = request document

abbrev done_of : Shown streams → List Saying → M.Outcome Message → Done Message
done_of s says o = record { bytes = s.bytes; sections = sections_of s.sections; shown = says; heads = s.heads; after = o }

record Been (s : Shown streams) (o : M.Outcome Message) : Type 0 where
  made : List Call
  says : List Saying
  came : calls G (M.lives (M.between opening)) made ≡ done_of s says o
  content : s.content ≡ contents says
  blocks : s.blocks ≡ section_bytes_of says

-- one call more
been_then : (s : Shown streams) (o : M.Outcome Message) (b : Been s o) (c : Call)
    → calls G (M.lives (M.between opening)) (b.made ++ (c ∷ [])) ≡ joined G (done_of s b.says o) (calls G o (c ∷ []))
been_then s o b c = calls_append G (M.lives (M.between opening)) b.made (c ∷ []) ∙ ap (λ x. joined G x (calls G x.after (c ∷ []))) b.came

been_first : Been nothing (M.lives (M.between opening))
unfolding nothing
been_first = record { made = []; says = []; came = unfold calls sections_of in refl; content = unfold contents in refl; blocks = unfold section_bytes_of in refl }

been_fed : (s : Shown streams) (r : M.State Message) (allow : ℕ) (piece : List ℕ) → Been s (M.lives r)
    → let f = F.feed G allow r piece in Been (plus_feed f.used f.heads (event_of f.used f.event) piece s) f.after
unfolding plus_feed
been_fed s r allow piece b =
    let f = F.feed G allow r piece in
    let says = F.shows f.event f.used piece in
    let c = event_carries f.event f.used piece (feed_runs G allow 0 r piece).within in
    record {
      made = b.made ++ (feed_call allow piece ∷ []);
      says = b.says ++ says;
      came = been_then s (M.lives r) b (feed_call allow piece)
          ∙ unfold joined calls in (rw (append-nil (take f.used piece), append-nil (sections_of s.sections), append-nil says, add-zero f.heads) refl);
      content = ap₂ ◌++◌ b.content c.0 ∙ sym (contents_append b.says says);
      blocks = ap₂ ◌++◌ b.blocks c.1 ∙ sym (sections_append b.says says);
    }

takes_due : (block : Section) (r : M.State Message) → is_due r ≡ true → takes block r ≡ block ∷ []
unfolding takes is_due
takes_due block (M.in_type g p) d = cc
takes_due block (M.in_length t g p) d = cc
takes_due block (M.in_payload u k left p) d = cc
takes_due block (M.due t p) d = refl

been_given : (s : Shown streams) (r : M.State Message) (block : List ℕ) → is_due r ≡ true → Been s (M.lives r)
    → Been (plus_section block s) (M.given G (section_of (lines block)) r)
unfolding plus_section
been_given s r block d b =
    let x = section_of (lines block) in
    record {
      made = b.made ++ (give_call x ∷ []);
      says = b.says;
      came = been_then s (M.lives r) b (give_call x)
          ∙ unfold joined calls sections_of in (rw (takes_due x r d, append-nil s.bytes, append-nil b.says, add-zero s.heads, map-append (λ b. section_of (lines b)) s.sections (block ∷ [])) refl);
      content = b.content;
      blocks = b.blocks;
    }

-- ---- what they come to is the reading

been_read : (s : Shown streams) (o : M.Outcome Message) (b : Been s o) → CallsRead G (done_of s b.says o)
been_read s o b = subst (CallsRead G) b.came (calls_read G b.made)

shows_of : (s : Shown streams) (o : M.Outcome Message) → Been s o → Shows reading s
shows_of s o b =
    let w = been_read s o b in
    let u = unheaded_carries (reading_of s.bytes s.sections).said in
    record {
      content = b.content ∙ ap contents w.shown ∙ u.0;
      blocks = b.blocks ∙ ap section_bytes_of w.shown ∙ u.1;
      heads = w.heads;
    }

verdict_is : (s : Shown streams) (o : M.Outcome Message) → Been s o → reading.verdict s.bytes s.sections ≡ verdict_by (M.finished G (length s.bytes) (M.settled G (length s.bytes) [] o))
verdict_is s o b = sym (ap verdict_by (unfold verdict_of_done in (been_read s o b).verdict))

verdict_due : (n : ℕ) (r : M.State Message) → is_due r ≡ true → verdict_by (M.finished G n (M.settled G n [] (M.lives r))) ≡ waits
unfolding is_due M.settled M.supplied M.finished verdict_by
verdict_due n (M.in_type g p) d = cc
verdict_due n (M.in_length t g p) d = cc
verdict_due n (M.in_payload u k left p) d = cc
verdict_due n (M.due t p) d = refl

verdict_ended : (n : ℕ) (e : End) → verdict_by (R.ended e n) ≡ verdict_of (ended_by (R.ended e 0))
unfolding R.ended verdict_by verdict_of ended_by
verdict_ended n complete = refl
verdict_ended n (lacking code) = refl

verdict_end : (n : ℕ) (r : M.State Message) → is_due r ≡ false → verdict_by (M.finished G n (M.settled G n [] (M.lives r))) ≡ verdict_of (ended_by (M.finish G 0 r))
unfolding is_due M.settled M.supplied M.finished M.finish verdict_by verdict_of ended_by
verdict_end n (M.in_type M.fresh p) d = unfold verdict_by verdict_of ended_by in verdict_ended n (G.end p)
verdict_end n (M.in_type (M.need k v) p) d = refl
verdict_end n (M.in_length t g p) d = refl
verdict_end n (M.in_payload u k left p) d = refl
verdict_end n (M.due t p) d = cc

-- ---- a fault of the bytes, and none

-- whatever sections would follow
been_runs : (s : Shown streams) (o : M.Outcome Message) → Been s o → (bl : List Section)
    → M.settled G (length s.bytes) bl o ≡ M.run G 0 (M.fresh_run G (sections_of s.sections ++ bl)) s.bytes
unfolding M.settled M.supplied
been_runs s o b bl =
    let first = M.lives (M.between opening) in
    let c : Came G 0 first (done_of s b.says o) = subst (Came G 0 first) b.came (calls_come G 0 first b.made) in
    rw (zero-add (length s.bytes)) at (c.state bl)

dead_inside : (s : Shown streams) (code : Code) → Been s (M.dies code) → (bl : List Section) → Inside G (sections_of s.sections ++ bl) s.bytes (R.fault code (length s.bytes))
unfolding Inside M.settled
dead_inside s code b bl = sym (been_runs s (M.dies code) b bl)

dead_verdict : (s : Shown streams) (code : Code) → Been s (M.dies code) → (others : List (List ℕ)) (more : List ℕ)
    → (reading_of (s.bytes ++ more) (s.sections ++ others)).verdict ≡ R.fault code (length s.bytes)
unfolding sections_of
dead_verdict s code b others more =
    let bl = sections_of others in
    rw (map-append (λ b. section_of (lines b)) s.sections others) (last_word G (sections_of s.sections ++ bl) s.bytes more (R.fault code (length s.bytes)) (dead_inside s code b bl)).0

dead_struck : (s : Shown streams) (code : Code) → Been s (M.dies code) → Struck reading code s.bytes s.sections
unfolding verdict_by place_of
dead_struck s code b = λ others more. (let e = dead_verdict s code b others more in (ap verdict_by e, ap place_of e))

still_reads : (n : ℕ) (r : M.State Message) → is_due r ≡ false → M.settled G n [] (M.lives r) ≡ M.reads [] r
unfolding is_due M.settled M.supplied
still_reads n (M.in_type g p) d = refl
still_reads n (M.in_length t g p) d = refl
still_reads n (M.in_payload u k left p) d = refl
still_reads n (M.due t p) d = cc

been_reads : (s : Shown streams) (r : M.State Message) → Been s (M.lives r) → is_due r ≡ false → M.run G 0 (M.fresh_run G (sections_of s.sections)) s.bytes ≡ M.reads [] r
been_reads s r b d = sym (rw (append-nil (sections_of s.sections)) at (been_runs s (M.lives r) b [])) ∙ still_reads (length s.bytes) r d

-- a fault of the end is at the end
ended_place : (n : ℕ) (k : Code) (e : End) → verdict_by (R.ended e n) ≡ bad k → place_of (R.ended e n) ≡ n
unfolding R.ended verdict_by place_of
ended_place n k complete q = let z : ◌≡◌ {A = ℕ} 0 1 = cc in absurd (omega arith)
ended_place n k (lacking code) q = refl

finish_place : (n : ℕ) (k : Code) (r : M.State Message) → verdict_by (M.finish G n r) ≡ bad k → place_of (M.finish G n r) ≡ n
unfolding M.finish
finish_place n k (M.in_type M.fresh p) q = ended_place n k (G.end p) q
finish_place n k (M.in_type (M.need j v) p) q = unfold place_of in refl
finish_place n k (M.in_length t g p) q = unfold place_of in refl
finish_place n k (M.in_payload u j left p) q = unfold place_of in refl
finish_place n k (M.due t p) q = unfold place_of in refl

end_at : (s : Shown streams) (r : M.State Message) (k : Code) → Been s (M.lives r) → is_due r ≡ false → reading.verdict s.bytes s.sections ≡ bad k → reading.place s.bytes s.sections ≡ length s.bytes
end_at s r k b d q =
    let e = end_rule G (sections_of s.sections) s.bytes (been_reads s r b d) in
    ap place_of e ∙ finish_place (length s.bytes) k r (sym (ap verdict_by e) ∙ q)

fault_of : (k : Code) (v : R.Verdict) → verdict_by v ≡ bad k → (code : Code) × (v ≡ R.fault code (place_of v))
unfolding verdict_by place_of
fault_of k R.whole q = let z : ◌≡◌ {A = ℕ} 0 1 = cc in absurd (omega arith)
fault_of k (R.fault code place) q = (code, refl)
fault_of k (R.waits place) q = let z : ◌≡◌ {A = ℕ} 0 1 = cc in absurd (omega arith)

-- one byte more would move the place of a fault of the end
none_reads : (s : Shown streams) (r : M.State Message) → Been s (M.lives r) → is_due r ≡ false → NoFault reading s.bytes s.sections
unfolding Inside
none_reads s r b d = λ k p f. (
    let bl = sections_of s.sections in
    let x = s.bytes ++ (0 ∷ []) in
    let g = rw (append-nil s.bytes) at (f []) in
    let here : p ≡ length s.bytes = sym g.1 ∙ end_at s r k b d g.0 in
    let v = fault_of k (reading_of x s.sections).verdict (f (0 ∷ [])).0 in
    let w : (reading_of x s.sections).verdict ≡ R.fault v.0 (length s.bytes) = v.1 ∙ ap (R.fault v.0) ((f (0 ∷ [])).1 ∙ here) in
    let l = length-append s.bytes (0 ∷ []) in
    let i = early_inside G bl x v.0 (length s.bytes) w (omega arith) in
    let t = (first_fault G bl x v.0 (length s.bytes) i).there in
    let u : M.run G 0 (M.fresh_run G bl) s.bytes ≡ M.stuck (R.fault v.0 (length s.bytes)) = rw (take-append_seam s.bytes (0 ∷ [])) at t in
    let y = been_reads s r b d in
    let z : ◌≡◌ {A = ℕ} 0 1 = cc in
    omega arith)

none_struck : (s : Shown streams) (r : M.State Message) → Been s (M.lives r) → (d : Bool) → is_due r ≡ d → NoFault reading s.bytes s.sections
none_struck s r b true d = λ k p f. (
    let g = rw (append-nil s.bytes) at (f []) in
    let w : waits ≡ bad k = sym (verdict_is s (M.lives r) b ∙ verdict_due (length s.bytes) r d) ∙ g.0 in
    let z : ◌≡◌ {A = ℕ} 0 1 = cc in
    omega arith)
none_struck s r b false d = none_reads s r b d

-- ---- the answers of the machine, read back

pub fed_goes : (u₀ h₀ : ℕ) (e₀ : F.Event) (o : M.Outcome Message) {u h : ℕ} {e : Event} {r : M.State Message} → fed_by u₀ h₀ e₀ o ≡ goes u h e r
    → (o ≡ M.lives r) × (u₀ ≡ u) × (h₀ ≡ h) × (event_of u₀ e₀ ≡ e)
unfolding fed_by
fed_goes u₀ h₀ e₀ (M.lives s) q = (cc, cc, cc, cc)
fed_goes u₀ h₀ e₀ (M.dies code) q = let z : ◌≡◌ {A = ℕ} 0 1 = cc in absurd (omega arith)

fed_faults : (u₀ h₀ : ℕ) (e₀ : F.Event) (o : M.Outcome Message) {u h : ℕ} {k : Code} → fed_by u₀ h₀ e₀ o ≡ faults k u h
    → (code : Code) × (o ≡ M.dies code) × (u₀ ≡ u) × (h₀ ≡ h) × (code ≡ k)
unfolding fed_by
fed_faults u₀ h₀ e₀ (M.lives s) q = let z : ◌≡◌ {A = ℕ} 0 1 = cc in absurd (omega arith)
fed_faults u₀ h₀ e₀ (M.dies code) q = (code, refl, cc, cc, cc)

given_sound : (o : M.Outcome Message) {r : M.State Message} → given_by o ≡ sound r → o ≡ M.lives r
unfolding given_by
given_sound (M.lives s) q = cc
given_sound (M.dies code) q = let z : ◌≡◌ {A = ℕ} 0 1 = cc in absurd (omega arith)

given_unsound : (o : M.Outcome Message) {k : StreamFault} → given_by o ≡ unsound k → (code : Code) × (o ≡ M.dies code) × (stream_code code ≡ k)
unfolding given_by
given_unsound (M.lives s) q = let z : ◌≡◌ {A = ℕ} 0 1 = cc in absurd (omega arith)
given_unsound (M.dies code) q = (code, refl, cc)

-- ---- every stream that accepted feeds and sections lead to

placed : {s : Shown streams} {r : M.State Message} → Reached s r → Placed r
placed at_first = tt
placed (by_feed {r = r} {r' = r'} {allow = allow} {piece = piece} t d q) =
    let f = F.feed G allow r piece in feed_placed allow r (placed t) piece r' (fed_goes f.used f.heads f.event f.after q).0
placed (by_section {r = r} {r' = r'} {b = b} t d y q) =
    let x = section_of (lines b) in given_placed x r (placed t) r' (given_sound (M.given G x r) q)

been_goes : (s : Shown streams) (r r' : M.State Message) (allow u h : ℕ) (piece : List ℕ) (e : Event) → Been s (M.lives r) → streams.feed r allow piece ≡ goes u h e r'
    → Been (plus_feed u h e piece s) (M.lives r')
been_goes s r r' allow u h piece e b q =
    let f = F.feed G allow r piece in
    let g = fed_goes f.used f.heads f.event f.after q in
    rw (← g.1, ← g.2, ← g.3, ← g.0) (been_fed s r allow piece b)

been_sound : (s : Shown streams) (r r' : M.State Message) (block : List ℕ) → is_due r ≡ true → Been s (M.lives r) → streams.give r block ≡ sound r' → Been (plus_section block s) (M.lives r')
been_sound s r r' block d b q = let e = given_sound (M.given G (section_of (lines block)) r) q in rw (← e) (been_given s r block d b)

been : {s : Shown streams} {r : M.State Message} → Reached s r → Been s (M.lives r)
been at_first = been_first
been (by_feed {s = s} {r = r} {r' = r'} {allow = allow} {u = u} {h = h} {piece = piece} {e = e} t d q) = been_goes s r r' allow u h piece e (been t) q
been (by_section {s = s} {r = r} {r' = r'} {b = b} t d y q) = been_sound s r r' b d (been t) q

-- where the definition's machine is behind what such a stream has shown
pub runs_there : {s : Shown streams} {r : M.State Message} → Reached s r → (bl : List Section)
    → M.settled G (length s.bytes) bl (M.lives r) ≡ M.run G 0 (M.fresh_run G (sections_of s.sections ++ bl)) s.bytes
runs_there {s} {r} t bl = been_runs s (M.lives r) (been t) bl

-- a fault is silent, so the bytes up to it are all that it adds
been_dead : (s : Shown streams) (r : M.State Message) (allow u h : ℕ) (code : Code) (piece : List ℕ) → Been s (M.lives r) → let f = F.feed G allow r piece in
    f.after ≡ M.dies code → f.used ≡ u → f.heads ≡ h → Been (plus_bytes u h piece s) (M.dies code)
unfolding plus_bytes
been_dead s r allow u h code piece b e x y =
    let z = feed_silent G allow r piece code e in
    let w = rw (z, e, x, y) at (been_fed s r allow piece b) in
    unfold plus_feed event_of content_in section_in notices_in qpack_in in (rw (append-nil s.content, append-nil s.blocks, append-nil s.notices, append-nil s.qpack) at w)

-- DEMAND 2 OF ONE REQUEST STREAM BY ITSELF
pub reads : Reads reading
unfolding plus_bytes plus_section
reads = record {
  so_far = λ {s} {r} t. shows_of s (M.lives r) (been t);
  while_due = λ {s} {r} t d. verdict_is s (M.lives r) (been t) ∙ verdict_due (length s.bytes) r d;
  at_end = λ {s} {r} t d. verdict_is s (M.lives r) (been t) ∙ verdict_end (length s.bytes) r d;
  unhurt = λ {s} {r} t. none_struck s r (been t) (is_due r) refl;
  end_place = λ {s} {r} k t d q. end_at s r k (been t) d q;
  in_feed = λ {s} {r} allow u h piece k t d q. in_feed s r allow u h piece k (been t) q;
  at_section = λ {s} {r} b k t d y q. at_section s r b k (been t) (placed t) d q;
}
  where
    in_feed : (s : Shown streams) (r : M.State Message) (allow u h : ℕ) (piece : List ℕ) (k : Code) → Been s (M.lives r) → streams.feed r allow piece ≡ faults k u h
        → Shows reading (plus_bytes u h piece s) × Struck reading k (s.bytes ++ take u piece) s.sections
    in_feed s r allow u h piece k b q =
        let f = F.feed G allow r piece in
        let g = fed_faults f.used f.heads f.event f.after q in
        let v = been_dead s r allow u h g.0 piece b g.1 g.2 g.3 in
        let s' = plus_bytes u h piece s in
        (shows_of s' (M.dies g.0) v, rw (← g.4) (dead_struck s' g.0 v))

    at_section : (s : Shown streams) (r : M.State Message) (b : List ℕ) (k : StreamFault) → Been s (M.lives r) → Placed r → is_due r ≡ true → streams.give r b ≡ unsound k
        → Shows reading (plus_section b s) × Struck reading (of_stream k) s.bytes (s.sections ++ (b ∷ []))
    at_section s r b k w p d q =
        let x = section_of (lines b) in
        let g = given_unsound (M.given G x r) q in
        let v : Been (plus_section b s) (M.dies g.0) = rw g.1 at (been_given s r b d w) in
        let s' = plus_section b s in
        let c = is_of_stream g.0 (given_of_stream x r p g.0 g.1) in
        (shows_of s' (M.dies g.0) v, subst (λ c. Struck reading c s.bytes (s.sections ++ (b ∷ []))) (c ∙ ap of_stream g.2) (dead_struck s' g.0 v))
