-- What a connection keeps of its one-way streams: the mirror of the control stream's own state, and which streams have come. Assumes nothing.
use Rattle.std.specs.Prelude.{ℕ, zero, suc, ◌-◌, min, List, [], true, false, ltb, eqb, length, take, replicate}
use Rattle.std.proofs.lemmas.List.Edits.{sets}
use Rattle.rules.specs.Control.{Control, unset, set}
use Rattle.rules.specs.OneWay.{encoder, decoder}
use Rattle.meaning.specs.Machine.{State, in_type, in_length, in_payload, due}
use Rattle.meaning.specs.OneWayFeed.{OneState, in_stream_type, in_control, in_qpack, in_skipped}
use Rattle.record.specs.Row.{is_stated, length_of, place_in}
use Rattle.control.specs.declared.Kept.{Kept}
use Rattle.control.specs.Judged.{push_id}
use Rattle.control.specs.Rules.{control_of}
use Rattle.oneway.specs.declared.Seen.{Seen}
use Rattle.oneway.specs.declared.calls.Side.{Side}
use Rattle.frames.specs.Modes.{IN-SETTINGS, UNSET}

-- ---- what a control stream has said

abbrev pub nothing_said : Kept
nothing_said = record { set = 0; limited = 0; size = 0; capacity = 0; blocked = 0; goaways = 0; goaway = push_id 0; pushes = 0; push = push_id 0 }

-- the numbers of its place: those that would say nothing are 0
unfoldable pub kept_numbers : Control → Kept
kept_numbers unset = nothing_said
kept_numbers (set s g m) = record {
  set = 1;
  limited = is_stated s.section_size;
  size = length_of s.section_size;
  capacity = s.table_capacity;
  blocked = s.blocked_streams;
  goaways = is_stated g;
  goaway = push_id (length_of g);
  pushes = is_stated m;
  push = push_id (length_of m);
}

-- what is kept, of a control stream in this phase: its SETTINGS have come if it is behind UNSET
abbrev pub kept_in : (phase : ℕ) → Kept → Kept
kept_in phase k = record {
  set = phase - UNSET;
  limited = k.limited;
  size = k.size;
  capacity = k.capacity;
  blocked = k.blocked;
  goaways = k.goaways;
  goaway = k.goaway;
  pushes = k.pushes;
  push = k.push;
}

-- ---- a payload that is not complete

-- what a state has kept of one
unfoldable pub sofar_in : {P : Type 0} → State P → List ℕ
sofar_in (in_type g p) = []
sofar_in (in_length t g p) = []
sofar_in (in_payload u k left p) = k
sofar_in (due t p) = []

-- its bytes, and then zeros; a longer payload is refused at its header
abbrev pub bytes_of : List ℕ → List ℕ
bytes_of k = sets (replicate 256 0) 0 k

-- how many are held: none outside a kept payload, and no more than fit beside those to come
unfoldable pub held_in : (mode acc held : ℕ) → ℕ
held_in mode acc held = elim (ltb mode IN-SETTINGS) [ true ↦ 0 | false ↦ min held (256 - acc) ]

-- ---- THE SIDE that a stream in this state leaves

abbrev pub side_of : (control encoder decoder : ℕ) → Kept → (held : ℕ) → (bytes : List ℕ) → Side
side_of c e d k h b = record { control = c; encoder = e; decoder = d; kept = k; held = h; bytes = b }

-- which of those that come once have come
abbrev pub seen_in : Side → Seen
seen_in d = record { control = d.control; encoder = d.encoder; decoder = d.decoder }

-- no one-way stream has come yet
abbrev pub fresh_side : Side
fresh_side = side_of 0 0 0 nothing_said 0 (replicate 256 0)

unfoldable pub side_after : Side → OneState → Side
side_after d (in_stream_type g) = d
side_after d (in_control s) = let k = take 256 (sofar_in s) in side_of 1 d.encoder d.decoder (kept_numbers (place_in s)) (length k) (bytes_of k)
side_after d (in_qpack encoder) = side_of d.control 1 d.decoder d.kept d.held d.bytes
side_after d (in_qpack decoder) = side_of d.control d.encoder 1 d.kept d.held d.bytes
side_after d in_skipped = d

-- ---- the same by numbers

-- of a stream of this kind that is no control stream
unfoldable pub bare_side : Side → (kind : ℕ) → Side
bare_side d (suc (suc (suc (suc zero)))) = side_of d.control 1 d.decoder d.kept d.held d.bytes
bare_side d (suc (suc (suc (suc (suc zero))))) = side_of d.control d.encoder 1 d.kept d.held d.bytes
bare_side d zero = d
bare_side d (suc zero) = d
bare_side d (suc (suc zero)) = d
bare_side d (suc (suc (suc zero))) = d
bare_side d (suc (suc (suc (suc (suc (suc n)))))) = d

unfoldable pub side_by : (kind phase : ℕ) → Side → (sofar : List ℕ) → Side
side_by kind phase d k = elim (eqb kind 3) [ true ↦ side_of 1 d.encoder d.decoder (kept_numbers (control_of (kept_in phase d.kept))) (length k) (bytes_of k) | false ↦ bare_side d kind ]

-- ---- laws

unfoldable pub flag_of : ℕ → ℕ
flag_of zero = 0
flag_of (suc n) = 1

unfoldable pub number_if : (has x : ℕ) → ℕ
number_if zero x = 0
number_if (suc h) x = x
