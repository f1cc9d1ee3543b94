-- Pieces that are read or written one after the other.
use Rattle.std.specs.Prelude.{◌≡◌, refl, ℕ, ◌+◌, ◌*◌, ◌^◌, ◌<◌, ◌≤◌, Result, Ok, List, [], ◌∷◌, length}
use Rattle.std.proofs.Common.{ap, arith}
use Rattle.mb_port.specs.Routine.{Call, Read, Write, Routine, failing, read, write}
use Rattle.mb_port.specs.Pieces.{split_of}
use Rattle.mb_port.specs.declared.types.Space.{Space}
use Rattle.mb_port.specs.declared.types.Piece.{Piece}
use Rattle.mb_port.specs.declared.types.Fault.{Fault}
use Rattle.law_routines.specs.Refusal.{Fact}
use Rattle.law_routines.specs.Tree.{tree_of}
use Rattle.law_routines.proofs.Told.{tells_ok, tells_bind, tells_failing, tells_weaker, tells_read, tells_write}
use Rattle.mb_ea.specs.Reading.{read_pieces_of, refused_in, read_cut_of, read_operand_of}
use Rattle.mb_frames.specs.declared.pend.Pend.{Pend}
use Rattle.mb_frames.specs.AccessFields.{piece_of}
use Rattle.mb_writes.specs.declared.ends.WriteFault.{WriteFault}
use Rattle.mb_writes.specs.Writing.{pending_of, write_fault_at, write_pieces_of, write_operand_of}
use Rattle.law_tells.specs.Guarded.{Guarded, Guards, Goes, IsReading, quiet}
use Rattle.law_tells.specs.Left.{Answered, AreOwn, IsRest, SameCalls, Resumes, here, later, Telling}
use Rattle.law_tells.proofs.Resumed.{resumes_then}
use Rattle.law_tells.proofs.Apart.{ApartFrom, Spread, ArePlaced, split_placed, pending_own, pending_few, pending_spread}

-- ---- reading

-- the bus, where reading keeps one more fact
noting : {S : Type 0} → Guarded S → (S → Type 0) → Guarded S
noting x K = record x { unwritten = λ s. x.unwritten s × K s }

noting_guards : {S : Type 0} (x : Guarded S) (space : Space) → Guards x space → (K : S → Type 0)
    → ((c : Call) (s : S) → IsReading c → Goes x c s → K s → K ((x.bus c s).1)) → Guards (noting x K) space
unfolding noting
noting_guards x space g K keep = record {
  refuses = g.refuses;
  opens = g.opens;
  fetches = g.fetches;
  reads = g.reads;
  writes = g.writes;
  reads_lines = g.reads_lines;
  writes_lines = g.writes_lines;
  probes = g.probes;
  words = g.words;
  lines = g.lines;
  line_faults = g.line_faults;
  still = λ c s r go u. (g.still c s r go u.0, keep c s r go u.1);
  reads_keep = g.reads_keep;
  writes_keep = g.writes_keep;
  read_again = g.read_again;
  written_again = g.written_again;
}

-- where a read part is refused: nothing was written, and the rest resumes the part
abbrev pub PartLeft : {S A E : Type 0} → Guarded S → (E → Fault) → Routine (Result A E) → Fact S A E
PartLeft x fault_of whole rest t e =
    Answered x rest t (fault_of e) × x.unwritten t × Resumes (λ c answer. x.stands c answer t) (tree_of whole) (tree_of rest)

pub pieces_tell : {S : Type 0} (x : Guarded S) (space : Space) (g : Guards x space) (pieces : List Piece) (value : ℕ) → ArePlaced pieces
    → let m = read_pieces_of space pieces value in Telling x (quiet x) m (PartLeft x (λ fault. fault) m) (λ v s. quiet x s)
unfolding noting
pieces_tell x space g [] value are = tells_ok value (λ s q. q)
pieces_tell {S} x space g (p ∷ ps) value are =
    tells_bind {mid = λ v s. quiet x s × x.stands (Read space p) (Ok v) s} (read space p) (λ v. read_pieces_of space ps (value * 256 ^ p.len + v))
    (tells_read g.refuses space p (record {
      lawfully = λ s q. g.reads p s q.0 are.0;
      well = λ s v q yes e.
          let go : Goes x (Read space p) s = (q.0, g.reads p s q.0 are.0, yes) in
          ((g.opens.call (Read space p) s q.0 go.1, g.still (Read space p) s tt go q.1), g.read_again p v s go e);
      refused = λ s u fault q no e same. ((Read space p, refl, ap (λ r. r.0) e), q.1, here);
    }))
    (λ v.
    let K : S → Type 0 = λ s. x.stands (Read space p) (Ok v) s in
    let more = pieces_tell (noting x K) space
    (noting_guards x space g K (λ c s r go k. g.reads_keep c s (Read space p) (Ok v) r go k)) ps (value * 256 ^ p.len + v) are.1 in
    tells_weaker (read_pieces_of space ps (value * 256 ^ p.len + v)) more (λ s q. (q.0.0, (q.0.1, q.1)))
    (λ rest t e told. (told.0, told.1.0, later (Read space p) (Ok v) told.1.1 told.2))
    (λ a t q. (q.0, q.1.0)))

cut_tells : {S : Type 0} (x : Guarded S) (space : Space) (g : Guards x space) (at len : ℕ) → at < 2 ^ 32
    → let m = read_cut_of space at len in Telling x (quiet x) m (PartLeft x (λ fault. fault) m) (λ v s. quiet x s)
cut_tells x space g at len h = pieces_tell x space g (split_of at len) 0 (split_placed at len h)

-- an operand that is read
pub operand_tells : {S : Type 0} (x : Guarded S) (space : Space) (g : Guards x space) (at len : ℕ) → at < 2 ^ 32
    → let m = read_operand_of space at len in Telling x (quiet x) m (PartLeft x (λ refused. refused.fault) m) (λ v s. quiet x s)
unfolding read_operand_of
operand_tells x space g at len h =
    tells_failing (refused_in at) (read_cut_of space at len)
    (tells_weaker (read_cut_of space at len) (cut_tells x space g at len h) (λ s q. q)
    (λ rest t e told. (told.0, told.1, resumes_then _ told.2)) (λ a t q. q))

-- ---- writing

-- writing each of these keeps a fact
KeptBy : {S : Type 0} → Guarded S → Space → (S → Type 0) → List Pend → Type 0
KeptBy x space K [] = Unit {0}
KeptBy {S} x space K (p ∷ ps) =
    ((s : S) → Goes x (Write space (piece_of p) p.value) s → K s → K ((x.bus (Write space (piece_of p) p.value) s).1))
    × KeptBy x space K ps

-- what stands of a piece is such a fact of pieces that are apart from it
kept_apart : {S : Type 0} (x : Guarded S) (space : Space) (g : Guards x space) (K : S → Type 0) (p : Piece) (value : ℕ) (ps : List Pend)
    → KeptBy x space K ps → ApartFrom p ps → KeptBy x space (λ s. K s × x.stands (Write space p value) (Ok tt) s) ps
unfolding KeptBy
kept_apart x space g K p value [] keep apart = tt
kept_apart x space g K p value (q ∷ qs) keep apart = (
  λ s go k. (keep.0 s go k.0, g.writes_keep p (piece_of q) value q.value s apart.0 go k.1),
  kept_apart x space g K p value qs keep.1 apart.1,
)

-- where the writing of pieces is refused: the rest is to write those that the fault names, and it resumes the writing
abbrev pub PutLeft : {S : Type 0} → Guarded S → Space → ℕ → Routine (Result (Unit {0}) WriteFault) → Fact S (Unit {0}) WriteFault
PutLeft x space first whole rest t refused = Answered x rest t refused.fault
    × (refused.first ≡ first) × SameCalls rest (write_pieces_of space refused.first refused.rest.items)
    × Resumes (λ c answer. x.stands c answer t) (tree_of whole) (tree_of rest) × IsRest refused.rest.items

all_tell : {S : Type 0} (x : Guarded S) (space : Space) (g : Guards x space) (K : S → Type 0) (first : ℕ) (ps : List Pend)
    → AreOwn ps → length ps ≤ 3 → Spread ps → KeptBy x space K ps
    → let m = write_pieces_of space first ps in
    Telling x (λ s. x.serving s × K s) m (λ rest t e. PutLeft x space first m rest t e × K t) (λ done s. x.serving s × K s)
unfolding KeptBy
all_tell x space g K first [] are few spread keep = tells_ok tt (λ s q. q)
all_tell {S} x space g K first (p ∷ ps) are few spread keep =
    tells_bind {mid = λ done s. x.serving s × K s × x.stands (Write space (piece_of p) p.value) (Ok tt) s}
    (failing (write_fault_at first (p ∷ ps)) (write space (piece_of p) p.value)) (λ done. write_pieces_of space first ps)
    (tells_failing (write_fault_at first (p ∷ ps)) (write space (piece_of p) p.value)
    (tells_write g.refuses space (piece_of p) p.value (record {
      lawfully = λ s q. g.writes (piece_of p) p.value s q.0 are.0.placed;
      well = λ s done q yes e.
          let go : Goes x (Write space (piece_of p) p.value) s = (q.0, g.writes (piece_of p) p.value s q.0 are.0.placed, yes) in
          (g.opens.call (Write space (piece_of p) p.value) s q.0 go.1, keep.0 s go q.1, g.written_again (piece_of p) p.value s go e);
      refused = λ s u fault q no e same.
          (((Write space (piece_of p) p.value, refl, ap (λ r. r.0) e), refl, refl, here, record { some = omega arith; few = few; own = are }), q.1);
    })))
    (λ done.
    tells_weaker (write_pieces_of space first ps)
    (all_tell x space g (λ s. K s × x.stands (Write space (piece_of p) p.value) (Ok tt) s) first ps are.1 (omega arith) spread.1
    (kept_apart x space g K (piece_of p) p.value ps keep.1 spread.0))
    (λ s q. (q.0, (q.1, q.2)))
    (λ rest t e told. ((told.0.0, told.0.1, told.0.2, later (Write space (piece_of p) p.value) (Ok tt) told.1.1 told.0.3, told.0.4), told.1.0))
    (λ a t q. (q.0, q.1.0)))

-- nothing is to be kept
kept_none : {S : Type 0} (x : Guarded S) (space : Space) (ps : List Pend) → KeptBy x space (λ s. Unit {0}) ps
unfolding KeptBy
kept_none x space [] = tt
kept_none x space (p ∷ ps) = (λ s go k. tt, kept_none x space ps)

-- pieces that are written
pub pending_tell : {S : Type 0} (x : Guarded S) (space : Space) (g : Guards x space) (first : ℕ) (ps : List Pend) → AreOwn ps → length ps ≤ 3 → Spread ps
    → let m = write_pieces_of space first ps in Telling x x.serving m (PutLeft x space first m) (λ done s. x.serving s)
pending_tell x space g first ps are few spread =
    tells_weaker (write_pieces_of space first ps) (all_tell x space g (λ s. Unit {0}) first ps are few spread (kept_none x space ps))
    (λ s q. (q, tt)) (λ rest t e told. told.0) (λ a t q. q.0)

-- an operand that is written
pub put_tells : {S : Type 0} (x : Guarded S) (space : Space) (g : Guards x space) (at len value : ℕ) → at < 2 ^ 32
    → let m = write_operand_of space at len value in Telling x x.serving m (PutLeft x space at m) (λ done s. x.serving s)
unfolding write_operand_of
put_tells x space g at len value h =
    pending_tell x space g at (pending_of at len value) (pending_own at len value h) (pending_few at len value) (pending_spread at len value)
